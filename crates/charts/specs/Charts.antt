-- Paper 01, 'Charts (7.2-7.6)', and paper 02, C-12: a chart of three sums, of differences in hundredths of mg/m³. s is
-- what the setting has for the chart; only the adjustments are rounded, by the edition of the reading's block.
use Rattle.std.specs.Prelude.{Bool, true, false, ◌&&◌, ℕ, ◌+◌, ◌*◌, ltb, ℤ, pos, neg_ℤ, nat_abs, ◌-ℤ◌, ◌*ℤ◌}
use Rattle.std.specs.Prelude.{if◌then◌else◌}
use Rattle.charts.specs.Rounding.{near_of}
use Rattle.charts.specs.Sums.{empty, added}
use Rattle.charts.specs.declared.Sum.{Sum}
use Rattle.charts.specs.declared.Chart.{Chart}
use Rattle.charts.specs.declared.Alarms.{Alarms}

-- ---- what a reading adds to each sum; d is the reading less its reference

-- P, in thousandths
abbrev pub rising_term : ℕ → ℤ → ℤ
rising_term s d = pos 1000 *ℤ d -ℤ pos (501 * s)

-- M, in thousandths
abbrev pub falling_term : ℕ → ℤ → ℤ
falling_term s d = neg_ℤ (pos 1000 *ℤ d) -ℤ pos (501 * s)

-- V, in twentieths, from the step: d less the last difference
abbrev pub precision_term : ℕ → ℤ → ℤ
precision_term s step = pos 10 *ℤ (step *ℤ step) -ℤ pos (37 * (s * s))

-- ---- the limits, and what exceeds them

abbrev pub drift_limit : ℕ → ℕ
drift_limit s = 2850 * s

abbrev pub precision_limit : ℕ → ℕ
precision_limit s = 138 * (s * s)

-- An alarm stands where its sum is over the limit, not at it.
abbrev pub over : ℕ → Sum → Bool
over limit u = ltb limit u.value

-- The three alarms; all off before the first reset.
unfoldable pub alarms_of : Chart → ℕ → Alarms
alarms_of c s = record {
  rising = c.started && over (drift_limit s) c.rising;
  falling = c.started && over (drift_limit s) c.falling;
  precision = c.started && over (precision_limit s) c.precision;
}

-- By how much to adjust at a drift alarm, from the sum and its count n as the reading leaves them; 0 where they show
-- no alarm. (A sum over the limit has a count above 0, and the quotient is not negative, so that its magnitude is
-- itself.)
unfoldable pub adjustment_of : ℕ → ℕ → Sum → ℕ
adjustment_of edition s u =
    let asked : ℤ = near_of edition (pos (7 * (501 * s * u.count + u.value))) (pos (10000 * u.count)) in
    if over (drift_limit s) u then nat_abs asked else 0

-- ---- the chart

-- A chart that was never reset: all its figures are 0.
unfoldable pub blank : Chart
blank = record {
  started = false;
  readings = 0;
  last = pos 0;
  rising = empty;
  falling = empty;
  precision = empty;
  downward = 0;
  upward = 0;
}

-- After a reset the chart is started, and nothing of its figures is left.
unfoldable pub reset_of : Chart → Chart
reset_of c = record {
  started = true;
  readings = 0;
  last = pos 0;
  rising = empty;
  falling = empty;
  precision = empty;
  downward = 0;
  upward = 0;
}

-- A reading with difference d. `downward` is to be taken off (P), `upward` to be added (M).
unfoldable pub applied_of : Chart → ℕ → ℕ → ℤ → Chart
applied_of c edition s d =
    let P : Sum = added c.rising (rising_term s d) in
    let M : Sum = added c.falling (falling_term s d) in
    let W : Sum = added c.precision (precision_term s (d -ℤ c.last)) in
    record {
      started = c.started;
      readings = c.readings + 1;
      last = d;
      rising = P;
      falling = M;
      precision = W;
      downward = adjustment_of edition s P;
      upward = adjustment_of edition s M;
    }
