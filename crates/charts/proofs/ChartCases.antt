-- Paper 01, 'Cases': the starred cases 1 to 6, as facts of the chart's definitions in edition 1.
use Rattle.std.specs.Prelude.{◌≡◌, refl, true, false, List, [], ◌∷◌, map, ℕ, ℤ, pos}
use Rattle.charts.specs.Rounding.{odd, rounds_up_of, near_of}
use Rattle.charts.specs.Sums.{empty, added}
use Rattle.charts.specs.Charts.{alarms_of, adjustment_of, blank, reset_of, applied_of}
use Rattle.charts.specs.Readings.{after_readings}
use Rattle.charts.specs.declared.Chart.{Chart}
use Rattle.charts.specs.declared.Alarms.{Alarms}

-- the chart after a reset and readings with the differences ds, newest first
abbrev pub chart_of_case : ℕ → List ℤ → Chart
chart_of_case s ds = after_readings s (reset_of blank) (map (λ (d : ℤ). record { edition = 1; difference = d }) ds)

abbrev pub alarms_shown : ℕ → List ℤ → Alarms
alarms_shown s ds = alarms_of (chart_of_case s ds) s

abbrev pub no_alarm : Alarms
no_alarm = record { rising = false; falling = false; precision = false }

-- the differences of cases 3 and 4
abbrev pub three_readings : List ℤ
three_readings = pos 60 ∷ pos 60 ∷ pos 60 ∷ []

abbrev pub four_readings : List ℤ
four_readings = pos 60 ∷ three_readings

pub record ChartCases : Type 0 where
  -- 1: a sum of 2850 s is at the limit, and no alarm
  pub at_limit_sum : (chart_of_case 1000 (pos 3351 ∷ [])).rising.value ≡ 2850000
  pub at_limit_alarms : alarms_shown 1000 (pos 3351 ∷ []) ≡ no_alarm
  -- 2: a difference one larger is over it
  pub over_limit_alarm : (alarms_shown 1000 (pos 3352 ∷ [])).rising ≡ true
  -- 3: three readings
  pub three_sum : (chart_of_case 44 three_readings).rising.value ≡ 113868
  pub three_alarms : alarms_shown 44 three_readings ≡ no_alarm
  -- 4: the fourth, with the adjustment to be taken off
  pub four_sum : (chart_of_case 44 four_readings).rising.value ≡ 151824
  pub four_alarm : (alarms_shown 44 four_readings).rising ≡ true
  pub four_adjustment : (chart_of_case 44 four_readings).downward ≡ 42
  -- 5: the precision sum of one step, no precision alarm
  pub precision_sum : (chart_of_case 2 (pos 8 ∷ [])).precision.value ≡ 492
  pub precision_none : (alarms_shown 2 (pos 8 ∷ [])).precision ≡ false
  -- 6: of a larger one, with the alarm
  pub precision_over_sum : (chart_of_case 2 (pos 9 ∷ [])).precision.value ≡ 662
  pub precision_alarm : (alarms_shown 2 (pos 9 ∷ [])).precision ≡ true

pub chart_cases : ChartCases
unfolding after_readings blank reset_of applied_of alarms_of adjustment_of empty added near_of rounds_up_of odd
chart_cases = record {
  at_limit_sum = refl;
  at_limit_alarms = refl;
  over_limit_alarm = refl;
  three_sum = refl;
  three_alarms = refl;
  four_sum = refl;
  four_alarm = refl;
  four_adjustment = refl;
  precision_sum = refl;
  precision_none = refl;
  precision_over_sum = refl;
  precision_alarm = refl;
}
