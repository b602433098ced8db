-- Paper 01, 'Where input is stopped', rows 10 to 25, with the times, coverage, days and span of 'Calibration (6.4,
-- 6.5)', and paper 02, C-12 and C-13. The rows ask certain facts of the records before, and the edition of the
-- record's own block; they are the same whether read from a history or from a state.
use Rattle.std.specs.Prelude.{Bool, true, false, not, ◌&&◌, ◌||◌, List, [], ◌∷◌, map, ℕ, suc, ◌+◌, ◌-◌, ◌*◌, leb, ltb, eqb, ℤ, pos, length, if◌then◌else◌, None, Some}
use Rattle.std.proofs.Math.Option.{Option, none, some}
use Rattle.std.specs.Int.Signed.{le_z}
use Rattle.refusals.specs.Rows.{◌when◌, ◌or◌}
use Rattle.calibration.specs.Calibration.{count_fits_of, fit_of, refused_fit}
use Rattle.calibration.specs.Annual.{test_of, refused_test}
use Rattle.calibration.specs.declared.pairs.Pair.{Pair}
use Rattle.calibration.specs.Outcomes.{Fitted}
use Rattle.calibration.specs.Outcomes.{Tested}
use Rattle.records.specs.Record.{Record, kind, mark, minute, minute_limit, field_of, long_field_of, formed_of, ranged_of, length_of, coverage_of, z_of}
use Rattle.records.specs.Kinds.{Point, at_zero, at_span, point_of, sets, day_of, response_of, line_of, Calibration}
use Rattle.records.specs.declared.state.Setting.{Setting}
use Rattle.records.specs.declared.state.Waiting.{Waiting}

-- what the rows ask of a chart: whether it is started, and how many readings it has since its reset
pub record ChartFacts : Type 0 where
  pub started : Bool
  pub readings : ℕ

-- What the rows ask beside the record: is there one before it, the last minute, the setting, the two charts, the pairs
-- that wait (oldest first), the function in force, and the edition of the block in which the record stands. By this
-- one all figures of a closing are rounded, y' too, whichever the edition in which its pairs were taken (paper 02,
-- C-13).
pub record Facts : Type 0 where
  pub begun : Bool
  pub minute : ℕ
  pub setting : Setting
  pub zero : ChartFacts
  pub span : ChartFacts
  pub waiting : List Waiting
  pub calibration : Calibration
  pub edition : ℕ

-- those of one of the charts
abbrev pub facts_at : Point → Facts → ChartFacts
facts_at at_zero f = f.zero
facts_at at_span f = f.span

-- ---- 11, 12

-- a setting that is not the first record, or a first record that is no setting
unfoldable pub misplaced_of : Facts → Record → Bool
misplaced_of f r = if f.begun then sets r else not (sets r)

-- a minute before that of the last record, or past the last one there is
unfoldable pub untimely_of : Facts → ℕ → Bool
untimely_of f m = ltb m f.minute || ltb minute_limit m

-- ---- 14, 15

unfoldable pub chart_refusal_of : Bool → ℕ → ℕ
chart_refusal_of started readings =
    14 when not started
    or 15 when leb 100000 readings

unfoldable pub reading_refusal_of : Facts → Record → ℕ
reading_refusal_of f r =
    let k : ChartFacts = facts_at (point_of (mark r)) f in
    chart_refusal_of k.started k.readings

-- ---- 18, 16, 17

abbrev pub last_of : List Waiting → Option Waiting
last_of [] = none
last_of (w ∷ []) = some w
last_of (w ∷ v ∷ ws) = last_of (v ∷ ws)

-- after the pair w that waits before it: never inside w, and a short pair not too soon after w began
unfoldable pub follows_one_of : Waiting → ℕ → ℕ → Bool
follows_one_of w start length = leb w.end start && (leb 60 length || ltb (w.start + 60) start)

unfoldable pub follows : Option Waiting → ℕ → ℕ → Bool
follows none start length = true
follows (some w) start length = follows_one_of w start length

-- long enough for the response time, not begun before minute 0, and after the pair that waits before it
unfoldable pub times_fit_of : Facts → Record → Bool
times_fit_of f r =
    leb (4 * response_of f.setting) (length_of r)
    && (leb (length_of r) (minute r) && follows (last_of f.waiting) (minute r - length_of r) (length_of r))

unfoldable pub pair_refusal_of : Facts → Record → ℕ
pair_refusal_of f r =
    18 when leb 30 (length f.waiting)
    or 16 when not (times_fit_of f r)
    or 17 when le_z (coverage_of r) (pos 90)

-- ---- 19 of an annual closing, 20 to 24

abbrev pub among_of : ℕ → List ℕ → Bool
among_of d [] = false
among_of d (e ∷ ds) = eqb d e || among_of d ds

-- how many different numbers
abbrev pub different : List ℕ → ℕ
different [] = 0
different (d ∷ ds) = if among_of d ds then different ds else suc (different ds)

abbrev pub end_day : Waiting → ℕ
end_day w = day_of w.end

abbrev pub first_start : List Waiting → ℕ
first_start [] = 0
first_start (w ∷ ws) = w.start

abbrev pub last_end : Option Waiting → ℕ
last_end none = 0
last_end (some w) = w.end

-- spread over days enough, and not over too long a time
unfoldable pub days_fit_of : List Waiting → Bool
days_fit_of ws = leb 3 (different (map end_day ws)) && leb (last_end (last_of ws) - first_start ws) 40320

abbrev pub pair_of_waiting : Waiting → Pair
pair_of_waiting w = w.pair

-- a calibration closing over the pairs that wait, with Z: 20, 21, then the fit's refusals, or its figures
unfoldable pub calibration_of : Facts → ℤ → Fitted
calibration_of f z =
    if not (count_fits_of (length f.waiting)) then refused_fit 20
    else (if not (days_fit_of f.waiting) then refused_fit 21
    else fit_of f.edition f.setting.requirements z (map pair_of_waiting f.waiting))

-- an annual closing: 19, then the test's refusals, or its verdicts
unfoldable pub annual_by : Calibration → Facts → Tested
annual_by None f = refused_test 19
annual_by (Some l) f = test_of f.edition f.setting.requirements (line_of l) (map pair_of_waiting f.waiting)

abbrev pub annual_of : Facts → Tested
annual_of f = annual_by f.calibration f

-- ---- 25

abbrev pub sameℤ : ℤ → ℤ → Bool
sameℤ a b = le_z a b && le_z b a

-- the mark of a calibration closing: 1 where passed
abbrev pub pass_mark_of : Fitted → ℕ
pass_mark_of c = if c.passed then 1 else 0

-- the stored mark and figures are those worked out
unfoldable pub stores_fit_of : Fitted → Record → Bool
stores_fit_of c r =
    (eqb (mark r) (pass_mark_of c) && sameℤ (field_of r 12) c.line.slope)
    && (sameℤ (long_field_of r 16) c.line.intercept
    && (sameℤ (field_of r 24) c.top.0 && sameℤ (field_of r 28) (pos c.count)))

unfoldable pub calibration_refusal_of : Facts → Record → ℕ
calibration_refusal_of f r =
    let c : Fitted = calibration_of f (z_of r) in
    c.refusal
    or 25 when not (stores_fit_of c r)

-- the mark of an annual closing: a bit for each verdict
abbrev pub test_mark_of : Tested → ℕ
test_mark_of t = (if t.variability then 1 else 0) + (if t.function then 2 else 0)

unfoldable pub stores_test_of : Tested → ℕ → Record → Bool
stores_test_of t n r = eqb (mark r) (test_mark_of t) && sameℤ (field_of r 8) (pos n)

unfoldable pub annual_refusal_of : Facts → Record → ℕ
annual_refusal_of f r =
    let t : Tested = annual_of f in
    t.refusal
    or 25 when not (stores_test_of t (length f.waiting) r)

-- ---- 19 for a value

abbrev pub in_force : Calibration → Bool
in_force None = false
in_force (Some f) = true

unfoldable pub value_refusal_of : Facts → ℕ
value_refusal_of f = 19 when not (in_force f.calibration)

-- ---- the table, downwards: the first row that fits; 0 where none does

unfoldable pub kind_refusal_of : Facts → Record → ℕ
kind_refusal_of f r =
    if eqb (kind r) 2 then reading_refusal_of f r
    else (if eqb (kind r) 4 then pair_refusal_of f r
    else (if eqb (kind r) 5 then calibration_refusal_of f r
    else (if eqb (kind r) 6 then annual_refusal_of f r
    else (if eqb (kind r) 7 then value_refusal_of f
    else 0))))

unfoldable pub refusal_in : Facts → Record → ℕ
refusal_in f r =
    10 when not (formed_of r)
    or 11 when misplaced_of f r
    or 12 when untimely_of f (minute r)
    or 13 when not (ranged_of r)
    or kind_refusal_of f r
