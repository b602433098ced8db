-- Paper 01, 'Records', 'Weeks and calls (6.4.4)', and paper 02, C-11 and C-12: which records do what, and when a value
-- is outside.
use Rattle.std.specs.Prelude.{Option, Bool, false, not, ◌&&◌, ◌||◌, ℕ, ◌+◌, ◌*◌, ◌/◌, eqb, ltb, pos, if◌then◌else◌, None, Some}
use Rattle.std.specs.Int.Signed.{lt_z}
use Rattle.calibration.specs.Calibration.{value_of}
use Rattle.calibration.specs.declared.line.Line.{Line}
use Rattle.calibration.specs.declared.conditions.Standard.{Standard}
use Rattle.records.specs.Record.{Record, kind, mark, setting_of, function_of, signal_of, value_conditions}
use Rattle.records.specs.declared.state.Setting.{Setting}
use Rattle.records.specs.declared.state.Function.{Function}
use Rattle.records.specs.declared.state.Tally.{Tally}

-- the function in force, where there is one
abbrev pub Calibration : Type 0
Calibration = Option Function

-- the minute of the first call for a new calibration since the last passed one, where there was one
abbrev pub Demand : Type 0
Demand = Option ℕ

-- ---- which records are what

-- the two charts, at the zero point and at the span point
pub data Point : Type 0 where
  at_zero at_span : Point

-- the mark of a chart's records
abbrev pub point_mark : Point → ℕ
point_mark at_zero = 0
point_mark at_span = 1

-- the chart that a mark names
abbrev pub point_of : ℕ → Point
point_of m = if eqb m 0 then at_zero else at_span

unfoldable pub reads : Point → Record → Bool
reads c r = eqb (kind r) 2 && eqb (mark r) (point_mark c)

unfoldable pub resets : Point → Record → Bool
resets c r = eqb (kind r) 3 && eqb (mark r) (point_mark c)

unfoldable pub sets : Record → Bool
sets r = eqb (kind r) 1

unfoldable pub is_pair : Record → Bool
is_pair r = eqb (kind r) 4

-- a passed calibration
unfoldable pub calibrates : Record → Bool
calibrates r = eqb (kind r) 5 && eqb (mark r) 1

-- a closing that was passed, calibration or annual
unfoldable pub is_passed : Record → Bool
is_passed r = calibrates r || eqb (kind r) 6 && eqb (mark r) 3

-- a closing that was not: it calls for a new calibration
unfoldable pub fails : Record → Bool
fails r = (eqb (kind r) 5 || eqb (kind r) 6) && not (is_passed r)

-- ---- what an accepted record does beside what it stores

-- An effect a line, by the records that have it. Every 'since the last' hangs on one of these, that of a chart on
-- `resets`.

-- no pair waits after it: closings and the drop
unfoldable pub empties : Record → Bool
empties r = eqb (kind r) 5 || (eqb (kind r) 6 || eqb (kind r) 8)

-- its function comes into force
abbrev pub comes_into_force : Record → Bool
comes_into_force r = calibrates r

-- the calls up to it are cleared
abbrev pub clears_demands : Record → Bool
clears_demands r = calibrates r

-- a period starts after it (paper 01: a stretch), with no value and no week
abbrev pub starts_period : Record → Bool
starts_period r = is_passed r

-- it is a value that counts in its week: its mark is 0, while 1 tells of a start-up and the like (paper 02, C-11)
unfoldable pub counts : Record → Bool
counts r = eqb (kind r) 7 && eqb (mark r) 0

-- the setting after it, and the function in force
abbrev pub setting_after : Record → Setting → Setting
setting_after r s = if sets r then setting_of r else s

abbrev pub calibration_after : Record → Calibration → Calibration
calibration_after r k = if comes_into_force r then Some (function_of r) else k

-- ---- times and figures

abbrev pub week_of : ℕ → ℕ
week_of m = m / 10080

abbrev pub day_of : ℕ → ℕ
day_of m = m / 1440

-- before the setting
unfoldable pub no_setting : Setting
no_setting = record {
  requirements = record { limit = pos 0; uncertainty = pos 0; oxygen = pos 0 };
  zero = 0;
  span = 0;
  response = 0;
}

-- s of a chart
abbrev pub deviation_of : Point → Setting → ℕ
deviation_of at_zero s = s.zero
deviation_of at_span s = s.span

-- the response minutes of a setting, with its default
unfoldable pub response_of : Setting → ℕ
response_of s = if eqb s.response 0 then 7 else s.response

-- the calibration function of a function in force
unfoldable pub line_of : Function → Line
line_of f = record { slope = f.slope; intercept = f.intercept }

-- A value lies outside the range of the function in force: its c, rounded by the edition of the value's own block, is
-- negative or exceeds the top as it is stored. Without a function row 19 stops it, so that the first line is never
-- asked.
unfoldable pub outside_by : ℕ → Calibration → Setting → Record → Bool
outside_by edition None s r = false
outside_by edition (Some f) s r =
    let c : Standard = value_of edition s.requirements.oxygen (line_of f) (value_conditions r) (signal_of r) in
    lt_z c.0 (pos 0) || lt_z f.top.0 c.0

-- ---- the values of a week

unfoldable pub no_values : Tally
no_values = record { total = 0; outside = 0 }

-- one value more, outside or not
unfoldable pub one_more : Bool → Tally → Tally
one_more outside t = record { total = t.total + 1; outside = if outside then t.outside + 1 else t.outside }

-- more than a number of percent are outside
abbrev pub exceeds_of : ℕ → Tally → Bool
exceeds_of percent t = ltb (percent * t.total) (100 * t.outside)

-- A judged week raises a call: over 40 percent, or over 5 percent as the sixth such week of its period. Paper 02,
-- C-11, has a week not judged where none of its values counts: with no values no percentage is exceeded.
unfoldable pub raises_demand_of : Tally → ℕ → Bool
raises_demand_of t over = exceeds_of 40 t || exceeds_of 5 t && eqb over 5
