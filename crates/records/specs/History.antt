-- What the accepted records say, and nothing else: paper 01, 'Charts', 'Calibration', 'Weeks and calls (6.4.4)' and
-- 'Usable', paper 02, C-11 to C-13, and the mission's statement 3. A history is the list of accepted records, each
-- with the edition of its block, newest first, so that "since the last" is plain recursion.
use Rattle.std.specs.Prelude.{◌≡◌, Bool, true, false, ◌&&◌, List, [], ◌∷◌, ◌++◌, map, ℕ, suc, ◌-◌, ◌≤◌, ltb, eqb, ℤ, length, if◌then◌else◌, None, Some}
use Rattle.std.proofs.Math.Option.{Option, none, some, get_or}
use Rattle.charts.specs.Runs.{Alarm, Stands}
use Rattle.records.specs.Lists.{since, those, any}
use Rattle.records.specs.Record.{Record, minute, difference_of, waiting_of}
use Rattle.records.specs.Kinds.{Point, no_setting, at_zero, at_span, reads, resets, is_pair, fails, empties, clears_demands, starts_period, counts, setting_after, calibration_after, deviation_of, week_of, outside_by, no_values, one_more, exceeds_of, raises_demand_of, Calibration}
use Rattle.records.specs.Table.{ChartFacts, Facts, refusal_in}
use Rattle.records.specs.declared.state.Setting.{Setting}
use Rattle.records.specs.declared.state.Waiting.{Waiting}
use Rattle.records.specs.declared.state.Tally.{Tally}

-- an accepted record, and beside it the edition of its block (paper 02, C-12)
pub record Entry : Type 0 where
  pub edition : ℕ
  pub bytes : Record

abbrev pub History : Type 0
History = List Entry

-- what is said of a record, said of its entry
abbrev pub on : {B : Type 0} → (Record → B) → Entry → B
on f e = f e.bytes

-- ---- the setting and the time

unfoldable pub setting_in : History → Setting
setting_in [] = no_setting
setting_in (r ∷ h) = setting_after r.bytes (setting_in h)

-- the last record's minute, 0 before the first
abbrev pub last_minute : History → ℕ
last_minute [] = 0
last_minute (r ∷ h) = minute r.bytes

-- ---- charts

abbrev pub started_in : Point → History → Bool
started_in c h = any (on (resets c)) h

-- the readings of a chart after its last reset, newest first
abbrev pub readings_since : Point → History → List Entry
readings_since c h = those (on (reads c)) (since (on (resets c)) h)

-- their differences; with no reset there are none
unfoldable pub differences_in : Point → History → List ℤ
differences_in c h = if started_in c h then map (on difference_of) (readings_since c h) else []

-- an alarm of a chart: some run of its readings says so
abbrev pub AlarmStands : Point → Alarm → History → Type 0
AlarmStands c a h = Stands a (deviation_of c (setting_in h)) (differences_in c h)

-- ---- pairs and the function in force

-- the pairs that wait, oldest first
unfoldable pub waiting_in : History → List Waiting
waiting_in [] = []
waiting_in (r ∷ h) =
    if empties r.bytes then []
    else (if is_pair r.bytes then waiting_in h ++ (waiting_of r.bytes ∷ [])
    else waiting_in h)

-- the newest passed calibration, with its stored figures
unfoldable pub function_in : History → Calibration
function_in [] = None
function_in (r ∷ h) = calibration_after r.bytes (function_in h)

-- ---- weeks

abbrev pub own_week : Entry → ℕ
own_week r = week_of (minute r.bytes)

-- a value that counts, of week w
abbrev pub value_of_week : ℕ → Entry → Bool
value_of_week w r = counts r.bytes && eqb (own_week r) w

-- It was outside when it was applied. It is judged by its own block's edition, against the top in force; a week's
-- tally may have values of both editions (paper 02, C-13).
abbrev pub outside_when : History → Entry → Bool
outside_when h r = outside_by r.edition (function_in h) (setting_in h) r.bytes

-- the values of week w in the period, and those outside among them
unfoldable pub tally_in : ℕ → History → Tally
tally_in w [] = no_values
tally_in w (r ∷ h) =
    if starts_period r.bytes then no_values
    else (if value_of_week w r then one_more (outside_when h r) (tally_in w h)
    else tally_in w h)

abbrev pub last_week : History → ℕ
last_week h = week_of (last_minute h)

-- r is of a later week than the records before it
abbrev pub turns : History → Entry → Bool
turns h r = ltb (last_week h) (own_week r)

-- THE WEEK THAT IS JUDGED on r, before r is applied: that of the last record, within its period, where r is of a later
-- week. With no values no week is judged (paper 02, C-11).
unfoldable pub judged_on : History → Entry → Tally
judged_on h r = if turns h r then tally_in (last_week h) h else no_values

-- how many weeks judged in the period were over 5 percent
unfoldable pub weeks_over : History → ℕ
weeks_over [] = 0
weeks_over (r ∷ h) =
    if starts_period r.bytes then 0
    else (if exceeds_of 5 (judged_on h r) then suc (weeks_over h)
    else weeks_over h)

-- ---- calls for a new calibration

-- the week that is judged on r raises a call
unfoldable pub week_demands : History → Entry → Bool
week_demands h r = raises_demand_of (judged_on h r) (weeks_over h)

-- a minute, where there is a call at it
abbrev demanded : Bool → ℕ → List ℕ
demanded b m = if b then m ∷ [] else []

-- the minutes of the calls since they were last cleared, newest first: of a record's own two, its failed closing is
-- newer than the week judged on it
unfoldable pub demands_in : History → List ℕ
demands_in [] = []
demands_in (r ∷ h) =
    if clears_demands r.bytes then []
    else demanded (fails r.bytes) (minute r.bytes) ++ demanded (week_demands h r) (minute r.bytes) ++ demands_in h

-- the last of a list
abbrev pub oldest : List ℕ → Option ℕ
oldest [] = none
oldest (m ∷ ms) = some (get_or (oldest ms) m)

unfoldable pub first_demand : History → Option ℕ
first_demand h = oldest (demands_in h)

-- ---- usable

-- the minute of the passed calibration; whether a first call, if any, is young enough
abbrev pub minute_of : Calibration → Option ℕ
minute_of None = none
minute_of (Some f) = some f.minute

abbrev pub Recent : ℕ → ℕ → Option ℕ → Type 0
Recent limit m none = Unit {0}
Recent limit m (some from) = m - from ≤ limit

-- No alarm; a calibration was passed, at most 2,629,440 minutes before the last record; and if there were calls since
-- then, the first of them came at most 263,520 minutes before it.
pub record Usable (h : History) : Type 0 where
  pub quiet : (c : Point) (a : Alarm) → ¬ AlarmStands c a h
  pub from : ℕ
  pub in_force : minute_of (function_in h) ≡ some from
  pub young : last_minute h - from ≤ 2629440
  pub demanded : Recent 263520 (last_minute h) (first_demand h)

-- ---- the table's rows, asked of a history

abbrev pub begun_in : History → Bool
begun_in [] = false
begun_in (r ∷ h) = true

abbrev pub chart_facts_in : Point → History → ChartFacts
chart_facts_in c h = record { started = started_in c h; readings = length (differences_in c h) }

-- the facts for a next record, in a block of some edition
unfoldable pub facts_in : ℕ → History → Facts
facts_in edition h = record {
  begun = begun_in h;
  minute = last_minute h;
  setting = setting_in h;
  zero = chart_facts_in at_zero h;
  span = chart_facts_in at_span h;
  waiting = waiting_in h;
  calibration = function_in h;
  edition = edition;
}

-- the refusal of a next record, 0 for none
abbrev pub refusal_of : History → Entry → ℕ
refusal_of h r = refusal_in (facts_in r.edition h) r.bytes
