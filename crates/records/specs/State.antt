-- The state (paper 01: the standing): its beginning, its refusal of a record, and what an accepted record makes of it.
-- Its edition (paper 02, C-12) is that of the block in which the next record stands, and between blocks that of the
-- last one: 0 before the first, which rounds as 1 does.
use Rattle.std.specs.Prelude.{Bool, true, false, ◌||◌, List, ℕ, ◌+◌, eqb, ltb, pos, take, set, replicate, if◌then◌else◌, None, Some, Result, Ok, Err}
use Rattle.refusals.specs.Rows.{number_of}
use Rattle.refusals.specs.declared.Refusal.{Refusal}
use Rattle.charts.specs.Charts.{blank, reset_of, applied_of}
use Rattle.charts.specs.declared.Chart.{Chart}
use Rattle.records.specs.Record.{Record, minute, difference_of, waiting_of}
use Rattle.records.specs.Kinds.{Point, no_setting, at_zero, at_span, reads, resets, is_pair, fails, empties, clears_demands, starts_period, counts, setting_after, calibration_after, deviation_of, week_of, outside_by, no_values, one_more, exceeds_of, raises_demand_of, Demand}
use Rattle.records.specs.Table.{ChartFacts, Facts, refusal_in}
use Rattle.records.specs.declared.state.Setting.{Setting}
use Rattle.records.specs.declared.state.Waiting.{Waiting}
use Rattle.records.specs.declared.state.State.{State}
use Rattle.records.specs.declared.state.Tally.{Tally}

-- a place of the pair array that holds none
unfoldable pub no_pair : Waiting
no_pair = record {
  start = 0;
  end = 0;
  pair = record {
    signal = pos 0;
    srm = record { 0 = pos 0 };
    conditions = record { temperature = pos 0; pressure = pos 0; water = pos 0; oxygen = pos 0 };
  };
}

unfoldable pub no_pairs : List Waiting
no_pairs = replicate 30 no_pair

-- a fresh standing for an analyser number
unfoldable pub initial_of : ℕ → State
initial_of analyser = record {
  analyser = analyser;
  next = 0;
  begun = false;
  minute = 0;
  setting = no_setting;
  zero = blank;
  span = blank;
  waiting = 0;
  pairs = no_pairs;
  calibration = None;
  tally = no_values;
  over = 0;
  demand = None;
  edition = 0;
}

-- ---- the refusal of a record

abbrev pub chart_facts : Chart → ChartFacts
chart_facts k = record { started = k.started; readings = k.readings }

unfoldable pub facts_of : State → Facts
facts_of st = record {
  begun = st.begun;
  minute = st.minute;
  setting = st.setting;
  zero = chart_facts st.zero;
  span = chart_facts st.span;
  waiting = take st.waiting st.pairs;
  calibration = st.calibration;
  edition = st.edition;
}

-- ---- an accepted record

-- a chart of a state
abbrev pub chart_of : Point → State → Chart
chart_of at_zero st = st.zero
chart_of at_span st = st.span

-- what a record of a block of some edition does to a chart
unfoldable pub chart_after : ℕ → Point → Setting → Record → Chart → Chart
chart_after edition c s r k =
    if resets c r then reset_of k
    else (if reads c r then applied_of k edition (deviation_of c s) (difference_of r)
    else k)

-- the record is of a later week than the last one
abbrev pub turns_from : ℕ → ℕ → Bool
turns_from before after = ltb (week_of before) (week_of after)

-- THE WEEK THAT IS JUDGED on a record of minute m: that of the last one, where m is of a later week. With no values no
-- week is judged.
unfoldable pub judged_at : State → ℕ → Tally
judged_at st m = if turns_from st.minute m then st.tally else no_values

-- the values of the week of m before it: none yet where m begins a later week
unfoldable pub running_at : State → ℕ → Tally
running_at st m = if turns_from st.minute m then no_values else st.tally

-- the first call stays the first
unfoldable pub raised_of : Demand → ℕ → Demand
raised_of None m = Some m
raised_of (Some first) m = Some first

-- The state after an accepted record: the week is judged first where the record is of a later one, then the record is
-- applied.
unfoldable pub applied_to : State → Record → State
applied_to st r =
    let judged : Tally = judged_at st (minute r) in
    let running : Tally = running_at st (minute r) in
    record {
      analyser = st.analyser;
      next = st.next;
      begun = true;
      minute = minute r;
      setting = setting_after r st.setting;
      zero = chart_after st.edition at_zero st.setting r st.zero;
      span = chart_after st.edition at_span st.setting r st.span;
      waiting = if empties r then 0 else (if is_pair r then st.waiting + 1 else st.waiting);
      pairs = if empties r then no_pairs else (if is_pair r then set st.pairs st.waiting (waiting_of r) else st.pairs);
      calibration = calibration_after r st.calibration;
      tally =
          if starts_period r then no_values
          else (if counts r then one_more (outside_by st.edition st.calibration st.setting r) running
          else running);
      over = if starts_period r then 0 else (if exceeds_of 5 judged then st.over + 1 else st.over);
      demand =
          if clears_demands r then None
          else (if fails r || raises_demand_of judged st.over then raised_of st.demand (minute r)
          else st.demand);
      edition = st.edition;
    }

-- what becomes of a state and a record: the refusal (0 for none), and the state after it
pub record Stepped : Type 0 where
  pub refusal : ℕ
  pub state : State

-- an answer to a record as such an outcome: with a refusal the state is as it was; no two answers have one outcome
-- (proofs/OutcomeLaws)
abbrev pub stepped : State → Result State Refusal → Stepped
stepped st (Ok after) = record { refusal = 0; state = after }
stepped st (Err e) = record { refusal = number_of e; state = st }

-- one record: refused, with the state as it was, or applied
unfoldable pub step_of : State → Record → Stepped
step_of st r =
    let refusal : ℕ = refusal_in (facts_of st) r in
    if eqb refusal 0 then record { refusal = 0; state = applied_to st r }
    else record { refusal = refusal; state = st }
