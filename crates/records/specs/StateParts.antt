-- The steps in which the code makes the state after a record: the week first, then what the record's kind changes.
use Rattle.std.specs.Prelude.{true, ℕ, ◌+◌, eqb, set, if◌then◌else◌, Some, None}
use Rattle.charts.specs.Charts.{reset_of, applied_of}
use Rattle.charts.specs.declared.Chart.{Chart}
use Rattle.records.specs.Record.{Record, mark, minute, difference_of, function_of}
use Rattle.records.specs.Kinds.{Point, at_zero, at_span, point_of, deviation_of, counts, outside_by, no_values, one_more, exceeds_of, raises_demand_of}
use Rattle.records.specs.State.{chart_of, no_pairs, judged_at, running_at, raised_of}
use Rattle.records.specs.declared.state.Waiting.{Waiting}
use Rattle.records.specs.declared.state.Function.{Function}
use Rattle.records.specs.declared.state.State.{State}

-- ---- the state with a part of it changed

abbrev pub with_pair : State → Waiting → State
with_pair st w = record st { waiting = st.waiting + 1; pairs = set st.pairs st.waiting w }

abbrev pub emptied : State → State
emptied st = record st { waiting = 0; pairs = no_pairs }

-- a new period: the tally and the count of weeks start again
abbrev pub with_period : State → State
with_period st = record st { tally = no_values; over = 0 }

-- a function comes into force: it starts a period and clears the calls
abbrev pub with_function : State → Function → State
with_function st f = record st { calibration = Some f; tally = no_values; over = 0; demand = None }

-- a record of minute m is at hand: the week before it is judged where m is of a later one
unfoldable pub judged_of : State → ℕ → State
judged_of st m = record st {
  begun = true;
  minute = m;
  tally = running_at st m;
  over = if exceeds_of 5 (judged_at st m) then st.over + 1 else st.over;
  demand = if raises_demand_of (judged_at st m) st.over then raised_of st.demand m else st.demand;
}

-- a value, where it counts
unfoldable pub with_value : State → Record → State
with_value st r =
    if counts r then record st { tally = one_more (outside_by st.edition st.calibration st.setting r) st.tally }
    else st

-- ---- the kinds that go by their mark

-- the state with a chart changed
abbrev pub with_chart : Point → State → Chart → State
with_chart at_zero st k = record st { zero = k }
with_chart at_span st k = record st { span = k }

-- a reading, and a reset, of the chart of its mark
unfoldable pub with_reading : State → Record → State
with_reading st r =
    let c : Point = point_of (mark r) in
    with_chart c st (applied_of (chart_of c st) st.edition (deviation_of c st.setting) (difference_of r))

unfoldable pub with_reset : State → Record → State
with_reset st r =
    let c : Point = point_of (mark r) in
    with_chart c st (reset_of (chart_of c st))

-- a failed closing of either kind
unfoldable pub with_failure : State → ℕ → State
with_failure st m = record (emptied st) { demand = raised_of st.demand m }

-- a calibration closing: a passed one comes into force with its stored figures
unfoldable pub with_calibration : State → Record → State
with_calibration st r =
    if eqb (mark r) 1 then with_function (emptied st) (function_of r)
    else with_failure st (minute r)

-- an annual closing: a passed one starts a period
unfoldable pub with_annual : State → Record → State
with_annual st r =
    if eqb (mark r) 3 then with_period (emptied st)
    else with_failure st (minute r)
