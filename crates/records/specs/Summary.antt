-- The state is the summary of the accepted records and of a place in the file.
use Rattle.std.specs.Prelude.{◌≡◌, List, [], ◌∷◌, ◌++◌, map, ℕ, ◌-◌, length, replicate, if◌then◌else◌, None, Some}
use Rattle.std.proofs.Math.Option.{Option, none, some}
use Rattle.charts.specs.Charts.{blank, reset_of}
use Rattle.charts.specs.Readings.{Reading, after_readings}
use Rattle.charts.specs.declared.Chart.{Chart}
use Rattle.records.specs.Record.{Record, difference_of}
use Rattle.records.specs.Kinds.{Point, at_zero, at_span, deviation_of, Demand}
use Rattle.records.specs.History.{Entry, History, begun_in, last_minute, setting_in, started_in, readings_since, waiting_in, function_in, last_week, tally_in, weeks_over, first_demand, refusal_of}
use Rattle.records.specs.State.{no_pair}
use Rattle.records.specs.declared.state.Waiting.{Waiting}
use Rattle.records.specs.declared.state.State.{State}

-- every record of the history was accepted after those before it
abbrev pub Taken : History → Type 0
Taken [] = Unit {0}
Taken (r ∷ h) = (refusal_of h r ≡ 0) × Taken h

-- an entry as a chart takes it: its difference, and the edition of its block
abbrev pub reading_of : Entry → Reading
reading_of e = record { edition = e.edition; difference = difference_of e.bytes }

-- the chart that the readings since the reset lead to
unfoldable pub chart_in : Point → History → Chart
chart_in c h =
    let s : ℕ = deviation_of c (setting_in h) in
    if started_in c h then after_readings s (reset_of blank) (map reading_of (readings_since c h))
    else blank

-- thirty places, the pairs first and nothing in the rest
abbrev pub padded : List Waiting → List Waiting
padded ws = ws ++ replicate (30 - length ws) no_pair

abbrev pub demand_of : Option ℕ → Demand
demand_of none = None
demand_of (some m) = Some m

-- What no record says: the analyser, the number of the next block, and the edition of the block that is open, or
-- between blocks that of the last one, since a block may be open with no record yet (paper 02, C-12).
pub record Position : Type 0 where
  pub analyser : ℕ
  pub next : ℕ
  pub edition : ℕ

-- a record of the block that is open
abbrev pub entry_at : Position → Record → Entry
entry_at p r = record { edition = p.edition; bytes = r }

-- THE SUMMARY: the state that a place and a history lead to
unfoldable pub summary_of : Position → History → State
summary_of p h = record {
  analyser = p.analyser;
  next = p.next;
  begun = begun_in h;
  minute = last_minute h;
  setting = setting_in h;
  zero = chart_in at_zero h;
  span = chart_in at_span h;
  waiting = length (waiting_in h);
  pairs = padded (waiting_in h);
  calibration = function_in h;
  tally = tally_in (last_week h) h;
  over = weeks_over h;
  demand = demand_of (first_demand h);
  edition = p.edition;
}
