-- `applying::take_reading` meets its contract.
use mathlib.Core.Path.{◌≡◌, ◌∙◌}
use Prim.Native.Nat.{◌<◌}
use mir.Syntax.{w32}
use mir.Val.{to_z, of_z}
use mir.Facts.{to_z-of_z}
use borrow.Author.Rules.{rules}
use Rattle.charts.specs.ChartSoundness.{ChartSound, DifferenceRanged}
use Rattle.records.specs.Record.{mark, difference_of}
use Rattle.records.specs.RecordLaws.{reading_fields}
use Rattle.records.specs.Kinds.{point_of}
use Rattle.records.specs.State.{chart_of}
use Rattle.records.specs.StateParts.{with_reading}
use Rattle.records.proofs.ApplyLaws.{chart_room, chart_sound}
use Rattle.records.proofs.applying.take_reading.Goals as goal
use Rattle.records.proofs.applying.take_reading.Goals.{After-difference-d}

back : (c : After-difference-d) → to_z w32 (of_z w32 c.difference-d.result) ≡ difference_of c.args.r.now
back c = to_z-of_z {w = w32} (record { sfits = c.difference-d.type_inv }) ∙ c.difference-d.ensures

pub change_chart-requires : goal.change_chart-requires
unfolding mark
change_chart-requires c =
    let st = c.args.st.now in
    let r = c.args.r.now in
    let o : (chart_of (point_of (mark r)) st).readings < 100000 = chart_room st r c.requires.1 in
    let s : ChartSound (chart_of (point_of (mark r)) st) = chart_sound st r c.requires.2 c.requires.3 in
    let d : DifferenceRanged (to_z w32 (of_z w32 c.difference-d.result)) = rw (back (goal.at.change_chart-requires c).After-difference-d) (reading_fields r c.requires.0).difference in
    search rules

pub returns : goal.returns
unfolding mark with_reading
returns c =
    let b = back (goal.at.returns c).After-difference-d in
    search rules
