-- `applying::value` meets its contract.
use mathlib.Core.Path.{ap, ◌∙◌}
use Rattle.records.specs.Record.{kind, minute}
use Rattle.records.specs.RecordLaws.{value_ranged_lem}
use Rattle.records.specs.Kinds.{sets}
use Rattle.records.specs.State.{facts_of}
use Rattle.records.specs.StateParts.{with_value}
use Rattle.records.specs.declared.state.State.{State}
use Rattle.records.proofs.TableLaws.{accepted}
use Rattle.records.proofs.SoundnessLaws.{setting_known}
use Rattle.records.proofs.ApplyLaws.{applied_value}
use Rattle.records.proofs.InPlaceLaws.{in_place}
use Rattle.records.proofs.applying.value.Goals as goal

pub count_value-requires-clause-figures : goal.count_value-requires-clause-figures
unfolding kind sets
count_value-requires-clause-figures c =
    let P = c.requires in
    let r = c.args.r.now in
    let A = accepted (facts_of c.args.st) r P.accepted in
    (P.is, P.sound.calibration, setting_known c.args.st r A.placed (rw P.is tt) P.sound.setting, value_ranged_lem r A.ranged P.is)

pub returns : goal.returns
unfolding minute
returns c =
    let st = c.args.st in
    let r = c.args.r.now in
    c.count_value.ensures
    ∙ ap (λ (s : State). with_value s r) (in_place st r c.read32.result c.requires.week c.read32.ensures)
    ∙ applied_value st r c.requires.is
