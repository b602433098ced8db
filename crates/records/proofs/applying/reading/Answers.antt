-- `applying::reading` meets its contract.
use mathlib.Core.Path.{refl, ap, ◌∙◌}
use Rattle.records.specs.Record.{kind, minute, mark_limit}
use Rattle.records.specs.RecordLaws.{formed_fields, reading_ranged_lem}
use Rattle.records.specs.State.{facts_of}
use Rattle.records.specs.StateParts.{with_reading}
use Rattle.records.specs.declared.state.State.{State}
use Rattle.records.proofs.TableLaws.{accepted, reading_passed}
use Rattle.records.proofs.ApplyLaws.{applied_reading, charts_alike}
use Rattle.records.proofs.InPlaceLaws.{in_place}
use Rattle.records.proofs.applying.reading.Goals as goal

pub take_reading-requires : goal.take_reading-requires
unfolding kind
take_reading-requires c =
    let P = c.requires in
    let r = c.args.r.now in
    let A = accepted (facts_of c.args.st) r P.accepted in
    (reading_ranged_lem r A.ranged P.is, charts_alike c.args.st _ r refl refl (reading_passed (facts_of c.args.st) r A P.is), P.sound.zero, P.sound.span)

pub returns : goal.returns
unfolding kind minute mark_limit
returns c =
    let st = c.args.st in
    let r = c.args.r.now in
    let k = c.requires.is in
    let F = formed_fields r (accepted (facts_of st) r c.requires.accepted).formed in
    c.take_reading.ensures
    ∙ ap (λ (s : State). with_reading s r) (in_place st r c.read32.result c.requires.week c.read32.ensures)
    ∙ applied_reading st r k (rw k at F.mark)
