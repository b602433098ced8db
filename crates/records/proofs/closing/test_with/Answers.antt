-- `closing::test_with` meets its contract.
use Rattle.std.proofs.Common.{sym, ap, subst, ◌∙◌, take, length-take, arith}
use Rattle.calibration.specs.Pairs.{AllRanged}
use Rattle.calibration.specs.Annual.{test_of}
use Rattle.records.specs.Kinds.{line_of}
use Rattle.records.proofs.SoundnessLaws.{pairs_ranged}
use Rattle.records.proofs.StateLaws.{waiting_figures}
use Rattle.records.proofs.closing.test_with.Goals as goal

pub annual_test-requires : goal.annual_test-requires
annual_test-requires c =
    let st = c.args.st in
    let S = c.requires.0 in
    let is = waiting_figures st c.figures-pairs.ensures in (
      omega (arith, length-take st.waiting c.figures-pairs.result, S.waiting),
      subst AllRanged (sym is) (pairs_ranged (take st.waiting st.pairs) S.pairs),
      rw c.basis.ensures c.requires.1.requirements,
      rw c.line.ensures c.requires.2,
    )

pub returns : goal.returns
returns c =
    let st = c.args.st in
    c.annual_test.ensures
    ∙ rw (c.basis.ensures, c.line.ensures) (ap (test_of st.edition st.setting.requirements (line_of c.args.f)) (waiting_figures st c.figures-pairs.ensures))
