use Rattle.std.proofs.Common.{pos, neg_ℤ}
use Rattle.calibration.specs.Pairs.{between_answers, requirements_answers}
use Rattle.calibration.proofs.SampleLaws.{all_ranged_answers}
use Rattle.cases.specs.CallTests.{call_holds}
use Rattle.cases.proofs.calibration_cases.try_fit.Goals as goal

pub fit-requires : goal.fit-requires
fit-requires c =
    let z = call_holds (between_answers (neg_ℤ (pos 10000)) (pos 10000) _) c.z_ranged.ensures c.if-not-z_ranged.false in (
      c.if-pairs-gt30.false,
      call_holds (all_ranged_answers _) c.all_ranged.ensures c.if-not-all_ranged.false,
      call_holds (requirements_answers _) c.requirements_ranged.ensures c.if-not-requirements_ranged.false,
      z,
    )
