use Rattle.std.proofs.Common.{pos, neg_ℤ, arith, w32, to_z, of_z}
use Rattle.calibration.specs.Pairs.{between_answers, conditions_answers}
use Rattle.calibration.proofs.RangeLaws.{between_abs}
use Rattle.cases.specs.CallTests.{call_holds}
use Rattle.cases.proofs.calibration_cases.try_standard.Goals as goal

pub standard_conditions-y-requires : goal.standard_conditions-y-requires
standard_conditions-y-requires c =
    let v = call_holds (between_answers (neg_ℤ (pos 8000000)) (pos 8000000) (to_z w32 (of_z w32 c.args.v))) c.between.ensures c.if-not-between.false in
    let o = call_holds (between_answers (pos 0) (pos 1800) _) c.between-else-not-between.ensures c.if-not-between-2.false in
    (o, call_holds (conditions_answers _) c.conditions_ranged.ensures c.if-not-conditions_ranged.false, omega (arith, between_abs v))
