use Rattle.std.proofs.Common.{pos}
use Rattle.calibration.specs.Pairs.{between_answers, conditions_answers}
use Rattle.calibration.proofs.RangeLaws.{line_answers}
use Rattle.cases.specs.CallTests.{call_holds}
use Rattle.cases.proofs.calibration_cases.try_value.Goals as goal

pub value-c-requires : goal.value-c-requires
value-c-requires c =
    let x = call_holds (between_answers (pos 0) (pos 400000) _) c.between.ensures c.if-not-between.false in
    let o = call_holds (between_answers (pos 0) (pos 1800) _) c.between-else-not-between.ensures c.if-not-between-2.false in (
      o,
      call_holds (line_answers _) c.line_ranged.ensures c.if-not-line_ranged.false,
      call_holds (conditions_answers _) c.conditions_ranged.ensures c.if-not-conditions_ranged.false,
      x,
    )
