use Rattle.calibration.specs.Pairs.{requirements_answers}
use Rattle.calibration.proofs.RangeLaws.{line_answers}
use Rattle.calibration.proofs.SampleLaws.{all_ranged_answers}
use Rattle.cases.specs.CallTests.{call_holds}
use Rattle.cases.proofs.calibration_cases.try_annual.Goals as goal

pub annual_test-requires : goal.annual_test-requires
annual_test-requires c = (
  c.if-pairs-gt30.false,
  call_holds (all_ranged_answers _) c.all_ranged.ensures c.if-not-all_ranged.false,
  call_holds (requirements_answers _) c.requirements_ranged.ensures c.if-not-requirements_ranged.false,
  call_holds (line_answers _) c.line_ranged.ensures c.if-not-line_ranged.false,
)
