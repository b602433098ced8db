use Rattle.charts.specs.ChartSoundness.{chart_sound_answers, difference_ranged_answers}
use Rattle.cases.specs.CallTests.{call_holds}
use Rattle.cases.proofs.charts_cases.applied.Goals as goal

pub apply-requires : goal.apply-requires
apply-requires c = (
  call_holds (chart_sound_answers _) c.sound.ensures c.if-not-sound.false,
  c.if-c-ge100000.false,
  call_holds (difference_ranged_answers _) c.difference_ranged.ensures c.if-not-difference_ranged.false,
)
