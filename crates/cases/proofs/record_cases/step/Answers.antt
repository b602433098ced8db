use Rattle.records.specs.Soundness.{sound_answers}
use Rattle.cases.specs.CallTests.{call_holds}
use Rattle.cases.proofs.record_cases.step.Goals as goal

pub step-requires : goal.step-requires
step-requires c = call_holds (sound_answers 4000000000 _) c.sound.ensures c.if-not-sound.false
