-- The loop's invariant: what is asked of the pairs left is what is asked of all.
use Rattle.std.proofs.Common.{◌≡◌, drop}
use Rattle.calibration.specs.Calibration.{some_beyond}
use Rattle.calibration.proofs.sample.Sample.beyond.Given as goal

abbrev pub invariant-loop-p : goal.invariant-loop-p
invariant-loop-p l = some_beyond l.self.basis.edition l.self.basis.requirements.oxygen l.l (drop l.p-index l.self.pairs.now) ≡ some_beyond l.self.basis.edition l.self.basis.requirements.oxygen l.l l.self.pairs.now
