-- The loop's invariant: `r` is in range for the pairs passed, and with the pairs left makes the whole.
use Rattle.std.proofs.Common.{◌≡◌, drop}
use mathlib.Core.List.{foldl}
use Rattle.calibration.specs.Calibration.{residuals_of}
use Rattle.calibration.proofs.ResidualLaws.{ResidualsRanged, with_residual_of_pair}
use Rattle.calibration.proofs.sample.Sample.residuals.Given as goal

abbrev pub invariant-loop-p : goal.invariant-loop-p
invariant-loop-p l = record {
  ranged : ResidualsRanged l.p-index l.r;
  whole : foldl (with_residual_of_pair l.self.basis.edition l.self.basis.requirements.oxygen l.l) l.r (drop l.p-index l.self.pairs.now) ≡ residuals_of l.self.basis.edition l.self.basis.requirements.oxygen l.l l.self.pairs.now;
}
