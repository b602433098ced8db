-- The loop's invariant: `u` counts the pairs passed, is in range, and with the pairs left makes the whole sums.
use Rattle.std.proofs.Common.{◌≡◌, drop}
use mathlib.Core.List.{foldl}
use Rattle.calibration.specs.Calibration.{plus_of, sums_of}
use Rattle.calibration.specs.InCode.{SumsRanged}
use Rattle.calibration.proofs.sample.Sample.sums.Given as goal

abbrev pub invariant-loop-p : goal.invariant-loop-p
invariant-loop-p l = record {
  counted : l.u.n ≡ l.p-index;
  ranged : SumsRanged l.u;
  whole : foldl plus_of l.u (drop l.p-index l.self.pairs.now) ≡ sums_of l.self.pairs.now;
}
