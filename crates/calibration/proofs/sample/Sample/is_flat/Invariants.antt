-- The loop's invariant: `s` with the values left makes the whole span, and its ends are in range.
use Rattle.std.proofs.Common.{◌≡◌, drop, map}
use Rattle.calibration.specs.Calibration.{measured_of, span_from, span_of}
use Rattle.calibration.proofs.SpanLaws.{Spanned}
use Rattle.calibration.proofs.sample.Sample.is_flat.Given as goal

abbrev pub invariant-loop-p : goal.invariant-loop-p
invariant-loop-p l = record {
  spanned : Spanned 33600000 l.s;
  whole : span_from l.s (map (measured_of l.self.basis.edition l.self.basis.requirements.oxygen) (drop l.p-index l.self.pairs.now)) ≡ span_of (map (measured_of l.self.basis.edition l.self.basis.requirements.oxygen) l.self.pairs.now);
}
