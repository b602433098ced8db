-- `calibration::sample::Sample::sums` meets its contract.
use Rattle.std.proofs.Common.{◌≡◌, refl, rules, arith}
use Rattle.calibration.specs.Calibration.{plus_of}
use Rattle.charts.specs.ListLaws.{drop_next}
use Rattle.calibration.proofs.RangeLaws.{ranged_at, unset}
use Rattle.calibration.proofs.SizeLaws.{plus_ranged}
use Rattle.calibration.proofs.SumLaws.{none, none_ranged, sums_from}
use Rattle.calibration.proofs.SampleLaws.{all_ranged}
use Rattle.calibration.proofs.sample.Sample.sums.Goals as goal

pub loop-p-init : goal.loop-p-init
loop-p-init c =
    let e : c.default-u.result ≡ none = search rules in
    record { counted = rw e refl; ranged = rw e none_ranged; whole = rw e (sums_from c.args.self.pairs.now) }

pub plus-u-requires : goal.plus-u-requires
plus-u-requires c = (c.loop-p.invariant.ranged, omega arith, ranged_at c.args.self.pairs.now c.loop-p.p-index c.loop-p-test.true (all_ranged c.args.self.pairs.now c.args.self.ranged))

pub loop-p-preserved : goal.loop-p-preserved
unfolding plus_of
loop-p-preserved c =
    let ps = c.args.self.pairs.now in
    let i = c.loop-p.p-index in
    let h = c.loop-p-test.true in
    let e = c.plus-u.ensures in
    let left = rw (drop_next ps i unset h) at c.loop-p.invariant.whole in
    record {
      counted = rw e (omega arith);
      ranged = rw e (plus_ranged c.loop-p.invariant.ranged (omega arith) (ranged_at ps i h (all_ranged c.args.self.pairs.now c.args.self.ranged)));
      whole = rw e left;
    }
