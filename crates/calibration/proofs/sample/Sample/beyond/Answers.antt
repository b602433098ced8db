-- `calibration::sample::Sample::beyond` meets its contract.
use Rattle.calibration.specs.Calibration.{beyond_of}
use Rattle.charts.specs.ListLaws.{drop_next}
use Rattle.calibration.proofs.RangeLaws.{ranged_at, unset}
use Rattle.calibration.proofs.SampleLaws.{all_ranged}
use Rattle.calibration.proofs.sample.Sample.beyond.Goals as goal

pub measured-requires : goal.measured-requires
measured-requires c = (ranged_at c.args.self.pairs.now c.loop-p.p-index c.loop-p-test.true (all_ranged c.args.self.pairs.now c.args.self.ranged))

pub fitted_value-requires : goal.fitted_value-requires
fitted_value-requires c = (c.requires, ranged_at c.args.self.pairs.now c.loop-p.p-index c.loop-p-test.true (all_ranged c.args.self.pairs.now c.args.self.ranged))

pub returns-then-far : goal.returns-then-far
unfolding beyond_of
returns-then-far c =
    let left = rw (drop_next c.args.self.pairs.now c.loop-p.p-index unset c.loop-p-test.true) at c.loop-p.invariant in
    let here = rw (c.far.ensures, c.far-in-loop-p.ensures, c.measured.ensures, c.fitted_value.ensures) at c.if-far.true in
    rw here at left

pub loop-p-preserved : goal.loop-p-preserved
unfolding beyond_of
loop-p-preserved c =
    let left = rw (drop_next c.args.self.pairs.now c.loop-p.p-index unset c.loop-p-test.true) at c.loop-p.invariant in
    let here = rw (c.far.ensures, c.far-in-loop-p.ensures, c.measured.ensures, c.fitted_value.ensures) at c.if-far.false in
    rw here at left
