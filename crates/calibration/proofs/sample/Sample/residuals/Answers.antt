-- `calibration::sample::Sample::residuals` meets its contract.
use Rattle.std.proofs.Common.{◌≡◌, ◌∙◌, ◌<◌, false, ℕ, List, length, drop, get_or, arith}
use Rattle.calibration.specs.Calibration.{measured_of, c_of, far_of, some_beyond}
use Rattle.charts.specs.ListLaws.{drop_next}
use Rattle.calibration.proofs.RangeLaws.{ranged_at, unset}
use Rattle.calibration.proofs.ResidualLaws.{with_residual_of_pair, pair_near, near_at, residuals_from, begun_ranged, with_residual_ranged}
use Rattle.calibration.specs.declared.pairs.Basis.{Basis}
use Rattle.calibration.specs.declared.line.Line.{Line}
use Rattle.calibration.specs.declared.pairs.Pair.{Pair}
use Rattle.calibration.proofs.SampleLaws.{all_ranged}
use Rattle.calibration.proofs.sample.Sample.residuals.Goals as goal

pub loop-p-init : goal.loop-p-init
loop-p-init c =
    let ps = c.args.self.pairs.now in
    let e = c.fitted_value.ensures in
    let edition = c.args.self.basis.edition in
    let o = c.args.self.basis.requirements.oxygen in
    let p = get_or ps 0 unset in
    record {
      ranged = rw e (begun_ranged edition o c.args.l p (near_at edition o c.args.l ps 0 c.args.self.some c.requires.1));
      whole = rw (e, drop_next ps 0 unset c.args.self.some) (residuals_from edition o c.args.l p (drop 1 ps));
    }

pub fitted_value-requires : goal.fitted_value-requires
fitted_value-requires c = (c.requires.0, ranged_at c.args.self.pairs.now 0 c.args.self.some (all_ranged c.args.self.pairs.now c.args.self.ranged))

pub measured-requires : goal.measured-requires
measured-requires c = (ranged_at c.args.self.pairs.now c.loop-p.p-index c.loop-p-test.true (all_ranged c.args.self.pairs.now c.args.self.ranged))

pub fitted_value-requires-in-loop-p : goal.fitted_value-requires-in-loop-p
fitted_value-requires-in-loop-p c = (c.requires.0, ranged_at c.args.self.pairs.now c.loop-p.p-index c.loop-p-test.true (all_ranged c.args.self.pairs.now c.args.self.ranged))

-- y' and c of a turn's pair
near : (b : Basis) (l : Line) (ps : List Pair) (i : ℕ) → i < length ps → some_beyond b.edition b.requirements.oxygen l ps ≡ false
    → (far_of (measured_of b.edition b.requirements.oxygen (get_or ps i unset)) ≡ false) × (far_of (c_of b.edition b.requirements.oxygen l (get_or ps i unset)) ≡ false)
near b l ps i h B = pair_near b.edition b.requirements.oxygen l (get_or ps i unset) (near_at b.edition b.requirements.oxygen l ps i h B)

pub with_residual-r-requires : goal.with_residual-r-requires
with_residual-r-requires c =
    let R = c.loop-p.invariant.ranged in
    let f = near c.args.self.basis c.args.l c.args.self.pairs.now c.loop-p.p-index c.loop-p-test.true c.requires.1 in
    (omega (arith, R.sum), omega (arith, R.squares), rw c.measured.ensures f.0, rw c.fitted_value-in-loop-p.ensures f.1)

pub loop-p-preserved : goal.loop-p-preserved
loop-p-preserved c =
    let ps = c.args.self.pairs.now in
    let i = c.loop-p.p-index in
    let h = c.loop-p-test.true in
    let edition = c.args.self.basis.edition in
    let o = c.args.self.basis.requirements.oxygen in
    let p = get_or ps i unset in
    let f = near c.args.self.basis c.args.l ps i h c.requires.1 in
    let e : c.with_residual-r.result ≡ with_residual_of_pair edition o c.args.l c.loop-p.r p = c.with_residual-r.ensures ∙ rw (c.measured.ensures, c.fitted_value-in-loop-p.ensures) in
    let left = rw (drop_next ps i unset h) at c.loop-p.invariant.whole in
    record {
      ranged = rw e (with_residual_ranged (measured_of edition o p) (c_of edition o c.args.l p) c.loop-p.invariant.ranged f.0 f.1);
      whole = rw e left;
    }
