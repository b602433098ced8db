-- `calibration::regression::Regression::rise` meets its contract.
use Rattle.std.proofs.Common.{sym, ap, ◌∙◌}
use Rattle.std.specs.Prelude.{Bool}
use Rattle.charts.specs.SignedLocals.{mul_need, sub_need}
use Rattle.calibration.specs.Calibration.{rise_of}
use Rattle.calibration.proofs.RegressionLaws.{N, X, Y, XY, NXY, P, Rise}
use Rattle.calibration.proofs.regression.Regression.rise.Goals as goal

pub returns-then-self : goal.returns-then-self
unfolding rise_of
returns-then-self c = let r = c.args.self in (Y r).reads ∙ sym (ap (λ (b : Bool). rise_of b r.sums) c.if-self.true)

pub overflow_mul-result : goal.overflow_mul-result
overflow_mul-result c = let r = c.args.self in rw c.from.ensures (mul_need (N r) (XY r) (NXY r).fit)

pub overflow_mul-result-2 : goal.overflow_mul-result-2
overflow_mul-result-2 c = let r = c.args.self in mul_need (X r) (Y r) (P r).fit

pub overflow_sub-result : goal.overflow_sub-result
overflow_sub-result c = let r = c.args.self in rw c.from.ensures (sub_need (NXY r) (P r) (Rise r).fit)

pub returns : goal.returns
unfolding rise_of
returns c = let r = c.args.self in rw c.from.ensures ((Rise r).reads ∙ sym (ap (λ (b : Bool). rise_of b r.sums) c.if-self.false))
