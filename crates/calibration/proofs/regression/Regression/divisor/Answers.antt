-- `calibration::regression::Regression::divisor` meets its contract.
use Rattle.std.proofs.Common.{sym, ap, ◌∙◌}
use Rattle.std.specs.Prelude.{Bool}
use Rattle.charts.specs.SignedLocals.{mul_need, sub_need}
use Rattle.calibration.specs.Calibration.{divisor_of}
use Rattle.calibration.proofs.RegressionLaws.{N, X, XX, NZ, Flat, NXX, Square, Steep}
use Rattle.calibration.proofs.regression.Regression.divisor.Goals as goal

pub overflow_sub-result : goal.overflow_sub-result
overflow_sub-result c = let r = c.args.self in rw (c.from.ensures, c.from-then-self.ensures) (sub_need (X r) (NZ r) (Flat r).fit)

pub returns-then-self : goal.returns-then-self
unfolding divisor_of
returns-then-self c =
    let r = c.args.self in
    rw (c.from.ensures, c.from-then-self.ensures) ((Flat r).reads ∙ sym (ap (λ (b : Bool). divisor_of b r.sums r.z) c.if-self.true))

pub overflow_mul-result-2 : goal.overflow_mul-result-2
overflow_mul-result-2 c = let r = c.args.self in rw c.from-2.ensures (mul_need (N r) (XX r) (NXX r).fit)

pub overflow_mul-result-3 : goal.overflow_mul-result-3
overflow_mul-result-3 c = let r = c.args.self in mul_need (X r) (X r) (Square r).fit

pub overflow_sub-result-2 : goal.overflow_sub-result-2
overflow_sub-result-2 c = let r = c.args.self in rw c.from-2.ensures (sub_need (NXX r) (Square r) (Steep r).fit)

pub returns : goal.returns
unfolding divisor_of
returns c = let r = c.args.self in rw c.from-2.ensures ((Steep r).reads ∙ sym (ap (λ (b : Bool). divisor_of b r.sums r.z) c.if-self.false))
