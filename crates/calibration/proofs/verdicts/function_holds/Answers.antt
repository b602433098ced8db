-- `calibration::verdicts::function_holds` meets its contract.
use Rattle.std.proofs.Common.{◌≡◌, sym, ap, ◌∙◌, ◌-◌, ◌*◌, ℕ, arith, leb, rules}
use Rattle.std.specs.Prelude.{nat_abs}
use Rattle.calibration.specs.Annual.{t_of}
use Rattle.calibration.proofs.DividedLaws.{function_under, function_over}
use Rattle.calibration.proofs.verdicts.function_holds.Goals as goal

pub returns-then-a-b : goal.returns-then-a-b
returns-then-a-b c =
    let a = c.args in
    let e : c.unsigned_abs-a.result ≡ nat_abs a.sum = search rules in
    let h = rw (c.from.ensures, c.from-2.ensures) at c.if-a-b.true in
    sym (function_under a.n a.sum a.q a.sigma (omega arith))

pub returns : goal.returns
returns c =
    let a = c.args in
    let e : c.unsigned_abs-a.result ≡ nat_abs a.sum = search rules in
    let h = rw (c.from.ensures, c.from-2.ensures) at c.if-a-b.false in
    c.covered.ensures
    ∙ rw (c.from.ensures, c.from-2.ensures) (ap (λ (m : ℕ). leb ((a.n - 1) * ((m - a.n * a.sigma) * (m - a.n * a.sigma)) * 1000000) (t_of a.n * t_of a.n * a.q)) e)
    ∙ sym (function_over a.n a.sum a.q a.sigma (omega arith))
