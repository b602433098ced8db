-- `calibration::verdicts::covered` meets its contract.
use Rattle.std.proofs.Common.{◌∙◌, ap, ℕ, ◌-◌, ◌*◌, leb}
use Rattle.calibration.proofs.DividedLaws.{split_million}
use Rattle.calibration.proofs.verdicts.covered.Goals as goal

pub returns : goal.returns
returns c =
    let a = c.args in
    let t = c.t_factor.result in
    rw (c.from.ensures, c.from-t.ensures)
    (split_million ((a.n - 1) * (a.l * a.l)) (t * t) a.q ∙ ap (λ (x : ℕ). leb ((a.n - 1) * (a.l * a.l) * 1000000) (x * x * a.q)) c.t_factor.ensures.0)
