-- `calibration::verdicts::varied` meets its contract.
use Rattle.std.proofs.Common.{◌*◌, ◌≤◌, arith, ℕ, mul-le-mul}
use Rattle.calibration.proofs.DividedLaws.{divided}
use Rattle.calibration.proofs.verdicts.varied.Goals as goal

right-small : {m s k : ℕ} → m ≤ 870 → s ≤ 10000 → k ≤ 10000 → m * (s * s) * (k * k) ≤ 8700000000000000000
right-small M S K = mul-le-mul {n₂ = 87000000000} {m₂ = 100000000} (mul-le-mul {n₂ = 870} {m₂ = 100000000} M (mul-le-mul {n₂ = 10000} {m₂ = 10000} S S)) (mul-le-mul {n₂ = 10000} {m₂ = 10000} K K)

pub overflow_mul-result-4 : goal.overflow_mul-result-4
overflow_mul-result-4 c = rw (c.from.ensures, c.from-s.ensures, c.from-f.ensures) (omega (arith, right-small c.requires.1 c.requires.2 c.requires.3))

pub returns : goal.returns
returns c =
    let a = c.args in
    rw (c.from.ensures, c.from-s.ensures, c.from-f.ensures) (divided a.scale a.q (a.m * (a.sigma * a.sigma) * (a.k * a.k)) c.requires.0)
