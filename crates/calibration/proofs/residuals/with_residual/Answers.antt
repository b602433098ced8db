-- `calibration::residuals::with_residual` meets its contract.
use Rattle.std.proofs.Common.{◌≡◌, ◌≤◌, false, arith, w64}
use Rattle.std.specs.Prelude.{nat_abs}
use Rattle.charts.specs.Integers.{abs_sum, abs_sfits}
use Rattle.charts.specs.SignedLocals.{Loc, arg, add, add_need, sub, mul, mul_need}
use Rattle.calibration.specs.Calibration.{far_of}
use Rattle.calibration.specs.InCode.{with_residual_of}
use Rattle.calibration.proofs.RangeLaws.{between_fits, wide}
use Rattle.calibration.proofs.OrderLaws.{max_is}
use Rattle.calibration.proofs.ResidualLaws.{not_far, residual_size, square_size}
use Rattle.calibration.specs.declared.residuals.Residuals.{Residuals}
use Rattle.calibration.specs.declared.conditions.Standard.{Standard}
use Rattle.calibration.proofs.residuals.with_residual.Goals as goal

module _ (r : Residuals) (y v : Standard) (S : nat_abs r.sum ≤ 600000000) (Q : nat_abs r.squares ≤ 12000000000000000) (Y : far_of y ≡ false) (C : far_of v ≡ false) where
  abbrev D : Loc w64
  D = sub (wide y.0 (between_fits tt (not_far y Y))) (wide v.0 (between_fits tt (not_far v C))) (abs_sfits (omega (arith, residual_size y v Y C)))

  abbrev sum : Loc w64
  sum = arg r.sum (abs_sfits (omega (arith, S)))

  abbrev sum₁ : Loc w64
  sum₁ = add sum D (abs_sfits (omega (arith, S, abs_sum sum.num D.num, residual_size y v Y C)))

  abbrev DD : Loc w64
  DD = mul D D (abs_sfits (omega (arith, square_size y v Y C)))

  abbrev squares : Loc w64
  squares = arg r.squares (abs_sfits (omega (arith, Q)))

  abbrev squares₁ : Loc w64
  squares₁ = add squares DD (abs_sfits (omega (arith, Q, abs_sum squares.num DD.num, square_size y v Y C)))

pub overflow_mul-result : goal.overflow_mul-result
overflow_mul-result c =
    let q = c.requires in
    let a = c.args in
    rw (c.from.ensures, c.from-2.ensures) (mul_need (D a.r a.y a.c q.0 q.1 q.2 q.3) (D a.r a.y a.c q.0 q.1 q.2 q.3) (DD a.r a.y a.c q.0 q.1 q.2 q.3).fit)

pub overflow_add-result-2 : goal.overflow_add-result-2
overflow_add-result-2 c =
    let q = c.requires in
    let a = c.args in
    rw (c.from.ensures, c.from-2.ensures) (add_need (squares a.r a.y a.c q.0 q.1 q.2 q.3) (DD a.r a.y a.c q.0 q.1 q.2 q.3) (squares₁ a.r a.y a.c q.0 q.1 q.2 q.3).fit)

pub returns : goal.returns
unfolding with_residual_of
returns c =
    let q = c.requires in
    let a = c.args in
    rw (c.max.ensures, max_is a.r.most a.c, c.from.ensures, c.from-2.ensures, (sum₁ a.r a.y a.c q.0 q.1 q.2 q.3).reads, (squares₁ a.r a.y a.c q.0 q.1 q.2 q.3).reads)
