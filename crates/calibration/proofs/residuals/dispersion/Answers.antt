-- `calibration::residuals::dispersion` meets its contract.
use Rattle.std.proofs.Common.{◌≤◌, arith, w64}
use Rattle.std.specs.Prelude.{ℕ, pos, nat_abs, ◌*ℤ◌}
use Rattle.charts.specs.Integers.{abs_diff, abs_sfits}
use Rattle.charts.specs.SignedLocals.{Loc, arg, lit, sub, sub_need, mul, mul_need}
use Rattle.calibration.proofs.SizeLaws.{product_size}
use Rattle.charts.proofs.CastLaws.{unsigned}
use Rattle.calibration.specs.declared.residuals.Residuals.{Residuals}
use Rattle.calibration.proofs.residuals.dispersion.Goals as goal

module _ (n : ℕ) (r : Residuals) (N : n ≤ 30) (S : nat_abs r.sum ≤ 600000000) (Q : nat_abs r.squares ≤ 12000000000000000) where
  nq-small : nat_abs (pos n *ℤ r.squares) ≤ 360000000000000000
  nq-small = product_size (pos n) r.squares N Q

  ss-small : nat_abs (r.sum *ℤ r.sum) ≤ 360000000000000000
  ss-small = product_size r.sum r.sum S S

  abbrev count : Loc w64
  count = lit n (omega (arith, N))

  abbrev squares : Loc w64
  squares = arg r.squares (abs_sfits (omega (arith, Q)))

  abbrev NQ : Loc w64
  NQ = mul count squares (abs_sfits (omega (arith, nq-small)))

  abbrev SS : Loc w64
  SS = mul (arg r.sum (abs_sfits (omega (arith, S)))) (arg r.sum (abs_sfits (omega (arith, S)))) (abs_sfits (omega (arith, ss-small)))

  abbrev D : Loc w64
  D = sub NQ SS (abs_sfits (omega (arith, abs_diff NQ.num SS.num, nq-small, ss-small)))

pub overflow_mul-from : goal.overflow_mul-from
overflow_mul-from c =
    let q = c.requires in
    let a = c.args in
    rw c.from.ensures (mul_need (count a.n a.r q.0 q.1 q.2) (squares a.n a.r q.0 q.1 q.2) (NQ a.n a.r q.0 q.1 q.2).fit)

pub overflow_sub-from : goal.overflow_sub-from
overflow_sub-from c =
    let q = c.requires in
    let a = c.args in
    rw c.from.ensures (sub_need (NQ a.n a.r q.0 q.1 q.2) (SS a.n a.r q.0 q.1 q.2) (D a.n a.r q.0 q.1 q.2).fit)

pub returns : goal.returns
returns c =
    let q = c.requires in
    unsigned (D c.args.n c.args.r q.0 q.1 q.2) q.3 (rw c.from.ensures at c.cast_unsigned.ensures)
