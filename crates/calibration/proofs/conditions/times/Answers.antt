-- `calibration::conditions::times` meets its contract.
use Rattle.std.proofs.Common.{◌∙◌, ◌^◌, ◌≤◌, arith, mul-le-mul, to_z-of_z, SFits, w64}
use Rattle.std.specs.Prelude.{ℤ, nat_abs, ◌*ℤ◌}
use Rattle.charts.specs.Integers.{abs_prod, abs_sfits}
use Rattle.charts.specs.SignedLocals.{Loc, arg, mul}
use Rattle.calibration.proofs.conditions.times.Goals as goal

module _ (v n : ℤ) (F : SFits w64 v) (G : SFits w64 n) (V : nat_abs v ≤ 2 ^ 40) (N : nat_abs n ≤ 2 ^ 20) where
  small : nat_abs (v *ℤ n) ≤ 2 ^ 60
  small = omega (arith, abs_prod v n, mul-le-mul {n₂ = 2 ^ 40} {m₂ = 2 ^ 20} V N)

  abbrev P : Loc w64
  P = mul (arg v F) (arg n G) (abs_sfits (omega (arith, small)))

pub near-requires : goal.near-requires
near-requires c =
    let a = c.args in
    let q = c.requires in
    rw ((P a.v a.n c.ranges.v c.ranges.n q.0 q.1).reads, to_z-of_z {w = w64} c.ranges.d)
    (omega (arith, small a.v a.n c.ranges.v c.ranges.n q.0 q.1), q.2, omega (arith, q.3))

pub returns : goal.returns
returns c =
    let a = c.args in
    let q = c.requires in
    to_z-of_z {w = w64} (record { sfits = c.near.type_inv })
    ∙ c.near.ensures
    ∙ rw ((P a.v a.n c.ranges.v c.ranges.n q.0 q.1).reads, to_z-of_z {w = w64} c.ranges.d)
