-- `calibration::regression::Regression::intercept` meets its contract.
use Rattle.std.proofs.Common.{sym, ap, ◌∙◌, ◌≤◌, arith, to_z-of_z, w64}
use Rattle.std.specs.Prelude.{Bool, ℤ, pos, nat_abs, ◌-ℤ◌, ◌*ℤ◌}
use lib.Dec.{lit<}
use Rattle.charts.specs.Integers.{abs_sfits, abs_diff, ud_lt}
use Rattle.charts.specs.SignedLocals.{Loc, lit, sub, sub_need, mul, mul_need, zero_minus}
use Rattle.calibration.specs.Pairs.{Between}
use Rattle.calibration.proofs.RangeLaws.{between_abs, between_fits, wide}
use Rattle.calibration.specs.Calibration.{intercept_of}
use Rattle.calibration.proofs.SizeLaws.{x_ranged, y_ranged, product_size}
use Rattle.calibration.proofs.RegressionLaws.{N, X, Y, Z}
use Rattle.calibration.specs.declared.regression.Regression.{Regression}
use Rattle.calibration.proofs.regression.Regression.intercept.Goals as goal

abbrev Zero : Loc w64
Zero = lit 0 (lit< tt)

module _ (r : Regression) (b : ℤ) (Q : Between (pos 1) (pos 1000000) b) where
  abbrev B : Loc w64
  B = wide b (between_fits tt Q)

  bz-small : nat_abs (b *ℤ r.z) ≤ 10000000000
  bz-small = product_size b r.z (between_abs Q) (between_abs r.offset)

  abbrev BZ : Loc w64
  BZ = mul B (Z r) (abs_sfits (omega (arith, bz-small)))

  abbrev A₁ : Loc w64
  A₁ = sub Zero BZ (abs_sfits (omega (arith, abs_diff (pos 0) BZ.num, bz-small)))

  ky-small : nat_abs (pos 100000 *ℤ r.sums.y) ≤ 1200000000000
  ky-small = product_size {m = 100000} (pos 100000) r.sums.y (omega arith) (between_abs (y_ranged r.summed))

  bx-small : nat_abs (b *ℤ r.sums.x) ≤ 12000000000000
  bx-small = product_size b r.sums.x (between_abs Q) (between_abs (x_ranged r.summed))

  abbrev KY : Loc w64
  KY = mul (lit 100000 (lit< tt)) (Y r) (abs_sfits (omega (arith, ky-small)))

  abbrev BX : Loc w64
  BX = mul B (X r) (abs_sfits (omega (arith, bx-small)))

  numerator-small : nat_abs (KY.num -ℤ BX.num) ≤ 13200000000000
  numerator-small = omega (arith, abs_diff KY.num BX.num, ky-small, bx-small)

  abbrev M : Loc w64
  M = sub KY BX (abs_sfits (omega (arith, numerator-small)))

pub overflow_sub-result : goal.overflow_sub-result
overflow_sub-result c = let r = c.args.self in rw (c.from-m.ensures, c.from.ensures) (sub_need Zero (BZ r c.args.b c.requires) (A₁ r c.args.b c.requires).fit)

pub returns-then-self : goal.returns-then-self
unfolding intercept_of
returns-then-self c =
    let r = c.args.self in
    let a = c.args in
    rw (c.from-m.ensures, c.from.ensures)
    ((A₁ r a.b c.requires).reads ∙ zero_minus (BZ r a.b c.requires).num ∙ sym (ap (λ (f : Bool). intercept_of a.edition f r.sums r.z a.b) c.if-self.true))

pub overflow_mul-m : goal.overflow_mul-m
overflow_mul-m c = let r = c.args.self in rw c.from-m.ensures (mul_need (B r c.args.b c.requires) (X r) (BX r c.args.b c.requires).fit)

pub overflow_sub-u : goal.overflow_sub-u
overflow_sub-u c = let r = c.args.self in rw c.from-m.ensures (sub_need (KY r c.args.b c.requires) (BX r c.args.b c.requires) (M r c.args.b c.requires).fit)

pub near-requires : goal.near-requires
near-requires c =
    let r = c.args.self in
    rw (c.from-m.ensures, c.from-2.ensures, (M r c.args.b c.requires).reads, (N r).reads)
    (omega (arith, numerator-small r c.args.b c.requires), ud_lt (omega (arith, r.some)), omega (arith, r.summed.n))

pub returns : goal.returns
unfolding intercept_of
returns c =
    let r = c.args.self in
    let a = c.args in
    to_z-of_z {w = w64} (record { sfits = c.near.type_inv })
    ∙ c.near.ensures
    ∙ rw (c.from-m.ensures, c.from-2.ensures, (M r a.b c.requires).reads, (N r).reads) (sym (ap (λ (f : Bool). intercept_of a.edition f r.sums r.z a.b) c.if-self.false))
