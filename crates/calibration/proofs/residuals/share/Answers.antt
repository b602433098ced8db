-- `calibration::residuals::share` meets its contract.
use Rattle.std.proofs.Common.{◌≡◌, ap, ◌∙◌, ◌≤◌, arith, SFits, w32, w64}
use Rattle.std.specs.Prelude.{ℕ, ℤ, pos, nat_abs, ◌*ℤ◌}
use mir.Val.{to_z, of_z}
use Rattle.charts.specs.Integers.{ints, abs_sfits}
use Rattle.charts.specs.SignedLocals.{Loc, arg, mul, cast, cast_need}
use Rattle.charts.specs.Rounding.{near_of}
use Rattle.calibration.proofs.RangeLaws.{wide}
use Rattle.calibration.proofs.SizeLaws.{product_size}
use Rattle.calibration.proofs.ResidualLaws.{share_bound}
use Rattle.calibration.proofs.residuals.share.Goals as goal
use Rattle.calibration.proofs.residuals.share.Goals.{After-near}

module _ (percent v : ℤ) (P : SFits w64 percent) (V : SFits w32 v) (Q : (nat_abs percent ≤ 110) × (nat_abs v ≤ 10000000)) where
  small : nat_abs (percent *ℤ v) ≤ 1100000000
  small = product_size {m = 110} {k = 10000000} percent v Q.0 Q.1

  abbrev PX : Loc w64
  PX = mul (arg percent P) (wide v V) (abs_sfits (omega (arith, small)))

  -- the rounded value, and that as i32
  module _ (edition : ℕ) {x : ℤ} (F : SFits w64 x) (e : x ≡ near_of edition (percent *ℤ v) (pos 100)) where
    small₁ : SFits w32 x
    small₁ = rw e (abs_sfits (omega (arith, share_bound edition percent v Q.0 Q.1)))

    narrow_need : SFits w32 (to_z w64 (of_z w64 x))
    narrow_need = cast_need w32 (arg x F) small₁

    narrowed : to_z w32 (of_z w32 (to_z w64 (of_z w64 x))) ≡ near_of edition (percent *ℤ v) (pos 100)
    narrowed = (cast w32 (arg x F) small₁).reads ∙ e

pub near-requires : goal.near-requires
near-requires c =
    let a = c.args in
    rw (c.from.ensures, (PX a.percent a.v c.ranges.percent c.ranges.v c.requires).reads)
    (omega (arith, small a.percent a.v c.ranges.percent c.ranges.v c.requires), omega ints, omega arith)

-- what is rounded is percent·v
rounded : (c : After-near) → c.near.result ≡ near_of c.args.edition (c.args.percent *ℤ c.args.v) (pos 100)
rounded c = c.near.ensures ∙ rw (c.from.ensures, (PX c.args.percent c.args.v c.ranges.percent c.ranges.v c.requires).reads)

pub overflow_cast-result : goal.overflow_cast-result
overflow_cast-result c =
    let a = c.args in
    let w : After-near = (goal.at.overflow_cast-result c).After-near in
    narrow_need a.percent a.v c.ranges.percent c.ranges.v c.requires a.edition (record { sfits = c.near.type_inv }) (rounded w)

pub returns : goal.returns
returns c =
    let a = c.args in
    let w : After-near = (goal.at.returns c).After-near in
    ap (λ (z : ℤ). record { 0 = z }) (narrowed a.percent a.v c.ranges.percent c.ranges.v c.requires a.edition (record { sfits = c.near.type_inv }) (rounded w))
