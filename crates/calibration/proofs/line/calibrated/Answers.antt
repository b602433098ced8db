-- `calibration::line::calibrated` meets its contract.
use Rattle.std.proofs.Common.{◌≡◌, ap, ◌∙◌, arith, w32, w64}
use Rattle.std.specs.Prelude.{ℕ, ℤ, pos}
use mir.Val.{SFits, to_z, of_z}
use Rattle.charts.specs.Integers.{ints, abs_sfits}
use Rattle.charts.specs.SignedLocals.{Loc, arg, mul, add, add_need, cast_need, cast}
use Rattle.calibration.specs.Calibration.{LineRanged, calibrated_of}
use Rattle.calibration.specs.Pairs.{Between}
use Rattle.calibration.proofs.RangeLaws.{between_fits, wide}
use Rattle.calibration.specs.declared.line.Line.{Line}
use Rattle.calibration.proofs.ConditionLaws.{bx_bound, line_bound, calibrated_bound}
use Rattle.calibration.proofs.line.calibrated.Goals as goal
use Rattle.calibration.proofs.line.calibrated.Goals.{After-near-v}

module _ (l : Line) (x : ℤ) (Q : LineRanged l × Between (pos 0) (pos 400000) x) where
  abbrev A : Loc w64
  A = arg l.intercept (between_fits tt Q.0.intercept)

  abbrev BX : Loc w64
  BX = mul (wide l.slope (between_fits tt Q.0.slope)) (wide x (between_fits tt Q.1)) (abs_sfits (omega (arith, bx_bound Q.0 Q.1)))

  abbrev S : Loc w64
  S = add A BX (abs_sfits (omega (arith, line_bound Q.0 Q.1)))

  -- the rounded value, and that as i32
  module _ (edition : ℕ) {v : ℤ} (F : SFits w64 v) (e : v ≡ (calibrated_of edition l x).0) where
    small : SFits w32 v
    small = rw e (abs_sfits (omega (arith, calibrated_bound edition l x Q.0 Q.1)))

    narrow_need : SFits w32 (to_z w64 (of_z w64 v))
    narrow_need = cast_need w32 (arg v F) small

    narrowed : to_z w32 (of_z w32 (to_z w64 (of_z w64 v))) ≡ (calibrated_of edition l x).0
    narrowed = (cast w32 (arg v F) small).reads ∙ e

pub overflow_add-l : goal.overflow_add-l
overflow_add-l c =
    let l = c.args.l in
    let x = c.args.x in
    let q = c.requires in
    rw (c.from.ensures, c.from-2.ensures) (add_need (A l x q) (BX l x q) (S l x q).fit)

pub near-v-requires : goal.near-v-requires
near-v-requires c = rw (c.from.ensures, c.from-2.ensures, (S c.args.l c.args.x c.requires).reads) (omega (arith, line_bound c.requires.0 c.requires.1), omega ints, omega arith)

-- what is rounded is A + Bx
rounded : (c : After-near-v) → c.near-v.result ≡ (calibrated_of c.args.edition c.args.l c.args.x).0
unfolding calibrated_of
rounded c = c.near-v.ensures ∙ rw (c.from.ensures, c.from-2.ensures, (S c.args.l c.args.x c.requires).reads)

pub overflow_cast-result : goal.overflow_cast-result
overflow_cast-result c =
    let w : After-near-v = (goal.at.overflow_cast-result c).After-near-v in
    narrow_need c.args.l c.args.x c.requires c.args.edition (record { sfits = c.near-v.type_inv }) (rounded w)

pub returns : goal.returns
returns c =
    let w : After-near-v = (goal.at.returns c).After-near-v in
    ap (λ (z : ℤ). record { 0 = z }) (narrowed c.args.l c.args.x c.requires c.args.edition (record { sfits = c.near-v.type_inv }) (rounded w))
