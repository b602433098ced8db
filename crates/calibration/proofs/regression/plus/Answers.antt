-- `calibration::regression::plus` meets its contract.
use Rattle.std.proofs.Common.{◌<◌, w64}
use Rattle.std.specs.Prelude.{pos, ◌+ℤ◌}
use Rattle.charts.specs.SignedLocals.{Loc, arg, add, add_need, mul}
use Rattle.calibration.specs.Pairs.{Between, PairRanged}
use Rattle.calibration.proofs.RangeLaws.{between_fits, wide}
use Rattle.calibration.specs.Calibration.{plus_of}
use Rattle.calibration.specs.InCode.{SumsRanged}
use Rattle.calibration.specs.declared.pairs.Pair.{Pair}
use Rattle.calibration.specs.declared.regression.Sums.{Sums}
use Rattle.calibration.proofs.SizeLaws.{x_ranged, y_ranged, xy_ranged, xx_ranged, product_between, plus_ranged}
use Rattle.calibration.proofs.regression.plus.Goals as goal

-- the pair's x and y, their products, and each sum with its new term
module _ (u : Sums) (p : Pair) (Q : SumsRanged u × (u.n < 30) × PairRanged p) where
  abbrev X : Loc w64
  X = wide p.signal (between_fits tt Q.2.signal)

  abbrev Y : Loc w64
  Y = wide p.srm.0 (between_fits tt Q.2.srm)

  abbrev XY : Loc w64
  XY = mul X Y (between_fits tt (product_between Q.2.signal Q.2.srm))

  abbrev XX : Loc w64
  XX = mul X X (between_fits tt (product_between Q.2.signal Q.2.signal))

  ranged : SumsRanged (plus_of u p)
  ranged = plus_ranged Q.0 Q.1 Q.2

  new-x : Between (pos 0) (pos 12000000) (u.x +ℤ X.num)
  unfolding plus_of
  new-x = x_ranged ranged

  new-y : Between (pos 0) (pos 12000000) (u.y +ℤ Y.num)
  unfolding plus_of
  new-y = y_ranged ranged

  new-xy : Between (pos 0) (pos 4800000000000) (u.xy +ℤ XY.num)
  unfolding plus_of
  new-xy = xy_ranged ranged

  new-xx : Between (pos 0) (pos 4800000000000) (u.xx +ℤ XX.num)
  unfolding plus_of
  new-xx = xx_ranged ranged

  abbrev Uxy : Loc w64
  Uxy = arg u.xy (between_fits tt (xy_ranged Q.0))

  abbrev Uxx : Loc w64
  Uxx = arg u.xx (between_fits tt (xx_ranged Q.0))

  abbrev Nx : Loc w64
  Nx = add (arg u.x (between_fits tt (x_ranged Q.0))) X (between_fits tt new-x)

  abbrev Ny : Loc w64
  Ny = add (arg u.y (between_fits tt (y_ranged Q.0))) Y (between_fits tt new-y)

  abbrev Nxy : Loc w64
  Nxy = add Uxy XY (between_fits tt new-xy)

  abbrev Nxx : Loc w64
  Nxx = add Uxx XX (between_fits tt new-xx)

pub overflow_add-result-4 : goal.overflow_add-result-4
overflow_add-result-4 c =
    let u = c.args.u in
    let p = c.args.p in
    let q = c.requires in
    rw (c.from-x.ensures, c.from-y.ensures) (add_need (Uxy u p q) (XY u p q) (Nxy u p q).fit)

pub overflow_add-result-5 : goal.overflow_add-result-5
overflow_add-result-5 c =
    let u = c.args.u in
    let p = c.args.p in
    let q = c.requires in
    rw c.from-x.ensures (add_need (Uxx u p q) (XX u p q) (Nxx u p q).fit)

pub returns : goal.returns
unfolding plus_of
returns c =
    let u = c.args.u in
    let p = c.args.p in
    let q = c.requires in
    rw (c.from-x.ensures, c.from-y.ensures, (Nx u p q).reads, (Ny u p q).reads, (Nxy u p q).reads, (Nxx u p q).reads)
