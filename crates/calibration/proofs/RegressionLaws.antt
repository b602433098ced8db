-- The sums of a regression as the machine's numbers: each fits, and so does each product of two.
use Rattle.std.proofs.Common.{arith, ◌≤◌, w64}
use Rattle.std.specs.Prelude.{pos, nat_abs, ◌*ℤ◌}
use Rattle.charts.specs.Integers.{abs_sfits, abs_diff}
use Rattle.charts.specs.SignedLocals.{Loc, arg, lit, sub, mul}
use Rattle.calibration.proofs.RangeLaws.{between_abs, between_fits, wide}
use Rattle.calibration.proofs.SizeLaws.{n_ranged, x_ranged, y_ranged, xy_ranged, xx_ranged, product_between, product_size, apart}
use Rattle.calibration.specs.declared.regression.Regression.{Regression}

module _ (r : Regression) where
  abbrev pub N : Loc w64
  N = lit r.sums.n (omega (arith, r.summed.n))

  abbrev pub X : Loc w64
  X = arg r.sums.x (between_fits tt (x_ranged r.summed))

  abbrev pub Y : Loc w64
  Y = arg r.sums.y (between_fits tt (y_ranged r.summed))

  abbrev pub XY : Loc w64
  XY = arg r.sums.xy (between_fits tt (xy_ranged r.summed))

  abbrev pub XX : Loc w64
  XX = arg r.sums.xx (between_fits tt (xx_ranged r.summed))

  abbrev pub Z : Loc w64
  Z = wide r.z (between_fits tt r.offset)

  -- NΣxy - ΣxΣy
  abbrev pub NXY : Loc w64
  NXY = mul N XY (between_fits tt (product_between (n_ranged r.summed) (xy_ranged r.summed)))

  abbrev pub P : Loc w64
  P = mul X Y (between_fits tt (product_between (x_ranged r.summed) (y_ranged r.summed)))

  abbrev pub Rise : Loc w64
  Rise = sub NXY P (abs_sfits (omega (arith, apart (product_between (n_ranged r.summed) (xy_ranged r.summed)) (product_between (x_ranged r.summed) (y_ranged r.summed)))))

  -- Σx - NZ
  pub nz-small : nat_abs (pos r.sums.n *ℤ r.z) ≤ 300000
  nz-small = product_size (pos r.sums.n) r.z r.summed.n (between_abs r.offset)

  abbrev pub NZ : Loc w64
  NZ = mul N Z (abs_sfits (omega (arith, nz-small)))

  abbrev pub Flat : Loc w64
  Flat = sub X NZ (abs_sfits (omega (arith, abs_diff X.num NZ.num, between_abs (x_ranged r.summed), nz-small)))

  -- NΣx² - (Σx)²
  abbrev pub NXX : Loc w64
  NXX = mul N XX (between_fits tt (product_between (n_ranged r.summed) (xx_ranged r.summed)))

  abbrev pub Square : Loc w64
  Square = mul X X (between_fits tt (product_between (x_ranged r.summed) (x_ranged r.summed)))

  abbrev pub Steep : Loc w64
  Steep = sub NXX Square (abs_sfits (omega (arith, apart (product_between (n_ranged r.summed) (xx_ranged r.summed)) (product_between (x_ranged r.summed) (x_ranged r.summed)))))
