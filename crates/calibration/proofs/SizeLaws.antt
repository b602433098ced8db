-- How large the sums over the pairs, and what is worked out of them, can be. Of the rounding only its laws are used.
use Rattle.std.specs.Prelude.{◌≡◌, Bool, ℕ, ◌+◌, ◌*◌, ◌≤◌, ◌<◌, ℤ, pos, neg_ℤ, nat_abs, ◌+ℤ◌, ◌-ℤ◌, ◌*ℤ◌}
use Rattle.std.proofs.Common.{ap, ◌∙◌, arith, mul-le-mul, mul-le-mul_left}
use Rattle.std.proofs.Math.Bool.{true, false}
use Rattle.charts.specs.Integers.{sum, diff, one_zero, abs_ud, up_neg, dn_neg, le_ud, ud_le, ud_lt, abs_diff, abs_prod}
use Rattle.charts.proofs.RoundingLaws.{near_bound}
use Rattle.calibration.specs.Pairs.{Between, PairRanged, ZRanged}
use Rattle.calibration.proofs.RangeLaws.{between_abs, between_size, between_above, between_pos}
use Rattle.calibration.specs.Calibration.{plus_of, rise_of, divisor_of, intercept_of, LineRanged}
use Rattle.calibration.specs.InCode.{SumsRanged}
use Rattle.calibration.specs.declared.pairs.Pair.{Pair}
use Rattle.calibration.specs.declared.regression.Sums.{Sums}

-- ---- numbers from 0 up to a bound

-- a natural number
pub up_to : {m n : ℕ} → n ≤ m → Between (pos 0) (pos m) (pos n)
up_to h = record { low = ud_le (omega arith); high = ud_le (omega arith) }

pub product_between : {a b : ℕ} {x y : ℤ} → Between (pos 0) (pos a) x → Between (pos 0) (pos b) y → Between (pos 0) (pos (a * b)) (x *ℤ y)
product_between {x} {y} X Y =
    let p : x *ℤ y ≡ pos (nat_abs x * nat_abs y) = ap (λ (z : ℤ). z *ℤ y) (between_pos X) ∙ ap (λ (z : ℤ). pos (nat_abs x) *ℤ z) (between_pos Y) in
    rw p (up_to (mul-le-mul (between_size X).1 (between_size Y).1))

-- a sum of n terms with one more
pub more_between : (k n : ℕ) {x y : ℤ} → Between (pos 0) (pos (k * n)) x → Between (pos 0) (pos k) y → Between (pos 0) (pos (k * (n + 1))) (x +ℤ y)
more_between k n {x} {y} X Y =
    let f₁ = le_ud X.low in
    let f₂ = le_ud X.high in
    let f₃ = le_ud Y.low in
    let f₄ = le_ud Y.high in
    let f₅ = sum x y in
    record { low = ud_le (omega arith); high = ud_le (omega arith) }

-- a larger bound
within : {a b : ℕ} {x : ℤ} → Between (pos 0) (pos a) x → a ≤ b → Between (pos 0) (pos b) x
within X h = record { low = X.low; high = ud_le (omega (arith, le_ud X.high)) }

-- two such numbers are no further apart than the bound
pub apart : {m : ℕ} {x y : ℤ} → Between (pos 0) (pos m) x → Between (pos 0) (pos m) y → nat_abs (x -ℤ y) ≤ m
apart {x} {y} X Y = omega (arith, le_ud X.low, le_ud X.high, le_ud Y.low, le_ud Y.high, diff x y, abs_ud (x -ℤ y), one_zero (x -ℤ y))

-- the size of a product
pub product_size : {m k : ℕ} (x y : ℤ) → nat_abs x ≤ m → nat_abs y ≤ k → nat_abs (x *ℤ y) ≤ m * k
product_size x y h g = omega (arith, abs_prod x y, mul-le-mul h g)

-- ---- the sums
module _ {u : Sums} (U : SumsRanged u) where
  pub n_ranged : Between (pos 0) (pos 30) (pos u.n)
  n_ranged = up_to U.n

  pub x_ranged : Between (pos 0) (pos 12000000) u.x
  x_ranged = within U.x (mul-le-mul_left 400000 U.n)

  pub y_ranged : Between (pos 0) (pos 12000000) u.y
  y_ranged = within U.y (mul-le-mul_left 400000 U.n)

  pub xy_ranged : Between (pos 0) (pos 4800000000000) u.xy
  xy_ranged = within U.xy (mul-le-mul_left 160000000000 U.n)

  pub xx_ranged : Between (pos 0) (pos 4800000000000) u.xx
  xx_ranged = within U.xx (mul-le-mul_left 160000000000 U.n)

  -- B's numerator, but for the factor 100000
  pub rise_bound : (flat : Bool) → nat_abs (rise_of flat u) ≤ 144000000000000
  unfolding rise_of
  rise_bound true = omega (arith, between_abs y_ranged)
  rise_bound false = apart (product_between n_ranged xy_ranged) (product_between x_ranged y_ranged)

-- B's divisor
pub divisor_bound : {u : Sums} {z : ℤ} → SumsRanged u → ZRanged z → (flat : Bool) → nat_abs (divisor_of flat u z) ≤ 144000000000000
unfolding divisor_of
divisor_bound {u} {z} U Z true =
    omega (arith, abs_diff u.x (pos u.n *ℤ z), between_abs (x_ranged U), product_size (pos u.n) z U.n (between_abs Z))
divisor_bound {u} U Z false = apart (product_between (n_ranged U) (xx_ranged U)) (product_between (x_ranged U) (x_ranged U))

-- one pair more
pub plus_ranged : {u : Sums} {p : Pair} → SumsRanged u → u.n < 30 → PairRanged p → SumsRanged (plus_of u p)
unfolding plus_of
plus_ranged {u} {p} U h P = record {
  n = omega arith;
  x = more_between 400000 u.n U.x P.signal;
  y = more_between 400000 u.n U.y P.srm;
  xy = more_between 160000000000 u.n U.xy (product_between P.signal P.srm);
  xx = more_between 160000000000 u.n U.xx (product_between P.signal P.signal);
}

-- ---- A, from a B in its range
pub opposite : {m : ℕ} {x : ℤ} → nat_abs x ≤ m → Between (neg_ℤ (pos m)) (pos m) x
opposite {m} {x} h =
    let f₁ = abs_ud x in
    let f₂ = one_zero x in
    let f₃ = up_neg (pos m) in
    let f₄ = dn_neg (pos m) in
    record { low = ud_le (omega arith); high = ud_le (omega arith) }

module _ (edition : ℕ) {u : Sums} {z b : ℤ} (U : SumsRanged u) (N : 0 < u.n) (Z : ZRanged z) (B : Between (pos 1) (pos 1000000) b) where
  intercept_bound : (flat : Bool) → nat_abs (intercept_of edition flat u z b) ≤ 400000000000
  unfolding intercept_of
  intercept_bound true =
      let p = b *ℤ z in
      omega (arith, product_size b z (between_abs B) (between_abs Z), abs_ud p, abs_ud (neg_ℤ p), up_neg p, dn_neg p)
  intercept_bound false =
      let n = u.n in
      let Y : Between (pos 0) (pos (400000000000 * n)) (pos 100000 *ℤ u.y) = within (product_between (up_to {m = 100000} (omega arith)) U.y) (omega arith) in
      let B₀ : Between (pos 0) (pos 1000000) b = record { low = between_above B; high = B.high } in
      let X : Between (pos 0) (pos (400000000000 * n)) (b *ℤ u.x) = within (product_between B₀ U.x) (omega arith) in
      near_bound edition (pos 100000 *ℤ u.y -ℤ b *ℤ u.x) (pos n) 400000000000 (ud_lt (omega arith)) (apart Y X)

  pub line_ranged : (flat : Bool) → LineRanged (record { slope = b; intercept = intercept_of edition flat u z b })
  line_ranged flat = record { slope = B; intercept = opposite (intercept_bound flat) }
