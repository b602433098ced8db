-- The sums of a chart as the code works them out, unsigned: x is the difference d raised by b, so that it is not
-- negative.
use Rattle.std.specs.Prelude.{◌≡◌, ℕ, ◌+◌, ◌-◌, ◌*◌, ◌≤◌, ◌<◌, ℤ, neg_ℤ, ◌+ℤ◌, ◌-ℤ◌, ◌*ℤ◌}
use Rattle.std.proofs.Math.Path.{ap}
use Rattle.std.proofs.Common.{◌∙◌, arith}
use Rattle.std.proofs.Math.IntN.{pos, nat_abs}
use Rattle.std.specs.Int.{abs_diff}
use Rattle.std.specs.Int.Signed.{lt_z}
use Rattle.charts.specs.Integers.{square, sum, diff, prod, one_zero, abs_ud, up_neg, dn_neg, ud_eq, ud_le, ud_lt}
use Rattle.charts.specs.Integers.{eq_ud, le_lt_z, lt_lt_z}
use Rattle.charts.specs.Tests.{if_yes, if_no}
use Rattle.charts.specs.Sums.{empty, added}
use Rattle.charts.specs.declared.Sum.{Sum}
use Rattle.charts.specs.Charts.{rising_term, falling_term, precision_term}

-- what `added` is, of a term that adds and takes
module _ (u : Sum) (adds takes : ℕ) where
  pub added_none : u.value + adds ≤ takes → added u (pos adds -ℤ pos takes) ≡ record { value = 0; count = 0 }
  unfolding added empty
  added_none h =
      let z = pos u.value +ℤ (pos adds -ℤ pos takes) in
      let s = sum (pos u.value) (pos adds -ℤ pos takes) in
      let d = diff (pos adds) (pos takes) in
      if_no (lt_z (pos 0) z) _ _ (le_lt_z {a = pos 0} {b = z} (ud_le (omega arith)))

  pub added_kept : takes < u.value + adds
      → added u (pos adds -ℤ pos takes) ≡ record { value = u.value + adds - takes; count = u.count + 1 }
  unfolding added
  added_kept h =
      let z = pos u.value +ℤ (pos adds -ℤ pos takes) in
      let s = sum (pos u.value) (pos adds -ℤ pos takes) in
      let d = diff (pos adds) (pos takes) in
      let e : nat_abs z ≡ u.value + adds - takes = omega (arith, abs_ud z, one_zero z) in
      if_yes (lt_z (pos 0) z) _ _ (lt_lt_z {a = pos 0} {b = z} (ud_lt (omega arith)))
      ∙ ap (λ (v : ℕ). record { value = v; count = u.count + 1 }) e

module _ (s b x : ℕ) (d : ℤ) (e : pos x ≡ d +ℤ pos b) where
  pub rising_code : rising_term s d ≡ pos (1000 * x) -ℤ pos (1000 * b + 501 * s)
  rising_code =
      let e₁ = eq_ud e in
      let e₂ = sum d (pos b) in
      let e₃ = prod (pos 1000) d in
      ud_eq (omega (arith, diff (pos 1000 *ℤ d) (pos (501 * s)), diff (pos (1000 * x)) (pos (1000 * b + 501 * s))))

  pub falling_code : falling_term s d ≡ pos (1000 * b) -ℤ pos (1000 * x + 501 * s)
  falling_code =
      let k = neg_ℤ (pos 1000 *ℤ d) in
      let e₁ = eq_ud e in
      let e₂ = sum d (pos b) in
      let e₃ = prod (pos 1000) d in
      let n₁ = up_neg (pos 1000 *ℤ d) in
      let n₂ = dn_neg (pos 1000 *ℤ d) in
      ud_eq (omega (arith, diff k (pos (501 * s)), diff (pos (1000 * b)) (pos (1000 * x + 501 * s))))

  -- y is the last difference, raised the same
  pub precision_code : (y : ℕ) (l : ℤ) → pos y ≡ l +ℤ pos b
      → precision_term s (d -ℤ l) ≡ pos (10 * (abs_diff x y * abs_diff x y)) -ℤ pos (37 * (s * s))
  precision_code y l f =
      let e₁ = eq_ud e in
      let e₂ = eq_ud f in
      let e₃ = sum d (pos b) in
      let e₄ = sum l (pos b) in
      let a : nat_abs (d -ℤ l) ≡ abs_diff x y = omega (arith, diff d l, one_zero (d -ℤ l), abs_ud (d -ℤ l)) in
      ap (λ (z : ℤ). pos 10 *ℤ z -ℤ pos (37 * (s * s))) (square (d -ℤ l) ∙ ap (λ (n : ℕ). pos (n * n)) a)
