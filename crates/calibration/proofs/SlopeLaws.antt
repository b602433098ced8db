-- The code's B: none exactly where B is outside its range, and made of the whole part and the rest.
use Rattle.std.specs.Prelude.{◌≡◌, Bool, true, false, ℕ, T, ℤ, neg_ℤ, Some, None, ◌+ℤ◌, ◌*ℤ◌, ◌<ℤ◌, if◌then◌else◌}
use Rattle.std.proofs.Math.Path.{refl}
use Rattle.std.proofs.Common.{sym, ap, subst, ◌∙◌, arith}
use Rattle.std.proofs.Math.IntN.{pos}
use Rattle.charts.specs.Tests.{if_yes, if_no}
use Rattle.charts.specs.Rounding.{near_of}
use Rattle.charts.proofs.RoundingLaws.{even_multiple, near_bound, near_nonneg, near_shift}
use Rattle.charts.specs.Division.{Divided}
use Rattle.charts.specs.Integers.{sum, prod, one_zero, abs_ud, abs_prod, eq_ud, ud_le, le_ud, lt_ud, *ℤ-assoc, *ℤ-distrib}
use Rattle.calibration.specs.Pairs.{Between, between_of, between_answers}
use Rattle.calibration.specs.Calibration.{slope_ranged_of}
use Rattle.calibration.specs.InCode.{slope_code}

-- ---- the code's B: none exactly where B is outside its range
refused : (b : ℤ) (t : Bool) → (if t then Some b else None) ≡ None → t ≡ false
refused b true e = cc
refused b false e = refl

taken : (b m : ℤ) (t : Bool) → (if t then Some b else None) ≡ Some m → (t ≡ true) × (m ≡ b)
taken b m true e = (refl, cc)
taken b m false e = cc

module _ (edition : ℕ) (rise divisor : ℤ) where
  abbrev b : ℤ
  b = near_of edition (pos 100000 *ℤ rise) divisor

  -- by the test of B
  pub slope_in : slope_ranged_of b ≡ true → slope_code edition rise divisor ≡ Some b
  unfolding slope_code
  slope_in t = if_yes _ _ _ t

  pub slope_out : slope_ranged_of b ≡ false → slope_code edition rise divisor ≡ None
  unfolding slope_code
  slope_out t = if_no _ _ _ t

  -- and back
  pub slope_refused : slope_code edition rise divisor ≡ None → slope_ranged_of b ≡ false
  unfolding slope_code
  slope_refused e = refused b (slope_ranged_of b) e

  pub slope_taken : {m : ℤ} → slope_code edition rise divisor ≡ Some m → (slope_ranged_of b ≡ true) × (m ≡ b)
  unfolding slope_code
  slope_taken {m} e = taken b m (slope_ranged_of b) e

-- ---- B from the whole part k of rise / divisor, and its rest
module _ (edition : ℕ) (rise divisor : ℤ) {k rest : ℤ} (h : pos 0 <ℤ divisor) (D : Divided rise divisor k rest) where
  -- near(100000·rest/divisor)
  abbrev part : ℤ
  part = near_of edition (pos 100000 *ℤ rest) divisor

  -- 100000·k goes through the rounding, since it is even
  pub slope_parts : b edition rise divisor ≡ pos 100000 *ℤ k +ℤ part
  slope_parts =
      ap (λ (n : ℤ). near_of edition n divisor) split
      ∙ near_shift edition (pos 100000 *ℤ rest) (pos 100000 *ℤ k) divisor h (even_multiple 50000 k)
    where
      split : pos 100000 *ℤ rise ≡ (pos 100000 *ℤ k) *ℤ divisor +ℤ pos 100000 *ℤ rest
      split =
          ap (λ (n : ℤ). pos 100000 *ℤ n) D.parts
          ∙ *ℤ-distrib (pos 100000) (k *ℤ divisor) rest
          ∙ ap (λ (n : ℤ). n +ℤ pos 100000 *ℤ rest) (sym (*ℤ-assoc (pos 100000) k divisor))

  -- the rest is not below 0, and below the divisor
  pub part_ranged : Between (pos 0) (pos 100000) part
  part_ranged =
      let f₁ = le_ud D.low in
      let f₂ = lt_ud D.high in
      let f₃ = lt_ud h in
      let f₄ = abs_ud rest in
      let f₅ = one_zero rest in
      let f₆ = abs_ud divisor in
      let m = near_bound edition (pos 100000 *ℤ rest) divisor 100000 h (omega (arith, abs_prod (pos 100000) rest)) in
      record {
        low = near_nonneg edition (pos 100000 *ℤ rest) divisor h (ud_le (omega (arith, prod (pos 100000) rest)));
        high = ud_le (omega (arith, abs_ud part));
      }

  -- a B in its range has k in -1..10
  whole_ranged : Between (pos 1) (pos 1000000) (b edition rise divisor) → Between (neg_ℤ (pos 1)) (pos 10) k
  whole_ranged B =
      let f₁ = le_ud B.low in
      let f₂ = le_ud B.high in
      let f₃ = eq_ud slope_parts in
      let f₄ = le_ud part_ranged.low in
      let f₅ = le_ud part_ranged.high in
      let f₆ = prod (pos 100000) k in
      let f₇ = sum (pos 100000 *ℤ k) part in
      record { low = ud_le (omega arith); high = ud_le (omega arith) }

  -- and a k outside them has no B in its range
  pub slope_far : between_of (neg_ℤ (pos 1)) (pos 10) k ≡ false → slope_code edition rise divisor ≡ None
  slope_far o = slope_out edition rise divisor (go (slope_ranged_of v) refl)
    where
      v : ℤ
      v = b edition rise divisor

      go : (t : Bool) → slope_ranged_of v ≡ t → t ≡ false
      go true r =
          let K = whole_ranged ((between_answers (pos 1) (pos 1000000) v).sure (subst T (sym r) tt)) in
          absurd (subst T o ((between_answers (neg_ℤ (pos 1)) (pos 10) k).back K))
      go false r = refl
