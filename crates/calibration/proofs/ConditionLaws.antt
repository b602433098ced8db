-- How large a value in standard conditions can be. Of the rounding only its laws are used.
use Rattle.std.specs.Prelude.{◌≡◌, refl, ◌&&◌, ℕ, ◌*◌, ◌^◌, ◌≤◌, T, leb, ltb, ℤ, pos, nat_abs, ◌+ℤ◌, ◌-ℤ◌, ◌*ℤ◌, ◌<ℤ◌}
use Rattle.std.proofs.Common.{ap, arith, mul-le-mul, mul-le-mul_left, SFits}
use Rattle.std.specs.Int.Signed.{≤ℤ_refl}
use Rattle.std.specs.Int.{w32}
use Rattle.charts.specs.Tests.{answers_le, answers_lt, answers_and}
use Rattle.charts.proofs.RoundingLaws.{near_bound}
use Rattle.charts.specs.Integers.{ints, diff, le_ud, ud_le, ud_lt, +ℤ-mono, abs_sum, abs_prod, abs_sfits}
use Rattle.calibration.specs.Pairs.{Between, ConditionsRanged, OxygenRanged, PairRanged}
use Rattle.calibration.proofs.RangeLaws.{between_abs, between_size}
use Rattle.calibration.specs.Conditions.{times_of, standard_of}
use Rattle.calibration.specs.Calibration.{measured_of, calibrated_of, value_of, LineRanged}
use Rattle.calibration.specs.declared.conditions.Actual.{Actual}
use Rattle.calibration.specs.declared.conditions.Conditions.{Conditions}
use Rattle.calibration.specs.declared.pairs.Pair.{Pair}
use Rattle.calibration.specs.declared.line.Line.{Line}

-- ---- ranges of sums and differences
same_between : (z : ℤ) → Between z z z
same_between z = record { low = ≤ℤ_refl z; high = ≤ℤ_refl z }

plus_between : (m : ℤ) {a b z : ℤ} → Between a b z → Between (m +ℤ a) (m +ℤ b) (m +ℤ z)
plus_between m B = record { low = +ℤ-mono (≤ℤ_refl m) B.low; high = +ℤ-mono (≤ℤ_refl m) B.high }

minus_between : (m : ℤ) {a b z : ℤ} → Between a b z → Between (m -ℤ b) (m -ℤ a) (m -ℤ z)
minus_between m {a} {b} {z} B =
    let low = le_ud B.low in
    let high = le_ud B.high in
    record { low = ud_le (omega (arith, diff m b, diff m z)); high = ud_le (omega (arith, diff m a, diff m z)) }

-- ---- the four factors

-- n/d is at most f, and both are small enough for the code to multiply by
pub record Factor (f : ℕ) (n d : ℤ) : Type 0 where
  pub above : pos 0 <ℤ d
  pub most : nat_abs n ≤ f * nat_abs d
  pub numerator : nat_abs n ≤ 2 ^ 20
  pub divisor : nat_abs d ≤ 2 ^ 20

-- from the ranges of the two, which decide by computation: `factor N D tt`
factor : {f a b p q : ℕ} {n d : ℤ} → Between (pos a) (pos b) n → Between (pos p) (pos q) d → T ((ltb 0 p && leb b (f * p)) && (leb b (2 ^ 20) && leb q (2 ^ 20))) → Factor f n d
factor {f} {b} {p} {q} {n} {d} N D t =
    let h = (answers_and (answers_and (answers_lt 0 p) (answers_le b (f * p))) (answers_and (answers_le b (2 ^ 20)) (answers_le q (2 ^ 20)))).sure t in
    let n-size = between_size N in
    let d-size = between_size D in
    record {
      above = ud_lt (omega (arith, le_ud D.low));
      most = omega (arith, mul-le-mul_left f d-size.0);
      numerator = omega arith;
      divisor = omega arith;
    }

module _ {k : Conditions} (C : ConditionsRanged k) where
  pub temperature_factor : Factor 3 (pos 27315 +ℤ k.temperature) (pos 27315)
  temperature_factor = factor (plus_between (pos 27315) C.temperature) (same_between (pos 27315)) tt

  pub pressure_factor : Factor 2 (pos 10130) (pos 10130 +ℤ k.pressure)
  pressure_factor = factor (same_between (pos 10130)) (plus_between (pos 10130) C.pressure) tt

  pub water_factor : Factor 2 (pos 10000) (pos 10000 -ℤ k.water)
  water_factor = factor (same_between (pos 10000)) (minus_between (pos 10000) C.water) tt

  pub oxygen_factor : {reference : ℤ} → OxygenRanged reference → Factor 7 (pos 2100 -ℤ reference) (pos 2100 -ℤ k.oxygen)
  oxygen_factor R = factor (minus_between (pos 2100) R) (minus_between (pos 2100) C.oxygen) tt

-- ---- values in standard conditions

-- z is at most m in size
pub record Sized (m : ℕ) (z : ℤ) : Type 0 where
  pub size : nat_abs z ≤ m

-- one factor
pub times_sized : (edition : ℕ) {f m : ℕ} {v n d : ℤ} → Factor f n d → Sized m v → Sized (f * m) (times_of edition v n d)
times_sized edition {f} {m} {v} {n} {d} F S = record {
  size = near_bound edition (v *ℤ n) d (f * m) F.above (omega (arith, abs_prod v n, mul-le-mul {n₂ = m} {m₂ = f * nat_abs d} S.size F.most));
}

-- all four, rounded after each
standard_is : (edition : ℕ) (reference : ℤ) (k : Conditions) (v : Actual) →
    let t = times_of edition v.0 (pos 27315 +ℤ k.temperature) (pos 27315) in
    let p = times_of edition t (pos 10130) (pos 10130 +ℤ k.pressure) in
    let h = times_of edition p (pos 10000) (pos 10000 -ℤ k.water) in
    (standard_of edition reference k v).0 ≡ times_of edition h (pos 2100 -ℤ reference) (pos 2100 -ℤ k.oxygen)
unfolding standard_of
standard_is edition reference k v = refl

pub standard_bound : (edition : ℕ) (reference : ℤ) (k : Conditions) (v : Actual) (m : ℕ) → OxygenRanged reference → ConditionsRanged k → nat_abs v.0 ≤ m → nat_abs (standard_of edition reference k v).0 ≤ 84 * m
standard_bound edition reference k v m R C h =
    let S : Sized m v.0 = record { size = h } in
    let b = times_sized edition (oxygen_factor C R) (times_sized edition (water_factor C) (times_sized edition (pressure_factor C) (times_sized edition (temperature_factor C) S))) in
    omega (arith, b.size, ap nat_abs (standard_is edition reference k v))

-- ---- calibrated values

module _ {l : Line} {x : ℤ} (L : LineRanged l) (X : Between (pos 0) (pos 400000) x) where
  -- Bx
  pub bx_bound : nat_abs (l.slope *ℤ x) ≤ 400000000000
  bx_bound = omega (arith, abs_prod l.slope x, mul-le-mul {n₂ = 1000000} {m₂ = 400000} (between_abs L.slope) (between_abs X))

  -- A + Bx
  pub line_bound : nat_abs (l.intercept +ℤ l.slope *ℤ x) ≤ 800000000000
  line_bound = omega (arith, abs_sum l.intercept (l.slope *ℤ x), between_abs L.intercept, bx_bound)

pub calibrated_bound : (edition : ℕ) (l : Line) (x : ℤ) → LineRanged l → Between (pos 0) (pos 400000) x → nat_abs (calibrated_of edition l x).0 ≤ 8000000
unfolding calibrated_of
calibrated_bound edition l x L X = near_bound edition (l.intercept +ℤ l.slope *ℤ x) (pos 100000) 8000000 (omega ints) (omega (arith, line_bound L X))

-- A calibrated value in standard conditions fits i32, for every function a fit can give, every signal and all conditions in range.
module _ (edition : ℕ) (reference : ℤ) (l : Line) (k : Conditions) (x : ℤ) (R : OxygenRanged reference) (L : LineRanged l) (C : ConditionsRanged k) (X : Between (pos 0) (pos 400000) x) where
  pub value_bound : nat_abs (value_of edition reference l k x).0 ≤ 672000000
  value_bound = standard_bound edition reference k (calibrated_of edition l x) 8000000 R C (calibrated_bound edition l x L X)

  pub value_fits : SFits w32 (value_of edition reference l k x).0
  value_fits = abs_sfits (omega (arith, value_bound))

-- y' and c of a pair in range
pub measured_bound : (edition : ℕ) {reference : ℤ} {p : Pair} → OxygenRanged reference → PairRanged p → nat_abs (measured_of edition reference p).0 ≤ 33600000
measured_bound edition {reference} {p} R P = standard_bound edition reference p.conditions p.srm 400000 R P.conditions (between_abs P.srm)
