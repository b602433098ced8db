-- A reset makes a chart sound, and a reading keeps it so while fewer than 100,000 have been applied.
use Rattle.std.specs.Prelude.{◌≡◌, ℕ, ◌+◌, ◌*◌, ◌≤◌, ◌<◌, T, ℤ, pos, neg_ℤ, nat_abs, ◌+ℤ◌, ◌-ℤ◌, ◌*ℤ◌, ◌≤ℤ◌}
use Rattle.std.proofs.Common.{arith, mul-le-mul}
use Rattle.std.specs.Int.Signed.{lt_z, lt_z_yes}
use Rattle.charts.specs.Integers.{square, ints, sum, diff, prod, one_zero, abs_ud, up_neg, dn_neg, lt_ud, le_ud, ud_le}
use Rattle.charts.specs.Tests.{if_all}
use Rattle.charts.specs.Sums.{empty, added}
use Rattle.charts.specs.Charts.{rising_term, falling_term, precision_term, reset_of, applied_of, blank}
use Rattle.charts.specs.ChartSoundness.{DifferenceRanged, SumWithin, ChartSound, most_rising, most_falling}
use Rattle.charts.specs.ChartSoundness.{most_precision}
use Rattle.charts.specs.declared.Sum.{Sum}
use Rattle.charts.specs.declared.Chart.{Chart}

-- a term that is at most `most` keeps a sum within it
pub added_within : (most readings : ℕ) (u : Sum) (t : ℤ) → t ≤ℤ pos most → SumWithin most readings u
    → SumWithin most (readings + 1) (added u t)
unfolding added empty
added_within most readings u t h W =
    if_all (λ (w : Sum). SumWithin most (readings + 1) w) (lt_z (pos 0) z) _ _ kept
    (λ f. record { counted = omega arith; bounded = omega arith })
  where
    z : ℤ
    z = pos u.value +ℤ t

    kept : T (lt_z (pos 0) z) → SumWithin most (readings + 1) (record { value = nat_abs z; count = u.count + 1 })
    kept b = record {
      counted = omega (arith, W.counted);
      bounded =
          let above = lt_ud (lt_z_yes {a = pos 0} {b = z} b) in
          omega (arith, W.bounded, le_ud h, sum (pos u.value) t, abs_ud z, one_zero z);
    }

module _ (s : ℕ) {d : ℤ} (D : DifferenceRanged d) where
  pub rising_most : rising_term s d ≤ℤ pos most_rising
  rising_most = ud_le (omega (arith, le_ud D.high, prod (pos 1000) d, diff (pos 1000 *ℤ d) (pos (501 * s))))

  pub falling_most : falling_term s d ≤ℤ pos most_falling
  falling_most =
      let k = neg_ℤ (pos 1000 *ℤ d) in
      let below = prod (pos 1000) d in
      let n₁ = up_neg (pos 1000 *ℤ d) in
      let n₂ = dn_neg (pos 1000 *ℤ d) in
      ud_le (omega (arith, le_ud D.low, diff k (pos (501 * s))))

  -- the step from one difference to another
  pub step_most : {l : ℤ} → DifferenceRanged l → nat_abs (d -ℤ l) ≤ 1200000
  step_most {l} L =
      let d₁ = le_ud D.low in
      let d₂ = le_ud D.high in
      let l₁ = le_ud L.low in
      let l₂ = le_ud L.high in
      omega (arith, diff d l, abs_ud (d -ℤ l), one_zero (d -ℤ l))

  pub precision_most : {l : ℤ} → DifferenceRanged l → precision_term s (d -ℤ l) ≤ℤ pos most_precision
  precision_most {l} L =
      let z = d -ℤ l in
      let b = step_most L in
      let q : nat_abs z * nat_abs z ≤ 1200000 * 1200000 = mul-le-mul {n₂ = 1200000} {m₂ = 1200000} b b in
      let e : z *ℤ z ≡ pos (nat_abs z * nat_abs z) = square z in
      rw e (ud_le (omega (arith, diff (pos (10 * (nat_abs z * nat_abs z))) (pos (37 * (s * s))))))

zero_ranged : DifferenceRanged (pos 0)
zero_ranged = record { low = omega ints; high = omega ints }

empty_within : (most readings : ℕ) → SumWithin most readings empty
unfolding empty
empty_within most readings = record { counted = omega arith; bounded = omega arith }

pub reset_sound : (c : Chart) → ChartSound (reset_of c)
unfolding reset_of
reset_sound c = record {
  readings = omega arith;
  last = zero_ranged;
  rising = empty_within _ _;
  falling = empty_within _ _;
  precision = empty_within _ _;
}

pub blank_sound : ChartSound blank
unfolding blank
blank_sound = record {
  readings = omega arith;
  last = zero_ranged;
  rising = empty_within _ _;
  falling = empty_within _ _;
  precision = empty_within _ _;
}

pub reading_sound : (c : Chart) (e s : ℕ) (d : ℤ) → ChartSound c → c.readings < 100000 → DifferenceRanged d
    → ChartSound (applied_of c e s d)
unfolding applied_of
reading_sound c e s d S r D = record {
  readings = omega arith;
  last = D;
  rising = added_within most_rising c.readings c.rising (rising_term s d) (rising_most s D) S.rising;
  falling = added_within most_falling c.readings c.falling (falling_term s d) (falling_most s D) S.falling;
  precision = added_within most_precision c.readings c.precision (precision_term s (d -ℤ c.last))
      (precision_most s D S.last) S.precision;
}
