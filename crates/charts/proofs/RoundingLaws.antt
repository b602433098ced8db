-- Laws of `near_of`, and of the division that the code works it out by. Callers cite these and, but for worked cases, never the text of `near_of`.
use Rattle.std.specs.Prelude.{◌≡◌, refl, Bool, true, false, not, ◌&&◌, ◌||◌, ℕ, zero, suc, ◌+◌, ◌*◌, ◌/◌, ◌%◌, ◌≤◌, ◌<◌, T, eqb, ltb, ℤ, pos, negsuc, neg_ℤ, nat_abs, ◌+ℤ◌, ◌-ℤ◌, ◌*ℤ◌, ◌≤ℤ◌, ◌<ℤ◌, if◌then◌else◌}
use Rattle.std.proofs.Common.{sym, ap, ◌∙◌, subst, arith, div-le_self, div-add-mod', mod-lt, lt_of_mul-lt-mul_right, le-ltb, eq-eqb, ne_eqb, ltb→lt, nltb→le, eqb→eq}
use Rattle.std.proofs.lemmas.Bool.{eqb-false}
use Rattle.std.specs.Int.Signed.{shr_z, quot_z, rem_z, ≤ℤ_refl}
use Rattle.charts.specs.Tests.{if_all, if_yes, if_no}
use Rattle.charts.specs.Rounding.{odd, rounds_up_of, near_of}
use Rattle.charts.specs.Division.{Divided, division_of}
use Rattle.charts.specs.declared.Division.{Division}
use Rattle.charts.specs.Integers.{up, dn, sum, diff, prod, one_zero, abs_ud, abs_prod, up_neg, dn_neg, ud_eq, ud_le, ud_lt, le_ud, lt_ud, eq_ud}

-- the floor of z / m, by what it is
pub record IsFloor (z : ℤ) (m : ℕ) (q : ℤ) : Type 0 where
  pub low : (q *ℤ pos m) ≤ℤ z
  pub high : z <ℤ (q *ℤ pos m +ℤ pos m)

pub floor_is : (z : ℤ) (m : ℕ) → 0 < m → IsFloor z m (shr_z z m)
floor_is (pos a) m h = record {
  low = ud_le (omega (arith, div-add-mod' a m));
  high = ud_lt (omega (arith, div-add-mod' a m, mod-lt a h));
}
floor_is (negsuc a) m h = record {
  low = ud_le (omega (arith, prod (negsuc (a / m)) (pos m), div-add-mod' a m, mod-lt a h));
  high = ud_lt (omega (arith, sum (negsuc (a / m) *ℤ pos m) (pos m), prod (negsuc (a / m)) (pos m), div-add-mod' a m, mod-lt a h));
}

-- one number has one floor
pub floor_unique : {z : ℤ} {m : ℕ} {p q : ℤ} → IsFloor z m p → IsFloor z m q → p ≡ q
floor_unique {z} {m} {p} {q} P Q = ud_eq (omega (arith, below P Q, below Q P))
  where
    below : {p q : ℤ} → IsFloor z m p → IsFloor z m q → up p + dn q < dn p + up q + 1
    below {p} {q} P Q =
        lt_of_mul-lt-mul_right m
        (omega (arith, le_ud P.low, lt_ud Q.high, prod p (pos m), prod q (pos m), sum (q *ℤ pos m) (pos m)))

-- ---- the test of a half

-- what goes up lies at a half or over it, what doesn't at a half or under it
pub up_over : (e : ℕ) (o : Bool) (r d : ℕ) → T (rounds_up_of e o r d) → d ≤ 2 * r
unfolding rounds_up_of
up_over e o r d t = go (ltb d (2 * r)) (eqb d (2 * r)) _ (λ t. ltb→lt d (2 * r) t) (λ t. eqb→eq d (2 * r) t) t
  where
    go : (a b w : Bool) → (T a → d < 2 * r) → (T b → d ≡ 2 * r) → T (a || b && w) → d ≤ 2 * r
    go true b w f g t = let l = f tt in omega arith
    go false true w f g t = let l = g tt in omega arith
    go false false w f g t = absurd t

down_under : (e : ℕ) (o : Bool) (r d : ℕ) → T (not (rounds_up_of e o r d)) → 2 * r ≤ d
unfolding rounds_up_of
down_under e o r d t = go (ltb d (2 * r)) _ (λ t. nltb→le d (2 * r) t) t
  where
    go : (a w : Bool) → (T (not a) → 2 * r ≤ d) → T (not (a || w)) → 2 * r ≤ d
    go true w f t = absurd t
    go false w f t = f tt

-- in every edition but the second a half goes up
half_up : (e : ℕ) (o : Bool) (r d : ℕ) → (e ≡ 2 → ⊥) → T (not (rounds_up_of e o r d)) → 2 * r < d
unfolding rounds_up_of
half_up e o r d n t =
    go (ltb d (2 * r)) (eqb d (2 * r)) (λ t. nltb→le d (2 * r) t) (λ k. eqb-false d (2 * r) k) (rw (ne_eqb e 2 n) at t)
  where
    go : (a b : Bool) → (T (not a) → 2 * r ≤ d) → (b ≡ false → d ≡ 2 * r → ⊥) → T (not (a || b && true)) → 2 * r < d
    go true b f g t = absurd t
    go false true f g t = absurd t
    go false false f g t = below (f tt) (λ k. g refl (sym k))
      where
        below : 2 * r ≤ d → (2 * r ≡ d → ⊥) → 2 * r < d
        below l k = omega arith

-- in the second it goes up from an odd whole number only
half_even : (o : Bool) (r d : ℕ) → d ≡ 2 * r → rounds_up_of 2 o r d ≡ o
unfolding rounds_up_of
half_even o r d e = rw (le-ltb d (2 * r) (omega arith), eq-eqb d (2 * r) e)

-- ---- the floor and what is left over

module _ (n : ℤ) (m : ℕ) (h : 0 < m) where
  abbrev q : ℤ
  q = shr_z n m

  abbrev r : ℕ
  r = nat_abs (n -ℤ q *ℤ pos m)

  -- n is q·m + r
  rest_parts : up n + dn q * m ≡ dn n + up q * m + r
  rest_parts =
      let f₁ = prod q (pos m) in
      let f₂ = diff n (q *ℤ pos m) in
      omega (arith, le_ud (floor_is n m h).low, abs_ud (n -ℤ q *ℤ pos m), one_zero (n -ℤ q *ℤ pos m))

  rest_below : r < m
  rest_below =
      let f₁ = prod q (pos m) in
      let f₂ = sum (q *ℤ pos m) (pos m) in
      omega (arith, rest_parts, lt_ud (floor_is n m h).high)

-- ---- the half bound, which both rules meet: at most half of d is lost

-- q is one of the whole numbers nearest to n / m: 2|qm - n| ≤ m
pub record Halved (n : ℤ) (m : ℕ) (q : ℤ) : Type 0 where
  pub low : (pos 2 *ℤ (q *ℤ pos m)) ≤ℤ (pos 2 *ℤ n +ℤ pos m)
  pub high : (pos 2 *ℤ n) ≤ℤ (pos 2 *ℤ (q *ℤ pos m) +ℤ pos m)

near_halved : (e : ℕ) (n : ℤ) (m : ℕ) → 0 < m → Halved n m (near_of e n (pos m))
unfolding near_of
near_halved e n m h =
    let l = rest_parts n m h in
    let u = rest_below n m h in
    let f₁ = prod q (pos m) in
    let f₆ = prod (pos 2) n in
    let f₇ = sum (pos 2 *ℤ n) (pos m) in
    let g₁ = prod (pos 2) (q *ℤ pos m) in
    let g₂ = sum (pos 2 *ℤ (q *ℤ pos m)) (pos m) in
    let k₁ = sum q (pos 1) in
    let k₂ = prod (q +ℤ pos 1) (pos m) in
    let k₃ = prod (pos 2) ((q +ℤ pos 1) *ℤ pos m) in
    let k₄ = ap (λ (k : ℕ). k * m) k₁ in
    let k₅ = sum (pos 2 *ℤ ((q +ℤ pos 1) *ℤ pos m)) (pos m) in
    if_all (Halved n m) (rounds_up_of e (odd q) r m) (q +ℤ pos 1) q
    (λ t. let o = up_over e (odd q) r m t in record { low = ud_le (omega arith); high = ud_le (omega arith) })
    (λ t. let o = down_under e (odd q) r m t in record { low = ud_le (omega arith); high = ud_le (omega arith) })
  where
    q : ℤ
    q = shr_z n m

    r : ℕ
    r = nat_abs (n -ℤ q *ℤ pos m)

-- the same without a sign
halved_parts : {n : ℤ} {m : ℕ} {q : ℤ} → Halved n m q
    → (2 * (up q * m) + 2 * dn n ≤ 2 * up n + 2 * (dn q * m) + m) × (2 * up n + 2 * (dn q * m) ≤ 2 * (up q * m) + 2 * dn n + m)
halved_parts {n} {m} {q} H =
    let f₁ = prod q (pos m) in
    let f₂ = prod (pos 2) (q *ℤ pos m) in
    let f₃ = prod (pos 2) n in
    let f₄ = sum (pos 2 *ℤ n) (pos m) in
    let f₅ = sum (pos 2 *ℤ (q *ℤ pos m)) (pos m) in
    (omega (arith, le_ud H.low), omega (arith, le_ud H.high))

-- of numbers nearest to n ≤ n' the first is over the second by one at most
halved_order : {n n' : ℤ} {m : ℕ} {p q : ℤ} → 0 < m → n ≤ℤ n' → Halved n m p → Halved n' m q → up p + dn q ≤ dn p + up q + 1
halved_order {n} {n'} {m} {p} {q} h k P Q =
    let l : (up p + dn q) * m < (dn p + up q + 2) * m = omega (arith, halved_parts P, halved_parts Q, le_ud k) in
    omega (arith, lt_of_mul-lt-mul_right m l)

-- and by one only where n is n'
halved_same : {n n' : ℤ} {m : ℕ} {p q : ℤ} → n ≤ℤ n' → Halved n m p → Halved n' m q → up p + dn q ≡ dn p + up q + 1 → n ≡ n'
halved_same {n} {n'} {m} {p} {q} k P Q e =
    let g = ap (λ (k : ℕ). k * m) e in
    ud_eq (omega (arith, halved_parts P, halved_parts Q, le_ud k))

-- ---- what callers use

pub near_half_bound : (e : ℕ) (n d : ℤ) → pos 0 <ℤ d → nat_abs (pos 2 *ℤ (near_of e n d *ℤ d -ℤ n)) ≤ nat_abs d
near_half_bound e n (negsuc m) h = absurd h.lt
near_half_bound e n (pos m) h =
    let q = near_of e n (pos m) in
    let N = near_halved e n m (omega (arith, lt_ud h)) in
    let z = pos 2 *ℤ (q *ℤ pos m -ℤ n) in
    omega (arith, halved_parts N, prod q (pos m), diff (q *ℤ pos m) n, prod (pos 2) (q *ℤ pos m -ℤ n), abs_ud z, one_zero z)

-- a larger numerator has no smaller nearest number: one edition rounds one number in one way
pub near_mono : (e : ℕ) {n n' : ℤ} (d : ℤ) → pos 0 <ℤ d → n ≤ℤ n' → near_of e n d ≤ℤ near_of e n' d
near_mono e (negsuc m) h k = absurd h.lt
near_mono e {n} {n'} (pos m) h k = go (ltb b a) (λ t. ltb→lt b a t) (λ t. nltb→le b a t)
  where
    l : 0 < m
    l = omega (arith, lt_ud h)

    a : ℕ
    a = up (near_of e n (pos m)) + dn (near_of e n' (pos m))

    b : ℕ
    b = dn (near_of e n (pos m)) + up (near_of e n' (pos m))

    go : (t : Bool) → (T t → b < a) → (T (not t) → a ≤ b) → near_of e n (pos m) ≤ℤ near_of e n' (pos m)
    go true f g =
        let P = near_halved e n m l in
        let Q = near_halved e n' m l in
        let s : n ≡ n' = halved_same k P Q (omega (arith, halved_order l k P Q, f tt)) in
        rw s (≤ℤ_refl (near_of e n' (pos m)))
    go false f g = ud_le (omega (arith, g tt))

-- a whole number is its own nearest
pub near_whole : (e : ℕ) (q d : ℤ) → pos 0 <ℤ d → near_of e (q *ℤ d) d ≡ q
near_whole e q (negsuc m) h = absurd h.lt
near_whole e q (pos m) h =
    let p = near_of e (q *ℤ pos m) (pos m) in
    let N = halved_parts (near_halved e (q *ℤ pos m) m (omega (arith, lt_ud h))) in
    let a : (up p + dn q) * m < (dn p + up q + 1) * m = omega (arith, N, prod q (pos m), lt_ud h) in
    let b : (up q + dn p) * m < (dn q + up p + 1) * m = omega (arith, N, prod q (pos m), lt_ud h) in
    ud_eq (omega (arith, lt_of_mul-lt-mul_right m a, lt_of_mul-lt-mul_right m b))

-- |n| at most k·d makes |near| at most k
pub near_bound : (e : ℕ) (n d : ℤ) (k : ℕ) → pos 0 <ℤ d → nat_abs n ≤ k * nat_abs d → nat_abs (near_of e n d) ≤ k
near_bound e n (negsuc m) k h b = absurd h.lt
near_bound e n (pos m) k h b =
    let q = near_of e n (pos m) in
    let N = halved_parts (near_halved e n m (omega (arith, lt_ud h))) in
    let a : up q * m < (k + dn q + 1) * m = omega (arith, N, lt_ud h, abs_ud n, one_zero n) in
    let c : dn q * m < (k + up q + 1) * m = omega (arith, N, lt_ud h, abs_ud n, one_zero n) in
    omega (arith, lt_of_mul-lt-mul_right m a, lt_of_mul-lt-mul_right m c, abs_ud q, one_zero q)

near_zero : (e m : ℕ) → pos 0 <ℤ pos m → near_of e (pos 0) (pos m) ≡ pos 0
near_zero e m h = let z : pos 0 *ℤ pos m ≡ pos 0 = ap pos (omega arith) in ap (λ (v : ℤ). near_of e v (pos m)) (sym z) ∙ near_whole e (pos 0) (pos m) h

-- what is not below 0 stays so
pub near_nonneg : (e : ℕ) (n d : ℤ) → pos 0 <ℤ d → pos 0 ≤ℤ n → pos 0 ≤ℤ near_of e n d
near_nonneg e n (negsuc m) h k = absurd h.lt
near_nonneg e n (pos m) h k = rw (near_zero e m h) at (near_mono e (pos m) h k)

-- EDITION 1 STAYS: in it, and under every number but 2, near(n/d) is the floor of (2n + d) / 2d
pub near_first : (e : ℕ) (n : ℤ) (m : ℕ) → 0 < m → (e ≡ 2 → ⊥) → near_of e n (pos m) ≡ shr_z (pos 2 *ℤ n +ℤ pos m) (2 * m)
unfolding near_of
near_first e n m h ne =
    let l = rest_parts n m h in
    let u = rest_below n m h in
    let f₁ = prod q (pos m) in
    let f₆ = prod (pos 2) n in
    let f₇ = sum (pos 2 *ℤ n) (pos m) in
    let g₁ = prod q (pos (2 * m)) in
    let g₂ = sum (q *ℤ pos (2 * m)) (pos (2 * m)) in
    let k₁ = sum q (pos 1) in
    let k₂ = prod (q +ℤ pos 1) (pos (2 * m)) in
    let k₃ = ap (λ (k : ℕ). k * m) k₁ in
    let k₄ = sum ((q +ℤ pos 1) *ℤ pos (2 * m)) (pos (2 * m)) in
    floor_unique
    (if_all (IsFloor (pos 2 *ℤ n +ℤ pos m) (2 * m)) (rounds_up_of e (odd q) r m) (q +ℤ pos 1) q
    (λ t. let o = up_over e (odd q) r m t in record { low = ud_le (omega arith); high = ud_lt (omega arith) })
    (λ t. let o = half_up e (odd q) r m ne t in record { low = ud_le (omega arith); high = ud_lt (omega arith) }))
    (floor_is (pos 2 *ℤ n +ℤ pos m) (2 * m) (omega arith))
  where
    q : ℤ
    q = shr_z n m

    r : ℕ
    r = nat_abs (n -ℤ q *ℤ pos m)

-- behind an odd number comes an even one
odd_next : (q : ℤ) → T (odd q) → odd (q +ℤ pos 1) ≡ false
unfolding odd
odd_next q t =
    let f₁ = eqb→eq (nat_abs q % 2) 1 t in
    let f₂ = sum q (pos 1) in
    ne_eqb (nat_abs (q +ℤ pos 1) % 2) 1
    (λ k. omega (arith, abs_ud q, one_zero q, abs_ud (q +ℤ pos 1), one_zero (q +ℤ pos 1)))

-- EDITION 2: where two whole numbers are equally near, 2|qm - n| = m, it takes the even one
pub near_even : (n : ℤ) (m : ℕ) → 0 < m → nat_abs (pos 2 *ℤ (near_of 2 n (pos m) *ℤ pos m -ℤ n)) ≡ m → odd (near_of 2 n (pos m)) ≡ false
unfolding near_of
near_even n m h =
    let l = rest_parts n m h in
    let u = rest_below n m h in
    let f₁ = prod q (pos m) in
    let g₁ = diff (q *ℤ pos m) n in
    let g₂ = abs_prod (pos 2) (q *ℤ pos m -ℤ n) in
    let g₃ = abs_ud (q *ℤ pos m -ℤ n) in
    let g₄ = one_zero (q *ℤ pos m -ℤ n) in
    let p = (q +ℤ pos 1) *ℤ pos m in
    let k₁ = ap (λ (k : ℕ). k * m) (sum q (pos 1)) in
    let k₂ = prod (q +ℤ pos 1) (pos m) in
    let k₃ = diff p n in
    let k₄ = abs_prod (pos 2) (p -ℤ n) in
    let k₅ = abs_ud (p -ℤ n) in
    let k₆ = one_zero (p -ℤ n) in
    if_all (λ (v : ℤ). nat_abs (pos 2 *ℤ (v *ℤ pos m -ℤ n)) ≡ m → odd v ≡ false) (rounds_up_of 2 (odd q) r m) (q +ℤ pos 1) q
    (λ t e. odd_next q (rw (half_even (odd q) r m (omega arith)) at t))
    (λ t e. even (odd q) (rw (half_even (odd q) r m (omega arith)) at t))
  where
    q : ℤ
    q = shr_z n m

    r : ℕ
    r = nat_abs (n -ℤ q *ℤ pos m)

    even : (o : Bool) → T (not o) → o ≡ false
    even true t = absurd t
    even false t = refl

-- ---- as the code has it: floor and rest, and the test of a half

module _ (n : ℤ) (m : ℕ) (q r : ℤ) (h : pos 0 <ℤ pos m) (D : Divided n (pos m) q r) where
  whole : shr_z n m ≡ q
  whole =
      let f₁ = sum (q *ℤ pos m) r in
      let f₂ = eq_ud D.parts in
      let f₃ = sum (q *ℤ pos m) (pos m) in
      floor_unique (floor_is n m (omega (arith, lt_ud h)))
      (record { low = ud_le (omega (arith, le_ud D.low)); high = ud_lt (omega (arith, lt_ud D.high)) })

  rest : n -ℤ q *ℤ pos m ≡ r
  rest = ud_eq (omega (arith, eq_ud D.parts, sum (q *ℤ pos m) r, diff n (q *ℤ pos m)))

  tested : (e : ℕ) → near_of e n (pos m) ≡ (if rounds_up_of e (odd q) (nat_abs r) m then q +ℤ pos 1 else q)
  unfolding near_of
  tested e = rw (whole, rest)

  one_division : record { whole = q; rest = r } ≡ division_of n (pos m)
  unfolding division_of
  one_division = rw (whole, rest)

-- `division_of` is the floor and its rest
division_divides : (n d : ℤ) → pos 0 <ℤ d → Divided n d (division_of n d).whole (division_of n d).rest
unfolding division_of
division_divides n (negsuc m) h = absurd h.lt
division_divides n (pos m) h =
    let q = shr_z n m in
    let F = floor_is n m (omega (arith, lt_ud h)) in
    let f₁ = diff n (q *ℤ pos m) in
    let f₂ = sum (q *ℤ pos m) (pos m) in
    let f₃ = sum (q *ℤ pos m) (n -ℤ q *ℤ pos m) in
    record {
      low = ud_le (omega (arith, le_ud F.low));
      high = ud_lt (omega (arith, lt_ud F.high));
      parts = ud_eq (omega arith);
    }

pub division_parts : {n d : ℤ} {p : Division} → pos 0 <ℤ d → p ≡ division_of n d → Divided n d p.whole p.rest
division_parts {n} {d} h e = subst (λ (p : Division). Divided n d p.whole p.rest) (sym e) (division_divides n d h)

-- and every floor with its rest is `division_of`
pub division_unique : (n d : ℤ) {q r : ℤ} → pos 0 <ℤ d → Divided n d q r → record { whole = q; rest = r } ≡ division_of n d
division_unique n (pos m) {q} {r} h D = one_division n m q r h D
division_unique n (negsuc m) h D = absurd h.lt

-- one more where the test says so, else the quotient
pub near_up : (e : ℕ) (n d : ℤ) {q r : ℤ} → pos 0 <ℤ d → Divided n d q r → rounds_up_of e (odd q) (nat_abs r) (nat_abs d) ≡ true → q +ℤ pos 1 ≡ near_of e n d
near_up e n (pos m) {q} {r} h D t = sym (tested n m q r h D e ∙ if_yes _ _ _ t)
near_up e n (negsuc m) h D t = absurd h.lt

pub near_down : (e : ℕ) (n d : ℤ) {q r : ℤ} → pos 0 <ℤ d → Divided n d q r → rounds_up_of e (odd q) (nat_abs r) (nat_abs d) ≡ false → q ≡ near_of e n d
near_down e n (pos m) {q} {r} h D t = sym (tested n m q r h D e ∙ if_no _ _ _ t)
near_down e n (negsuc m) h D t = absurd h.lt

-- ---- an even number goes through

-- an even k does not change whether q is odd
even_shift : (q k : ℤ) → odd k ≡ false → odd (q +ℤ k) ≡ odd q
unfolding odd
even_shift q k e =
    let f₁ = eqb-false (nat_abs k % 2) 1 e in
    let f₂ = sum q k in
    let f₃ = abs_ud q in
    let f₄ = one_zero q in
    let f₅ = abs_ud k in
    let f₆ = one_zero k in
    let f₇ = abs_ud (q +ℤ k) in
    let f₈ = one_zero (q +ℤ k) in
    let g : nat_abs (q +ℤ k) % 2 ≡ nat_abs q % 2 = omega arith in
    ap (λ (b : ℕ). eqb b 1) g

-- every multiple of 2c is even
pub even_multiple : (c : ℕ) (k : ℤ) → odd (pos (2 * c) *ℤ k) ≡ false
unfolding odd
even_multiple c k = ne_eqb (nat_abs (pos (2 * c) *ℤ k) % 2) 1 (λ e. omega (arith, abs_prod (pos (2 * c)) k))

-- EVEN NUMBERS GO THROUGH: near(x + k) is near(x) + k for even k, in both editions
pub near_shift : (e : ℕ) (n k d : ℤ) → pos 0 <ℤ d → odd k ≡ false → near_of e (k *ℤ d +ℤ n) d ≡ k +ℤ near_of e n d
near_shift e n k (negsuc m) h o = absurd h.lt
near_shift e n k (pos m) h o =
    tested (k *ℤ pos m +ℤ n) m (q +ℤ k) r h shifted e
    ∙ ap (λ (b : Bool). if rounds_up_of e b (nat_abs r) m then (q +ℤ k) +ℤ pos 1 else (q +ℤ k)) (even_shift q k o)
    ∙ both (rounds_up_of e (odd q) (nat_abs r) m)
    ∙ ap (λ (v : ℤ). k +ℤ v) (sym (tested n m q r h D e))
  where
    q : ℤ
    q = (division_of n (pos m)).whole

    r : ℤ
    r = (division_of n (pos m)).rest

    D : Divided n (pos m) q r
    D = division_divides n (pos m) h

    shifted : Divided (k *ℤ pos m +ℤ n) (pos m) (q +ℤ k) r
    shifted = record {
      low = D.low;
      high = D.high;
      parts =
          let f₁ = prod q (pos m) in
          let f₂ = prod k (pos m) in
          let f₃ = prod (q +ℤ k) (pos m) in
          let f₄ = ap (λ (x : ℕ). x * m) (sum q k) in
          let f₅ = sum (k *ℤ pos m) n in
          let f₆ = sum (q *ℤ pos m) r in
          let f₇ = sum ((q +ℤ k) *ℤ pos m) r in
          ud_eq (omega (arith, eq_ud D.parts));
    }

    both : (t : Bool) → (if t then (q +ℤ k) +ℤ pos 1 else (q +ℤ k)) ≡ k +ℤ (if t then q +ℤ pos 1 else q)
    both true = ud_eq (omega (arith, sum q k, sum (q +ℤ k) (pos 1), sum q (pos 1), sum k (q +ℤ pos 1)))
    both false = ud_eq (omega (arith, sum q k, sum k q))

-- ---- parity and rest as the code has them

-- the code asks whether the remainder by 2 is 0, of either sign
pub odd_unsigned : (n : ℕ) → not (eqb (n % 2) 0) ≡ odd (pos n)
unfolding odd
odd_unsigned n = go (n % 2) (mod-lt n (omega arith))
  where
    go : (r : ℕ) → r < 2 → not (eqb r 0) ≡ eqb r 1
    go zero h = refl
    go (suc zero) h = refl
    go (suc (suc r)) h = absurd (omega arith)

pub odd_signed : (q : ℤ) → not (eqb (nat_abs (rem_z q (pos 2))) 0) ≡ odd q
unfolding odd
odd_signed (pos a) = odd_unsigned a
odd_signed (negsuc a) = ap (λ (n : ℕ). not (eqb n 0)) (neg_abs (suc a % 2)) ∙ odd_unsigned (suc a)
  where
    neg_abs : (n : ℕ) → nat_abs (neg_ℤ (pos n)) ≡ n
    neg_abs zero = refl
    neg_abs (suc n) = refl

pub divided_unsigned : (n m : ℕ) → 0 < m → Divided (pos n) (pos m) (pos (n / m)) (pos (n % m))
divided_unsigned n m h = record {
  low = ud_le (omega arith);
  high = ud_lt (omega (arith, mod-lt n h));
  parts = ud_eq (omega (arith, div-add-mod' n m));
}

-- ---- the machine's division, which goes toward 0

quot_rem : (n : ℤ) (m : ℕ) → quot_z n (pos m) *ℤ pos m +ℤ rem_z n (pos m) ≡ n
quot_rem (pos a) m = ud_eq (omega (arith, div-add-mod' a m))
quot_rem (negsuc a) m =
    let b = suc a / m in
    let q = neg_ℤ (pos b) in
    let r = neg_ℤ (pos (suc a % m)) in
    let f₁ = ap (λ (x : ℕ). x * m) (up_neg (pos b)) in
    let f₂ = ap (λ (x : ℕ). x * m) (dn_neg (pos b)) in
    ud_eq (omega (arith, sum (q *ℤ pos m) r, prod q (pos m), up_neg (pos (suc a % m)), dn_neg (pos (suc a % m)), div-add-mod' (suc a) m))

pub abs_quot : (n d : ℤ) → pos 0 <ℤ d → nat_abs (quot_z n d) ≤ nat_abs n
abs_quot (pos a) (pos m) h = div-le_self a m
abs_quot (negsuc a) (pos m) h =
    omega (arith, div-le_self (suc a) m, abs_ud (neg_ℤ (pos (suc a / m))), up_neg (pos (suc a / m)), dn_neg (pos (suc a / m)))
abs_quot n (negsuc m) h = absurd h.lt

pub abs_rem : (n d : ℤ) → pos 0 <ℤ d → nat_abs (rem_z n d) < nat_abs d
abs_rem (pos a) (pos m) h = mod-lt a (omega (arith, lt_ud h))
abs_rem (negsuc a) (pos m) h =
    omega (arith, mod-lt (suc a) {m = m} (omega (arith, lt_ud h)), abs_ud (neg_ℤ (pos (suc a % m))), up_neg (pos (suc a % m)), dn_neg (pos (suc a % m)))
abs_rem n (negsuc m) h = absurd h.lt

-- d goes at most once into what is below 2d
div_once : (a m : ℕ) → a < 2 * m → a / m ≤ 1
div_once a m l = let k : a / m < 2 = lt_of_mul-lt-mul_right m (omega (arith, div-add-mod' a m)) in omega arith

pub quot_once : (z d : ℤ) → pos 0 <ℤ d → nat_abs z < 2 * nat_abs d → nat_abs (quot_z z d) ≤ 1
quot_once (pos a) (pos m) h l = div_once a m l
quot_once (negsuc a) (pos m) h l =
    omega (arith, div_once (suc a) m l, abs_ud (neg_ℤ (pos (suc a / m))), up_neg (pos (suc a / m)), dn_neg (pos (suc a / m)))
quot_once z (negsuc m) h l = absurd h.lt

-- ---- the floor without a test: the remainder, raised by d, is above 0 and below 2d, and the quotient is one less for that d

module _ (n : ℤ) (m : ℕ) (h : pos 0 <ℤ pos m) where
  abbrev raised : ℤ
  raised = rem_z n (pos m) +ℤ pos m

  abbrev size : ℕ
  size = up raised

  none_below : dn raised ≡ 0
  none_below =
      let r = rem_z n (pos m) in
      omega (arith, sum r (pos m), abs_rem n (pos m) h, abs_ud r, one_zero raised)

  raised_is : raised ≡ pos size
  raised_is = ud_eq (omega (arith, none_below))

  divided : Divided n (pos m) ((quot_z n (pos m) -ℤ pos 1) +ℤ pos (size / m)) (pos (size % m))
  divided =
      let q = quot_z n (pos m) in
      let r = rem_z n (pos m) in
      let a = q -ℤ pos 1 in
      let w = a +ℤ pos (size / m) in
      let f₁ = eq_ud (quot_rem n m) in
      let f₂ = sum (q *ℤ pos m) r in
      let f₃ = prod q (pos m) in
      let f₄ = sum r (pos m) in
      let f₅ = diff q (pos 1) in
      let f₆ = ap (λ (k : ℕ). k * m) f₅ in
      let f₇ = sum a (pos (size / m)) in
      let f₈ = ap (λ (k : ℕ). k * m) f₇ in
      let f₉ = prod w (pos m) in
      let g₁ = sum (w *ℤ pos m) (pos (size % m)) in
      record {
        low = ud_le (omega arith);
        high = ud_lt (omega (arith, mod-lt size {m = m} (omega (arith, lt_ud h))));
        parts = ud_eq (omega (arith, none_below, div-add-mod' size m));
      }

-- C-14, OF THE CODE'S OWN EXPRESSIONS: for d above 0 and every n, (n % d + d) % d lies in 0..d-1, and n is d times n / d - 1 + (n % d + d) / d, plus
-- this rest
pub divided_raised : (n d : ℤ) → pos 0 <ℤ d → Divided n d ((quot_z n d -ℤ pos 1) +ℤ quot_z (rem_z n d +ℤ d) d) (rem_z (rem_z n d +ℤ d) d)
divided_raised n (pos m) h =
    subst (λ (z : ℤ). Divided n (pos m) ((quot_z n (pos m) -ℤ pos 1) +ℤ quot_z z (pos m)) (rem_z z (pos m))) (sym (raised_is n m h)) (divided n m h)
divided_raised n (negsuc m) h = absurd h.lt
