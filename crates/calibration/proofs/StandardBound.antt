-- Paper 02, C-12: how far four roundings lead away from formula (20) worked out exactly, at most 20 hundredths of mg/m³. The argument uses nothing of the
-- rounding but the half bound, and so is the same for both editions.
use Rattle.std.specs.Prelude.{◌≡◌, ℕ, ◌+◌, ◌*◌, ◌≤◌, ℤ, pos, nat_abs, ◌+ℤ◌, ◌-ℤ◌, ◌*ℤ◌, ◌<ℤ◌}
use Rattle.std.proofs.Common.{sym, ap, ◌∙◌, arith, mul-le-mul_left, mul-le-mul_right, mul_comm, mul_assoc, add-mul}
use Rattle.std.proofs.Math.IntN.{*ℤ_comm}
use Rattle.charts.proofs.RoundingLaws.{near_half_bound}
use Rattle.charts.specs.Integers.{up, dn, sum, diff, prod, ud_eq, ud_lt, le_ud, abs_sum, abs_prod, abs_ud, one_zero, *ℤ-assoc}
use Rattle.calibration.specs.Pairs.{ConditionsRanged, OxygenRanged}
use Rattle.calibration.specs.Conditions.{times_of, standard_of}
use Rattle.calibration.specs.declared.conditions.Actual.{Actual}
use Rattle.calibration.specs.declared.conditions.Conditions.{Conditions}

-- formula (20): the product of its four numerators, and that of its four divisors
abbrev pub numerators : ℤ → Conditions → ℤ
numerators reference k = (((pos 27315 +ℤ k.temperature) *ℤ pos 10130) *ℤ pos 10000) *ℤ (pos 2100 -ℤ reference)

abbrev pub divisors : Conditions → ℤ
divisors k = ((pos 27315 *ℤ (pos 10130 +ℤ k.pressure)) *ℤ (pos 10000 -ℤ k.water)) *ℤ (pos 2100 -ℤ k.oxygen)

-- w is v·a/b but for m eighths: 8|w·b - v·a| ≤ m·b
pub record Off (m : ℕ) (v a b w : ℤ) : Type 0 where
  pub by : 8 * nat_abs (w *ℤ b -ℤ v *ℤ a) ≤ m * nat_abs b

minus_times : (a b c : ℤ) → (a -ℤ b) *ℤ c ≡ a *ℤ c -ℤ b *ℤ c
minus_times a b c = ud_eq (omega (arith, prod (a -ℤ b) c, prod a c, prod b c, diff (a *ℤ c) (b *ℤ c), ap (λ (n : ℕ). up c * n) (diff a b), ap (λ (n : ℕ). dn c * n) (diff a b)))

through : (p r t : ℤ) → p -ℤ r ≡ (p -ℤ t) +ℤ (t -ℤ r)
through p r t = ud_eq (omega (arith, diff p r, diff p t, diff t r, sum (p -ℤ t) (t -ℤ r)))

-- x·(b·d) - v·(a·n) = (x·d - w·n)·b + n·(w·b - v·a)
split : (v a b w n d x : ℤ) → x *ℤ (b *ℤ d) -ℤ v *ℤ (a *ℤ n) ≡ (x *ℤ d -ℤ w *ℤ n) *ℤ b +ℤ (w *ℤ b -ℤ v *ℤ a) *ℤ n
split v a b w n d x =
    let e₁ : x *ℤ (b *ℤ d) ≡ (x *ℤ d) *ℤ b = ap (λ (z : ℤ). x *ℤ z) (*ℤ_comm b d) ∙ sym (*ℤ-assoc x d b) in
    let e₂ : v *ℤ (a *ℤ n) ≡ (v *ℤ a) *ℤ n = sym (*ℤ-assoc v a n) in
    let e₃ : (w *ℤ b) *ℤ n ≡ (w *ℤ n) *ℤ b = *ℤ-assoc w b n ∙ ap (λ (z : ℤ). w *ℤ z) (*ℤ_comm b n) ∙ sym (*ℤ-assoc w n b) in
    ap (λ (z : ℤ). z -ℤ v *ℤ (a *ℤ n)) e₁ ∙ ap (λ (z : ℤ). (x *ℤ d) *ℤ b -ℤ z) e₂ ∙ through ((x *ℤ d) *ℤ b) ((v *ℤ a) *ℤ n) ((w *ℤ n) *ℤ b)
    ∙ ap (λ (z : ℤ). z +ℤ ((w *ℤ n) *ℤ b -ℤ (v *ℤ a) *ℤ n)) (sym (minus_times (x *ℤ d) (w *ℤ n) b))
    ∙ ap (λ (z : ℤ). (x *ℤ d -ℤ w *ℤ n) *ℤ b +ℤ z) (ap (λ (z : ℤ). z -ℤ (v *ℤ a) *ℤ n) (sym e₃) ∙ sym (minus_times (w *ℤ b) (v *ℤ a) n))

one_times : (z : ℤ) → pos 1 *ℤ z ≡ z
one_times z = ud_eq (omega (arith, prod (pos 1) z))

-- the arithmetic of one factor, in natural numbers
grown : (m k P Q N B D X : ℕ) → X ≤ P * B + Q * N → 2 * P ≤ D → 8 * Q ≤ m * B → m * N ≤ k * D → 8 * X ≤ (k + 4) * (B * D)
grown m k P Q N B D X h p q f =
    let u₁ = mul-le-mul_right B p in
    let u₂ = mul-le-mul_right N q in
    let u₃ = mul-le-mul_left B f in
    let e₁ : m * B * N ≡ B * (m * N) = ap (λ (x : ℕ). x * N) (mul_comm m B) ∙ mul_assoc B m N in
    let e₂ : B * (k * D) ≡ k * (B * D) = sym (mul_assoc B k D) ∙ ap (λ (x : ℕ). x * D) (mul_comm B k) ∙ mul_assoc k B D in
    let e₃ : (k + 4) * (B * D) ≡ k * (B * D) + 4 * (B * D) = add-mul k 4 (B * D) in
    let e₄ : D * B ≡ B * D = mul_comm D B in
    omega arith

-- one factor n/d more, rounded: what it was off grows by the factor, and half of one comes to it
pub times_off : (edition m k : ℕ) (v a b w n d : ℤ) → Off m v a b w → pos 0 <ℤ d → m * nat_abs n ≤ k * nat_abs d → Off (k + 4) v (a *ℤ n) (b *ℤ d) (times_of edition w n d)
times_off edition m k v a b w n d O h f =
    let x = times_of edition w n d in
    let p = x *ℤ d -ℤ w *ℤ n in
    let q = w *ℤ b -ℤ v *ℤ a in
    let half : 2 * nat_abs p ≤ nat_abs d = omega (arith, near_half_bound edition (w *ℤ n) d h, abs_prod (pos 2) p) in
    let e = ap nat_abs (split v a b w n d x) in
    let s : nat_abs (x *ℤ (b *ℤ d) -ℤ v *ℤ (a *ℤ n)) ≤ nat_abs p * nat_abs b + nat_abs q * nat_abs n = omega (arith, e, abs_sum (p *ℤ b) (q *ℤ n), abs_prod p b, abs_prod q n) in
    record { by = rw (abs_prod b d) (grown m k (nat_abs p) (nat_abs q) (nat_abs n) (nat_abs b) (nat_abs d) _ s half O.by f) }

-- THE BOUND: |result·divisors - v·numerators| ≤ 20·divisors, whichever the edition
pub standard_near : (edition : ℕ) (reference : ℤ) (k : Conditions) (v : Actual) → OxygenRanged reference → ConditionsRanged k
    → nat_abs ((standard_of edition reference k v).0 *ℤ divisors k -ℤ v.0 *ℤ numerators reference k) ≤ 20 * nat_abs (divisors k)
unfolding standard_of
standard_near edition reference k v R C =
    let p-low = le_ud C.pressure.low in
    let h-low = le_ud C.water.low in
    let h-high = le_ud C.water.high in
    let o-low = le_ud C.oxygen.low in
    let o-high = le_ud C.oxygen.high in
    let r-low = le_ud R.low in
    let r-high = le_ud R.high in
    let dp = pos 10130 +ℤ k.pressure in
    let dh = pos 10000 -ℤ k.water in
    let dx = pos 2100 -ℤ k.oxygen in
    let nr = pos 2100 -ℤ reference in
    let f₁ = sum (pos 10130) k.pressure in
    let f₂ = diff (pos 10000) k.water in
    let f₃ = diff (pos 2100) k.oxygen in
    let f₄ = diff (pos 2100) reference in
    let a₁ = abs_ud dp in
    let b₁ = one_zero dp in
    let a₂ = abs_ud dh in
    let b₂ = one_zero dh in
    let a₃ = abs_ud dx in
    let b₃ = one_zero dx in
    let a₄ = abs_ud nr in
    let b₄ = one_zero nr in
    let none : Off 0 v.0 (pos 1) (pos 1) v.0 = record { by = omega (arith, diff (v.0 *ℤ pos 1) (v.0 *ℤ pos 1), abs_ud (v.0 *ℤ pos 1 -ℤ v.0 *ℤ pos 1), one_zero (v.0 *ℤ pos 1 -ℤ v.0 *ℤ pos 1)) } in
    let nt = pos 27315 +ℤ k.temperature in
    let t = rw (one_times nt) at (times_off edition 0 0 v.0 _ _ _ nt (pos 27315) none (ud_lt (omega arith)) (omega arith)) in
    let p = times_off edition 4 5 v.0 _ _ _ (pos 10130) dp t (ud_lt (omega arith)) (omega arith) in
    let h = times_off edition 9 18 v.0 _ _ _ (pos 10000) dh p (ud_lt (omega arith)) (omega arith) in
    let o = times_off edition 22 154 v.0 _ _ _ nr dx h (ud_lt (omega arith)) (omega arith) in
    omega (arith, o.by)
