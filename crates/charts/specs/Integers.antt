-- Integers for `omega`, which reads natural numbers only: z is `up z - dn z`, its part above 0 less its part below 0,
-- one of them 0. A fact of ℤ becomes one of these parts (`eq_ud`, `le_ud`, `lt_ud`), and a goal of ℤ follows from one
-- (`ud_eq`, `ud_le`, `ud_lt`): the set `ints` has them all. Beside it `omega` wants a fact for each operation in
-- sight, at its operands: `sum a b`, `diff a b`, `prod a b`.
use Rattle.std.specs.Prelude.{◌≡◌, refl, Bool, true, false, not, cond, ℕ, zero, suc, ◌+◌, ◌-◌, ◌*◌, ◌^◌, ◌≤◌, ◌<◌, min}
use Rattle.std.specs.Prelude.{T, ltb, ℤ, pos, negsuc, neg_ℤ, nat_abs, ◌+ℤ◌, ◌-ℤ◌, ◌*ℤ◌, ◌≤ℤ◌, ◌<ℤ◌}
use Rattle.std.proofs.Common.{sym, ap, ◌∙◌, subst, arith, inl, inr, leb-false, mul-le-mul_left, ltb→lt, nltb→le}
use Rattle.std.proofs.Common.{lt→ltb, le→leb, leb→le}
use Rattle.std.proofs.Math.IntN.{sub_ℕ}
use Rattle.std.specs.Int.Signed.{mag, lt_z, le_z, <ℤ_irrefl, <ℤ-≤ℤ_trans, lt_z_yes, le_z_yes}
use Rattle.std.specs.Int.{Width}
use mir.Val.{SFits, hbits}
use Rattle.charts.specs.Tests.{is_true, is_false}

abbrev pub up : ℤ → ℕ
up (pos n) = n
up (negsuc n) = 0

abbrev pub dn : ℤ → ℕ
dn (pos n) = 0
dn (negsuc n) = suc n

-- ---- one of the two is 0
pub one_zero : (z : ℤ) → min (up z) (dn z) ≡ 0
one_zero (pos n) = omega arith
one_zero (negsuc n) = omega arith

pub abs_ud : (z : ℤ) → nat_abs z ≡ up z + dn z
abs_ud (pos n) = omega arith
abs_ud (negsuc n) = omega arith

-- ---- the operations
cond_ind : (c : Bool) (x y : ℤ) (P : ℤ → Type 0) → (T c → P x) → (T (not c) → P y) → P (cond c x y)
cond_ind true x y P f g = f tt
cond_ind false x y P f g = g tt

sub_ud : (a b : ℕ) → up (sub_ℕ a b) + b ≡ dn (sub_ℕ a b) + a
sub_ud a b = cond_ind (ltb a b) (negsuc (b - suc a)) (pos (a - b)) (λ z. up z + b ≡ dn z + a)
    (λ t. let h : a < b = ltb→lt a b t in omega arith) (λ t. let h : b ≤ a = nltb→le a b t in omega arith)

pub sum : (a b : ℤ) → up (a +ℤ b) + (dn a + dn b) ≡ dn (a +ℤ b) + (up a + up b)
sum (pos a) (pos b) = omega arith
sum (pos a) (negsuc b) = omega (arith, sub_ud a (suc b))
sum (negsuc a) (pos b) = omega (arith, sub_ud b (suc a))
sum (negsuc a) (negsuc b) = omega arith

pub up_neg : (a : ℤ) → up (neg_ℤ a) ≡ dn a
up_neg (pos zero) = refl
up_neg (pos (suc n)) = refl
up_neg (negsuc n) = refl

pub dn_neg : (a : ℤ) → dn (neg_ℤ a) ≡ up a
dn_neg (pos zero) = refl
dn_neg (pos (suc n)) = refl
dn_neg (negsuc n) = refl

pub diff : (a b : ℤ) → up (a -ℤ b) + (dn a + up b) ≡ dn (a -ℤ b) + (up a + dn b)
diff a b = omega (arith, sum a (neg_ℤ b), up_neg b, dn_neg b)

pub up_prod : (a b : ℤ) → up (a *ℤ b) ≡ up a * up b + dn a * dn b
up_prod (pos a) (pos b) = omega arith
up_prod (pos a) (negsuc b) = omega (arith, up_neg (pos (a * suc b)))
up_prod (negsuc a) (pos b) = omega (arith, up_neg (pos (suc a * b)))
up_prod (negsuc a) (negsuc b) = omega arith

pub dn_prod : (a b : ℤ) → dn (a *ℤ b) ≡ up a * dn b + dn a * up b
dn_prod (pos a) (pos b) = omega arith
dn_prod (pos a) (negsuc b) = omega (arith, dn_neg (pos (a * suc b)))
dn_prod (negsuc a) (pos b) = omega (arith, dn_neg (pos (suc a * b)))
dn_prod (negsuc a) (negsuc b) = omega arith

-- both at once, for omega's list
pub prod : (a b : ℤ) → (up (a *ℤ b) ≡ up a * up b + dn a * dn b) × (dn (a *ℤ b) ≡ up a * dn b + dn a * up b)
prod a b = (up_prod a b, dn_prod a b)

-- a square is that of the size
pub square : (z : ℤ) → z *ℤ z ≡ pos (nat_abs z * nat_abs z)
square (pos n) = refl
square (negsuc n) = refl

-- ---- equations and orders, to the parts and back
pub eq_ud : {a b : ℤ} → a ≡ b → up a + dn b ≡ dn a + up b
eq_ud {a} {b} e = omega (arith, ap up e, ap dn e)

pub ud_eq : {a b : ℤ} → up a + dn b ≡ dn a + up b → a ≡ b
ud_eq {a = pos a} {b = pos b} h = ap pos (omega arith)
ud_eq {a = pos a} {b = negsuc b} h = absurd (omega arith)
ud_eq {a = negsuc a} {b = pos b} h = absurd (omega arith)
ud_eq {a = negsuc a} {b = negsuc b} h = ap negsuc (omega arith)

pub le_ud : {a b : ℤ} → a ≤ℤ b → up a + dn b ≤ dn a + up b
le_ud {a = pos a} {b = pos b} h = omega (arith, leb→le a b h.le)
le_ud {a = pos a} {b = negsuc b} h = absurd h.le
le_ud {a = negsuc a} {b = pos b} h = omega arith
le_ud {a = negsuc a} {b = negsuc b} h = omega (arith, leb→le b a h.le)

pub ud_le : {a b : ℤ} → up a + dn b ≤ dn a + up b → a ≤ℤ b
ud_le {a = pos a} {b = pos b} h = record { le = le→leb a b (omega arith) }
ud_le {a = pos a} {b = negsuc b} h = absurd (omega arith)
ud_le {a = negsuc a} {b = pos b} h = record { le = tt }
ud_le {a = negsuc a} {b = negsuc b} h = record { le = le→leb b a (omega arith) }

pub lt_ud : {a b : ℤ} → a <ℤ b → up a + dn b < dn a + up b
lt_ud {a = pos a} {b = pos b} h = omega (arith, ltb→lt a b h.lt)
lt_ud {a = pos a} {b = negsuc b} h = absurd h.lt
lt_ud {a = negsuc a} {b = pos b} h = omega arith
lt_ud {a = negsuc a} {b = negsuc b} h = omega (arith, ltb→lt b a h.lt)

pub ud_lt : {a b : ℤ} → up a + dn b < dn a + up b → a <ℤ b
ud_lt {a = pos a} {b = pos b} h = record { lt = lt→ltb a b (omega arith) }
ud_lt {a = pos a} {b = negsuc b} h = absurd (omega arith)
ud_lt {a = negsuc a} {b = pos b} h = record { lt = tt }
ud_lt {a = negsuc a} {b = negsuc b} h = record { lt = lt→ltb b a (omega arith) }

-- ---- ring laws that the library lacks
pub *ℤ-assoc : (a b c : ℤ) → (a *ℤ b) *ℤ c ≡ a *ℤ (b *ℤ c)
*ℤ-assoc a b c =
    ud_eq
    (rw (up_prod (a *ℤ b) c, dn_prod (a *ℤ b) c, up_prod a (b *ℤ c), dn_prod a (b *ℤ c))
    (rw (up_prod a b, dn_prod a b, up_prod b c, dn_prod b c) (omega arith)))

pub *ℤ-distrib : (a b c : ℤ) → a *ℤ (b +ℤ c) ≡ a *ℤ b +ℤ a *ℤ c
*ℤ-distrib a b c =
    let e = ap (λ (n : ℕ). up a * n) (sum b c) in
    let f = ap (λ (n : ℕ). dn a * n) (sum b c) in
    ud_eq (omega (arith, prod a (b +ℤ c), prod a b, prod a c, sum (a *ℤ b) (a *ℤ c)))

pub +ℤ-distrib-* : (a b c : ℤ) → (a +ℤ b) *ℤ c ≡ a *ℤ c +ℤ b *ℤ c
+ℤ-distrib-* a b c =
    let e = ap (λ (n : ℕ). up c * n) (sum a b) in
    let f = ap (λ (n : ℕ). dn c * n) (sum a b) in
    ud_eq (omega (arith, prod (a +ℤ b) c, prod a c, prod b c, sum (a *ℤ c) (b *ℤ c)))

-- ---- order laws
pub ≤ℤ-antisymm : {a b : ℤ} → a ≤ℤ b → b ≤ℤ a → a ≡ b
≤ℤ-antisymm h k = ud_eq (omega (arith, le_ud))

pub +ℤ-mono : {a b c d : ℤ} → a ≤ℤ b → c ≤ℤ d → (a +ℤ c) ≤ℤ (b +ℤ d)
+ℤ-mono {a} {b} {c} {d} h k = omega (arith, le_ud, ud_le, sum a c, sum b d)

-- ---- bounds by the size
pub abs_sum : (a b : ℤ) → nat_abs (a +ℤ b) ≤ nat_abs a + nat_abs b
abs_sum a b = omega (arith, abs_ud a, abs_ud b, abs_ud (a +ℤ b), sum a b, one_zero (a +ℤ b))

pub abs_diff : (a b : ℤ) → nat_abs (a -ℤ b) ≤ nat_abs a + nat_abs b
abs_diff a b = omega (arith, abs_ud a, abs_ud b, abs_ud (a -ℤ b), diff a b, one_zero (a -ℤ b))

pub abs_prod : (a b : ℤ) → nat_abs (a *ℤ b) ≡ nat_abs a * nat_abs b
abs_prod a b = rw (abs_ud a, abs_ud b, abs_ud (a *ℤ b)) (omega (arith, prod a b))

mag_abs : (z : ℤ) → mag z ≤ nat_abs z
mag_abs (pos n) = omega arith
mag_abs (negsuc n) = omega arith

-- that a result fits is a bound on its size
pub abs_sfits : {w : Width} {z : ℤ} → nat_abs z < 2 ^ hbits w → SFits w z
abs_sfits {w} {z} h = record { sfits = omega (arith, mag_abs z) }

pub ruleset ints = (le_ud, lt_ud, eq_ud, ud_le, ud_lt, ud_eq, arith)

-- ---- which way a test of a definition goes
pub lt_lt_z : {a b : ℤ} → a <ℤ b → lt_z a b ≡ true
lt_lt_z {a} {b} h = is_true (lt_z a b) h.lt

pub le_lt_z : {a b : ℤ} → b ≤ℤ a → lt_z a b ≡ false
le_lt_z {a} {b} h = is_false (lt_z a b) (λ t. <ℤ_irrefl (<ℤ-≤ℤ_trans (lt_z_yes {a = a} {b = b} t) h))

pub le_le_z : {a b : ℤ} → a ≤ℤ b → le_z a b ≡ true
le_le_z {a} {b} h = is_true (le_z a b) h.le

pub lt_le_z : {a b : ℤ} → b <ℤ a → le_z a b ≡ false
lt_le_z {a} {b} h = is_false (le_z a b) (λ t. <ℤ_irrefl (<ℤ-≤ℤ_trans h (le_z_yes {a = a} {b = b} t)))
