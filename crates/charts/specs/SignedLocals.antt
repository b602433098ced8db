-- A signed local holds bits, and each need of a signed operation speaks of what the machine reads back from them,
-- `to_z w b`. `Loc w` is such a local: its bits, the number that they stand for, and that it fits. The code's steps
-- are written again on these, `add A B f` for `a + b`: the bits are those of the machine's result by computation, and
-- the number is the sum. `add_need A B f` is what the operation asks.
use Rattle.std.specs.Prelude.{◌≡◌, true, false, ℕ, zero, suc, ◌/◌, ◌^◌, ◌≤◌, ◌<◌, T, ℤ, pos, negsuc, neg_ℤ, nat_abs}
use Rattle.std.specs.Prelude.{◌+ℤ◌, ◌-ℤ◌, ◌*ℤ◌, ◌≤ℤ◌, ◌<ℤ◌}
use Rattle.std.proofs.Common.{sym, ap, ◌∙◌, subst, arith, div-le_self, lt→ltb, leb-false, to_z-of_z}
use Rattle.std.proofs.Math.IntN.{+ℤ_idl}
use Rattle.std.specs.Int.Signed.{mag, lt_z, le_z, quot_z, rem_z, mag_rem, le_z_yes}
use Rattle.std.specs.Int.{Width}
use mir.Val.{SFits, to_z, of_z, hbits}
use Rattle.std.proofs.Math.Facts.{to_z_pos}
use mir.ValLaws.{sfits_le}

pub record Loc (w : Width) : Type 0 where
  pub bits : ℕ
  pub num : ℤ
  pub reads : to_z w bits ≡ num
  pub fit : SFits w num

-- a parameter, a call's result, a field of a struct
abbrev pub arg : {w : Width} (z : ℤ) → SFits w z → Loc w
arg {w} z f = record { bits = of_z w z; num = z; reads = to_z-of_z f; fit = f }

-- a literal that is not negative, and an unsigned number that is cast, `n as i64`
abbrev pub lit : {w : Width} (n : ℕ) → n < 2 ^ hbits w → Loc w
lit {w} n h = record { bits = n; num = pos n; reads = to_z_pos w h; fit = record { sfits = h } }

-- the result of an operation
pub result : {w : Width} {y z : ℤ} → y ≡ z → SFits w z → to_z w (of_z w y) ≡ z
result {w} {y} {z} e f = ap (λ (v : ℤ). to_z w (of_z w v)) e ∙ to_z-of_z f

pub on_both : {w : Width} (A B : Loc w) (o : ℤ → ℤ → ℤ) → o (to_z w A.bits) (to_z w B.bits) ≡ o A.num B.num
on_both {w} A B o = ap (λ (v : ℤ). o v (to_z w B.bits)) A.reads ∙ ap (o A.num) B.reads

abbrev pub op : {w : Width} (o : ℤ → ℤ → ℤ) (A B : Loc w) → SFits w (o A.num B.num) → Loc w
op {w} o A B f = record {
  bits = of_z w (o (to_z w A.bits) (to_z w B.bits));
  num = o A.num B.num;
  reads = result (on_both A B o) f;
  fit = f;
}

pub op_need : {w : Width} (o : ℤ → ℤ → ℤ) (A B : Loc w) → SFits w (o A.num B.num)
    → SFits w (o (to_z w A.bits) (to_z w B.bits))
op_need {w} o A B f = subst (SFits w) (sym (on_both A B o)) f

module _ {w : Width} (A B : Loc w) where
  abbrev pub add : SFits w (A.num +ℤ B.num) → Loc w
  add f = op (λ u v. u +ℤ v) A B f

  pub add_need : SFits w (A.num +ℤ B.num) → SFits w (to_z w A.bits +ℤ to_z w B.bits)
  add_need f = op_need (λ u v. u +ℤ v) A B f

  abbrev pub sub : SFits w (A.num -ℤ B.num) → Loc w
  sub f = op (λ u v. u -ℤ v) A B f

  pub sub_need : SFits w (A.num -ℤ B.num) → SFits w (to_z w A.bits -ℤ to_z w B.bits)
  sub_need f = op_need (λ u v. u -ℤ v) A B f

  abbrev pub mul : SFits w (A.num *ℤ B.num) → Loc w
  mul f = op (λ u v. u *ℤ v) A B f

  pub mul_need : SFits w (A.num *ℤ B.num) → SFits w (to_z w A.bits *ℤ to_z w B.bits)
  mul_need f = op_need (λ u v. u *ℤ v) A B f

  -- a signed test's flag, at the numbers
  pub lt_flag : lt_z (to_z w A.bits) (to_z w B.bits) ≡ lt_z A.num B.num
  lt_flag = ap (λ (v : ℤ). lt_z v (to_z w B.bits)) A.reads ∙ ap (lt_z A.num) B.reads

  pub le_flag : le_z (to_z w A.bits) (to_z w B.bits) ≡ le_z A.num B.num
  le_flag = ap (λ (v : ℤ). le_z v (to_z w B.bits)) A.reads ∙ ap (le_z A.num) B.reads

-- ---- the divisor is above 0: the quotient and the remainder fit because the dividend does
mag_neg : (r : ℕ) {a : ℕ} → r ≤ suc a → mag (neg_ℤ (pos r)) ≤ a
mag_neg zero h = omega arith
mag_neg (suc r) h = omega arith

mag_quot : (x y : ℤ) → pos 0 <ℤ y → mag (quot_z x y) ≤ mag x
mag_quot (pos a) (pos b) h = div-le_self a b
mag_quot (negsuc a) (pos b) h = mag_neg (suc a / b) (div-le_self (suc a) b)
mag_quot (pos a) (negsuc b) h = absurd h.lt
mag_quot (negsuc a) (negsuc b) h = absurd h.lt

pub quot_fits : {w : Width} {x y : ℤ} → pos 0 <ℤ y → SFits w x → SFits w (quot_z x y)
quot_fits {w} {x} {y} h f = sfits_le (mag_quot x y h) f

pub rem_fits : {w : Width} {x : ℤ} (y : ℤ) → SFits w x → SFits w (rem_z x y)
rem_fits {w} {x} y f = sfits_le (mag_rem x y) f

module _ {w : Width} (A B : Loc w) (h : pos 0 <ℤ B.num) where
  abbrev pub quot : Loc w
  quot = op quot_z A B (quot_fits h A.fit)

  abbrev pub rem : Loc w
  rem = op rem_z A B (rem_fits B.num A.fit)

-- ---- casts. Of an unsigned number to a signed type: `lit`; the need is `SFits w' (pos n)`
module _ {w : Width} (w' : Width) (A : Loc w) where
  abbrev pub cast : SFits w' A.num → Loc w'
  cast f = record { bits = of_z w' (to_z w A.bits); num = A.num; reads = result A.reads f; fit = f }

  pub cast_need : SFits w' A.num → SFits w' (to_z w A.bits)
  cast_need f = subst (SFits w') (sym A.reads) f

pub cast_u : {w : Width} (A : Loc w) → nat_abs (to_z w A.bits) ≡ nat_abs A.num
cast_u A = ap nat_abs A.reads

nle : (a b : ℤ) → le_z a b ≡ false → b <ℤ a
nle (pos a) (pos b) e = record { lt = lt→ltb b a (leb-false a b e) }
nle (pos a) (negsuc b) e = record { lt = tt }
nle (negsuc a) (pos b) e = absurd (subst T e tt)
nle (negsuc a) (negsuc b) e = record { lt = lt→ltb a b (leb-false b a e) }

-- ---- a signed test in the code, as a fact: `le_true A B c.if-z-le0.true`
module _ {w : Width} (A B : Loc w) where
  pub le_true : le_z (to_z w A.bits) (to_z w B.bits) ≡ true → A.num ≤ℤ B.num
  le_true e = le_z_yes (subst T (sym (sym (le_flag A B) ∙ e)) tt)

  pub le_false : le_z (to_z w A.bits) (to_z w B.bits) ≡ false → B.num <ℤ A.num
  le_false e = nle A.num B.num (sym (le_flag A B) ∙ e)

-- `-x` is `0 - x`
pub zero_minus : (z : ℤ) → pos 0 -ℤ z ≡ neg_ℤ z
zero_minus z = +ℤ_idl (neg_ℤ z)
