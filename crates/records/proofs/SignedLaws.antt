-- Signed numbers that a call gives, as the machine reads them back from their bits.
use mathlib.Core.Path.{◌≡◌, refl, sym, ap, ◌∙◌}
use borrow.Author.Tests.{ne_eqb, lt-leb}
use Rattle.std.specs.Int.{cast_unsigned}
use Prim.Native.Nat.{ℕ, zero, suc, ◌^◌, ◌<◌}
use native.Mathlib.Omega.{arith}
use lib.Dec.{T, eqb}
use lib.IntN.{ℤ, pos, negsuc, nat_abs}
use lib.Signed.{mag, non_neg, yes_non_neg}
use mir.Syntax.{Width, w32}
use mir.Val.{Fits, SFits, to_z, of_z, hbits, bits}
use mir.Facts.{to_z-of_z}
use Rattle.std.proofs.Math.Facts.{eqb_yes, yes_eqb, and_yes, yes_and}
use Rattle.std.proofs.Common.{le→leb}
use Rattle.std.specs.Int.Signed.{le_z, le_z_yes}
use Rattle.charts.specs.Tests.{same_answer}
use Rattle.charts.specs.Integers.{le_ud, ud_le, ≤ℤ-antisymm}
use Rattle.calibration.specs.Pairs.{Between}
use Rattle.calibration.proofs.RangeLaws.{between_size}
use Rattle.records.specs.Table.{sameℤ}

-- the result of a call: its `ok` and its `ensures`
pub given : (w : Width) {x z : ℤ} → mag x < 2 ^ hbits w → x ≡ z → to_z w (of_z w x) ≡ z
given w ok e = to_z-of_z (record { sfits = ok }) ∙ e

-- ---- the same number

le_same : (a : ℤ) → T (le_z a a)
le_same (pos n) = le→leb n n (omega arith)
le_same (negsuc n) = le→leb n n (omega arith)

pub same_is : (a b : ℤ) → T (sameℤ a b) → a ≡ b
same_is a b t = let p = and_yes (le_z a b) (le_z b a) t in ≤ℤ-antisymm (le_z_yes p.0) (le_z_yes p.1)

is_same : (a b : ℤ) → a ≡ b → T (sameℤ a b)
is_same a b e = rw e (yes_and (le_z b b) (le_z b b) (le_same b) (le_same b))

-- the result of a call and a number that fits: they are the same where their bits are
pub same_bits : (w : Width) {x y z : ℤ} → mag x < 2 ^ hbits w → x ≡ z → SFits w y → eqb (of_z w x) (of_z w y) ≡ sameℤ z y
same_bits w {x} {y} {z} ok e f =
    let back = to_z-of_z {w = w} {z = x} (record { sfits = ok }) in
    same_answer {P = z ≡ y}
    (record {
      sure = λ t. sym e ∙ sym back ∙ ap (to_z w) (eqb_yes {a = of_z w x} {b = of_z w y} t) ∙ to_z-of_z f;
      back = λ p. yes_eqb {a = of_z w x} {b = of_z w y} (ap (of_z w) (e ∙ p));
    })
    (record { sure = same_is z y; back = is_same z y })

-- and with 0, by its bits
pub zero_same : (z : ℤ) → SFits w32 z → eqb (cast_unsigned w32 z) 0 ≡ sameℤ z (pos 0)
zero_same (pos zero) f = refl
zero_same (pos (suc n)) f = rw (ne_eqb (suc n) 0 (λ e. omega arith), lt-leb (suc n) 0 (omega arith))
zero_same (negsuc n) f = ne_eqb _ 0 (λ e. omega (arith, f.sfits))

-- a number in a range that is not below 0 is cast to an unsigned type
pub unsigned_need : (w : Width) {a b : ℕ} {y z : ℤ} → b < 2 ^ bits w → y ≡ z → Between (pos a) (pos b) z → T (non_neg y) × Fits w (nat_abs y)
unsigned_need w {a} {b} {z} h e B = rw e (yes_non_neg {z = z} (ud_le (omega (arith, le_ud B.low))), record { fits = omega (arith, (between_size B).1) })
