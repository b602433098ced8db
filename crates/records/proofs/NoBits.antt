-- Bytes are all zero exactly if, taken together, they have no bit.
use Rattle.std.proofs.Common.{◌≡◌, ℕ, zero, suc, List, [], ◌∷◌, Bool, ◌&&◌, fold, eqb, bit_or, sym, ap, ◌∙◌, arith}
use mathlib.Core.Bool.{and_assoc, and-true}
use lib.Bits.{or_zero_l, or_add_and, and_le_r}
use borrow.Author.Tests.{ne_eqb}
use Rattle.records.specs.Bytes.{all_zero_of}

-- two numbers have no bit exactly if each has none
none : (a b : ℕ) → eqb (bit_or a b) 0 ≡ (eqb a 0 && eqb b 0)
none zero b = ap (λ (n : ℕ). eqb n 0) (or_zero_l b)
none (suc a) b =
    ne_eqb (bit_or (suc a) b) 0 (λ e. omega (arith, or_add_and (suc a) b, and_le_r (suc a) b))
    ∙ sym (ap (λ (t : Bool). t && eqb b 0) (ne_eqb (suc a) 0 (λ e. omega arith)))

pub no_bit : (l : List ℕ) (any : ℕ) → eqb (fold bit_or any l) 0 ≡ (eqb any 0 && all_zero_of l)
unfolding all_zero_of
no_bit [] any = sym (and-true (eqb any 0))
no_bit (x ∷ l) any = no_bit l (bit_or any x) ∙ ap (λ (t : Bool). t && all_zero_of l) (none any x) ∙ and_assoc (eqb any 0) (eqb x 0) (all_zero_of l)
