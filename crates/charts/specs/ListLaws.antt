-- What is said of a whole list, said of a member, and a list from a place on.
use Rattle.std.specs.Prelude.{◌≡◌, List, ◌∷◌, ℕ, zero, suc, ◌+◌, ◌<◌, length, drop, get_or}
use Rattle.std.proofs.Common.{◌∙◌, arith, add-one, drop-cons}
use mathlib.Core.List.{[]}

-- where P of a list says Q of its head and P of its tail, it says Q of each member
pub member_at : {A : Type 0} (P : List A → Type 0) (Q : A → Type 0) → ((a : A) (l : List A) → P (a ∷ l) → Q a × P l)
    → (l : List A) (i : ℕ) (d : A) → i < length l → P l → Q (get_or l i d)
member_at P Q step [] i d h p = absurd (omega arith)
member_at P Q step (a ∷ l) zero d h p = (step a l p).0
member_at P Q step (a ∷ l) (suc i) d h p = member_at P Q step l i d (omega arith) (step a l p).1

-- a list from i on: the member at i, then the list from i + 1 on
pub drop_next : {A : Type 0} (l : List A) (i : ℕ) (d : A) → i < length l → drop i l ≡ get_or l i d ∷ drop (i + 1) l
drop_next l i d h = drop-cons l i d h ∙ rw (add-one i)
