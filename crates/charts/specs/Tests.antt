-- Tests in definitions, and what they answer. A definition tests by a Bool; a statement asks a question; `Answers`
-- joins the two.
use Rattle.std.specs.Prelude.{◌≡◌, refl, Bool, true, false, not, ◌&&◌, ℕ, ◌≤◌, ◌<◌, T, leb, ltb, ℤ, ◌≤ℤ◌, ◌<ℤ◌, if◌then◌else◌}
use Rattle.std.proofs.Common.{sym, subst, ap, T_not, leb→le, le→leb, ltb→lt, lt→ltb}
pub use Rattle.std.proofs.lemmas.Bool.{and_parts as and_both}
use Rattle.std.proofs.Math.Dec.{not_T}
use Rattle.std.specs.Int.Signed.{le_z, lt_z, le_z_yes, lt_z_yes}

-- a branch, from what is known of its test; `rw` by the test itself would rewrite inside a struct of which the test is
-- a field
pub if_yes : {A : Type 0} (b : Bool) (x y : A) → b ≡ true → (if b then x else y) ≡ x
if_yes b x y h = ap (λ (u : Bool). if u then x else y) h

pub if_no : {A : Type 0} (b : Bool) (x y : A) → b ≡ false → (if b then x else y) ≡ y
if_no b x y h = ap (λ (u : Bool). if u then x else y) h

-- what both branches have, the whole has; each branch may use its test
pub if_all : {A : Type 0} (P : A → Type 0) (b : Bool) (x y : A) → (T b → P x) → (T (not b) → P y)
    → P (if b then x else y)
if_all P true x y f g = f tt
if_all P false x y f g = g tt

-- Laws go by `T` or by an equation; these take one to the other. The kit has the rest, in std.proofs.lemmas.Bool:
-- `not-false`, `and_parts`, `or_parts`, `eqb-true`.
pub is_true : (b : Bool) → T b → b ≡ true
is_true true t = refl
is_true false t = absurd t

pub is_false : (b : Bool) → (T b → ⊥) → b ≡ false
is_false true f = absurd (f tt)
is_false false f = refl

pub sure_of : {b : Bool} → b ≡ true → T b
sure_of h = subst T (sym h) tt

-- the test b is true exactly if P holds
pub record Answers (b : Bool) (P : Type 0) : Type 0 where
  pub sure : T b → P
  pub back : P → T b

pub answers_not : {b : Bool} {P : Type 0} → Answers b P → Answers (not b) (¬ P)
answers_not {b} e = record { sure = λ t p. T_not b t (e.back p); back = λ f. not_T b (λ t. f (e.sure t)) }

pub answers_and : {a b : Bool} {P Q : Type 0} → Answers a P → Answers b Q → Answers (a && b) (P × Q)
answers_and {a = true} e f = record { sure = λ t. (e.sure tt, f.sure t); back = λ p. f.back p.1 }
answers_and {a = false} e f = record { sure = λ t. absurd t; back = λ p. e.back p.0 }

pub answers_le : (m n : ℕ) → Answers (leb m n) (m ≤ n)
answers_le m n = record { sure = leb→le m n; back = le→leb m n }

pub answers_lt : (m n : ℕ) → Answers (ltb m n) (m < n)
answers_lt m n = record { sure = ltb→lt m n; back = lt→ltb m n }

pub answers_le_z : (a b : ℤ) → Answers (le_z a b) (a ≤ℤ b)
answers_le_z a b = record { sure = λ t. le_z_yes t; back = λ h. h.le }

pub answers_lt_z : (a b : ℤ) → Answers (lt_z a b) (a <ℤ b)
answers_lt_z a b = record { sure = λ t. lt_z_yes t; back = λ h. h.lt }

-- the same question in other words
pub answers_as : {b : Bool} {P Q : Type 0} → Answers b P → (P → Q) → (Q → P) → Answers b Q
answers_as e f g = record { sure = λ t. f (e.sure t); back = λ q. e.back (g q) }

-- what a test answers, where it is true
pub holds : {b : Bool} {P : Type 0} → Answers b P → b ≡ true → P
holds e h = e.sure (sure_of h)

-- two tests of one question are the same
pub same_answer : {a b : Bool} {P : Type 0} → Answers a P → Answers b P → a ≡ b
same_answer {a = true} {b = true} e f = refl
same_answer {a = true} {b = false} e f = absurd (f.back (e.sure tt))
same_answer {a = false} {b = true} e f = absurd (e.back (f.sure tt))
same_answer {a = false} {b = false} e f = refl
