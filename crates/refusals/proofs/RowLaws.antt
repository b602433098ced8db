-- Rows and their numbers: no two rows have one number, and none has 0, which stands for no refusal.
use Rattle.std.proofs.Common.{◌≡◌, refl, ap, sym, ◌∙◌, arith}
use Rattle.std.specs.Prelude.{ℕ, zero, suc, Bool, true, false, T, eqb, ltb, Result, Ok, Err, IsErrAnd, if◌then◌else◌}
use Rattle.std.proofs.lemmas.Bool.{false≢true}
use Rattle.refusals.specs.Rows.{number_of, outcome_of, ◌when◌, ◌or◌, unless_refused}
use Rattle.refusals.specs.declared.Refusal.{Refusal}
use Rattle.refusals.specs.declared.Refusal.TheVariants.{Length, Check, Header, Analyser, Sequence, Records, State, Layout, Place, Minute, Range, Unstarted, Full, Times, Coverage, Waiting, Function, Count, Days, Divisor, Slope, Beyond, Stored, Edition}

-- the row of a number
abbrev pub row : ℕ → Refusal
row n =
    if eqb n 1 then Length else (
    if eqb n 2 then Check else (
    if eqb n 3 then Header else (
    if eqb n 4 then Analyser else (
    if eqb n 5 then Sequence else (
    if eqb n 6 then Records else (
    if eqb n 7 then State else (
    if eqb n 10 then Layout else (
    if eqb n 11 then Place else (
    if eqb n 12 then Minute else (
    if eqb n 13 then Range else (
    if eqb n 14 then Unstarted else (
    if eqb n 15 then Full else (
    if eqb n 16 then Times else (
    if eqb n 17 then Coverage else (
    if eqb n 18 then Waiting else (
    if eqb n 19 then Function else (
    if eqb n 20 then Count else (
    if eqb n 21 then Days else (
    if eqb n 22 then Divisor else (
    if eqb n 23 then Slope else (
    if eqb n 24 then Beyond else (
    if eqb n 25 then Stored else (
    Edition)))))))))))))))))))))))

pub row_is : (e : Refusal) → row (number_of e) ≡ e
row_is Length = refl
row_is Check = refl
row_is Header = refl
row_is Analyser = refl
row_is Sequence = refl
row_is Records = refl
row_is State = refl
row_is Layout = refl
row_is Place = refl
row_is Minute = refl
row_is Range = refl
row_is Unstarted = refl
row_is Full = refl
row_is Times = refl
row_is Coverage = refl
row_is Waiting = refl
row_is Function = refl
row_is Count = refl
row_is Days = refl
row_is Divisor = refl
row_is Slope = refl
row_is Beyond = refl
row_is Stored = refl
row_is Edition = refl

-- none has the number of no refusal
pub above : (e : Refusal) → eqb (number_of e) 0 ≡ false
above Length = refl
above Check = refl
above Header = refl
above Analyser = refl
above Sequence = refl
above Records = refl
above State = refl
above Layout = refl
above Place = refl
above Minute = refl
above Range = refl
above Unstarted = refl
above Full = refl
above Times = refl
above Coverage = refl
above Waiting = refl
above Function = refl
above Count = refl
above Days = refl
above Divisor = refl
above Slope = refl
above Beyond = refl
above Stored = refl
above Edition = refl

pub some_row : (e : Refusal) → number_of e ≡ 0 → ⊥
some_row e h = false≢true (sym (rw h at (above e)))

pub number_same : (d e : Refusal) → number_of d ≡ number_of e → d ≡ e
number_same d e h = sym (row_is d) ∙ ap row h ∙ row_is e

-- so an outcome says all of an answer that has no value
pub outcome_same : (x y : Result (Unit {0}) Refusal) → outcome_of x ≡ outcome_of y → x ≡ y
outcome_same (Ok a) (Ok b) h = refl
outcome_same (Ok a) (Err e) h = absurd (some_row e (sym h))
outcome_same (Err d) (Ok b) h = absurd (some_row d h)
outcome_same (Err d) (Err e) h = ap Err (number_same d e h)

-- what a `?` passes on is the refusal that it was given
pub passed_on : {A : Type 0} (x : Result A Refusal) (e : Refusal) → IsErrAnd x (λ d. d ≡ e) → x ≡ Err e
passed_on (Ok a) e h = absurd h
passed_on (Err d) e h = ap Err h

-- ---- a table read downwards: what it tells that no row fits

pub rows_passed : (n : ℕ) {m : ℕ} → (n or m) ≡ 0 → (n ≡ 0) × (m ≡ 0)
rows_passed zero e = (refl, e)
rows_passed (suc n) e = absurd (omega arith)

pub unfit : (n : ℕ) (b : Bool) → T (ltb 0 n) → (n when b) ≡ 0 → b ≡ false
unfit zero b t e = absurd t
unfit (suc n) true t e = absurd (omega arith)
unfit (suc n) false t e = refl

-- the topmost row does not fit, nor one of those below
pub row_passed : (n : ℕ) (b : Bool) {m : ℕ} → T (ltb 0 n) → (n when b or m) ≡ 0 → (b ≡ false) × (m ≡ 0)
row_passed n b t e = let p = rows_passed (n when b) e in (unfit n b t p.0, p.1)

-- ---- and what is known of the rows above tells of the table

pub or_next : (n m : ℕ) → n ≡ 0 → (n or m) ≡ m
or_next zero m e = refl
or_next (suc n) m e = absurd (omega arith)

pub or_stop : (n m : ℕ) → (n ≡ 0 → ⊥) → (n or m) ≡ n
or_stop zero m e = absurd (e refl)
or_stop (suc n) m e = refl

-- ---- an answer that has rows before it

module _ {A : Type 0} (tell : ℕ → A) where
  pub unless_next : (n : ℕ) (rest : A) → n ≡ 0 → unless_refused tell n rest ≡ rest
  unless_next zero rest e = refl
  unless_next (suc n) rest e = absurd (omega arith)

  pub unless_stop : (n : ℕ) (rest : A) → (n ≡ 0 → ⊥) → unless_refused tell n rest ≡ tell n
  unless_stop zero rest e = absurd (e refl)
  unless_stop (suc n) rest e = refl

  -- what the rest has where no row fits, and what is told has where one does, the answer has
  pub unless_all : (P : A → Type 0) (n : ℕ) (rest : A) → ((n ≡ 0 → ⊥) → P (tell n)) → (n ≡ 0 → P rest) → P (unless_refused tell n rest)
  unless_all P zero rest f g = g refl
  unless_all P (suc n) rest f g = f (λ e. omega arith)

  -- an answer without a refusal: no row fits, and the rest has none
  pub unless_passed : (refusal : A → ℕ) → ((n : ℕ) → refusal (tell n) ≡ n) → (n : ℕ) (rest : A) → refusal (unless_refused tell n rest) ≡ 0
      → (n ≡ 0) × (refusal rest ≡ 0)
  unless_passed refusal t zero rest e = (refl, e)
  unless_passed refusal t (suc n) rest e = absurd (let q = t (suc n) in omega (arith, q, e))

-- two answers with the same rows before them
pub unless_both : {A B : Type 0} (R : A → B → Type 0) (f : ℕ → A) (g : ℕ → B) (n : ℕ) (x : A) (y : B) → ((m : ℕ) → R (f m) (g m)) → (n ≡ 0 → R x y)
    → R (unless_refused f n x) (unless_refused g n y)
unless_both R f g zero x y told rest = rest refl
unless_both R f g (suc n) x y told rest = told (suc n)
