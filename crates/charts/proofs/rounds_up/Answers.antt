-- `charts::rounds_up` meets its contract: twice the rest against the divisor, which the code tests without the double.
use borrow.Author.Tests.{eq-eqb, ne_eqb, eqb-true, eqb-false}
use mathlib.Core.Path.{◌≡◌, refl, sym, ◌∙◌}
use mathlib.Core.Bool.{Bool, true, false}
use native.Mathlib.Omega.{arith}
use Prim.Native.Nat.{ℕ, ◌*◌, ◌-◌, ◌<◌}
use lib.Dec.{eqb, ltb}
use Rattle.charts.specs.Tests.{answers_lt, answers_as, same_answer}
use Rattle.charts.specs.Rounding.{rounds_up_of}
use Rattle.charts.proofs.rounds_up.Goals as goal

over-half : (r d : ℕ) → r < d → ltb (d - r) r ≡ ltb d (2 * r)
over-half r d h = same_answer (answers_lt (d - r) r) (answers_as (answers_lt d (2 * r)) (λ k. omega arith) (λ k. omega arith))

at-half : (r d : ℕ) → r < d → eqb (d - r) r ≡ eqb d (2 * r)
at-half r d h = go (eqb d (2 * r)) refl
  where
    go : (b : Bool) → eqb d (2 * r) ≡ b → eqb (d - r) r ≡ eqb d (2 * r)
    go true e = let k = eqb-true d (2 * r) e in eq-eqb (d - r) r (omega arith) ∙ sym e
    go false e = let n = eqb-false d (2 * r) e in ne_eqb (d - r) r (λ k. n (omega arith)) ∙ sym e

pub returns : goal.returns
unfolding rounds_up_of
returns c = let a = c.args in rw (over-half a.r a.d c.requires, at-half a.r a.d c.requires)
