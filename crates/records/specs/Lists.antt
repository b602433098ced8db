-- Parts of a list that has the newest first, and what one element more does to them.
use Rattle.std.specs.Prelude.{◌≡◌, refl, Bool, true, false, List, [], ◌∷◌, if◌then◌else◌}

module _ {A : Type 0} where
  -- the elements after the newest of which p holds; all where it holds of none
  abbrev pub since : (A → Bool) → List A → List A
  since p [] = []
  since p (r ∷ h) = if p r then [] else r ∷ since p h

  -- those of which p holds
  abbrev pub those : (A → Bool) → List A → List A
  those p [] = []
  those p (r ∷ h) = if p r then r ∷ those p h else those p h

  -- whether p holds of one
  abbrev pub any : (A → Bool) → List A → Bool
  any p [] = false
  any p (r ∷ h) = if p r then true else any p h

  pub those_since : (p q : A → Bool) (r : A) (h : List A)
      → those p (since q (r ∷ h))
      ≡ (if q r then [] else (if p r then r ∷ those p (since q h) else those p (since q h)))
  those_since p q r h =
      elim (q r) as
      (λ b. those p (if b then [] else r ∷ since q h)
      ≡ (if b then [] else (if p r then r ∷ those p (since q h) else those p (since q h))))
      [ true ↦ refl | false ↦ refl ]
