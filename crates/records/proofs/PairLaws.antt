-- The pairs that wait: the last of them, as indexing and the library's `last` give it.
use Rattle.std.proofs.Common.{◌≡◌, sym, ◌-◌, ◌<◌, List, [], ◌∷◌, length, get_or, refl, arith}
use Rattle.std.specs.Prelude.{Some, slice_get}
use Rattle.std.proofs.lemmas.Option.{get_or_from_slice_get, slice_get_within}
use Rattle.std.proofs.Math.Option.{some}
use Rattle.charts.specs.ListLaws.{member_at}
use Rattle.records.specs.Table.{first_start, last_of}
use Rattle.records.specs.Soundness.{AllSound, WaitingSound}
use Rattle.records.specs.declared.state.Waiting.{Waiting}

last_at : (w : Waiting) (ws : List Waiting) (d : Waiting) → last_of (w ∷ ws) ≡ some (get_or (w ∷ ws) (length ws) d)
last_at w [] d = refl
last_at w (v ∷ ws) d = last_at v ws d

pub last_is : (l : List Waiting) (d : Waiting) → 0 < length l → last_of l ≡ some (get_or l (length l - 1) d)
last_is [] d h = absurd (omega arith)
last_is (w ∷ ws) d h = let e : length (w ∷ ws) - 1 ≡ length ws = omega arith in rw e (last_at w ws d)

pub first_is : (l : List Waiting) (d : Waiting) → 0 < length l → first_start l ≡ (get_or l 0 d).start
first_is [] d h = absurd (omega arith)
first_is (w ∷ ws) d h = refl

module _ (l : List Waiting) (w : Waiting) (e : Some w ≡ slice_get l (length l - 1)) where
  within : length l - 1 < length l
  within = slice_get_within l (length l - 1) w (sym e)

  got : get_or l (length l - 1) w ≡ w
  got = get_or_from_slice_get l (length l - 1) w w (sym e)

  pub last_some : last_of l ≡ some w
  last_some = let h = within in rw got at (last_is l w (omega arith))

  pub last_sound : AllSound l → WaitingSound w
  last_sound s = rw got at (member_at AllSound WaitingSound (λ w ws s. s) l (length l - 1) w within s)
