-- Paper 01, 'Units and rounding', and paper 02, C-12: rounding by an edition. 2 is edition 2, and every other number
-- rounds as edition 1 does.
use Rattle.std.specs.Prelude.{Bool, not, ◌&&◌, ◌||◌, ℕ, ◌*◌, ◌%◌, eqb, ltb, ℤ, pos, nat_abs, ◌+ℤ◌, ◌-ℤ◌, ◌*ℤ◌}
use Rattle.std.specs.Prelude.{if◌then◌else◌}
use Rattle.std.specs.Int.Signed.{shr_z}

-- the editions that there are (paper 02, C-12)
unfoldable pub edition_known_of : ℕ → Bool
edition_known_of edition = eqb edition 1 || eqb edition 2

unfoldable pub odd : ℤ → Bool
odd q = eqb (nat_abs q % 2) 1

-- A number lies r/d above the whole number under it, r below d; `uneven` tells whether that whole number is odd.
-- Whether the next one is taken: it is where r/d is more than a half. Exactly a half goes up, but in edition 2 to
-- whichever neighbour is even.
unfoldable pub rounds_up_of : ℕ → Bool → ℕ → ℕ → Bool
rounds_up_of edition uneven r d = ltb d (2 * r) || eqb d (2 * r) && (not (eqb edition 2) || uneven)

-- near(n/d) for d above 0: the whole number nearest to n / d, a half by the rule of the edition. `shr_z n m` is the
-- library's floor of n / m.
unfoldable pub near_of : ℕ → ℤ → ℤ → ℤ
near_of edition n d =
    let q : ℤ = shr_z n (nat_abs d) in
    let r : ℕ = nat_abs (n -ℤ q *ℤ d) in
    if rounds_up_of edition (odd q) r (nat_abs d) then q +ℤ pos 1 else q
