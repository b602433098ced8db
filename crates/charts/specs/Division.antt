-- Paper 02, C-14: the floor of a quotient and what is left over, by which the code rounds either sign in one way.
-- `near_of` says what rounding is, and does not rest on these.
use Rattle.std.specs.Prelude.{◌≡◌, ℤ, pos, nat_abs, ◌+ℤ◌, ◌-ℤ◌, ◌*ℤ◌, ◌≤ℤ◌, ◌<ℤ◌}
use Rattle.std.specs.Int.Signed.{shr_z}
use Rattle.charts.specs.declared.Division.{Division}

-- the floor of n / d, and n less d times the floor, for d above 0. `shr_z n m` is the library's floor of n / m.
unfoldable pub division_of : ℤ → ℤ → Division
division_of n d =
    let q : ℤ = shr_z n (nat_abs d) in
    record { whole = q; rest = n -ℤ q *ℤ d }

-- n is q·d + r, and the rest r lies in 0..d-1
pub record Divided (n d q r : ℤ) : Type 0 where
  pub low : pos 0 ≤ℤ r
  pub high : r <ℤ d
  pub parts : n ≡ q *ℤ d +ℤ r
