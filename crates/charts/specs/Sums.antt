-- Paper 01, 'Charts (7.2-7.6)': one sum with its count, for any term.
use Rattle.std.specs.Prelude.{◌+◌, ℤ, pos, nat_abs, ◌+ℤ◌, if◌then◌else◌}
use Rattle.std.specs.Int.Signed.{lt_z}
use Rattle.charts.specs.declared.Sum.{Sum}

-- nothing summed
unfoldable pub empty : Sum
empty = record { value = 0; count = 0 }

-- One term more: what is then above 0 stays, one reading longer; otherwise sum and count start again from nothing.
-- (Where it stays, its magnitude is the sum itself.)
unfoldable pub added : Sum → ℤ → Sum
added u t =
    if lt_z (pos 0) (pos u.value +ℤ t) then record { value = nat_abs (pos u.value +ℤ t); count = u.count + 1 }
    else empty
