-- What `from`, `cast_unsigned` and `cast_signed` answer, as the numbers that they stand for.
use Rattle.std.specs.Prelude.{◌≡◌, refl, ℕ, ◌^◌, ◌<◌, ℤ, pos, negsuc, ◌≤ℤ◌}
use Rattle.std.proofs.Common.{ap, ◌∙◌, to_z-of_z}
use Rattle.std.specs.Int.{Width}
use mir.Val.{SFits, to_z, of_z, hbits}
use Rattle.std.proofs.Math.Facts.{to_z_pos}
use Rattle.charts.specs.SignedLocals.{Loc, lit}

-- a signed local that holds a call's answer
abbrev pub answer : {w : Width} {x z : ℤ} → x ≡ z → SFits w z → Loc w
answer {w} {x} {z} e f = record { bits = of_z w x; num = z; reads = ap (λ (v : ℤ). to_z w (of_z w v)) e ∙ to_z-of_z f; fit = f }

-- an unsigned number below the sign bit as a signed one
abbrev pub signed : {w : Width} {x : ℤ} (n : ℕ) → n < 2 ^ hbits w → x ≡ to_z w n → Loc w
signed {w} n h e = answer (e ∙ to_z_pos w h) (lit {w = w} n h).fit

-- a signed number that is not negative as an unsigned one
bits_of : (w : Width) (z : ℤ) → pos 0 ≤ℤ z → pos (of_z w z) ≡ z
bits_of w (pos n) h = refl
bits_of w (negsuc n) h = absurd h.le

pub unsigned : {w : Width} {x : ℕ} (A : Loc w) → pos 0 ≤ℤ A.num → x ≡ of_z w (to_z w A.bits) → pos x ≡ A.num
unsigned {w} A h e = ap pos (e ∙ ap (of_z w) A.reads) ∙ bits_of w A.num h
