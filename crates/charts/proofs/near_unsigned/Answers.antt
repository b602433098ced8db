-- `charts::near_unsigned` meets its contract: where the quotient is raised, the divisor is at least 2, so that one more fits.
use Rattle.std.proofs.Common.{◌≡◌, sym, subst, ◌∙◌, not, ℕ, ◌%◌, ◌/◌, ◌<◌, arith, T, div-add-mod', mod-lt, mul-le-mul_left}
use Rattle.std.specs.Prelude.{Bool, eqb, pos}
use Rattle.charts.specs.Integers.{ud_lt}
use Rattle.charts.specs.Rounding.{odd, rounds_up_of}
use Rattle.charts.proofs.RoundingLaws.{divided_unsigned, odd_unsigned, up_over, near_up, near_down}
use Rattle.charts.proofs.near_unsigned.Goals as goal

-- the test of a half, of the quotient and the rest
told : (edition n d : ℕ) {t : Bool} → t ≡ rounds_up_of edition (not (eqb (n / d % 2) 0)) (n % d) d → t ≡ rounds_up_of edition (odd (pos (n / d))) (n % d) d
told edition n d e = rw (sym (odd_unsigned (n / d))) e

pub overflow_add-result : goal.overflow_add-result
overflow_add-result c =
    let a = c.args in
    let below : a.n % a.d < a.d = mod-lt a.n c.requires in
    let l = up_over a.edition (odd (pos (a.n / a.d))) (a.n % a.d) a.d (subst T (sym (sym (told a.edition a.n a.d c.rounds_up.ensures) ∙ c.if-rounds_up.true)) tt) in
    omega (arith, div-add-mod' a.n a.d, mul-le-mul_left {m = 2} {n = a.d} (a.n / a.d) (omega arith))

pub returns-then-rounds_up : goal.returns-then-rounds_up
returns-then-rounds_up c =
    let a = c.args in
    near_up a.edition (pos a.n) (pos a.d) (ud_lt (omega (arith, c.requires))) (divided_unsigned a.n a.d c.requires)
    (sym (told a.edition a.n a.d c.rounds_up.ensures) ∙ c.if-rounds_up.true)

pub returns : goal.returns
returns c =
    let a = c.args in
    near_down a.edition (pos a.n) (pos a.d) (ud_lt (omega (arith, c.requires))) (divided_unsigned a.n a.d c.requires)
    (sym (told a.edition a.n a.d c.rounds_up.ensures) ∙ c.if-rounds_up.false)
