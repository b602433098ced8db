-- `charts::near` meets its contract: the floor and the rest by `divide`, and the test of a half.
use Rattle.std.proofs.Common.{rules, ◌≡◌, refl, sym, ap, ◌∙◌, not, true, false, ℕ, zero, suc, ◌≤◌, ◌<◌, ◌^◌, arith, SFits, to_z-of_z, w64}
use Rattle.std.specs.Prelude.{Bool, eqb, ℤ, pos, negsuc, nat_abs, ◌+ℤ◌, ◌<ℤ◌}
use Rattle.std.specs.Int.Signed.{rem_z, lt_z_yes}
use lib.Dec.{lit<}
use mir.Val.{to_z, of_z}
use Rattle.charts.specs.Integers.{abs_ud, one_zero, ud_le, le_ud, lt_ud, abs_sfits}
use Rattle.charts.specs.SignedLocals.{Loc, arg, lit, on_both, add, add_need, rem}
use Rattle.charts.specs.Rounding.{odd, rounds_up_of, near_of}
use Rattle.charts.specs.Division.{Divided, division_of}
use Rattle.charts.specs.declared.Division.{Division}
use Rattle.charts.proofs.CastLaws.{unsigned}
use Rattle.charts.proofs.RoundingLaws.{abs_rem, odd_signed, near_up, near_down, near_bound, division_parts}
use Rattle.charts.proofs.near.Goals as goal

abbrev One : Loc w64
One = lit 1 (lit< tt)

abbrev Two : Loc w64
Two = lit 2 (lit< tt)

two_pos : pos 0 <ℤ Two.num
two_pos = lt_z_yes tt

-- the test of a remainder by 2, as the machine has it
bit : (z : ℤ) → nat_abs z < 2 → not (eqb (of_z w64 z) 0) ≡ not (eqb (nat_abs z) 0)
bit (pos n) h = refl
bit (negsuc zero) h = refl
bit (negsuc (suc n)) h = absurd (omega arith)

-- the whole part and the rest
parts : {n d : ℤ} {p : Division} → pos 0 <ℤ d → SFits w64 n → SFits w64 d → p ≡ division_of (to_z w64 (of_z w64 n)) (to_z w64 (of_z w64 d)) → Divided n d p.whole p.rest
parts h N D e = division_parts h (rw (to_z-of_z {w = w64} N, to_z-of_z {w = w64} D) at e)

module _ (edition : ℕ) {n d whole rest : ℤ} (Q : (nat_abs n ≤ 2 ^ 62) × (pos 0 <ℤ d) × (nat_abs d ≤ 2 ^ 61)) (D : Divided n d whole rest) where
  rest-small : nat_abs rest < nat_abs d
  rest-small = omega (arith, abs_ud rest, one_zero rest, le_ud D.low, lt_ud D.high, abs_ud d, one_zero d)

  -- the rest and the divisor, unsigned
  rest-is : {r : ℕ} → r ≡ of_z w64 (to_z w64 (of_z w64 rest)) → r ≡ nat_abs rest
  rest-is e = ap nat_abs (unsigned (arg {w = w64} rest (abs_sfits (omega (arith, rest-small, Q.2)))) D.low e)

  divisor-is : {m : ℕ} → m ≡ of_z w64 (to_z w64 (of_z w64 d)) → m ≡ nat_abs d
  divisor-is e = ap nat_abs (unsigned (arg {w = w64} d (abs_sfits (omega (arith, Q.2)))) (ud_le (omega (arith, lt_ud Q.1))) e)

  module _ (F : SFits w64 whole) where
    abbrev W : Loc w64
    W = arg whole F

    odd-is : not (eqb (rem W Two two_pos).bits 0) ≡ odd whole
    odd-is =
        ap (λ (z : ℤ). not (eqb (of_z w64 z) 0)) (on_both W Two rem_z)
        ∙ bit (rem_z whole (pos 2)) (omega (arith, abs_rem whole (pos 2) two_pos))
        ∙ odd_signed whole

    module _ {r m : ℕ} {t : Bool} (R : r ≡ of_z w64 (to_z w64 (of_z w64 rest))) (M : m ≡ of_z w64 (to_z w64 (of_z w64 d))) (T : t ≡ rounds_up_of edition (not (eqb (rem W Two two_pos).bits 0)) r m) where
      told : t ≡ rounds_up_of edition (odd whole) (nat_abs rest) (nat_abs d)
      told = T ∙ rw (odd-is, rest-is R, divisor-is M)

      up : t ≡ true → whole +ℤ pos 1 ≡ near_of edition n d
      up u = near_up edition n d Q.1 D (sym told ∙ u)

      down : t ≡ false → whole ≡ near_of edition n d
      down u = near_down edition n d Q.1 D (sym told ∙ u)

      abbrev Next : t ≡ true → Loc w64
      Next u = add W One (abs_sfits (rw (up u) (omega (arith, near_bound edition n d (2 ^ 62) Q.1 (omega (arith, Q.0, lt_ud Q.1, abs_ud d))))))

pub rounds_up-requires : goal.rounds_up-requires
rounds_up-requires c =
    let D = parts c.requires.1 c.ranges.n c.ranges.d c.divide-p.ensures in
    let e = c.args.edition in
    omega (arith, rest-is e c.requires D c.cast_unsigned.ensures, divisor-is e c.requires D c.cast_unsigned-2.ensures, rest-small e c.requires D)

pub overflow_add-result : goal.overflow_add-result
overflow_add-result c =
    let D = parts c.requires.1 c.ranges.n c.ranges.d c.divide-p.ensures in
    let F : SFits w64 c.divide-p.result.whole = search rules in
    add_need (arg c.divide-p.result.whole F) One (Next c.args.edition c.requires D F c.cast_unsigned.ensures c.cast_unsigned-2.ensures c.rounds_up.ensures c.if-rounds_up.true).fit

pub returns-then-rounds_up : goal.returns-then-rounds_up
returns-then-rounds_up c =
    let D = parts c.requires.1 c.ranges.n c.ranges.d c.divide-p.ensures in
    let F : SFits w64 c.divide-p.result.whole = search rules in
    let e = c.args.edition in
    (Next e c.requires D F c.cast_unsigned.ensures c.cast_unsigned-2.ensures c.rounds_up.ensures c.if-rounds_up.true).reads
    ∙ up e c.requires D F c.cast_unsigned.ensures c.cast_unsigned-2.ensures c.rounds_up.ensures c.if-rounds_up.true

pub returns : goal.returns
returns c =
    let D = parts c.requires.1 c.ranges.n c.ranges.d c.divide-p.ensures in
    let F : SFits w64 c.divide-p.result.whole = search rules in
    (arg {w = w64} c.divide-p.result.whole F).reads ∙ down c.args.edition c.requires D F c.cast_unsigned.ensures c.cast_unsigned-2.ensures c.rounds_up.ensures c.if-rounds_up.false
