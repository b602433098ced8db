-- `calibration::regression::slope` meets its contract: the whole part and the rest by `divide`, what the rest gives by `near_unsigned`, and B from both.
use Rattle.std.proofs.Common.{rules, ◌≡◌, sym, ap, subst, ◌∙◌, true, Some, ℕ, ◌≤◌, ◌<◌, arith, T, SFits, to_z-of_z, w32, w64}
use Rattle.std.specs.Prelude.{Bool, ℤ, pos, neg_ℤ, nat_abs, ◌+ℤ◌, ◌*ℤ◌, ◌<ℤ◌}
use lib.Dec.{lit<}
use mir.Val.{to_z, of_z}
use Rattle.charts.specs.Integers.{abs_ud, one_zero, eq_ud, le_ud, lt_ud, ud_le, abs_sum, abs_prod, abs_sfits}
use Rattle.charts.specs.SignedLocals.{Loc, arg, lit, add, add_need, mul, cast, cast_need}
use Rattle.charts.specs.Rounding.{near_of}
use Rattle.charts.specs.Division.{Divided, division_of}
use Rattle.charts.specs.declared.Division.{Division}
use Rattle.charts.proofs.RoundingLaws.{division_parts}
use Rattle.calibration.specs.Pairs.{Between, between_of, between_answers}
use Rattle.calibration.proofs.RangeLaws.{between_abs, between_fits}
use Rattle.calibration.specs.Calibration.{slope_ranged_of}
use Rattle.calibration.proofs.SlopeLaws.{slope_parts, part_ranged, slope_far, slope_in, slope_out}
use Rattle.charts.proofs.CastLaws.{signed, unsigned}
use Rattle.calibration.proofs.regression.slope.Goals as goal
use Rattle.calibration.proofs.regression.slope.Goals.{After-cast_signed}

-- a range test of a local, and what it says where it holds
tested : (a b : ℤ) (A : Loc w64) {t : Bool} → t ≡ between_of a b (to_z w64 A.bits) → t ≡ between_of a b A.num
tested a b A e = e ∙ ap (between_of a b) A.reads

inside : (a b z : ℤ) → between_of a b z ≡ true → Between a b z
inside a b z e = (between_answers a b z).sure (subst T (sym e) tt)

-- the whole part and the rest
parts : {rise divisor : ℤ} {p : Division} → pos 0 <ℤ divisor → SFits w64 rise → SFits w64 divisor → p ≡ division_of (to_z w64 (of_z w64 rise)) (to_z w64 (of_z w64 divisor))
    → Divided rise divisor p.whole p.rest
parts h R D e = division_parts h (rw (to_z-of_z {w = w64} R, to_z-of_z {w = w64} D) at e)

module _ (edition : ℕ) {rise divisor whole rest : ℤ} (Q : (nat_abs rise ≤ 144000000000000) × (pos 0 <ℤ divisor) × (nat_abs divisor ≤ 144000000000000)) (D : Divided rise divisor whole rest) where
  abbrev b : ℤ
  b = near_of edition (pos 100000 *ℤ rise) divisor

  rest-small : nat_abs rest < 144000000000000
  rest-small = omega (arith, abs_ud rest, one_zero rest, le_ud D.low, lt_ud D.high, abs_ud divisor, one_zero divisor, Q.2)

  -- the rest, unsigned
  rest-is : {x : ℕ} → x ≡ of_z w64 (to_z w64 (of_z w64 rest)) → pos x ≡ rest
  rest-is e = unsigned (arg {w = w64} rest (abs_sfits (omega (arith, rest-small)))) D.low e

  divisor-is : {y : ℕ} → y ≡ of_z w64 (to_z w64 (of_z w64 divisor)) → pos y ≡ divisor
  divisor-is e = unsigned (arg {w = w64} divisor (abs_sfits (omega (arith, Q.2)))) (ud_le (omega (arith, lt_ud Q.1))) e

-- where the rest's part is there: it, the whole part and B as the machine's numbers
module _ (c : After-cast_signed) where
  whole-fits : SFits w64 c.divide-p.result.whole
  whole-fits = search rules

  abbrev D : Divided c.args.rise c.args.divisor c.divide-p.result.whole c.divide-p.result.rest
  D = parts c.requires.1 c.ranges.rise c.ranges.divisor c.divide-p.ensures

  part-is : pos c.near_unsigned-part.result ≡ near_of c.args.edition (pos 100000 *ℤ c.divide-p.result.rest) c.args.divisor
  part-is =
      c.near_unsigned-part.ensures
      ∙ ap (λ (z : ℤ). near_of c.args.edition (pos 100000 *ℤ z) (pos c.cast_unsigned.result)) (rest-is c.args.edition c.requires D c.cast_unsigned-rest.ensures)
      ∙ ap (near_of c.args.edition (pos 100000 *ℤ c.divide-p.result.rest)) (divisor-is c.args.edition c.requires D c.cast_unsigned.ensures)

  part-small : c.near_unsigned-part.result ≤ 100000
  part-small = omega (arith, le_ud (part_ranged c.args.edition c.args.rise c.args.divisor c.requires.1 D).high, eq_ud part-is)

  abbrev P : Loc w64
  P = signed c.near_unsigned-part.result (omega (arith, part-small)) c.cast_signed.ensures

  whole-in : between_of (neg_ℤ (pos 1)) (pos 10) c.divide-p.result.whole ≡ true
  whole-in = sym (tested (neg_ℤ (pos 1)) (pos 10) (arg c.divide-p.result.whole whole-fits) c.between_wide.ensures) ∙ c.if-not-between_wide.false

  product-small : nat_abs (pos 100000 *ℤ c.divide-p.result.whole) ≤ 1000000
  product-small = omega (arith, abs_prod (pos 100000) c.divide-p.result.whole, between_abs (inside (neg_ℤ (pos 1)) (pos 10) c.divide-p.result.whole whole-in))

  abbrev K : Loc w64
  K = mul (lit 100000 (lit< tt)) (arg c.divide-p.result.whole whole-fits) (abs_sfits (omega (arith, product-small)))

  abbrev B : Loc w64
  B = add K P (abs_sfits (omega (arith, abs_sum K.num P.num, product-small, part-small)))

  b-is : B.num ≡ b c.args.edition c.requires D
  b-is = ap (λ (z : ℤ). pos 100000 *ℤ c.divide-p.result.whole +ℤ z) part-is ∙ sym (slope_parts c.args.edition c.args.rise c.args.divisor c.requires.1 D)

  module _ {u : Bool} (U : u ≡ between_of (pos 1) (pos 1000000) (to_z w64 B.bits)) where
    b-tested : u ≡ slope_ranged_of (b c.args.edition c.requires D)
    b-tested = tested (pos 1) (pos 1000000) B U ∙ ap slope_ranged_of b-is

    -- B as i32
    abbrev Result : u ≡ true → Loc w32
    Result e = cast w32 B (rw b-is (between_fits tt (inside (pos 1) (pos 1000000) (b c.args.edition c.requires D) (sym b-tested ∙ e))))

pub returns-then-not-between_wide : goal.returns-then-not-between_wide
returns-then-not-between_wide c =
    let a = c.args in
    let D = parts c.requires.1 c.ranges.rise c.ranges.divisor c.divide-p.ensures in
    let F : SFits w64 c.divide-p.result.whole = search rules in
    sym (slope_far a.edition a.rise a.divisor c.requires.1 D (sym (tested (neg_ℤ (pos 1)) (pos 10) (arg c.divide-p.result.whole F) c.between_wide.ensures) ∙ c.if-not-between_wide.true))

pub overflow_mul-rest : goal.overflow_mul-rest
overflow_mul-rest c =
    let D = parts c.requires.1 c.ranges.rise c.ranges.divisor c.divide-p.ensures in
    let e = rest-is c.args.edition c.requires D c.cast_unsigned-rest.ensures in
    omega (arith, ap nat_abs e, rest-small c.args.edition c.requires D)

pub overflow_add-b : goal.overflow_add-b
overflow_add-b c = let w : After-cast_signed = (goal.at.overflow_add-b c).After-cast_signed in add_need (K w) (P w) (B w).fit

pub returns-then-not-between_wide-2 : goal.returns-then-not-between_wide-2
returns-then-not-between_wide-2 c =
    let w : After-cast_signed = (goal.at.returns-then-not-between_wide-2 c).After-cast_signed in
    sym (slope_out c.args.edition c.args.rise c.args.divisor (sym (b-tested w c.between_wide-2.ensures) ∙ c.if-not-between_wide-2.true))

pub overflow_cast-result : goal.overflow_cast-result
overflow_cast-result c =
    let w : After-cast_signed = (goal.at.overflow_cast-result c).After-cast_signed in
    cast_need w32 (B w) (Result w c.between_wide-2.ensures c.if-not-between_wide-2.false).fit

pub returns : goal.returns
returns c =
    let w : After-cast_signed = (goal.at.returns c).After-cast_signed in
    ap (λ (z : ℤ). Some z) ((Result w c.between_wide-2.ensures c.if-not-between_wide-2.false).reads ∙ b-is w)
    ∙ sym (slope_in c.args.edition c.args.rise c.args.divisor (sym (b-tested w c.between_wide-2.ensures) ∙ c.if-not-between_wide-2.false))
