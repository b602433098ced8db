-- `calibration::testing::annual_test` meets its contract.
use Rattle.std.proofs.Common.{◌≡◌, refl, sym, ap, ◌∙◌, ◌-◌, ◌*◌, ◌≤◌, true, false, List, length, arith, mul-le-mul, w64}
use Rattle.std.specs.Prelude.{ℤ, pos, nat_abs}
use mir.Val.{to_z}
use Rattle.charts.specs.Integers.{abs_sfits}
use Rattle.charts.specs.SignedLocals.{Loc, arg, cast_u}
use Rattle.calibration.specs.Annual.{annual_count_fits_of, function_holds_of}
use Rattle.calibration.specs.Calibration.{some_beyond, deviations_of, q_of, residuals_of}
use Rattle.calibration.proofs.VerdictLaws.{Dispersed, residuals_dispersed, annual_count, test_unfit, test_beyond, test_stands}
use Rattle.calibration.specs.declared.pairs.Basis.{Basis}
use Rattle.calibration.specs.declared.line.Line.{Line}
use Rattle.calibration.specs.declared.pairs.Pair.{Pair}
use Rattle.calibration.specs.declared.residuals.Residuals.{Residuals}
use Rattle.calibration.proofs.SampleLaws.{all_tested}
use Rattle.calibration.proofs.RangeLaws.{sigma_taken, taken_small}
use Rattle.calibration.proofs.testing.annual_test.Goals as goal

-- ---- the count, the residuals and their sum
module _ (b : Basis) (l : Line) (ps : List Pair) (F : annual_count_fits_of (length ps) ≡ true) where
  counted : (5 ≤ length ps) × (length ps ≤ 8)
  counted = annual_count (length ps) F

  pairs : length ps * (length ps - 1) ≤ 56
  pairs = mul-le-mul {n₂ = 8} {m₂ = 7} counted.1 (omega (arith, counted))

  module _ (B : some_beyond b.edition b.requirements.oxygen l ps ≡ false) {r : Residuals} (R : r ≡ residuals_of b.edition b.requirements.oxygen l ps) where
    spread : Dispersed (length ps) r (q_of (deviations_of b.edition b.requirements.oxygen l ps))
    spread = residuals_dispersed b.edition b.requirements.oxygen l ps (length ps) refl (omega (arith, counted)) (omega (arith, counted)) B R

    abbrev S : Loc w64
    S = arg r.sum (abs_sfits (omega (arith, spread.sum)))

    sum_is : to_z w64 S.bits ≡ (residuals_of b.edition b.requirements.oxygen l ps).sum
    sum_is = S.reads ∙ ap (λ (r : Residuals). r.sum) R

-- ---- the needs
pub returns-then-not-annual_count_fits : goal.returns-then-not-annual_count_fits
returns-then-not-annual_count_fits c =
    sym (test_unfit c.args.b.edition c.args.b.requirements c.args.l c.args.pairs.now (sym c.annual_count_fits.ensures ∙ c.if-not-annual_count_fits.true))

pub returns-then-beyond : goal.returns-then-beyond
returns-then-beyond c =
    sym (test_beyond c.args.b.edition c.args.b.requirements c.args.l c.args.pairs.now (sym c.annual_count_fits.ensures ∙ c.if-not-annual_count_fits.false) (sym c.beyond.ensures ∙ c.if-beyond.true))

pub invariant_of-sample : goal.invariant_of-sample
invariant_of-sample c =
    let n = counted c.args.b c.args.l c.args.pairs.now (sym c.annual_count_fits.ensures ∙ c.if-not-annual_count_fits.false) in
    record { some = omega (arith, n); few = c.requires.0; ranged = all_tested c.args.pairs.now c.requires.1; required = c.requires.2 }

pub dispersion-dispersed-requires : goal.dispersion-dispersed-requires
dispersion-dispersed-requires c =
    let s = spread c.args.b c.args.l c.args.pairs.now (sym c.annual_count_fits.ensures ∙ c.if-not-annual_count_fits.false) (sym c.beyond.ensures ∙ c.if-beyond.false) c.residuals-r.ensures in
    (c.requires.0, s.sum, s.squares, s.above)

pub varied-requires : goal.varied-requires
varied-requires c =
    let p = pairs c.args.b c.args.l c.args.pairs.now (sym c.annual_count_fits.ensures ∙ c.if-not-annual_count_fits.false) in
    (omega arith, omega (arith, p), taken_small c.requires.2 c.cast_unsigned-sigma.ensures, c.annual_k_factor.ensures.1)

pub function_holds-requires : goal.function_holds-requires
function_holds-requires c =
    let F = sym c.annual_count_fits.ensures ∙ c.if-not-annual_count_fits.false in
    let B = sym c.beyond.ensures ∙ c.if-beyond.false in
    let n = counted c.args.b c.args.l c.args.pairs.now F in
    let s = spread c.args.b c.args.l c.args.pairs.now F B c.residuals-r.ensures in
    let S = S c.args.b c.args.l c.args.pairs.now F B c.residuals-r.ensures in
    (n.1, omega (arith, n), omega (arith, cast_u S, s.sum), omega (arith, ap nat_abs (c.dispersion-dispersed.ensures ∙ s.is), s.size), taken_small c.requires.2 c.cast_unsigned-sigma.ensures)

pub returns : goal.returns
returns c =
    let b = c.args.b in
    let l = c.args.l in
    let ps = c.args.pairs.now in
    let F = sym c.annual_count_fits.ensures ∙ c.if-not-annual_count_fits.false in
    let B = sym c.beyond.ensures ∙ c.if-beyond.false in
    let s = spread b l ps F B c.residuals-r.ensures in
    let q = c.dispersion-dispersed.result in
    test_stands b.edition b.requirements l ps (length ps) q c.cast_unsigned-sigma.result F B refl (c.dispersion-dispersed.ensures ∙ s.is) (sigma_taken c.requires.2 c.cast_unsigned-sigma.ensures)
    c.varied.result (c.varied.ensures ∙ rw c.annual_k_factor.ensures.0)
    c.function_holds.result
    (c.function_holds.ensures ∙ ap (λ (z : ℤ). function_holds_of (length ps) z (pos q) (pos c.cast_unsigned-sigma.result)) (sum_is b l ps F B c.residuals-r.ensures))
