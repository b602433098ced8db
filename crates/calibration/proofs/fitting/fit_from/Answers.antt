-- `calibration::fitting::fit_from` meets its contract.
use Rattle.std.proofs.Common.{◌≡◌, sym, ap, subst, ◌∙◌, ◌<◌, T, true, false, arith, to_z-of_z, w32, w64, Some, None, List}
use Rattle.std.specs.Prelude.{Bool, ℤ, pos, nat_abs, ◌≤ℤ◌, ◌<ℤ◌, ◌≤◌, Option}
use Rattle.std.specs.Int.Signed.{mag, le_z}
use lib.Dec.{lit<}
use mir.Val.{to_z, of_z}
use Rattle.charts.specs.SignedLocals.{Loc, arg, lit, le_true, le_false}
use Rattle.calibration.specs.Pairs.{Between, ZRanged, between_answers}
use Rattle.calibration.proofs.RangeLaws.{between_fits}
use Rattle.calibration.specs.Outcomes.{refused_fit}
use Rattle.calibration.specs.Calibration.{LineRanged, flat_of, rise_of, divisor_of, intercept_of, slope_ranged_of, line_fits_of, fit_from_of}
use Rattle.calibration.specs.InCode.{SumsRanged, slope_code}
use Rattle.calibration.proofs.SlopeLaws.{slope_refused, slope_taken}
use Rattle.calibration.proofs.SizeLaws.{rise_bound, divisor_bound, line_ranged}
use Rattle.calibration.proofs.VerdictLaws.{divisor_by, slope_by, no_divisor, no_slope, a_line}
use Rattle.calibration.specs.declared.pairs.Basis.{Basis}
use Rattle.calibration.specs.declared.pairs.Pair.{Pair}
use Rattle.calibration.specs.declared.regression.Sums.{Sums}
use Rattle.calibration.proofs.fitting.fit_from.Goals as goal

-- ---- what the code works out is what the definition does: the branch and the divisor, then the rise, then the slope, then the intercept
module _ (b : Basis) (z : ℤ) (ps : List Pair) (u : Sums) (Q : ZRanged z × SumsRanged u × (0 < u.n)) where
  abbrev flat : Bool
  flat = flat_of b.edition b.requirements ps

  abbrev divisor : ℤ
  divisor = divisor_by b.edition b.requirements z ps u

  abbrev slope : ℤ
  slope = slope_by b.edition b.requirements z ps u

  back : to_z w32 (of_z w32 z) ≡ z
  back = to_z-of_z {w = w32} (between_fits tt Q.0)

  module _ {f : Bool} {d : ℤ} (E : f ≡ flat) (D : d ≡ divisor_of f u (to_z w32 (of_z w32 z))) (V : mag d < 9223372036854775808) where
    divisor-is : d ≡ divisor
    divisor-is = D ∙ ap (λ (f : Bool). divisor_of f u (to_z w32 (of_z w32 z))) E ∙ ap (divisor_of flat u) back

    abbrev Divisor : Loc w64
    Divisor = arg d (record { sfits = V })

    refused : le_z (to_z w64 (of_z w64 d)) (pos 0) ≡ true → refused_fit 22 ≡ fit_from_of b.edition b.requirements z ps u
    refused t = sym (no_divisor b.edition b.requirements z ps u (subst (λ (x : ℤ). x ≤ℤ pos 0) divisor-is (le_true Divisor (lit 0 (lit< tt)) t)))

    module _ {r : ℤ} (A : le_z (to_z w64 (of_z w64 d)) (pos 0) ≡ false) (R : r ≡ rise_of f u) (W : mag r < 9223372036854775808) where
      above : pos 0 <ℤ divisor
      above = subst (λ (x : ℤ). pos 0 <ℤ x) divisor-is (le_false Divisor (lit 0 (lit< tt)) A)

      rise-is : to_z w64 (of_z w64 r) ≡ rise_of flat u
      rise-is = to_z-of_z {w = w64} (record { sfits = W }) ∙ R ∙ ap (λ (f : Bool). rise_of f u) E

      asked : (nat_abs (to_z w64 (of_z w64 r)) ≤ 144000000000000) × (pos 0 <ℤ to_z w64 (of_z w64 d)) × (nat_abs (to_z w64 (of_z w64 d)) ≤ 144000000000000)
      asked = rw (rise-is, Divisor.reads, divisor-is) (omega (arith, rise_bound Q.1 flat), above, omega (arith, divisor_bound Q.1 Q.0 flat))

      module _ {s : Option ℤ} (S : s ≡ slope_code b.edition (to_z w64 (of_z w64 r)) (to_z w64 (of_z w64 d))) where
        slope-is : s ≡ slope_code b.edition (rise_of flat u) divisor
        slope-is = S ∙ rw (rise-is, Divisor.reads, divisor-is)

        outside : s ≡ None → refused_fit 23 ≡ fit_from_of b.edition b.requirements z ps u
        outside e = sym (no_slope b.edition b.requirements z ps u above (slope_refused b.edition (rise_of flat u) divisor (sym slope-is ∙ e)))

        -- a slope that stands is B, in its range
        module _ {m : ℤ} (M : s ≡ Some m) where
          kept : slope_ranged_of slope ≡ true
          kept = (slope_taken b.edition (rise_of flat u) divisor (sym slope-is ∙ M)).0

          ranged : Between (pos 1) (pos 1000000) slope
          ranged = (between_answers (pos 1) (pos 1000000) slope).sure (subst T (sym kept) tt)

          slope-kept : to_z w32 (of_z w32 m) ≡ slope
          slope-kept = let e = (slope_taken b.edition (rise_of flat u) divisor (sym slope-is ∙ M)).1 in rw e (to_z-of_z {w = w32} (between_fits tt ranged))

          module _ {a : ℤ} (I : a ≡ intercept_of b.edition f u (to_z w32 (of_z w32 z)) (to_z w32 (of_z w32 m))) (J : mag a < 9223372036854775808) where
            intercept-is : to_z w64 (of_z w64 a) ≡ intercept_of b.edition flat u z slope
            intercept-is = to_z-of_z {w = w64} (record { sfits = J }) ∙ I ∙ rw (E, back, slope-kept)

            line-ranged : LineRanged (record { slope = to_z w32 (of_z w32 m); intercept = to_z w64 (of_z w64 a) })
            line-ranged = rw (slope-kept, intercept-is) (line_ranged b.edition Q.1 Q.2 Q.0 ranged flat)

            fits : line_fits_of b.edition b.requirements ps (record { slope = to_z w32 (of_z w32 m); intercept = to_z w64 (of_z w64 a) }) ≡ fit_from_of b.edition b.requirements z ps u
            fits = rw (slope-kept, intercept-is) (sym (a_line b.edition b.requirements z ps u above kept))

pub returns-then-d-le0 : goal.returns-then-d-le0
returns-then-d-le0 c =
    let s = c.args.s in
    refused s.basis c.args.z s.pairs.now c.args.u c.requires c.is_flat.ensures c.divisor-d.ensures c.divisor-d.type_inv c.if-d-le0.true

pub slope-requires : goal.slope-requires
slope-requires c =
    let s = c.args.s in
    asked s.basis c.args.z s.pairs.now c.args.u c.requires c.is_flat.ensures c.divisor-d.ensures c.divisor-d.type_inv c.if-d-le0.false c.rise.ensures c.rise.type_inv

pub returns-in_default : goal.returns-in_default
returns-in_default c =
    let s = c.args.s in
    outside s.basis c.args.z s.pairs.now c.args.u c.requires c.is_flat.ensures c.divisor-d.ensures c.divisor-d.type_inv c.if-d-le0.false c.rise.ensures c.rise.type_inv
    c.slope.ensures c.in_default.is

pub intercept-intercept-requires : goal.intercept-intercept-requires
intercept-intercept-requires c =
    let s = c.args.s in
    let e = slope-kept s.basis c.args.z s.pairs.now c.args.u c.requires c.is_flat.ensures c.divisor-d.ensures c.divisor-d.type_inv c.if-d-le0.false c.rise.ensures c.rise.type_inv c.slope.ensures c.in-Some.is in
    rw e
    (ranged s.basis c.args.z s.pairs.now c.args.u c.requires c.is_flat.ensures c.divisor-d.ensures c.divisor-d.type_inv c.if-d-le0.false c.rise.ensures c.rise.type_inv
    c.slope.ensures c.in-Some.is)

pub line_fits-requires : goal.line_fits-requires
line_fits-requires c =
    let s = c.args.s in
    line-ranged s.basis c.args.z s.pairs.now c.args.u c.requires c.is_flat.ensures c.divisor-d.ensures c.divisor-d.type_inv c.if-d-le0.false c.rise.ensures c.rise.type_inv
    c.slope.ensures c.in-Some.is c.intercept-intercept.ensures c.intercept-intercept.type_inv

pub returns : goal.returns
returns c =
    let s = c.args.s in
    c.line_fits.ensures
    ∙ fits s.basis c.args.z s.pairs.now c.args.u c.requires c.is_flat.ensures c.divisor-d.ensures c.divisor-d.type_inv c.if-d-le0.false c.rise.ensures c.rise.type_inv
    c.slope.ensures c.in-Some.is c.intercept-intercept.ensures c.intercept-intercept.type_inv
