-- `calibration::fitting::line_fits` meets its contract.
use Rattle.std.proofs.Common.{arith, ◌≡◌, refl, sym, ap, ◌∙◌, ◌<◌, ◌≤◌, false, List, length, to_z-of_z, w32}
use Rattle.std.specs.Prelude.{ℤ}
use mir.Val.{to_z, of_z}
use Rattle.calibration.specs.Calibration.{some_beyond, deviations_of, q_of, residuals_of, top_of}
use Rattle.calibration.proofs.RangeLaws.{between_fits}
use Rattle.calibration.specs.Pairs.{RequirementsRanged}
use Rattle.calibration.proofs.VerdictLaws.{Dispersed, residuals_dispersed, line_beyond, pairs_of_pairs, line_stands}
use Rattle.calibration.specs.declared.pairs.Basis.{Basis}
use Rattle.calibration.specs.declared.line.Line.{Line}
use Rattle.calibration.specs.declared.pairs.Pair.{Pair}
use Rattle.calibration.specs.declared.pairs.Requirements.{Requirements}
use Rattle.calibration.specs.declared.residuals.Residuals.{Residuals}
use Rattle.calibration.proofs.RangeLaws.{sigma_taken, taken_small}
use Rattle.calibration.proofs.fitting.line_fits.Goals as goal

limit : {q : Requirements} → RequirementsRanged q → to_z w32 (of_z w32 q.limit) ≡ q.limit
limit Q = to_z-of_z {w = w32} (between_fits tt Q.limit)

pub returns-then-beyond : goal.returns-then-beyond
returns-then-beyond c = sym (line_beyond c.args.s.basis.edition c.args.s.basis.requirements c.args.s.pairs.now c.args.l (sym c.beyond.ensures ∙ c.if-beyond.true))

module _ (b : Basis) (l : Line) (ps : List Pair) (P : 0 < length ps) (N : length ps ≤ 30) (B : some_beyond b.edition b.requirements.oxygen l ps ≡ false) where
  spread : {r : Residuals} → r ≡ residuals_of b.edition b.requirements.oxygen l ps → Dispersed (length ps) r (q_of (deviations_of b.edition b.requirements.oxygen l ps))
  spread R = residuals_dispersed b.edition b.requirements.oxygen l ps (length ps) refl P N B R

pub dispersion-requires : goal.dispersion-requires
dispersion-requires c =
    let s = spread c.args.s.basis c.args.l c.args.s.pairs.now c.args.s.some c.args.s.few (sym c.beyond.ensures ∙ c.if-beyond.false) c.residuals-r.ensures in
    (c.args.s.few, s.sum, s.squares, s.above)

pub top-requires : goal.top-requires
top-requires c =
    let s = spread c.args.s.basis c.args.l c.args.s.pairs.now c.args.s.some c.args.s.few (sym c.beyond.ensures ∙ c.if-beyond.false) c.residuals-r.ensures in
    (s.most, rw (limit c.args.s.required) c.args.s.required.limit)

pub returns : goal.returns
returns c =
    let b = c.args.s.basis in
    let ps = c.args.s.pairs.now in
    let near = sym c.beyond.ensures ∙ c.if-beyond.false in
    let R = c.residuals-r.ensures in
    let s = spread b c.args.l ps c.args.s.some c.args.s.few near R in
    line_stands b.edition b.requirements ps c.args.l (length ps) c.dispersion.result c.cast_unsigned.result near refl (c.dispersion.ensures ∙ s.is) (sigma_taken c.args.s.required c.cast_unsigned.ensures)
    c.varied.result (c.varied.ensures ∙ rw c.k_factor.ensures.0)
    c.top.result
    (c.top.ensures
    ∙ ap (λ (e : ℤ). top_of b.edition e c.residuals-r.result.most) (limit c.args.s.required)
    ∙ ap (λ (r : Residuals). top_of b.edition b.requirements.limit r.most) R)

pub varied-requires : goal.varied-requires
varied-requires c = (omega arith, pairs_of_pairs (length c.args.s.pairs.now) c.args.s.few, taken_small c.args.s.required c.cast_unsigned.ensures, c.k_factor.ensures.1)
