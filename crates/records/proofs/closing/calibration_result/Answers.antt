-- `closing::calibration_result` meets its contract.
use Rattle.std.proofs.Common.{◌≡◌, refl, sym, ap, subst, ◌∙◌, Bool, true, not, List, map, ℤ, length, take, length-take, length-take-le, arith, w32, to_z, of_z}
use mir.Facts.{to_z-of_z}
use Rattle.std.specs.Prelude.{if◌then◌else◌}
use Rattle.calibration.specs.Pairs.{AllRanged}
use Rattle.calibration.specs.Calibration.{count_fits_of, fit_of, refused_fit}
use Rattle.calibration.proofs.VerdictLaws.{count_above}
use Rattle.records.specs.Table.{calibration_of, days_fit_of, pair_of_waiting}
use Rattle.records.proofs.SoundnessLaws.{pairs_ranged}
use Rattle.records.specs.State.{facts_of}
use Rattle.records.specs.declared.state.Waiting.{Waiting}
use Rattle.records.proofs.StateLaws.{thirty, waiting_figures}
use Rattle.records.proofs.closing.calibration_result.Goals as goal
use Rattle.records.proofs.closing.calibration_result.Goals.{Else-not-count_fits, Start}

module _ (s : Start) where
  -- the pairs that wait
  abbrev ws : List Waiting
  ws = take s.args.st.waiting s.args.st.pairs

  counted : length ws ≡ s.args.st.waiting
  counted = let st = s.args.st in length-take-le st.waiting st.pairs (omega (arith, s.requires.0.waiting, thirty st _ s.well_formed.0))

  z-back : to_z w32 (of_z w32 s.args.z) ≡ s.args.z
  z-back = to_z-of_z {w = w32} s.ranges.z

  -- the definition by its two tests
  whole : {few fit : Bool} → count_fits_of s.args.st.waiting ≡ few → days_fit_of ws ≡ fit
      → calibration_of (facts_of s.args.st) s.args.z
      ≡ (if not few then refused_fit 20 else (if not fit then refused_fit 21 else fit_of s.args.st.edition s.args.st.setting.requirements s.args.z (map pair_of_waiting ws)))
  unfolding calibration_of facts_of
  whole e f = rw (counted, e, f)

fits : (c : Else-not-count_fits) → count_fits_of c.args.st.waiting ≡ true
fits c = sym c.count_fits.ensures ∙ c.if-not-count_fits.false

pub returns-then-not-count_fits : goal.returns-then-not-count_fits
returns-then-not-count_fits c =
    sym (whole (goal.at.returns-then-not-count_fits c).Start (sym c.count_fits.ensures ∙ c.if-not-count_fits.true) refl)

pub days_fit-requires : goal.days_fit-requires
days_fit-requires c =
    let at = goal.at.days_fit-requires c in
    omega (arith, count_above c.args.st.waiting (fits at.Else-not-count_fits), counted at.Start)

pub returns-then-not-days_fit : goal.returns-then-not-days_fit
returns-then-not-days_fit c =
    let at = goal.at.returns-then-not-days_fit c in
    sym (whole at.Start (fits at.Else-not-count_fits) (sym c.days_fit.ensures ∙ c.if-not-days_fit.true))

pub fit-requires : goal.fit-requires
fit-requires c =
    let st = c.args.st in
    let at = goal.at.fit-requires c in
    let S = c.requires.0 in (
      omega (arith, length-take st.waiting c.figures-pairs.result, S.waiting),
      subst AllRanged (sym (waiting_figures st c.figures-pairs.ensures)) (pairs_ranged (take st.waiting st.pairs) S.pairs),
      rw c.basis.ensures c.requires.1.requirements,
      rw (z-back at.Start) c.requires.2,
    )

pub returns : goal.returns
returns c =
    let st = c.args.st in
    let at = goal.at.returns c in
    let q = st.setting.requirements in
    rw c.basis.ensures at c.fit.ensures
    ∙ ap (λ (z : ℤ). fit_of st.edition q z (take st.waiting c.figures-pairs.result)) (z-back at.Start)
    ∙ ap (fit_of st.edition q c.args.z) (waiting_figures st c.figures-pairs.ensures)
    ∙ sym (whole at.Start (fits at.Else-not-count_fits) (sym c.days_fit.ensures ∙ c.if-not-days_fit.false))
