-- Paper 01, 'Calibration (6.4, 6.5)', its last sentence, and paper 02, C-12: a calibration closing's figures are those of the lent list of the pairs that
-- wait, told the edition of the closing's block. Only 21, which looks at times, is the closing's own.
use Rattle.std.specs.Prelude.{◌≡◌, refl, Bool, true, false, not, ◌&&◌, ℕ, ℤ, length, take, if◌then◌else◌}
use Rattle.std.proofs.Common.{sym, ap, ◌∙◌}
use mathlib.Core.List.{List, map}
use Rattle.std.proofs.lemmas.List.{length-map}
use Rattle.charts.specs.Tests.{if_no}
use Rattle.charts.specs.Rounding.{edition_known_of}
use Rattle.calibration.specs.Pairs.{AllRanged, RequirementsRanged, ZRanged}
use Rattle.calibration.specs.Calibration.{count_fits_of, refused_fit, fit_of}
use Rattle.calibration.proofs.VerdictLaws.{count_unfit}
use Rattle.calibration.specs.LentList.{fit_list_of}
use Rattle.calibration.proofs.FitListLaws.{list_fits}
use Rattle.calibration.specs.declared.pairs.Basis.{Basis}
use Rattle.calibration.specs.Outcomes.{Fitted}
use Rattle.calibration.specs.declared.pairs.Pair.{Pair}
use Rattle.records.specs.Table.{Facts, days_fit_of, pair_of_waiting, calibration_of}
use Rattle.records.specs.State.{facts_of}
use Rattle.records.specs.Soundness.{Sound, SettingSound}
use Rattle.records.proofs.SoundnessLaws.{pairs_ranged}
use Rattle.records.specs.declared.state.State.{State}

-- 21 stops the closing: the count is good, and days or span are not
abbrev pub stops_at_21 : Facts → Bool
stops_at_21 f = count_fits_of (length f.waiting) && not (days_fit_of f.waiting)

-- the lent list of the pairs that wait
abbrev pub basis_of : Facts → Basis
basis_of f = record { edition = f.edition; requirements = f.setting.requirements }

abbrev pub list_of_waiting : Facts → ℤ → Fitted
list_of_waiting f z = fit_list_of (basis_of f) z (map pair_of_waiting f.waiting)

-- 20 and 21 before an outcome that meets 20 itself
ahead : (counted days : Bool) (x y : Fitted) → y ≡ x → (counted ≡ false → x ≡ refused_fit 20)
    → (if not counted then refused_fit 20 else (if not days then refused_fit 21 else x)) ≡ (if counted && not days then refused_fit 21 else y)
ahead true true x y e h = sym e
ahead true false x y e h = refl
ahead false days x y e h = sym (e ∙ h refl)

module _ (f : Facts) (z : ℤ) (K : edition_known_of f.edition ≡ true) (Q : RequirementsRanged f.setting.requirements) (Z : ZRanged z) (P : AllRanged (map pair_of_waiting f.waiting)) where
  -- the whole outcome of a closing, from the lent list
  pub closing_by_list : calibration_of f z ≡ (if stops_at_21 f then refused_fit 21 else list_of_waiting f z)
  unfolding calibration_of
  closing_by_list =
      let q = f.setting.requirements in
      let ps : List Pair = map pair_of_waiting f.waiting in
      ahead (count_fits_of (length f.waiting)) (days_fit_of f.waiting) (fit_of f.edition q z ps) (fit_list_of (basis_of f) z ps) (list_fits (basis_of f) z ps K Q Z P)
      (λ h. count_unfit f.edition q z ps (ap count_fits_of (length-map f.waiting pair_of_waiting) ∙ h))

  -- wherever 21 does not stop it, the two are the same
  pub closing_is_list : stops_at_21 f ≡ false → calibration_of f z ≡ list_of_waiting f z
  closing_is_list h = closing_by_list ∙ if_no (stops_at_21 f) (refused_fit 21) (list_of_waiting f z) h

-- so from every sound state that has its setting, in a block of edition 1 or 2
pub sound_closing : (most : ℕ) (st : State) (z : ℤ) → edition_known_of st.edition ≡ true → Sound most st → SettingSound st.setting → ZRanged z
    → calibration_of (facts_of st) z ≡ (if stops_at_21 (facts_of st) then refused_fit 21 else list_of_waiting (facts_of st) z)
unfolding facts_of
sound_closing most st z K S G Z = closing_by_list (facts_of st) z K G.requirements Z (pairs_ranged (take st.waiting st.pairs) S.pairs)
