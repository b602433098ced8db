-- What is asked of a lent list, and its fit branch by branch.
use Rattle.std.specs.Prelude.{◌≡◌, refl, true, false, List, ℕ, ◌<◌, leb, ℤ, pos, neg_ℤ, length}
use Rattle.std.proofs.Common.{ap, ◌∙◌, arith, ne_eqb, T_not}
use Rattle.std.proofs.Math.Bool.{not, and-false}
use Rattle.std.proofs.lemmas.Bool.{lt-leb}
use Rattle.charts.specs.Tests.{if_yes, if_no, if_all, Answers, answers_and}
use Rattle.charts.specs.Rounding.{edition_known_of}
use Rattle.calibration.specs.Pairs.{AllRanged, RequirementsRanged, ZRanged, requirements_answers, between_answers}
use Rattle.calibration.specs.Calibration.{count_fits_of, refused_fit, fit_of}
use Rattle.calibration.specs.LentList.{list_ranged_of, fit_list_of}
use Rattle.calibration.specs.Outcomes.{Fitted}
use Rattle.calibration.proofs.VerdictLaws.{count_unfit}
use Rattle.calibration.proofs.SampleLaws.{all_ranged_answers}
use Rattle.calibration.specs.declared.pairs.Pair.{Pair}
use Rattle.calibration.specs.declared.pairs.Basis.{Basis}
use Rattle.calibration.specs.declared.pairs.Requirements.{Requirements}

-- ---- what is asked of the list

pub list_answers : (q : Requirements) (z : ℤ) (ps : List Pair) → Answers (list_ranged_of q z ps) ((RequirementsRanged q × ZRanged z) × AllRanged ps)
list_answers q z ps = answers_and (answers_and (requirements_answers q) (between_answers (neg_ℤ (pos 10000)) (pos 10000) z)) (all_ranged_answers ps)

-- where all is in range, the list's fit is that of a closing
pub list_fits : (b : Basis) (z : ℤ) (ps : List Pair) → edition_known_of b.edition ≡ true → RequirementsRanged b.requirements → ZRanged z → AllRanged ps
    → fit_list_of b z ps ≡ fit_of b.edition b.requirements z ps
unfolding fit_list_of
list_fits b z ps K Q Z P =
    let q = b.requirements in
    if_no (not (edition_known_of b.edition)) _ _ (ap not K)
    ∙ if_all (λ (r : Fitted). r ≡ fit_of b.edition q z ps) (not (list_ranged_of q z ps)) _ _
    (λ t. absurd (T_not (list_ranged_of q z ps) t ((list_answers q z ps).back ((Q, Z), P))))
    (λ t. refl)

-- more than thirty pairs are too many
count_over : (n : ℕ) → 30 < n → count_fits_of n ≡ false
unfolding count_fits_of
count_over n h = rw (lt-leb n 20 (omega arith), ne_eqb n 25 (λ e. omega arith), ne_eqb n 30 (λ e. omega arith), and-false (leb 15 n))

module _ (b : Basis) (z : ℤ) (ps : List Pair) where
  pub list_unknown : edition_known_of b.edition ≡ false → fit_list_of b z ps ≡ refused_fit 3
  unfolding fit_list_of
  list_unknown h = if_yes (not (edition_known_of b.edition)) _ _ (ap not h)

  pub list_unranged : edition_known_of b.edition ≡ true → list_ranged_of b.requirements z ps ≡ false → fit_list_of b z ps ≡ refused_fit 13
  unfolding fit_list_of
  list_unranged K h = if_no (not (edition_known_of b.edition)) _ _ (ap not K) ∙ if_yes (not (list_ranged_of b.requirements z ps)) _ _ (ap not h)

  pub list_ranged : edition_known_of b.edition ≡ true → list_ranged_of b.requirements z ps ≡ true → fit_list_of b z ps ≡ fit_of b.edition b.requirements z ps
  unfolding fit_list_of
  list_ranged K h = if_no (not (edition_known_of b.edition)) _ _ (ap not K) ∙ if_no (not (list_ranged_of b.requirements z ps)) _ _ (ap not h)

  pub list_over : edition_known_of b.edition ≡ true → list_ranged_of b.requirements z ps ≡ true → 30 < length ps → fit_list_of b z ps ≡ refused_fit 20
  list_over K h k = list_ranged K h ∙ count_unfit b.edition b.requirements z ps (count_over (length ps) k)
