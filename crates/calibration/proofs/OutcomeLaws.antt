-- No two answers of a fit have one outcome, and no two of an annual test: what a contract says of the outcome, it says of the answer.
use Rattle.std.proofs.Common.{◌≡◌, refl, ap, sym, ◌∙◌}
use Rattle.std.specs.Prelude.{eqb, Result, Ok, Err, if◌then◌else◌}
use Rattle.refusals.proofs.RowLaws.{row, row_is, above}
use Rattle.refusals.specs.declared.Refusal.{Refusal}
use Rattle.calibration.specs.Outcomes.{Fitted, Tested, fitted, tested}
use Rattle.calibration.specs.declared.fitting.Figures.{Figures}
use Rattle.calibration.specs.declared.testing.Verdicts.{Verdicts}

-- the answer that has an outcome
unfoldable pub fit_answer : Fitted → Result Figures Refusal
fit_answer f = if eqb f.refusal 0 then Ok (record { passed = f.passed; line = f.line; top = f.top; count = f.count }) else Err (row f.refusal)

unfoldable pub test_answer : Tested → Result Verdicts Refusal
test_answer f = if eqb f.refusal 0 then Ok (record { variability = f.variability; function = f.function }) else Err (row f.refusal)

pub fit_answered : (x : Result Figures Refusal) → fit_answer (fitted x) ≡ x
unfolding fit_answer
fit_answered (Ok f) = refl
fit_answered (Err e) = rw (above e, row_is e)

pub test_answered : (x : Result Verdicts Refusal) → test_answer (tested x) ≡ x
unfolding test_answer
test_answered (Ok v) = refl
test_answered (Err e) = rw (above e, row_is e)

pub fitted_same : (x y : Result Figures Refusal) → fitted x ≡ fitted y → x ≡ y
fitted_same x y e = sym (fit_answered x) ∙ ap fit_answer e ∙ fit_answered y

pub tested_same : (x y : Result Verdicts Refusal) → tested x ≡ tested y → x ≡ y
tested_same x y e = sym (test_answered x) ∙ ap test_answer e ∙ test_answered y
