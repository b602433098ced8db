-- The outcomes of a fit and of an annual test, as the definitions have them: a refusal by its number (0 for none)
-- beside the figures or the verdicts, which are 0 and false where it refuses. And the view that takes the code's
-- answer to them: no two answers have one outcome (proofs/OutcomeLaws), so an outcome says all of an answer.
use Rattle.std.specs.Prelude.{Bool, false, ℕ, pos, Result, Ok, Err}
use Rattle.refusals.specs.declared.Refusal.{Refusal}
use Rattle.refusals.specs.Rows.{number_of}
use Rattle.calibration.specs.declared.conditions.Standard.{Standard}
use Rattle.calibration.specs.declared.line.Line.{Line}
use Rattle.calibration.specs.declared.fitting.Figures.{Figures}
use Rattle.calibration.specs.declared.testing.Verdicts.{Verdicts}

-- a refusal, or the verdict, the function, its top and N
pub record Fitted : Type 0 where
  pub refusal : ℕ
  pub passed : Bool
  pub line : Line
  pub top : Standard
  pub count : ℕ

-- a refusal, or the two verdicts
pub record Tested : Type 0 where
  pub refusal : ℕ
  pub variability : Bool
  pub function : Bool

-- refused: every figure is 0
abbrev pub refused_fit : ℕ → Fitted
refused_fit refusal = record {
  refusal = refusal;
  passed = false;
  line = record { slope = pos 0; intercept = pos 0 };
  top = record { 0 = pos 0 };
  count = 0;
}

abbrev pub refused_test : ℕ → Tested
refused_test refusal = record { refusal = refusal; variability = false; function = false }

-- the code's answers
abbrev pub fitted : Result Figures Refusal → Fitted
fitted (Ok f) = record { refusal = 0; passed = f.passed; line = f.line; top = f.top; count = f.count }
fitted (Err e) = refused_fit (number_of e)

abbrev pub tested : Result Verdicts Refusal → Tested
tested (Ok v) = record { refusal = 0; variability = v.variability; function = v.function }
tested (Err e) = refused_test (number_of e)
