-- What a test that is made before a call leaves for the call.
use Rattle.std.specs.Prelude.{◌≡◌, Bool, true}
use Rattle.std.proofs.Common.{sym, ◌∙◌}
use Rattle.charts.specs.Tests.{Answers, holds}

-- r is the answer of a call that tests b
pub call_holds : {r b : Bool} {P : Type 0} → Answers b P → r ≡ b → r ≡ true → P
call_holds A e t = holds A (sym e ∙ t)
