-- No two answers to a record have one outcome: what a contract says of the outcome, it says of the answer.
use Rattle.std.proofs.Common.{◌≡◌, ap, sym}
use Rattle.std.specs.Prelude.{Result, Ok, Err}
use Rattle.refusals.specs.declared.Refusal.{Refusal}
use Rattle.refusals.proofs.RowLaws.{number_same}
pub use Rattle.refusals.proofs.RowLaws.{some_row, passed_on}
use Rattle.records.specs.State.{Stepped, stepped}
use Rattle.records.specs.declared.state.State.{State}

pub stepped_same : (st : State) (x y : Result State Refusal) → stepped st x ≡ stepped st y → x ≡ y
stepped_same st (Ok a) (Ok b) h = ap Ok (ap (λ (s : Stepped). s.state) h)
stepped_same st (Ok a) (Err e) h = absurd (some_row e (sym (ap (λ (s : Stepped). s.refusal) h)))
stepped_same st (Err d) (Ok b) h = absurd (some_row d (ap (λ (s : Stepped). s.refusal) h))
stepped_same st (Err d) (Err e) h = ap Err (number_same d e (ap (λ (s : Stepped). s.refusal) h))
