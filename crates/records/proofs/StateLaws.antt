-- What owning a state tells: its array has thirty places. And the figures of the pairs that wait.
use mathlib.Core.Path.{◌≡◌, ap, ◌∙◌}
use mathlib.Core.List.{List, map}
use lib.ListN.{length, take}
use mir.Val.{Val}
use Rattle.std.proofs.lemmas.List.{take-map}
use denote.Laws.{Is}
use denote.Struct.Declared.{row}
use Rattle.calibration.specs.declared.pairs.Pair.{Pair}
use Rattle.records.specs.Table.{pair_of_waiting}
use Rattle.records.specs.declared.state.State.{State}
use Rattle.records.specs.contracts.state.State.{the_type}

pub thirty : (st : State) (vs : List Val) → Is (row the_type) st vs → length st.pairs ≡ 30
thirty st vs g = g.1.1.1.1.1.1.1.1.1.1.0.1.0.1

pub waiting_figures : (st : State) {ps : List Pair} → ps ≡ map pair_of_waiting st.pairs
    → take st.waiting ps ≡ map pair_of_waiting (take st.waiting st.pairs)
waiting_figures st e = ap (take st.waiting) e ∙ take-map pair_of_waiting st.waiting st.pairs
