-- `checks::figures` meets its contract.
use Rattle.std.proofs.Common.{◌≡◌, ◌∙◌, sym, map, length, slice_index_or, rules, tests, arith}
use Rattle.std.proofs.lemmas.List.{same_lists, length-map, get_or-map}
use Rattle.records.specs.Table.{pair_of_waiting}
use Rattle.records.specs.declared.state.Waiting.{Waiting}
use Rattle.records.proofs.checks.figures.Goals as goal

pub returns : goal.returns
returns c =
    let ws = c.args.waiting in
    let ps = c.map.result in
    let m = c.map.ensures.items in
    let n : length ws ≡ 30 = search rules in
    same_lists ps (map pair_of_waiting ws) (m.long ∙ sym n ∙ sym (length-map ws pair_of_waiting))
    (λ k e h.
    let w : Waiting = record { start = 0; end = 0; pair = e } in
    let at = m.at k w e (omega arith) in
    let is : slice_index_or ps k e ≡ (slice_index_or ws k w).pair = search (rules, tests) in
    is ∙ sym (get_or-map pair_of_waiting ws k w e (omega arith)))
