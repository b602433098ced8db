-- `checks::among` meets its contract.
use Rattle.std.proofs.Common.{refl, ◌∙◌, ◌||◌, map, eqb, rules, tests}
use Rattle.std.specs.List.{list_any}
use Rattle.std.proofs.lemmas.Iterator.{YieldsList-from_slice}
use Rattle.std.proofs.lemmas.Iterator.Search.{any_from_yields_List}
use Rattle.std.proofs.lemmas.List.Recursion.{same_from_clauses}
use Rattle.records.specs.Table.{among_of, end_day}
use Rattle.records.specs.declared.state.Waiting.{Waiting}
use Rattle.records.proofs.checks.among.Goals as goal

pub returns : goal.returns
returns c =
    let day = c.args.day in
    let ends = λ (w : Waiting). eqb day (end_day w) in
    any_from_yields_List ends _ _ c.any.result c.any.ensures.ran (YieldsList-from_slice c.args.pairs.now cc) (λ x b q k. search (rules, tests))
    ∙ same_from_clauses (list_any ends) (λ ws. among_of day (map end_day ws)) (λ w b. ends w || b) refl (λ _ _. refl) (λ _ _. refl) c.args.pairs.now
