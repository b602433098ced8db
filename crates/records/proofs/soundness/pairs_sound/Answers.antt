-- `soundness::pairs_sound` meets its contract.
use Rattle.std.proofs.Common.{refl, ◌∙◌, ◌&&◌, rules, tests}
use Rattle.std.specs.List.{list_all}
use Rattle.std.proofs.lemmas.Iterator.{YieldsList-from_slice}
use Rattle.std.proofs.lemmas.Iterator.Search.{all_from_yields_List}
use Rattle.std.proofs.lemmas.List.Recursion.{same_from_clauses}
use Rattle.records.specs.Soundness.{waiting_sound_of, all_sound_of}
use Rattle.records.proofs.soundness.pairs_sound.Goals as goal

pub returns : goal.returns
returns c =
    all_from_yields_List waiting_sound_of _ _ c.all.result c.all.ensures.ran (YieldsList-from_slice c.args.pairs.now cc) (λ x b q k. search (rules, tests))
    ∙ same_from_clauses (list_all waiting_sound_of) all_sound_of (λ w b. waiting_sound_of w && b) refl (λ _ _. refl) (λ _ _. refl) c.args.pairs.now
