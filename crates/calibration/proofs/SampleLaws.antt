-- That every pair of a list is in range, as a test and as a fact: a sample keeps the test.
use Rattle.std.proofs.Common.{◌≡◌, true, sym, subst, T, List, [], ◌∷◌}
use Rattle.std.specs.List.{list_all}
use Rattle.charts.specs.Tests.{Answers, answers_and, is_true}
use Rattle.calibration.specs.Pairs.{AllRanged, pair_ranged_of, pair_answers}
use Rattle.calibration.specs.declared.pairs.Pair.{Pair}

pub all_ranged_answers : (ps : List Pair) → Answers (list_all pair_ranged_of ps) (AllRanged ps)
all_ranged_answers [] = record { sure = λ t. tt; back = λ r. tt }
all_ranged_answers (p ∷ ps) = answers_and (pair_answers p) (all_ranged_answers ps)

pub all_ranged : (ps : List Pair) → list_all pair_ranged_of ps ≡ true → AllRanged ps
all_ranged ps e = (all_ranged_answers ps).sure (subst T (sym e) tt)

pub all_tested : (ps : List Pair) → AllRanged ps → list_all pair_ranged_of ps ≡ true
all_tested ps P = is_true _ ((all_ranged_answers ps).back P)
