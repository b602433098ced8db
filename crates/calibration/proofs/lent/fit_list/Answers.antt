-- `calibration::lent::fit_list` meets its contract.
use Rattle.std.proofs.Common.{◌≡◌, sym, ap, subst, ◌∙◌, T, to_z-of_z, w32}
use Rattle.std.specs.Prelude.{Bool, ◌&&◌, List, ℤ}
use Rattle.std.specs.List.{list_all}
use Rattle.calibration.specs.Calibration.{fit_of}
use Rattle.calibration.specs.LentList.{list_ranged_of}
use Rattle.calibration.specs.Pairs.{pair_ranged_of, requirements_ranged_of, z_ranged_of}
use Rattle.calibration.proofs.FitListLaws.{list_answers, list_unknown, list_unranged, list_ranged, list_over}
use Rattle.calibration.specs.declared.pairs.Pair.{Pair}
use Rattle.calibration.specs.declared.pairs.Requirements.{Requirements}
use Rattle.calibration.proofs.lent.fit_list.Goals as goal

pub returns-then-not-edition_known : goal.returns-then-not-edition_known
returns-then-not-edition_known c = sym (list_unknown c.args.b c.args.z c.args.pairs.now (sym c.edition_known.ensures ∙ c.if-not-edition_known.true))

-- what the code tests is what the definition does
tests : (q : Requirements) (z back : ℤ) (ps : List Pair) (a b c t : Bool) → back ≡ z → a ≡ requirements_ranged_of q → b ≡ z_ranged_of back → c ≡ list_all pair_ranged_of ps → (a && b && c) ≡ t → list_ranged_of q z ps ≡ t
tests q z back ps a b c t B A Z C T = rw (← B, ← A, ← Z, ← C) T

pub returns-then-not-ranged : goal.returns-then-not-ranged
returns-then-not-ranged c =
    let r = tests c.args.b.requirements c.args.z _ c.args.pairs.now _ _ _ _ (to_z-of_z {w = w32} c.ranges.z) c.requirements_ranged.ensures c.z_ranged.ensures c.all_ranged.ensures c.if-not-ranged.true in
    sym (list_unranged c.args.b c.args.z c.args.pairs.now (sym c.edition_known.ensures ∙ c.if-not-edition_known.false) r)

pub returns-then-pairs-gt30 : goal.returns-then-pairs-gt30
returns-then-pairs-gt30 c =
    let r = tests c.args.b.requirements c.args.z _ c.args.pairs.now _ _ _ _ (to_z-of_z {w = w32} c.ranges.z) c.requirements_ranged.ensures c.z_ranged.ensures c.all_ranged.ensures c.if-not-ranged.false in
    sym (list_over c.args.b c.args.z c.args.pairs.now (sym c.edition_known.ensures ∙ c.if-not-edition_known.false) r c.if-pairs-gt30.true)

pub fit-requires : goal.fit-requires
fit-requires c =
    let r = tests c.args.b.requirements c.args.z _ c.args.pairs.now _ _ _ _ (to_z-of_z {w = w32} c.ranges.z) c.requirements_ranged.ensures c.z_ranged.ensures c.all_ranged.ensures c.if-not-ranged.false in
    let P = (list_answers c.args.b.requirements c.args.z c.args.pairs.now).sure (subst T (sym r) tt) in
    (c.if-pairs-gt30.false, P.1, P.0.0, rw (to_z-of_z {w = w32} c.ranges.z) P.0.1)

pub returns : goal.returns
returns c =
    let r = tests c.args.b.requirements c.args.z _ c.args.pairs.now _ _ _ _ (to_z-of_z {w = w32} c.ranges.z) c.requirements_ranged.ensures c.z_ranged.ensures c.all_ranged.ensures c.if-not-ranged.false in
    c.fit.ensures
    ∙ ap (λ (z : ℤ). fit_of c.args.b.edition c.args.b.requirements z c.args.pairs.now) (to_z-of_z {w = w32} c.ranges.z)
    ∙ sym (list_ranged c.args.b c.args.z c.args.pairs.now (sym c.edition_known.ensures ∙ c.if-not-edition_known.false) r)
