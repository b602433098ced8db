-- `closing::calibration_refusal` meets its contract.
use mathlib.Core.Path.{◌≡◌, sym, ap, subst, ◌∙◌}
use mathlib.Core.Bool.{not}
use Prim.Native.Nat.{◌≤◌}
use native.Mathlib.Omega.{arith}
use lib.ListN.{length, length-take}
use mir.Syntax.{w32}
use mir.Val.{to_z, of_z}
use Rattle.refusals.specs.Rows.{number_of, ◌when◌, ◌or◌}
use Rattle.calibration.specs.Outcomes.{Fitted, refused_fit}
use Rattle.records.specs.Record.{Record, z_of}
use Rattle.records.specs.Table.{Facts, calibration_of, calibration_refusal_of, stores_fit_of}
use Rattle.records.proofs.TableLaws.{calibration_count}
use Rattle.records.specs.State.{facts_of}
use Rattle.refusals.proofs.RowLaws.{some_row, passed_on, or_stop}
use Rattle.records.proofs.SignedLaws.{given}
use Rattle.records.proofs.closing.calibration_refusal.Goals as goal
use Rattle.records.proofs.closing.calibration_refusal.Goals.{Start, After-field}

-- the fit's own row
fit_stops : (f : Facts) (r : Record) (c : Fitted) → c ≡ calibration_of f (z_of r) → (c.refusal ≡ 0 → ⊥) → calibration_refusal_of f r ≡ c.refusal
unfolding calibration_refusal_of
fit_stops f r c e n = ap (λ (u : Fitted). u.refusal or 25 when not (stores_fit_of u r)) (sym e) ∙ or_stop c.refusal (25 when not (stores_fit_of c r)) n

z-is : (c : After-field) → to_z w32 (of_z w32 c.field.result) ≡ z_of c.args.r.now
unfolding z_of
z-is c = given w32 c.field.type_inv c.field.ensures

few : (s : Start) → length (facts_of s.args.st).waiting ≤ 30
unfolding facts_of
few s = omega (arith, s.requires.0.waiting, length-take s.args.st.waiting s.args.st.pairs)

pub returns-in_err-c : goal.returns-in_err-c
returns-in_err-c c =
    let e = c.in_err-c.field-0.0 in
    let f = facts_of c.args.st in
    let z = z-is (goal.at.returns-in_err-c c).After-field in
    rw (passed_on c.from_residual.result e c.from_residual.ensures.1)
    (sym (fit_stops f c.args.r.now (refused_fit (number_of e)) (c.in_err-c.ensures ∙ ap (calibration_of f) z) (some_row e)))

pub stores_fit-requires : goal.stores_fit-requires
stores_fit-requires c =
    let at = goal.at.stores_fit-requires c in
    let f = facts_of c.args.st in
    subst (λ (u : Fitted). u.count ≤ 30) (sym c.in_ok-c.ensures) (calibration_count f _ (few at.Start))
