-- `making::close` meets its contract.
use Rattle.std.proofs.Common.{◌≡◌, ◌∙◌, length, sym, ap, subst, arith, ℕ, rules}
use Rattle.std.proofs.lemmas.Result.{err_from_is_err_and}
use Rattle.std.specs.Prelude.{Ok}
use lib.Seq.{length-take-le}
use mir.Syntax.{w32}
use mir.Val.{to_z, of_z}
use mir.Facts.{to_z-of_z}
use Rattle.calibration.specs.Outcomes.{Fitted, Tested, fitted, tested}
use Rattle.calibration.specs.Pairs.{ZRanged}
use Rattle.records.specs.State.{facts_of}
use Rattle.records.specs.Soundness.{SettingSound, count_limit}
use Rattle.records.specs.Table.{calibration_of}
use Rattle.records.specs.Writing.{annual_record, calibration_record}
use Rattle.file.specs.Closings.{first_rows_of}
use Rattle.file.proofs.ClosingLaws as L
use Rattle.file.proofs.OutcomeLaws.{some_row}
use Rattle.file.proofs.making.close.Goals as goal
use Rattle.file.proofs.making.close.Goals.{In_ok-first_rows, Start}

-- Z is as it was handed over
reads : (c : Start) → to_z w32 (of_z w32 c.args.closing.z) ≡ c.args.closing.z
reads c = to_z-of_z {w = w32} (search rules)

-- past the first rows
passed : (c : In_ok-first_rows) → let a = c.args.closing in first_rows_of (facts_of c.args.st) a.kind a.minute a.z ≡ 0
passed c = sym c.in_ok-first_rows.ensures

setting : (c : In_ok-first_rows) → SettingSound c.args.st.setting
setting c =
    let a = c.args.closing in
    L.begun_setting count_limit c.args.st (L.passed_begun (facts_of c.args.st) a.kind a.minute a.z (passed c)) c.requires

-- the fit of the pairs that wait, by Z as it was handed over
fit_is : (c : Start) (x : Fitted) → x ≡ calibration_of (facts_of c.args.st) (to_z w32 (of_z w32 c.args.closing.z)) → x ≡ calibration_of (facts_of c.args.st) c.args.closing.z
fit_is c x e = e ∙ ap (calibration_of (facts_of c.args.st)) (reads c)

-- the pairs that wait are as many as the state says
waiting : (c : Start) → length (facts_of c.args.st).waiting ≡ c.args.st.waiting
unfolding facts_of
waiting c = let l : length c.args.st.pairs ≡ 30 = search rules in length-take-le c.args.st.waiting c.args.st.pairs (omega (arith, c.requires.waiting))

pub returns-in_err-first_rows-clause-row : goal.returns-in_err-first_rows-clause-row
returns-in_err-first_rows-clause-row c =
    let a = c.args.closing in
    let r = c.in_err-first_rows in
    let p = err_from_is_err_and c.from_residual.result c.from_residual.ensures.1 in
    rw (p.1, p.2) (r.ensures ∙ sym (L.first_refuses (facts_of c.args.st) a.kind a.minute a.z (λ z. some_row r.field-0.0 (r.ensures ∙ z))))

pub calibration_result-requires : goal.calibration_result-requires
calibration_result-requires c =
    let a = c.args.closing in
    let g = goal.at.calibration_result-requires c in
    let e = g.In_ok-first_rows in
    (c.requires, setting e, subst ZRanged (sym (reads g.Start)) (L.z_in_range a.kind a.z c.if-closing-eq5.true (L.passed_z (facts_of c.args.st) a.kind a.minute a.z (passed e))))

pub returns-in_err-figures-clause-row : goal.returns-in_err-figures-clause-row
returns-in_err-figures-clause-row c =
    let a = c.args.closing in
    let g = goal.at.returns-in_err-figures-clause-row c in
    let p = err_from_is_err_and c.from_residual-in_err-figures.result c.from_residual-in_err-figures.ensures.1 in
    rw (p.1, p.2) (ap (λ (x : Fitted). x.refusal) (fit_is g.Start _ c.in_err-figures.ensures) ∙ sym (L.calibration_row (facts_of c.args.st) a.kind a.minute a.z (passed g.In_ok-first_rows) c.if-closing-eq5.true))

pub returns-then-closing-eq5-clause-row : goal.returns-then-closing-eq5-clause-row
returns-then-closing-eq5-clause-row c =
    let a = c.args.closing in
    let g = goal.at.returns-then-closing-eq5-clause-row c in
    ap (λ (x : Fitted). x.refusal) (fit_is g.Start _ c.in_ok-figures.ensures) ∙ sym (L.calibration_row (facts_of c.args.st) a.kind a.minute a.z (passed g.In_ok-first_rows) c.if-closing-eq5.true)

pub returns-then-closing-eq5-clause-bytes : goal.returns-then-closing-eq5-clause-bytes
returns-then-closing-eq5-clause-bytes c =
    let a = c.args.closing in
    let s = (goal.at.returns-then-closing-eq5-clause-bytes c).Start in
    c.calibration.ensures
    ∙ ap (calibration_record (fitted (Ok c.in_ok-figures.figures)) a.minute) (reads s)
    ∙ ap (λ (x : Fitted). calibration_record x a.minute a.z) (fit_is s _ c.in_ok-figures.ensures)
    ∙ sym (L.calibration_bytes (facts_of c.args.st) a.kind a.minute a.z c.if-closing-eq5.true)

pub annual_result-requires : goal.annual_result-requires
annual_result-requires c = (c.requires, setting (goal.at.annual_result-requires c).In_ok-first_rows)

pub returns-in_err-verdicts-clause-row : goal.returns-in_err-verdicts-clause-row
returns-in_err-verdicts-clause-row c =
    let a = c.args.closing in
    let p = err_from_is_err_and c.from_residual-in_err-verdicts.result c.from_residual-in_err-verdicts.ensures.1 in
    rw (p.1, p.2) (ap (λ (x : Tested). x.refusal) c.in_err-verdicts.ensures ∙ sym (L.annual_row (facts_of c.args.st) a.kind a.minute a.z (passed (goal.at.returns-in_err-verdicts-clause-row c).In_ok-first_rows) c.if-closing-eq5.false))

pub returns-clause-row : goal.returns-clause-row
returns-clause-row c =
    let a = c.args.closing in
    ap (λ (x : Tested). x.refusal) c.in_ok-verdicts.ensures ∙ sym (L.annual_row (facts_of c.args.st) a.kind a.minute a.z (passed (goal.at.returns-clause-row c).In_ok-first_rows) c.if-closing-eq5.false)

pub returns-clause-bytes : goal.returns-clause-bytes
returns-clause-bytes c =
    let a = c.args.closing in
    let f = facts_of c.args.st in
    c.annual.ensures
    ∙ ap (λ (m : ℕ). annual_record (tested (Ok c.in_ok-verdicts.verdicts)) m a.minute) (sym (waiting (goal.at.returns-clause-bytes c).Start))
    ∙ ap (λ (t : Tested). annual_record t (length f.waiting) a.minute) c.in_ok-verdicts.ensures
    ∙ sym (L.annual_bytes f a.kind a.minute a.z c.if-closing-eq5.false)
