-- `making::make_closing` meets its contract: one law for each row that stops it, one for a record's, one for the closing's own, and one for the closing made.
use Rattle.std.proofs.Common.{◌≡◌, ◌≤◌, ◌/◌, ◌||◌, true, eqb, length, refl, sym, ap, ◌∙◌, subst, arith, rules}
use Rattle.std.proofs.lemmas.Result.{err_from_is_err_and}
use Rattle.std.specs.Prelude.{List, ℕ, IfOk, MatchResult, Result, Ok, Err, Some}
use Rattle.refusals.specs.declared.Refusal.{Refusal}
use Rattle.refusals.specs.Rows.{number_of, outcome_of}
use Rattle.records.specs.Soundness.{Fitting}
use Rattle.records.specs.State.{facts_of}
use Rattle.records.specs.Steps.{Ran}
use Rattle.records.specs.declared.state.State.{State}
use Rattle.file.specs.Answered.{place_number, ran_of}
use Rattle.file.specs.Calls.{opened, ready_of}
use Rattle.file.specs.Closings.{closing_of, closing_refusal, made, make_of}
use Rattle.file.specs.RoomLaws.{fit_size, opened_ready}
use Rattle.file.specs.Taking.{records_fit_of}
use Rattle.file.specs.declared.Refused.{Refused}
use Rattle.file.proofs.ClosingLaws as L
use Rattle.file.proofs.OutcomeLaws.{some_row}
use Rattle.file.proofs.making.make_closing.Goals as goal
use Rattle.file.proofs.making.make_closing.Goals.{After-map_err, After-open, Else-not-closes, Else-not-ready, Else-not-records_fit, In_ok-before, In_ok-record}

-- what a passed row tells
fits : (c : Else-not-records_fit) → records_fit_of 0 11 (length c.args.bytes.now) ≡ true
fits c = sym c.records_fit.ensures ∙ c.if-not-records_fit.false

few : (c : Else-not-records_fit) → length c.args.bytes.now ≤ 440
few c = omega (arith, (fit_size 0 11 _ (fits c)).few)

closes : (c : Else-not-closes) → let k = c.args.closing.kind in (eqb k 5 || eqb k 6) ≡ true
closes c = sym c.closes.ensures ∙ c.if-not-closes.false

sound : (c : Else-not-ready) → ready_of c.args.st ≡ true
sound c = sym c.ready.ensures ∙ c.if-not-ready.false

-- the records, run from the state with which the block begins
ran : (c : After-open) → ran_of c.«open».result c.args.bytes.now ≡ ran_of (opened c.args.st c.args.edition) c.args.bytes.now
ran c = ap (λ (s : State). ran_of s c.args.bytes.now) c.«open».ensures

-- all of them accepted, and the state after them
accepted : (c : In_ok-before) → (ran_of (opened c.args.st c.args.edition) c.args.bytes.now).refusal ≡ 0
accepted c = sym (c.in_ok-before.ensures.row ∙ ap (λ (x : Ran State). x.refusal) (ran (goal.at.In_ok-before c).After-open))

after : (c : In_ok-before) → c.in_ok-before.before ≡ (ran_of (opened c.args.st c.args.edition) c.args.bytes.now).kept
after c = c.in_ok-before.ensures.after ∙ ap (λ (x : Ran State). x.kept) (ran (goal.at.In_ok-before c).After-open)

pub returns-then-target-ne40 : goal.returns-then-target-ne40
returns-then-target-ne40 c = L.row_told _ _ _ _ _ _ _ _ _ refl _ c.into.ensures (L.size_stops _ _ _ _ _ _ _ c.if-target-ne40.true)

pub returns-then-not-records_fit : goal.returns-then-not-records_fit
returns-then-not-records_fit c =
    L.row_told _ _ _ _ _ _ _ _ _ refl _ c.into-then-not-records_fit.ensures (L.fit_stops _ _ _ _ _ _ _ c.if-target-ne40.false (sym c.records_fit.ensures ∙ c.if-not-records_fit.true))

pub returns-then-not-closes : goal.returns-then-not-closes
returns-then-not-closes c =
    let g = goal.at.returns-then-not-closes c in
    L.row_told _ _ _ _ _ _ _ _ _ refl _ c.into-then-not-closes.ensures
    (L.kind_stops _ _ _ _ _ _ _ c.if-target-ne40.false (fits g.Else-not-records_fit) (sym c.closes.ensures ∙ c.if-not-closes.true))

pub returns-then-not-ready : goal.returns-then-not-ready
returns-then-not-ready c =
    let g = goal.at.returns-then-not-ready c in
    L.row_told _ _ _ _ _ _ _ _ _ refl _ c.into-then-not-ready.ensures
    (L.ready_stops _ _ _ _ _ _ _ c.if-target-ne40.false (fits g.Else-not-records_fit) (closes g.Else-not-closes) (sym c.ready.ensures ∙ c.if-not-ready.true))

pub returns-in_err-told : goal.returns-in_err-told
returns-in_err-told c =
    let g = goal.at.returns-in_err-told c in
    let r = c.in_err-told in
    let p = err_from_is_err_and c.from_residual.result c.from_residual.ensures.1 in
    L.row_told _ _ _ _ _ _ _ _ _ p.1 r.field-0.0 p.2
    (L.told_stops _ _ _ _ _ _ _ c.if-target-ne40.false (fits g.Else-not-records_fit) (closes g.Else-not-closes) (sound g.Else-not-ready) _ r.ensures (some_row r.field-0.0))

pub run_records-requires : goal.run_records-requires
run_records-requires c =
    let g = goal.at.run_records-requires c in
    (omega (arith, few g.Else-not-records_fit), ap ready_of c.«open».ensures ∙ opened_ready _ _ ∙ sound g.Else-not-ready)

pub returns-in_err-before : goal.returns-in_err-before
returns-in_err-before c =
    let g = goal.at.returns-in_err-before c in
    let r = c.in_err-before in
    let h = ran g.After-open in
    let row = r.ensures.row ∙ ap (λ (x : Ran State). x.refusal) h in
    let place = r.ensures.place ∙ ap (λ (x : Ran State). x.place) h in
    let p = err_from_is_err_and c.from_residual-in_err-before.result c.from_residual-in_err-before.ensures.1 in
    L.record_told _ _ _ _ _ _ _ _ _ (p.1 ∙ ap Err p.2) _ _ row place r.ensures.below
    (L.record_stops _ _ _ _ _ _ _ c.if-target-ne40.false (fits g.Else-not-records_fit) (closes g.Else-not-closes) (sound g.Else-not-ready) (sym c.in_ok-told.ensures) (λ z. some_row r.field-0.0.row (row ∙ z)))

pub close-requires : goal.close-requires
close-requires c =
    let a = c.args in
    let g = goal.at.close-requires c in
    subst Fitting (sym (after g.In_ok-before))
    (L.before_sound a.st a.edition a.bytes.now (search rules) (omega (arith, few g.Else-not-records_fit)) (sound g.Else-not-ready))

pub overflow_cast-place : goal.overflow_cast-place
overflow_cast-place c = record { fits = omega (arith, few (goal.at.overflow_cast-place c).Else-not-records_fit) }

-- what the last call answers: made, or its row at the place past the records
module _ {A : Type 0} (r : Result A Refusal) (place : ℕ) where
  abbrev Told : Result A Refused → Type 0
  Told x = MatchResult r (λ a. x ≡ Ok a) (λ e. x ≡ Err (record { row = e; place = Some place }))

ok_of : {A : Type 0} (r : Result A Refusal) (place : ℕ) (a : A) → Told r place (Ok a) → r ≡ Ok a
ok_of (Ok b) place a h = let q : a ≡ b = cc in ap Ok (sym q)
ok_of (Err e) place a h = absurd (cc)

err_of : {A : Type 0} (r : Result A Refusal) (place : ℕ) (x : Refused) → Told r place (Err x) → (number_of x.row ≡ outcome_of r) × (x.place ≡ Some place)
err_of (Ok b) place x h = absurd (cc)
err_of (Err e) place x h =
    let q : x ≡ record { row = e; place = Some place } = cc in
    (ap (λ (y : Refused). number_of y.row) q, ap (λ (y : Refused). y.place) q)

told : (c : After-map_err) → Told c.close.result (length c.args.bytes.now / 40) c.map_err.result
told c = search rules

-- the closing's own row, after the records before it
own : (c : After-map_err) → let a = c.args.closing in
    outcome_of c.close.result ≡ closing_refusal (facts_of (ran_of (opened c.args.st c.args.edition) c.args.bytes.now).kept) a.kind a.minute a.z
own c =
    let a = c.args.closing in
    c.close.ensures.row ∙ ap (λ (s : State). closing_refusal (facts_of s) a.kind a.minute a.z) (after (goal.at.After-map_err c).In_ok-before)

-- or the closing is made
closing_ok : (c : In_ok-record) → c.close.result ≡ Ok c.in_ok-record.record
closing_ok c = ok_of c.close.result _ c.in_ok-record.record (subst (Told c.close.result _) c.in_ok-record.was (told (goal.at.In_ok-record c).After-map_err))

closing_made : (c : In_ok-record) → let a = c.args in make_of a.st a.edition a.bytes.now a.closing.kind a.closing.minute a.closing.z (length a.target.now) ≡ made 0 255
closing_made c =
    let g = goal.at.In_ok-record c in
    L.closing_made _ _ _ _ _ _ _ c.if-target-ne40.false (fits g.Else-not-records_fit) (closes g.Else-not-closes) (sound g.Else-not-ready) (sym c.in_ok-told.ensures) (accepted g.In_ok-before) _ (own g.After-map_err) (ap outcome_of (closing_ok c))

pub returns-in_err-record : goal.returns-in_err-record
returns-in_err-record c =
    let g = goal.at.returns-in_err-record c in
    let x = c.in_err-record.field-0.0 in
    let e = err_of c.close.result _ x (subst (Told c.close.result _) c.in_err-record.was (told g.After-map_err)) in
    let p = err_from_is_err_and c.from_residual-in_err-record.result c.from_residual-in_err-record.ensures.1 in
    L.record_told _ _ _ _ _ _ _ _ _ (p.1 ∙ ap Err p.2) _ _ e.0 (ap place_number e.1) (rw e.1 (omega (arith, few g.Else-not-records_fit)))
    (L.closing_stops _ _ _ _ _ _ _ c.if-target-ne40.false (fits g.Else-not-records_fit) (closes g.Else-not-closes) (sound g.Else-not-ready) (sym c.in_ok-told.ensures) (accepted g.In_ok-before) _ (own g.After-map_err) (λ z. some_row x.row (e.0 ∙ z)))

pub returns-clause-value : goal.returns-clause-value
returns-clause-value c = sym (closing_made (goal.at.returns-clause-value c).In_ok-record)

pub returns-clause-target_after : goal.returns-clause-target_after
returns-clause-target_after c =
    let a = c.args in
    let k = a.closing in
    let g = goal.at.returns-clause-target_after c in
    c.copy_from_slice.ensures.after
    ∙ subst (λ (r : Result (List ℕ) Refusal). IfOk r (λ bytes. bytes ≡ closing_of (facts_of c.in_ok-before.before) k.kind k.minute k.z)) (closing_ok g.In_ok-record) c.close.ensures.bytes
    ∙ ap (λ (s : State). closing_of (facts_of s) k.kind k.minute k.z) (after g.In_ok-before)
    ∙ L.bytes_made a.st a.edition a.bytes.now k.kind k.minute k.z a.target.now _ (closing_made g.In_ok-record) refl
