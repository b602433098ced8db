-- Making a closing, part by part: its rows, and the call.
use Rattle.std.specs.Prelude.{◌≡◌, Bool, true, false, not, ◌||◌, eqb, ℤ, pos, neg_ℤ, if◌then◌else◌, None, Result, Err, IfSome}
use Rattle.std.proofs.Math.Path.{refl, sym, ap}
use Rattle.std.proofs.Common.{subst, ◌∙◌, arith}
use mathlib.Core.List.{List}
use Prim.Native.Nat.{ℕ, ◌/◌, ◌≤◌, ◌<◌}
use borrow.Author.Tests.{eq-eqb, ne_eqb, not-false}
use Rattle.std.proofs.Math.ListN.{length}
use Rattle.refusals.specs.Rows.{number_of, ◌when◌, ◌or◌, unless_refused}
use Rattle.refusals.proofs.RowLaws.{row_passed, rows_passed, unfit, or_next, or_stop, unless_next, unless_passed, unless_stop}
use Rattle.refusals.specs.declared.Refusal.{Refusal}
use Rattle.charts.specs.Tests.{holds, if_yes, if_no}
use Rattle.calibration.specs.Pairs.{ZRanged, between_answers}
use Rattle.records.specs.Writing.{calibration_record, annual_record}
use Rattle.records.specs.Table.{Facts, untimely_of, calibration_of, annual_of}
use Rattle.records.specs.State.{facts_of}
use Rattle.records.specs.Steps.{Ran}
use Rattle.records.specs.Soundness.{SettingSound, BegunSound, Sound, Fitting}
use Rattle.records.proofs.SoundnessLaws.{weaken}
use Rattle.records.specs.declared.state.State.{State}
use Rattle.blocks.specs.Blocks.{told_refusal}
use Rattle.file.specs.Taking.{records, records_fit_of}
use Rattle.file.specs.Calls.{opened, ready_of}
use Rattle.file.specs.RoomLaws.{opened_pairs, opened_ready}
use Rattle.file.specs.RoomLaws.{ready_fit, within_none, within_ran}
use Rattle.file.proofs.CallsLaws.{records_length}
use Rattle.file.specs.Answered.{PlaceOfTwelve, place_number, ran_of}
use Rattle.file.specs.declared.Refused.{Refused}
use Rattle.file.proofs.OutcomeLaws.{some_row}
use Rattle.file.specs.Closings.{Made, first_rows_of, z_fits_of, closing_of, closing_refusal, made, made_at, made_by, ran_before, making_refusal, make_of, made_bytes}

-- ---- its rows

module _ (f : Facts) (kind minute : ℕ) (z : ℤ) where
  -- the rows past the first three
  abbrev figure_rows : ℕ
  figure_rows = if eqb kind 5 then (calibration_of f z).refusal else (annual_of f).refusal

  pub first_refuses : (first_rows_of f kind minute z ≡ 0 → ⊥) → closing_refusal f kind minute z ≡ first_rows_of f kind minute z
  unfolding closing_refusal
  first_refuses h = or_stop (first_rows_of f kind minute z) figure_rows h

  pub first_passed : closing_refusal f kind minute z ≡ 0 → first_rows_of f kind minute z ≡ 0
  unfolding closing_refusal
  first_passed h = (rows_passed (first_rows_of f kind minute z) h).0

  module _ (h : first_rows_of f kind minute z ≡ 0) where
    begun_row : (not f.begun ≡ false) × ((12 when untimely_of f minute or 13 when not (z_fits_of kind z)) ≡ 0)
    unfolding first_rows_of
    begun_row = row_passed 11 (not f.begun) tt h

    time_row : (untimely_of f minute ≡ false) × ((13 when not (z_fits_of kind z)) ≡ 0)
    time_row = row_passed 12 (untimely_of f minute) tt begun_row.1

    pub passed_begun : f.begun ≡ true
    passed_begun = not-false f.begun begun_row.0

    pub passed_time : untimely_of f minute ≡ false
    passed_time = time_row.0

    pub passed_z : z_fits_of kind z ≡ true
    passed_z = not-false (z_fits_of kind z) (unfit 13 (not (z_fits_of kind z)) tt time_row.1)

    pub calibration_row : kind ≡ 5 → closing_refusal f kind minute z ≡ (calibration_of f z).refusal
    unfolding closing_refusal
    calibration_row k = or_next (first_rows_of f kind minute z) figure_rows h ∙ if_yes (eqb kind 5) _ _ (eq-eqb kind 5 k)

    pub annual_row : (kind ≡ 5 → ⊥) → closing_refusal f kind minute z ≡ (annual_of f).refusal
    unfolding closing_refusal
    annual_row k = or_next (first_rows_of f kind minute z) figure_rows h ∙ if_no (eqb kind 5) _ _ (ne_eqb kind 5 k)

  pub calibration_bytes : kind ≡ 5 → closing_of f kind minute z ≡ calibration_record (calibration_of f z) minute z
  unfolding closing_of
  calibration_bytes k = if_yes (eqb kind 5) _ _ (eq-eqb kind 5 k)

  pub annual_bytes : (kind ≡ 5 → ⊥) → closing_of f kind minute z ≡ annual_record (annual_of f) (length f.waiting) minute
  unfolding closing_of
  annual_bytes k = if_no (eqb kind 5) _ _ (ne_eqb kind 5 k)

-- Z of a calibration is in its range
pub z_in_range : (kind : ℕ) (z : ℤ) → kind ≡ 5 → z_fits_of kind z ≡ true → ZRanged z
unfolding z_fits_of
z_in_range kind z k h = holds (between_answers (neg_ℤ (pos 10000)) (pos 10000) z) (sym (if_yes (eqb kind 5) _ _ (eq-eqb kind 5 k)) ∙ h)

-- ---- the state that the records before it lead to

pub before_sound : (st : State) (edition : ℕ) (bytes : List ℕ) → length st.pairs ≡ 30 → length bytes ≤ 480 → ready_of st ≡ true
    → Fitting (ran_of (opened st edition) bytes).kept
before_sound st edition bytes h few r =
    let o = opened st edition in
    let F = ready_fit o (opened_ready st edition ∙ r) (ap length (opened_pairs st edition) ∙ h) in
    let n = records_length (length bytes / 40) bytes in
    weaken (omega (arith, F.few)) (within_ran o.next 0 o (records (length bytes / 40) bytes) (within_none o F)).sound

pub begun_setting : (m : ℕ) (st : State) → (facts_of st).begun ≡ true → Sound m st → SettingSound st.setting
unfolding facts_of
begun_setting m st b S = subst (λ (t : Bool). BegunSound t st.setting) b S.setting

-- ---- the call, row by row

module _ (st : State) (edition : ℕ) (bytes : List ℕ) (kind minute : ℕ) (z : ℤ) (size : ℕ) where
  -- the rows of the call
  abbrev call_rows : ℕ
  call_rows = making_refusal st edition bytes kind size

  -- the records before the closing, from the state with which its block begins
  abbrev before : Ran State
  before = ran_before st edition bytes

  -- the closing's own rows
  abbrev own_rows : ℕ
  own_rows = closing_refusal (facts_of before.kept) kind minute z

  abbrev past_records : Made
  past_records = unless_refused (made_at (length bytes / 40)) own_rows (made 0 255)

  abbrev past_rows : Made
  past_rows = unless_refused (made_at before.place) before.refusal past_records

  abbrev make : Made
  make = make_of st edition bytes kind minute z size

  -- one of the call's own rows
  row_stops : (n : ℕ) → call_rows ≡ n → (n ≡ 0 → ⊥) → make ≡ made n 255
  unfolding make_of
  row_stops n e h = unless_stop (made_at 255) call_rows past_rows (λ q. h (sym e ∙ q)) ∙ ap (made_at 255) e

  pub size_stops : (size ≡ 40 → ⊥) → make ≡ made 1 255
  unfolding making_refusal
  size_stops n = row_stops 1 (rw (ne_eqb size 40 n)) (λ q. omega arith)

  module _ (s : size ≡ 40) where
    pub fit_stops : records_fit_of 0 11 (length bytes) ≡ false → make ≡ made 6 255
    unfolding making_refusal
    fit_stops f = row_stops 6 (rw (eq-eqb size 40 s, f)) (λ q. omega arith)

    module _ (f : records_fit_of 0 11 (length bytes) ≡ true) where
      pub kind_stops : (eqb kind 5 || eqb kind 6) ≡ false → make ≡ made 6 255
      unfolding making_refusal
      kind_stops k = row_stops 6 (rw (eq-eqb size 40 s, f, k)) (λ q. omega arith)

      module _ (k : (eqb kind 5 || eqb kind 6) ≡ true) where
        pub ready_stops : ready_of st ≡ false → make ≡ made 7 255
        unfolding making_refusal
        ready_stops r = row_stops 7 (rw (eq-eqb size 40 s, f, k, r)) (λ q. omega arith)

        module _ (r : ready_of st ≡ true) where
          told_row : call_rows ≡ told_refusal st.edition edition
          unfolding making_refusal
          told_row = rw (eq-eqb size 40 s, f, k, r)

          pub told_stops : (n : ℕ) → n ≡ told_refusal st.edition edition → (n ≡ 0 → ⊥) → make ≡ made n 255
          told_stops n g h = row_stops n (told_row ∙ sym g) h

          module _ (t : told_refusal st.edition edition ≡ 0) where
            past_call : make ≡ past_rows
            unfolding make_of
            past_call = unless_next (made_at 255) call_rows past_rows (told_row ∙ t)

            pub record_stops : ((ran_of (opened st edition) bytes).refusal ≡ 0 → ⊥) → make ≡ made (ran_of (opened st edition) bytes).refusal (ran_of (opened st edition) bytes).place
            record_stops n = past_call ∙ unless_stop (made_at before.place) before.refusal past_records n

            module _ (e : (ran_of (opened st edition) bytes).refusal ≡ 0) where
              past : make ≡ past_records
              past = past_call ∙ unless_next (made_at before.place) before.refusal past_records e

              pub closing_stops : (n : ℕ) → n ≡ closing_refusal (facts_of (ran_of (opened st edition) bytes).kept) kind minute z → (n ≡ 0 → ⊥) → make ≡ made n (length bytes / 40)
              closing_stops n g h = past ∙ unless_stop (made_at (length bytes / 40)) own_rows (made 0 255) (λ q. h (g ∙ q)) ∙ ap (made_at (length bytes / 40)) (sym g)

              pub closing_made : (n : ℕ) → n ≡ closing_refusal (facts_of (ran_of (opened st edition) bytes).kept) kind minute z → n ≡ 0 → make ≡ made 0 255
              closing_made n g h = past ∙ unless_next (made_at (length bytes / 40)) own_rows (made 0 255) (sym g ∙ h)

-- what it tells that one was made
pub record MadePasses (st : State) (edition : ℕ) (bytes : List ℕ) (kind minute : ℕ) (z : ℤ) : Type 0 where
  pub fits : records_fit_of 0 11 (length bytes) ≡ true
  pub ready : ready_of st ≡ true
  pub told : told_refusal st.edition edition ≡ 0
  pub accepted : (ran_of (opened st edition) bytes).refusal ≡ 0
  pub passes : closing_refusal (facts_of (ran_of (opened st edition) bytes).kept) kind minute z ≡ 0

pub made_passes : (st : State) (edition : ℕ) (bytes : List ℕ) (kind minute : ℕ) (z : ℤ) (size : ℕ) → (make_of st edition bytes kind minute z size).refusal ≡ 0
    → MadePasses st edition bytes kind minute z
unfolding make_of making_refusal
made_passes st edition bytes kind minute z size e =
    let call = let_on 255 (making_refusal st edition bytes kind size) _ e in
    let a = row_passed 1 (not (eqb size 40)) tt call.0 in
    let b = row_passed 6 (not (records_fit_of 0 11 (length bytes))) tt a.1 in
    let c = row_passed 6 (not (eqb kind 5 || eqb kind 6)) tt b.1 in
    let d = row_passed 7 (not (ready_of st)) tt c.1 in
    let ran = let_on (ran_before st edition bytes).place (ran_before st edition bytes).refusal _ call.1 in
    let own = let_on (length bytes / 40) (closing_refusal (facts_of (ran_before st edition bytes).kept) kind minute z) (made 0 255) ran.1 in
    record {
      fits = not-false (records_fit_of 0 11 (length bytes)) b.0;
      ready = not-false (ready_of st) d.0;
      told = d.1;
      accepted = ran.0;
      passes = own.0;
    }
  where
    let_on : (place n : ℕ) (rest : Made) → (unless_refused (made_at place) n rest).refusal ≡ 0 → (n ≡ 0) × (rest.refusal ≡ 0)
    let_on place n rest e = unless_passed (made_at place) (λ (m : Made). m.refusal) (λ n. refl) n rest e

module _ (st : State) (edition : ℕ) (bytes : List ℕ) (kind minute : ℕ) (z : ℤ) (old : List ℕ) (x : Made)
    (e : make_of st edition bytes kind minute z (length old) ≡ x) where
  pub bytes_kept : (x.refusal ≡ 0 → ⊥) → old ≡ made_bytes st edition bytes kind minute z old
  unfolding made_bytes
  bytes_kept n = rw (e, ne_eqb x.refusal 0 n)

  pub bytes_made : x.refusal ≡ 0 → closing_of (facts_of (ran_of (opened st edition) bytes).kept) kind minute z ≡ made_bytes st edition bytes kind minute z old
  unfolding made_bytes
  bytes_made n = rw (e, eq-eqb x.refusal 0 n)

-- ---- a refused call: every clause of its answer

module _ (st : State) (edition : ℕ) (bytes : List ℕ) (kind minute : ℕ) (z : ℤ) (old : List ℕ) (result : Result (Unit {0}) Refused) where
  abbrev pub Told : Type 0
  Told = record {
    value : made_by result ≡ make_of st edition bytes kind minute z (length old);
    below : PlaceOfTwelve result;
    target_after : old ≡ made_bytes st edition bytes kind minute z old;
  }

  module _ (x : Refused) (r : result ≡ Err x) where
    -- by the row of a record, or the closing's own
    pub record_told : (n place : ℕ) → number_of x.row ≡ n → place_number x.place ≡ place → IfSome x.place (λ place. place < 12)
        → make_of st edition bytes kind minute z (length old) ≡ made n place → Told
    record_told n place e f p g =
        rw r (record {
          value = rw (e, f) (sym g);
          below = p;
          target_after = bytes_kept st edition bytes kind minute z old _ g (λ w. some_row x.row (e ∙ w));
        })

    -- by another
    pub row_told : (row : Refusal) → x ≡ record { row = row; place = None } → make_of st edition bytes kind minute z (length old) ≡ made (number_of row) 255 → Told
    row_told row e g = record_told (number_of row) 255 (ap (λ (y : Refused). number_of y.row) e) (ap (λ (y : Refused). place_number y.place) e) (rw e tt) g
