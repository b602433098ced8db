-- A closing that is made is accepted: its bytes give back the figures that were worked out, and no row of the table refuses it.
use Rattle.std.specs.Prelude.{◌≡◌, Bool, not, List, map, ℕ, ◌≤◌, ◌<◌, T, ltb, eqb, ℤ, pos, neg_ℤ, nat_abs, length, take}
use Rattle.std.proofs.Math.Path.{refl}
use Rattle.std.proofs.Common.{sym, ap, subst, ◌∙◌, arith, length-take}
use Rattle.std.proofs.Math.Bool.{true, false}
use borrow.Author.Tests.{ne_eqb, eqb-true, eqb-false, not-true, not-false}
use Rattle.std.proofs.lemmas.Bool.{or_parts, ltb-false}
use Rattle.std.proofs.lemmas.List.{length-map}
use Rattle.std.specs.Int.Signed.{le_z}
use Rattle.refusals.specs.Rows.{◌when◌, ◌or◌}
use Rattle.charts.specs.Tests.{if_yes, if_all, is_true}
use Rattle.charts.specs.Integers.{abs_sfits}
use Rattle.calibration.specs.Pairs.{RequirementsRanged, ZRanged, z_ranged_of, between_answers}
use Rattle.calibration.proofs.RangeLaws.{between_fits}
use Rattle.calibration.proofs.FitRange.{fitted_ranged}
use Rattle.calibration.proofs.ResidualLaws.{top_bound, residuals_ranged}
use Rattle.calibration.proofs.VerdictLaws.{count_above}
use Rattle.calibration.specs.Calibration.{LineRanged, count_fits_of, divisor_of, fit_from_of, fit_of, flat_of, line_fits_of, residuals_of, slope_of, slope_ranged_of, some_beyond, sums_of, top_of}
use Rattle.calibration.specs.Outcomes.{Fitted}
use Rattle.calibration.specs.declared.line.Line.{Line}
use Rattle.calibration.specs.declared.pairs.Pair.{Pair}
use Rattle.calibration.specs.declared.pairs.Requirements.{Requirements}
use Rattle.calibration.specs.declared.conditions.Standard.{Standard}
use Rattle.records.specs.Writing.{calibration_record, annual_record}
use Rattle.records.proofs.ReadBackLaws.{Stored, calibration_formed, calibration_kind, calibration_minute, calibration_z, calibration_stores, annual_formed, annual_kind, annual_minute, annual_stores}
use Rattle.records.specs.Record.{Record, kind, minute, minute_limit, formed_of, ranged_of, z_of}
use Rattle.records.specs.Kinds.{sets}
use Rattle.records.specs.Table.{Facts, misplaced_of, untimely_of, days_fit_of, pair_of_waiting, calibration_of, annual_of, stores_fit_of, stores_test_of, calibration_refusal_of, annual_refusal_of, kind_refusal_of, refusal_in}
use Rattle.records.proofs.TableLaws.{calibration_count}
use Rattle.records.specs.State.{facts_of}
use Rattle.records.specs.Soundness.{SettingSound, Sound, count_limit}
use Rattle.records.proofs.SoundnessLaws.{pairs_ranged}
use Rattle.records.specs.declared.state.Waiting.{Waiting}
use Rattle.records.specs.declared.state.State.{State}
use Rattle.file.specs.Calls.{opened}
use Rattle.file.specs.Answered.{ran_of}
use Rattle.file.specs.RoomLaws.{fit_size}
use Rattle.file.specs.Closings.{first_rows_of, closing_of, closing_refusal, make_of, made_bytes}
use Rattle.file.proofs.ClosingLaws.{first_passed, passed_begun, passed_time, passed_z, calibration_row, annual_row, calibration_bytes, annual_bytes, z_in_range, begun_setting, before_sound, bytes_made, made_passes}

-- ---- the figures that a fit gives

-- the top is small, of a refused fit too
abbrev TopSmall : Fitted → Type 0
TopSmall c = nat_abs c.top.0 ≤ 11000000

module _ (edition : ℕ) (q : Requirements) (z : ℤ) (ps : List Pair) (Q : RequirementsRanged q) where
  line_top : (l : Line) → 0 < length ps → TopSmall (line_fits_of edition q ps l)
  unfolding line_fits_of residuals_of
  line_top l h = if_all TopSmall (some_beyond edition q.oxygen l ps) _ _ (λ t. omega arith) standing
    where
      most : Standard
      most = (residuals_of edition q.oxygen l ps).most

      standing : T (not (some_beyond edition q.oxygen l ps)) → nat_abs (top_of edition q.limit most).0 ≤ 11000000
      standing t =
          let far = (residuals_ranged edition q.oxygen l ps h (not-true (some_beyond edition q.oxygen l ps) (is_true _ t))).most in
          top_bound edition q.limit most far Q.limit

  from_top : 0 < length ps → TopSmall (fit_from_of edition q z ps (sums_of ps))
  unfolding fit_from_of
  from_top h =
      let flat = flat_of edition q ps in
      if_all TopSmall (le_z (divisor_of flat (sums_of ps) z) (pos 0)) _ _ (λ t. omega arith)
      (λ t. if_all TopSmall (not (slope_ranged_of (slope_of edition flat (sums_of ps) z))) _ _ (λ u. omega arith) (λ u. line_top _ h))

  fit_top : TopSmall (fit_of edition q z ps)
  unfolding fit_of
  fit_top =
      if_all TopSmall (not (count_fits_of (length ps))) _ _ (λ t. omega arith)
      (λ t. from_top (count_above (length ps) (not-false (count_fits_of (length ps)) (not-true (not (count_fits_of (length ps))) (is_true _ t)))))

abbrev Figures : Fitted → Type 0
Figures c = c.refusal ≡ 0 → LineRanged c.line × TopSmall c

figures : (m : ℕ) (st : State) (z : ℤ) → Sound m st → SettingSound st.setting → ZRanged z → Figures (calibration_of (facts_of st) z)
unfolding calibration_of facts_of
figures m st z S Q Z =
    if_all Figures (not (count_fits_of (length ws))) _ _ (λ t e. absurd (omega arith))
    (λ t. if_all Figures (not (days_fit_of ws)) _ _ (λ u e. absurd (omega arith)) (λ u e. (fitted_ranged st.edition q z ps Q.requirements Z (pairs_ranged ws S.pairs) few e, fit_top st.edition q z ps Q.requirements)))
  where
    ws : List Waiting
    ws = take st.waiting st.pairs

    ps : List Pair
    ps = map pair_of_waiting ws

    q : Requirements
    q = st.setting.requirements

    few : length ps ≤ 30
    few = omega (arith, S.waiting, length-map ws pair_of_waiting, length-take st.waiting st.pairs)

waiting_few : (m : ℕ) (st : State) → Sound m st → length (facts_of st).waiting ≤ 30
unfolding facts_of
waiting_few m st S = omega (arith, S.waiting, length-take st.waiting st.pairs)

stored : (m : ℕ) (st : State) (z : ℤ) → Sound m st → SettingSound st.setting → ZRanged z → (calibration_of (facts_of st) z).refusal ≡ 0 → Stored (calibration_of (facts_of st) z)
stored m st z S Q Z e =
    let F = figures m st z S Q Z e in
    record {
      slope = between_fits tt F.0.slope;
      intercept = between_fits tt F.0.intercept;
      top = abs_sfits (omega (arith, F.1));
      count = calibration_count (facts_of st) z (waiting_few m st S);
    }

-- ---- the rows

none_refuses : (f : Facts) (r : Record) → formed_of r ≡ true → misplaced_of f r ≡ false → untimely_of f (minute r) ≡ false → ranged_of r ≡ true → kind_refusal_of f r ≡ 0 → refusal_in f r ≡ 0
unfolding refusal_in
none_refuses f r a b c d e = rw (a, b, c, d, e)

-- past the first record, a closing is in its place
placed : (f : Facts) (r : Record) → f.begun ≡ true → sets r ≡ false → misplaced_of f r ≡ false
unfolding misplaced_of
placed f r b s = if_yes f.begun (sets r) (not (sets r)) b ∙ s

not_one : (r : Record) (k : ℕ) → kind r ≡ k → (k ≡ 1 → ⊥) → sets r ≡ false
unfolding sets
not_one r k e n = ne_eqb (kind r) 1 (λ z. n (sym e ∙ z))

-- no refusal of its own, and the stored figures are those worked out
both_pass : (n : ℕ) (stores : Bool) → n ≡ 0 → stores ≡ true → (n or 25 when not stores) ≡ 0
both_pass n stores e h = rw (e, h)

module _ (f : Facts) (r : Record) where
  calibration_ranged : kind r ≡ 5 → z_ranged_of (z_of r) ≡ true → ranged_of r ≡ true
  unfolding ranged_of
  calibration_ranged k h = rw (k, h)

  annual_ranged : kind r ≡ 6 → ranged_of r ≡ true
  unfolding ranged_of
  annual_ranged k = rw k

  calibration_kind_passes : kind r ≡ 5 → (z : ℤ) → z_of r ≡ z → (calibration_of f z).refusal ≡ 0 → stores_fit_of (calibration_of f z) r ≡ true → kind_refusal_of f r ≡ 0
  unfolding kind_refusal_of calibration_refusal_of
  calibration_kind_passes k z e n s = rw (k, e) (both_pass (calibration_of f z).refusal (stores_fit_of (calibration_of f z) r) n s)

  annual_kind_passes : kind r ≡ 6 → (annual_of f).refusal ≡ 0 → stores_test_of (annual_of f) (length f.waiting) r ≡ true → kind_refusal_of f r ≡ 0
  unfolding kind_refusal_of annual_refusal_of
  annual_kind_passes k n s = rw k (both_pass (annual_of f).refusal (stores_test_of (annual_of f) (length f.waiting) r) n s)

-- a minute in time is no more than the last one there is
minute_small : (f : Facts) (m : ℕ) → untimely_of f m ≡ false → m ≤ minute_limit
unfolding untimely_of
minute_small f m h = ltb-false minute_limit m (or_parts (ltb m f.minute) (ltb minute_limit m) h).1

-- a closing that passes the first rows is in place and in time
closing_passes : (f : Facts) (r : Record) (k told m : ℕ) (z : ℤ) → first_rows_of f told m z ≡ 0 → kind r ≡ k → (k ≡ 1 → ⊥) → (m < 4294967296 → minute r ≡ m) → formed_of r ≡ true
    → ranged_of r ≡ true
    → kind_refusal_of f r ≡ 0
    → refusal_in f r ≡ 0
closing_passes f r k told m z h e n i a d g =
    let t = passed_time f told m z h in
    none_refuses f r a (placed f r (passed_begun f told m z h) (not_one r k e n)) (ap (untimely_of f) (i (omega (arith, minute_small f m t))) ∙ t) d g

-- ---- the theorem

module _ (m : ℕ) (st : State) (S : Sound m st) (minute : ℕ) (z : ℤ) where
  accepted_calibration : first_rows_of (facts_of st) 5 minute z ≡ 0 → (calibration_of (facts_of st) z).refusal ≡ 0
      → refusal_in (facts_of st) (calibration_record (calibration_of (facts_of st) z) minute z) ≡ 0
  accepted_calibration h e =
      let f = facts_of st in
      let c = calibration_of f z in
      let r = calibration_record c minute z in
      let Z = z_in_range 5 z refl (passed_z f 5 minute z h) in
      let k = calibration_kind c minute z in
      let y = calibration_z c minute z (between_fits tt Z) in
      let F = stored m st z S (begun_setting m st (passed_begun f 5 minute z h) S) Z e in
      closing_passes f r 5 5 minute z h k (λ q. omega arith) (calibration_minute c minute z) (calibration_formed c minute z)
      (calibration_ranged f r k (ap z_ranged_of y ∙ is_true _ ((between_answers (neg_ℤ (pos 10000)) (pos 10000) z).back Z)))
      (calibration_kind_passes f r k z y e (calibration_stores c minute z F))

  accepted_annual : (kind : ℕ) → first_rows_of (facts_of st) kind minute z ≡ 0 → (annual_of (facts_of st)).refusal ≡ 0
      → refusal_in (facts_of st) (annual_record (annual_of (facts_of st)) (length (facts_of st).waiting) minute) ≡ 0
  accepted_annual kind h e =
      let f = facts_of st in
      let n = length f.waiting in
      let r = annual_record (annual_of f) n minute in
      let k = annual_kind (annual_of f) n minute in
      closing_passes f r 6 kind minute z h k (λ q. omega arith) (annual_minute (annual_of f) n minute) (annual_formed (annual_of f) n minute)
      (annual_ranged f r k)
      (annual_kind_passes f r k e (annual_stores (annual_of f) n minute (waiting_few m st S)))

  -- the rows of a closing being made are those of the table: what passes them is accepted as it stands
  pub closing_accepted : (kind : ℕ) → closing_refusal (facts_of st) kind minute z ≡ 0 → refusal_in (facts_of st) (closing_of (facts_of st) kind minute z) ≡ 0
  closing_accepted kind e = by_kind (eqb kind 5) refl
    where
      f : Facts
      f = facts_of st

      first : first_rows_of f kind minute z ≡ 0
      first = first_passed f kind minute z e

      by_kind : (t : Bool) → eqb kind 5 ≡ t → refusal_in f (closing_of f kind minute z) ≡ 0
      by_kind true t =
          let k = eqb-true kind 5 t in
          let g = subst (λ (n : ℕ). first_rows_of f n minute z ≡ 0) k first in
          ap (refusal_in f) (calibration_bytes f kind minute z k) ∙ accepted_calibration g (sym (calibration_row f kind minute z first k) ∙ e)
      by_kind false t =
          let k = eqb-false kind 5 t in
          ap (refusal_in f) (annual_bytes f kind minute z k) ∙ accepted_annual kind first (sym (annual_row f kind minute z first k) ∙ e)

-- a closing that is made is accepted after the records before it, in a block of the edition told
pub made_accepted : (st : State) (edition : ℕ) (bytes : List ℕ) (kind minute : ℕ) (z : ℤ) (old : List ℕ) → length st.pairs ≡ 30
    → (make_of st edition bytes kind minute z (length old)).refusal ≡ 0
    → refusal_in (facts_of (ran_of (opened st edition) bytes).kept) (made_bytes st edition bytes kind minute z old) ≡ 0
made_accepted st edition bytes kind minute z old h e =
    let M = made_passes st edition bytes kind minute z (length old) e in
    let s = (ran_of (opened st edition) bytes).kept in
    let S = before_sound st edition bytes h (omega (arith, (fit_size 0 11 (length bytes) M.fits).few)) M.ready in
    ap (refusal_in (facts_of s)) (sym (bytes_made st edition bytes kind minute z old _ refl e))
    ∙ closing_accepted count_limit s S minute z kind M.passes
