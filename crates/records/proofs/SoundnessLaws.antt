-- The summary of no record is sound, and an accepted record keeps a state so.
use Rattle.std.specs.Prelude.{◌≡◌, refl, Bool, true, false, not, List, [], ◌∷◌, map, ℕ, zero, suc, ◌+◌, ◌≤◌, ◌<◌, eqb, set, if◌then◌else◌}
use Rattle.std.proofs.Common.{subst, ◌∙◌, arith, add-one, length-set}
use Rattle.std.proofs.Math.Dec.{T}
use Rattle.std.proofs.Math.ListN.{length, take, length-take, length-map}
use Rattle.std.proofs.Math.Facts.{and_yes, eqb_yes}
use Rattle.charts.specs.Tests.{if_all}
use Rattle.charts.specs.ChartSoundness.{ChartSound, DifferenceRanged}
use Rattle.charts.specs.ChartSoundnessLaws.{blank_sound, reset_sound, reading_sound}
use Rattle.charts.specs.declared.Chart.{Chart}
use Rattle.calibration.specs.Pairs.{AllRanged}
use Rattle.calibration.specs.Calibration.{LineRanged}
use Rattle.calibration.proofs.FitRange.{fitted_ranged}
use Rattle.calibration.proofs.RangeLaws.{between_abs}
use Rattle.records.specs.Record.{Record, kind, mark, minute, minute_limit, setting_ranged_of, setting_of, difference_of, waiting_of, function_of, z_of}
use Rattle.records.specs.RecordLaws.{WaitingFields, setting_fields, setting_ranged_lem, reading_fields, reading_ranged_lem, waiting_fields, waiting_ranged_lem, z_field, z_ranged}
use Rattle.records.specs.Kinds.{Point, at_zero, at_span, point_mark, deviation_of, reads, resets, sets, is_pair, empties, calibrates, comes_into_force, starts_period, counts, setting_after, calibration_after, no_values, one_more, exceeds_of, outside_by, line_of}
use Rattle.records.specs.Table.{misplaced_of, pair_of_waiting, reading_refusal_of, refusal_in}
use Rattle.records.proofs.TableLaws.{Accepted, accepted, reading_passed, chart_marked, pair_passed, pair_passes, calibration_passed, calibration_passes, stored_line}
use Rattle.records.specs.State.{chart_of, no_pairs, initial_of, facts_of, chart_after, turns_from, judged_at, running_at, applied_to}
use Rattle.records.specs.History.{waiting_in, function_in, tally_in, weeks_over}
use Rattle.records.specs.Summary.{Position, chart_in, summary_of}
use Rattle.records.specs.Soundness.{SettingSound, WaitingSound, AllSound, CalibrationSound, BegunSound, Sound}
use Rattle.records.specs.declared.state.Setting.{Setting}
use Rattle.records.specs.declared.state.Waiting.{Waiting}
use Rattle.records.specs.declared.state.State.{State}
use Rattle.records.specs.declared.state.Tally.{Tally}

pub none_sound : (p : Position) → Sound 0 (summary_of p [])
unfolding summary_of chart_in waiting_in function_in tally_in no_values weeks_over
none_sound p = record {
  minute = omega arith;
  setting = tt;
  zero = blank_sound;
  span = blank_sound;
  waiting = omega arith;
  pairs = tt;
  calibration = tt;
  total = omega arith;
  outside = omega arith;
  over = omega arith;
}

-- in another place, and with a higher bound
pub elsewhere : {m n : ℕ} {st : State} (analyser next edition : ℕ) → m ≤ n → Sound m st → Sound n (record st { analyser = analyser; next = next; edition = edition })
elsewhere analyser next edition h S = record {
  minute = S.minute;
  setting = S.setting;
  zero = S.zero;
  span = S.span;
  waiting = S.waiting;
  pairs = S.pairs;
  calibration = S.calibration;
  total = omega (arith, S.total);
  outside = omega (arith, S.outside);
  over = omega (arith, S.over);
}

pub weaken : {m n : ℕ} {st : State} → m ≤ n → Sound m st → Sound n st
weaken {st} h S = elsewhere st.analyser st.next st.edition h S

-- ---- the array keeps its length

pub initial_places : (analyser : ℕ) → length (initial_of analyser).pairs ≡ 30
unfolding initial_of no_pairs
initial_places analyser = refl

pub none_places : (p : Position) → length (summary_of p []).pairs ≡ 30
unfolding summary_of waiting_in
none_places p = refl

pub applied_places : (st : State) (r : Record) → length st.pairs ≡ 30 → length (applied_to st r).pairs ≡ 30
unfolding applied_to no_pairs
applied_places st r h =
    if_all Full (empties r) _ _ (λ t. refl) (λ t. if_all Full (is_pair r) _ _ (λ t. length-set st.pairs st.waiting (waiting_of r) ∙ h) (λ t. h))
  where
    Full : List Waiting → Type 0
    Full ws = length ws ≡ 30

-- ---- the charts

chart_sound : (edition : ℕ) (c : Point) (s : Setting) (r : Record) (k : Chart) → ChartSound k → (T (reads c r) → (k.readings < 100000) × DifferenceRanged (difference_of r)) → ChartSound (chart_after edition c s r k)
unfolding chart_after
chart_sound edition c s r k S fits =
    if_all ChartSound (resets c r) _ _ (λ t. reset_sound k)
    (λ t. if_all ChartSound (reads c r) _ _ (λ u. reading_sound k edition (deviation_of c s) (difference_of r) S (fits u).0 (fits u).1) (λ u. S))

-- ---- the setting

setting_sound : (r : Record) → setting_ranged_of r ≡ true → SettingSound (setting_of r)
unfolding setting_of
setting_sound r h =
    let F = setting_fields r h in
    record { requirements = F.requirements; zero = between_abs F.zero; span = between_abs F.span; response = between_abs F.response }

-- a record that is no setting finds one
pub setting_known : (st : State) (r : Record) → misplaced_of (facts_of st) r ≡ false → T (not (sets r)) → BegunSound st.begun st.setting → SettingSound st.setting
unfolding misplaced_of facts_of
setting_known st r p n S = by_tests st.begun (sets r) p n S
  where
    by_tests : (b t : Bool) → (if b then t else not t) ≡ false → T (not t) → BegunSound b st.setting → SettingSound st.setting
    by_tests true t e n S = S
    by_tests false t e n S = absurd (subst T e n)

-- ---- the pairs

waiting_sound : (r : Record) → WaitingFields r → minute r ≤ minute_limit → WaitingSound (waiting_of r)
unfolding waiting_of
waiting_sound r F h = record { start = omega arith; end = h; pair = F.pair }

added_sound : (n : ℕ) (ws : List Waiting) {w : Waiting} → AllSound (take n ws) → WaitingSound w → AllSound (take (suc n) (set ws n w))
added_sound zero [] A W = tt
added_sound zero (v ∷ ws) A W = (W, tt)
added_sound (suc n) [] A W = tt
added_sound (suc n) (v ∷ ws) A W = (A.0, added_sound n ws A.1 W)

-- the pairs are dropped, or one is added, or they stay
kept_sound : (e p : Bool) (n : ℕ) (ws : List Waiting) (w : Waiting) → AllSound (take n ws) → (T p → WaitingSound w)
    → AllSound (take (if e then 0 else (if p then n + 1 else n)) (if e then no_pairs else (if p then set ws n w else ws)))
kept_sound true p n ws w A W = tt
kept_sound false true n ws w A W = rw (add-one n) (added_sound n ws A (W tt))
kept_sound false false n ws w A W = A

pub pairs_ranged : (ws : List Waiting) → AllSound ws → AllRanged (map pair_of_waiting ws)
pairs_ranged [] A = tt
pairs_ranged (w ∷ ws) A = (A.0.pair, pairs_ranged ws A.1)

-- ---- the tally

-- at most one is counted: of both counts of a tally at once
abbrev AtMost : ℕ → Tally → Type 0
AtMost m t = (t.total ≤ m) × (t.outside ≤ m)

tally_at_most : (starts counts outside : Bool) (m : ℕ) (t : Tally) → AtMost m t → AtMost (m + 1) (if starts then no_values else (if counts then one_more outside t else t))
unfolding no_values one_more
tally_at_most true counts outside m t w = (omega arith, omega arith)
tally_at_most false true true m t w = (omega (arith, w.0), omega (arith, w.1))
tally_at_most false true false m t w = (omega (arith, w.0), omega (arith, w.1))
tally_at_most false false outside m t w = (omega (arith, w.0), omega (arith, w.1))

running_at_most : (m n : ℕ) (st : State) → AtMost m st.tally → AtMost m (running_at st n)
unfolding running_at no_values
running_at_most m n st w = if_all (AtMost m) (turns_from st.minute n) _ _ (λ t. (omega arith, omega arith)) (λ t. w)

over_at_most : (starts over : Bool) (n m : ℕ) → n ≤ m → (if starts then 0 else (if over then n + 1 else n)) ≤ m + 1
over_at_most true over n m h = omega arith
over_at_most false true n m h = omega arith
over_at_most false false n m h = omega arith

-- ---- an accepted record

module _ (st : State) (r : Record) (A : Accepted (facts_of st) r) where
  -- a reading finds room in its chart, and its difference is in its range
  reading_fits : (c : Point) → T (reads c r) → ((chart_of c st).readings < 100000) × DifferenceRanged (difference_of r)
  unfolding reads facts_of
  reading_fits c t =
      let p = and_yes (eqb (kind r) 2) (eqb (mark r) (point_mark c)) t in
      let k = eqb_yes p.0 in
      (room c (reading_passed (facts_of st) r A k) (eqb_yes p.1), (reading_fields r (reading_ranged_lem r A.ranged k)).difference)
    where
      room : (c : Point) → reading_refusal_of (facts_of st) r ≡ 0 → mark r ≡ point_mark c → (chart_of c st).readings < 100000
      room at_zero e m = (chart_marked (facts_of st) r e at_zero m).room
      room at_span e m = (chart_marked (facts_of st) r e at_span m).room

  new_setting_sound : BegunSound st.begun st.setting → SettingSound (setting_after r st.setting)
  unfolding sets
  new_setting_sound S =
      if_all SettingSound (sets r) _ _ (λ t. setting_sound r (setting_ranged_lem r A.ranged (eqb_yes t))) (λ t. setting_known st r A.placed t S)

  waiting_few : length st.pairs ≡ 30 → st.waiting ≤ 30 → (if empties r then 0 else (if is_pair r then st.waiting + 1 else st.waiting)) ≤ 30
  unfolding is_pair facts_of
  waiting_few h S =
      if_all (λ (n : ℕ). n ≤ 30) (empties r) _ _ (λ t. omega arith)
      (λ t. if_all (λ (n : ℕ). n ≤ 30) (is_pair r) _ _ room (λ u. S))
    where
      room : T (is_pair r) → st.waiting + 1 ≤ 30
      room u = omega (arith, (pair_passes (facts_of st) r (pair_passed (facts_of st) r A (eqb_yes u))).room, length-take st.waiting st.pairs)

  waiting_after : T (is_pair r) → WaitingSound (waiting_of r)
  unfolding is_pair
  waiting_after t = waiting_sound r (waiting_fields r (waiting_ranged_lem r A.ranged (eqb_yes t))) A.until

module _ (m : ℕ) (st : State) (r : Record) (S : Sound m st) (A : Accepted (facts_of st) r) where
  calibration_sound : CalibrationSound (calibration_after r st.calibration)
  unfolding calibrates sets facts_of
  calibration_sound = if_all CalibrationSound (comes_into_force r) _ _ in_force (λ t. S.calibration)
    where
      in_force : T (comes_into_force r) → LineRanged (line_of (function_of r))
      in_force t =
          let k = eqb_yes (and_yes (eqb (kind r) 5) (eqb (mark r) 1) t).0 in
          let P = calibration_passes (facts_of st) r (calibration_passed (facts_of st) r A k) in
          let ws = take st.waiting st.pairs in
          let few : length (map pair_of_waiting ws) ≤ 30 = omega (arith, S.waiting, length-map ws pair_of_waiting, length-take st.waiting st.pairs) in
          let Q = setting_known st r A.placed (rw k tt) S.setting in
          rw (stored_line _ r P.stores)
          (fitted_ranged st.edition st.setting.requirements (z_of r) (map pair_of_waiting ws) Q.requirements (z_field r (z_ranged r A.ranged k)) (pairs_ranged ws S.pairs) few P.fits)

pub applied_sound : (m : ℕ) (st : State) (r : Record) → length st.pairs ≡ 30 → Sound m st → refusal_in (facts_of st) r ≡ 0 → Sound (m + 1) (applied_to st r)
unfolding applied_to
applied_sound m st r h S e =
    let A = accepted (facts_of st) r e in
    let w = tally_at_most (starts_period r) (counts r) (outside_by st.edition st.calibration st.setting r) m (running_at st (minute r)) (running_at_most m (minute r) st (S.total, S.outside)) in
    record {
      minute = A.until;
      setting = new_setting_sound st r A S.setting;
      zero = chart_sound st.edition at_zero st.setting r st.zero S.zero (reading_fits st r A at_zero);
      span = chart_sound st.edition at_span st.setting r st.span S.span (reading_fits st r A at_span);
      waiting = waiting_few st r A h S.waiting;
      pairs = kept_sound (empties r) (is_pair r) st.waiting st.pairs (waiting_of r) S.pairs (waiting_after st r A);
      calibration = calibration_sound m st r S A;
      total = w.0;
      outside = w.1;
      over = over_at_most (starts_period r) (exceeds_of 5 (judged_at st (minute r))) st.over m S.over;
    }
