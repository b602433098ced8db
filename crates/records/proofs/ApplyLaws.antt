-- What each kind makes of the judged state is the state after an accepted record of that kind.
use mathlib.Core.Path.{◌≡◌, refl}
use mathlib.Core.Bool.{Bool, true, false}
use mathlib.Core.Logic.{◌⊎◌, inl, inr, ⊎_elim}
use Prim.Native.Nat.{ℕ, zero, suc, ◌≤◌, ◌<◌}
use native.Mathlib.Omega.{arith}
use lib.Dec.{eqb}
use Rattle.std.specs.Prelude.{if◌then◌else◌, None, Some}
use Rattle.std.specs.Option.{option_or}
use Rattle.std.proofs.Math.Facts.{eqb_yes, eqb_no}
use Rattle.charts.specs.ChartSoundness.{ChartSound}
use Rattle.charts.specs.Tests.{if_all}
use Rattle.records.specs.Record.{Record, kind, mark, minute, function_of, setting_of, waiting_of}
use Rattle.records.specs.Kinds.{Point, at_zero, at_span, point_of, reads, resets, sets, is_pair, calibrates, is_passed, fails, empties, counts, no_values, raises_demand_of, Demand}
use Rattle.records.specs.Table.{facts_at, chart_refusal_of, reading_refusal_of}
use Rattle.records.proofs.TableLaws.{OpenAt, mark_open}
use Rattle.records.specs.State.{chart_of, facts_of, chart_after, turns_from, judged_at, running_at, raised_of, applied_to}
use Rattle.records.specs.StateParts.{with_reading, with_reset, with_pair, emptied, with_failure, with_function, with_calibration, with_period, with_annual, with_value, judged_of}
use Rattle.records.specs.declared.state.State.{State}
use Rattle.records.specs.declared.state.Tally.{Tally}

-- the first call stays the first, as `Option::or` keeps it
pub raised_or : (d : Demand) (m : ℕ) → option_or d (Some m) ≡ raised_of d m
unfolding raised_of
raised_or None m = refl
raised_or (Some first) m = refl

-- a call on the record of a call changes nothing
raised_again : (b : Bool) (d : Demand) (m : ℕ) → raised_of (if b then raised_of d m else d) m ≡ raised_of d m
unfolding raised_of
raised_again true None m = refl
raised_again true (Some n) m = refl
raised_again false d m = refl

two_marks : {n : ℕ} → n ≤ 1 → (n ≡ 0) ⊎ (n ≡ 1)
two_marks {n = zero} h = inl refl
two_marks {n = suc zero} h = inr refl
two_marks {n = suc (suc n)} h = absurd (omega arith)

module _ (st : State) (r : Record) where
  abbrev judged : State
  judged = judged_of st (minute r)

  pub judged_total : judged.tally.total ≤ st.tally.total
  unfolding judged_of running_at no_values
  judged_total = if_all (λ (t : Tally). t.total ≤ st.tally.total) (turns_from st.minute (minute r)) _ _ (λ t. omega arith) (λ t. omega arith)

  pub judged_outside : judged.tally.outside ≤ st.tally.outside
  unfolding judged_of running_at no_values
  judged_outside = if_all (λ (t : Tally). t.outside ≤ st.tally.outside) (turns_from st.minute (minute r)) _ _ (λ t. omega arith) (λ t. omega arith)

  pub applied_setting : kind r ≡ 1 → record judged { setting = setting_of r } ≡ applied_to st r
  unfolding judged_of applied_to chart_after sets reads resets is_pair empties calibrates is_passed fails counts
  applied_setting k = rw k

  pub applied_reading : kind r ≡ 2 → mark r ≤ 1 → with_reading judged r ≡ applied_to st r
  unfolding judged_of applied_to chart_after sets reads resets is_pair empties calibrates is_passed fails counts with_reading
  applied_reading k h = ⊎_elim (λ (e : mark r ≡ 0). rw (k, e)) (λ (e : mark r ≡ 1). rw (k, e)) (two_marks h)

  pub applied_reset : kind r ≡ 3 → mark r ≤ 1 → with_reset judged r ≡ applied_to st r
  unfolding judged_of applied_to chart_after sets reads resets is_pair empties calibrates is_passed fails counts with_reset
  applied_reset k h = ⊎_elim (λ (e : mark r ≡ 0). rw (k, e)) (λ (e : mark r ≡ 1). rw (k, e)) (two_marks h)

  pub applied_pair : kind r ≡ 4 → with_pair judged (waiting_of r) ≡ applied_to st r
  unfolding judged_of applied_to chart_after sets reads resets is_pair empties calibrates is_passed fails counts
  applied_pair k = rw k

  pub applied_calibration : kind r ≡ 5 → with_calibration judged r ≡ applied_to st r
  unfolding judged_of applied_to chart_after sets reads resets is_pair empties calibrates is_passed fails counts with_calibration with_failure
  applied_calibration k = by_mark (eqb (mark r) 1) refl
    where
      by_mark : (b : Bool) → eqb (mark r) 1 ≡ b → with_calibration judged r ≡ applied_to st r
      by_mark true e = rw (k, e)
      by_mark false e = rw (k, e, raised_again (raises_demand_of (judged_at st (minute r)) st.over) st.demand (minute r))

  pub applied_annual : kind r ≡ 6 → with_annual judged r ≡ applied_to st r
  unfolding judged_of applied_to chart_after sets reads resets is_pair empties calibrates is_passed fails counts with_annual with_failure
  applied_annual k = by_mark (eqb (mark r) 3) refl
    where
      by_mark : (b : Bool) → eqb (mark r) 3 ≡ b → with_annual judged r ≡ applied_to st r
      by_mark true e = rw (k, e)
      by_mark false e = rw (k, e, raised_again (raises_demand_of (judged_at st (minute r)) st.over) st.demand (minute r))

  pub applied_value : kind r ≡ 7 → with_value judged r ≡ applied_to st r
  unfolding judged_of applied_to chart_after sets reads resets is_pair empties calibrates is_passed fails counts with_value
  applied_value k = by_mark (eqb (mark r) 0) refl
    where
      by_mark : (b : Bool) → eqb (mark r) 0 ≡ b → with_value judged r ≡ applied_to st r
      by_mark true e = rw (k, e)
      by_mark false e = rw (k, e)

  pub applied_drop : kind r ≡ 8 → emptied judged ≡ applied_to st r
  unfolding judged_of applied_to chart_after sets reads resets is_pair empties calibrates is_passed fails counts
  applied_drop k = rw k

-- ---- the chart of a mark

module _ (st : State) (r : Record) where
  -- a reading that the table accepts finds room in its chart
  pub chart_room : reading_refusal_of (facts_of st) r ≡ 0 → (chart_of (point_of (mark r)) st).readings < 100000
  unfolding facts_of
  chart_room e = go (point_of (mark r)) (mark_open (facts_of st) r e)
    where
      go : (c : Point) → OpenAt c (facts_of st) → (chart_of c st).readings < 100000
      go at_zero o = o.room
      go at_span o = o.room

  pub chart_sound : ChartSound st.zero → ChartSound st.span → ChartSound (chart_of (point_of (mark r)) st)
  chart_sound z s = if_all (λ (c : Point). ChartSound (chart_of c st)) (eqb (mark r) 0) at_zero at_span (λ t. z) (λ t. s)

-- a state with the same charts refuses no other reading
pub charts_alike : (st j : State) (r : Record) → j.zero ≡ st.zero → j.span ≡ st.span
    → reading_refusal_of (facts_of st) r ≡ 0 → reading_refusal_of (facts_of j) r ≡ 0
unfolding reading_refusal_of facts_of
charts_alike st j r z s = go (point_of (mark r))
  where
    asked : Point → State → ℕ
    asked c t = chart_refusal_of (facts_at c (facts_of t)).started (facts_at c (facts_of t)).readings

    go : (c : Point) → asked c st ≡ 0 → asked c j ≡ 0
    go at_zero e = rw z e
    go at_span e = rw s e

-- ---- a closing, by its mark

module _ (j : State) (r : Record) (x : State) where
  pub calibration_by : (mark r ≡ 1 → x ≡ with_function (emptied j) (function_of r)) → ((mark r ≡ 1 → ⊥) → x ≡ with_failure j (minute r)) → x ≡ with_calibration j r
  unfolding with_calibration
  calibration_by p f =
      if_all (λ (s : State). x ≡ s) (eqb (mark r) 1) (with_function (emptied j) (function_of r)) (with_failure j (minute r)) (λ t. p (eqb_yes t)) (λ t. f (eqb_no t))

  pub annual_by : (mark r ≡ 3 → x ≡ with_period (emptied j)) → ((mark r ≡ 3 → ⊥) → x ≡ with_failure j (minute r)) → x ≡ with_annual j r
  unfolding with_annual
  annual_by p f =
      if_all (λ (s : State). x ≡ s) (eqb (mark r) 3) (with_period (emptied j)) (with_failure j (minute r)) (λ t. p (eqb_yes t)) (λ t. f (eqb_no t))
