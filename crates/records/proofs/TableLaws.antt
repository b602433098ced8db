-- What the table says of a record that it does not refuse.
use Rattle.std.specs.Prelude.{◌≡◌, refl, Bool, true, false, not, ◌&&◌, List, map, ℕ, ◌-◌, ◌*◌, ◌≤◌, ◌<◌, leb, ltb, eqb, ℤ, pos, length, if◌then◌else◌}
use Rattle.std.proofs.Common.{sym, ap, ◌∙◌, arith, subst}
use Rattle.std.proofs.lemmas.Bool.{and_parts, or_parts, leb-false, leb-true, ltb-false, not-false}
use Rattle.std.proofs.lemmas.List.{length-map}
use Rattle.std.specs.Int.Signed.{le_z}
use Rattle.refusals.proofs.RowLaws.{row_passed, rows_passed, unfit}
use Rattle.charts.specs.Tests.{if_all, sure_of}
use Rattle.calibration.specs.Calibration.{count_fits_of, divisor_of, fit_from_of, fit_of, flat_of, line_fits_of, refused_fit, slope_of, slope_ranged_of, some_beyond, sums_of}
use Rattle.calibration.specs.Outcomes.{Fitted}
use Rattle.calibration.specs.declared.line.Line.{Line}
use Rattle.calibration.specs.declared.pairs.Pair.{Pair}
use Rattle.calibration.specs.declared.pairs.Requirements.{Requirements}
use Rattle.records.specs.Record.{Record, kind, mark, minute, minute_limit, formed_of, ranged_of, field_of, long_field_of, length_of, coverage_of, z_of, function_of}
use Rattle.records.specs.Kinds.{Point, at_zero, at_span, point_mark, point_of, response_of, line_of}
use Rattle.records.proofs.SignedLaws.{same_is}
use Rattle.records.specs.Table.{Facts, facts_at, misplaced_of, untimely_of, chart_refusal_of, reading_refusal_of, last_of, follows, times_fit_of, pair_refusal_of, days_fit_of, pair_of_waiting, calibration_of, sameℤ, pass_mark_of, stores_fit_of, calibration_refusal_of, kind_refusal_of, refusal_in}

-- ---- the rows of every record

pub record Accepted (f : Facts) (r : Record) : Type 0 where
  pub formed : formed_of r ≡ true
  pub placed : misplaced_of f r ≡ false
  pub timely : untimely_of f (minute r) ≡ false
  pub since : f.minute ≤ minute r
  pub until : minute r ≤ minute_limit
  pub ranged : ranged_of r ≡ true
  pub passed : kind_refusal_of f r ≡ 0

pub accepted : (f : Facts) (r : Record) → refusal_in f r ≡ 0 → Accepted f r
unfolding refusal_in untimely_of
accepted f r e =
    let a = row_passed 10 (not (formed_of r)) tt e in
    let b = row_passed 11 (misplaced_of f r) tt a.1 in
    let c = row_passed 12 (untimely_of f (minute r)) tt b.1 in
    let d = row_passed 13 (not (ranged_of r)) tt c.1 in
    let t = or_parts (ltb (minute r) f.minute) (ltb minute_limit (minute r)) c.0 in
    record {
      formed = not-false (formed_of r) a.0;
      placed = b.0;
      timely = c.0;
      since = ltb-false (minute r) f.minute t.0;
      until = ltb-false minute_limit (minute r) t.1;
      ranged = not-false (ranged_of r) d.0;
      passed = d.1;
    }

-- ---- the rows of a kind

module _ (f : Facts) (r : Record) (A : Accepted f r) where
  pub reading_passed : kind r ≡ 2 → reading_refusal_of f r ≡ 0
  unfolding kind_refusal_of
  reading_passed k = rw k at A.passed

  pub pair_passed : kind r ≡ 4 → pair_refusal_of f r ≡ 0
  unfolding kind_refusal_of
  pair_passed k = rw k at A.passed

  pub calibration_passed : kind r ≡ 5 → calibration_refusal_of f r ≡ 0
  unfolding kind_refusal_of
  calibration_passed k = rw k at A.passed

-- a chart that takes a reading
pub record Open (b : Bool) (n : ℕ) : Type 0 where
  pub started : b ≡ true
  pub room : n < 100000

chart_open : (started : Bool) (readings : ℕ) → chart_refusal_of started readings ≡ 0 → Open started readings
unfolding chart_refusal_of
chart_open started readings e =
    let a = row_passed 14 (not started) tt e in
    record { started = not-false started a.0; room = leb-false 100000 readings (unfit 15 (leb 100000 readings) tt a.1) }

point_back : (c : Point) → point_of (point_mark c) ≡ c
point_back at_zero = refl
point_back at_span = refl

abbrev pub OpenAt : Point → Facts → Type 0
OpenAt c f = Open (facts_at c f).started (facts_at c f).readings

-- a reading that is not refused finds the chart of its mark open
module _ (f : Facts) (r : Record) (e : reading_refusal_of f r ≡ 0) where
  pub mark_open : OpenAt (point_of (mark r)) f
  unfolding reading_refusal_of
  mark_open = chart_open _ _ e

  pub chart_marked : (c : Point) → mark r ≡ point_mark c → OpenAt c f
  chart_marked c m = subst (λ (d : Point). OpenAt d f) (ap point_of m ∙ point_back c) mark_open

pub record PairPasses (f : Facts) (r : Record) : Type 0 where
  pub room : length f.waiting < 30
  pub times : times_fit_of f r ≡ true
  pub starts : length_of r ≤ minute r
  pub coverage : le_z (coverage_of r) (pos 90) ≡ false

pub pair_passes : (f : Facts) (r : Record) → pair_refusal_of f r ≡ 0 → PairPasses f r
unfolding pair_refusal_of times_fit_of
pair_passes f r e =
    let a = row_passed 18 (leb 30 (length f.waiting)) tt e in
    let b = row_passed 16 (not (times_fit_of f r)) tt a.1 in
    let t = not-false (times_fit_of f r) b.0 in
    let u = and_parts (leb (4 * response_of f.setting) (length_of r)) _ t in
    let v = and_parts (leb (length_of r) (minute r)) (follows (last_of f.waiting) (minute r - length_of r) (length_of r)) u.1 in
    record {
      room = leb-false 30 (length f.waiting) a.0;
      times = t;
      starts = leb-true (length_of r) (minute r) v.0;
      coverage = unfit 17 (le_z (coverage_of r) (pos 90)) tt b.1;
    }

-- ---- closings

-- the fit over the pairs that wait
abbrev pub fit_over : Facts → Record → Fitted
fit_over f r = fit_of f.edition f.setting.requirements (z_of r) (map pair_of_waiting f.waiting)

pub record CalibrationPasses (f : Facts) (r : Record) : Type 0 where
  pub counted : count_fits_of (length f.waiting) ≡ true
  pub days : days_fit_of f.waiting ≡ true
  pub fitted : calibration_of f (z_of r) ≡ fit_over f r
  pub fits : (fit_over f r).refusal ≡ 0
  pub stores : stores_fit_of (fit_over f r) r ≡ true

-- an outcome that a row did not refuse
passed_fit : (b : Bool) (n : ℕ) (x : Fitted) → 0 < n → (if b then refused_fit n else x).refusal ≡ 0 → (b ≡ false) × ((if b then refused_fit n else x) ≡ x)
passed_fit true n x h e = absurd (omega arith)
passed_fit false n x h e = (refl, refl)

pub calibration_passes : (f : Facts) (r : Record) → calibration_refusal_of f r ≡ 0 → CalibrationPasses f r
unfolding calibration_refusal_of calibration_of
calibration_passes f r e =
    let c = calibration_of f (z_of r) in
    let o = rows_passed c.refusal e in
    let s = unfit 25 (not (stores_fit_of c r)) tt o.1 in
    let a = passed_fit (not (count_fits_of (length f.waiting))) 20 (if not (days_fit_of f.waiting) then refused_fit 21 else fit_over f r) (omega arith) o.0 in
    let b = passed_fit (not (days_fit_of f.waiting)) 21 (fit_over f r) (omega arith) (sym (ap (λ (t : Fitted). t.refusal) a.1) ∙ o.0) in
    let g : c ≡ fit_over f r = a.1 ∙ b.1 in
    record {
      counted = not-false (count_fits_of (length f.waiting)) a.0;
      days = not-false (days_fit_of f.waiting) b.0;
      fitted = g;
      fits = sym (ap (λ (t : Fitted). t.refusal) g) ∙ o.0;
      stores = sym (ap (λ (t : Fitted). stores_fit_of t r) g) ∙ not-false (stores_fit_of c r) s;
    }

-- a calibration closing counts no more pairs than wait
abbrev Few : Fitted → Type 0
Few c = c.count ≤ 30

module _ (edition : ℕ) (q : Requirements) (z : ℤ) (ps : List Pair) (h : length ps ≤ 30) where
  few_line : (l : Line) → Few (line_fits_of edition q ps l)
  unfolding line_fits_of
  few_line l = if_all Few (some_beyond edition q.oxygen l ps) _ _ (λ t. omega arith) (λ t. h)

  few_from : Few (fit_from_of edition q z ps (sums_of ps))
  unfolding fit_from_of
  few_from =
      let flat = flat_of edition q ps in
      if_all Few (le_z (divisor_of flat (sums_of ps) z) (pos 0)) _ _ (λ t. omega arith)
      (λ t. if_all Few (not (slope_ranged_of (slope_of edition flat (sums_of ps) z))) _ _ (λ u. omega arith) (λ u. few_line _))

  few_fit : Few (fit_of edition q z ps)
  unfolding fit_of
  few_fit = if_all Few (not (count_fits_of (length ps))) _ _ (λ t. omega arith) (λ t. few_from)

pub calibration_count : (f : Facts) (z : ℤ) → length f.waiting ≤ 30 → (calibration_of f z).count ≤ 30
unfolding calibration_of
calibration_count f z h =
    if_all Few (not (count_fits_of (length f.waiting))) _ _ (λ t. omega arith)
    (λ t. if_all Few (not (days_fit_of f.waiting)) _ _ (λ u. omega arith)
    (λ u. few_fit f.edition f.setting.requirements z (map pair_of_waiting f.waiting) (omega (arith, length-map f.waiting pair_of_waiting))))

-- the stored function is the one worked out
pub stored_line : (c : Fitted) (r : Record) → stores_fit_of c r ≡ true → line_of (function_of r) ≡ c.line
unfolding stores_fit_of line_of function_of
stored_line c r h =
    let marked = eqb (mark r) (pass_mark_of c) && sameℤ (field_of r 12) c.line.slope in
    let rest = sameℤ (field_of r 24) c.top.0 && sameℤ (field_of r 28) (pos c.count) in
    let p = and_parts marked (sameℤ (long_field_of r 16) c.line.intercept && rest) h in
    let b = and_parts (eqb (mark r) (pass_mark_of c)) (sameℤ (field_of r 12) c.line.slope) p.0 in
    let a = and_parts (sameℤ (long_field_of r 16) c.line.intercept) rest p.1 in
    rw (same_is (field_of r 12) c.line.slope (sure_of b.1), same_is (long_field_of r 16) c.line.intercept (sure_of a.0))
