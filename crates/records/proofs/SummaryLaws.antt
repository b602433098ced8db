-- The summary of a history refuses a record as the history does, and an accepted record makes of it the summary of the longer history.
use Rattle.std.specs.Prelude.{◌≡◌, refl, Bool, not, ◌&&◌, ◌||◌, List, [], ◌∷◌, ◌++◌, map, ℕ, suc, ◌+◌, ◌-◌, ◌≤◌, ◌<◌, ℤ, length, set, replicate, if◌then◌else◌, Some, None}
use Rattle.std.proofs.Math.Path.{sym}
use Rattle.std.proofs.Common.{ap, ◌∙◌, append_assoc, arith, add-one, length-append, take_at, eqb-true}
use Rattle.std.proofs.Math.Bool.{true, false}
use Rattle.std.proofs.Math.Option.{Option, none, some, get_or}
use Rattle.std.proofs.Math.Dec.{eqb}
use Rattle.std.proofs.lemmas.Bool.{false≢true, not-false}
use Rattle.std.proofs.Math.Seq.{set-append_seam}
use Rattle.charts.specs.Tests.{if_yes, if_no, and_both}
use Rattle.charts.specs.Charts.{blank, reset_of, applied_of}
use Rattle.charts.specs.Readings.{Reading, differences, after_readings}
use Rattle.charts.proofs.ChartLaws.{charted}
use Rattle.records.specs.Lists.{those_since}
use Rattle.records.specs.Record.{Record, kind, mark, minute, setting_of, difference_of, waiting_of}
use Rattle.records.specs.Kinds.{Point, at_zero, at_span, point_mark, reads, resets, sets, is_pair, fails, empties, clears_demands, deviation_of, Demand}
use Rattle.records.specs.Table.{Facts, misplaced_of, reading_refusal_of, refusal_in}
use Rattle.records.proofs.TableLaws.{Accepted, accepted, reading_passed, pair_passed, chart_marked, pair_passes}
use Rattle.records.specs.History.{Entry, History, on, begun_in, last_minute, setting_in, started_in, readings_since, differences_in, waiting_in, function_in, tally_in, judged_on, weeks_over, week_demands, demands_in, oldest, first_demand, facts_in, refusal_of}
use Rattle.records.specs.State.{no_pair, no_pairs, initial_of, facts_of, chart_after, judged_at, running_at, raised_of, applied_to}
use Rattle.records.specs.WeekLaws.{Ordered, tally_step}
use Rattle.records.specs.Summary.{Taken, reading_of, chart_in, padded, demand_of, Position, entry_at, summary_of}
use Rattle.records.specs.declared.state.Waiting.{Waiting}

-- ---- what acceptance tells of the record

module _ (h : History) (x : Entry) (e : refusal_of h x ≡ 0) where
  abbrev r : Record
  r = x.bytes

  abbrev f : Facts
  f = facts_in x.edition h

  told : Accepted f r
  told = accepted f r e

  -- it is not earlier than the last
  pub in_order : last_minute h ≤ minute r
  unfolding facts_in
  in_order = told.since

  -- a setting comes first, and only first
  pub set_first : begun_in h ≡ true → sets r ≡ false
  unfolding misplaced_of facts_in
  set_first b = sym (if_yes (begun_in h) (sets r) (not (sets r)) b) ∙ told.placed

  pub first_sets : begun_in h ≡ false → sets r ≡ true
  unfolding misplaced_of facts_in
  first_sets b = not-false (sets r) (sym (if_no (begun_in h) (sets r) (not (sets r)) b) ∙ told.placed)

  -- a reading is of a started chart
  pub read_started : (c : Point) → reads c r ≡ true → started_in c h ≡ true
  unfolding reads facts_in
  read_started c b =
      let p = and_both (eqb (kind r) 2) (eqb (mark r) (point_mark c)) b in
      by c (reading_passed f r told (eqb-true (kind r) 2 p.0)) (eqb-true (mark r) (point_mark c) p.1)
    where
      by : (c : Point) → reading_refusal_of f r ≡ 0 → mark r ≡ point_mark c → started_in c h ≡ true
      by at_zero e m = (chart_marked f r e at_zero m).started
      by at_span e m = (chart_marked f r e at_span m).started

  -- a pair finds a place
  pub pair_fits : is_pair r ≡ true → length (waiting_in h) < 30
  unfolding is_pair facts_in
  pair_fits b = (pair_passes f r (pair_passed f r told (eqb-true (kind r) 4 b))).room

pub ordered : (h : History) → Taken h → Ordered h
ordered [] t = tt
ordered (r ∷ h) t = (in_order h r t.0, ordered h t.1)

-- ---- what the summary tells the table

-- the differences of readings are those of their records
pub differences_of : (l : List Entry) → differences (map reading_of l) ≡ map (on difference_of) l
differences_of [] = refl
differences_of (e ∷ l) = ap (λ (ds : List ℤ). difference_of e.bytes ∷ ds) (differences_of l)

-- a chart shows whether it was reset, and how many readings it has since
chart_started : (c : Point) (h : History) → (chart_in c h).started ≡ started_in c h
unfolding chart_in blank
chart_started c h = go (started_in c h)
  where
    rs : List Reading
    rs = map reading_of (readings_since c h)

    go : (b : Bool) → (if b then after_readings (deviation_of c (setting_in h)) (reset_of blank) rs else blank).started ≡ b
    go true = (charted (deviation_of c (setting_in h)) blank rs).started
    go false = refl

chart_readings : (c : Point) (h : History) → (chart_in c h).readings ≡ length (differences_in c h)
unfolding chart_in blank differences_in
chart_readings c h = go (started_in c h)
  where
    rs : List Reading
    rs = map reading_of (readings_since c h)

    go : (b : Bool) → (if b then after_readings (deviation_of c (setting_in h)) (reset_of blank) rs else blank).readings ≡ length (if b then map (on difference_of) (readings_since c h) else [])
    go true = (charted (deviation_of c (setting_in h)) blank rs).readings ∙ ap length (differences_of (readings_since c h))
    go false = refl

facts_same : (p : Position) (h : History) → facts_of (summary_of p h) ≡ facts_in p.edition h
unfolding facts_of facts_in summary_of
facts_same p h =
    rw (
      chart_started at_zero h,
      chart_readings at_zero h,
      chart_started at_span h,
      chart_readings at_span h,
      take_at (waiting_in h) (replicate (30 - length (waiting_in h)) no_pair) (length (waiting_in h)) refl,
    )

-- THE FIRST HALF: the summary refuses a record as the history does in a block of the place's edition
pub refuses_alike : (p : Position) (h : History) (r : Record) → refusal_in (facts_of (summary_of p h)) r ≡ refusal_of h (entry_at p r)
refuses_alike p h r = ap (λ (f : Facts). refusal_in f r) (facts_same p h)

-- ---- what an accepted record does to each field

setting_kept : (h : History) (r : Entry) → refusal_of h r ≡ 0 → begun_in h ≡ true → setting_in (r ∷ h) ≡ setting_in h
unfolding setting_in
setting_kept h r e b = if_no (sets r.bytes) (setting_of r.bytes) (setting_in h) (set_first h r e b)

-- a setting is no reading and no reset
other_kind : (k a b : ℕ) (c : Bool) → eqb k a ≡ true → eqb a b ≡ false → eqb k b && c ≡ false
other_kind k a b c e n = rw (eqb-true k a e, n)

unread : (c : Point) (r : Record) → sets r ≡ true → reads c r ≡ false
unfolding sets reads
unread c r s = other_kind (kind r) 1 2 (eqb (mark r) (point_mark c)) s refl

unreset : (c : Point) (r : Record) → sets r ≡ true → resets c r ≡ false
unfolding sets resets
unreset c r s = other_kind (kind r) 1 3 (eqb (mark r) (point_mark c)) s refl

chart_step : (c : Point) (h : History) (r : Entry) → refusal_of h r ≡ 0 → chart_after r.edition c (setting_in h) r.bytes (chart_in c h) ≡ chart_in c (r ∷ h)
unfolding chart_after chart_in after_readings reset_of
chart_step c [] r e =
    let s = first_sets [] r e refl in
    rw (unread c r.bytes s, unreset c r.bytes s)
chart_step c (q ∷ h) r e =
    rw (setting_kept (q ∷ h) r e refl, those_since (on (reads c)) (on (resets c)) r (q ∷ h)) (go (resets c r.bytes) (reads c r.bytes) (started_in c (q ∷ h)) (read_started (q ∷ h) r e c))
  where
    l : List Entry
    l = readings_since c (q ∷ h)

    s : ℕ
    s = deviation_of c (setting_in (q ∷ h))

    go : (a b t : Bool) → (b ≡ true → t ≡ true)
        → (if a then reset_of (if t then after_readings s (reset_of blank) (map reading_of l) else blank)
        else (if b then applied_of (if t then after_readings s (reset_of blank) (map reading_of l) else blank) r.edition s (difference_of r.bytes)
        else (if t then after_readings s (reset_of blank) (map reading_of l) else blank)))
        ≡ (if (if a then true else t) then after_readings s (reset_of blank) (map reading_of (if a then [] else (if b then r ∷ l else l))) else blank)
    go true b t f = refl
    go false true true f = refl
    go false true false f = absurd (false≢true (f refl))
    go false false true f = refl
    go false false false f = refl

-- ---- the pairs

-- one pair more in its place
pad_one : (ws : List Waiting) (w : Waiting) → length ws < 30 → set (padded ws) (length ws) w ≡ padded (ws ++ (w ∷ []))
pad_one ws w l =
    let e : 30 - length ws ≡ suc (30 - (length ws + 1)) = omega arith in
    rw (e, length-append ws (w ∷ []))
    (set-append_seam ws no_pair (replicate (30 - (length ws + 1)) no_pair) w ∙ sym (append_assoc ws (w ∷ []) (replicate (30 - (length ws + 1)) no_pair)))

waiting_step : (h : History) (r : Entry)
    → (if empties r.bytes then 0 else (if is_pair r.bytes then length (waiting_in h) + 1 else length (waiting_in h))) ≡ length (waiting_in (r ∷ h))
unfolding waiting_in
waiting_step h r = go (empties r.bytes) (is_pair r.bytes)
  where
    go : (a b : Bool) → (if a then 0 else (if b then length (waiting_in h) + 1 else length (waiting_in h))) ≡ length (if a then [] else (if b then waiting_in h ++ (waiting_of r.bytes ∷ []) else waiting_in h))
    go true b = refl
    go false true = sym (length-append (waiting_in h) (waiting_of r.bytes ∷ []))
    go false false = refl

pairs_step : (h : History) (r : Entry) → refusal_of h r ≡ 0
    → (if empties r.bytes then no_pairs else (if is_pair r.bytes then set (padded (waiting_in h)) (length (waiting_in h)) (waiting_of r.bytes) else padded (waiting_in h))) ≡ padded (waiting_in (r ∷ h))
unfolding waiting_in no_pairs
pairs_step h r e = go (empties r.bytes) (is_pair r.bytes) (pair_fits h r e)
  where
    go : (a b : Bool) → (b ≡ true → length (waiting_in h) < 30)
        → (if a then replicate 30 no_pair else (if b then set (padded (waiting_in h)) (length (waiting_in h)) (waiting_of r.bytes) else padded (waiting_in h)))
        ≡ padded (if a then [] else (if b then waiting_in h ++ (waiting_of r.bytes ∷ []) else waiting_in h))
    go true b f = refl
    go false true f = pad_one (waiting_in h) (waiting_of r.bytes) (f refl)
    go false false f = refl

-- ---- the calls

raised_first : (ms : List ℕ) (m : ℕ) → demand_of (oldest (m ∷ ms)) ≡ raised_of (demand_of (oldest ms)) m
unfolding raised_of
raised_first ms m = go (oldest ms)
  where
    go : (o : Option ℕ) → demand_of (some (get_or o m)) ≡ raised_of (demand_of o) m
    go none = refl
    go (some x) = refl

raised_twice : (d : Demand) (m : ℕ) → raised_of (raised_of d m) m ≡ raised_of d m
unfolding raised_of
raised_twice None m = refl
raised_twice (Some x) m = refl

demand_step : (h : History) (r : Entry)
    → (if clears_demands r.bytes then None else (if fails r.bytes || week_demands h r then raised_of (demand_of (first_demand h)) (minute r.bytes) else demand_of (first_demand h))) ≡ demand_of (first_demand (r ∷ h))
unfolding first_demand demands_in
demand_step h r = go (clears_demands r.bytes) (fails r.bytes) (week_demands h r)
  where
    m : ℕ
    m = minute r.bytes

    ms : List ℕ
    ms = demands_in h

    go : (a b w : Bool)
        → (if a then None else (if b || w then raised_of (demand_of (oldest ms)) m else demand_of (oldest ms)))
        ≡ demand_of (oldest (if a then [] else (if b then m ∷ [] else []) ++ (if w then m ∷ [] else []) ++ ms))
    go true b w = refl
    go false true true = sym (raised_first (m ∷ ms) m ∙ ap (λ (d : Demand). raised_of d m) (raised_first ms m) ∙ raised_twice (demand_of (oldest ms)) m)
    go false true false = sym (raised_first ms m)
    go false false true = sym (raised_first ms m)
    go false false false = refl

-- ---- all fields at once

-- THE SECOND HALF: where a record of the open block is accepted, the state after it is the summary of the longer history. A field whose history recurs as the
-- state steps has no law of its own.
pub summary_after : (p : Position) (h : History) → Taken h → (r : Record) → refusal_of h (entry_at p r) ≡ 0
    → applied_to (summary_of p h) r ≡ summary_of p (entry_at p r ∷ h)
unfolding applied_to summary_of judged_at judged_on running_at weeks_over week_demands setting_in function_in
summary_after p h t r e =
    let x = entry_at p r in
    rw (
      chart_step at_zero h x e,
      chart_step at_span h x e,
      waiting_step h x,
      pairs_step h x e,
      tally_step x h (in_order h x e, ordered h t),
      demand_step h x,
    )
    (simp add-one)

-- a fresh state is the summary of no record
pub summary_none : (analyser : ℕ) → initial_of analyser ≡ summary_of (record { analyser = analyser; next = 0; edition = 0 }) []
unfolding initial_of summary_of no_pairs setting_in chart_in waiting_in function_in tally_in weeks_over first_demand demands_in
summary_none analyser = refl
