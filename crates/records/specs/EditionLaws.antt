-- Paper 02, C-13: what the records say whatever the editions of their blocks are: the setting, differences and alarms,
-- the pairs that wait, the function in force, how many of a week's values count, and, of a next record with its own
-- edition, which row refuses it and whether it is a value outside. Not among these are adjustments, the number of
-- values outside, and what follows from that number: weeks over 5 %, calls, usable. They go by the editions of the
-- records behind them.
use Rattle.std.specs.Prelude.{◌≡◌, refl, Bool, true, false, List, [], ◌∷◌, ◌++◌, map, ℕ, ◌+◌, if◌then◌else◌}
use Rattle.std.proofs.Common.{sym, ap, ◌∙◌}
use Rattle.charts.specs.Runs.{Alarm}
use Rattle.records.specs.Lists.{since, those, any, those_since}
use Rattle.records.specs.Record.{Record, difference_of, waiting_of}
use Rattle.records.specs.Kinds.{Point, at_zero, at_span, reads, resets, is_pair, empties, starts_period, setting_after, calibration_after, no_values, one_more}
use Rattle.records.specs.Table.{Facts, refusal_in}
use Rattle.records.specs.History.{Entry, History, on, setting_in, last_minute, started_in, differences_in, AlarmStands, waiting_in, function_in, value_of_week, outside_when, tally_in, begun_in, facts_in, refusal_of}
use Rattle.records.specs.declared.state.Waiting.{Waiting}
use Rattle.records.specs.declared.state.Tally.{Tally}

-- the records of a history without their editions
abbrev pub without_editions : History → List Record
without_editions h = map (λ (r : Entry). r.bytes) h

-- what two histories have in common: the setting and the last minute, the differences and the alarms at each chart,
-- the pairs that wait, the function in force and how many values of each week count; and of a next record, by which
-- row it is refused and whether it is a value outside
pub record Alike (h k : History) : Type 0 where
  pub setting : setting_in h ≡ setting_in k
  pub minute : last_minute h ≡ last_minute k
  pub started : (c : Point) → started_in c h ≡ started_in c k
  pub differences : (c : Point) → differences_in c h ≡ differences_in c k
  pub alarms : (c : Point) (a : Alarm)
      → (AlarmStands c a h → AlarmStands c a k) × (AlarmStands c a k → AlarmStands c a h)
  pub waiting : waiting_in h ≡ waiting_in k
  pub function : function_in h ≡ function_in k
  pub total : (w : ℕ) → (tally_in w h).total ≡ (tally_in w k).total
  pub refusal : (r : Entry) → refusal_of h r ≡ refusal_of k r
  pub outside : (r : Entry) → outside_when h r ≡ outside_when k r

-- ---- each is the same where all editions are made 0

abbrev entries : List Record → History
entries rs = map (λ (r : Record). record { edition = 0; bytes = r }) rs

abbrev plain : History → History
plain h = entries (without_editions h)

plain_setting : (h : History) → setting_in h ≡ setting_in (plain h)
unfolding setting_in
plain_setting [] = refl
plain_setting (r ∷ h) = ap (setting_after r.bytes) (plain_setting h)

plain_minute : (h : History) → last_minute h ≡ last_minute (plain h)
plain_minute [] = refl
plain_minute (r ∷ h) = refl

plain_any : (p : Record → Bool) (h : History) → any (on p) h ≡ any (on p) (plain h)
plain_any p [] = refl
plain_any p (r ∷ h) = ap (λ (t : Bool). if p r.bytes then true else t) (plain_any p h)

-- the readings since a reset
plain_those : {B : Type 0} (f : Record → B) (p q : Record → Bool) (h : History)
    → map (on f) (those (on p) (since (on q) h)) ≡ map (on f) (those (on p) (since (on q) (plain h)))
plain_those f p q [] = refl
plain_those f p q (r ∷ h) =
    ap (map (on f)) (those_since (on p) (on q) r h)
    ∙ go (q r.bytes) (p r.bytes) (plain_those f p q h)
    ∙ sym (ap (map (on f)) (those_since (on p) (on q) s (plain h)))
  where
    s : Entry
    s = record { edition = 0; bytes = r.bytes }

    old : History
    old = those (on p) (since (on q) h)

    new : History
    new = those (on p) (since (on q) (plain h))

    go : (a b : Bool) → map (on f) old ≡ map (on f) new
        → map (on f) (if a then [] else (if b then r ∷ old else old))
        ≡ map (on f) (if a then [] else (if b then s ∷ new else new))
    go true b e = refl
    go false true e = ap (λ l. f r.bytes ∷ l) e
    go false false e = e

plain_differences : (c : Point) (h : History) → differences_in c h ≡ differences_in c (plain h)
unfolding differences_in
plain_differences c h = rw (sym (plain_any (resets c) h), sym (plain_those difference_of (reads c) (resets c) h))

plain_waiting : (h : History) → waiting_in h ≡ waiting_in (plain h)
unfolding waiting_in
plain_waiting [] = refl
plain_waiting (r ∷ h) =
    ap (λ (ws : List Waiting).
    if empties r.bytes then [] else (if is_pair r.bytes then ws ++ (waiting_of r.bytes ∷ []) else ws))
    (plain_waiting h)

plain_function : (h : History) → function_in h ≡ function_in (plain h)
unfolding function_in
plain_function [] = refl
plain_function (r ∷ h) = ap (calibration_after r.bytes) (plain_function h)

plain_begun : (h : History) → begun_in h ≡ begun_in (plain h)
plain_begun [] = refl
plain_begun (r ∷ h) = refl

plain_total : (w : ℕ) (h : History) → (tally_in w h).total ≡ (tally_in w (plain h)).total
unfolding tally_in one_more
plain_total w [] = refl
plain_total w (r ∷ h) = go (starts_period r.bytes) (value_of_week w r) (plain_total w h)
  where
    s : Entry
    s = record { edition = 0; bytes = r.bytes }

    old : Tally
    old = tally_in w h

    new : Tally
    new = tally_in w (plain h)

    go : (a b : Bool) → old.total ≡ new.total
        → (if a then no_values else (if b then one_more (outside_when h r) old else old)).total
        ≡ (if a then no_values else (if b then one_more (outside_when (plain h) s) new else new)).total
    go true b e = refl
    go false true e = ap (λ (n : ℕ). n + 1) e
    go false false e = e

plain_facts : (e : ℕ) (h : History) → facts_in e h ≡ facts_in e (plain h)
unfolding facts_in
plain_facts e h =
    rw (
      sym (plain_begun h),
      sym (plain_minute h),
      sym (plain_setting h),
      sym (plain_any (resets at_zero) h),
      sym (plain_differences at_zero h),
      sym (plain_any (resets at_span) h),
      sym (plain_differences at_span h),
      sym (plain_waiting h),
      sym (plain_function h),
    )

-- STRAIGHT THROUGH: of the same records, whatever their editions
pub straight_through : (h k : History) → without_editions h ≡ without_editions k → Alike h k
straight_through h k e = record {
  setting = setting;
  minute = by last_minute plain_minute;
  started = started;
  differences = differences;
  alarms = λ c a. (rw (setting, differences c) (λ x. x), rw (setting, differences c) (λ x. x));
  waiting = by waiting_in plain_waiting;
  function = function;
  total = λ w. by (λ (h : History). (tally_in w h).total) (plain_total w);
  refusal = λ r. ap (λ (f : Facts). refusal_in f r.bytes) (by (facts_in r.edition) (plain_facts r.edition));
  outside = λ r. rw (function, setting);
}
  where
    by : {B : Type 0} (f : History → B) → ((h : History) → f h ≡ f (plain h)) → f h ≡ f k
    by f p = p h ∙ ap (λ (rs : List Record). f (entries rs)) e ∙ sym (p k)

    setting : setting_in h ≡ setting_in k
    setting = by setting_in plain_setting

    function : function_in h ≡ function_in k
    function = by function_in plain_function

    started : (c : Point) → started_in c h ≡ started_in c k
    started c = by (started_in c) (plain_any (resets c))

    differences : (c : Point) → differences_in c h ≡ differences_in c k
    differences c = by (differences_in c) (plain_differences c)
