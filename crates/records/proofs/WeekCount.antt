-- The weeks over 5 percent, read a second way: week by week through the calendar, and a week that ends raises a call by that count. Of a history whose
-- minutes never fall, as those of accepted records never do, both readings say the same.
use Rattle.std.specs.Prelude.{◌≡◌, refl, Bool, true, false, not, ◌&&◌, ◌||◌, List, [], ◌∷◌, ◌++◌, ℕ, zero, suc, ◌<◌, ◌≤◌, eqb, ltb, T, if◌then◌else◌}
use Rattle.std.proofs.Common.{sym, ap, ◌∙◌, arith, add-one, ltb→lt, nltb→le, eqb→eq}
use Rattle.records.specs.Kinds.{calibrates, is_passed, fails, starts_period, counts, no_values, one_more, exceeds_of, raises_demand_of}
use Rattle.records.specs.Record.{minute}
use Rattle.records.specs.History.{Entry, History, own_week, last_week, outside_when, tally_in, turns, judged_on, weeks_over, week_demands, value_of_week, demands_in}
use Rattle.records.specs.Summary.{Taken}
use Rattle.records.specs.WeekLaws.{Ordered, none_later}
use Rattle.records.proofs.SummaryLaws.{ordered}

-- week w of the period is over a number of percent
abbrev pub week_exceeds : ℕ → History → ℕ → Bool
week_exceeds percent h w = exceeds_of percent (tally_in w h)

-- how many weeks before week n the test p holds of
abbrev pub weeks_below : (ℕ → Bool) → ℕ → ℕ
weeks_below p zero = 0
weeks_below p (suc n) = if p n then suc (weeks_below p n) else weeks_below p n

-- how many weeks of the period, before the last record's, are over 5 percent
unfoldable pub weeks_counted : History → ℕ
weeks_counted h = weeks_below (week_exceeds 5 h) (last_week h)

-- ---- what a record does to the count

below_same : (p q : ℕ → Bool) (n : ℕ) → ((w : ℕ) → w < n → p w ≡ q w) → weeks_below p n ≡ weeks_below q n
below_same p q zero f = refl
below_same p q (suc n) f = rw (f n (omega arith), below_same p q n (λ w l. f w (omega arith)))

below_none : (p : ℕ → Bool) (m n : ℕ) → m ≤ n → ((w : ℕ) → m ≤ w → p w ≡ false) → weeks_below p n ≡ weeks_below p m
below_none p m zero l f = let e : m ≡ 0 = omega arith in rw e
below_none p m (suc n) l f = go (ltb m (suc n)) (λ t. ltb→lt m (suc n) t) (λ t. nltb→le m (suc n) t) (λ l'. below_none p m n l' f)
  where
    go : (b : Bool) → (T b → m < suc n) → (T (not b) → suc n ≤ m) → (m ≤ n → weeks_below p n ≡ weeks_below p m) → weeks_below p (suc n) ≡ weeks_below p m
    go true g k ih = let l' = g tt in rw (f n (omega arith)) (ih (omega arith))
    go false g k ih = let l' = k tt in let e : m ≡ suc n = omega arith in rw e

-- a week after the last is empty
later_empty : (h : History) → Ordered h → (w : ℕ) → last_week h < w → week_exceeds 5 h w ≡ false
unfolding no_values
later_empty h o w l = rw (none_later h o w l)

-- a record changes no week but its own
other_week : (r : Entry) (h : History) (w : ℕ) → w < own_week r → tally_in w (r ∷ h) ≡ (if starts_period r.bytes then no_values else tally_in w h)
unfolding tally_in
other_week r h w l = go (counts r.bytes) (eqb (own_week r) w) (λ t. eqb→eq (own_week r) w t)
  where
    go : (b c : Bool) → (T c → own_week r ≡ w)
        → (if starts_period r.bytes then no_values else (if b && c then one_more (outside_when h r) (tally_in w h) else tally_in w h)) ≡ (if starts_period r.bytes then no_values else tally_in w h)
    go true true f = let e = f tt in absurd (omega arith)
    go true false f = refl
    go false c f = refl

exceeds_other : (r : Entry) (h : History) (w : ℕ) → w < own_week r → week_exceeds 5 (r ∷ h) w ≡ (if starts_period r.bytes then false else week_exceeds 5 h w)
unfolding no_values
exceeds_other r h w l = rw (other_week r h w l) (go (starts_period r.bytes))
  where
    go : (b : Bool) → exceeds_of 5 (if b then no_values else tally_in w h) ≡ (if b then false else exceeds_of 5 (tally_in w h))
    go true = refl
    go false = refl

none_over : (n : ℕ) → weeks_below (λ w. false) n ≡ 0
none_over zero = refl
none_over (suc n) = none_over n

-- the weeks before that of r: those before the last week, and that one if r brings a later
turned : (r : Entry) (h : History) → Ordered (r ∷ h)
    → (if turns h r && week_exceeds 5 h (last_week h) then suc (weeks_counted h) else weeks_counted h) ≡ weeks_below (week_exceeds 5 h) (own_week r)
unfolding weeks_counted
turned r h o = go (turns h r) (λ t. ltb→lt (last_week h) (own_week r) t) (λ t. nltb→le (last_week h) (own_week r) t)
  where
    go : (b : Bool) → (T b → last_week h < own_week r) → (T (not b) → own_week r ≤ last_week h)
        → (if b && week_exceeds 5 h (last_week h) then suc (weeks_below (week_exceeds 5 h) (last_week h)) else weeks_below (week_exceeds 5 h) (last_week h))
        ≡ weeks_below (week_exceeds 5 h) (own_week r)
    go true f g = sym (below_none (week_exceeds 5 h) (suc (last_week h)) (own_week r) (f tt) (later_empty h o.1))
    go false f g =
        let l = g tt in
        let e : last_week h ≡ own_week r = omega (arith, o.0) in
        ap (weeks_below (week_exceeds 5 h)) e

weeks_step : (r : Entry) (h : History) → Ordered (r ∷ h)
    → weeks_counted (r ∷ h) ≡ (if starts_period r.bytes then 0 else (if turns h r && week_exceeds 5 h (last_week h) then suc (weeks_counted h) else weeks_counted h))
unfolding weeks_counted
weeks_step r h o = go (starts_period r.bytes) (exceeds_other r h)
  where
    go : (b : Bool) → ((w : ℕ) → w < own_week r → week_exceeds 5 (r ∷ h) w ≡ (if b then false else week_exceeds 5 h w))
        → weeks_below (week_exceeds 5 (r ∷ h)) (own_week r) ≡ (if b then 0 else (if turns h r && week_exceeds 5 h (last_week h) then suc (weeks_counted h) else weeks_counted h))
    go true f = below_same (week_exceeds 5 (r ∷ h)) (λ w. false) (own_week r) f ∙ none_over (own_week r)
    go false f = below_same (week_exceeds 5 (r ∷ h)) (week_exceeds 5 h) (own_week r) f ∙ sym (turned r h o)

-- ---- the two readings are one

judged_exceeds : (percent : ℕ) → exceeds_of percent no_values ≡ false → (h : History) (r : Entry) → exceeds_of percent (judged_on h r) ≡ (turns h r && week_exceeds percent h (last_week h))
unfolding judged_on
judged_exceeds percent none h r = go (turns h r)
  where
    go : (b : Bool) → exceeds_of percent (if b then tally_in (last_week h) h else no_values) ≡ (b && week_exceeds percent h (last_week h))
    go true = refl
    go false = none

pub same_weeks : (h : History) → Ordered h → weeks_over h ≡ weeks_counted h
unfolding weeks_over weeks_counted no_values
same_weeks [] o = refl
same_weeks (r ∷ h) o = rw (judged_exceeds 5 refl h r, same_weeks h o.1) (sym (weeks_step r h o))

-- r is of a later week, and by the calendar the last record's week calls: over 40 percent, or the sixth of its period over 5 percent
abbrev pub demands_counted : History → Entry → Bool
demands_counted h r = turns h r && (week_exceeds 40 h (last_week h) || week_exceeds 5 h (last_week h) && eqb (weeks_counted h) 5)

pub same_demands : (h : History) (r : Entry) → Ordered h → week_demands h r ≡ demands_counted h r
unfolding week_demands raises_demand_of no_values
same_demands h r o = rw (judged_exceeds 40 refl h r, judged_exceeds 5 refl h r, same_weeks h o) (go (turns h r))
  where
    a : Bool
    a = week_exceeds 40 h (last_week h)

    b : Bool
    b = week_exceeds 5 h (last_week h)

    go : (t : Bool) → (t && a) || (t && b) && eqb (weeks_counted h) 5 ≡ t && (a || b && eqb (weeks_counted h) 5)
    go true = refl
    go false = refl

-- so of every list of accepted records
pub taken_weeks : (h : History) → Taken h → weeks_over h ≡ weeks_counted h
taken_weeks h t = same_weeks h (ordered h t)

pub taken_demands : (h : History) (r : Entry) → Taken h → week_demands h r ≡ demands_counted h r
taken_demands h r t = same_demands h r (ordered h t)

-- ---- the values of a week, counted apart

-- of how many records of the period p holds; p may look at the records before
abbrev pub count_in : (History → Entry → Bool) → History → ℕ
count_in p [] = 0
count_in p (r ∷ h) = if is_passed r.bytes then 0 else (if p h r then suc (count_in p h) else count_in p h)

abbrev pub of_week : ℕ → History → Entry → Bool
of_week w h r = value_of_week w r

abbrev pub outside_of_week : ℕ → History → Entry → Bool
outside_of_week w h r = value_of_week w r && outside_when h r

pub tally_counted : (w : ℕ) (h : History) → tally_in w h ≡ record { total = count_in (of_week w) h; outside = count_in (outside_of_week w) h }
unfolding tally_in no_values one_more
tally_counted w [] = refl
tally_counted w (r ∷ h) = go (starts_period r.bytes) (value_of_week w r) (outside_when h r) (tally_counted w h)
  where
    n : ℕ
    n = count_in (of_week w) h

    m : ℕ
    m = count_in (outside_of_week w) h

    go : (a b c : Bool) → tally_in w h ≡ record { total = n; outside = m }
        → (if a then no_values else (if b then one_more c (tally_in w h) else tally_in w h))
        ≡ record { total = if a then 0 else (if b then suc n else n); outside = if a then 0 else (if b && c then suc m else m) }
    go true b c e = refl
    go false true true e = rw (e, add-one, add-one) refl
    go false true false e = rw (e, add-one) refl
    go false false c e = e

-- ---- the minutes of the demands, with those of weeks by the calendar

abbrev pub called_at : Bool → ℕ → List ℕ
called_at b m = if b then m ∷ [] else []

unfoldable pub demands_by_calendar : History → List ℕ
demands_by_calendar [] = []
demands_by_calendar (r ∷ h) =
    if calibrates r.bytes then []
    else called_at (fails r.bytes) (minute r.bytes) ++ called_at (demands_counted h r) (minute r.bytes) ++ demands_by_calendar h

pub same_list : (h : History) → Ordered h → demands_in h ≡ demands_by_calendar h
unfolding demands_in demands_by_calendar
same_list [] o = refl
same_list (r ∷ h) o = rw (same_demands h r o.1, same_list h o.1) refl

pub taken_list : (h : History) → Taken h → demands_in h ≡ demands_by_calendar h
taken_list h t = same_list h (ordered h t)
