-- What a chart shows after a reset and any readings, newest first: its three sums are those of its terms, and its alarms stand exactly where some run says so.
use Rattle.std.specs.Prelude.{◌≡◌, refl, Bool, true, false, ◌&&◌, List, [], ◌∷◌, ℕ, ◌*◌, ℤ, pos, neg_ℤ, ◌-ℤ◌, ◌*ℤ◌, length}
use Rattle.std.proofs.Common.{ap, add-one, arith}
use Rattle.charts.specs.Integers.{prod, up_neg, dn_neg, ud_eq}
use Rattle.charts.specs.Tests.{Answers, answers_as}
use Rattle.charts.proofs.StandingLaws.{stands_from, run_length, run_some, run_there, run_above}
use Rattle.charts.specs.Sums.{added}
use Rattle.charts.specs.Charts.{rising_term, falling_term, drift_limit, precision_limit, over, alarms_of, blank, reset_of, applied_of}
use Rattle.charts.specs.Runs.{Alarm, rising, falling, precision, RunOver, drift_term, terms, limit_of, Stands}
use Rattle.charts.specs.Readings.{Reading, differences, after_readings, sum_of, alarm_of, Charted}
use Rattle.charts.specs.RunLaws.{summed, Shows, shows, over_answers}
use Rattle.charts.specs.declared.Sum.{Sum}
use Rattle.charts.specs.declared.Chart.{Chart}

pub reset_charted : (s : ℕ) (c : Chart) → Charted s [] (reset_of c)
unfolding reset_of summed
reset_charted s c = record { started = refl; readings = refl; last = refl; sums = nothing }
  where
    nothing : (a : Alarm) → sum_of a (reset_of c) ≡ summed (terms a s [])
    nothing rising = refl
    nothing falling = refl
    nothing precision = refl

-- the chart's term for a falling drift is that for a rising one with the sign turned
turned : (s : ℕ) (d : ℤ) → falling_term s d ≡ drift_term s (neg_ℤ d)
turned s d =
    let e : neg_ℤ (pos 1000 *ℤ d) ≡ pos 1000 *ℤ neg_ℤ d =
    ud_eq (omega (arith, prod (pos 1000) d, prod (pos 1000) (neg_ℤ d), up_neg d, dn_neg d, up_neg (pos 1000 *ℤ d), dn_neg (pos 1000 *ℤ d))) in
    ap (λ (z : ℤ). z -ℤ pos (501 * s)) e

pub applied_charted : (s e : ℕ) (ds : List ℤ) (c : Chart) (d : ℤ) → Charted s ds c → Charted s (d ∷ ds) (applied_of c e s d)
unfolding applied_of summed
applied_charted s e ds c d C = record { started = C.started; readings = rw C.readings (add-one (length ds)); last = refl; sums = more }
  where
    more : (a : Alarm) → sum_of a (applied_of c e s d) ≡ summed (terms a s (d ∷ ds))
    more rising = ap (λ (u : Sum). added u (rising_term s d)) (C.sums rising)
    more falling = rw (C.sums falling, turned s d)
    more precision = rw (C.last, C.sums precision)

pub charted : (s : ℕ) (c : Chart) (rs : List Reading) → Charted s (differences rs) (after_readings s (reset_of c) rs)
unfolding after_readings
charted s c [] = reset_charted s c
charted s c (r ∷ rs) = applied_charted s r.edition (differences rs) (after_readings s (reset_of c) rs) r.difference (charted s c rs)

-- each sum and its count, where above 0, name a run, and no run sums higher
pub chart_shows : (a : Alarm) (s : ℕ) (ds : List ℤ) (c : Chart) → Charted s ds c → Shows (sum_of a c) (terms a s ds)
chart_shows a s ds c C = rw (C.sums a) (shows (terms a s ds))

-- an alarm of a started chart is its sum over its limit
shown : (a : Alarm) (s : ℕ) (c : Chart) → c.started ≡ true → alarm_of a (alarms_of c s) ≡ over (limit_of a s) (sum_of a c)
unfolding alarms_of
shown rising s c e = ap (λ (b : Bool). b && over (drift_limit s) c.rising) e
shown falling s c e = ap (λ (b : Bool). b && over (drift_limit s) c.falling) e
shown precision s c e = ap (λ (b : Bool). b && over (precision_limit s) c.precision) e

none_stands : (limit : ℕ) → Answers false (RunOver (pos limit) [])
none_stands limit = record { sure = λ t. absurd t; back = λ r. let k = r.some in let l = r.there in absurd (omega arith) }

-- THE ALARM THEOREM: an alarm stands exactly if some run of its terms sums over its limit
pub alarm_answers : (a : Alarm) (s : ℕ) (ds : List ℤ) (c : Chart) → Charted s ds c → Answers (alarm_of a (alarms_of c s)) (Stands a s ds)
unfolding Stands
alarm_answers a s ds c C =
    rw (shown a s c C.started)
    (answers_as (over_answers (limit_of a s) (sum_of a c) (terms a s ds) (chart_shows a s ds c C))
    (λ r. stands_from a s ds r.n r.some r.there r.above)
    (λ r. record { n = run_length a s ds r; some = run_some a s ds r; there = run_there a s ds r; above = run_above a s ds r }))

-- for a chart that was reset, and then given readings
pub alarms_after : (a : Alarm) (s : ℕ) (c : Chart) (rs : List Reading) → Answers (alarm_of a (alarms_of (after_readings s (reset_of c) rs) s)) (Stands a s (differences rs))
alarms_after a s c rs = alarm_answers a s (differences rs) (after_readings s (reset_of c) rs) (charted s c rs)

-- a chart that was never reset has no readings, so no run and no alarm
pub blank_answers : (a : Alarm) (s : ℕ) → Answers (alarm_of a (alarms_of blank s)) (Stands a s [])
unfolding alarms_of blank Stands
blank_answers rising s = none_stands (limit_of rising s)
blank_answers falling s = none_stands (limit_of falling s)
blank_answers precision s = none_stands (limit_of precision s)
