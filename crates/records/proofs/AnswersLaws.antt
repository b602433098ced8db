-- What the summary of a history answers on alarms and usability is what the history says.
use Rattle.std.specs.Prelude.{◌≡◌, refl, Bool, true, false, List, [], map, ℕ, ◌-◌, ◌≤◌, if◌then◌else◌, None, Some}
use Rattle.std.proofs.Common.{arith}
use Rattle.std.proofs.Math.Option.{Option, none, some}
use Rattle.charts.specs.Tests.{Answers, answers_not, answers_and, answers_le, answers_as}
use Rattle.charts.specs.Charts.{blank, reset_of, alarms_of}
use Rattle.charts.specs.Runs.{Alarm, rising, falling, precision, Stands}
use Rattle.charts.specs.Readings.{Reading, after_readings, alarm_of}
use Rattle.charts.proofs.ChartLaws.{alarms_after, blank_answers}
use Rattle.records.specs.Kinds.{Point, at_zero, at_span, deviation_of, Calibration}
use Rattle.records.specs.Record.{difference_of}
use Rattle.records.specs.History.{History, on, last_minute, setting_in, started_in, readings_since, differences_in, function_in, first_demand, AlarmStands, minute_of, Recent, Usable}
use Rattle.records.specs.Summary.{reading_of, chart_in, demand_of, Position, summary_of}
use Rattle.records.proofs.SummaryLaws.{differences_of}
use Rattle.records.specs.Answers.{alarms_at, silent_of, young_of, recent_of, usable_of}

-- the chart of a history shows an alarm exactly if the history has it
chart_answers : (c : Point) (a : Alarm) (h : History) → Answers (alarm_of a (alarms_of (chart_in c h) (deviation_of c (setting_in h)))) (AlarmStands c a h)
unfolding chart_in differences_in
chart_answers c a h = go (started_in c h)
  where
    s : ℕ
    s = deviation_of c (setting_in h)

    rs : List Reading
    rs = map reading_of (readings_since c h)

    go : (b : Bool) → Answers (alarm_of a (alarms_of (if b then after_readings s (reset_of blank) rs else blank) s)) (Stands a s (if b then map (on difference_of) (readings_since c h) else []))
    go true = rw (differences_of (readings_since c h)) at (alarms_after a s blank rs)
    go false = blank_answers a s

-- ALARMS: each of the six, answered from the summary, stands exactly if some run of the history's readings says so
pub alarm_says : (c : Point) (a : Alarm) (p : Position) (h : History) → Answers (alarm_of a (alarms_at c (summary_of p h))) (AlarmStands c a h)
unfolding alarms_at summary_of
alarm_says at_zero a p h = chart_answers at_zero a h
alarm_says at_span a p h = chart_answers at_span a h

silent_says : (c : Point) (p : Position) (h : History) → Answers (silent_of (alarms_at c (summary_of p h))) ((a : Alarm) → ¬ AlarmStands c a h)
silent_says c p h =
    answers_as
    (answers_and (answers_and (answers_not (alarm_says c rising p h)) (answers_not (alarm_says c falling p h))) (answers_not (alarm_says c precision p h)))
    (λ q a. elim a as (λ a. ¬ AlarmStands c a h) [ rising ↦ q.0.0 | falling ↦ q.0.1 | precision ↦ q.1 ])
    (λ f. ((f rising, f falling), f precision))

young_says : (limit m : ℕ) (k : Calibration) → Answers (young_of limit m k) ((f : ℕ) × (minute_of k ≡ some f) × (m - f ≤ limit))
young_says limit m None = record { sure = λ x. absurd x; back = λ p. absurd (nope p.0 p.1) }
  where
    nope : (f : ℕ) → ◌≡◌ {A = Option ℕ} none (some f) → ⊥
    nope f e = let z : ◌≡◌ {A = ℕ} 0 1 = cc in omega arith
young_says limit m (Some g) = answers_as (answers_le (m - g.minute) limit) (λ x. (g.minute, refl, x)) (λ p. same p.0 p.1 p.2)
  where
    same : (f : ℕ) → some g.minute ≡ some f → m - f ≤ limit → m - g.minute ≤ limit
    same f e l = let q : g.minute ≡ f = cc in rw q l

recent_says : (limit m : ℕ) (o : Option ℕ) → Answers (recent_of limit m (demand_of o)) (Recent limit m o)
recent_says limit m none = record { sure = λ x. tt; back = λ x. tt }
recent_says limit m (some f) = answers_le (m - f) limit

-- USABLE, answered from the summary, is the history's
pub usable_says : (p : Position) (h : History) → Answers (usable_of (summary_of p h)) (Usable h)
unfolding usable_of summary_of
usable_says p h =
    answers_as
    (answers_and
    (answers_and (silent_says at_zero p h) (silent_says at_span p h))
    (answers_and (young_says 2629440 (last_minute h) (function_in h)) (recent_says 263520 (last_minute h) (first_demand h))))
    (λ q. record {
      quiet = λ c. elim c as (λ c. (a : Alarm) → ¬ AlarmStands c a h) [ at_zero ↦ q.0.0 | at_span ↦ q.0.1 ];
      from = q.1.0.0;
      in_force = q.1.0.1;
      young = q.1.0.2;
      demanded = q.1.1;
    })
    (λ u. ((u.quiet at_zero, u.quiet at_span), ((u.from, u.in_force, u.young), u.demanded)))
