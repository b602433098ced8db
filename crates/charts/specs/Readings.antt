-- A chart after readings, and what the laws of charts say of it. They are proved in proofs/ChartLaws.
use Rattle.std.specs.Prelude.{◌≡◌, Bool, true, List, [], ◌∷◌, map, ℕ, ℤ, length}
use Rattle.charts.specs.Charts.{applied_of}
use Rattle.charts.specs.Runs.{Alarm, rising, falling, precision, newest, terms}
use Rattle.charts.specs.RunLaws.{summed}
use Rattle.charts.specs.declared.Sum.{Sum}
use Rattle.charts.specs.declared.Chart.{Chart}
use Rattle.charts.specs.declared.Alarms.{Alarms}

-- a reading as a chart takes it: its difference, and the edition of its block, which rounds the adjustments
pub record Reading : Type 0 where
  pub edition : ℕ
  pub difference : ℤ

-- all that the alarms look at
abbrev pub differences : List Reading → List ℤ
differences rs = map (λ (r : Reading). r.difference) rs

-- the chart after readings, newest first
unfoldable pub after_readings : ℕ → Chart → List Reading → Chart
after_readings s c [] = c
after_readings s c (r ∷ rs) = applied_of (after_readings s c rs) r.edition s r.difference

abbrev pub sum_of : Alarm → Chart → Sum
sum_of rising c = c.rising
sum_of falling c = c.falling
sum_of precision c = c.precision

abbrev pub alarm_of : Alarm → Alarms → Bool
alarm_of rising a = a.rising
alarm_of falling a = a.falling
alarm_of precision a = a.precision

-- what the chart is after a reset and these readings; its adjustments follow from its sums
pub record Charted (s : ℕ) (ds : List ℤ) (c : Chart) : Type 0 where
  pub started : c.started ≡ true
  pub readings : c.readings ≡ length ds
  pub last : c.last ≡ newest ds
  pub sums : (a : Alarm) → sum_of a c ≡ summed (terms a s ds)
