-- The mission's statement 3, for one chart: which alarms stand, said of the readings since the reset. The mission's
-- numbers stand here once more: no running sum, and none of the terms and limits of the chart's own definitions.
use Rattle.std.specs.Prelude.{List, [], ◌∷◌, map, ℕ, ◌*◌, ◌<◌, ◌≤◌, ℤ, pos, neg_ℤ, ◌+ℤ◌, ◌-ℤ◌, ◌*ℤ◌, take, length}
use Rattle.std.specs.Prelude.{◌<ℤ◌}

-- ---- runs, in a list of terms that has the newest first

-- the plain sum of a list
abbrev pub total : List ℤ → ℤ
total [] = pos 0
total (t ∷ ts) = total ts +ℤ t

-- Some run sums over the limit. A run is a nonempty part of the list that begins with the newest: its first n terms.
pub record RunOver (limit : ℤ) (ts : List ℤ) : Type 0 where
  pub n : ℕ
  pub some : 0 < n
  pub there : n ≤ length ts
  pub above : limit <ℤ total (take n ts)

-- ---- the terms of an alarm, from the differences of the readings since the reset, newest first

-- the newest difference; 0 where there is none, as before the first
abbrev pub newest : List ℤ → ℤ
newest [] = pos 0
newest (d ∷ ds) = d

-- The steps: from each difference to the next, over all readings since the reset and whichever of them a run takes in.
-- The first is the step from zero.
abbrev pub steps : List ℤ → List ℤ
steps [] = []
steps (d ∷ ds) = (d -ℤ newest ds) ∷ steps ds

pub data Alarm : Type 0 where
  rising falling precision : Alarm

-- 1000(d - 0.501 s)
abbrev pub drift_term : ℕ → ℤ → ℤ
drift_term s d = pos 1000 *ℤ d -ℤ pos (501 * s)

-- 20(step²/2 - 1.85 s²)
abbrev pub step_term : ℕ → ℤ → ℤ
step_term s step = pos 10 *ℤ (step *ℤ step) -ℤ pos (37 * (s * s))

-- falling is rising for the negative differences
abbrev pub terms : Alarm → ℕ → List ℤ → List ℤ
terms rising s ds = map (drift_term s) ds
terms falling s ds = map (drift_term s) (map neg_ℤ ds)
terms precision s ds = map (step_term s) (steps ds)

-- 1000 · 2.85 s, and 20 · 6.90 s²
abbrev pub limit_of : Alarm → ℕ → ℕ
limit_of rising s = 2850 * s
limit_of falling s = 2850 * s
limit_of precision s = 138 * (s * s)

-- The alarm stands: some run of its terms sums over its limit.
unfoldable pub Stands : Alarm → ℕ → List ℤ → Type 0
Stands a s ds = RunOver (pos (limit_of a s)) (terms a s ds)
