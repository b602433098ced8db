-- A standing alarm, taken apart and put together: how long its run is, and that the run's total is over the limit.
use Rattle.std.specs.Prelude.{List, ℕ, ◌<◌, ◌≤◌, ℤ, pos, take, length, ◌<ℤ◌}
use Rattle.charts.specs.Runs.{Alarm, total, terms, limit_of, Stands}

module _ (a : Alarm) (s : ℕ) (ds : List ℤ) where
  -- what the first n terms add up to is over the limit
  abbrev pub Over : ℕ → Type 0
  Over n = pos (limit_of a s) <ℤ total (take n (terms a s ds))

  pub stands_from : (n : ℕ) → 0 < n → n ≤ length (terms a s ds) → Over n → Stands a s ds
  unfolding Stands
  stands_from n h k o = record { n = n; some = h; there = k; above = o }

  module _ (r : Stands a s ds) where
    abbrev pub run_length : ℕ
    unfolding Stands
    run_length = r.n

    pub run_some : 0 < run_length
    unfolding Stands
    run_some = r.some

    pub run_there : run_length ≤ length (terms a s ds)
    unfolding Stands
    run_there = r.there

    pub run_above : Over run_length
    unfolding Stands
    run_above = r.above
