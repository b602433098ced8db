-- `checks::different_days` meets its contract. The invariant: the days counted and those still to count, from i on, make up all.
use Rattle.std.proofs.Common.{◌≡◌, ◌≤◌, ◌+◌, map, drop}
use Rattle.records.specs.Table.{different, end_day}
use Rattle.records.proofs.checks.different_days.Given as goal

abbrev pub invariant-loop-i : goal.invariant-loop-i
invariant-loop-i l =
    (l.days ≤ l.i) × (l.days + different (map end_day (drop l.i l.pairs)) ≡ different (map end_day l.pairs))
