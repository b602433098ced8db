-- `checks::days_fit` meets its contract.
use Rattle.std.proofs.Common.{◌≡◌, ℕ, ◌-◌, ◌<◌, ◌&&◌, List, map, length, get_or, leb}
use Rattle.records.specs.Table.{different, end_day, days_fit_of}
use Rattle.records.proofs.PairLaws.{last_is, first_is}
use Rattle.records.specs.declared.state.Waiting.{Waiting}
use Rattle.records.proofs.checks.days_fit.Goals as goal

days : (l : List Waiting) (d : Waiting) {k : ℕ} → 0 < length l → k ≡ different (map end_day l)
    → (leb 3 k && leb ((get_or l (length l - 1) d).end - (get_or l 0 d).start) 40320) ≡ days_fit_of l
unfolding days_fit_of
days l d h e = rw (e, last_is l d h, first_is l d h)

pub returns : goal.returns
returns c = rw c.saturating_sub.ensures (days c.args.pairs.now _ c.requires c.different_days.ensures)
