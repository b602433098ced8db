-- `applying::fail` meets its contract.
use Rattle.records.specs.StateParts.{with_failure}
use Rattle.records.proofs.ApplyLaws.{raised_or}
use Rattle.records.proofs.applying.fail.Goals as goal

pub returns : goal.returns
unfolding with_failure
returns c = rw (c.before.empty_pairs.ensures, c.or.ensures, raised_or)
