-- `applying::demand_after` meets its contract.
use mathlib.Core.Path.{sym, ◌∙◌}
use Rattle.charts.specs.Tests.{if_yes}
use Rattle.records.proofs.ApplyLaws.{raised_or}
use Rattle.records.proofs.applying.demand_after.Goals as goal

pub returns-then-raises_demand : goal.returns-then-raises_demand
returns-then-raises_demand c = c.or.ensures ∙ raised_or _ _ ∙ sym (if_yes _ _ _ (sym c.before.before.raises_demand.ensures ∙ c.before.if-raises_demand.true))
