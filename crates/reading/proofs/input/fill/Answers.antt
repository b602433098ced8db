use Rattle.std.proofs.Common.{rules}
use Rattle.reading.proofs.Behind.{consumes_behind}
use Rattle.reading.proofs.input.fill.Goals as goal

pub loop-count-preserved : goal.loop-count-preserved
loop-count-preserved g c = (
  search rules,
  search rules,
  consumes_behind _ _ _ _ _ _ _ _ c.loop-count.invariant.2 c.in-Ok.ensures.bytes.0 c.loop-count.invariant.0 c.in-Ok.ensures.bound.0,
)
