use Rattle.std.proofs.Common.{◌∙◌}
use Rattle.rooms.proofs.Laws.{block_fits, block_counted}
use Rattle.rooms.proofs.count_marks.Goals as goal

pub loop-block-preserved : goal.loop-block-preserved
loop-block-preserved c = (
  c.in-Some.ensures.steps.0 ∙ c.loop-block.invariant.0,
  block_fits _ _ c.in-Some.ensures.steps.1.0 c.count_block-count.ensures _ _ c.loop-block.invariant.1,
  block_counted _ _ c.in-Some.ensures.steps.1.0 c.count_block-count.ensures _ c.loop-block.invariant.2,
)
