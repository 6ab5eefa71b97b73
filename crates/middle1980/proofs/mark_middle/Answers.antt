use Rattle.middle1980.proofs.Going.{start, stopped, turned, less}
use Rattle.middle1980.proofs.mark_middle.Goals as goal

pub loop-step-init : goal.loop-step-init
loop-step-init c = search start

pub returns : goal.returns
returns c = search stopped

pub loop-step-smaller : goal.loop-step-smaller
loop-step-smaller c = search less

pub loop-step-preserved : goal.loop-step-preserved
loop-step-preserved c = search turned
