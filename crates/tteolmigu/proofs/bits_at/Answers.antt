use Rattle.tteolmigu.proofs.Laws.{cut_and_put}
use Rattle.tteolmigu.proofs.bits_at.Goals as goal

pub returns : goal.returns
returns c = cut_and_put _ _ _ c.requires.width c.requires.both
