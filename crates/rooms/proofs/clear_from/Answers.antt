use Rattle.std.proofs.Common.{rules}
use Rattle.rooms.proofs.Laws.{cleared_part}
use Rattle.rooms.proofs.clear_from.Goals as goal

pub returns : goal.returns
returns c = cleared_part _ _ _ c.requires.0 c.requires.1 (c.fill.ensures.after (search rules))
