use Rattle.paths.proofs.Laws.{ended_last, ended_whole}
use Rattle.paths.proofs.ended.Goals as goal

pub returns : goal.returns
returns c = record { ended = ended_last _ c.put_name.ensures.memory; value = ended_whole _ c.put_name.ensures.memory }
