use Rattle.paths.proofs.Laws.{name_behind}
use Rattle.paths.proofs.put_beside.Goals as goal

pub returns : goal.returns
returns c = name_behind _ _ _ _ _ c.folder_size-at.ensures.value c.put_name.ensures c.put_name-2.ensures
