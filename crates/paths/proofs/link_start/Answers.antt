use Rattle.paths.proofs.Laws.{link_alone, link_behind}
use Rattle.paths.proofs.link_start.Goals as goal

pub returns-then-starts_with : goal.returns-then-starts_with
returns-then-starts_with c = link_alone _ _ c.if-starts_with.ensures.value

pub returns : goal.returns
returns c = link_behind _ _ c.if-starts_with.ensures.value c.folder_size.ensures.value
