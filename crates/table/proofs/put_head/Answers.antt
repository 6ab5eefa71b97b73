use Rattle.std.proofs.Common.{rules}
use Rattle.table.proofs.Laws.{halves, head_put}
use Rattle.table.proofs.put_head.Goals as goal

pub returns : goal.returns
returns c = head_put c.args.cells c.args.entries c.args.room.now (halves _ (search rules) c.to_be_bytes.ensures) (halves _ (search rules) c.to_be_bytes-2.ensures) c.copy_from_slice.ensures.after
