use Rattle.packer.proofs.Laws.{table_size, table_put}
use Rattle.packer.proofs.finish.Goals as goal

pub returns : goal.returns
returns c = record { value = table_size _ _ c.args.room.now c.args.made.now c.requires.0 c.told-made c.requires.1 c.requires.2; room_after = table_put _ _ c.args.room.now c.args.made.now c.requires.0 c.told-made c.requires.1 c.requires.2 c.copy_to.ensures c.clear_from.ensures c.put_head.ensures }
