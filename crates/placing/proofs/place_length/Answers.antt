use Rattle.lines.proofs.Laws.{line_ends}
use Rattle.placing.proofs.Laws.{some_left}
use Rattle.placing.proofs.place_length.Goals as goal

pub split_at-requires : goal.split_at-requires
split_at-requires c = line_ends _ 0 _ (some_left c.loop-above.rest.now c.is_empty.ensures c.loop-above-test.true) c.line_end.ensures
