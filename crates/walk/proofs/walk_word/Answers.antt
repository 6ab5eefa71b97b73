use native.Mathlib.Omega.{arith}
use Rattle.words.proofs.Laws.{word_fits}
use Rattle.walk.proofs.Laws.{row_part, word_walked}
use Rattle.walk.proofs.walk_word.Goals as goal

pub fill_row-requires : goal.fill_row-requires
fill_row-requires c = omega (arith, word_fits _ _ c.args.word.now.judged)

pub slice_bounds-row-end : goal.slice_bounds-row-end
slice_bounds-row-end c = omega (arith, word_fits _ _ c.args.word.now.judged)

pub slice_bounds-walk_row-end : goal.slice_bounds-walk_row-end
slice_bounds-walk_row-end c = row_part c.fill_row.new.row _ c.fill_row.auto.row (word_fits _ _ c.args.word.now.judged)

pub walk_row-looks-requires : goal.walk_row-looks-requires
walk_row-looks-requires c = (omega (arith, row_part c.fill_row.new.row _ c.fill_row.auto.row (word_fits _ _ c.args.word.now.judged), word_fits _ _ c.args.word.now.judged), omega (arith, word_fits _ _ c.args.word.now.judged))

pub returns : goal.returns
returns c = word_walked c.args.word.now.bytes.now c.fill_row.new.row c.fill_row.ensures c.walk_row-looks.ensures
