use borrow.Author.Rules.{rules}
use Rattle.base.specs.Limits.{word_limit1980}
use Rattle.words.proofs.Laws.{letters_fit}
use Rattle.machine1980.proofs.find_breaks.Goals as goal

pub slice_bounds-sheet-end : goal.slice_bounds-sheet-end
slice_bounds-sheet-end c = let h = letters_fit word_limit1980 c.args.word.now c.requires.0 in search rules

pub write_word-requires : goal.write_word-requires
write_word-requires c = let h = letters_fit word_limit1980 c.args.word.now c.requires.0 in search rules
