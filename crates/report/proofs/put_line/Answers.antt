use mathlib.Core.List.{[], ◌∷◌}
use mathlib.Core.Path.{refl}
use Rattle.writing.specs.Writing.{hyphenated}
use Rattle.writing.proofs.Parts.{first_part, second_part, both_parts}
use Rattle.words.specs.Symbols.{line_feed, hyphen}
use Rattle.report.proofs.put_line.Goals as goal

pub put_hyphenated-requires : goal.put_hyphenated-requires
put_hyphenated-requires c = (c.requires.0, first_part (hyphenated (hyphen ∷ []) c.args.marks.now c.args.word.now) (line_feed ∷ []) refl c.args.w.now c.requires.1)

pub put_byte-requires : goal.put_byte-requires
put_byte-requires c = second_part (hyphenated (hyphen ∷ []) c.args.marks.now c.args.word.now) (line_feed ∷ []) refl _ c.put_hyphenated.ensures c.requires.1

pub returns : goal.returns
returns c = both_parts (hyphenated (hyphen ∷ []) c.args.marks.now c.args.word.now) (line_feed ∷ []) refl _ c.put_hyphenated.ensures c.put_byte.ensures
