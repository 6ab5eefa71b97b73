use mathlib.Core.Path.{refl}
use Rattle.flowing.proofs.Laws.{not_refused_word, marks_long, marked_fits, word_shows}
use Rattle.flowing.proofs.put_word.Goals as goal

pub put_hyphenated-requires : goal.put_hyphenated-requires
put_hyphenated-requires c = (marks_long _ _ c.args.word.now.bytes.now _ _ _ _ c.args.word.now.judged refl c.hyphenate_word.ensures, marked_fits _ _ c.args.word.now.bytes.now _ _ _ _ c.args.word.now.judged refl c.hyphenate_word.ensures _ refl _ _ c.requires)

pub returns-in-Ok : goal.returns-in-Ok
returns-in-Ok c = word_shows _ _ c.args.word.now.bytes.now _ _ _ _ c.args.word.now.judged refl c.hyphenate_word.ensures c.in-Ok.is c.put_hyphenated.ensures

pub returns-in-Err : goal.returns-in-Err
returns-in-Err c = not_refused_word _ _ c.args.word.now.bytes.now _ _ _ _ c.args.word.now.judged refl c.hyphenate_word.ensures c.in-Err.is
