use Rattle.spool.proofs.Laws.{grows}
use Rattle.report.proofs.Word.{line_fits}
use Rattle.hyphenate.proofs.ListsBreaker.put_word.Goals as goal

pub put_word-requires : goal.put_word-requires
put_word-requires c = line_fits _ _ _ _ _ _ _ c.args.w.now c.requires.1

pub returns : goal.returns
returns c = grows c.put_word.ensures.line
