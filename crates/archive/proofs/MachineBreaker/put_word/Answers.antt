use Rattle.spool.proofs.Laws.{grows}
use Rattle.reprint.proofs.Lines.{line_fits}
use Rattle.archive.proofs.MachineBreaker.put_word.Goals as goal

pub put_reprint-requires : goal.put_reprint-requires
put_reprint-requires c = line_fits _ _ c.args.w.now c.requires.1

pub returns : goal.returns
returns c = grows c.put_reprint.ensures.line
