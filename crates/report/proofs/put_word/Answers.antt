use Rattle.report.proofs.Word.{refused_fits, found_marks, found_fits, found_reports, refused_reports}
use Rattle.report.proofs.put_word.Goals as goal

pub put_line-requires : goal.put_line-requires
put_line-requires c = (found_marks _ _ c.args.word.now _ _ _ c.args.marks.now c.hyphenate_word.ensures c.in-Ok.is, found_fits _ _ c.args.word.now _ _ _ c.args.marks.now c.hyphenate_word.ensures c.in-Ok.is c.args.w.now c.requires)

pub put_refusal-requires : goal.put_refusal-requires
put_refusal-requires c = refused_fits _ _ c.args.word.now _ _ _ c.args.marks.now c.hyphenate_word.ensures c.in-Err.is c.args.w.now c.requires

pub returns-in-Ok : goal.returns-in-Ok
returns-in-Ok c = found_reports _ _ _ _ _ _ _ c.hyphenate_word.ensures c.in-Ok.is c.put_line.ensures

pub returns-in-Err : goal.returns-in-Err
returns-in-Err c = refused_reports _ _ _ _ _ _ _ c.hyphenate_word.ensures c.in-Err.is c.put_refusal.ensures
