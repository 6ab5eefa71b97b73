use mathlib.Core.Path.{◌∙◌, ap}
use Rattle.std.specs.Prelude.{Ok}
use Rattle.reprint.proofs.Lines.{found_marks, found_fits, found_reprinted, out_fits, out_reprinted, refused_fits, refused_reprinted}
use Rattle.reprint.proofs.put_reprint.Goals as goal

pub put_line-requires : goal.put_line-requires
put_line-requires c = (found_marks c.args.word.now c.args.marks.now c.hyphenate_1980.ensures (c.in-Ok.is ∙ ap Ok c.in-Some.is), found_fits c.args.word.now c.args.marks.now c.hyphenate_1980.ensures (c.in-Ok.is ∙ ap Ok c.in-Some.is) c.args.w.now c.requires)

pub put_told-requires : goal.put_told-requires
put_told-requires c = out_fits c.args.word.now c.args.marks.now c.hyphenate_1980.ensures (c.in-Ok.is ∙ ap Ok c.in-None.is) c.args.w.now c.requires

pub put_refusal-requires : goal.put_refusal-requires
put_refusal-requires c = refused_fits c.args.word.now c.args.marks.now c.hyphenate_1980.ensures c.in-Err.is c.args.w.now c.requires

pub returns-in-Some : goal.returns-in-Some
returns-in-Some c = found_reprinted _ _ c.hyphenate_1980.ensures (c.in-Ok.is ∙ ap Ok c.in-Some.is) c.put_line.ensures

pub returns-in-None : goal.returns-in-None
returns-in-None c = out_reprinted _ _ c.hyphenate_1980.ensures (c.in-Ok.is ∙ ap Ok c.in-None.is) c.put_told.ensures

pub returns-in-Err : goal.returns-in-Err
returns-in-Err c = refused_reprinted _ _ c.hyphenate_1980.ensures c.in-Err.is c.put_refusal.ensures
