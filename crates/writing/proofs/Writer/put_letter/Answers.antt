use Rattle.writing.proofs.Laws.{letter_marked}
use Rattle.writing.proofs.Parts.{both_parts}
use Rattle.writing.proofs.Writer.put_letter.Goals as goal

pub returns : goal.returns
returns c = both_parts _ _ (letter_marked c.args.sign.now c.args.mark c.args.b c.if-mark-eq0.false) _ c.put_text.ensures c.put_byte-2.ensures
