use Rattle.writing.proofs.Parts.{joined}
use Rattle.report.proofs.put_told.Goals as goal

pub returns : goal.returns
returns c = joined c.put_byte.ensures (joined c.put_field.ensures (joined c.put_list.ensures (joined c.put_field-2.ensures c.put_byte-2.ensures)))
