use mathlib.Core.Path.{sym, ◌∙◌}
use Rattle.writing.proofs.Decimal.{decimal_shown}
use Rattle.writing.proofs.Parts.{fits_as, written_as}
use Rattle.writing.proofs.Writer.put_decimal.Goals as goal

pub put_text-requires : goal.put_text-requires
put_text-requires c = fits_as c.args.self.now (sym (c.as_bytes.ensures.value ∙ c.format.ensures.text ∙ decimal_shown c.args.n c.ranges.n.fits)) c.requires

pub returns : goal.returns
returns c = written_as (sym (c.as_bytes.ensures.value ∙ c.format.ensures.text ∙ decimal_shown c.args.n c.ranges.n.fits)) c.put_text.ensures
