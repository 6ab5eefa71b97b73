use Rattle.gauge.proofs.Laws.{fits_is}
use Rattle.gauge.proofs.fits_in.Goals as goal

pub returns : goal.returns
returns c = fits_is _ _
