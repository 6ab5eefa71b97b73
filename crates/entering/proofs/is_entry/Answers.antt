use Rattle.fit.specs.Entries.{holds}
use Rattle.entering.proofs.is_entry.Goals as goal

pub returns : goal.returns
unfolding holds
returns c = rw (← c.number_at.ensures) c.eq.ensures
