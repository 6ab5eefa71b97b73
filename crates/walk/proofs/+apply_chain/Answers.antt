use Rattle.walk.proofs.Laws.{chain_stop, chain_ends, chain_goes}
use Rattle.walk.proofs.+apply_chain.Goals as goal

pub returns-then-next-k : goal.returns-then-next-k
returns-then-next-k t c = chain_goes _ _ _ _ _ _ c.entry_at.ensures c.in-Some.is c.apply_entry.ensures c.if-next-k.true c.apply_chain.ensures

pub returns-else-next-k : goal.returns-else-next-k
returns-else-next-k t c = chain_ends _ _ _ _ _ _ c.entry_at.ensures c.in-Some.is c.apply_entry.ensures c.if-next-k.false

pub returns-in_default : goal.returns-in_default
returns-in_default t c = chain_stop _ _ _ _ _ _ c.entry_at.ensures c.in_default.is
