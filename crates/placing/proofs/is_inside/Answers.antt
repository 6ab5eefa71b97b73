use borrow.Author.Rules.{rules}
use Prim.Native.Nat.{◌+◌}
use lib.Dec.{ltb}
use Rattle.base.specs.Limits.{cell_limit}
use Rattle.fit.specs.Cells.{inside}
use Rattle.placing.proofs.is_inside.Goals as goal

pub returns : goal.returns
unfolding inside
returns c = c.all_marked.ensures (λ s. ltb (c.args.base + s) cell_limit) (λ s r h p. search rules)
