use borrow.Author.Rules.{rules}
use Prim.Native.Nat.{◌+◌}
use Rattle.fit.specs.Cells.{is_free}
use Rattle.placing.proofs.are_free.Goals as goal

pub returns : goal.returns
returns c = c.all_marked.ensures (λ s. is_free c.args.cells.now (c.args.base + s)) (λ s r h p. search rules)
