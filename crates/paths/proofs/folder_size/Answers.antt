use Rattle.std.proofs.Common.{rules}
use Rattle.paths.proofs.Laws.{slash_at, slash_nowhere}
use Rattle.paths.proofs.folder_size.Goals as goal

pub returns-in-Some-clause-value : goal.returns-in-Some-clause-value
returns-in-Some-clause-value c = slash_at _ c.in-Some.i (search rules) (search rules) (λ k h w e. search rules)

pub returns-in-None-clause-value : goal.returns-in-None-clause-value
returns-in-None-clause-value c = slash_nowhere _ (λ k h e. search rules)
