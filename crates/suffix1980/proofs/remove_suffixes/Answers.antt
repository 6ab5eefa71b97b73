use Rattle.suffix1980.proofs.Going.{told_all, ready}
use Rattle.suffix1980.proofs.remove_suffixes.Goals as goal

pub returns-clause-answer : goal.returns-clause-answer
returns-clause-answer c = told_all _ _ _ c.requires.2 c.requires.0 c.requires.1 c.code_at-pc.ensures c.final_at.ensures c.run.ensures

pub returns-clause-kept : goal.returns-clause-kept
returns-clause-kept c = ready _ _ _ c.requires.2 c.requires.0 c.requires.1 c.code_at-pc.ensures c.final_at.ensures c.run.ensures
