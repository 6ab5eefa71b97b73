use Rattle.prefix1980.proofs.Going.{may_run, told_all, ready}
use Rattle.prefix1980.proofs.remove_prefixes.Goals as goal

pub run-requires : goal.run-requires
run-requires c = may_run _ _ _ c.requires.2 c.requires.0 c.requires.1 c.code_at-c.ensures

pub returns-clause-answer : goal.returns-clause-answer
returns-clause-answer c = told_all _ _ _ c.requires.2 c.requires.0 c.requires.1 c.code_at-c.ensures c.run.ensures

pub returns-clause-place : goal.returns-clause-place
returns-clause-place c = ready _ _ _ c.requires.2 c.requires.0 c.requires.1 c.code_at-c.ensures c.run.ensures
