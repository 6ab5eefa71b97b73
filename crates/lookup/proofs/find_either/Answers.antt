use Rattle.lookup.proofs.Laws.{either_customer, either_house, either_nowhere}
use Rattle.lookup.proofs.find_either.Goals as goal

pub returns-in-Some : goal.returns-in-Some
returns-in-Some c = either_customer _ _ _ c.find_line.ensures c.in-Some.is

pub returns-in-Some-find_line : goal.returns-in-Some-find_line
returns-in-Some-find_line c = either_house _ _ _ c.find_line.ensures c.in_default.is c.find_line-2.ensures c.in-Some-find_line.is

pub returns : goal.returns
returns c = either_nowhere _ _ _ c.find_line.ensures c.in_default.is c.find_line-2.ensures c.in_default-find_line.is
