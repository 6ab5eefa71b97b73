use mathlib.Core.Path.{◌∙◌}
use Rattle.base.proofs.Grounds.{judged_by}
use Rattle.lookup.proofs.Order.{lookup_ordered, said_located}
use Rattle.lookup.proofs.Laws.{locate_refused, locate_found}
use Rattle.lookup.proofs.locate_line.Goals as goal

pub returns-in-Err : goal.returns-in-Err
returns-in-Err c = said_located _ _ _ (locate_refused _ _ _ (judged_by (lookup_ordered _ _ _) c.judge_lookup.ensures) c.in-Err.is)

pub returns-in-Ok : goal.returns-in-Ok
returns-in-Ok c = said_located _ _ _ (c.find_either.ensures ∙ locate_found _ _ _ (judged_by (lookup_ordered _ _ _) c.judge_lookup.ensures) c.in-Ok.is)
