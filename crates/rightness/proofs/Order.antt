-- The checker's judgement gives the first of its grounds that holds.
use Prim.Native.Nat.{ℕ}
use mathlib.Core.Bool.{not}
use mathlib.Core.List.{List}
use Rattle.base.specs.declared.Ground.TheVariants.{NotRight}
use Rattle.base.proofs.Grounds.{Ordered, ordered_first, ordered_if}
use Rattle.lists.proofs.Order.{patterns_ordered}
use Rattle.table.proofs.Order.{table_ordered}
use Rattle.rightness.specs.Test.{right_for, check_grounds, judge_check}

pub check_ordered : (text table : List ℕ) → Ordered (judge_check text table) (check_grounds text table)
unfolding judge_check check_grounds
check_ordered text table = ordered_first (patterns_ordered text) (ordered_first (table_ordered table) (ordered_if (not (right_for text table)) NotRight))
