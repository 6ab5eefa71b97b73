-- The judgement of a table is ground 9 alone.
use mathlib.Core.Bool.{not}
use mathlib.Core.List.{List}
use Prim.Native.Nat.{ℕ}
use Rattle.base.specs.declared.Ground.TheVariants.{TableForm}
use Rattle.base.proofs.Grounds.{Ordered, ordered_if}
use Rattle.table.specs.Table.{formed, table_grounds, judge_table}

pub table_ordered : (table : List ℕ) → Ordered (judge_table table) (table_grounds table)
unfolding judge_table table_grounds
table_ordered table = ordered_if (not (formed table)) TableForm
