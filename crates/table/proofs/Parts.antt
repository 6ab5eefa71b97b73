-- The length that ground 9 asks for, part by part.
use Prim.Native.Nat.{ℕ, ◌+◌, ◌*◌}
use mathlib.Core.Bool.{Bool, true, false, not, and-false}
use mathlib.Core.List.{List}
use mathlib.Core.Path.{◌≡◌, refl}
use native.Mathlib.Omega.{arith}
use borrow.Author.Tests.{eqb-true, not-false}
use lib.Dec.{eqb}
use lib.ListN.{length, drop, length-drop}
use lib.Seq.{length-take-le}
use Rattle.std.specs.Prelude.{Ok}
use Rattle.base.specs.declared.Ground.TheVariants.{TableForm}
use Rattle.base.proofs.Grounds.{not_refused}
use Rattle.base.proofs.Lists.{never}
use Rattle.table.specs.Table.{head_size, cell_size, entry_size, cell_count, entry_count, formed, judge_table, cells_from, entries_from, cells_of, entries_of}

module _ (table : List ℕ) (fine : judge_table table ≡ Ok tt) where
  table_length : length table ≡ head_size + cell_size * cell_count table + entry_size * entry_count table
  unfolding judge_table formed
  table_length = go (eqb (length table) (head_size + cell_size * cell_count table + entry_size * entry_count table)) refl
    where
      go : (z : Bool) → eqb (length table) (head_size + cell_size * cell_count table + entry_size * entry_count table) ≡ z
          → length table ≡ head_size + cell_size * cell_count table + entry_size * entry_count table
      go true e = eqb-true (length table) _ e
      go false e = never (simp (e, and-false) at (not-false (formed table) (not_refused (not (formed table)) TableForm fine)))

  pub cells_length : length (cells_of table) ≡ cell_size * cell_count table
  unfolding cells_of cells_from
  cells_length = length-take-le (cell_size * cell_count table) (drop head_size table) (omega (arith, table_length, length-drop head_size table))

  pub entries_length : length (entries_of table) ≡ entry_size * entry_count table
  unfolding entries_of entries_from
  entries_length = omega (arith, table_length, length-drop (head_size + cell_size * cell_count table) table)
