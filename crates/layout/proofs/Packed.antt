-- The packer's table is the layout's: the cells and entries of the two agree, and so do their counts.
use Prim.Native.Nat.{ℕ, ◌≤◌, ◌<◌}
use mathlib.Core.Bool.{Bool, true, false, cond, ◌||◌}
use mathlib.Core.List.{List}
use mathlib.Core.Path.{◌≡◌, refl, sym, ◌∙◌, ap}
use native.Mathlib.Omega.{arith}
use borrow.Author.Tests.{lt-ltb, le-ltb}
use lib.Dec.{ltb}
use lib.ListN.{length, get_or}
use Rattle.base.specs.Limits.{level_limit, pattern_limit, cell_limit, entry_limit}
use Rattle.base.proofs.Lists.{clash}
use Rattle.liang.specs.Patterns.{Pattern}
use Rattle.patterns.specs.Strings.{nth, Shaped, Sorted}
use Rattle.table.specs.Table.{root_base}
use Rattle.fit.specs.Cells.{Layout, Full, Fits, layout_of, used_from}
use Rattle.fit.specs.Entries.{Outputs, Over, Out, outputs_of, empty_entries}
use Rattle.fit.specs.Table.{Fit, NoRoom, Packed, finish, fit_layout, first_fit}
use Rattle.fit_trie.proofs.Nodes.{Node}
use Rattle.fit_trie.proofs.Passes.{Passing, empty_site}
use Rattle.fit_trie.proofs.Outputs.{IssuedIn}
use Rattle.fit_trie.proofs.Finished.{used_range}
use Rattle.fit_trie.proofs.Behind.{empty_entered, all_issued}
use Rattle.layout.specs.Bases.{bases_of, cells_needed}
use Rattle.layout.specs.Entries.{no_entries, add_patterns, entry_list, entries_needed}
use Rattle.layout.specs.Table.{layout_table}
use Rattle.layout.proofs.Nodes.{Paired}
use Rattle.layout.proofs.Passes.{Whole, layout_whole}
use Rattle.layout.proofs.Entries.{StoresOut, all_stored}
use Rattle.layout.proofs.Low.{LowIn, LowOut, layout_low, outputs_low}
use Rattle.layout.proofs.Cells.{same_count, cell_reads}
use Rattle.layout.proofs.Table.{cells_cut, entries_cut, table_written}

-- What first fit is by the layout: no room where C or E is over its limit, else the layout written out.
abbrev pub fit_of : List Pattern → Bool → Bool → Fit
fit_of patterns a b = cond (a || b) NoRoom (Packed (layout_table patterns))

pub over_any : (patterns : List Pattern) (a : Bool) → fit_of patterns a true ≡ NoRoom
over_any patterns true = refl
over_any patterns false = refl

-- The list is sorted and its patterns are those of good lines, with levels up to 9.
module _ (patterns : List Pattern) (sorted : Sorted patterns) (shaped : (i : ℕ) → i < length patterns → Shaped (nth patterns i))
    (low : (i : ℕ) → i < length patterns → (gap : ℕ) → get_or (nth patterns i).levels gap 0 ≤ level_limit) where
  abbrev none : List ℕ
  none = empty_entries

  abbrev fit : Fit
  fit = fit_of patterns (ltb cell_limit (cells_needed patterns)) (ltb entry_limit (entries_needed patterns))

  -- the cells have room
  module _ (nodes : List Node) (bytes taken : List ℕ) (placed : Passing empty_site patterns pattern_limit 0 nodes bytes taken) (paired : Paired nodes (bases_of patterns)) where
    finished : (outs : Outputs) → outputs_of root_base patterns (Out bytes none 0) ≡ outs → StoresOut (add_patterns patterns no_entries) outs → IssuedIn empty_site nodes patterns bytes none 0 outs → LowOut outs
        → finish (used_from bytes 0 cell_limit 1) outs ≡ fit
    unfolding finish entries_needed entry_list
    finished Over q stored issued l =
        sym (ap (fit_of patterns (ltb cell_limit (cells_needed patterns))) (lt-ltb entry_limit (length (add_patterns patterns no_entries).made) stored) ∙ over_any patterns (ltb cell_limit (cells_needed patterns)))
    finished (Out after made e) q stored issued l =
        let c = same_count patterns sorted shaped nodes bytes taken placed paired in
        let few = (used_range bytes).1 in
        let a : ltb cell_limit (cells_needed patterns) ≡ false = le-ltb cell_limit (cells_needed patterns) (omega (arith, c, few)) in
        let b : ltb entry_limit (length (add_patterns patterns no_entries).made) ≡ false =
        le-ltb entry_limit (length (add_patterns patterns no_entries).made) (omega (arith, stored.few, stored.counted)) in
        let reads = cell_reads patterns sorted shaped nodes bytes taken placed paired after made e (λ o. clash cc) issued in
        rw (a, b)
        (ap Packed (table_written patterns (used_from bytes 0 cell_limit 1) e after made c stored.counted
        (cells_cut after (used_from bytes 0 cell_limit 1) (issued.size ∙ placed.laid.size) few l patterns (bases_of patterns) reads)
        (entries_cut _ made e 0 stored)))

  pub fit_is_layout : first_fit patterns ≡ fit_of patterns (ltb cell_limit (cells_needed patterns)) (ltb entry_limit (entries_needed patterns))
  unfolding first_fit fit_layout
  fit_is_layout = go (layout_of patterns) (layout_whole patterns sorted shaped) (layout_low patterns)
    where
      go : (layout : Layout) → Whole patterns sorted shaped layout → LowIn layout → fit_layout patterns layout ≡ fit
      go Full over l = rw (lt-ltb cell_limit (cells_needed patterns) over)
      go (Fits bytes taken) w l =
          finished w.0 bytes taken w.1.0 w.1.1 (outputs_of root_base patterns (Out bytes none 0)) refl (all_stored patterns bytes)
          (all_issued patterns sorted shaped low empty_site w.0 bytes taken w.1.0 none 0 empty_entered) (outputs_low root_base patterns (Out bytes none 0) l)
