-- The table that a layout is, written out record by record.
use Rattle.std.specs.Prelude.{ℕ, zero, suc, ◌-◌, cond, List, [], ◌∷◌, ◌++◌}
use Rattle.base.specs.Tests.{same_list}
use Rattle.liang.specs.Patterns.{Pattern}
use Rattle.table.specs.Records.{head_bytes, cell_bytes, entry_bytes}
use Rattle.layout.specs.Bases.{Based, used_by, bases_of, cells_needed}
use Rattle.layout.specs.Entries.{Entry, entry_list, entries_needed, output_for}

-- An entry's record.
abbrev pub entry_record : Entry → List ℕ
entry_record x = entry_bytes x.distance x.level x.next

-- Where a path's last cell links to: its base. "Leaves have link 0."
unfoldable pub link_to : List Based → List ℕ → ℕ
link_to [] u = 0
link_to (x ∷ bases) u =
    let later = link_to bases u in
    cond (same_list x.path u) x.base later

-- The cell of a path, which is u followed by s: its last symbol, where it goes on, and what it sets.
unfoldable pub path_cell : List Pattern → List Based → List ℕ → ℕ → List ℕ
path_cell patterns bases u s = cell_bytes s (link_to bases (u ++ (s ∷ []))) (output_for patterns (u ++ (s ∷ [])))

-- Cell n: that of the path which uses it, sought among some of them. "A free cell is kind 2 and five zero bytes."
unfoldable pub cell_among : List Pattern → List Based → ℕ → List Based → List ℕ
cell_among patterns bases n [] = cell_bytes 0 0 0
cell_among patterns bases n (x ∷ rest) =
    let own = path_cell patterns bases x.path (n - x.base) in
    let later = cell_among patterns bases n rest in
    cond (used_by patterns n x) own later

-- n cells from number k on.
unfoldable pub numbered_cells : List Pattern → List Based → ℕ → ℕ → List ℕ
numbered_cells patterns bases k zero = []
numbered_cells patterns bases k (suc n) = cell_among patterns bases k bases ++ numbered_cells patterns bases (suc k) n

-- The entries one behind the other.
unfoldable pub all_entries : List Entry → List ℕ
all_entries [] = []
all_entries (x ∷ rest) = entry_record x ++ all_entries rest

-- "One kind 1, then C of kind 2 (cells 0 to C - 1), then E of kind 3 (entries 1 to E)."
unfoldable pub layout_table : List Pattern → List ℕ
layout_table patterns =
    head_bytes (cells_needed patterns) (entries_needed patterns)
    ++ (numbered_cells patterns (bases_of patterns) 0 (cells_needed patterns) ++ all_entries (entry_list patterns))
