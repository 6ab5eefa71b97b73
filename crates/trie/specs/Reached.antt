-- What a table's paths reach, and tables that agree on all of it: "Unreached cells and entries may hold anything in their bodies."
use Rattle.std.specs.Prelude.{ℕ, ◌+◌, ◌*◌, ◌-◌, ◌<◌, List, [], ◌∷◌, ◌⊎◌, ◌≡◌, length, get_or, Some, None}
use Rattle.table.specs.Table.{head_size, cell_size, entry_size, cells_of, entries_of, look, entry_at, Look, has}
use Rattle.trie.specs.Paths.{Path}

-- The link of a cell that matches.
abbrev pub link_of : Look → ℕ
link_of None = 0
link_of (Some found) = found.link

-- The number of the cell that a string of symbols ends in, from a base: "Look at the cell numbered base + symbol", "go on with the
-- next symbol and base = link".
unfoldable pub end_cell : List ℕ → ℕ → List ℕ → ℕ
end_cell cells base [] = base
end_cell cells base (s ∷ []) = base + s
end_cell cells base (s ∷ (x ∷ u)) = end_cell cells (link_of (look cells (base + s) s)) (x ∷ u)

-- A cell is reached where a path, of 1 to 16 symbols, ends in it.
pub record CellReached (cells : List ℕ) (root n : ℕ) : Type 0 where
  pub string : List ℕ
  pub path : Path cells root string
  pub ends : end_cell cells root string ≡ n

-- Entry n stands on the chain that begins with number k. "0 ends it"; "a number over E or a kind other than 3 ends the chain with
-- nothing from it"; "a next not lower ends the chain after this entry".
pub data OnChain (entries : List ℕ) : ℕ → ℕ → Type 0 where
  here : {k distance level next : ℕ} → entry_at entries k ≡ has distance level next → OnChain entries k k
  later : {k n distance level next : ℕ} → entry_at entries k ≡ has distance level next → next < k → OnChain entries next n → OnChain entries k n

-- An entry is reached where it stands on the chain of a path's output.
pub record EntryReached (cells entries : List ℕ) (root n : ℕ) : Type 0 where
  pub string : List ℕ
  pub path : Path cells root string
  pub chained : OnChain entries path.output n

-- The same bytes in two lists, as many as `size` from a place on.
abbrev pub SameBytes : ℕ → ℕ → List ℕ → List ℕ → Type 0
SameBytes size at bytes other = (i : ℕ) → i < size → get_or bytes (at + i) 0 ≡ get_or other (at + i) 0

-- Two tables of one length with the same head and the same kinds, which differ in no body of a cell or an entry that one of them
-- reaches. A byte that makes a cell match makes it reached, so it is asked of both tables. Entries are numbered from 1.
pub record AgreeReached (root : ℕ) (table other : List ℕ) : Type 0 where
  pub size : length table ≡ length other
  pub head : (i : ℕ) → i < head_size → get_or table i 0 ≡ get_or other i 0
  pub cell_kinds : (n : ℕ) → get_or (cells_of table) (cell_size * n) 0 ≡ get_or (cells_of other) (cell_size * n) 0
  pub entry_kinds : (k : ℕ) → get_or (entries_of table) (entry_size * k) 0 ≡ get_or (entries_of other) (entry_size * k) 0
  pub cells : (n : ℕ) → CellReached (cells_of table) root n ⊎ CellReached (cells_of other) root n
      → SameBytes cell_size (cell_size * n) (cells_of table) (cells_of other)
  pub entries : (k : ℕ) → EntryReached (cells_of table) (entries_of table) root k ⊎ EntryReached (cells_of other) (entries_of other) root k
      → SameBytes entry_size (entry_size * k - entry_size) (entries_of table) (entries_of other)
