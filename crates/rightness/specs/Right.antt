-- "A table is right for a list": document 01's sentence, clause by clause. Cells and entries are the two parts of the table.
use Rattle.std.specs.Prelude.{ℕ, ◌+◌, ◌*◌, ◌≤◌, ◌<◌, true, List, ◌≡◌, length, get_or}
use Rattle.table.specs.Table.{cell_kind, entry_kind, cell_size, entry_size, hit}
use Rattle.liang.specs.Patterns.{Pattern}
use Rattle.walk.specs.Chain.{chain}
use Rattle.walk.specs.Raise.{highest_set}
use Rattle.trie.specs.Paths.{along, Path}
use Rattle.trie.specs.Sound.{sound}
use Rattle.patterns.specs.Strings.{Beginning, nth}

-- "a pattern's path sets, distance by distance, exactly the pattern's levels (the highest where a chain names a distance
-- twice)": the gap with so many of the pattern's symbols before it has the pattern's level, 0 included.
pub record Exact (entries : List ℕ) (p : Pattern) (output : ℕ) : Type 0 where
  pub faultless : sound entries (length p.symbols) output ≡ true
  pub levels : (gap : ℕ) → gap ≤ length p.symbols → highest_set (chain entries (length p.symbols) (length p.symbols) output) gap ≡ get_or p.levels gap 0

-- "when all kinds are as above": every cell's is 2 and every entry's 3.
pub record Kinds (cells entries : List ℕ) : Type 0 where
  pub of_cells : (n : ℕ) → cell_size * n + cell_size ≤ length cells → get_or cells (cell_size * n) 0 ≡ cell_kind
  pub of_entries : (k : ℕ) → entry_size * k + entry_size ≤ length entries → get_or entries (entry_size * k) 0 ≡ entry_kind

-- What is asked of the paths of one list, which begin at its root.
pub record PathsRight (patterns : List Pattern) (cells entries : List ℕ) (root : ℕ) : Type 0 where
  -- "every beginning of a pattern, from one symbol up, is a path"
  pub reached : (u : List ℕ) → Beginning patterns u → Path cells root u
  -- "and every path is one"
  pub only : (u : List ℕ) → Path cells root u → Beginning patterns u
  -- "a pattern's path sets, distance by distance, exactly the pattern's levels"
  pub exact : (i : ℕ) → i < length patterns → (link output : ℕ) → along cells root (nth patterns i).symbols ≡ hit link output → Exact entries (nth patterns i) output
  -- "other paths have output 0"
  pub silent : (u : List ℕ) (p : Path cells root u) → ((i : ℕ) → i < length patterns → (nth patterns i).symbols ≡ u → ⊥) → p.output ≡ 0

-- "A table is right for a list": its kinds, which are the same for every list, and the list's paths.
pub record Right (patterns : List Pattern) (cells entries : List ℕ) (root : ℕ) : Type 0 where
  -- "when all kinds are as above"
  pub kinds : Kinds cells entries
  pub paths : PathsRight patterns cells entries root
