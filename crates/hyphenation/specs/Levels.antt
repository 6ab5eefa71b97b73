-- What a table says of a word: the levels of its gaps and the count of looks. Cells and entries are the two parts of a table,
-- and the base starts at the root.
use Rattle.std.specs.Prelude.{ℕ, suc, cond, List, length}
use Rattle.base.specs.Limits.{room_size}
use Rattle.words.specs.Words.{row_of, inner}
use Rattle.walk.specs.Walk.{settings, looks}
use Rattle.walk.specs.Raise.{highest_set}
use Rattle.rooms.specs.Rooms.{sheet}

-- "Over any table, checked or not, both calls give each inner gap the highest level so set, else 0 ..; levels set at other gaps
-- are dropped." Gap i has the first edge and i letters before it.
unfoldable pub level_at : List ℕ → List ℕ → ℕ → List ℕ → ℕ → ℕ
level_at cells entries root word i = cond (inner (length word) i) (highest_set (settings cells entries root 0 (row_of word)) (suc i)) 0

-- "levels in bytes 1 to n - 1", "the other bytes up to 63 are 0"
unfoldable pub level_sheet : List ℕ → List ℕ → ℕ → List ℕ → List ℕ
level_sheet cells entries root word = sheet room_size (level_at cells entries root word)

-- "A word's count sums the walks from all n + 2 places."
unfoldable pub word_looks : List ℕ → ℕ → List ℕ → ℕ
word_looks cells root word = looks cells root (row_of word)
