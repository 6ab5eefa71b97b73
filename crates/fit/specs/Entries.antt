-- First fit: the entries of a list's patterns, shared where they are equal. They are written into a list of bytes that starts
-- as zeros, 5 bytes an entry.
use Rattle.std.specs.Prelude.{ℕ, zero, suc, ◌+◌, ◌*◌, ◌-◌, Bool, cond, ◌&&◌, List, [], ◌∷◌, ltb, eqb, length, get_or, set, replicate}
use Rattle.base.specs.Limits.{entry_limit}
use Rattle.liang.specs.Patterns.{Pattern}
use Rattle.table.specs.Table.{entry_kind, entry_size, entry_room, cell_size, number_at}
use Rattle.fit.specs.Cells.{put_number, cell_of}

-- "an equal earlier entry (all three numbers)": does the entry at a place hold them?
unfoldable pub holds : List ℕ → ℕ → ℕ → ℕ → ℕ → Bool
holds bytes at distance level next = eqb (get_or bytes (at + 1) 0) distance && (eqb (get_or bytes (at + 2) 0) level && eqb (number_at bytes (at + 3)) next)

-- The number of the first of n entries from k on that holds them, 0 if none does. Entry k stands at 5(k - 1).
unfoldable pub find_entry : List ℕ → ℕ → ℕ → ℕ → ℕ → ℕ → ℕ
find_entry bytes distance level next k zero = 0
find_entry bytes distance level next k (suc n) =
    let later = find_entry bytes distance level next (suc k) n in
    cond (holds bytes (entry_size * (k - 1)) distance level next) k later

unfoldable pub put_entry : List ℕ → ℕ → ℕ → ℕ → ℕ → List ℕ
put_entry bytes at distance level next = put_number (at + 3) next (set (set (set bytes at entry_kind) (at + 1) distance) (at + 2) level)

-- The entries so far: their bytes, how many, and the number of the one made or found last; or that there are too many.
pub data Entries : Type 0 where
  TooMany : Entries
  Made : List ℕ → ℕ → ℕ → Entries

-- "an equal earlier entry .. is used again", else one more is made.
unfoldable pub enter_at : List ℕ → ℕ → ℕ → ℕ → ℕ → ℕ → Entries
enter_at bytes count distance level next found =
    cond (eqb found 0)
    (cond (ltb count entry_limit) (Made (put_entry bytes (entry_size * count) distance level next) (suc count) (suc count)) TooMany)
    (Made bytes count found)

unfoldable pub enter : ℕ → ℕ → Entries → Entries
enter distance level TooMany = TooMany
enter distance level (Made bytes count next) = enter_at bytes count distance level next (find_entry bytes distance level next 1 count)

-- "in each, nonzero levels from the smallest distance up; each entry's next is the one before it in this pattern": n distances
-- from d on, of a pattern of m symbols. The level at distance d is that of the gap with m - d symbols before it.
unfoldable pub enter_levels : List ℕ → ℕ → ℕ → ℕ → Entries → Entries
enter_levels levels m d zero made = made
enter_levels levels m d (suc n) made =
    enter_levels levels m (suc d) n (cond (eqb (get_or levels (m - d) 0) 0) made (enter d (get_or levels (m - d) 0) made))

-- A chain begins with no entry before it.
abbrev pub afresh : Entries → Entries
afresh TooMany = TooMany
afresh (Made bytes count last) = Made bytes count 0

unfoldable pub enter_pattern : Pattern → Entries → Entries
enter_pattern p made = enter_levels p.levels (length p.symbols) 0 (suc (length p.symbols)) (afresh made)

-- The cells with the outputs of the patterns so far, and the entries.
pub data Outputs : Type 0 where
  Over : Outputs
  Out : List ℕ → List ℕ → ℕ → Outputs

-- "The output is the last entry made or found."
unfoldable pub put_output : ℕ → Pattern → List ℕ → Entries → Outputs
put_output root p cells TooMany = Over
put_output root p cells (Made bytes count last) = Out (put_number (cell_size * cell_of cells root p.symbols + 4) last cells) bytes count

unfoldable pub output_of : ℕ → Pattern → Outputs → Outputs
output_of root p Over = Over
output_of root p (Out cells bytes count) = put_output root p cells (enter_pattern p (Made bytes count 0))

-- "Entries: patterns in list order". The cells are walked from the list's root, and earlier entries may be there.
unfoldable pub outputs_of : ℕ → List Pattern → Outputs → Outputs
outputs_of root [] made = made
outputs_of root (p ∷ rest) made = outputs_of root rest (output_of root p made)

-- No entry made: the bytes where entries will stand.
abbrev pub empty_entries : List ℕ
empty_entries = replicate entry_room 0
