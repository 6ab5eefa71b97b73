-- Phase 5: "Hyphens show before letters 3 to n - 2 as 004's driver prints them, the final "e" rule included."
use Rattle.std.specs.Prelude.{ℕ, ◌+◌, Bool, ◌&&◌, ◌||◌, List, leb, ltb, eqb}
use Rattle.base.specs.Limits.{room_size1980}
use Rattle.rooms.specs.Rooms.{sheet, bit}
use Rattle.sheet1980.specs.Sheet.{u, mem}

-- Letter k was cleared, and no final "e" stands on it or on one of the two letters behind it.
unfoldable pub shows : ℕ → List ℕ → ℕ → Bool
shows finale marks k = eqb (mem marks (u + k)) 0 && (ltb (u + k + 2) finale || ltb finale (u + k))

-- Of a word of n letters, letters 3 to n - 2 are looked at.
unfoldable pub in_print : ℕ → ℕ → Bool
in_print n k = leb 3 k && leb (k + 2) n

-- The gap after letter g is the one before letter g + 1.
unfoldable pub is_break : ℕ → ℕ → List ℕ → ℕ → Bool
is_break n finale marks g = in_print n (g + 1) && shows finale marks (g + 1)

-- "the room is filled as for a break answer": byte g is 1 if gap g is a break, the others up to byte 63 are 0.
unfoldable pub break_sheet : ℕ → ℕ → List ℕ → List ℕ
break_sheet n finale marks = sheet room_size1980 (λ g. bit (is_break n finale marks g))
