-- The breaks of a word over a table, and their count of looks.
use Rattle.std.specs.Prelude.{ℕ, ◌+◌, Bool, cond, ◌&&◌, List, [], ◌∷◌, ltb, eqb, length, set}
use Rattle.base.specs.Limits.{room_size}
use Rattle.words.specs.Symbols.{hyphen}
use Rattle.lookup.specs.Find.{find_either}
use Rattle.lookup.specs.declared.Located.{Located}
use Rattle.lookup.specs.declared.Located.TheVariants.{Customer, House, Nowhere}
use Rattle.lookup.specs.Lookup.{line_of}
use Rattle.liang.specs.Breaks.{line_break, level_break}
use Rattle.rooms.specs.Rooms.{sheet, bit}
use Rattle.hyphenation.specs.Levels.{level_at, word_looks}

-- "if the word is in the customer's list, that line's hyphens; else those of its house line; else" the levels'. A line decides
-- even where none of its hyphens counts.
abbrev pub break_by : Located → List ℕ → List ℕ → (List ℕ → ℕ → Bool) → (ℕ → Bool) → ℕ → Bool
break_by (Customer start end) customer house by_line by_level i = by_line (line_of customer house (Customer start end)) i
break_by (House start end) customer house by_line by_level i = by_line (line_of customer house (House start end)) i
break_by Nowhere customer house by_line by_level i = by_level i

unfoldable pub is_break : ℕ → ℕ → List ℕ → List ℕ → (ℕ → ℕ) → List ℕ → ℕ → Bool
is_break left right customer house level word i =
    break_by (find_either word customer house) customer house (line_break left right (length word)) (level_break left right (length word) level) i

-- "byte i of the room is 1 if gap i is a break, the other bytes up to 63 are 0"
unfoldable pub break_sheet : ℕ → ℕ → List ℕ → List ℕ → List ℕ → List ℕ → ℕ → List ℕ → List ℕ
break_sheet left right customer house cells entries root word =
    sheet room_size (λ i. bit (is_break left right customer house (level_at cells entries root word) word i))

-- "A break answer tells .. the count (0 for an exception word)".
abbrev pub unless_listed : Located → ℕ → ℕ
unless_listed (Customer start end) count = 0
unless_listed (House start end) count = 0
unless_listed Nowhere count = count

unfoldable pub break_looks : List ℕ → List ℕ → List ℕ → ℕ → List ℕ → ℕ
break_looks customer house cells root word = unless_listed (find_either word customer house) (word_looks cells root word)

-- An exception line's hyphens put into a room byte by byte: 1 at the number of letters before each, where it counts. `gap` letters
-- stand before the first byte given.
unfoldable pub mark_hyphens : (ℕ → Bool) → ℕ → List ℕ → List ℕ → List ℕ
mark_hyphens counts gap [] room = room
mark_hyphens counts gap (b ∷ t) room =
    cond (eqb b hyphen) (mark_hyphens counts gap t (cond (ltb gap room_size && counts gap) (set room gap 1) room)) (mark_hyphens counts (gap + 1) t room)
