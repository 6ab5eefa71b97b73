-- What the parts of the calls are given and leave.
use Rattle.std.specs.Prelude.{ℕ, ◌<◌, false, List, ◌≡◌, get_or}
use Rattle.liang.specs.Breaks.{line_break}
use Rattle.base.specs.Limits.{room_size}
use Rattle.words.specs.Words.{inner}
use Rattle.rooms.specs.Rooms.{sheet, bit}

-- The breaks by an exception line alone.
unfoldable pub line_sheet : ℕ → ℕ → ℕ → List ℕ → List ℕ
line_sheet left right n line = sheet room_size (λ i. bit (line_break left right n line i))

-- Levels of a word of n letters stand at inner gaps only.
abbrev pub Inside : ℕ → List ℕ → Type 0
Inside n levels = (i : ℕ) → i < room_size → inner n i ≡ false → get_or levels i 0 ≡ 0
