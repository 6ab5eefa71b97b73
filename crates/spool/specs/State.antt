-- The sizes that the words and their lines keep to, and what whoever makes a word's line does to its room.
use Rattle.std.specs.Prelude.{ℕ, ◌≤◌, ◌≡◌, length}
use Rattle.writing.specs.declared.Writer.{Writer}

-- The bytes of a buffer, for words that are read and for lines that are written.
abbrev pub piece : ℕ
piece = 65536

-- The most bytes of what a program's sum is called in its last line.
abbrev pub label_limit : ℕ
label_limit = 51

-- Bytes were put into a room: it is the one that was lent, as large as before, and writing goes on inside of it.
pub record Grows (before after : Writer) : Type 0 where
  pub room : after.room.ghost_name ≡ before.room.ghost_name
  pub size : length after.room.now ≡ length before.room.now
  pub ends : after.at ≤ length after.room.now
