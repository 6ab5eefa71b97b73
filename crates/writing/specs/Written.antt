-- What a writer puts into its room.
use Rattle.std.specs.Prelude.{ℕ, ◌+◌, ◌≤◌, List, ◌≡◌, length}
use Rattle.writing.specs.Put.{Put}
use Rattle.writing.specs.declared.Writer.{Writer}

-- The room has space for more bytes where writing goes on.
abbrev pub Fits : List ℕ → Writer → Type 0
Fits bytes w = w.at + length bytes ≤ length w.room.now

-- The bytes were put there, and it is still the room that was lent, of its size.
pub record Writes (bytes : List ℕ) (before after : Writer) : Type 0 where
  pub room : after.room.ghost_name ≡ before.room.ghost_name
  pub size : length after.room.now ≡ length before.room.now
  pub put : Put bytes before.at before.room.now after.at after.room.now
