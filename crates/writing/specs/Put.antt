-- Bytes put into a lent room at an offset.
use Rattle.std.specs.Prelude.{ℕ, ◌+◌, ◌≤◌, List, ◌≡◌, length}
use Rattle.std.proofs.lemmas.List.Edits.{sets}

-- The bytes were put into the room from an offset on, their end is returned, and all other bytes are as they were.
pub record Put (bytes : List ℕ) (at : ℕ) (room : List ℕ) (end : ℕ) (after : List ℕ) : Type 0 where
  pub fits : at + length bytes ≤ length room
  pub ends : end ≡ at + length bytes
  pub memory : after ≡ sets room at bytes
