-- How long an output and how large a count can be.
use Prim.Native.Nat.{ℕ, ◌+◌, ◌*◌, ◌≤◌}
use mathlib.Core.Bool.{true}
use mathlib.Core.List.{List}
use mathlib.Core.Path.{◌≡◌}
use native.Mathlib.Omega.{arith}
use borrow.Author.Tests.{leb-true}
use lib.ListN.{length}
use Rattle.base.specs.Limits.{room_per_byte, running_text}
use Rattle.base.proofs.Lists.{both}
use Rattle.runs.specs.Text.{Held, Holding, Gone, GoneMarked}
use Rattle.runs.specs.Held.{flushed, bytes_of}
use Rattle.runs.specs.Reached.{can_be_held, is_reached}
use Rattle.runs.proofs.Short.{flushed_short}
use Rattle.states.specs.State.{held_in, Left}
use Rattle.states.specs.declared.TextState.{TextState}
use Rattle.flowing.specs.Output.{as_read, broken, sum, finished_looks, piece_text, piece_looks, end_text, end_looks}
use Rattle.flowing.specs.Post.{look_limit}
use Rattle.flowing.proofs.Laws.{broken_short, held_few}
use Rattle.flowing.proofs.Pieces.{text_short, piece_few}
use Rattle.running.proofs.Laws.{left_reached}

-- no more is held than the text has
reached_most : (h : Held) (total : ℕ) → is_reached h total ≡ true → length (bytes_of h) ≤ total
unfolding is_reached
reached_most (Holding kept) total e = leb-true (length kept) total (both (can_be_held kept) _ e).1
reached_most Gone total e = omega arith
reached_most GoneMarked total e = omega arith

end_few : (left right : ℕ) (customer house table : List ℕ) (h : Held) (total : ℕ) → is_reached h total ≡ true → end_looks customer house table h ≤ look_limit
unfolding end_looks flushed finished_looks is_reached sum
end_few left right customer house table (Holding kept) total e = held_few left right customer house table kept (both (can_be_held kept) _ e).0
end_few left right customer house table Gone total e = omega arith
end_few left right customer house table GoneMarked total e = omega arith

module _ (left right : ℕ) (customer house table : List ℕ) (s : TextState) (l : Left s) where
  -- "three bytes for each byte held or in the piece": no output is longer
  pub piece_length : (piece : List ℕ) → length (piece_text left right customer house table (held_in s) piece) ≤ room_per_byte * (length (bytes_of (held_in s)) + length piece)
  piece_length piece = omega (arith, text_short left right customer house table (held_in s) piece)

  pub end_length : length (end_text left right customer house table (held_in s)) ≤ room_per_byte * length (bytes_of (held_in s))
  unfolding end_text
  end_length = flushed_short as_read (broken left right customer house table) (λ b. omega arith) (broken_short left right customer house table) (held_in s)

  -- and none is longer than three bytes for each byte of the text
  pub piece_fits : (piece : List ℕ) → s.total + length piece ≤ running_text → length (piece_text left right customer house table (held_in s) piece) ≤ room_per_byte * running_text
  piece_fits piece h = omega (arith, h, piece_length piece, reached_most (held_in s) s.total (left_reached s l))

  pub end_fits : length (end_text left right customer house table (held_in s)) ≤ room_per_byte * running_text
  end_fits = omega (arith, l.short, end_length, reached_most (held_in s) s.total (left_reached s l))

  -- at most one word is finished by a byte
  pub piece_count : (piece : List ℕ) → piece_looks customer house table (held_in s) piece ≤ look_limit * length piece
  piece_count piece = piece_few left right customer house table (held_in s) s.total piece (left_reached s l)

  pub end_count : end_looks customer house table (held_in s) ≤ look_limit
  end_count = end_few left right customer house table (held_in s) s.total (left_reached s l)
