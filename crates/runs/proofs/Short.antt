-- How much a text gives: what a byte gives is paid for by the bytes that it takes or finishes.
use Prim.Native.Nat.{ℕ, ◌+◌, ◌*◌, ◌-◌, ◌≤◌}
use mathlib.Core.Bool.{Bool, true, false, cond}
use mathlib.Core.List.{List, [], ◌∷◌, ◌++◌}
use native.Mathlib.Omega.{arith}
use lib.Dec.{ltb, eqb}
use lib.ListN.{length, length-append}
use lib.Seq.{length-take-le}
use Rattle.base.specs.Limits.{word_limit, room_per_byte}
use Rattle.words.specs.Symbols.{letter, apostrophe}
use Rattle.runs.specs.Text.{spread, Held, Holding, Gone, GoneMarked}
use Rattle.runs.specs.Held.{but_last, waits, joins, next, held_after, finished, given, flushed, piece_out, bytes_of}

-- a byte gives one, and a word at most three for each of its own
module _ {A : Type 0} (byte : ℕ → List A) (word : List ℕ → List A) (one : (b : ℕ) → length (byte b) ≤ 1) (three : (w : List ℕ) → length (word w) ≤ room_per_byte * length w) where
  spread_short : (l : List ℕ) → length (spread byte word l) ≤ length l
  unfolding spread
  spread_short [] = omega arith
  spread_short (b ∷ t) = omega (arith, one b, spread_short t, length-append (byte b) (spread byte word t))

  pub finished_short : (kept : List ℕ) → length (finished byte word kept) ≤ room_per_byte * length kept
  unfolding finished
  finished_short [] = omega arith
  finished_short (b ∷ t) = go (waits (b ∷ t))
    where
      go : (z : Bool) → length (cond z (word (but_last (b ∷ t)) ++ byte apostrophe) (word (b ∷ t))) ≤ room_per_byte * length (b ∷ t)
      go true =
          omega (
            arith,
            three (but_last (b ∷ t)),
            length-take-le (length (b ∷ t) - 1) (b ∷ t) (omega arith),
            one apostrophe,
            length-append (word (but_last (b ∷ t))) (byte apostrophe),
          )
      go false = three (b ∷ t)

  -- what a byte gives, and room for what is held behind it
  pub given_short : (s : Held) (b : ℕ) → length (given byte word s b) + room_per_byte * length (bytes_of (next s b)) ≤ room_per_byte * (length (bytes_of s) + 1)
  unfolding given next
  given_short (Holding kept) b = go (letter b) (ltb (length kept) word_limit) (joins kept b)
    where
      go : (z y j : Bool)
          → length (cond z (cond y [] (spread byte word (kept ++ (b ∷ [])))) (cond j [] (finished byte word kept ++ byte b)))
          + room_per_byte * length (bytes_of (cond z (cond y (Holding (kept ++ (b ∷ []))) Gone) (cond j (Holding (kept ++ (b ∷ []))) (Holding []))))
          ≤ room_per_byte * (length kept + 1)
      go true true j = omega (arith, length-append kept (b ∷ []))
      go true false j = omega (arith, spread_short (kept ++ (b ∷ [])), length-append kept (b ∷ []))
      go false y true = omega (arith, length-append kept (b ∷ []))
      go false y false = omega (arith, finished_short kept, one b, length-append (finished byte word kept) (byte b))
  given_short Gone b = go (letter b) (eqb b apostrophe)
    where
      go : (z y : Bool) → length (byte b) + room_per_byte * length (bytes_of (cond z Gone (cond y GoneMarked (Holding [])))) ≤ room_per_byte * (0 + 1)
      go true y = omega (arith, one b)
      go false true = omega (arith, one b)
      go false false = omega (arith, one b)
  given_short GoneMarked b = go (letter b)
    where
      go : (z : Bool) → length (byte b) + room_per_byte * length (bytes_of (cond z Gone (Holding []))) ≤ room_per_byte * (0 + 1)
      go true = omega (arith, one b)
      go false = omega (arith, one b)

  pub flushed_short : (s : Held) → length (flushed byte word s) ≤ room_per_byte * length (bytes_of s)
  unfolding flushed
  flushed_short (Holding kept) = finished_short kept
  flushed_short Gone = omega arith
  flushed_short GoneMarked = omega arith

  -- "The output room must have three bytes for each byte held or in the piece": a piece never gives more, and leaves as much as the
  -- bytes then held ask for.
  pub piece_short : (s : Held) (piece : List ℕ)
      → length (piece_out byte word s piece) + room_per_byte * length (bytes_of (held_after s piece)) ≤ room_per_byte * (length (bytes_of s) + length piece)
  unfolding piece_out held_after
  piece_short s [] = omega arith
  piece_short s (b ∷ t) =
      omega (arith, given_short s b, piece_short (next s b) t, length-append (given byte word s b) (piece_out byte word (next s b) t))
