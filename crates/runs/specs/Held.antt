-- CR 6: the same byte by byte, as the code takes a text.
use Rattle.std.specs.Prelude.{ℕ, ◌-◌, Bool, cond, ◌&&◌, List, [], ◌∷◌, ◌++◌, ltb, eqb, length, get_or, take}
use Rattle.base.specs.Limits.{word_limit}
use Rattle.words.specs.Symbols.{letter, apostrophe}
use Rattle.runs.specs.Text.{spread, Held, Holding, Gone, GoneMarked}

-- Of some bytes: the last one (0 where there is none), and those before it.
abbrev pub last_of : List ℕ → ℕ
last_of kept = get_or kept (length kept - 1) 0

abbrev pub but_last : List ℕ → List ℕ
but_last kept = take (length kept - 1) kept

-- Does an apostrophe wait behind the word that is held?
unfoldable pub waits : List ℕ → Bool
waits kept = eqb (last_of kept) apostrophe

-- An apostrophe is held where a letter stands right before it.
unfoldable pub joins : List ℕ → ℕ → Bool
joins kept b = eqb b apostrophe && letter (last_of kept)

-- One byte taken. A letter goes on with what is held up to the word limit; passing it, the run "is let go at once".
unfoldable pub next : Held → ℕ → Held
next (Holding kept) b = cond (letter b) (cond (ltb (length kept) word_limit) (Holding (kept ++ (b ∷ []))) Gone) (cond (joins kept b) (Holding (kept ++ (b ∷ []))) (Holding []))
next Gone b = cond (letter b) Gone (cond (eqb b apostrophe) GoneMarked (Holding []))
next GoneMarked b = cond (letter b) Gone (Holding [])

unfoldable pub held_after : Held → List ℕ → Held
held_after s [] = s
held_after s (b ∷ t) = held_after (next s b) t

module _ {A : Type 0} (byte : ℕ → List A) (word : List ℕ → List A) where
  -- What is held, finished: the word, and the apostrophe that waits behind it.
  unfoldable pub finished : List ℕ → List A
  finished [] = []
  finished (b ∷ t) = cond (waits (b ∷ t)) (word (but_last (b ∷ t)) ++ byte apostrophe) (word (b ∷ t))

  -- What a byte gives: nothing while it is held; all that is held and itself where the run is let go, "as is each later byte of it, a
  -- trailing apostrophe too"; else the word that it ends, and itself.
  unfoldable pub given : Held → ℕ → List A
  given (Holding kept) b = cond (letter b) (cond (ltb (length kept) word_limit) [] (spread byte word (kept ++ (b ∷ [])))) (cond (joins kept b) [] (finished kept ++ byte b))
  given Gone b = byte b
  given GoneMarked b = byte b

  -- "An end call flushes what is held".
  unfoldable pub flushed : Held → List A
  flushed (Holding kept) = finished kept
  flushed Gone = []
  flushed GoneMarked = []

  -- What a piece gives.
  unfoldable pub piece_out : Held → List ℕ → List A
  piece_out s [] = []
  piece_out s (b ∷ t) = given s b ++ piece_out (next s b) t

  -- What pieces give, one after the other, and the end behind them.
  unfoldable pub pieces_out : Held → List (List ℕ) → List A
  pieces_out s [] = flushed s
  pieces_out s (p ∷ ps) = piece_out s p ++ pieces_out (held_after s p) ps

unfoldable pub joined : List (List ℕ) → List ℕ
joined [] = []
joined (p ∷ ps) = p ++ joined ps

-- The bytes that are held.
abbrev pub bytes_of : Held → List ℕ
bytes_of (Holding kept) = kept
bytes_of Gone = []
bytes_of GoneMarked = []
