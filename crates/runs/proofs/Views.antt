-- What a text can leave held, case by case.
use Prim.Native.Nat.{ℕ, ◌≤◌}
use mathlib.Core.Bool.{true}
use mathlib.Core.List.{List, [], ◌∷◌, ◌++◌}
use mathlib.Core.Path.{◌≡◌}
use lib.ListN.{length}
use Rattle.base.specs.Limits.{word_limit}
use Rattle.words.specs.Symbols.{letter, apostrophe}
use Rattle.runs.specs.Text.{Held, Holding, Gone, GoneMarked}
use Rattle.runs.specs.Held.{last_of}

pub data View : Type 0 where
  idle : View  -- no word has begun
  in_word : List ℕ → View  -- a word
  marked : List ℕ → View  -- a word, and an apostrophe behind it
  let_go : View
  let_go_marked : View

abbrev pub held_in : View → Held
held_in idle = Holding []
held_in (in_word h) = Holding h
held_in (marked h) = Holding (h ++ (apostrophe ∷ []))
held_in let_go = Gone
held_in let_go_marked = GoneMarked

-- a word that is held ends with a letter and is within the limit
abbrev pub Fits : View → Type 0
Fits idle = Unit
Fits (in_word h) = (letter (last_of h) ≡ true) × (length h ≤ word_limit)
Fits (marked h) = (letter (last_of h) ≡ true) × (length h ≤ word_limit)
Fits let_go = Unit
Fits let_go_marked = Unit
