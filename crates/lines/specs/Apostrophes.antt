-- CR 5: where an apostrophe may stand in a line, said of the line's symbols: "read without digits and hyphens".
use Rattle.std.specs.Prelude.{ℕ, suc, ◌+◌, ◌-◌, ◌≤◌, Bool, true, false, not, ◌&&◌, ◌||◌, List, [], ◌∷◌, ◌⊎◌, ◌≡◌, leb, eqb, length, get_or}
use Rattle.base.specs.Limits.{letter_limit, apostrophe_symbol}
use Rattle.words.specs.Symbols.{apostrophe, symbols_of}

-- "one of the 26", by its symbol
unfoldable pub letter_symbol : ℕ → Bool
letter_symbol s = leb 1 s && leb s letter_limit

-- Is the first of these symbols one of the 26? Where there is none, as `none` says.
unfoldable pub letter_next : Bool → List ℕ → Bool
letter_next none [] = none
letter_next none (s ∷ t) = letter_symbol s

-- "An apostrophe (byte 39) between two of the 26 letters", "but a pattern may begin or end with it": on each side of an apostrophe
-- stands one of the 26 or, with `ends`, nothing. `before`: so it is on the left of the first symbol given.
unfoldable pub apostrophes_fit : Bool → Bool → List ℕ → Bool
apostrophes_fit ends before [] = true
apostrophes_fit ends before (s ∷ t) = (not (eqb s apostrophe_symbol) || (before && letter_next ends t)) && apostrophes_fit ends (letter_symbol s) t

-- Has a line byte 39?
unfoldable pub has_apostrophe : List ℕ → Bool
has_apostrophe [] = false
has_apostrophe (b ∷ t) = eqb b apostrophe || has_apostrophe t

-- Do the apostrophes of a line fit, of which it is known whether it has any?
unfoldable pub fit_if_any : Bool → Bool → List ℕ → Bool
fit_if_any ends any line = not any || apostrophes_fit ends ends (symbols_of line)

-- The same as the customer says it. "between two of the 26 letters": the symbol at place i has one right before it and one right
-- behind it. (Past the last symbol stands 0, which is none of the 26.)
pub record Between (symbols : List ℕ) (i : ℕ) : Type 0 where
  pub inside : 1 ≤ i
  pub before : letter_symbol (get_or symbols (i - 1) 0) ≡ true
  pub behind : letter_symbol (get_or symbols (i + 1) 0) ≡ true

-- An exception line's apostrophes.
abbrev pub AllBetween : List ℕ → Type 0
AllBetween symbols = (i : ℕ) → get_or symbols i 0 ≡ apostrophe_symbol → Between symbols i

-- A pattern's: "but a pattern may begin or end with it".
abbrev pub AllBetweenOrEnds : List ℕ → Type 0
AllBetweenOrEnds symbols = (i : ℕ) → get_or symbols i 0 ≡ apostrophe_symbol → Between symbols i ⊎ ((i ≡ 0) ⊎ (suc i ≡ length symbols))
