-- Demand 2 in the customer's words: which exception line decides of a word, and which of its hyphens count.
use Rattle.std.specs.Prelude.{ℕ, ◌≤◌, List, ◌∷◌, ◌++◌, ◌⊎◌, ◌≡◌, length}
use Rattle.std.proofs.Common.{inl, inr}
use Rattle.words.specs.Symbols.{hyphen, symbols_of}
use Rattle.lookup.specs.Listed.{Listed, shown}

-- "the customer's exception line decides, else the house line"
abbrev pub Decided : (word customer house : List ℕ) → Type 0
Decided word customer house = Listed word customer ⊎ ((Listed word customer → ⊥) × Listed word house)

-- That line as it is written, without its line feed.
abbrev pub deciding_line : (word customer house : List ℕ) → Decided word customer house → List ℕ
deciding_line word customer house (inl l) = shown word customer l
deciding_line word customer house (inr (n, l)) = shown word house l

-- CR 1: "an exception's hyphen counts only where the left margin fits before it and the right margin after it". Such a hyphen
-- stands after i letters of the line, at least as many as the left margin says, with at least as many behind it as the right one says.
pub record HyphenCounts (left right : ℕ) (line : List ℕ) (i : ℕ) : Type 0 where
  pub before : List ℕ
  pub behind : List ℕ
  pub stands : line ≡ before ++ (hyphen ∷ behind)
  pub letters : length (symbols_of before) ≡ i
  pub left_fits : left ≤ length (symbols_of before)
  pub right_fits : right ≤ length (symbols_of behind)
