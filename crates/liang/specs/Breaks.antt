-- Breaks: the hyphens of an exception line inside the margins, and the odd levels inside them.
use Rattle.std.specs.Prelude.{ℕ, zero, suc, ◌-◌, ◌%◌, Bool, false, cond, ◌&&◌, ◌||◌, List, [], ◌∷◌, leb, ltb, eqb}
use Rattle.base.specs.Limits.{margin_limit}
use Rattle.words.specs.Symbols.{hyphen}
use Rattle.words.specs.Words.{inner}

-- Does a hyphen of this exception line stand right after its first `gap` letters?
unfoldable pub hyphen_at : List ℕ → ℕ → Bool
hyphen_at [] gap = false
hyphen_at (b ∷ t) zero = eqb b hyphen
hyphen_at (b ∷ t) (suc gap) = cond (eqb b hyphen) (hyphen_at t (suc gap)) (hyphen_at t gap)

-- "i at least the left margin and n - i at least the right margin"
unfoldable pub in_margins : ℕ → ℕ → ℕ → ℕ → Bool
in_margins left right n i = leb left i && leb right (n - i)

-- CR 1: "an exception's hyphen counts only where the left margin fits before it and the right margin after it". n is the number of
-- the word's letters, not of the line's bytes.
unfoldable pub line_break : ℕ → ℕ → ℕ → List ℕ → ℕ → Bool
line_break left right n line i = in_margins left right n i && hyphen_at line i

unfoldable pub odd : ℕ → Bool
odd level = eqb (level % 2) 1

-- "the inner gaps i with an odd level", inside the margins
unfoldable pub level_break : ℕ → ℕ → ℕ → (ℕ → ℕ) → ℕ → Bool
level_break left right n level i = inner n i && (in_margins left right n i && odd (level i))

-- Ground 1: "a margin outside 1 to 63".
unfoldable pub bad_margin : ℕ → Bool
bad_margin m = ltb m 1 || ltb margin_limit m
