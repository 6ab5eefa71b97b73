-- Widths in millimetres: which are refused, how they are summed, and when a sum fits. A width is a 64-bit float, an IEEE 754
-- binary64 number; `add binary64` is its addition, rounded once, to nearest, ties to even.
use Rattle.std.specs.Prelude.{ℕ, zero, suc, ◌-◌, Bool, false, cond, not, ◌||◌, List, [], ◌∷◌, eqb, pos, get_or, Float}
use Rattle.std.specs.Float.{fin, binary64}
use Rattle.std.specs.Float.Ieee.{add, lt, is_nan}
use Rattle.base.specs.Limits.{letter_limit, apostrophe_symbol}
use Rattle.words.specs.Symbols.{lower, symbol_of}

-- "0 to 1,000": the ends, 0 and 125 times 2 to the power of 3.
abbrev pub zero_width : Float
zero_width = fin false 0 (pos 0)

abbrev pub width_limit : Float
width_limit = fin false 125 (pos 3)

-- "A given width outside 0 to 1,000, or not-a-number". Both ends are widths, and -0.0 isn't below 0.
unfoldable pub bad_width : Float → Bool
bad_width x = lt x zero_width || (lt width_limit x || is_nan x)

-- Is one of some widths refused?
unfoldable pub any_bad : List Float → Bool
any_bad [] = false
any_bad (x ∷ rest) = bad_width x || any_bad rest

-- Where a symbol's width stands, from 0: a letter's at its number in the alphabet, and behind the letters' the "27th", the apostrophe's.
unfoldable pub width_place : ℕ → ℕ
width_place s = cond (eqb s apostrophe_symbol) letter_limit (s - 1)

-- The width of a letter of a word, or of its apostrophe. "capitals count as small".
unfoldable pub letter_width : List Float → ℕ → Float
letter_width widths b = get_or widths (width_place (symbol_of (lower b))) zero_width

-- "A width is the sum from the left, starting at zero, each addition rounded once": that of a word's first i letters.
unfoldable pub width_to : List Float → List ℕ → ℕ → Float
width_to widths word zero = zero_width
width_to widths word (suc i) = add binary64 (width_to widths word i) (letter_width widths (get_or word i 0))

-- "it fits if it isn't above the line width"
unfoldable pub fits_in : Float → Float → Bool
fits_in line width = not (lt line width)
