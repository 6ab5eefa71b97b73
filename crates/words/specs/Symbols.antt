-- The alphabet: bytes, letters and symbols.
use Rattle.std.specs.Prelude.{ℕ, ◌+◌, ◌-◌, Bool, cond, ◌&&◌, ◌||◌, List, [], ◌∷◌, leb, eqb}
use Rattle.base.specs.Limits.{edge, apostrophe_symbol}

-- The bytes that the texts name.
abbrev pub line_feed : ℕ
line_feed = 10

abbrev pub hyphen : ℕ
hyphen = 45

abbrev pub dot : ℕ
dot = 46

abbrev pub apostrophe : ℕ
apostrophe = 39

-- a small letter, a to z
unfoldable pub small : ℕ → Bool
small b = leb 97 b && leb b 122

-- a capital letter, A to Z
unfoldable pub capital : ℕ → Bool
capital b = leb 65 b && leb b 90

-- Word: "each A to Z or a to z"
unfoldable pub letter : ℕ → Bool
letter b = small b || capital b

-- Word: "capitals count as small"
unfoldable pub lower : ℕ → ℕ
lower b = cond (capital b) (b + 32) b

-- Pattern line: a digit 1 to 9; "0" is none.
unfoldable pub digit : ℕ → Bool
digit b = leb 49 b && leb b 57

-- Symbols: "a to z are 1 to 26. The word's edge, written ".", is 27." CR 5: "An apostrophe (byte 39) .. is symbol 28". A byte that
-- is no symbol gives 0.
unfoldable pub symbol_of : ℕ → ℕ
symbol_of b = cond (small b) (b - 96) (cond (eqb b dot) edge (cond (eqb b apostrophe) apostrophe_symbol 0))

-- Order: a line's "symbols without digits and hyphens".
unfoldable pub symbols_of : List ℕ → List ℕ
symbols_of [] = []
symbols_of (b ∷ t) = cond (eqb (symbol_of b) 0) (symbols_of t) (symbol_of b ∷ symbols_of t)
