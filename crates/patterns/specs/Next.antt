-- How the patterns of a list go on behind a beginning.
use Rattle.std.specs.Prelude.{ℕ, Bool, false, cond, not, ◌&&◌, ◌||◌, List, [], ◌∷◌, leb, ltb, eqb, length, get_or, set}
use Rattle.liang.specs.Patterns.{Pattern}
use Rattle.patterns.specs.Common.{common}

-- Does a pattern of the list go on with this symbol behind the first m symbols of `own`? The patterns are given from the first
-- that has these symbols on; they stand together, so that the first that has not ends the search.
unfoldable pub next_in : ℕ → List ℕ → List Pattern → ℕ → Bool
next_in m own [] s = false
next_in m own (p ∷ rest) s = leb m (common own p.symbols) && (eqb (get_or p.symbols m 0) s || next_in m own rest s)

-- The same as marks, symbol by symbol, put into a mask.
unfoldable pub next_mask : ℕ → List ℕ → List Pattern → List ℕ → List ℕ
next_mask m own [] mask = mask
next_mask m own (p ∷ rest) mask = cond (leb m (common own p.symbols)) (next_mask m own rest (set mask (get_or p.symbols m 0) 1)) mask

-- Does a pattern go on behind its first m symbols where the one above it does not behind the same?
unfoldable pub opens : ℕ → List ℕ → List ℕ → Bool
opens m above own = ltb m (length own) && not (leb m (common above own) && ltb m (length above))
