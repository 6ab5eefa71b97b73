-- First fit as document 01 says it: which path has which base. Nothing here knows bytes or limits. That the packer's table is this
-- layout, and that it finds no room only where this layout passes the limits, is shown in proofs/Theorems.antt.
use Rattle.std.specs.Prelude.{ℕ, zero, suc, ◌+◌, ◌-◌, max, Bool, false, cond, not, ◌&&◌, ◌||◌, List, [], ◌∷◌, ◌++◌, ltb, eqb, length, take}
use Rattle.base.specs.Limits.{symbol_limit}
use Rattle.lines.specs.Lines.{is_nil}
use Rattle.liang.specs.Patterns.{Pattern}
use Rattle.table.specs.Table.{root_base}
use Rattle.liang.specs.Levels.{begins}
use Rattle.base.specs.Tests.{all_from, smallest}
use Rattle.patterns.specs.Next.{opens}

-- A path that goes on, with its base.
pub record Based : Type 0 where
  pub path : List ℕ
  pub base : ℕ

-- Does some pattern go on behind this path with this symbol? The symbols for which one does are the path's "continuations".
unfoldable pub goes_on : List Pattern → List ℕ → ℕ → Bool
goes_on [] u s = false
goes_on (p ∷ rest) u s = begins (u ++ (s ∷ [])) p.symbols || goes_on rest u s

-- Has one of these paths this base?
unfoldable pub has_base : ℕ → List Based → Bool
has_base b [] = false
has_base b (x ∷ placed) = eqb x.base b || has_base b placed

-- "Look at the cell numbered base + symbol": a path uses cell n where it goes on with the symbol n - base.
unfoldable pub used_by : List Pattern → ℕ → Based → Bool
used_by patterns n x = ltb x.base n && goes_on patterns x.path (n - x.base)

-- Does one of these paths use cell n?
unfoldable pub uses_cell : List Pattern → ℕ → List Based → Bool
uses_cell patterns n [] = false
uses_cell patterns n (x ∷ placed) = used_by patterns n x || uses_cell patterns n placed

-- A base "which no path has and whose needed cells are all free".
unfoldable pub fits_at : List Pattern → List Based → List ℕ → ℕ → Bool
fits_at patterns placed u b = not (has_base b placed) && all_from (λ s. not (goes_on patterns u s) || not (uses_cell patterns (b + s) placed)) 1 symbol_limit

-- From this number on no base is had and no cell is used: that many numbers are enough to search, for the one behind them fits.
unfoldable pub reach : List Based → ℕ
reach [] = 0
reach (x ∷ placed) = max (suc (x.base + symbol_limit)) (reach placed)

-- "the smallest base from 1 up" that fits.
unfoldable pub least_base : List Pattern → List Based → List ℕ → ℕ
least_base patterns placed u = smallest (fits_at patterns placed u) 1 (reach placed)

-- "the root first with base 0. Each later path with continuations gets the smallest base from 1 up".
unfoldable pub next_base : List Pattern → List Based → List ℕ → ℕ
next_base patterns placed u =
    let found = least_base patterns placed u in
    cond (is_nil u) root_base found

-- "Paths by length, then symbol order": those of m symbols behind which a pattern goes on, as the list has them. It ascends, so
-- that they do too; and where the pattern above goes on behind the same symbols, they stand there already.
unfoldable pub paths_at : ℕ → List ℕ → List Pattern → List (List ℕ)
paths_at m above [] = []
paths_at m above (p ∷ rest) =
    let later = paths_at m p.symbols rest in
    cond (opens m above p.symbols) (take m p.symbols ∷ later) later

-- n lengths from m on.
unfoldable pub paths_from : ℕ → ℕ → List Pattern → List (List ℕ)
paths_from m zero patterns = []
paths_from m (suc n) patterns = paths_at m [] patterns ++ paths_from (suc m) n patterns

-- The length of the longest pattern: a path that goes on is shorter.
unfoldable pub longest_length : List Pattern → ℕ
longest_length [] = 0
longest_length (p ∷ rest) = max (length p.symbols) (longest_length rest)

-- All paths with continuations.
unfoldable pub paths_of : List Pattern → List (List ℕ)
paths_of patterns = paths_from 0 (longest_length patterns) patterns

-- The paths get their bases in turn, each among those placed before it.
unfoldable pub place_all : List Pattern → List (List ℕ) → List Based → List Based
place_all patterns [] placed = placed
place_all patterns (u ∷ rest) placed = place_all patterns rest (placed ++ (record { path = u; base = next_base patterns placed u } ∷ []))

-- The whole layout: every path with continuations and its base, in the order in which they got them.
unfoldable pub bases_of : List Pattern → List Based
bases_of patterns = place_all patterns (paths_of patterns) []

-- "C is the highest used cell + 1, or 1 if none": over the continuations of one path, n symbols from s on.
unfoldable pub top_from : List Pattern → Based → ℕ → ℕ → ℕ
top_from patterns x s zero = 1
top_from patterns x s (suc n) = max (cond (goes_on patterns x.path s) (suc (x.base + s)) 1) (top_from patterns x (suc s) n)

-- Over all paths.
unfoldable pub top_of : List Pattern → List Based → ℕ
top_of patterns [] = 1
top_of patterns (x ∷ placed) = max (top_from patterns x 1 symbol_limit) (top_of patterns placed)

-- C, however high it is.
unfoldable pub cells_needed : List Pattern → ℕ
cells_needed patterns = top_of patterns (bases_of patterns)
