-- Levels straight from the patterns: every pattern at every place of the row, the highest wins.
use Rattle.std.specs.Prelude.{ℕ, zero, suc, max, Bool, true, false, cond, ◌&&◌, List, [], ◌∷◌, eqb, get_or}
use Rattle.words.specs.Words.{row_of}
use Rattle.liang.specs.Patterns.{Pattern}

-- Does a row begin with these symbols?
unfoldable pub begins : List ℕ → List ℕ → Bool
begins [] row = true
begins (x ∷ xs) [] = false
begins (x ∷ xs) (y ∷ row) = eqb x y && begins xs row

-- The level that a pattern sets at a gap where it stands at the row's beginning, else 0. A gap is told by the number of
-- symbols of the row before it.
unfoldable pub level_here : Pattern → List ℕ → ℕ → ℕ
level_here p row gap = cond (begins p.symbols row) (get_or p.levels gap 0) 0

-- "Wherever a pattern's symbols stand in this row, its levels apply to the gaps it covers": the highest that one pattern
-- sets at a gap, standing here or further on.
unfoldable pub level_of : Pattern → List ℕ → ℕ → ℕ
level_of p [] gap = 0
level_of p (x ∷ row) zero = level_here p (x ∷ row) zero
level_of p (x ∷ row) (suc gap) = max (level_here p (x ∷ row) (suc gap)) (level_of p row gap)

-- "Each gap has the highest level applied, else 0."
unfoldable pub highest : List Pattern → List ℕ → ℕ → ℕ
highest [] row gap = 0
highest (p ∷ ps) row gap = max (level_of p row gap) (highest ps row gap)

-- Levels: "put an edge before and after the word". "Gap i lies after letter i", so the edge and i letters stand before it.
unfoldable pub liang : List Pattern → List ℕ → ℕ → ℕ
liang patterns word i = highest patterns (row_of word) (suc i)
