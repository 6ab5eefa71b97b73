-- The walks from all places of a row: what they set, how many cells they look at, and how many symbols they match.
use Rattle.std.specs.Prelude.{ℕ, zero, suc, ◌+◌, cond, List, [], ◌∷◌, ◌++◌, eqb, Some, None}
use Rattle.base.specs.Limits.{pattern_limit}
use Rattle.table.specs.Table.{look, Look}
use Rattle.walk.specs.Chain.{Setting, chain}

-- "After a match, its output applies; go on with the next symbol and base = link, unless link is 0, the row has ended or 16
-- symbols have matched. The first mismatch ends the walk." `go` is the walk from a link on.
unfoldable pub set_step : (ℕ → List Setting) → List ℕ → ℕ → ℕ → Look → List Setting
set_step go entries m end None = []
set_step go entries m end (Some found) =
    let rest = go found.link in
    chain entries m end found.output ++ cond (eqb found.link 0) [] rest

-- What a walk sets from the symbols given on. `left` symbols may still match, `m` have matched, and `end` symbols of the row
-- stand before the first one given.
unfoldable pub set_from : List ℕ → List ℕ → ℕ → ℕ → ℕ → ℕ → List ℕ → List Setting
set_from cells entries zero base m end row = []
set_from cells entries (suc left) base m end [] = []
set_from cells entries (suc left) base m end (s ∷ row) =
    set_step (λ link. set_from cells entries left link (m + 1) (end + 1) row) entries (m + 1) (end + 1) (look cells (base + s) s)

-- "Each look counts one, also past the last cell."
unfoldable pub look_step : (ℕ → ℕ) → Look → ℕ
look_step go None = 1
look_step go (Some found) =
    let rest = go found.link in
    1 + cond (eqb found.link 0) 0 rest

unfoldable pub looks_from : List ℕ → ℕ → ℕ → List ℕ → ℕ
looks_from cells zero base row = 0
looks_from cells (suc left) base [] = 0
looks_from cells (suc left) base (s ∷ row) = look_step (λ link. looks_from cells left link row) (look cells (base + s) s)

-- How many symbols a walk matches: "the walk from there matches m symbols". Its looks without the mismatch that may end it.
unfoldable pub match_step : (ℕ → ℕ) → Look → ℕ
match_step go None = 0
match_step go (Some found) =
    let rest = go found.link in
    1 + cond (eqb found.link 0) 0 rest

unfoldable pub matches_from : List ℕ → ℕ → ℕ → List ℕ → ℕ
matches_from cells zero base row = 0
matches_from cells (suc left) base [] = 0
matches_from cells (suc left) base (s ∷ row) = match_step (λ link. matches_from cells left link row) (look cells (base + s) s)

-- The walks from every place of a row; the first one given has `place` symbols before it. The base starts at the root.
unfoldable pub settings : List ℕ → List ℕ → ℕ → ℕ → List ℕ → List Setting
settings cells entries root place [] = []
settings cells entries root place (s ∷ row) =
    set_from cells entries pattern_limit root 0 place (s ∷ row) ++ settings cells entries root (place + 1) row

-- "A word's count sums the walks from all n + 2 places."
unfoldable pub looks : List ℕ → ℕ → List ℕ → ℕ
looks cells root [] = 0
looks cells root (s ∷ row) = looks_from cells pattern_limit root (s ∷ row) + looks cells root row

-- What a number for each of the first n places comes to in all: f 0 + .. + f (n - 1).
unfoldable pub sum_to : ℕ → (ℕ → ℕ) → ℕ
sum_to zero f = 0
sum_to (suc n) f = f 0 + sum_to n (λ place. f (suc place))
