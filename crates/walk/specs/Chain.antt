-- The output of a path: a chain of entries, each of which sets a level at a gap.
use Rattle.std.specs.Prelude.{ℕ, zero, suc, ◌-◌, cond, ◌&&◌, List, [], ◌∷◌, ◌++◌, leb, ltb, Some, None, Option}
use Rattle.base.specs.Limits.{level_limit}
use Rattle.table.specs.declared.Entry.{Entry}
use Rattle.table.specs.Table.{entry_at}

-- A level set at a gap, which is told by the number of symbols of the row before it.
pub record Setting : Type 0 where
  pub before : ℕ
  pub level : ℕ

-- "Entry k sets its level at the gap "distance" symbols back from the path's end"; "a level outside 1 to 9 or a distance over
-- the path's length is skipped". `m` is the path's length, and `end` the number of symbols of the row up to the path's end.
unfoldable pub setting : ℕ → ℕ → ℕ → ℕ → List Setting
setting m end distance level = cond (leb 1 level && (leb level level_limit && leb distance m)) (record { before = end - distance; level = level } ∷ []) []

-- "Then comes entry "next"; a chain's next number is lower than its own, and 0 ends it": "a next not lower ends the chain after
-- this entry". `go` is the chain from a number on.
unfoldable pub chain_step : (ℕ → List Setting) → ℕ → ℕ → ℕ → Option Entry → List Setting
chain_step go m end k None = []
chain_step go m end k (Some entry) =
    let rest = go entry.next in
    setting m end entry.distance entry.level ++ cond (ltb entry.next k) rest []

-- Entry numbers fall along a chain, so that its first number bounds its length.
unfoldable pub chain_from : List ℕ → ℕ → ℕ → ℕ → ℕ → List Setting
chain_from entries m end zero k = []
chain_from entries m end (suc bound) k = chain_step (λ next. chain_from entries m end bound next) m end k (entry_at entries k)

-- What an output sets.
unfoldable pub chain : List ℕ → ℕ → ℕ → ℕ → List Setting
chain entries m end k = chain_from entries m end k k
