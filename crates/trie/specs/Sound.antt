-- Chains of entries without a fault.
use Rattle.std.specs.Prelude.{ℕ, zero, suc, Bool, true, false, cond, ◌&&◌, List, leb, ltb, eqb, Some, None, Option}
use Rattle.base.specs.Limits.{level_limit}
use Rattle.table.specs.declared.Entry.{Entry}
use Rattle.table.specs.Table.{entry_at}

-- "no chain reached shows a fault just listed": a number over E or a kind other than 3, a level outside 1 to 9, a distance over
-- the path's length m, a next not lower. `go` is the chain from a number on.
unfoldable pub sound_step : (ℕ → Bool) → ℕ → ℕ → Option Entry → Bool
sound_step go m k None = false
sound_step go m k (Some entry) =
    let rest = go entry.next in
    (leb 1 entry.level && leb entry.level level_limit) && (leb entry.distance m && (ltb entry.next k && rest))

-- A chain without a fault; 0 is none. Its first number bounds its length.
unfoldable pub sound_from : List ℕ → ℕ → ℕ → ℕ → Bool
sound_from entries m zero k = eqb k 0
sound_from entries m (suc bound) k =
    let onward = sound_step (λ next. sound_from entries m bound next) m k (entry_at entries k) in
    cond (eqb k 0) true onward

unfoldable pub sound : List ℕ → ℕ → ℕ → Bool
sound entries m k = sound_from entries m k k
