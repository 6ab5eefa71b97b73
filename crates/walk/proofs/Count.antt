-- Over any bytes: a walk looks at no more than 16 cells from each place, at as many as it matches or at one more, and a row's count
-- is the sum of its places'.
use Prim.Native.Nat.{ℕ, zero, suc, ◌+◌, ◌*◌, ◌≤◌}
use mathlib.Core.Bool.{Bool, true, false, cond}
use mathlib.Core.List.{List, [], ◌∷◌}
use mathlib.Core.Logic.{◌⊎◌, inl, inr}
use mathlib.Core.Path.{◌≡◌, refl}
use native.Mathlib.Omega.{arith}
use lib.Dec.{eqb}
use lib.ListN.{length, drop}
use Rattle.base.specs.Limits.{pattern_limit}
use Rattle.table.specs.Table.{look, Look}
use Rattle.std.specs.Prelude.{Some, None}
use Rattle.walk.specs.Walk.{look_step, looks_from, match_step, matches_from, looks, sum_to}

step_few : (go : ℕ → ℕ) (left : ℕ) → ((link : ℕ) → go link ≤ left) → (l : Look) → look_step go l ≤ suc left
unfolding look_step
step_few go left h None = omega arith
step_few go left h (Some found) = pick (eqb found.link 0)
  where
    pick : (z : Bool) → 1 + cond z 0 (go found.link) ≤ suc left
    pick true = omega arith
    pick false = omega (arith, h found.link)

pub walk_few : (cells : List ℕ) (left base : ℕ) (row : List ℕ) → looks_from cells left base row ≤ left
unfolding looks_from
walk_few cells zero base row = omega arith
walk_few cells (suc left) base [] = omega arith
walk_few cells (suc left) base (s ∷ row) = step_few (λ link. looks_from cells left link row) left (λ link. walk_few cells left link row) (look cells (base + s) s)

pub looks_few : (cells : List ℕ) (root : ℕ) (row : List ℕ) → looks cells root row ≤ pattern_limit * length row
unfolding looks
looks_few cells root [] = omega arith
looks_few cells root (s ∷ row) = omega (arith, walk_few cells pattern_limit root (s ∷ row), looks_few cells root row)

-- "and looks at m or m + 1 cells", where m symbols match: one more where a mismatch ends the walk
step_or : (f g : ℕ → ℕ) → ((link : ℕ) → (f link ≡ g link) ⊎ (f link ≡ suc (g link))) → (l : Look) → (look_step f l ≡ match_step g l) ⊎ (look_step f l ≡ suc (match_step g l))
unfolding look_step match_step
step_or f g h None = inr refl
step_or f g h (Some found) = pick (eqb found.link 0) (h found.link)
  where
    pick : (z : Bool) → (f found.link ≡ g found.link) ⊎ (f found.link ≡ suc (g found.link))
        → (1 + cond z 0 (f found.link) ≡ 1 + cond z 0 (g found.link)) ⊎ (1 + cond z 0 (f found.link) ≡ suc (1 + cond z 0 (g found.link)))
    pick true r = inl refl
    pick false (inl e) = inl (rw e)
    pick false (inr e) = inr (omega arith)

pub looks_matches : (cells : List ℕ) (left base : ℕ) (row : List ℕ)
    → (looks_from cells left base row ≡ matches_from cells left base row) ⊎ (looks_from cells left base row ≡ suc (matches_from cells left base row))
unfolding looks_from matches_from
looks_matches cells zero base row = inl refl
looks_matches cells (suc left) base [] = inl refl
looks_matches cells (suc left) base (s ∷ row) = step_or _ _ (λ link. looks_matches cells left link row) (look cells (base + s) s)

-- "A word's count sums the walks from all n + 2 places."
pub looks_sum : (cells : List ℕ) (root : ℕ) (row : List ℕ) → looks cells root row ≡ sum_to (length row) (λ place. looks_from cells pattern_limit root (drop place row))
unfolding looks sum_to
looks_sum cells root [] = refl
looks_sum cells root (s ∷ row) = rw (looks_sum cells root row)
