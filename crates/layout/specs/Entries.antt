-- First fit's entries as document 01 says them: three numbers each. Nothing here knows bytes or limits.
use Rattle.std.specs.Prelude.{ℕ, zero, suc, ◌-◌, Bool, cond, ◌&&◌, List, [], ◌∷◌, ◌++◌, eqb, length, get_or}
use Rattle.base.specs.Tests.{same_list}
use Rattle.liang.specs.Patterns.{Pattern}

-- "distance, level, next"
pub record Entry : Type 0 where
  pub distance : ℕ
  pub level : ℕ
  pub next : ℕ

-- "an equal earlier entry (all three numbers)"
unfoldable pub equal : Entry → Entry → Bool
equal x y = eqb x.distance y.distance && (eqb x.level y.level && eqb x.next y.next)

-- The number of the first of some entries that is equal to one, 0 if none is. The first of them has number k.
unfoldable pub first_equal : Entry → ℕ → List Entry → ℕ
first_equal x k [] = 0
first_equal x k (y ∷ rest) =
    let later = first_equal x (suc k) rest in
    cond (equal y x) k later

-- The entries made so far, and the number of the one made or found last in the pattern at hand, 0 before its first.
pub record Entering : Type 0 where
  pub made : List Entry
  pub last : ℕ

-- "an equal earlier entry .. is used again", else one more is made: entries are numbered from 1.
unfoldable pub add_at : Entry → List Entry → ℕ → Entering
add_at x made found = cond (eqb found 0) (record { made = made ++ (x ∷ []); last = suc (length made) }) (record { made = made; last = found })

-- "each entry's next is the one before it in this pattern"
unfoldable pub add_level : ℕ → ℕ → Entering → Entering
add_level distance level so_far =
    add_at (record { distance = distance; level = level; next = so_far.last }) so_far.made
    (first_equal (record { distance = distance; level = level; next = so_far.last }) 1 so_far.made)

-- "nonzero levels from the smallest distance up": n distances from d on, of a pattern of m symbols. The level at distance d is
-- that of the gap with m - d symbols before it.
unfoldable pub add_levels : List ℕ → ℕ → ℕ → ℕ → Entering → Entering
add_levels levels m d zero so_far = so_far
add_levels levels m d (suc n) so_far = add_levels levels m (suc d) n (cond (eqb (get_or levels (m - d) 0) 0) so_far (add_level d (get_or levels (m - d) 0) so_far))

unfoldable pub add_pattern : Pattern → Entering → Entering
add_pattern p so_far = add_levels p.levels (length p.symbols) 0 (suc (length p.symbols)) (record { made = so_far.made; last = 0 })

-- "Entries: patterns in list order".
unfoldable pub add_patterns : List Pattern → Entering → Entering
add_patterns [] so_far = so_far
add_patterns (p ∷ rest) so_far = add_patterns rest (add_pattern p so_far)

abbrev pub no_entries : Entering
no_entries = record { made = []; last = 0 }

-- The entries of a list, entry 1 first.
unfoldable pub entry_list : List Pattern → List Entry
entry_list patterns = (add_patterns patterns no_entries).made

-- E, however high it is.
unfoldable pub entries_needed : List Pattern → ℕ
entries_needed patterns = length (entry_list patterns)

-- "The output is the last entry made or found": that of the pattern with these symbols, 0 where there is none.
unfoldable pub output_from : List Pattern → Entering → List ℕ → ℕ
output_from [] so_far u = 0
output_from (p ∷ rest) so_far u =
    let later = output_from rest (add_pattern p so_far) u in
    cond (same_list p.symbols u) (add_pattern p so_far).last later

unfoldable pub output_for : List Pattern → List ℕ → ℕ
output_for patterns u = output_from patterns no_entries u
