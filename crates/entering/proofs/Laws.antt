-- Laws about entries: one for each way through the code.
use Prim.Native.Nat.{ℕ, zero, suc, ◌+◌, ◌*◌, ◌-◌, ◌≤◌, ◌<◌}
use mathlib.Core.Bool.{Bool, true, false, cond}
use mathlib.Core.List.{List}
use mathlib.Core.Path.{◌≡◌, refl, ◌∙◌}
use native.Mathlib.Numerals.{add-one}
use native.Mathlib.Omega.{arith}
use borrow.Author.Tests.{lt-ltb, le-ltb, eq-eqb, ne_eqb}
use lib.Dec.{eqb}
use lib.ListN.{get_or}
use Rattle.base.specs.Limits.{entry_limit}
use Rattle.table.specs.Table.{entry_size}
use Rattle.fit.specs.Entries.{Entries, TooMany, Made, holds, find_entry, put_entry, enter_at, enter, enter_levels}

-- the search for an equal entry
pub find_start : (bytes : List ℕ) (d l next count : ℕ) → find_entry bytes d l next 1 count ≡ find_entry bytes d l next 1 (suc count - 1)
find_start bytes d l next count = let e : suc count - 1 ≡ count = omega arith in rw e

module _ (bytes : List ℕ) (d l next count k : ℕ) where
  find_turn : k ≤ count → find_entry bytes d l next k (suc count - k) ≡ cond (holds bytes (entry_size * (k - 1)) d l next) k (find_entry bytes d l next (k + 1) (suc count - (k + 1)))
  unfolding find_entry
  find_turn h = let e : suc count - k ≡ suc (suc count - (k + 1)) = omega arith in rw (e, add-one)

  pub find_here : k ≤ count → holds bytes (entry_size * (k - 1)) d l next ≡ true → find_entry bytes d l next k (suc count - k) ≡ k
  find_here h e = find_turn h ∙ rw e

  pub find_on : k ≤ count → holds bytes (entry_size * (k - 1)) d l next ≡ false → find_entry bytes d l next k (suc count - k) ≡ find_entry bytes d l next (k + 1) (suc count - (k + 1))
  find_on h e = find_turn h ∙ rw e

  pub find_none : count < k → find_entry bytes d l next k (suc count - k) ≡ 0
  unfolding find_entry
  find_none h = let e : suc count - k ≡ 0 = omega arith in rw e

-- one entry entered
module _ (bytes : List ℕ) (count d l next : ℕ) {found : ℕ} (p : found ≡ find_entry bytes d l next 1 count) where
  pub enter_again : (found ≡ 0 → ⊥) → enter d l (Made bytes count next) ≡ Made bytes count found
  unfolding enter enter_at
  enter_again h = rw (← p, ne_eqb found 0 h)

  pub enter_new : found ≡ 0 → count < entry_limit → {after : List ℕ} → after ≡ put_entry bytes (entry_size * count) d l next → enter d l (Made bytes count next) ≡ Made after (count + 1) (count + 1)
  unfolding enter enter_at
  enter_new h k e = rw (← p, eq-eqb found 0 h, lt-ltb count entry_limit k, ← e, add-one)

  pub enter_over : found ≡ 0 → entry_limit ≤ count → enter d l (Made bytes count next) ≡ TooMany
  unfolding enter enter_at
  enter_over h k = rw (← p, eq-eqb found 0 h, le-ltb count entry_limit k)

-- a pattern's levels, distance by distance
pub levels_start : (levels : List ℕ) (m : ℕ) (made : Entries) → enter_levels levels m 0 (suc m) made ≡ enter_levels levels m 0 (suc m - 0) made
levels_start levels m made = let e : suc m - 0 ≡ suc m = omega arith in rw e

pub levels_over : (levels : List ℕ) (m d n : ℕ) → enter_levels levels m d n TooMany ≡ TooMany
unfolding enter_levels enter
levels_over levels m d zero = refl
levels_over levels m d (suc n) = go (eqb (get_or levels (m - d) 0) 0) (levels_over levels m (suc d) n)
  where
    go : (z : Bool) → enter_levels levels m (suc d) n TooMany ≡ TooMany → enter_levels levels m (suc d) n (cond z TooMany TooMany) ≡ TooMany
    go true e = e
    go false e = e

module _ (levels : List ℕ) (m d : ℕ) (made : Entries) (h : d ≤ m) {level : ℕ} (p : level ≡ get_or levels (m - d) 0) where
  levels_turn : enter_levels levels m d (suc m - d) made ≡ enter_levels levels m (d + 1) (suc m - (d + 1)) (cond (eqb level 0) made (enter d level made))
  unfolding enter_levels
  levels_turn = let e : suc m - d ≡ suc (suc m - (d + 1)) = omega arith in rw (e, p, add-one)

  pub levels_skip : level ≡ 0 → enter_levels levels m d (suc m - d) made ≡ enter_levels levels m (d + 1) (suc m - (d + 1)) made
  levels_skip z = levels_turn ∙ rw (eq-eqb level 0 z)

  pub levels_enter : (level ≡ 0 → ⊥) → {next : Entries} → enter d level made ≡ next → enter_levels levels m d (suc m - d) made ≡ enter_levels levels m (d + 1) (suc m - (d + 1)) next
  levels_enter z e = levels_turn ∙ rw (ne_eqb level 0 z, e)

pub levels_end : (levels : List ℕ) (m d : ℕ) (made : Entries) → m < d → enter_levels levels m d (suc m - d) made ≡ made
unfolding enter_levels
levels_end levels m d made h = let e : suc m - d ≡ 0 = omega arith in rw e
