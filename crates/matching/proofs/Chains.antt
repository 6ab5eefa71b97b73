-- What a chain sets does not depend on where its path stands in the row.
use Prim.Native.Nat.{ℕ, zero, suc, ◌+◌, ◌-◌, ◌≤◌, max}
use mathlib.Core.Bool.{Bool, true, false, cond, ◌&&◌}
use mathlib.Core.List.{List, [], ◌∷◌, ◌++◌}
use mathlib.Core.Path.{◌≡◌, refl}
use native.Mathlib.Omega.{arith}
use borrow.Author.Tests.{leb-true, eqb-true, eq-eqb}
use lib.Dec.{leb, ltb, eqb}
use Rattle.base.specs.Limits.{level_limit}
use Rattle.table.specs.declared.Entry.{Entry}
use Rattle.table.specs.Table.{entry_at}
use Rattle.std.specs.Prelude.{Some, None, Option}
use Rattle.walk.specs.Chain.{Setting, setting, chain_step, chain_from, chain}
use Rattle.walk.specs.Raise.{highest_set}

pub highest_append : (a b : List Setting) (gap : ℕ) → highest_set (a ++ b) gap ≡ max (highest_set a gap) (highest_set b gap)
unfolding highest_set
highest_append [] b gap = omega arith
highest_append (s ∷ a) b gap = omega (arith, highest_append a b gap)

-- one level at one gap
abbrev single : ℕ → ℕ → List Setting
single before level = record { before = before; level = level } ∷ []

-- One chain applied at two ends: what holds of each pair of settings, and of what is joined of such, holds of all of it.
module _ (entries : List ℕ) (m e f : ℕ) (R : List Setting → List Setting → Type 0) (none : R [] []) (join : (a b c d : List Setting) → R a b → R c d → R (a ++ c) (b ++ d))
    (one : (distance level : ℕ) → distance ≤ m → R (single (e - distance) level) (single (f - distance) level)) where
  setting_pair : (distance level : ℕ) → R (setting m e distance level) (setting m f distance level)
  unfolding setting
  setting_pair distance level = go (leb 1 level) (leb level level_limit) (leb distance m) refl
    where
      go : (x y z : Bool) → leb distance m ≡ z → R (cond (x && (y && z)) (single (e - distance) level) []) (cond (x && (y && z)) (single (f - distance) level) [])
      go true true true p = one distance level (leb-true distance m p)
      go true true false p = none
      go true false z p = none
      go false y z p = none

  step_pair : (k : ℕ) (g h : ℕ → List Setting) → ((next : ℕ) → R (g next) (h next)) → (entry : Option Entry) → R (chain_step g m e k entry) (chain_step h m f k entry)
  unfolding chain_step
  step_pair k g h r None = none
  step_pair k g h r (Some entry) = join _ _ _ _ (setting_pair entry.distance entry.level) (go (ltb entry.next k))
    where
      go : (z : Bool) → R (cond z (g entry.next) []) (cond z (h entry.next) [])
      go true = r entry.next
      go false = none

  from_pair : (bound k : ℕ) → R (chain_from entries m e bound k) (chain_from entries m f bound k)
  unfolding chain_from
  from_pair zero k = none
  from_pair (suc bound) k =
      step_pair k (λ next. chain_from entries m e bound next) (λ next. chain_from entries m f bound next) (λ next. from_pair bound next) (entry_at entries k)

  chain_pair : (k : ℕ) → R (chain entries m e k) (chain entries m f k)
  unfolding chain
  chain_pair k = from_pair k k

-- a path of m symbols from a place on, against the same path at the row's beginning
module _ (entries : List ℕ) (m place k : ℕ) where
  pub chain_most : (gap bound : ℕ) → ((j : ℕ) → place + j ≡ gap → j ≤ m → highest_set (chain entries m m k) j ≤ bound) → highest_set (chain entries m (place + m) k) gap ≤ bound
  unfolding highest_set
  chain_most gap bound = chain_pair entries m (place + m) m R (λ h. omega arith) join one k
    where
      R : List Setting → List Setting → Type 0
      R a b = ((j : ℕ) → place + j ≡ gap → j ≤ m → highest_set b j ≤ bound) → highest_set a gap ≤ bound

      join : (a b c d : List Setting) → R a b → R c d → R (a ++ c) (b ++ d)
      join a b c d r s h =
          let x = r (λ j p q. omega (arith, h j p q, highest_append b d j)) in
          let y = s (λ j p q. omega (arith, h j p q, highest_append b d j)) in
          omega (arith, highest_append a c gap)

      one : (distance level : ℕ) → distance ≤ m → R (single (place + m - distance) level) (single (m - distance) level)
      one distance level d h = go (eqb (place + m - distance) gap) refl
        where
          go : (z : Bool) → eqb (place + m - distance) gap ≡ z → max (cond z level 0) 0 ≤ bound
          go true p =
              let q = eqb-true (place + m - distance) gap p in
              let x = h (m - distance) (omega arith) (omega arith) in
              let y = rw (eq-eqb (m - distance) (m - distance) refl) at x in
              omega arith
          go false p = omega arith

  pub chain_least : (j : ℕ) → highest_set (chain entries m m k) j ≤ highest_set (chain entries m (place + m) k) (place + j)
  unfolding highest_set
  chain_least j = chain_pair entries m (place + m) m R (omega arith) join one k
    where
      R : List Setting → List Setting → Type 0
      R a b = highest_set b j ≤ highest_set a (place + j)

      join : (a b c d : List Setting) → R a b → R c d → R (a ++ c) (b ++ d)
      join a b c d r s = omega (arith, highest_append b d j, highest_append a c (place + j))

      one : (distance level : ℕ) → distance ≤ m → R (single (place + m - distance) level) (single (m - distance) level)
      one distance level d = go (eqb (m - distance) j) refl
        where
          go : (z : Bool) → eqb (m - distance) j ≡ z → max (cond z level 0) 0 ≤ max (cond (eqb (place + m - distance) (place + j)) level 0) 0
          go true p = let q = eqb-true (m - distance) j p in rw (eq-eqb (place + m - distance) (place + j) (omega arith)) (omega arith)
          go false p = omega arith
