-- The strings that a walk matches: what it sets and how many symbols match are told by them.
use Prim.Native.Nat.{ℕ, zero, suc, ◌+◌, ◌-◌, ◌≤◌, max}
use mathlib.Core.Bool.{Bool, true, false, cond}
use mathlib.Core.List.{List, [], ◌∷◌}
use mathlib.Core.Path.{◌≡◌, refl}
use native.Mathlib.Omega.{arith}
use borrow.Author.Tests.{eqb-false, ne_eqb}
use lib.Dec.{eqb}
use lib.ListN.{length}
use Rattle.base.proofs.Lists.{clash, never}
use Rattle.table.specs.Table.{look, Look, hit}
use Rattle.std.specs.Prelude.{Some, None}
use Rattle.liang.specs.Levels.{begins}
use Rattle.walk.specs.Chain.{chain}
use Rattle.walk.specs.Walk.{set_step, set_from, match_step, matches_from}
use Rattle.walk.specs.Raise.{highest_set}
use Rattle.trie.specs.Paths.{onward, along}
use Rattle.patterns.proofs.Strings.{begins_cons, begins_more}
use Rattle.matching.proofs.Chains.{highest_append}

-- A walk of at most `left` symbols over a row matches a string, whose last cell has this link and output.
pub data Match (cells : List ℕ) : ℕ → ℕ → List ℕ → List ℕ → ℕ → ℕ → Type 0 where
  last : {left base s : ℕ} {row : List ℕ} {link output : ℕ} → look cells (base + s) s ≡ hit link output → Match cells (suc left) base (s ∷ row) (s ∷ []) link output
  further : {left base s l o link output : ℕ} {row u : List ℕ} → look cells (base + s) s ≡ hit l o → (l ≡ 0 → ⊥) → Match cells left l row u link output
      → Match cells (suc left) base (s ∷ row) (s ∷ u) link output

module _ (cells : List ℕ) where
  -- a matched string, by what the walk's definition asks of it
  pub record Matched (left base : ℕ) (row u : List ℕ) (link output : ℕ) : Type 0 where
    pub short : length u ≤ left
    pub stands : begins u row ≡ true
    pub matches : along cells base u ≡ hit link output

  -- A string that is followed from a cell's link is followed from before the cell too, with the cell's symbol in front. It has a
  -- symbol of its own, since one with none is no path.
  pub along_cons : (base s l o link output : ℕ) (u : List ℕ) → look cells (base + s) s ≡ hit l o → (l ≡ 0 → ⊥) → along cells l u ≡ hit link output
      → along cells base (s ∷ u) ≡ hit link output
  unfolding along onward
  along_cons base s l o link output [] e z a = clash cc
  along_cons base s l o link output (x ∷ u) e z a = rw (e, ne_eqb l 0 z, a)

  pub matched : {left base link output : ℕ} {row u : List ℕ} → Match cells left base row u link output → Matched left base row u link output
  unfolding along begins
  matched (last {left} {base} {s} {row} e) = record { short = omega arith; stands = begins_more s [] row refl; matches = e }
  matched (further {left} {base} {s} {l} {o} {link} {output} {row} {u} e z m) =
      let k = matched m in
      record { short = omega arith; stands = begins_more s u row k.stands; matches = along_cons base s l o link output u e z k.matches }

  pub match_of : (left base link output : ℕ) (row u : List ℕ) → length u ≤ left → begins u row ≡ true → along cells base u ≡ hit link output
      → Match cells left base row u link output
  unfolding along onward begins
  match_of left base link output row [] h b a = clash cc
  match_of left base link output [] (x ∷ u) h b a = never b
  match_of zero base link output (y ∷ row) (x ∷ u) h b a = absurd (omega arith)
  match_of (suc left) base link output (y ∷ row) (x ∷ []) h b a = let p = begins_cons x y [] row b in rw (← p.0) (last a)
  match_of (suc left) base link output (y ∷ row) (x ∷ (z ∷ u)) h b a =
      let p = begins_cons x y (z ∷ u) row b in
      rw (← p.0) (go (look cells (base + x) x) refl a (λ l e. match_of left l link output row (z ∷ u) (omega arith) p.1 e))
    where
      open_link : (l o : ℕ) → look cells (base + x) x ≡ hit l o → ((k : ℕ) → along cells k (z ∷ u) ≡ hit link output → Match cells left k row (z ∷ u) link output)
          → (c : Bool) → eqb l 0 ≡ c → cond c None (along cells l (z ∷ u)) ≡ hit link output → Match cells (suc left) base (x ∷ row) (x ∷ (z ∷ u)) link output
      open_link l o e next true p q = clash cc
      open_link l o e next false p q = further e (eqb-false l 0 p) (next l q)

      go : (found : Look) → look cells (base + x) x ≡ found → onward (λ l. along cells l (z ∷ u)) found ≡ hit link output
          → ((k : ℕ) → along cells k (z ∷ u) ≡ hit link output → Match cells left k row (z ∷ u) link output) → Match cells (suc left) base (x ∷ row) (x ∷ (z ∷ u)) link output
      go None e q next = clash cc
      go (Some found) e q next = open_link found.link found.output e next (eqb found.link 0) refl q

-- what a walk sets at a gap
module _ (cells entries : List ℕ) (gap : ℕ) where
  sets_hit : (left base m end s link output : ℕ) (row : List ℕ) → look cells (base + s) s ≡ hit link output
      → highest_set (set_from cells entries (suc left) base m end (s ∷ row)) gap
      ≡ max (highest_set (chain entries (m + 1) (end + 1) output) gap) (highest_set (cond (eqb link 0) [] (set_from cells entries left link (m + 1) (end + 1) row)) gap)
  unfolding set_from set_step
  sets_hit left base m end s link output row e = rw e (highest_append _ _ gap)

  -- one symbol more, counted with those that have matched or with those still to match
  chain_longer : (m end n output : ℕ) → highest_set (chain entries (m + suc n) (end + suc n) output) gap ≡ highest_set (chain entries (m + 1 + n) (end + 1 + n) output) gap
  chain_longer m end n output =
      let p : m + suc n ≡ m + 1 + n = omega arith in
      let q : end + suc n ≡ end + 1 + n = omega arith in
      rw (p, q)

  -- a walk applies the output of each string that it matches
  pub sets_least : {left base link output : ℕ} {row u : List ℕ} → Match cells left base row u link output → (m end : ℕ)
      → highest_set (chain entries (m + length u) (end + length u) output) gap ≤ highest_set (set_from cells entries left base m end row) gap
  sets_least (last {left} {base} {s} {row} {link} {output} e) m end = omega (arith, sets_hit left base m end s link output row e)
  sets_least (further {left} {base} {s} {l} {o} {link} {output} {row} {u} e z k) m end =
      let next = sets_least k (m + 1) (end + 1) in
      let hit = rw (ne_eqb l 0 z) at (sets_hit left base m end s l o row e) in
      omega (arith, chain_longer m end (length u) output)

  -- and of no others
  pub sets_most : (left base m end bound : ℕ) (row : List ℕ)
      → ((u : List ℕ) (link output : ℕ) → Match cells left base row u link output → highest_set (chain entries (m + length u) (end + length u) output) gap ≤ bound)
      → highest_set (set_from cells entries left base m end row) gap ≤ bound
  unfolding set_from set_step highest_set
  sets_most zero base m end bound row h = omega arith
  sets_most (suc left) base m end bound [] h = omega arith
  sets_most (suc left) base m end bound (s ∷ row) h = go (look cells (base + s) s) refl (λ link k. sets_most left link (m + 1) (end + 1) bound row k)
    where
      Below : ℕ → Type 0
      Below link =
          ((u : List ℕ) (l o : ℕ) → Match cells left link row u l o → highest_set (chain entries (m + 1 + length u) (end + 1 + length u) o) gap ≤ bound)
          → highest_set (set_from cells entries left link (m + 1) (end + 1) row) gap ≤ bound

      rest : (link output : ℕ) → look cells (base + s) s ≡ hit link output → Below link → (z : Bool) → eqb link 0 ≡ z
          → highest_set (cond z [] (set_from cells entries left link (m + 1) (end + 1) row)) gap ≤ bound
      rest link output e next true p = omega arith
      rest link output e next false p = next (λ u l o k. omega (arith, chain_longer m end (length u) o, h (s ∷ u) l o (further e (eqb-false link 0 p) k)))

      go : (found : Look) → look cells (base + s) s ≡ found → ((link : ℕ) → Below link) → highest_set (set_from cells entries (suc left) base m end (s ∷ row)) gap ≤ bound
      go None e next = rw e (omega arith)
      go (Some found) e next =
          omega (arith, sets_hit left base m end s found.link found.output row e, h (s ∷ []) found.link found.output (last e), rest found.link found.output e (next found.link) (eqb found.link 0) refl)

-- how many symbols it matches
module _ (cells : List ℕ) where
  matches_hit : (left base s link output : ℕ) (row : List ℕ) → look cells (base + s) s ≡ hit link output
      → matches_from cells (suc left) base (s ∷ row) ≡ 1 + cond (eqb link 0) 0 (matches_from cells left link row)
  unfolding matches_from match_step
  matches_hit left base s link output row e = rw e

  -- every symbol of a string that the walk matches is one
  pub matches_least : {left base link output : ℕ} {row u : List ℕ} → Match cells left base row u link output → length u ≤ matches_from cells left base row
  matches_least (last {left} {base} {s} {row} {link} {output} e) = omega (arith, matches_hit left base s link output row e)
  matches_least (further {left} {base} {s} {l} {o} {link} {output} {row} {u} e z k) =
      let next = matches_least k in
      let hit = rw (ne_eqb l 0 z) at (matches_hit left base s l o row e) in
      omega arith

  -- and there are no more than the longest of them has
  pub matches_most : (left base bound : ℕ) (row : List ℕ) → ((u : List ℕ) (link output : ℕ) → Match cells left base row u link output → length u ≤ bound)
      → matches_from cells left base row ≤ bound
  unfolding matches_from match_step
  matches_most zero base bound row h = omega arith
  matches_most (suc left) base bound [] h = omega arith
  matches_most (suc left) base bound (s ∷ row) h = go (look cells (base + s) s) refl (λ link b k. matches_most left link b row k)
    where
      Few : ℕ → Type 0
      Few link = (b : ℕ) → ((u : List ℕ) (l o : ℕ) → Match cells left link row u l o → length u ≤ b) → matches_from cells left link row ≤ b

      rest : (link output : ℕ) → look cells (base + s) s ≡ hit link output → Few link → (z : Bool) → eqb link 0 ≡ z → 1 + cond z 0 (matches_from cells left link row) ≤ bound
      rest link output e next true p = let one = h (s ∷ []) link output (last e) in omega arith
      rest link output e next false p =
          let one = h (s ∷ []) link output (last e) in
          let few = next (bound - 1) (λ u l o k. omega (arith, h (s ∷ u) l o (further e (eqb-false link 0 p) k))) in
          omega arith

      go : (found : Look) → look cells (base + s) s ≡ found → ((link : ℕ) → Few link) → matches_from cells (suc left) base (s ∷ row) ≤ bound
      go None e next = rw e (omega arith)
      go (Some found) e next = omega (arith, matches_hit left base s found.link found.output row e, rest found.link found.output e (next found.link) (eqb found.link 0) refl)
