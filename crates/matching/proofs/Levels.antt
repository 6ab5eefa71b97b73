-- Over a right table the walks give Liang's levels.
use Prim.Native.Nat.{ℕ, zero, suc, ◌+◌, ◌≤◌, ◌<◌}
use mathlib.Core.Bool.{Bool, true, false, cond}
use mathlib.Core.List.{List, [], ◌∷◌}
use mathlib.Core.Logic.{◌⊎◌, inl, inr}
use mathlib.Core.Path.{◌≡◌, refl, ap}
use native.Mathlib.Decide.{dec_le}
use native.Mathlib.Nat.{zero-add}
use native.Mathlib.Omega.{arith}
use lib.ListN.{length, get_or, get_or-eq_default}
use Rattle.base.specs.Limits.{pattern_limit}
use Rattle.liang.specs.Patterns.{Pattern}
use Rattle.liang.specs.Levels.{begins, level_here, level_of, highest}
use Rattle.walk.specs.Chain.{chain, chain_from}
use Rattle.walk.specs.Walk.{set_from, settings}
use Rattle.walk.specs.Raise.{highest_set}
use Rattle.patterns.specs.Strings.{all_symbols, nth, Shaped}
use Rattle.trie.specs.Paths.{Path}
use Rattle.rightness.specs.Right.{PathsRight, Exact}
use Rattle.patterns.proofs.Strings.{begins_self, begins_alphabet, alphabet_rest, Found, search_pattern, most_each, most_all}
use Rattle.matching.proofs.Chains.{highest_append, chain_most, chain_least}
use Rattle.matching.proofs.Matches.{Matched, matched, match_of, sets_least, sets_most}

level_stands : (p : Pattern) (row : List ℕ) (gap : ℕ) → begins p.symbols row ≡ true → level_here p row gap ≡ get_or p.levels gap 0
unfolding level_here
level_stands p row gap b = rw b

-- a row's first place is one of its places
level_first : (p : Pattern) (x : ℕ) (row : List ℕ) (gap : ℕ) → level_here p (x ∷ row) gap ≤ level_of p (x ∷ row) gap
unfolding level_of
level_first p x row zero = omega arith
level_first p x row (suc gap) = omega arith

-- output 0 sets nothing
chain_none : (entries : List ℕ) (m end gap : ℕ) → highest_set (chain entries m end 0) gap ≡ 0
unfolding chain chain_from highest_set
chain_none entries m end gap = refl

module _ (patterns : List Pattern) (cells entries : List ℕ) (root : ℕ) (right : PathsRight patterns cells entries root)
    (shaped : (i : ℕ) → i < length patterns → Shaped (nth patterns i)) where
  -- From one place nothing is set but a level of a pattern that stands there: a matched string is a path, and its output is 0 or
  -- exactly a pattern's levels. A gap before the place has no j, so any bound will do there.
  place_most : (row : List ℕ) → all_symbols row ≡ true → (place gap bound : ℕ)
      → ((i j : ℕ) → i < length patterns → place + j ≡ gap → level_here (nth patterns i) row j ≤ bound)
      → highest_set (set_from cells entries pattern_limit root 0 place row) gap ≤ bound
  place_most row a place gap bound h =
      sets_most cells entries gap pattern_limit root 0 place bound row (λ u link output m. rw zero-add (of u link output (matched cells m) (search_pattern patterns u)))
    where
      of : (u : List ℕ) (link output : ℕ) → Matched cells pattern_limit root row u link output
          → Found patterns u ⊎ ((i : ℕ) → i < length patterns → (nth patterns i).symbols ≡ u → ⊥)
          → highest_set (chain entries (length u) (place + length u) output) gap ≤ bound
      of u link output m (inl f) = chain_most entries (length u) place output gap bound level
        where
          exact : Exact entries (nth patterns f.at) output
          exact = right.exact f.at f.within link output (rw f.same m.matches)

          level : (j : ℕ) → place + j ≡ gap → j ≤ length u → highest_set (chain entries (length u) (length u) output) j ≤ bound
          level j p q =
              let n = ap length f.same in
              let e = rw n at (exact.levels j (omega arith)) in
              let l = level_stands (nth patterns f.at) row j (rw f.same m.stands) in
              omega (arith, h f.at j f.within p)
      of u link output m (inr none) =
          let path : Path cells root u = record { short = m.short; alphabet = begins_alphabet u row m.stands a; link = link; output = output; matches = m.matches } in
          let z : output ≡ 0 = right.silent u path none in
          rw z (omega (arith, chain_none entries (length u) (place + length u) gap))

  -- and each such level is set: the pattern is a path, so the walk goes to its end
  place_least : (row : List ℕ) (place i j : ℕ) → i < length patterns
      → level_here (nth patterns i) row j ≤ highest_set (set_from cells entries pattern_limit root 0 place row) (place + j)
  unfolding level_here
  place_least row place i j h = go (begins (nth patterns i).symbols row) refl (dec_le j (length (nth patterns i).symbols))
    where
      p : Pattern
      p = nth patterns i

      path : Path cells root p.symbols
      path = right.reached p.symbols (record { some = (shaped i h).some; at = i; within = h; stands = begins_self p.symbols })

      go : (z : Bool) → begins p.symbols row ≡ z → Dec (j ≤ length p.symbols)
          → cond z (get_or p.levels j 0) 0 ≤ highest_set (set_from cells entries pattern_limit root 0 place row) (place + j)
      go true b (yes k) =
          let match = match_of cells pattern_limit root path.link path.output row p.symbols (shaped i h).short b path.matches in
          let exact = (right.exact i h path.link path.output path.matches).levels j k in
          let shifted = chain_least entries (length p.symbols) place path.output j in
          omega (arith, rw zero-add at (sets_least cells entries (place + j) match 0 place))
      go true b (no k) = let m = (shaped i h).measured in omega (arith, get_or-eq_default p.levels 0 {n = j} (omega arith))
      go false b d = omega arith

  -- from every place of a row
  row_most : (row : List ℕ) → all_symbols row ≡ true → (place gap bound : ℕ)
      → ((i j : ℕ) → i < length patterns → place + j ≡ gap → level_of (nth patterns i) row j ≤ bound) → highest_set (settings cells entries root place row) gap ≤ bound
  unfolding settings level_of highest_set
  row_most [] a place gap bound h = omega arith
  row_most (s ∷ row) a place gap bound h =
      let here = place_most (s ∷ row) a place gap bound (λ i j k p. omega (arith, h i j k p, level_first (nth patterns i) s row j)) in
      let later = row_most row (alphabet_rest s row a) (place + 1) gap bound (λ i j k p. omega (arith, h i (suc j) k (omega arith))) in
      omega (arith, highest_append (set_from cells entries pattern_limit root 0 place (s ∷ row)) (settings cells entries root (place + 1) row) gap)

  row_least : (row : List ℕ) (place i j : ℕ) → i < length patterns → level_of (nth patterns i) row j ≤ highest_set (settings cells entries root place row) (place + j)
  unfolding settings level_of
  row_least [] place i j h = omega arith
  row_least (s ∷ row) place i zero h =
      omega (
        arith,
        place_least (s ∷ row) place i zero h,
        highest_append (set_from cells entries pattern_limit root 0 place (s ∷ row)) (settings cells entries root (place + 1) row) (place + zero),
      )
  row_least (s ∷ row) place i (suc j) h =
      let e : place + 1 + j ≡ place + suc j = omega arith in
      let later = rw e at (row_least row (place + 1) i j h) in
      omega (
        arith,
        place_least (s ∷ row) place i (suc j) h,
        highest_append (set_from cells entries pattern_limit root 0 place (s ∷ row)) (settings cells entries root (place + 1) row) (place + suc j),
      )

-- "both calls give each inner gap the highest level so set": over a right table that is the highest of the patterns.
pub levels_liang : (patterns : List Pattern) (cells entries : List ℕ) (root : ℕ) → PathsRight patterns cells entries root
    → ((i : ℕ) → i < length patterns → Shaped (nth patterns i))
    → (row : List ℕ) → all_symbols row ≡ true → (gap : ℕ)
    → highest_set (settings cells entries root 0 row) gap ≡ highest patterns row gap
unfolding highest
levels_liang patterns cells entries root right shaped row a gap = omega (arith, low, high)
  where
    level : Pattern → ℕ
    level p = level_of p row gap

    whole : List Pattern → ℕ
    whole ps = highest ps row gap

    low : whole patterns ≤ highest_set (settings cells entries root 0 row) gap
    low = most_all level whole refl (λ p ps. refl) patterns _ (λ i h. rw zero-add at (row_least patterns cells entries root right shaped row 0 i gap h))

    high : highest_set (settings cells entries root 0 row) gap ≤ whole patterns
    high =
        row_most patterns cells entries root right shaped row a 0 gap (whole patterns)
        (λ i j h e. rw (rw zero-add at e) (most_each level whole refl (λ p ps. refl) patterns i h))
