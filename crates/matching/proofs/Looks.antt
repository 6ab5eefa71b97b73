-- Over a right table a walk matches the symbols of the longest beginning; it looks at their cells, and at one more at most.
use Prim.Native.Nat.{ℕ, suc, ◌+◌, ◌≤◌, ◌<◌}
use mathlib.Core.Bool.{true}
use mathlib.Core.List.{List, [], ◌∷◌}
use mathlib.Core.Logic.{◌⊎◌, inl, inr}
use mathlib.Core.Path.{◌≡◌, refl}
use native.Mathlib.Decide.{dec_lt}
use native.Mathlib.Omega.{arith}
use lib.ListN.{length}
use Rattle.base.specs.Limits.{pattern_limit}
use Rattle.table.specs.Table.{look, Look}
use Rattle.std.specs.Prelude.{Some, None}
use Rattle.liang.specs.Patterns.{Pattern}
use Rattle.walk.specs.Walk.{look_step, looks_from, matches_from}
use Rattle.walk.proofs.Count.{walk_few, looks_matches}
use Rattle.patterns.specs.Strings.{all_symbols, nth}
use Rattle.rightness.specs.Right.{PathsRight}
use Rattle.patterns.specs.Common.{common}
use Rattle.matching.specs.Longest.{longest}
use Rattle.patterns.proofs.Strings.{begins_alphabet, begins_common, Shared, shared, most_each, most_all}
use Rattle.matching.proofs.Matches.{Match, matched, match_of, matches_least, matches_most}

-- n looks, where the longest beginning has m symbols
pub record Looked (m n : ℕ) : Type 0 where
  pub some : 1 ≤ n
  pub most : n ≤ pattern_limit
  pub low : m ≤ n
  pub high : n ≤ suc m

-- a walk looks at its first cell in any case
step_some : (go : ℕ → ℕ) (found : Look) → 1 ≤ look_step go found
unfolding look_step
step_some go None = omega arith
step_some go (Some found) = omega arith

looks_some : (cells : List ℕ) (root : ℕ) (row : List ℕ) → 0 < length row → 1 ≤ looks_from cells pattern_limit root row
unfolding looks_from
looks_some cells root [] h = absurd (omega arith)
looks_some cells root (s ∷ row) h = step_some _ (look cells (root + s) s)

module _ (patterns : List Pattern) (cells entries : List ℕ) (root : ℕ) (right : PathsRight patterns cells entries root)
    (row : List ℕ) (alphabet : all_symbols row ≡ true) where
  -- the walk goes along what a pattern shares with the row: that is a beginning, so a path
  matches_common : (i : ℕ) → i < length patterns → common (nth patterns i).symbols row ≤ matches_from cells pattern_limit root row
  matches_common i h = go (dec_lt 0 (length common_string.string))
    where
      common_string : Shared (nth patterns i).symbols row
      common_string = shared (nth patterns i).symbols row

      go : Dec (0 < length common_string.string) → common (nth patterns i).symbols row ≤ matches_from cells pattern_limit root row
      go (yes k) =
          let u = common_string.string in
          let path = right.reached u (record { some = k; at = i; within = h; stands = common_string.left }) in
          let match = match_of cells pattern_limit root path.link path.output row u path.short common_string.right path.matches in
          omega (arith, common_string.size, matches_least cells match)
      go (no k) = omega (arith, common_string.size)

  -- a string that the walk matches is a path, so a beginning
  match_common : (u : List ℕ) (link output : ℕ) → Match cells pattern_limit root row u link output → length u ≤ longest patterns row
  unfolding longest
  match_common u link output m =
      let k = matched cells m in
      let b = right.only u (record { short = k.short; alphabet = begins_alphabet u row k.stands alphabet; link = link; output = output; matches = k.matches }) in
      omega (
        arith,
        begins_common u (nth patterns b.at).symbols row b.stands k.stands,
        most_each (λ p. common p.symbols row) (λ ps. longest ps row) refl (λ p ps. refl) patterns b.at b.within,
      )

  -- "let m be the length of the longest beginning of a pattern that stands at a place, 0 if none does: the walk from there matches
  -- m symbols"
  pub matches_longest : matches_from cells pattern_limit root row ≡ longest patterns row
  unfolding longest
  matches_longest = omega (arith, low, high)
    where
      low : longest patterns row ≤ matches_from cells pattern_limit root row
      low = most_all (λ p. common p.symbols row) (λ ps. longest ps row) refl (λ p ps. refl) patterns (matches_from cells pattern_limit root row) matches_common

      high : matches_from cells pattern_limit root row ≤ longest patterns row
      high = matches_most cells pattern_limit root (longest patterns row) row match_common

-- "Each look counts one": as many as symbols match, which is the longest beginning at the place, and one more where a mismatch
-- ends the walk.
pub looks_longest : (patterns : List Pattern) (cells entries : List ℕ) (root : ℕ) → PathsRight patterns cells entries root
    → (row : List ℕ) → all_symbols row ≡ true → 0 < length row
    → Looked (longest patterns row) (looks_from cells pattern_limit root row)
looks_longest patterns cells entries root right row a h = go (looks_matches cells pattern_limit root row)
  where
    m : matches_from cells pattern_limit root row ≡ longest patterns row
    m = matches_longest patterns cells entries root right row a

    looked : longest patterns row ≤ looks_from cells pattern_limit root row → looks_from cells pattern_limit root row ≤ suc (longest patterns row)
        → Looked (longest patterns row) (looks_from cells pattern_limit root row)
    looked low high = record { some = looks_some cells root row h; most = walk_few cells pattern_limit root row; low = low; high = high }

    go : (looks_from cells pattern_limit root row ≡ matches_from cells pattern_limit root row) ⊎ (looks_from cells pattern_limit root row ≡ suc (matches_from cells pattern_limit root row))
        → Looked (longest patterns row) (looks_from cells pattern_limit root row)
    go (inl e) = looked (omega (arith, m)) (omega (arith, m))
    go (inr e) = looked (omega (arith, m)) (omega (arith, m))
