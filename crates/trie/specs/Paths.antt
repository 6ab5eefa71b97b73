-- The paths of a table.
use Rattle.std.specs.Prelude.{ℕ, ◌+◌, ◌≤◌, true, cond, List, [], ◌∷◌, ◌≡◌, eqb, length, Some, None}
use Rattle.base.specs.Limits.{pattern_limit}
use Rattle.table.specs.Table.{look, Look, hit}
use Rattle.patterns.specs.Strings.{all_symbols}

-- Walk: "go on with the next symbol and base = link, unless link is 0". `go` is the walk from a link on.
unfoldable pub onward : (ℕ → Look) → Look → Look
onward go None = None
onward go (Some found) =
    let next = go found.link in
    cond (eqb found.link 0) None next

-- The look that a string of symbols ends in, from a base: `Hit` where all of it matches, with the last cell's link and output.
unfoldable pub along : List ℕ → ℕ → List ℕ → Look
along cells base [] = None
along cells base (s ∷ []) = look cells (base + s) s
along cells base (s ∷ (x ∷ u)) = onward (λ link. along cells link (x ∷ u)) (look cells (base + s) s)

-- "The strings of 1 to 16 symbols that match in this way are the table's paths, also those that no word's row could hold."
pub record Path (cells : List ℕ) (root : ℕ) (u : List ℕ) : Type 0 where
  pub short : length u ≤ pattern_limit
  pub alphabet : all_symbols u ≡ true
  pub link : ℕ
  pub output : ℕ
  pub matches : along cells root u ≡ hit link output
