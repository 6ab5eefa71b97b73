-- What document 01 says of first fit's bases, clause by clause. The theorem `layout_is_first_fit` shows that the layout which
-- `bases_of` computes is so, and is the only one that is.
use Rattle.std.specs.Prelude.{ℕ, ◌≤◌, ◌<◌, true, false, List, [], ◌⊎◌, ◌≡◌, length, get_or, take}
use Rattle.lines.specs.Order.{before}
use Rattle.liang.specs.Patterns.{Pattern}
use Rattle.layout.specs.Bases.{Based, goes_on, fits_at}

abbrev pub root : Based
root = record { path = []; base = 0 }

-- A path by its place in a layout.
abbrev pub based : List Based → ℕ → Based
based bases i = get_or bases i root

-- "by length, then symbol order"
abbrev pub Ascends : List ℕ → List ℕ → Type 0
Ascends u v = (length u < length v) ⊎ ((length u ≡ length v) × (before u v ≡ true))

-- "the smallest base from 1 up which no path has and whose needed cells are all free", among the paths placed before.
pub record Least (patterns : List Pattern) (placed : List Based) (u : List ℕ) (base : ℕ) : Type 0 where
  pub some : 1 ≤ base
  pub fits : fits_at patterns placed u base ≡ true
  pub least : (b : ℕ) → 1 ≤ b → b < base → fits_at patterns placed u b ≡ false

pub record FirstFit (patterns : List Pattern) (bases : List Based) : Type 0 where
  -- "Paths by length, then symbol order"
  pub order : (i j : ℕ) → i < j → j < length bases → Ascends (based bases i).path (based bases j).path
  -- each "path with continuations", and no other
  pub goes : (i : ℕ) → i < length bases → (s : ℕ) × (goes_on patterns (based bases i).path s ≡ true)
  pub every : (u : List ℕ) (s : ℕ) → goes_on patterns u s ≡ true → (i : ℕ) × ((i < length bases) × ((based bases i).path ≡ u))
  -- "the root first with base 0"
  pub rooted : 0 < length bases → based bases 0 ≡ root
  -- "Each later path .. gets the smallest base from 1 up which no path has and whose needed cells are all free."
  pub later : (i : ℕ) → 0 < i → i < length bases → Least patterns (take i bases) (based bases i).path (based bases i).base
