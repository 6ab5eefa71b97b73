-- What placing leaves, as records for the contracts.
use Rattle.std.specs.Prelude.{ℕ, ◌+◌, ◌≤◌, Bool, true, false, cond, List, ◌≡◌, eqb, get_or}
use Rattle.base.specs.Limits.{symbol_limit}
use Rattle.liang.specs.Patterns.{Pattern}
use Rattle.patterns.specs.Next.{opens}
use Rattle.fit.specs.Cells.{Layout, Full, Fits, place}

-- Is a symbol marked in a mask?
abbrev pub marked : List ℕ → ℕ → Bool
marked mask s = eqb (get_or mask s 0) 1

-- Does a call at a symbol give what a test of numbers gives?
abbrev pub Tests : (ℕ → Bool → Type 0) → (ℕ → Bool) → Type 0
Tests gives test = (s : ℕ) (r : Bool) → s ≤ symbol_limit → gives s r → r ≡ test s

-- A pattern's path of m symbols is placed where the pattern opens it.
abbrev pub place_line : ℕ → ℕ → List ℕ → List ℕ → List Pattern → Layout → Layout
place_line root m above own patterns layout = cond (opens m above own) (place root m own patterns layout) layout

-- Bases are numbers of two bytes, below this.
abbrev pub base_numbers : ℕ
base_numbers = 65536

-- The number of a cell is a base and a symbol of one byte together, below this.
abbrev pub cell_numbers : ℕ
cell_numbers = base_numbers + 256

-- A step of placing says whether it fits; where it does, the rooms hold the layout.
pub record Placed (layout : Layout) (r : Bool) (bytes taken : List ℕ) : Type 0 where
  pub fits : r ≡ true → layout ≡ Fits bytes taken
  pub full : r ≡ false → layout ≡ Full
