-- CR 2 in the customer's words: which break is told, and which width is refused.
use Rattle.std.specs.Prelude.{ℕ, ◌≤◌, ◌<◌, true, false, List, ◌⊎◌, ◌≡◌, length, get_or, Float}
use Rattle.std.specs.Float.{nan}
use Rattle.std.specs.Float.Ieee.{lt}
use Rattle.gauge.specs.Widths.{zero_width, width_limit}
use Rattle.gauge.specs.Fit.{hyphen_fits, given}
use Rattle.gauge.specs.declared.Gauge.{Gauge}

-- "bytes 1 to n - 1 are read, any but 0 is a break"
abbrev pub IsBreak : (word room : List ℕ) → ℕ → Type 0
IsBreak word room i = (1 ≤ i) × (i < length word) × (get_or room i 0 ≡ 0 → ⊥)

-- "the last break that fits with its hyphen": a break that fits, behind which no break does.
pub record LastFitting (g : Gauge) (widths : List Float) (word room : List ℕ) (i : ℕ) : Type 0 where
  pub is_break_lem : IsBreak word room i
  pub fits : hyphen_fits g widths word i ≡ true
  pub last : (j : ℕ) → i < j → IsBreak word room j → hyphen_fits g widths word j ≡ false

-- "none fits": no break does.
abbrev pub NoneFitting : Gauge → List Float → (word room : List ℕ) → Type 0
NoneFitting g widths word room = (j : ℕ) → IsBreak word room j → hyphen_fits g widths word j ≡ false

-- The first break that doesn't fit.
pub record FirstMisfit (g : Gauge) (widths : List Float) (word room : List ℕ) (m : ℕ) : Type 0 where
  pub is_break_lem : IsBreak word room m
  pub misfits : hyphen_fits g widths word m ≡ false
  pub first : (j : ℕ) → j < m → IsBreak word room j → hyphen_fits g widths word j ≡ true

-- "A given width outside 0 to 1,000, or not-a-number"
abbrev pub Outside : Float → Type 0
Outside x = (lt x zero_width ≡ true) ⊎ ((lt width_limit x ≡ true) ⊎ (x ≡ nan))

-- One of all widths given is so.
abbrev pub SomeOutside : Gauge → List Float → Type 0
SomeOutside g widths = (k : ℕ) × (k < length (given g widths)) × Outside (get_or (given g widths) k zero_width)
