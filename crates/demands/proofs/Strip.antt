-- CR 2 behind the hyphenating call: in the room that one leaves, the fitting call reads the word's breaks, and what it tells is one of them.
use Prim.Native.Nat.{ℕ, ◌≤◌, ◌<◌}
use mathlib.Core.Bool.{Bool, true, false}
use mathlib.Core.List.{List}
use mathlib.Core.Logic.{◌↔◌}
use mathlib.Core.Path.{◌≡◌, refl, sym, ◌∙◌}
use native.Mathlib.Omega.{arith}
use lib.Ieee.{Float}
use lib.ListN.{length, get_or}
use Rattle.base.specs.Limits.{word_limit}
use Rattle.base.specs.Grounds.{Finds}
use Rattle.base.proofs.Lists.{clash}
use Rattle.rooms.specs.Rooms.{bit}
use Rattle.words.proofs.Laws.{word_fits}
use Rattle.table.specs.Table.{root_base, cells_of, entries_of}
use Rattle.hyphenation.specs.Levels.{level_at}
use Rattle.hyphenation.specs.Breaks.{is_break}
use Rattle.hyphenation.specs.Calls.{Breaks, found}
use Rattle.std.specs.Prelude.{Result}
use Rattle.gauge.specs.Fit.{break_found, fit_said, fit_answer}
use Rattle.gauge.specs.Strip.{IsBreak}
use Rattle.gauge.specs.declared.Gauge.{Gauge}
use Rattle.base.specs.declared.Ground.{Ground}
use Rattle.gauge.specs.declared.Fitting.{Fitting}
use Rattle.gauge.proofs.Theorems.{fit_break}
use Rattle.demands.proofs.Breaks.{judged_parts, byte_is}

-- a byte that is a bit isn't 0 exactly where the bit is set
set_bit : (z : Bool) → (bit z ≡ 0 → ⊥) ↔ (z ≡ true)
set_bit true = (λ h. refl, λ e z. absurd (omega (arith, z)))
set_bit false = (λ h. absurd (h refl), λ e. clash cc)

module _ (left right : ℕ) (word customer house table room after : List ℕ) (marks looks : ℕ) (b : Breaks left right word customer house table room (found marks looks) after) where
  -- The breaks that the fitting call reads are the word's, over any table.
  pub breaks_read : (i : ℕ) → IsBreak word after i
      ↔ ((1 ≤ i) × (i < length word) × (is_break left right customer house (level_at (cells_of table) (entries_of table) root_base word) word i ≡ true))
  breaks_read i = (λ p. (p.0, p.1, to p.1 p.2), λ p. (p.0, p.1, back p.1 p.2))
    where
      at : i < length word → get_or after i 0 ≡ bit (is_break left right customer house (level_at (cells_of table) (entries_of table) root_base word) word i)
      at h = byte_is left right word customer house table room after marks looks b i
          (omega (arith, word_fits word_limit word (judged_parts left right word customer house table room after marks looks b).0))

      to : i < length word → (get_or after i 0 ≡ 0 → ⊥) → is_break left right customer house (level_at (cells_of table) (entries_of table) root_base word) word i ≡ true
      to h n = (set_bit _).0 (λ z. n (at h ∙ z))

      back : i < length word → is_break left right customer house (level_at (cells_of table) (entries_of table) root_base word) word i ≡ true → get_or after i 0 ≡ 0 → ⊥
      back h e z = (set_bit _).1 e (sym (at h) ∙ z)

  -- So a break that is told is a break of the word.
  pub told_is_break : (g : Gauge) (widths : List Float) (r : Result Fitting Ground) (i : ℕ) → fit_said r ≡ fit_answer g widths word after → fit_said r ≡ Finds (break_found i)
      → is_break left right customer house (level_at (cells_of table) (entries_of table) root_base word) word i ≡ true
  told_is_break g widths r i p e = ((breaks_read i).0 ((fit_break g widths word after r p i).0 e).2.is_break_lem).2
