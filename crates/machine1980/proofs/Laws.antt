-- What the machines leave of their budget, and which gaps are breaks.
use Prim.Native.Nat.{ℕ, ◌+◌, ◌-◌, ◌≤◌}
use mathlib.Core.Bool.{true}
use mathlib.Core.List.{List}
use mathlib.Core.Path.{◌≡◌, refl, sym, ◌∙◌, ap}
use native.Mathlib.Omega.{arith}
use borrow.Author.Tests.{le-leb}
use lib.ListN.{length, take}
use Rattle.std.specs.Prelude.{Option, Some}
use Rattle.base.specs.Limits.{room_size1980, short_word1980}
use Rattle.rooms.specs.Rooms.{sheet_from, sheet, written, nonzero, bit}
use Rattle.rooms.proofs.Sheets.{sheet_same, written_take}
use Rattle.sheet1980.specs.Sheet.{u, mem, sheet_of}
use Rattle.sheet1980.specs.declared.Stopped.{Stopped}
use Rattle.suffix1980.specs.Suffixes.{infinity, sufbegin, phase2}
use Rattle.suffix1980.specs.Joined as suffixes
use Rattle.suffix1980.proofs.Budget as suffix-budget
use Rattle.prefix1980.specs.Prefixes.{restartp, phase3}
use Rattle.prefix1980.specs.Joined as prefixes
use Rattle.prefix1980.proofs.Budget as prefix-budget
use Rattle.middle1980.specs.Joined.{Step}
use Rattle.machine1980.specs.Run.{Marked, machine}
use Rattle.machine1980.specs.Breaks.{in_print, is_break, break_sheet}

-- what the machines leave of their budget
pub suffix_left : (budget n : ℕ) (s after : List ℕ) {left finale : ℕ} {r : Option (Stopped ℕ)} → suffixes.told r after ≡ phase2 budget n s → r ≡ Some (record { left = left; next = finale }) → left ≤ budget
unfolding phase2
suffix_left budget n s after p e =
    omega (arith, ap suffix-budget.left_of (ap (λ (x : Option (Stopped ℕ)). suffixes.told x after) (sym e) ∙ p), suffix-budget.left_within budget n (sufbegin (u + n - 1) true infinity s))

pub prefix_left : (budget : ℕ) (s after : List ℕ) {left : ℕ} {step : Step} {r : Option (Stopped Step)} → prefixes.told r after ≡ phase3 budget s → r ≡ Some (record { left = left; next = step }) → left ≤ budget
unfolding phase3
prefix_left budget s after p e =
    omega (arith, ap prefix-budget.left_of (ap (λ (x : Option (Stopped Step)). prefixes.told x after) (sym e) ∙ p), prefix-budget.left_within budget (restartp (u + 2) (mem s (u + 1)) s))

-- the gaps that are breaks, as they are counted
pub taken : (n finale : ℕ) (s room : List ℕ) → take room_size1980 (written room_size1980 (break_sheet n finale s) room) ≡ break_sheet n finale s
unfolding break_sheet
taken n finale s room = written_take room_size1980 (λ g. bit (is_break n finale s g)) room

-- a word of at most four letters
no_marks : nonzero (sheet room_size1980 (λ g. 0)) ≡ 0
unfolding nonzero sheet sheet_from
no_marks = refl

pub no_breaks : (n finale : ℕ) (s : List ℕ) → n ≤ short_word1980 → break_sheet n finale s ≡ sheet room_size1980 (λ g. 0)
unfolding break_sheet is_break in_print
no_breaks n finale s h = sheet_same room_size1980 _ _ (λ g k. grind arith)

pub no_marks_short : (n finale : ℕ) (s : List ℕ) → n ≤ short_word1980 → nonzero (break_sheet n finale s) ≡ 0
no_marks_short n finale s h = ap nonzero (no_breaks n finale s h) ∙ no_marks

pub short_machine : (budget : ℕ) (word : List ℕ) → length word ≤ short_word1980 → machine budget word ≡ Marked infinity (sheet_of word) 0
unfolding machine
short_machine budget word h = rw (le-leb (length word) short_word1980 h)
