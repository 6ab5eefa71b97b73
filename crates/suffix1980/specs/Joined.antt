-- What the code tells, joined with the sheet that it leaves.
use Rattle.std.specs.Prelude.{ℕ, ◌+◌, ◌-◌, ◌<◌, ◌≤◌, Bool, cond, List, ◌≡◌, Option, Some, None}
use Rattle.std.proofs.Common.{ControlFlow, Continue, Break}
use Rattle.base.specs.Limits.{word_limit1980, short_word1980}
use Rattle.tables1980.specs.Suffix.{suffix}
use Rattle.sheet1980.specs.Sheet.{u, Sheet}
use Rattle.sheet1980.specs.declared.Stopped as machine
use Rattle.turns1980.specs.Turns.{Left}
use Rattle.suffix1980.specs.Suffixes.{Suffixes, Interps, Phase3, decode, interps, Suffixed, RanOut, Stopped}
use Rattle.suffix1980.specs.declared.Row.{Row}

-- Where the machine goes: on to a row, or to phase 3 with finale.
abbrev pub Turn : Type 0
Turn = ControlFlow ℕ Row

abbrev pub joined : Turn → List ℕ → Suffixes
joined (Continue at) sheet = Interps at.i at.pc at.firsttime at.finale sheet
joined (Break finale) sheet = Phase3 finale sheet

-- The same taken apart.
abbrev pub apart : Suffixes → Left Turn
apart (Interps i pc firsttime finale sheet) = (Continue (record { i = i; pc = pc; firsttime = firsttime; finale = finale }), sheet)
apart (Phase3 finale sheet) = (Break finale, sheet)

-- A turn: the word of the row is fetched and executed. i stays on the word.
abbrev pub can_step : ℕ → Row → Type 0
can_step n at = (short_word1980 < n) × (n ≤ word_limit1980) × (1 ≤ at.i) × (at.i ≤ u + n)

abbrev pub step_gives : ℕ → Row → List ℕ → Left Turn
step_gives n at sheet = apart (interps n at.i at.firsttime at.finale sheet (decode (suffix at.pc)))

-- A test's two ways, whatever the sheet.
abbrev pub Branched : Bool → ℕ → ℕ → ℕ → Bool → ℕ → Turn → Type 0
Branched matched i truex falsex firsttime finale r =
    (sheet : List ℕ) → joined r sheet ≡ cond matched (Interps (i - 1) truex firsttime finale sheet) (Interps i falsex firsttime finale sheet)

abbrev pub told : Option (machine.Stopped ℕ) → List ℕ → Suffixed
told None sheet = RanOut
told (Some stopped) sheet = Stopped stopped.left stopped.next sheet

-- What phase 3 asks of the sheet.
abbrev pub Ready : ℕ → Option (machine.Stopped ℕ) → List ℕ → Type 0
Ready n None sheet = Unit {0}
Ready n (Some stopped) sheet = Sheet n sheet
