-- What the code tells, joined with the sheet that it leaves.
use Rattle.std.specs.Prelude.{ℕ, ◌≤◌, List, Option, Some, None}
use Rattle.std.proofs.Common.{ControlFlow, Continue, Break}
use Rattle.tables1980.specs.Prefix.{prefix}
use Rattle.sheet1980.specs.Sheet.{place_bound, mem, Sheet}
use Rattle.sheet1980.specs.declared.Stopped as machine
use Rattle.middle1980.specs.Joined.{Step, Placed}
use Rattle.middle1980.specs.Joined as middle
use Rattle.middle1980.specs.Middles.{Goto, Phase5}
use Rattle.turns1980.specs.Turns.{Left}
use Rattle.prefix1980.specs.Prefixes.{Prefixes, Interpp, Stops, decode, interpp, Prefixed, RanOut, Stopped}
use Rattle.prefix1980.specs.declared.Row.{Row}

-- Where the machine goes: on to a row, or out of it.
abbrev pub Turn : Type 0
Turn = ControlFlow Step Row

abbrev pub joined : Turn → List ℕ → Prefixes
joined (Continue at) sheet = Interpp at.i at.pc at.c at.j sheet
joined (Break step) sheet = Stops (middle.joined step sheet)

-- The same taken apart.
abbrev pub apart : Prefixes → Left Turn
apart (Interpp i pc c j sheet) = (Continue (record { i = i; pc = pc; c = c; j = j }), sheet)
apart (Stops (Goto label i b c sheet)) = (Break (Some (record { label = label; i = i; b = b; c = c })), sheet)
apart (Stops (Phase5 sheet)) = (Break None, sheet)

-- A turn: the word of the row is fetched and executed.
abbrev pub can_step : Row → List ℕ → Type 0
can_step at sheet = (at.i ≤ place_bound) × (mem sheet at.i ≤ 26)

abbrev pub step_gives : Row → List ℕ → Left Turn
step_gives at sheet = apart (interpp at.i at.c at.j sheet (decode (prefix at.pc)))

abbrev pub told : Option (machine.Stopped Step) → List ℕ → Prefixed
told None sheet = RanOut
told (Some stopped) sheet = Stopped stopped.left (middle.joined stopped.next sheet)

-- What phase 4 asks of where it begins.
abbrev pub Ready : ℕ → Option (machine.Stopped Step) → List ℕ → Type 0
Ready n None sheet = Unit {0}
Ready n (Some stopped) sheet = Sheet n sheet × Placed n stopped.next
