-- A machine of 1980 in turns, whatever its registers are: each turn executes one instruction.
use Rattle.std.specs.Prelude.{ℕ, zero, suc, List, Option, Some, None}
use Rattle.std.proofs.Common.{ControlFlow, Continue, Break}
use Rattle.sheet1980.specs.declared.Stopped.{Stopped}

-- What a machine leaves: where it goes, and the sheet.
abbrev pub Left : Type 0 → Type 0
Left A = A × List ℕ

-- "A call gets a budget of .. instructions and tells how many were executed": each turn takes one. None where one more is needed than
-- there is budget for.
unfoldable pub turns : {R E : Type 0} → (R → List ℕ → Left (ControlFlow E R)) → ℕ → ControlFlow E R → List ℕ → Left (Option (Stopped E))
turns step budget (Break e) sheet = (Some (record { left = budget; next = e }), sheet)
turns step zero (Continue r) sheet = (None, sheet)
turns step (suc budget) (Continue r) sheet = turns step budget (step r sheet).0 (step r sheet).1

-- Each turn on the way may be taken.
unfoldable pub Runs : {R E : Type 0} → (R → List ℕ → Type 0) → (R → List ℕ → Left (ControlFlow E R)) → ℕ → ControlFlow E R → List ℕ → Type 0
Runs can step budget (Break e) sheet = Unit {0}
Runs can step zero (Continue r) sheet = Unit {0}
Runs can step (suc budget) (Continue r) sheet = can r sheet × Runs can step budget (step r sheet).0 (step r sheet).1
