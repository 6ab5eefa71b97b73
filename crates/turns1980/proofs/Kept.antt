-- What every turn keeps holds where a machine stops; and as it allows each turn, the machine may run.
use Rattle.std.proofs.Common.{ℕ, zero, suc, List, ◌≡◌, sym, subst, Option, Some, None, ControlFlow, Continue, Break}
use Rattle.sheet1980.specs.declared.Stopped.{Stopped}
use Rattle.turns1980.specs.Turns.{Left, turns, Runs}

pub record Kept {R E : Type 0} (can : R → List ℕ → Type 0) (step : R → List ℕ → Left (ControlFlow E R)) (Stands : ControlFlow E R → List ℕ → Type 0) : Type 0 where
  pub allows : (r : R) (sheet : List ℕ) → Stands (Continue r) sheet → can r sheet
  pub keeps : (r : R) (sheet : List ℕ) → Stands (Continue r) sheet → Stands (step r sheet).0 (step r sheet).1

abbrev pub Stood : {R E : Type 0} → (ControlFlow E R → List ℕ → Type 0) → Option (Stopped E) → List ℕ → Type 0
Stood Stands None sheet = Unit {0}
Stood Stands (Some stopped) sheet = Stands (Break stopped.next) sheet

module _ {R E : Type 0} {can : R → List ℕ → Type 0} {step : R → List ℕ → Left (ControlFlow E R)} {Stands : ControlFlow E R → List ℕ → Type 0} (k : Kept can step Stands) where
  pub runs : (budget : ℕ) (at : ControlFlow E R) (sheet : List ℕ) → Stands at sheet → Runs can step budget at sheet
  unfolding Runs
  runs budget (Break e) sheet s = tt
  runs zero (Continue r) sheet s = tt
  runs (suc budget) (Continue r) sheet s = (k.allows r sheet s, runs budget (step r sheet).0 (step r sheet).1 (k.keeps r sheet s))

  stops : (budget : ℕ) (at : ControlFlow E R) (sheet : List ℕ) → Stands at sheet → Stood Stands (turns step budget at sheet).0 (turns step budget at sheet).1
  unfolding turns
  stops budget (Break e) sheet s = s
  stops zero (Continue r) sheet s = tt
  stops (suc budget) (Continue r) sheet s = stops budget (step r sheet).0 (step r sheet).1 (k.keeps r sheet s)

  pub stood : (budget : ℕ) (at : ControlFlow E R) (sheet : List ℕ) → Stands at sheet → {r : Option (Stopped E)} {after : List ℕ} → (r, after) ≡ turns step budget at sheet → Stood Stands r after
  stood budget at sheet s p = subst (λ (x : Left (Option (Stopped E))). Stood Stands x.0 x.1) (sym p) (stops budget at sheet s)
