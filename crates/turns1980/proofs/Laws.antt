-- One turn of a machine.
use Rattle.std.proofs.Common.{ℕ, suc, List, ◌≡◌, sym, ◌∙◌, ap, subst, None, ControlFlow, Continue}
use Rattle.turns1980.specs.Turns.{Left, turns, Runs}

module _ {R E : Type 0} (step : R → List ℕ → Left (ControlFlow E R)) {left : ℕ} (r : R) (sheet : List ℕ) where
  pub out : left ≡ 0 → turns step left (Continue r) sheet ≡ (None, sheet)
  unfolding turns
  out h = ap (λ k. turns step k (Continue r) sheet) h

  module _ {more : ℕ} (less : left ≡ suc more) {at : ControlFlow E R} {after : List ℕ} (p : (at, after) ≡ step r sheet) where
    pub turned : turns step left (Continue r) sheet ≡ turns step more at after
    unfolding turns
    turned = ap (λ k. turns step k (Continue r) sheet) less ∙ sym (ap (λ (x : Left (ControlFlow E R)). turns step more x.0 x.1) p)

    pub still : (can : R → List ℕ → Type 0) → Runs can step left (Continue r) sheet → Runs can step more at after
    unfolding Runs
    still can f = subst (λ (x : Left (ControlFlow E R)). Runs can step more x.0 x.1) (sym p) (subst (λ k. Runs can step k (Continue r) sheet) less f).1
