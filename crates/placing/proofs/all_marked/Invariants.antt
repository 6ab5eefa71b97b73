-- The marked symbols below `symbol` pass the test.
use Prim.Native.Nat.{ℕ, suc, ◌≤◌, ◌-◌}
use mathlib.Core.Bool.{Bool, not, ◌||◌}
use mathlib.Core.Path.{◌≡◌}
use Rattle.base.specs.Limits.{symbol_limit}
use Rattle.base.specs.Tests.{all_from}
use Rattle.placing.specs.Post.{marked, Tests}
use Rattle.placing.proofs.all_marked.Given as goal

abbrev pub invariant-loop-symbol : goal.invariant-loop-symbol
invariant-loop-symbol g l = (l.symbol ≤ suc symbol_limit) × ((test : ℕ → Bool) → Tests (goal.F-post g l.passes) test → all_from (λ s. not (marked l.mask s) || test s) 1 symbol_limit ≡ all_from (λ s. not (marked l.mask s) || test s) l.symbol (suc symbol_limit - l.symbol))
