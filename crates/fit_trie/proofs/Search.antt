-- The search for a base: the one found serves, or there is none below 8,192.
use Prim.Native.Nat.{ℕ, zero, suc, ◌+◌, ◌≤◌, ◌<◌}
use mathlib.Core.Bool.{Bool, true, false, cond, not, ◌||◌}
use mathlib.Core.List.{List}
use mathlib.Core.Path.{◌≡◌, refl, ◌∙◌, ap, subst}
use native.Mathlib.Decide.{ℕ_discrete}
use native.Mathlib.Omega.{arith}
use borrow.Author.Tests.{eqb-true, ltb-true}
use lib.Dec.{eqb}
use lib.ListN.{get_or}
use Rattle.base.specs.Limits.{symbol_limit, cell_limit}
use Rattle.base.proofs.Lists.{never, both}
use Rattle.base.specs.Tests.{all_from, smallest}
use Rattle.fit.specs.Cells.{is_free, serves, inside}
use Rattle.fit_trie.proofs.Bytes.{symbol_in}

pub all_at : (test : ℕ → Bool) (n k i : ℕ) → all_from test k n ≡ true → k ≤ i → i < k + n → test i ≡ true
unfolding all_from
all_at test zero k i e h l = absurd (omega arith)
all_at test (suc n) k i e h l = go (ℕ_discrete k i) (both (test k) (all_from test (suc k) n) e) (all_at test n (suc k) i)
  where
    go : Dec (k ≡ i) → (test k ≡ true) × (all_from test (suc k) n ≡ true) → (all_from test (suc k) n ≡ true → suc k ≤ i → i < suc k + n → test i ≡ true) → test i ≡ true
    go (yes p) b next = subst (λ (j : ℕ). test j ≡ true) p b.0
    go (no d) b next = next b.1 (omega arith) (omega arith)

-- the smallest of n numbers from k on that passes a test, or the one behind them: none below it passes
pub record Smallest (test : ℕ → Bool) (k n found : ℕ) : Type 0 where
  pub low : k ≤ found
  pub high : found ≤ k + n
  pub passes : found < k + n → test found ≡ true
  pub below : (i : ℕ) → k ≤ i → i < found → test i ≡ false

pub smallest_found : (test : ℕ → Bool) (n k : ℕ) → Smallest test k n (smallest test k n)
unfolding smallest
smallest_found test zero k = record { low = omega arith; high = omega arith; passes = λ h. absurd (omega arith); below = λ i h l. absurd (omega arith) }
smallest_found test (suc n) k = go (test k) refl (smallest_found test n (suc k))
  where
    go : (z : Bool) → test k ≡ z → Smallest test (suc k) n (smallest test (suc k) n) → Smallest test k (suc n) (cond z k (smallest test (suc k) n))
    go true p next = record { low = omega arith; high = omega arith; passes = λ h. p; below = λ i h l. absurd (omega arith) }
    go false p next =
        record {
          low = omega (arith, next.low);
          high = omega (arith, next.high);
          passes = λ h. next.passes (omega arith);
          below = λ i h l. at i h l (ℕ_discrete i k);
        }
      where
        at : (i : ℕ) → k ≤ i → i < smallest test (suc k) n → Dec (i ≡ k) → test i ≡ false
        at i h l (yes e) = ap test e ∙ p
        at i h l (no d) = next.below i (omega arith) l

pub wanted : (a b : Bool) → (not a || b) ≡ true → a ≡ true → b ≡ true
wanted true b e p = e
wanted false b e p = never p

-- a base that serves has no node, and its cells are free
pub serves_says : (bytes taken : List ℕ) (child : ℕ → Bool) (base : ℕ) → serves bytes taken child base ≡ true
    → (get_or taken base 0 ≡ 0) × ((s : ℕ) → 1 ≤ s → s ≤ symbol_limit → child s ≡ true → symbol_in bytes (base + s) ≡ 0)
unfolding serves is_free
serves_says bytes taken child base e =
    let p = both (eqb (get_or taken base 0) 0) _ e in (
      eqb-true (get_or taken base 0) 0 p.0,
      λ s h k c. eqb-true (symbol_in bytes (base + s)) 0 (wanted (child s) _ (all_at _ symbol_limit 1 s p.1 h (omega arith)) c),
    )

pub inside_says : (child : ℕ → Bool) (base : ℕ) → inside child base ≡ true → (s : ℕ) → 1 ≤ s → s ≤ symbol_limit → child s ≡ true → base + s < cell_limit
unfolding inside
inside_says child base e s h k c = ltb-true (base + s) cell_limit (wanted (child s) _ (all_at _ symbol_limit 1 s e h (omega arith)) c)
