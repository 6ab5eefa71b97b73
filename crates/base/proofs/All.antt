-- Laws about a test of numbers in turn, `all_from`: one for each way through a loop.
use Prim.Native.Nat.{ℕ, zero, suc, ◌+◌, ◌-◌, ◌≤◌, ◌<◌}
use mathlib.Core.Bool.{Bool, true, false, ◌&&◌, and-false}
use mathlib.Core.Path.{◌≡◌, refl, ◌∙◌}
use native.Mathlib.Decide.{dec_lt}
use native.Mathlib.Numerals.{add-one}
use native.Mathlib.Omega.{arith}
use Rattle.base.specs.Tests.{all_from}

-- a test of all numbers below a total, from k on
module _ (test : ℕ → Bool) (k total : ℕ) where
  all_turn : k < total → all_from test k (total - k) ≡ (test k && all_from test (k + 1) (total - (k + 1)))
  unfolding all_from
  all_turn h = let e : total - k ≡ suc (total - (k + 1)) = omega arith in rw (e, add-one)

  pub all_pass : k < total → test k ≡ true → all_from test k (total - k) ≡ all_from test (k + 1) (total - (k + 1))
  all_pass h t = all_turn h ∙ rw t

  pub all_fail : k < total → test k ≡ false → all_from test k (total - k) ≡ false
  all_fail h t = all_turn h ∙ rw t

  pub all_end : total ≤ k → all_from test k (total - k) ≡ true
  unfolding all_from
  all_end h = let e : total - k ≡ 0 = omega arith in rw e

-- tests that agree on the numbers asked
pub all_same : (f g : ℕ → Bool) (k n : ℕ) → ((i : ℕ) → k ≤ i → i < k + n → f i ≡ g i) → all_from f k n ≡ all_from g k n
unfolding all_from
all_same f g k zero h = refl
all_same f g k (suc n) h = rw (h k (omega arith) (omega arith), all_same f g (suc k) n (λ i a b. h i (omega arith) (omega arith)))

-- what holds of each number holds of all
pub each_all : (test : ℕ → Bool) (k n : ℕ) → ((j : ℕ) → k ≤ j → j < k + n → test j ≡ true) → all_from test k n ≡ true
unfolding all_from
each_all test k zero h = refl
each_all test k (suc n) h = rw (h k (omega arith) (omega arith)) (each_all test (suc k) n (λ j p q. h j (omega arith) (omega arith)))

-- one number that fails
pub all_not : (test : ℕ → Bool) (k n j : ℕ) → k ≤ j → j < k + n → test j ≡ false → all_from test k n ≡ false
unfolding all_from
all_not test k zero j h l e = absurd (omega arith)
all_not test k (suc n) j h l e = go (dec_lt k j) (all_not test (suc k) n j)
  where
    go : Dec (k < j) → (suc k ≤ j → j < suc k + n → test j ≡ false → all_from test (suc k) n ≡ false) → (test k && all_from test (suc k) n) ≡ false
    go (yes p) next = rw (next (omega arith) (omega arith) e) (and-false (test k))
    go (no p) next = let i : j ≡ k = omega arith in let t : test k ≡ false = rw (← i) e in rw t
