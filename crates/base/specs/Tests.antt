-- Tests that several crates ask: of all numbers in turn, which is the first to pass, and whether two lists are the same.
use Rattle.std.specs.Prelude.{ℕ, zero, suc, Bool, true, false, cond, ◌&&◌, List, [], ◌∷◌, eqb}

-- A test of n numbers from k on.
unfoldable pub all_from : (ℕ → Bool) → ℕ → ℕ → Bool
all_from test k zero = true
all_from test k (suc n) = test k && all_from test (suc k) n

-- The smallest of n numbers from k on that passes a test, or the one behind them all.
unfoldable pub smallest : (ℕ → Bool) → ℕ → ℕ → ℕ
smallest test k zero = k
smallest test k (suc n) =
    let later = smallest test (suc k) n in
    cond (test k) k later

-- Are two lists of numbers the same?
unfoldable pub same_list : List ℕ → List ℕ → Bool
same_list [] [] = true
same_list [] (y ∷ ys) = false
same_list (x ∷ xs) [] = false
same_list (x ∷ xs) (y ∷ ys) = eqb x y && same_list xs ys
