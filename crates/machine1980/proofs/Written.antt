-- The sheet as a judged word is written on it.
use Prim.Native.Nat.{ℕ, zero, suc, ◌+◌, ◌-◌, ◌%◌, ◌<◌, ◌≤◌}
use mathlib.Core.Bool.{true}
use mathlib.Core.List.{List, [], ◌∷◌, ◌++◌, map}
use mathlib.Core.Path.{◌≡◌, refl}
use native.Mathlib.Omega.{arith}
use borrow.Author.Tests.{le-ltb}
use lib.ListN.{length, get_or, length-append, length-map}
use Rattle.std.specs.Prelude.{Ok}
use Rattle.words.specs.Symbols.{small, capital, letter}
use Rattle.words.specs.Words.{judge_letters}
use Rattle.words.proofs.Laws.{letters_byte}
use Rattle.sheet1980.specs.Sheet.{u, mem, sheet_of, Sheet}

-- a letter's code is one of 1 to 26
letter_code : (b : ℕ) → letter b ≡ true → (0 < b % 32) × (b % 32 ≤ 26)
unfolding letter small capital
letter_code b e = grind arith

-- the letters and the null code behind them
five : List ℕ → List ℕ
five word = map (λ b. b % 32) word ++ (0 ∷ [])

five_in : (word : List ℕ) (k : ℕ) → k < length word → get_or (five word) k 0 ≡ get_or word k 0 % 32
unfolding five
five_in [] k h = absurd (omega arith)
five_in (b ∷ word) zero h = refl
five_in (b ∷ word) (suc k) h = five_in word k (omega arith)

five_past : (word : List ℕ) (k : ℕ) → length word ≤ k → get_or (five word) k 0 ≡ 0
unfolding five
five_past [] zero h = refl
five_past [] (suc k) h = refl
five_past (b ∷ word) zero h = absurd (omega arith)
five_past (b ∷ word) (suc k) h = five_past word k (omega arith)

-- place k of the sheet: letter k, or a null code
mem_of : (word : List ℕ) (k : ℕ) → u ≤ k → mem (sheet_of word) k ≡ get_or (0 ∷ five word) (k - u) 0
unfolding mem sheet_of five
mem_of word k h = rw (le-ltb k u h)

mem_low : (word : List ℕ) (k : ℕ) → k ≤ u → mem (sheet_of word) k ≡ 0
unfolding mem sheet_of
mem_low word k h = grind arith

module _ (word : List ℕ) where
  mem_letter : (k : ℕ) → u < k → k ≤ u + length word → mem (sheet_of word) k ≡ get_or word (k - u - 1) 0 % 32
  mem_letter k h l = let e : k - u ≡ suc (k - u - 1) = omega arith in let f = five_in word (k - u - 1) in grind (arith, mem_of)

  mem_past : (k : ℕ) → u + length word < k → mem (sheet_of word) k ≡ 0
  mem_past k h = let e : k - u ≡ suc (k - u - 1) = omega arith in let f = five_past word (k - u - 1) in grind (arith, mem_of)

-- a judged word: each place of its sheet
module _ (limit : ℕ) (word : List ℕ) (judged : judge_letters limit word ≡ Ok tt) where
  pub all_letters : (k : ℕ) → u < k → k ≤ u + length word → 0 < mem (sheet_of word) k
  all_letters k h l = grind (arith, mem_letter, letter_code, letters_byte)

  small_codes : (k : ℕ) → mem (sheet_of word) k ≤ 26
  small_codes k = grind (arith, mem_low, mem_past, mem_letter, letter_code, letters_byte)

  pub written : Sheet (length word) (sheet_of word)
  unfolding sheet_of
  written =
      record {
        size = omega (arith, length-append (map (λ b. b % 32) word) (0 ∷ []), length-map word (λ b. b % 32));
        codes = small_codes;
        past = mem_past word;
      }
