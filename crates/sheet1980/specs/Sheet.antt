-- The sheet that a word is written on for the 1980 machine: 004's mem[u] to mem[u+n+1]. Hyphens are marked on it by clearing letters.
use Rattle.std.specs.Prelude.{ℕ, ◌+◌, ◌-◌, ◌%◌, ◌<◌, ◌≤◌, Bool, cond, List, [], ◌∷◌, ◌++◌, map, ◌≡◌, ltb, length, get_or, set}
use Rattle.tables1980.specs.Words.{◌ε◌}
use Rattle.tables1980.specs.Suffix.{suffix}

-- 004's u: place k of the sheet is written u + k, so that the places a machine comes to below place 0 ("lated" reaches -1) have a number
-- too. Any u will do from which no machine falls below 0 (suffix1980.proofs.Ends.place_stays).
abbrev pub u : ℕ
u = 16

-- More than any place of a sheet with an operand of sixteen bits added: up to here no sum is too large for the code.
abbrev pub place_bound : ℕ
place_bound = 70000

-- "The word's sheet is places 0 to n + 1": the codes of the letters, the last five bits of each, between two null codes.
unfoldable pub sheet_of : List ℕ → List ℕ
sheet_of word = 0 ∷ (map (λ b. b % 32) word ++ (0 ∷ []))

-- mem[i]: "reading outside gives 0".
unfoldable pub mem : List ℕ → ℕ → ℕ
mem sheet i = cond (ltb i u) 0 (get_or sheet (i - u) 0)

-- mem[i]←0, the only store there is: "storing outside does nothing".
unfoldable pub clear : List ℕ → ℕ → List ℕ
clear sheet i = cond (ltb i u) sheet (set sheet (i - u) 0)

-- Suffix word 0 is the mask of the vowels. The null code is one of them.
unfoldable pub vowel : ℕ → Bool
vowel c = c ε suffix 0

-- What every phase keeps of the sheet of n letters: its size, a letter's code or 0 at each place, and 0 behind the letters.
pub record Sheet (n : ℕ) (sheet : List ℕ) : Type 0 where
  pub size : length sheet ≡ n + 2
  pub codes : (k : ℕ) → mem sheet k ≤ 26
  pub past : (k : ℕ) → u + n < k → mem sheet k ≡ 0
