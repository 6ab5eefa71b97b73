-- What every phase keeps of the sheet, and what a code there tells.
use Prim.Native.Nat.{ℕ, zero, suc, ◌+◌, ◌<◌, ◌≤◌}
use mathlib.Core.Bool.{Bool, true, false, cond}
use mathlib.Core.List.{List, [], ◌∷◌}
use mathlib.Core.Logic.{◌⊎◌}
use mathlib.Core.Path.{◌≡◌, refl, ◌∙◌}
use native.Mathlib.Omega.{arith}
use borrow.Author.Tests.{lt-ltb}
use lib.Dec.{eqb}
use Rattle.std.proofs.lemmas.List.{get_or-set_other, get_or_past}
use lib.ListN.{length, get_or, set, length-set}
use Rattle.tables1980.specs.Suffix.{suffix_words, suffix}
use Rattle.sheet1980.specs.Sheet.{u, mem, clear, vowel, Sheet}

-- what holds of both ways of a test holds of the whole
pub either_way {ℓ} : {A : Type 0} (P : A → Type ℓ) (test : Bool) (a b : A) → (test ≡ true → P a) → (test ≡ false → P b) → P (cond test a b)
either_way P true a b p q = p refl
either_way P false a b p q = q refl

-- a place of a list after a store there
set_same : (l : List ℕ) (j : ℕ) → get_or (set l j 0) j 0 ≡ 0
set_same [] j = refl
set_same (x ∷ l) zero = refl
set_same (x ∷ l) (suc j) = set_same l j

-- a place of the sheet after a store there or elsewhere
pub clear_either : (sheet : List ℕ) (j k : ℕ) → (mem (clear sheet j) k ≡ mem sheet k) ⊎ (mem (clear sheet j) k ≡ 0)
unfolding mem clear
clear_either sheet j k = grind (arith, set_same, get_or-set_other)

pub clear_same : (sheet : List ℕ) (j : ℕ) → mem (clear sheet j) j ≡ 0
unfolding mem clear
clear_same sheet j = grind (arith, set_same)

pub clear_other : (sheet : List ℕ) (j k : ℕ) → (j ≡ k → ⊥) → mem (clear sheet j) k ≡ mem sheet k
unfolding mem clear
clear_other sheet j k h = grind (arith, get_or-set_other)

clear_length : (sheet : List ℕ) (j : ℕ) → length (clear sheet j) ≡ length sheet
unfolding clear
clear_length sheet j = grind (arith, length-set)

pub clear_sheet : {n : ℕ} {sheet : List ℕ} (j : ℕ) → Sheet n sheet → Sheet n (clear sheet j)
clear_sheet {n} {sheet} j s =
    record { size = clear_length sheet j ∙ s.size; codes = λ k. grind (arith, clear_either sheet j k, s.codes k); past = λ k h. grind (arith, clear_either sheet j k, s.past k) }

-- "reading outside gives 0"
pub outside_below : (sheet : List ℕ) (k : ℕ) → k < u → mem sheet k ≡ 0
unfolding mem
outside_below sheet k h = rw (lt-ltb k u h)

-- A letter stands on the sheet: nothing is read below it or past it.
pub on_sheet : (sheet : List ℕ) (k : ℕ) → 0 < mem sheet k → (u ≤ k) × (k < u + length sheet)
unfolding mem
on_sheet sheet k h = grind (arith, get_or_past)

-- a place that holds a letter is one of the word's
pub lettered : {n : ℕ} {sheet : List ℕ} (k : ℕ) → Sheet n sheet → 0 < mem sheet k → k ≤ u + n
lettered {n} {sheet} k s h = grind (arith, s.past k)

pub some : (k : ℕ) → eqb k 0 ≡ false → 0 < k
some k e = grind arith

-- the null code counts as a vowel
pub consonant : (c : ℕ) → vowel c ≡ false → 0 < c
unfolding vowel suffix suffix_words
consonant c e = grind arith
