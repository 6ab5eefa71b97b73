-- A word written byte by byte.
use Prim.Native.Nat.{ℕ, suc, ◌+◌, ◌%◌, ◌≤◌}
use mathlib.Core.List.{List, [], ◌∷◌, ◌++◌, map}
use mathlib.Core.Path.{◌≡◌, sym, ◌∙◌, ap}
use native.Mathlib.Omega.{arith}
use lib.ListN.{length, set, take, length-set}
use lib.Seq.{take_all, take-suc-set}
use Rattle.sheet1980.specs.Sheet.{sheet_of}

-- so many of its letters stand on the sheet
abbrev five : ℕ → ℕ
five b = b % 32

pub record Written (word sheet : List ℕ) (i : ℕ) : Type 0 where
  pub within : i ≤ length word
  pub size : length sheet ≡ length word + 2
  pub letters : take (i + 1) sheet ≡ 0 ∷ map five (take i word)

pub write_start : (word sheet : List ℕ) → length sheet ≡ length word + 2 → Written word (set sheet 0 0) 0
write_start word sheet h =
    record { within = omega arith; size = length-set sheet 0 0 ∙ h; letters = take-suc-set sheet 0 0 (omega arith) }

pub write_end : (word sheet : List ℕ) (i : ℕ) → length word ≤ i → Written word sheet i → set sheet (length word + 1) 0 ≡ sheet_of word
unfolding sheet_of
write_end word sheet i h w =
    let e : i ≡ length word = omega (arith, w.within) in
    sym (take_all (suc (length word + 1)) (set sheet (length word + 1) 0) (omega (arith, length-set sheet (length word + 1) 0, w.size)))
    ∙ take-suc-set sheet (length word + 1) 0 (omega (arith, w.size))
    ∙ ap (λ (l : List ℕ). l ++ (0 ∷ [])) (ap (λ k. take (k + 1) sheet) (sym e) ∙ w.letters)
    ∙ ap (λ (l : List ℕ). 0 ∷ (map five l ++ (0 ∷ []))) (take_all i word h)
