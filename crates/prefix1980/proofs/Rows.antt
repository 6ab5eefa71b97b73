-- How far a run of the prefix machine can go: tests over its whole table.
use Prim.Native.Nat.{ℕ, ◌%◌, ◌<◌, ◌≤◌}
use mathlib.Core.Bool.{Bool, true, ◌&&◌}
use mathlib.Core.List.{List, [], ◌∷◌}
use mathlib.Core.Path.{◌≡◌, refl}
use native.Mathlib.Omega.{arith}
use lib.Dec.{T, leb, ltb, leb→le, ltb→lt}
use lib.ListN.{length, get_or}
use Rattle.tables1980.specs.Prefix.{prefix_words, prefix}
use Rattle.tables1980.proofs.Targets.{prefix_rows}
use Rattle.prefix1980.specs.Prefixes.{decode}
use Rattle.prefix1980.specs.declared.Instruction.{Instruction}
use Rattle.prefix1980.specs.declared.Instruction.TheVariants.{Scan, Repeat, Mark, Table, Fail, Vow, Cons, Confusion}
use Rattle.tables1980.proofs.Table.{and_T, every}
use Rattle.tables1980.proofs.Heights.{goes, goes_both, run_row, row_right, letter_right}
use Rattle.tables1980.proofs.Heights as runs

pub heights : List ℕ
heights =
    1 ∷ 1 ∷ 2 ∷ 4 ∷ 5 ∷ 5 ∷ 1 ∷ 1 ∷ 7 ∷ 7 ∷ 1 ∷ 1 ∷ 4 ∷ 7 ∷ 3 ∷ 5 ∷ 6 ∷ 4 ∷ 1 ∷ 8 ∷ 6 ∷ 5 ∷ 1 ∷ 1 ∷ 1 ∷ 1 ∷ 1 ∷ 1 ∷ 1 ∷ 1 ∷ 1 ∷ 1 ∷ 1 ∷ 1 ∷
    1 ∷ 2 ∷ 3 ∷ 2 ∷ 4 ∷ 3 ∷ 2 ∷ 4 ∷ 3 ∷ 2 ∷ 2 ∷ 3 ∷ 2 ∷ 6 ∷ 4 ∷ 3 ∷ 2 ∷ 5 ∷ 4 ∷ 3 ∷ 2 ∷ 6 ∷ 5 ∷ 4 ∷ 2 ∷ 3 ∷ 2 ∷ 3 ∷ 2 ∷ 5 ∷ 3 ∷ 2 ∷ 4 ∷ 3 ∷
    2 ∷ 3 ∷ 6 ∷ 3 ∷ 5 ∷ 4 ∷ 3 ∷ 2 ∷ 2 ∷ 2 ∷ 4 ∷ 3 ∷ 2 ∷ 5 ∷ 4 ∷ 3 ∷ 2 ∷ 3 ∷ 2 ∷ 3 ∷ 2 ∷ 7 ∷ 3 ∷ 2 ∷ 6 ∷ 5 ∷ 4 ∷ 3 ∷ 2 ∷ 4 ∷ 3 ∷ 5 ∷ 4 ∷ 3 ∷
    2 ∷ 1 ∷ 2 ∷ 1 ∷ 4 ∷ 3 ∷ 2 ∷ []

pub credits : List ℕ
credits =
    0 ∷ 0 ∷ 0 ∷ 0 ∷ 0 ∷ 0 ∷ 0 ∷ 0 ∷ 0 ∷ 0 ∷ 0 ∷ 0 ∷ 0 ∷ 0 ∷ 0 ∷ 0 ∷ 0 ∷ 0 ∷ 0 ∷ 0 ∷ 0 ∷ 0 ∷ 0 ∷ 0 ∷ 0 ∷ 0 ∷ 0 ∷ 1 ∷ 2 ∷ 3 ∷ 1 ∷ 3 ∷ 4 ∷ 4 ∷
    1 ∷ 1 ∷ 1 ∷ 1 ∷ 1 ∷ 2 ∷ 2 ∷ 1 ∷ 2 ∷ 3 ∷ 0 ∷ 1 ∷ 2 ∷ 0 ∷ 1 ∷ 2 ∷ 3 ∷ 0 ∷ 1 ∷ 2 ∷ 3 ∷ 0 ∷ 1 ∷ 2 ∷ 3 ∷ 2 ∷ 3 ∷ 1 ∷ 2 ∷ 1 ∷ 2 ∷ 3 ∷ 1 ∷ 2 ∷
    3 ∷ 1 ∷ 0 ∷ 1 ∷ 0 ∷ 1 ∷ 2 ∷ 3 ∷ 1 ∷ 1 ∷ 0 ∷ 1 ∷ 2 ∷ 1 ∷ 2 ∷ 3 ∷ 4 ∷ 1 ∷ 2 ∷ 1 ∷ 2 ∷ 0 ∷ 1 ∷ 2 ∷ 0 ∷ 1 ∷ 1 ∷ 2 ∷ 3 ∷ 1 ∷ 2 ∷ 0 ∷ 1 ∷ 2 ∷
    3 ∷ 4 ∷ 1 ∷ 2 ∷ 1 ∷ 2 ∷ 3 ∷ []

abbrev pub height : ℕ → ℕ
height k = get_or heights k 0

abbrev pub credit : ℕ → ℕ
credit k = get_or credits k 0

abbrev pub Goes : ℕ → ℕ → ℕ → Type 0
Goes k x more = runs.Goes heights credits k x more

-- An instruction of row k: its targets are lower, a letter asked for is no null, and a repeat doesn't go back beyond the letters matched.
abbrev pub Sound : ℕ → Instruction → Type 0
Sound k (Scan t truex falsex) = (0 < t % 32) × Goes k truex 1 × Goes k falsex 0
Sound k (Repeat t) = t ≤ credit k
Sound k (Mark t) = Unit {0}
Sound k (Table letters) = Unit {0}
Sound k Fail = Unit {0}
Sound k Vow = Unit {0}
Sound k Cons = Unit {0}
Sound k Confusion = Unit {0}

sound : ℕ → Instruction → Bool
sound k (Scan t truex falsex) = ltb 0 (t % 32) && (goes heights credits k truex 1 && goes heights credits k falsex 0)
sound k (Repeat t) = leb t (credit k)
sound k (Mark t) = true
sound k (Table letters) = true
sound k Fail = true
sound k Vow = true
sound k Cons = true
sound k Confusion = true

sound_right : (k : ℕ) (x : Instruction) → T (sound k x) → Sound k x
unfolding sound
sound_right k (Scan t truex falsex) s =
    let a = and_T (ltb 0 (t % 32)) (goes heights credits k truex 1 && goes heights credits k falsex 0) s in
    let b = goes_both heights credits k truex falsex 1 0 a.1 in
    (ltb→lt 0 (t % 32) a.0, b.0, b.1)
sound_right k (Repeat t) s = leb→le t (credit k) s
sound_right k (Mark t) s = tt
sound_right k (Table letters) s = tt
sound_right k Fail s = tt
sound_right k Vow s = tt
sound_right k Cons s = tt
sound_right k Confusion s = tt

-- the test over the table
row_sound : ℕ → ℕ → Bool
row_sound k w = sound k (decode w)

same : length heights ≡ length prefix_words
unfolding heights prefix_words
same = refl

tested : T (every (run_row heights credits row_sound 8) 0 prefix_words)
unfolding prefix_words heights credits run_row row_sound sound goes decode
tested = tt

pub row_sound_lem : (k : ℕ) → 0 < height k → Sound k (decode (prefix k))
unfolding prefix row_sound
row_sound_lem k h = sound_right k (decode (prefix k)) (row_right heights credits prefix_words row_sound 8 same tested k h).1

pub row_low_lem : (k : ℕ) → 0 < height k → height k ≤ 8
row_low_lem k h = (row_right heights credits prefix_words row_sound 8 same tested k h).0

pub letter_row_lem : (k : ℕ) → k ≤ 26 → (0 < height k) × (credit k ≡ 0)
letter_row_lem k h = letter_right heights credits prefix_words row_sound 8 same tested k (omega (arith, prefix_rows)) h
