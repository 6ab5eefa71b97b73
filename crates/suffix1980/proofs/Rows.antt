-- How far a run of the suffix machine can go: tests over its whole table.
use Prim.Native.Nat.{ℕ, ◌<◌, ◌≤◌}
use mathlib.Core.Bool.{Bool, true, ◌&&◌}
use mathlib.Core.List.{List, [], ◌∷◌}
use mathlib.Core.Path.{◌≡◌, refl}
use native.Mathlib.Omega.{arith}
use lib.Dec.{T, leb, leb→le}
use lib.ListN.{length, get_or}
use Rattle.tables1980.specs.Suffix.{suffix_words, suffix}
use Rattle.tables1980.proofs.Targets.{suffix_rows}
use Rattle.suffix1980.specs.Suffixes.{decode}
use Rattle.suffix1980.specs.declared.Instruction.{Instruction}
use Rattle.suffix1980.specs.declared.Instruction.TheVariants.{Scan, Double, Table, Check, Success, Fail, Repeat, Again, Mark, Efail, Confusion}
use Rattle.tables1980.proofs.Table.{every}
use Rattle.tables1980.proofs.Heights.{goes, goes_right, goes_both, run_row, row_right, letter_right}
use Rattle.tables1980.proofs.Heights as runs

-- A letter mask has height 0, but row 0, which a re-entry could name, has 1: it would be fetched and stop.
pub heights : List ℕ
heights =
    1 ∷ 1 ∷ 1 ∷ 6 ∷ 2 ∷ 12 ∷ 1 ∷ 8 ∷ 1 ∷ 1 ∷ 1 ∷ 1 ∷ 8 ∷ 1 ∷ 5 ∷ 1 ∷ 1 ∷ 1 ∷ 6 ∷ 7 ∷ 7 ∷ 1 ∷ 1 ∷ 1 ∷ 1 ∷ 8 ∷ 1 ∷ 1 ∷ 1 ∷ 1 ∷ 1 ∷ 1 ∷ 1 ∷
    1 ∷ 5 ∷ 4 ∷ 3 ∷ 2 ∷ 11 ∷ 5 ∷ 10 ∷ 4 ∷ 4 ∷ 9 ∷ 3 ∷ 3 ∷ 3 ∷ 8 ∷ 2 ∷ 2 ∷ 0 ∷ 2 ∷ 3 ∷ 7 ∷ 0 ∷ 2 ∷ 6 ∷ 5 ∷ 4 ∷ 3 ∷ 7 ∷ 6 ∷ 5 ∷ 4 ∷ 4 ∷ 0 ∷
    3 ∷ 0 ∷ 3 ∷ 2 ∷ 2 ∷ 7 ∷ 3 ∷ 3 ∷ 6 ∷ 2 ∷ 2 ∷ 4 ∷ 3 ∷ 0 ∷ 2 ∷ 5 ∷ 4 ∷ 3 ∷ 2 ∷ 6 ∷ 5 ∷ 5 ∷ 4 ∷ 4 ∷ 3 ∷ 3 ∷ 2 ∷ 0 ∷ 6 ∷ 5 ∷ 4 ∷ 3 ∷ 7 ∷ 2 ∷
    6 ∷ 5 ∷ 4 ∷ 3 ∷ 2 ∷ 2 ∷ 1 ∷ 0 ∷ 2 ∷ []

pub credits : List ℕ
credits =
    0 ∷ 0 ∷ 0 ∷ 0 ∷ 0 ∷ 0 ∷ 0 ∷ 0 ∷ 0 ∷ 0 ∷ 0 ∷ 0 ∷ 0 ∷ 0 ∷ 0 ∷ 0 ∷ 0 ∷ 0 ∷ 0 ∷ 0 ∷ 0 ∷ 0 ∷ 0 ∷ 0 ∷ 0 ∷ 0 ∷ 0 ∷ 2 ∷ 3 ∷ 4 ∷ 9 ∷ 1 ∷ 3 ∷ 5 ∷
    0 ∷ 1 ∷ 2 ∷ 3 ∷ 0 ∷ 1 ∷ 0 ∷ 2 ∷ 1 ∷ 0 ∷ 3 ∷ 2 ∷ 1 ∷ 0 ∷ 4 ∷ 3 ∷ 0 ∷ 2 ∷ 1 ∷ 0 ∷ 0 ∷ 2 ∷ 1 ∷ 1 ∷ 2 ∷ 3 ∷ 1 ∷ 2 ∷ 2 ∷ 3 ∷ 2 ∷ 0 ∷ 3 ∷ 0 ∷
    2 ∷ 4 ∷ 2 ∷ 1 ∷ 0 ∷ 1 ∷ 1 ∷ 1 ∷ 1 ∷ 1 ∷ 2 ∷ 0 ∷ 3 ∷ 0 ∷ 1 ∷ 2 ∷ 3 ∷ 0 ∷ 1 ∷ 0 ∷ 2 ∷ 1 ∷ 3 ∷ 2 ∷ 4 ∷ 0 ∷ 1 ∷ 2 ∷ 2 ∷ 2 ∷ 0 ∷ 1 ∷ 0 ∷ 1 ∷
    2 ∷ 3 ∷ 4 ∷ 3 ∷ 5 ∷ 0 ∷ 3 ∷ []

abbrev pub height : ℕ → ℕ
height k = get_or heights k 0

abbrev pub credit : ℕ → ℕ
credit k = get_or credits k 0

abbrev pub Goes : ℕ → ℕ → ℕ → Type 0
Goes k x more = runs.Goes heights credits k x more

-- An instruction of row k: its targets are lower, and a repeat doesn't go back beyond the letters matched.
abbrev pub Sound : ℕ → Instruction → Type 0
Sound k (Scan t truex falsex) = Goes k truex 1 × Goes k falsex 0
Sound k (Double truex falsex) = Goes k truex 1 × Goes k falsex 0
Sound k (Table t truex falsex) = Goes k truex 1 × Goes k falsex 0
Sound k (Check truex falsex) = Goes k truex 0 × Goes k falsex 0
Sound k (Success t) = Unit {0}
Sound k Fail = Unit {0}
Sound k (Repeat t) = t ≤ credit k
Sound k (Again truex) = Goes k truex 0
Sound k (Mark t truex) = Goes k truex 0
Sound k Efail = Unit {0}
Sound k Confusion = Unit {0}

sound : ℕ → Instruction → Bool
sound k (Scan t truex falsex) = goes heights credits k truex 1 && goes heights credits k falsex 0
sound k (Double truex falsex) = goes heights credits k truex 1 && goes heights credits k falsex 0
sound k (Table t truex falsex) = goes heights credits k truex 1 && goes heights credits k falsex 0
sound k (Check truex falsex) = goes heights credits k truex 0 && goes heights credits k falsex 0
sound k (Success t) = true
sound k Fail = true
sound k (Repeat t) = leb t (credit k)
sound k (Again truex) = goes heights credits k truex 0
sound k (Mark t truex) = goes heights credits k truex 0
sound k Efail = true
sound k Confusion = true

sound_right : (k : ℕ) (x : Instruction) → T (sound k x) → Sound k x
unfolding sound
sound_right k (Scan t truex falsex) s = goes_both heights credits k truex falsex 1 0 s
sound_right k (Double truex falsex) s = goes_both heights credits k truex falsex 1 0 s
sound_right k (Table t truex falsex) s = goes_both heights credits k truex falsex 1 0 s
sound_right k (Check truex falsex) s = goes_both heights credits k truex falsex 0 0 s
sound_right k (Success t) s = tt
sound_right k Fail s = tt
sound_right k (Repeat t) s = leb→le t (credit k) s
sound_right k (Again truex) s = goes_right heights credits k truex 0 s
sound_right k (Mark t truex) s = goes_right heights credits k truex 0 s
sound_right k Efail s = tt
sound_right k Confusion s = tt

-- the test over the table
row_sound : ℕ → ℕ → Bool
row_sound k w = sound k (decode w)

same : length heights ≡ length suffix_words
unfolding heights suffix_words
same = refl

tested : T (every (run_row heights credits row_sound 12) 0 suffix_words)
unfolding suffix_words heights credits run_row row_sound sound goes decode
tested = tt

pub row_sound_lem : (k : ℕ) → 0 < height k → Sound k (decode (suffix k))
unfolding suffix row_sound
row_sound_lem k h = sound_right k (decode (suffix k)) (row_right heights credits suffix_words row_sound 12 same tested k h).1

pub row_low_lem : (k : ℕ) → 0 < height k → height k ≤ 12
row_low_lem k h = (row_right heights credits suffix_words row_sound 12 same tested k h).0

pub letter_row_lem : (k : ℕ) → k ≤ 26 → (0 < height k) × (credit k ≡ 0)
letter_row_lem k h = letter_right heights credits suffix_words row_sound 12 same tested k (omega (arith, suffix_rows)) h
