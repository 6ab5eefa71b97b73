-- The fields of a pair word, and what a vowel leads to.
use Prim.Native.Nat.{ℕ, ◌+◌, ◌-◌, ◌%◌}
use mathlib.Core.Bool.{Bool, true, not}
use mathlib.Core.List.{List}
use mathlib.Core.Path.{◌≡◌}
use lib.Dec.{eqb}
use Rattle.std.specs.Prelude.{Some}
use Rattle.tables1980.specs.Pairs.{btable}
use Rattle.sheet1980.specs.Sheet.{mem, vowel}
use Rattle.middle1980.specs.Middles.{Goto, joins_h, with_h, scan_vowel, pass_vowel}
use Rattle.middle1980.specs.Joined.{joined}
use Rattle.middle1980.specs.declared.Label.TheVariants.{Checkc}

-- the fields of a pair word
pub joins_h_lem : (c : ℕ) {w : ℕ} → w ≡ btable c → not (eqb (w % 8) 0) ≡ joins_h c
unfolding joins_h
joins_h_lem c p = rw p

pub with_h_lem : (c : ℕ) {w : ℕ} → w ≡ btable c → c + w % 8 - 2 ≡ with_h c
unfolding with_h
with_h_lem c p = rw p

-- vowelscan: whatever the sheet, a vowel leads to checkc
pub scan_vowel_lem : (i b c : ℕ) {v : Bool} → v ≡ vowel c → v ≡ true
    → (sheet : List ℕ) → joined (Some (record { label = Checkc; i = i + 1; b = b; c = c })) sheet ≡ scan_vowel i b c sheet
unfolding scan_vowel
scan_vowel_lem i b c p h s = rw (← p, h)

-- phase4v
module _ (i c : ℕ) (s : List ℕ) {b : ℕ} (p : b ≡ mem s i) {v : Bool} (e : v ≡ vowel b) where
  pub pass_vowel_lem : v ≡ true → Goto Checkc (i + 1) b b s ≡ pass_vowel i c s
  unfolding pass_vowel
  pass_vowel_lem h = rw (← p, ← e, h)
