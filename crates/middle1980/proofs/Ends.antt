-- Phase 4 ends: from label to label a number falls.
use Prim.Native.Nat.{ℕ, zero, suc, ◌+◌, ◌*◌, ◌-◌, ◌<◌, ◌≤◌}
use mathlib.Core.Bool.{Bool, true, false, cond, ◌&&◌}
use mathlib.Core.List.{List}
use mathlib.Core.Path.{◌≡◌}
use native.Mathlib.Omega.{arith}
use lib.Dec.{eqb}
use Rattle.tables1980.specs.Words.{o}
use Rattle.sheet1980.specs.Sheet.{u, mem, vowel, Sheet}
use Rattle.sheet1980.proofs.Sheets.{clear_sheet, either_way, lettered, some, consonant}
use Rattle.middle1980.specs.Middles.{Middle, Goto, Phase5, with_h, liquid, doubled, weakly, paired, between, third, second, pair, mark_at, scan_vowel, pass_vowel, onward, middles, sheet_in}
use Rattle.middle1980.specs.Joined.{Place}
use Rattle.middle1980.specs.declared.Label.{Label}
use Rattle.middle1980.specs.declared.Label.TheVariants.{Marki, Phase4c, Vowelscan, Checkc, Phase4v, Phase4vc, Ertest}

unfoldable pub rank : Label → ℕ
rank Marki = 1
rank Phase4c = 1
rank Vowelscan = 0
rank Checkc = 4
rank Phase4v = 3
rank Phase4vc = 7
rank Ertest = 2

-- the number that falls
unfoldable pub to_come : ℕ → Label → ℕ → ℕ
to_come n label i = 5 * (u + n + 2 - i) + rank label

-- at a label that the word has room for, with less than m labels to come; or at the end
abbrev pub Stands : ℕ → ℕ → Middle → Type 0
Stands n m (Goto label i b c sheet) = Place n label i c × (to_come n label i < m)
Stands n m (Phase5 sheet) = Unit {0}

pub record Fine (n m : ℕ) (x : Middle) : Type 0 where
  pub kept : Sheet n (sheet_in x)
  pub stands : Stands n m x

fine_if : {n m : ℕ} (test : Bool) {a b : Middle} → (test ≡ true → Fine n m a) → (test ≡ false → Fine n m b) → Fine n m (cond test a b)
fine_if {n} {m} test {a} {b} = either_way (λ x. Fine n m x) test a b

module _ (n m finale : ℕ) (sheet : List ℕ) (s : Sheet n sheet) where
  module _ (i b : ℕ) (lo : u + 2 ≤ i) (f : 5 * (u + n + 2 - i) + 7 ≤ m) where
    doubled_fine : (c : ℕ) → i ≤ u + n + 1 → Fine n m (doubled i b c sheet)
    unfolding doubled liquid to_come rank
    doubled_fine c hi = grind (arith, lettered, some)

    third_fine : (j c : ℕ) → i < j → Fine n m (third finale i j b c sheet)
    unfolding third between paired weakly to_come rank
    third_fine j c h = grind (arith, lettered, some)

    second_fine : (c : ℕ) → Fine n m (second finale i b c sheet)
    unfolding second
    second_fine c = let joined = third_fine (i + 2) (with_h c) (omega arith) in let alone = third_fine (i + 1) c (omega arith) in grind arith

    pair_fine : (c : ℕ) → i ≤ u + n + 1 → (0 < c → i ≤ u + n) → Fine n m (pair finale i b c sheet)
    unfolding pair to_come rank
    pair_fine c hi k =
        fine_if (eqb b (o "q") && eqb c (o "u")) (λ q. grind arith)
        (λ q. fine_if (vowel c) (λ v. grind arith)
        (λ v. let h = k (consonant c v) in fine_if (eqb b c) (λ d. doubled_fine c hi) (λ d. let other = second_fine c in grind arith)))

pub onward_fine : (n finale i b c : ℕ) (sheet : List ℕ) → Sheet n sheet → (label : Label) → Place n label i c → Fine n (to_come n label i) (onward finale label i b c sheet)
unfolding onward mark_at scan_vowel pass_vowel to_come rank
onward_fine n finale i b c sheet s Marki p = let k = clear_sheet i s in grind (arith, lettered)
onward_fine n finale i b c sheet s Phase4c p = grind (arith, lettered)
onward_fine n finale i b c sheet s Vowelscan p = grind (arith, consonant)
onward_fine n finale i b c sheet s Checkc p = grind (arith, some)
onward_fine n finale i b c sheet s Phase4v p = grind (arith, consonant, lettered)
onward_fine n finale i b c sheet s Phase4vc p = pair_fine n _ finale sheet s i b p.0 (omega arith) (mem sheet i) p.1 (λ z. lettered i s z)
onward_fine n finale i b c sheet s Ertest p = grind arith

-- come to phase 5
abbrev pub Ended : ℕ → Middle → Type 0
Ended n (Goto label i b c sheet) = ⊥
Ended n (Phase5 sheet) = Sheet n sheet

pub middles_end : (steps n finale m : ℕ) (x : Middle) → Fine n m x → m ≤ steps → Ended n (middles steps finale x)
unfolding middles
middles_end zero n finale m (Goto label i b c sheet) f h = absurd (omega (arith, f.stands.1))
middles_end zero n finale m (Phase5 sheet) f h = f.kept
middles_end (suc steps) n finale m (Phase5 sheet) f h = f.kept
middles_end (suc steps) n finale m (Goto label i b c sheet) f h =
    middles_end steps n finale (to_come n label i) (onward finale label i b c sheet) (onward_fine n finale i b c sheet f.kept label f.stands.0) (omega (arith, f.stands.1))
