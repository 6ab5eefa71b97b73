-- The judgement of a word gives the first of its grounds that holds.
use Prim.Native.Nat.{ℕ, suc, ◌+◌, ◌<◌}
use mathlib.Core.Bool.{Bool, true, false, cond}
use mathlib.Core.List.{List, [], ◌∷◌}
use mathlib.Core.Path.{◌≡◌, refl, ◌∙◌, ap}
use native.Mathlib.Omega.{arith}
use native.Mathlib.Decide.{dec_lt}
use borrow.Author.Tests.{lt-ltb, le-ltb}
use lib.Dec.{ltb, eqb}
use lib.ListN.{length}
use Rattle.base.specs.Grounds.{Said, Finds, Refuses, says, first_of, placed, on_at}
use Rattle.std.specs.Prelude.{Err}
use Rattle.base.specs.declared.Ground.TheVariants.{WordEmpty, WordLong, NotLetter}
use Rattle.base.proofs.Grounds.{Ordered, ordered_first, ordered_if}
use Rattle.words.specs.Symbols.{letter}
use Rattle.words.specs.Words.{Rule, letters_alone, with_apostrophes, leading, grounds_by, word_grounds, letter_grounds, all_fit, judge_length, judge_by, judge_word, judge_letters}

-- ground 3 among bytes of which `at` stand before the first one given
abbrev at_leading : ℕ → ℕ → ℕ → Said
at_leading at n size = cond (ltb n size) (Refuses (placed 3 (at + n))) (Finds [])

one_further : (at n size : ℕ) → at_leading (at + 1) n size ≡ at_leading at (suc n) (suc size)
one_further at n size = go (dec_lt n size)
  where
    go : Dec (n < size) → at_leading (at + 1) n size ≡ at_leading at (suc n) (suc size)
    go (yes h) = let e : at + 1 + n ≡ at + suc n = omega arith in rw (lt-ltb n size h, lt-ltb (suc n) (suc size) (omega arith), e)
    go (no h) = rw (le-ltb n size (omega arith), le-ltb (suc n) (suc size) (omega arith))

module _ (rule : Rule) where
  fit_said_lem : (at : ℕ) (after : Bool) (w : List ℕ) → says (all_fit rule at after w) ≡ at_leading at (leading rule after w) (length w)
  unfolding says all_fit leading
  fit_said_lem at after [] = refl
  fit_said_lem at after (b ∷ t) = go (rule after b t) (fit_said_lem (at + 1) (letter b) t)
    where
      go : (z : Bool) → says (all_fit rule (at + 1) (letter b) t) ≡ at_leading (at + 1) (leading rule (letter b) t) (length t)
          → says (cond z (all_fit rule (at + 1) (letter b) t) (Err (NotLetter at))) ≡ at_leading at (cond z (suc (leading rule (letter b) t)) 0) (suc (length t))
      go true e = e ∙ one_further at (leading rule (letter b) t) (length t)
      go false e = let z : at + 0 ≡ at = omega arith in rw (lt-ltb 0 (suc (length t)) (omega arith), z)

  fit_ordered : (w : List ℕ) → Ordered (all_fit rule 0 false w) (on_at 3 (leading rule false w) (ltb (leading rule false w) (length w)) ∷ [])
  unfolding first_of
  fit_ordered w =
      let z : 0 + leading rule false w ≡ leading rule false w = omega arith in
      record { same = fit_said_lem 0 false w ∙ ap (λ (n : ℕ). cond (ltb (leading rule false w) (length w)) (Refuses (placed 3 n)) (Finds [])) z }

  pub judged_ordered : (limit : ℕ) (w : List ℕ) → Ordered (judge_by rule limit w) (grounds_by rule limit w)
  unfolding judge_by judge_length grounds_by
  judged_ordered limit w = ordered_first (ordered_first (ordered_if (eqb (length w) 0) WordEmpty) (ordered_if (ltb limit (length w)) WordLong)) (fit_ordered w)

pub word_ordered : (limit : ℕ) (w : List ℕ) → Ordered (judge_word limit w) (word_grounds limit w)
word_ordered = judged_ordered with_apostrophes

pub letters_ordered : (limit : ℕ) (w : List ℕ) → Ordered (judge_letters limit w) (letter_grounds limit w)
letters_ordered = judged_ordered letters_alone
