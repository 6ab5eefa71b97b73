-- The words of a text are those that the hyphenating call takes, and a text that is such a word is held whole.
use Prim.Native.Nat.{ℕ, suc, ◌+◌, ◌-◌, ◌≤◌, ◌<◌}
use mathlib.Core.Bool.{Bool, true, false, cond, ◌&&◌, ◌||◌}
use mathlib.Core.List.{List, [], ◌∷◌}
use mathlib.Core.Logic.{inl, inr}
use mathlib.Core.Path.{◌≡◌, refl, sym, ◌∙◌, ap}
use native.Mathlib.Omega.{arith}
use borrow.Author.Tests.{le-leb}
use lib.Dec.{eqb}
use lib.ListN.{length, take, get_or-eq_default}
use lib.Seq.{take-length, drop-length}
use Rattle.base.specs.Limits.{word_limit}
use Rattle.std.specs.Prelude.{Ok}
use Rattle.base.proofs.Lists.{never}
use Rattle.words.specs.Symbols.{letter, apostrophe}
use Rattle.words.specs.Words.{starts_letter, is_between, with_apostrophes, leading, all_fit, judge_by, judge_word, MayStand}
use Rattle.words.proofs.Laws.{length_fine, judged_bytes, word_some, word_fits}
use Rattle.words.proofs.Apostrophes.{all_lead, word_exactly}
use Rattle.runs.specs.Text.{onward, Holding, unfinished, held_of}
use Rattle.runs.specs.Held.{last_of, held_after}
use Rattle.runs.proofs.Laws.{zero_none}
use Rattle.runs.proofs.Kept.{held_is}

-- what is cut off a text by the rule keeps the rule
starts_take : (u : List ℕ) → starts_letter u ≡ true → starts_letter (take (leading with_apostrophes false u) u) ≡ true
unfolding starts_letter leading with_apostrophes
starts_take [] e = never e
starts_take (b ∷ t) e = rw (e) e

rule_take : (after : Bool) (b : ℕ) (u : List ℕ) → with_apostrophes after b u ≡ true → with_apostrophes after b (take (leading with_apostrophes (letter b) u) u) ≡ true
unfolding with_apostrophes is_between
rule_take after b u e = go (letter b) refl (eqb b apostrophe) after (starts_letter u) refl e
  where
    go : (x : Bool) → letter b ≡ x → (y z s : Bool) → starts_letter u ≡ s → (x || (y && (z && s))) ≡ true → (x || (y && (z && starts_letter (take (leading with_apostrophes (letter b) u) u)))) ≡ true
    go true p y z s q h = refl
    go false p true true true q h = rw p (starts_take u q)
    go false p true true false q h = never h
    go false p true false s q h = never h
    go false p false z s q h = never h

lead_fits : (at : ℕ) (after : Bool) (t : List ℕ) → all_fit with_apostrophes at after (take (leading with_apostrophes after t) t) ≡ Ok tt
unfolding all_fit leading
lead_fits at after [] = refl
lead_fits at after (b ∷ t) = go (with_apostrophes after b t) refl (lead_fits (at + 1) (letter b) t)
  where
    go : (z : Bool) → with_apostrophes after b t ≡ z → all_fit with_apostrophes (at + 1) (letter b) (take (leading with_apostrophes (letter b) t) t) ≡ Ok tt
        → all_fit with_apostrophes at after (take (cond z (suc (leading with_apostrophes (letter b) t)) 0) (b ∷ t)) ≡ Ok tt
    go true p next = rw (rule_take after b t p) next
    go false p next = refl

first_fits : (b : ℕ) (t : List ℕ) → letter b ≡ true → all_fit with_apostrophes 0 false (b ∷ take (onward t) t) ≡ Ok tt
unfolding all_fit with_apostrophes
first_fits b t e = rw e (lead_fits 1 true t)

-- A word of a text is one that the hyphenating call takes.
pub run_good : (b : ℕ) (t : List ℕ) → letter b ≡ true → length (b ∷ take (onward t) t) ≤ word_limit → judge_word word_limit (b ∷ take (onward t) t) ≡ Ok tt
unfolding judge_by
run_good b t e h = rw (← length_fine word_limit (length (b ∷ take (onward t) t)) (λ z. omega (arith, z)) h) (first_fits b t e)

-- such a word begins and ends with a letter, and the run that begins it is all of it
good_first : (b : ℕ) (t : List ℕ) → leading with_apostrophes false (b ∷ t) ≡ suc (length t) → (letter b ≡ true) × (onward t ≡ length t)
unfolding leading with_apostrophes is_between
good_first b t e = go (letter b) refl e
  where
    go : (z : Bool) → letter b ≡ z → cond (z || (eqb b apostrophe && false)) (suc (leading with_apostrophes z t)) 0 ≡ suc (length t) → (letter b ≡ true) × (onward t ≡ length t)
    go true p h = (p, omega (arith, h))
    go false p h = none (eqb b apostrophe) h
      where
        none : (y : Bool) → cond (y && false) (suc (leading with_apostrophes false t)) 0 ≡ suc (length t) → (letter b ≡ true) × (onward t ≡ length t)
        none true h = absurd (omega (arith, h))
        none false h = absurd (omega (arith, h))

pub good_last : (w : List ℕ) → judge_word word_limit w ≡ Ok tt → letter (last_of w) ≡ true
good_last w e = go ((word_exactly word_limit w).0 e)
  where
    go : (1 ≤ length w) × (length w ≤ word_limit) × ((i : ℕ) → i < length w → MayStand w i) → letter (last_of w) ≡ true
    go (some, short, each) = stands (each (length w - 1) (omega (arith, some)))
      where
        stands : MayStand w (length w - 1) → letter (last_of w) ≡ true
        stands (inl p) = p
        stands (inr (q, k, before, behind)) =
            let n : length w ≤ length w - 1 + 1 = omega (arith, some) in
            never (sym zero_none ∙ ap letter (sym (get_or-eq_default w 0 n)) ∙ behind)

-- A text that is a word is held whole.
pub good_held : (w : List ℕ) → judge_word word_limit w ≡ Ok tt → held_after (Holding []) w ≡ Holding w
unfolding held_of unfinished
good_held [] e = absurd (omega (arith, word_some word_limit [] e))
good_held (b ∷ t) e =
    let f = good_first b t (all_lead with_apostrophes 0 false (b ∷ t) (judged_bytes with_apostrophes word_limit (b ∷ t) e)) in
    held_is (b ∷ t) ∙ rw (f.0, f.1, take-length t, drop-length t, le-leb (length (b ∷ t)) word_limit (word_fits word_limit (b ∷ t) e))
