-- "Capitals count as small": words that differ only in case are judged alike and have the same symbols.
use Prim.Native.Nat.{ℕ, suc, ◌+◌, ◌%◌, ◌≤◌}
use mathlib.Core.Bool.{Bool, true, false, cond, ◌&&◌, ◌||◌}
use mathlib.Core.List.{List, [], ◌∷◌, map}
use mathlib.Core.Path.{◌≡◌, refl, sym, ◌∙◌, ap}
use native.Mathlib.Omega.{arith}
use borrow.Author.Tests.{le-leb, lt-leb, ne_eqb}
use lib.Dec.{leb, eqb}
use lib.ListN.{length}
use Rattle.base.specs.Grounds.{first, Check}
use Rattle.std.specs.Prelude.{Ok, Err}
use Rattle.base.specs.declared.Ground.TheVariants.{NotLetter}
use Rattle.base.proofs.Lists.{never}
use Rattle.words.specs.Symbols.{apostrophe, small, capital, letter, lower, symbol_of}
use Rattle.words.specs.Words.{starts_letter, is_between, with_apostrophes, all_fit, judge_length, judge_by, judge_word, word_symbols}
use Rattle.words.proofs.Laws.{small_low, small_high, range_low, range_high}

small_not_capital : (b : ℕ) → small b ≡ true → capital b ≡ false
unfolding capital
small_not_capital b e = let h : 90 + 1 ≤ b = omega (arith, small_low b e) in rw (le-leb 65 b (omega arith), lt-leb b 90 h)

capital_range : (b : ℕ) → capital b ≡ true → (leb 65 b && leb b 90) ≡ true
unfolding capital
capital_range b e = e

capital_lowered : (b : ℕ) → capital b ≡ true → small (b + 32) ≡ true
unfolding small capital
capital_lowered b e =
    let h : 97 ≤ b + 32 = omega (arith, range_low 65 90 b e) in
    let k : b + 32 ≤ 122 = omega (arith, range_high 65 90 b e) in
    rw (le-leb 97 (b + 32) h, le-leb (b + 32) 122 k)

pub letter_lower : (b : ℕ) → letter b ≡ small (lower b)
unfolding letter lower
letter_lower b = go (small b) refl (capital b) refl
  where
    go : (s : Bool) → small b ≡ s → (k : Bool) → capital b ≡ k → (s || k) ≡ small (cond k (b + 32) b)
    go true p true q = sym (capital_lowered b q)
    go true p false q = sym p
    go false p true q = sym (capital_lowered b q)
    go false p false q = sym p

-- both cases of a letter have the same last five bits
pub letter_bits : (b : ℕ) → letter b ≡ true → b % 32 ≡ symbol_of (lower b)
unfolding letter lower symbol_of
letter_bits b e = go (small b) refl (capital b) refl e
  where
    go : (s : Bool) → small b ≡ s → (k : Bool) → capital b ≡ k → (s || k) ≡ true → b % 32 ≡ symbol_of (cond k (b + 32) b)
    go true p true q t = never (sym (small_not_capital b p) ∙ q)
    go true p false q t = rw p (omega (arith, small_low b p, small_high b p))
    go false p true q t = rw (capital_lowered b q) (omega (arith, range_low 65 90 b (capital_range b q), range_high 65 90 b (capital_range b q)))
    go false p false q t = never t

-- no capital's small letter is an apostrophe
apostrophe_lowered : (b : ℕ) → eqb b apostrophe ≡ eqb (lower b) apostrophe
unfolding lower
apostrophe_lowered b = go (capital b) refl
  where
    go : (k : Bool) → capital b ≡ k → eqb b apostrophe ≡ eqb (cond k (b + 32) b) apostrophe
    go true q =
        let low = range_low 65 90 b (capital_range b q) in rw (ne_eqb b apostrophe (λ z. omega (arith, z, low)), ne_eqb (b + 32) apostrophe (λ z. omega (arith, z, low)))
    go false q = refl

-- the judgement as one of the word in small letters
starts_small : List ℕ → Bool
starts_small [] = false
starts_small (b ∷ t) = small b

small_fit : ℕ → Bool → List ℕ → Check
small_fit at after [] = Ok tt
small_fit at after (b ∷ t) = cond (small b || (eqb b apostrophe && (after && starts_small t))) (small_fit (at + 1) (small b) t) (Err (NotLetter at))

starts_lowered : (w : List ℕ) → starts_letter w ≡ starts_small (map lower w)
unfolding starts_letter starts_small
starts_lowered [] = refl
starts_lowered (b ∷ t) = letter_lower b

fit_lowered : (at : ℕ) (after : Bool) (w : List ℕ) → all_fit with_apostrophes at after w ≡ small_fit at after (map lower w)
unfolding all_fit with_apostrophes is_between small_fit
fit_lowered at after [] = refl
fit_lowered at after (b ∷ t) = rw (letter_lower b, apostrophe_lowered b, starts_lowered t, fit_lowered (at + 1) (small (lower b)) t)

length_lowered : (w : List ℕ) → length w ≡ length (map lower w)
length_lowered [] = refl
length_lowered (b ∷ t) = ap suc (length_lowered t)

judged_lowered : (limit : ℕ) (w : List ℕ) → judge_word limit w ≡ first (judge_length limit (length (map lower w))) (small_fit 0 false (map lower w))
unfolding judge_by
judged_lowered limit w = rw (fit_lowered 0 false w, ← length_lowered w)

symbols_lowered : (w : List ℕ) → word_symbols w ≡ map symbol_of (map lower w)
unfolding word_symbols
symbols_lowered [] = refl
symbols_lowered (b ∷ t) = ap (λ (l : List ℕ). symbol_of (lower b) ∷ l) (symbols_lowered t)

-- Words that are the same in small letters get the same judgement, place included, and have the same symbols.
module _ (w v : List ℕ) (same-letters : map lower w ≡ map lower v) where
  pub same_judgement : (limit : ℕ) → judge_word limit w ≡ judge_word limit v
  same_judgement limit = judged_lowered limit w ∙ rw same-letters (sym (judged_lowered limit v))

  pub same_symbols : word_symbols w ≡ word_symbols v
  same_symbols = symbols_lowered w ∙ rw same-letters (sym (symbols_lowered v))

  pub same_length : length w ≡ length v
  same_length = length_lowered w ∙ rw same-letters (sym (length_lowered v))
