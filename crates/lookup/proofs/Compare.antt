-- Laws about a word against a line: one for each way through the code.
use Prim.Native.Nat.{ℕ, ◌+◌, ◌≤◌, ◌<◌}
use mathlib.Core.Bool.{Bool, true, false, cond, not, ◌&&◌}
use mathlib.Core.List.{List, []}
use mathlib.Core.Path.{◌≡◌, refl, sym, ◌∙◌, ap}
use native.Mathlib.Decide.{dec_le}
use native.Mathlib.Omega.{arith}
use borrow.Author.Tests.{eq-eqb, ne_eqb, eqb-true, eqb-false, le-leb, lt-leb, leb-true, not-true, not-false}
use lib.Bits.{bit_or}
use lib.Dec.{eqb, leb}
use lib.ListN.{length, get_or, drop, drop_of_length-le}
use Rattle.base.specs.Tests.{same_list}
use Rattle.base.proofs.Lists.{both, cons_at}
use Rattle.words.specs.Symbols.{small, lower, symbol_of, symbols_of}
use Rattle.words.specs.Words.{word_symbols}
use Rattle.words.proofs.Laws.{small_symbol, symbols_skip}
use Rattle.lookup.proofs.Letters.{folded_meets, one_letter, no_symbol}

-- both from the letters and bytes that the code stands at
unfoldable pub same_from : List ℕ → ℕ → List ℕ → ℕ → Bool
same_from w i l j = same_list (word_symbols (drop i w)) (symbols_of (drop j l))

pub same_start : (w : List ℕ) (i : ℕ) (l : List ℕ) (j : ℕ) → same_list (word_symbols (drop i w)) (symbols_of (drop j l)) ≡ same_from w i l j
unfolding same_from
same_start w i l j = refl

module _ (w : List ℕ) (i : ℕ) (l : List ℕ) (j : ℕ) {y : ℕ} (k : j < length l) (q : y ≡ symbol_of (get_or l j 0)) where
  pub same_skip : y ≡ 0 → same_from w i l j ≡ same_from w i l (j + 1)
  unfolding same_from
  same_skip e = rw (cons_at l j k, symbols_skip (get_or l j 0) (drop (j + 1) l) (eq-eqb (symbol_of (get_or l j 0)) 0 (sym q ∙ e)))

  module _ (e : y ≡ 0 → ⊥) {b x : ℕ} (h : i < length w) (m : b ≡ lower (get_or w i 0)) (p : x ≡ symbol_of b) where
    pub same_differs : (x ≡ y → ⊥) → same_from w i l j ≡ false
    unfolding same_from same_list word_symbols symbols_of
    same_differs d = rw (cons_at w i h, cons_at l j k, ← q, ne_eqb y 0 e, ← m, ← p, ne_eqb x y d)

    pub same_agrees : x ≡ y → same_from w i l j ≡ same_from w (i + 1) l (j + 1)
    unfolding same_from same_list word_symbols symbols_of
    same_agrees d = rw (cons_at w i h, cons_at l j k, ← q, ne_eqb y 0 e, ← m, ← p, eq-eqb x y d)

pub same_end : (w : List ℕ) (i : ℕ) (l : List ℕ) (j : ℕ) → length l ≤ j → same_from w i l j ≡ leb (length w) i
unfolding same_from same_list word_symbols symbols_of
same_end w i l j k = rw (drop_of_length-le l k) (go (dec_le (length w) i))
  where
    go : Dec (length w ≤ i) → same_list (word_symbols (drop i w)) [] ≡ leb (length w) i
    go (yes h) = rw (le-leb (length w) i h, drop_of_length-le w h)
    go (no h) = let m : i < length w = omega arith in rw (lt-leb (length w) i m, cons_at w i m)

pub same_more : (w : List ℕ) (i : ℕ) (l : List ℕ) (j : ℕ) → i < length w → length l ≤ j → same_from w i l j ≡ false
same_more w i l j h k = same_end w i l j k ∙ lt-leb (length w) i h

-- the same where the word isn't used up and the line has no other symbol than letters
module _ (w : List ℕ) (i : ℕ) (l : List ℕ) (j : ℕ) (h : i < length w) (k : j < length l) where
  module _ (s : small (get_or l j 0) ≡ true) where
    some : symbol_of (get_or l j 0) ≡ 0 → ⊥
    some = eqb-false (symbol_of (get_or l j 0)) 0 (small_symbol (get_or l j 0) s)

    letter_differs : eqb (lower (get_or w i 0)) (get_or l j 0) ≡ false → same_from w i l j ≡ false
    letter_differs d =
        same_differs w i l j k refl some h refl refl
        (λ e. eqb-false (lower (get_or w i 0)) (get_or l j 0) d (one_letter (lower (get_or w i 0)) (get_or l j 0) s e))

    letter_agrees : eqb (lower (get_or w i 0)) (get_or l j 0) ≡ true → same_from w i l j ≡ same_from w (i + 1) l (j + 1)
    letter_agrees d = same_agrees w i l j k refl some h refl refl (ap symbol_of (eqb-true (lower (get_or w i 0)) (get_or l j 0) d))

  pub letters_part : (small (get_or l j 0) && not (eqb (lower (get_or w i 0)) (get_or l j 0))) ≡ true → same_from w i l j ≡ false
  letters_part p =
      let t = both (small (get_or l j 0)) (not (eqb (lower (get_or w i 0)) (get_or l j 0))) p in
      letter_differs t.0 (not-true (eqb (lower (get_or w i 0)) (get_or l j 0)) t.1)

  pub letters_on :
      {n : ℕ}
      → (not (small (get_or l j 0)) && not (eqb (symbol_of (get_or l j 0)) 0)) ≡ false
      → (small (get_or l j 0) && not (eqb (lower (get_or w i 0)) (get_or l j 0))) ≡ false
      → n ≡ cond (small (get_or l j 0)) 1 0
      → same_from w i l j ≡ same_from w (i + n) l (j + 1)
  letters_on {n} o p m = go (small (get_or l j 0)) refl p m
    where
      go : (z : Bool) → small (get_or l j 0) ≡ z → (z && not (eqb (lower (get_or w i 0)) (get_or l j 0))) ≡ false → n ≡ cond z 1 0 → same_from w i l j ≡ same_from w (i + n) l (j + 1)
      go true s q e = rw e (letter_agrees s (not-false (eqb (lower (get_or w i 0)) (get_or l j 0)) q))
      go false s q e = let z : i + n ≡ i = omega (arith, e) in rw z (same_skip w i l j k refl (no_symbol (get_or l j 0) s o))

-- whether both can be held together by two letters
abbrev pub paired : List ℕ → List ℕ → Bool
paired w l = leb 2 (length w) && (leb 2 (length l) && (small (get_or l 0 0) && small (get_or l 1 0)))

module _ (w l : List ℕ) where
  pub unpaired_word : length w < 2 → false ≡ paired w l
  unpaired_word h = rw (lt-leb 2 (length w) h)

  module _ (h : 2 ≤ length w) where
    pub unpaired_line : length l < 2 → false ≡ paired w l
    unpaired_line k = rw (le-leb 2 (length w) h, lt-leb 2 (length l) k)

    module _ (k : 2 ≤ length l) where
      pub unpaired_first : small (get_or l 0 0) ≡ false → false ≡ paired w l
      unpaired_first s = rw (le-leb 2 (length w) h, le-leb 2 (length l) k, s)

      pub paired_second : small (get_or l 0 0) ≡ true → small (get_or l 1 0) ≡ paired w l
      paired_second s = rw (le-leb 2 (length w) h, le-leb 2 (length l) k, s)

-- the first two letters of both
module _ (w l : List ℕ) (t : paired w l ≡ true) where
  behind_word : (leb 2 (length l) && (small (get_or l 0 0) && small (get_or l 1 0))) ≡ true
  behind_word = (both (leb 2 (length w)) (leb 2 (length l) && (small (get_or l 0 0) && small (get_or l 1 0))) t).1

  letters : (small (get_or l 0 0) ≡ true) × (small (get_or l 1 0) ≡ true)
  letters = both (small (get_or l 0 0)) (small (get_or l 1 0)) (both (leb 2 (length l)) (small (get_or l 0 0) && small (get_or l 1 0)) behind_word).1

  pub word_has : (k : ℕ) → k < 2 → k < length w
  word_has k h = omega (arith, leb-true 2 (length w) (both (leb 2 (length w)) (leb 2 (length l) && (small (get_or l 0 0) && small (get_or l 1 0))) t).0)

  pub line_has : (k : ℕ) → k < 2 → k < length l
  line_has k h = omega (arith, leb-true 2 (length l) (both (leb 2 (length l)) (small (get_or l 0 0) && small (get_or l 1 0)) behind_word).0)

  module _ (k : ℕ) (h : k < 2) (s : small (get_or l k 0) ≡ true) where
    meets : eqb (bit_or (get_or w k 0) 32) (get_or l k 0) ≡ true → same_from w k l k ≡ same_from w (k + 1) l (k + 1)
    meets e = letter_agrees w k l k (word_has k h) (line_has k h) s (sym (folded_meets (get_or w k 0) (get_or l k 0) s) ∙ e)

    misses : eqb (bit_or (get_or w k 0) 32) (get_or l k 0) ≡ false → same_from w k l k ≡ false
    misses e = letter_differs w k l k (word_has k h) (line_has k h) s (sym (folded_meets (get_or w k 0) (get_or l k 0) s) ∙ e)

  pub pair_agrees : (eqb (bit_or (get_or w 0 0) 32) (get_or l 0 0) && eqb (bit_or (get_or w 1 0) 32) (get_or l 1 0)) ≡ true → same_from w 0 l 0 ≡ same_from w 2 l 2
  pair_agrees e =
      let m = both (eqb (bit_or (get_or w 0 0) 32) (get_or l 0 0)) (eqb (bit_or (get_or w 1 0) 32) (get_or l 1 0)) e in
      meets 0 (omega arith) letters.0 m.0 ∙ meets 1 (omega arith) letters.1 m.1

  pub pair_parts : (eqb (bit_or (get_or w 0 0) 32) (get_or l 0 0) && eqb (bit_or (get_or w 1 0) 32) (get_or l 1 0)) ≡ false → same_from w 0 l 0 ≡ false
  pair_parts e = go (eqb (bit_or (get_or w 0 0) 32) (get_or l 0 0)) refl e
    where
      go : (z : Bool) → eqb (bit_or (get_or w 0 0) 32) (get_or l 0 0) ≡ z → (z && eqb (bit_or (get_or w 1 0) 32) (get_or l 1 0)) ≡ false → same_from w 0 l 0 ≡ false
      go true p q = meets 0 (omega arith) letters.0 p ∙ misses 1 (omega arith) letters.1 q
      go false p q = misses 0 (omega arith) letters.0 p
