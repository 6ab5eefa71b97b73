-- Laws about letters, symbols and words. Function proofs and other crates cite these and not the definitions.
use Prim.Native.Nat.{ℕ, zero, suc, ◌+◌, ◌-◌, ◌≤◌, ◌<◌}
use mathlib.Core.Bool.{Bool, true, false, cond, not, ◌&&◌, ◌||◌, or-false}
use mathlib.Core.List.{List, [], ◌∷◌, ◌++◌}
use mathlib.Core.Path.{◌≡◌, refl, sym, ◌∙◌, ap}
use native.Mathlib.Numerals.{add-one}
use native.Mathlib.Omega.{arith}
use borrow.Author.Tests.{lt-leb, le-leb, le-ltb, eq-eqb, ne_eqb, leb-true, ltb-false, eqb-false, not-true, not-false}
use lib.Dec.{leb, ltb, eqb}
use lib.ListN.{length, get_or, drop, length-append, drop_of_length-le}
use Rattle.base.specs.Limits.{edge, apostrophe_symbol}
use Rattle.base.specs.Grounds.{Check, refuse_if}
use Rattle.std.specs.Prelude.{Ok, Err}
use Rattle.base.specs.declared.Ground.{Ground}
use Rattle.base.specs.declared.Ground.TheVariants.{WordEmpty, WordLong, NotLetter}
use Rattle.base.proofs.Grounds.{both_fine, not_refused}
use Rattle.base.proofs.Lists.{clash, cons_at, never}
use Rattle.words.specs.Symbols.{small, capital, letter, lower, digit, symbol_of, symbols_of, dot, apostrophe}
use Rattle.words.specs.Words.{Rule, Extends, letters_alone, starts_letter, is_between, with_apostrophes, all_fit, judge_length, judge_by, judge_word, judge_letters, letter_before, word_byte, word_symbols, row_of}

-- a range of bytes, from its lower end on
pub from_range : (lo hi b : ℕ) → lo ≤ b → leb b hi ≡ (leb lo b && leb b hi)
from_range lo hi b h = rw (le-leb lo b h)

-- where a range of bytes holds, its ends bound the byte
pub range_low : (lo hi b : ℕ) → (leb lo b && leb b hi) ≡ true → lo ≤ b
range_low lo hi b e = go (leb lo b) refl e
  where
    go : (t : Bool) → leb lo b ≡ t → (t && leb b hi) ≡ true → lo ≤ b
    go true p q = leb-true lo b p
    go false p q = never q

pub range_high : (lo hi b : ℕ) → (leb lo b && leb b hi) ≡ true → b ≤ hi
range_high lo hi b e = go (leb lo b) e
  where
    go : (t : Bool) → (t && leb b hi) ≡ true → b ≤ hi
    go true q = leb-true b hi q
    go false q = never q

pub small_low : (b : ℕ) → small b ≡ true → 97 ≤ b
unfolding small
small_low b e = range_low 97 122 b e

pub small_high : (b : ℕ) → small b ≡ true → b ≤ 122
unfolding small
small_high b e = range_high 97 122 b e

-- a byte in lower case, by its range
pub lower_below : (b : ℕ) → b < 65 → b ≡ lower b
unfolding lower capital
lower_below b h = rw (lt-leb 65 b h)

pub lower_above : (b : ℕ) → 65 ≤ b → 90 < b → b ≡ lower b
unfolding lower capital
lower_above b h k = rw (le-leb 65 b h, lt-leb b 90 k)

pub lower_capital : (b : ℕ) → 65 ≤ b → b ≤ 90 → b + 32 ≡ lower b
unfolding lower capital
lower_capital b h k = rw (le-leb 65 b h, le-leb b 90 k)

pub symbol_small : (b : ℕ) → small b ≡ true → b - 96 ≡ symbol_of b
unfolding symbol_of
symbol_small b e = rw e

pub symbol_dot : (b : ℕ) → small b ≡ false → b ≡ dot → edge ≡ symbol_of b
unfolding symbol_of
symbol_dot b e d = rw (e, eq-eqb b dot d)

pub symbol_apostrophe : (b : ℕ) → small b ≡ false → (b ≡ dot → ⊥) → b ≡ apostrophe → apostrophe_symbol ≡ symbol_of b
unfolding symbol_of
symbol_apostrophe b e d q = rw (e, ne_eqb b dot d, eq-eqb b apostrophe q)

pub symbol_none : (b : ℕ) → small b ≡ false → (b ≡ dot → ⊥) → (b ≡ apostrophe → ⊥) → 0 ≡ symbol_of b
unfolding symbol_of
symbol_none b e d q = rw (e, ne_eqb b dot d, ne_eqb b apostrophe q)

-- a length that is judged fine
pub length_fine : (limit size : ℕ) → (size ≡ 0 → ⊥) → size ≤ limit → (Ok tt) ≡ judge_length limit size
unfolding judge_length
length_fine limit size h k = rw (ne_eqb size 0 h, le-ltb limit size k)

-- the judgement of a word under any rule: by its length, then byte by byte
module _ (rule : Rule) (limit : ℕ) (w : List ℕ) {c : Check} (l : c ≡ judge_length limit (length w)) where
  pub word_refused : {g : Ground} → c ≡ Err g → Err g ≡ judge_by rule limit w
  unfolding judge_by
  word_refused r = rw (sym l ∙ r)

  pub word_scan : c ≡ Ok tt → judge_by rule limit w ≡ all_fit rule 0 false w
  unfolding judge_by
  word_scan r = rw (sym l ∙ r)

module _ (rule : Rule) (after : Bool) (w : List ℕ) (i : ℕ) (h : i < length w) where
  fit_on : rule after (get_or w i 0) (drop (i + 1) w) ≡ true → all_fit rule i after (drop i w) ≡ all_fit rule (i + 1) (letter (get_or w i 0)) (drop (i + 1) w)
  unfolding all_fit
  fit_on e = rw (cons_at w i h, e)

  fit_stop : rule after (get_or w i 0) (drop (i + 1) w) ≡ false → all_fit rule i after (drop i w) ≡ Err (NotLetter i)
  unfolding all_fit
  fit_stop e = rw (cons_at w i h, e)

pub fit_end : (rule : Rule) (after : Bool) (w : List ℕ) (i : ℕ) → length w ≤ i → all_fit rule i after (drop i w) ≡ Ok tt
unfolding all_fit
fit_end rule after w i h = rw (drop_of_length-le w h)

-- an apostrophe between two letters
before_not : (w : List ℕ) (i : ℕ) → i ≡ 0 → letter_before w i ≡ false
unfolding letter_before
before_not w i z = rw z

before_in : (w : List ℕ) (i : ℕ) → (i ≡ 0 → ⊥) → letter_before w i ≡ letter (get_or w (i - 1) 0)
unfolding letter_before
before_in w zero z = absurd (z refl)
before_in w (suc k) z = let e : suc k - 1 ≡ k = omega arith in rw e

module _ (w : List ℕ) (i : ℕ) where
  pub between_other : (get_or w i 0 ≡ apostrophe → ⊥) → false ≡ is_between (letter_before w i) (get_or w i 0) (drop (i + 1) w)
  unfolding is_between
  between_other q = rw (ne_eqb (get_or w i 0) apostrophe q)

  module _ (q : get_or w i 0 ≡ apostrophe) where
    pub between_first : i ≡ 0 → false ≡ is_between (letter_before w i) (get_or w i 0) (drop (i + 1) w)
    unfolding is_between
    between_first z = rw (eq-eqb (get_or w i 0) apostrophe q, before_not w i z)

    module _ (z : i ≡ 0 → ⊥) {r : Bool} (l : r ≡ letter (get_or w (i - 1) 0)) where
      pub between_behind : not r ≡ true → false ≡ is_between (letter_before w i) (get_or w i 0) (drop (i + 1) w)
      unfolding is_between
      between_behind n = rw (eq-eqb (get_or w i 0) apostrophe q, before_in w i z ∙ sym l ∙ not-true r n)

      module _ (n : not r ≡ false) where
        pub between_last : length w ≤ i + 1 → false ≡ is_between (letter_before w i) (get_or w i 0) (drop (i + 1) w)
        unfolding is_between starts_letter
        between_last h = rw (eq-eqb (get_or w i 0) apostrophe q, before_in w i z ∙ sym l ∙ not-false r n, drop_of_length-le w h)

        pub between_inside : i + 1 < length w → letter (get_or w (i + 1) 0) ≡ is_between (letter_before w i) (get_or w i 0) (drop (i + 1) w)
        unfolding is_between starts_letter
        between_inside h = rw (eq-eqb (get_or w i 0) apostrophe q, before_in w i z ∙ sym l ∙ not-false r n, cons_at w (i + 1) h)

-- the judgement byte by byte, by a test of the bytes that are no letters
pub fit_start : (rule : Rule) (w : List ℕ) → all_fit rule 0 false w ≡ all_fit rule 0 (letter_before w 0) (drop 0 w)
unfolding letter_before
fit_start rule w = refl

before_at : (w : List ℕ) (i : ℕ) → letter_before w (i + 1) ≡ letter (get_or w i 0)
unfolding letter_before
before_at w i = rw add-one

module _ (rule : Rule) (w : List ℕ) {test : ℕ → Bool → Type 0} (x : Extends rule w test) (i : ℕ) (h : i < length w) where
  fit_next : rule (letter_before w i) (get_or w i 0) (drop (i + 1) w) ≡ true → all_fit rule i (letter_before w i) (drop i w) ≡ all_fit rule (i + 1) (letter_before w (i + 1)) (drop (i + 1) w)
  fit_next e = fit_on rule (letter_before w i) w i h e ∙ ap (λ (z : Bool). all_fit rule (i + 1) z (drop (i + 1) w)) (sym (before_at w i))

  pub fit_letter : letter (get_or w i 0) ≡ true → all_fit rule i (letter_before w i) (drop i w) ≡ all_fit rule (i + 1) (letter_before w (i + 1)) (drop (i + 1) w)
  fit_letter e = fit_next (x.letters (letter_before w i) (get_or w i 0) (drop (i + 1) w) e)

  module _ (e : letter (get_or w i 0) ≡ false) {r : Bool} (p : test i r) where
    told : r ≡ rule (letter_before w i) (get_or w i 0) (drop (i + 1) w)
    told = rw add-one (x.others i r h e p)

    pub fit_other : r ≡ true → all_fit rule i (letter_before w i) (drop i w) ≡ all_fit rule (i + 1) (letter_before w (i + 1)) (drop (i + 1) w)
    fit_other q = fit_next (sym told ∙ q)

    pub fit_refused : r ≡ false → all_fit rule i (letter_before w i) (drop i w) ≡ Err (NotLetter i)
    fit_refused q = fit_stop rule (letter_before w i) w i h (sym told ∙ q)

-- which tests make the two rules of letters
pub letters_extend : (w : List ℕ) {test : ℕ → Bool → Type 0} → ((i : ℕ) (r : Bool) → i < length w → test i r → r ≡ false) → Extends letters_alone w test
unfolding letters_alone
letters_extend w says = record { letters = λ after b behind e. e; others = λ i r h e p. says i r h p ∙ sym e }

pub between_extends : (w : List ℕ) {test : ℕ → Bool → Type 0} → ((i : ℕ) (r : Bool) → i < length w → test i r → r ≡ is_between (letter_before w i) (get_or w i 0) (drop (i + 1) w))
    → Extends with_apostrophes w test
unfolding with_apostrophes
between_extends w says = record { letters = λ after b behind e. rw e; others = λ i r h e p. rw e (rw add-one at (says i r h p)) }

-- what a judged word is: not empty, short, and each byte as its rule has it
fits_each : (rule : Rule) (test : ℕ → Bool) → ((after : Bool) (b : ℕ) (t : List ℕ) → rule after b t ≡ true → test b ≡ true)
    → (at : ℕ) (after : Bool) (l : List ℕ) → all_fit rule at after l ≡ Ok tt → (i : ℕ) → i < length l → test (get_or l i 0) ≡ true
unfolding all_fit
fits_each rule test says at after [] e i h = absurd (omega arith)
fits_each rule test says at after (b ∷ t) e i h = go (rule after b t) refl e (fits_each rule test says (at + 1) (letter b) t) i h
  where
    go : (z : Bool) → rule after b t ≡ z → cond z (all_fit rule (at + 1) (letter b) t) (Err (NotLetter at)) ≡ Ok tt
        → (all_fit rule (at + 1) (letter b) t ≡ Ok tt → (i : ℕ) → i < length t → test (get_or t i 0) ≡ true) → (i : ℕ) → i < length (b ∷ t) → test (get_or (b ∷ t) i 0) ≡ true
    go true p q next zero k = says after b t p
    go true p q next (suc i) k = next q i (omega arith)
    go false p q next i k = clash cc

module _ (rule : Rule) (limit : ℕ) (w : List ℕ) (fine : judge_by rule limit w ≡ Ok tt) where
  judged_length : judge_length limit (length w) ≡ Ok tt
  unfolding judge_by
  judged_length = (both_fine (judge_length limit (length w)) (all_fit rule 0 false w) fine).0

  pub judged_bytes : all_fit rule 0 false w ≡ Ok tt
  unfolding judge_by
  judged_bytes = (both_fine (judge_length limit (length w)) (all_fit rule 0 false w) fine).1

  judged_some : 0 < length w
  unfolding judge_length
  judged_some =
      let n = eqb-false (length w) 0 (not_refused (eqb (length w) 0) WordEmpty (both_fine (refuse_if (eqb (length w) 0) WordEmpty) _ judged_length).0) in omega (arith, n)

  judged_fits : length w ≤ limit
  unfolding judge_length
  judged_fits = ltb-false limit (length w) (not_refused (ltb limit (length w)) WordLong (both_fine (refuse_if (eqb (length w) 0) WordEmpty) _ judged_length).1)

module _ (limit : ℕ) (w : List ℕ) (fine : judge_letters limit w ≡ Ok tt) where
  pub letters_fit : length w ≤ limit
  letters_fit = judged_fits letters_alone limit w fine

  pub letters_byte : (i : ℕ) → i < length w → letter (get_or w i 0) ≡ true
  unfolding letters_alone
  letters_byte = fits_each letters_alone letter (λ after b t e. e) 0 false w (judged_bytes letters_alone limit w fine)

between_byte : (after : Bool) (b : ℕ) (t : List ℕ) → with_apostrophes after b t ≡ true → word_byte b ≡ true
unfolding with_apostrophes is_between word_byte
between_byte after b t e = go (letter b) (eqb b apostrophe) (after && starts_letter t) e
  where
    go : (x y z : Bool) → (x || (y && z)) ≡ true → (x || y) ≡ true
    go true y z h = refl
    go false true z h = refl
    go false false z h = h

module _ (limit : ℕ) (w : List ℕ) (fine : judge_word limit w ≡ Ok tt) where
  pub word_some : 0 < length w
  word_some = judged_some with_apostrophes limit w fine

  pub word_fits : length w ≤ limit
  word_fits = judged_fits with_apostrophes limit w fine

  pub word_byte_lem : (i : ℕ) → i < length w → word_byte (get_or w i 0) ≡ true
  word_byte_lem = fits_each with_apostrophes word_byte between_byte 0 false w (judged_bytes with_apostrophes limit w fine)

-- a byte of a word that is no apostrophe is a letter
pub byte_letter : (b : ℕ) → word_byte b ≡ true → (b ≡ apostrophe → ⊥) → letter b ≡ true
unfolding word_byte
byte_letter b e q = sym (or-false (letter b)) ∙ rw (← ne_eqb b apostrophe q) e

pub apostrophe_lower : (b : ℕ) → b ≡ apostrophe → apostrophe_symbol ≡ symbol_of (lower b)
unfolding symbol_of lower capital small
apostrophe_lower b q = rw q

-- which classes of bytes exclude each other
pub small_not_digit : (b : ℕ) → small b ≡ true → digit b ≡ false
unfolding digit
small_not_digit b e = let h : 57 < b = omega (arith, small_low b e) in rw (lt-leb b 57 h, le-leb 49 b (omega arith))

pub small_symbol : (b : ℕ) → small b ≡ true → eqb (symbol_of b) 0 ≡ false
small_symbol b e = ne_eqb (symbol_of b) 0 (λ z. omega (arith, small_low b e, symbol_small b e, z))

pub dot_symbol : (b : ℕ) → small b ≡ false → b ≡ dot → eqb (symbol_of b) 0 ≡ false
dot_symbol b e d = ne_eqb (symbol_of b) 0 (λ z. omega (arith, symbol_dot b e d, z))

pub apostrophe_symbol_lem : (b : ℕ) → small b ≡ false → b ≡ apostrophe → eqb (symbol_of b) 0 ≡ false
apostrophe_symbol_lem b e q = ne_eqb (symbol_of b) 0 (λ z. omega (arith, symbol_apostrophe b e (λ d. omega (arith, d, q)) q, z))

pub other_symbol : (b : ℕ) → small b ≡ false → (b ≡ dot → ⊥) → (b ≡ apostrophe → ⊥) → eqb (symbol_of b) 0 ≡ true
other_symbol b e d q = eq-eqb (symbol_of b) 0 (sym (symbol_none b e d q))

pub small_not_apostrophe : (b : ℕ) → small b ≡ true → b ≡ apostrophe → ⊥
small_not_apostrophe b e q = omega (arith, small_low b e, q)

pub digit_not_dot : (b : ℕ) → digit b ≡ true → b ≡ dot → ⊥
unfolding digit
digit_not_dot b e d = omega (arith, range_low 49 57 b e, d)

pub digit_not_apostrophe : (b : ℕ) → digit b ≡ true → b ≡ apostrophe → ⊥
unfolding digit
digit_not_apostrophe b e q = omega (arith, range_low 49 57 b e, q)

-- the symbols of what is left of a line, by the class of its first byte
pub symbols_skip : (b : ℕ) (t : List ℕ) → eqb (symbol_of b) 0 ≡ true → symbols_of (b ∷ t) ≡ symbols_of t
unfolding symbols_of
symbols_skip b t e = rw e

pub symbols_keep : (b : ℕ) (t : List ℕ) → eqb (symbol_of b) 0 ≡ false → symbols_of (b ∷ t) ≡ symbol_of b ∷ symbols_of t
unfolding symbols_of
symbols_keep b t e = rw e

-- a word's symbols, letter by letter
pub symbols_append : (a b : List ℕ) → word_symbols (a ++ b) ≡ word_symbols a ++ word_symbols b
unfolding word_symbols
symbols_append [] b = refl
symbols_append (x ∷ a) b = ap (λ (l : List ℕ). symbol_of (lower x) ∷ l) (symbols_append a b)

pub symbols_length : (w : List ℕ) → length (word_symbols w) ≡ length w
unfolding word_symbols
symbols_length [] = refl
symbols_length (x ∷ w) = ap suc (symbols_length w)

pub row_length : (w : List ℕ) → length (row_of w) ≡ length w + 2
unfolding row_of
row_length w = ap suc (length-append (word_symbols w) (edge ∷ [])) ∙ omega (arith, symbols_length w)
