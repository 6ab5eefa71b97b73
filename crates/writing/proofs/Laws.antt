-- One law for each way through the code, and how long what is written may be.
use Prim.Native.Nat.{ℕ, zero, suc, ◌+◌, ◌*◌, ◌-◌, ◌/◌, ◌≤◌, ◌<◌}
use mathlib.Core.Bool.{Bool, true, false, cond}
use mathlib.Core.List.{List, [], ◌∷◌, ◌++◌, append_assoc}
use mathlib.Core.Path.{◌≡◌, refl, sym, ◌∙◌, ap}
use native.Mathlib.Nat.{mul-suc}
use native.Mathlib.Numerals.{add-one}
use native.Mathlib.Omega.{arith}
use borrow.Author.Tests.{eq-eqb, ne_eqb}
use lib.Dec.{eqb, ltb}
use lib.ListN.{length, get_or, take, drop, set, length-append, length-set}
use lib.Seq.{drop-drop, sets, sets-eq, take-suc, take-length}
use Rattle.std.proofs.Common.{length-take-le}
use borrow.Rule.Slice.PartMut.{put_mid}
use Rattle.writing.specs.Put.{Put}
use Rattle.writing.specs.Writing.{last_digit, digits, field, counted, letter_with, hyphenated}
use Rattle.writing.specs.Written.{Fits, Writes}
use Rattle.writing.specs.declared.Writer.{Writer}
use Rattle.writing.proofs.Parts.{Going, go_fits, go_step, sets_append}

-- a letter
pub letter_plain : (sign : List ℕ) (mark b : ℕ) → mark ≡ 0 → letter_with sign mark b ≡ b ∷ []
letter_plain sign mark b e = rw (eq-eqb mark 0 e)

pub letter_marked : (sign : List ℕ) (mark b : ℕ) → (mark ≡ 0 → ⊥) → letter_with sign mark b ≡ sign ++ (b ∷ [])
letter_marked sign mark b e = rw (ne_eqb mark 0 e)

-- a word, where these marks and letters are left
module _ (sign : List ℕ) {left word : List ℕ} (mark letter : ℕ) (marks letters : List ℕ) (e : left ≡ mark ∷ marks) (f : word ≡ letter ∷ letters) where
  word_turn : hyphenated sign left word ≡ letter_with sign mark letter ++ hyphenated sign marks letters
  unfolding hyphenated
  word_turn = rw (e, f)

  pub marks_enough : length word ≤ length left → length letters ≤ length marks
  marks_enough h = omega (arith, h, ap length e, ap length f)

  module _ {whole : List ℕ} {a b : Writer} (g : Going whole a (hyphenated sign left word) b) where
    pub word_fits : Fits (letter_with sign mark letter) b
    word_fits = go_fits (letter_with sign mark letter) (hyphenated sign marks letters) word_turn g

    pub word_step : {c : Writer} → Writes (letter_with sign mark letter) b c → Going whole a (hyphenated sign marks letters) c
    word_step = go_step (letter_with sign mark letter) (hyphenated sign marks letters) word_turn g

pub word_end : (sign marks word : List ℕ) → length word ≡ 0 → hyphenated sign marks word ≡ []
unfolding hyphenated
word_end sign marks [] h = refl
word_end sign marks (b ∷ word) h = absurd (omega (arith, h))

-- a text
pub text_put : (text : List ℕ) (at : ℕ) (room : List ℕ) → at + length text ≤ length room → {part : List ℕ} → part ≡ text
    → Put text at room (at + length text) (put_mid at (at + length text - at) room part)
text_put text at room h e =
    let n : at + length text - at ≡ length text = omega arith in
    record { fits = h; ends = refl; memory = rw (e, n, drop-drop (length text) at room) (sym (sets-eq text room at h ∙ append_assoc (take at room) text (drop (at + length text) room))) }

-- a text of which the bytes before place i were put, behind the place where it begins
pub record Begun (text : List ℕ) (a b : Writer) (i : ℕ) : Type 0 where
  pub room : b.room.ghost_name ≡ a.room.ghost_name
  pub at : b.at ≡ a.at
  pub size : length b.room.now ≡ length a.room.now
  pub memory : b.room.now ≡ sets a.room.now a.at (take i text)

pub text_start : (text : List ℕ) (a : Writer) → Begun text a a 0
text_start text a = record { room = refl; at = refl; size = refl; memory = refl }

module _ (text : List ℕ) (a b : Writer) (i : ℕ) (g : Begun text a b i) where
  pub byte_fits : Fits text a → i < length text → b.at + i < length b.room.now
  byte_fits f h = omega (arith, f, h, g.at, g.size)

  pub text_turn : i < length text → {c : Writer} → c.room.ghost_name ≡ b.room.ghost_name → c.at ≡ b.at → c.room.now ≡ set b.room.now (b.at + i) (get_or text i 0) → Begun text a c (i + 1)
  text_turn h r e m =
      let n : length (take i text) ≡ i = length-take-le i text (omega (arith, h)) in
      record {
        room = r ∙ g.room;
        at = e ∙ g.at;
        size = rw m (length-set b.room.now (b.at + i) (get_or text i 0)) ∙ g.size;
        memory = rw (m, g.memory, g.at, add-one, take-suc text i 0 h) (sym (sets_append (take i text) (get_or text i 0 ∷ []) a.room.now a.at ∙ rw n refl));
      }

  pub text_end : Fits text a → i ≡ length text → {c : Writer} → c.room.ghost_name ≡ b.room.ghost_name → c.at ≡ b.at + length text → c.room.now ≡ b.room.now → Writes text a c
  text_end f e r p m =
      record {
        room = r ∙ g.room;
        size = ap length m ∙ g.size;
        put = record { fits = f; ends = p ∙ rw g.at; memory = m ∙ g.memory ∙ rw (e, take-length text) };
      }

-- of two lists, whichever it is, neither is longer
pub either_short : (b : Bool) (x y : List ℕ) (n : ℕ) → length x ≤ n → length y ≤ n → length (cond b x y) ≤ n
either_short true x y n p q = p
either_short false x y n p q = q

pub digits_short : (more n : ℕ) → length (digits more n) ≤ more + 1
unfolding digits
digits_short zero n = omega arith
digits_short (suc more) n =
    either_short (ltb n 10) (last_digit n) (digits more (n / 10) ++ last_digit n) (suc more + 1) (omega arith)
    (omega (arith, length-append (digits more (n / 10)) (last_digit n), digits_short more (n / 10)))

pub counted_short : (label : List ℕ) (n : ℕ) → length (counted label n) ≤ length label + 21
counted_short label n = omega (arith, length-append label (field n), digits_short 19 n)

letter_short : (sign : List ℕ) (mark b : ℕ) → length (letter_with sign mark b) ≤ length sign + 1
letter_short sign mark b = either_short (eqb mark 0) _ _ (length sign + 1) (omega arith) (omega (arith, length-append sign (b ∷ [])))

pub word_short : (sign marks word : List ℕ) → length (hyphenated sign marks word) ≤ (length sign + 1) * length word
unfolding hyphenated
word_short sign marks [] = omega arith
word_short sign [] (b ∷ word) = omega (arith, word_short sign [] word, mul-suc (length sign + 1) (length word))
word_short sign (mark ∷ marks) (b ∷ word) =
    omega (
      arith,
      word_short sign marks word,
      letter_short sign mark b,
      mul-suc (length sign + 1) (length word),
      length-append (letter_with sign mark b) (hyphenated sign marks word),
    )

-- marks behind the word's last letter don't show
pub marks_front : (sign xs ys word : List ℕ) → length word ≤ length xs → hyphenated sign (xs ++ ys) word ≡ hyphenated sign xs word
unfolding hyphenated
marks_front sign xs ys [] h = refl
marks_front sign [] ys (b ∷ word) h = absurd (omega arith)
marks_front sign (x ∷ xs) ys (b ∷ word) h = ap (λ (l : List ℕ). letter_with sign x b ++ l) (marks_front sign xs ys word (omega arith))
