-- What is held can be reached exactly where the test says so.
use Prim.Native.Nat.{ℕ, zero, suc, ◌+◌, ◌-◌, ◌≤◌, ◌<◌}
use mathlib.Core.Bool.{Bool, true, false, cond, ◌&&◌, ◌||◌}
use mathlib.Core.List.{List, [], ◌∷◌, ◌++◌}
use mathlib.Core.Logic.{◌↔◌}
use mathlib.Core.Path.{◌≡◌, refl, sym, ◌∙◌, ap}
use native.Mathlib.Decide.{dec_lt}
use native.Mathlib.Nat.{add-zero}
use native.Mathlib.Omega.{arith}
use borrow.Author.Tests.{lt-leb, le-leb, leb-true, eqb-true}
use lib.Dec.{leb, eqb}
use lib.ListN.{length, get_or, take, drop, replicate, length-append, length-replicate, take-append-drop, get_or-replicate}
use lib.Seq.{take-suc, take_all}
use Rattle.base.specs.Limits.{word_limit}
use Rattle.base.specs.Grounds.{Check}
use Rattle.std.specs.Prelude.{Ok, Err}
use Rattle.base.proofs.Lists.{never, both}
use Rattle.words.specs.Symbols.{letter, small, capital, apostrophe}
use Rattle.words.specs.Words.{judge_word, word_byte}
use Rattle.words.proofs.Laws.{word_byte_lem}
use Rattle.std.proofs.lemmas.Bool.Decides.{nat_tests}
use Rattle.std.proofs.lemmas.Grind.{common_steps}
use Rattle.runs.specs.Text.{onward, Held, Holding, Gone, GoneMarked, unfinished, held_of}
use Rattle.runs.specs.Held.{last_of, but_last, waits, joins, next, held_after}
use Rattle.runs.specs.Reached.{Reached, is_fine, is_word, can_be_held, is_reached}
use Rattle.runs.proofs.Laws.{apostrophe_none, last_is, but_last_is, joins_letter}
use Rattle.runs.proofs.Kept.{held_is, after_append}
use Rattle.runs.proofs.Words.{run_good, good_last, good_held}

pub fine_is : (c : Check) → is_fine c ≡ true → c ≡ Ok tt
fine_is (Ok _) e = refl
fine_is (Err g) e = never e

-- tests of what can be held
nothing_held : can_be_held [] ≡ true
unfolding can_be_held
nothing_held = refl

word_held : (w : List ℕ) → judge_word word_limit w ≡ Ok tt → can_be_held w ≡ true
unfolding can_be_held is_word
word_held w e = rw e (go (eqb (length w) 0))
  where
    go : (z : Bool) → (z || true) ≡ true
    go true = refl
    go false = refl

marked_held : (w : List ℕ) → judge_word word_limit w ≡ Ok tt → can_be_held (w ++ (apostrophe ∷ [])) ≡ true
unfolding can_be_held is_word waits
marked_held w e = rw (last_is w apostrophe, but_last_is w apostrophe, e) (go (eqb (length (w ++ (apostrophe ∷ []))) 0) (is_fine (judge_word word_limit (w ++ (apostrophe ∷ [])))))
  where
    go : (y z : Bool) → (y || (z || true)) ≡ true
    go true z = refl
    go false true = refl
    go false false = refl

-- a longer text reaches what a shorter one does
reached_later : (s : Held) (n m : ℕ) → n ≤ m → is_reached s n ≡ true → is_reached s m ≡ true
unfolding is_reached
reached_later (Holding kept) n m h e =
    let b = both (can_be_held kept) (leb (length kept) n) e in
    rw b.0 (le-leb (length kept) m (omega (arith, h, leb-true (length kept) n b.1)))
reached_later Gone n m h e = le-leb (word_limit + 1) m (omega (arith, h, leb-true (word_limit + 1) n e))
reached_later GoneMarked n m h e = le-leb (word_limit + 2) m (omega (arith, h, leb-true (word_limit + 2) n e))

-- what a run leaves unfinished, in a text of n bytes
module _ (run : List ℕ) (n : ℕ) (good : length run ≤ word_limit → judge_word word_limit run ≡ Ok tt) where
  unfinished_reached : (rest : List ℕ) (later : Held) → length run + length rest ≤ n → is_reached later n ≡ true → is_reached (unfinished run rest later) n ≡ true
  unfolding unfinished is_reached
  unfinished_reached [] later h e = go (dec_lt word_limit (length run))
    where
      go : Dec (word_limit < length run) → is_reached (cond (leb (length run) word_limit) (Holding run) Gone) n ≡ true
      go (yes p) = rw (lt-leb (length run) word_limit p) (le-leb (word_limit + 1) n (omega arith))
      go (no p) = let k : length run ≤ word_limit = omega arith in rw (le-leb (length run) word_limit k, word_held run (good k)) (le-leb (length run) n (omega arith))
  unfinished_reached (c ∷ []) later h e = go (eqb c apostrophe) refl (dec_lt word_limit (length run))
    where
      go : (z : Bool) → eqb c apostrophe ≡ z → Dec (word_limit < length run) → is_reached (cond z (cond (leb (length run) word_limit) (Holding (run ++ (c ∷ []))) GoneMarked) later) n ≡ true
      go false q d = e
      go true q (yes p) = rw (lt-leb (length run) word_limit p) (le-leb (word_limit + 2) n (omega arith))
      go true q (no p) =
          let k : length run ≤ word_limit = omega arith in
          rw (le-leb (length run) word_limit k, eqb-true c apostrophe q, marked_held run (good k))
          (le-leb (length (run ++ (apostrophe ∷ []))) n (omega (arith, length-append run (apostrophe ∷ []))))
  unfinished_reached (c ∷ (d ∷ t)) later h e = e

-- what a text leaves passes the test
held_reached : (text : List ℕ) (skip : ℕ) → is_reached (held_of skip text) (length text) ≡ true
unfolding held_of is_reached
held_reached [] zero = rw nothing_held
held_reached [] (suc k) = rw nothing_held
held_reached (b ∷ t) (suc k) = reached_later (held_of k t) (length t) (suc (length t)) (omega arith) (held_reached t k)
held_reached (b ∷ t) zero = go (letter b) refl (held_reached t 0) (held_reached t (onward t))
  where
    go : (z : Bool) → letter b ≡ z → is_reached (held_of 0 t) (length t) ≡ true → is_reached (held_of (onward t) t) (length t) ≡ true
        → is_reached (cond z (unfinished (b ∷ take (onward t) t) (drop (onward t) t) (held_of (onward t) t)) (held_of 0 t)) (suc (length t)) ≡ true
    go false e next behind = reached_later (held_of 0 t) (length t) (suc (length t)) (omega arith) next
    go true e next behind =
        let n : length (take (onward t) t) + length (drop (onward t) t) ≡ length t = sym (length-append (take (onward t) t) (drop (onward t) t)) ∙ ap length (take-append-drop (onward t) t) in
        unfinished_reached (b ∷ take (onward t) t) (suc (length t)) (λ h. run_good b t e h) (drop (onward t) t) (held_of (onward t) t) (omega (arith, n))
        (reached_later (held_of (onward t) t) (length t) (suc (length t)) (omega arith) behind)

after_none : held_after (Holding []) [] ≡ Holding []
unfolding held_after
after_none = refl

-- spaces leave nothing held
spaces_none : (n : ℕ) → held_after (Holding []) (replicate n 32) ≡ Holding []
unfolding held_after next joins letter small capital
spaces_none zero = refl
spaces_none (suc n) = spaces_none n

-- bytes of a text, and of two
abbrev Bytes : List ℕ → Type 0
Bytes l = (i : ℕ) → i < length l → get_or l i 0 < 256

bytes_same : (n b : ℕ) → b < 256 → Bytes (replicate n b)
bytes_same n b h i k = omega (arith, h, get_or-replicate n i b 0 (omega (arith, k, length-replicate {A = ℕ} n b)))

bytes_append : (u v : List ℕ) → Bytes u → Bytes v → Bytes (u ++ v)
bytes_append u v f g i k = grind (arith, common_steps, f, g)

letter_byte : (b : ℕ) → word_byte b ≡ true → b < 256
unfolding word_byte letter small capital
letter_byte b e = grind (arith, nat_tests)

bytes_word : (w : List ℕ) → judge_word word_limit w ≡ Ok tt → Bytes w
bytes_word w e i k = letter_byte (get_or w i 0) (word_byte_lem word_limit w e i k)

-- a text that leaves this held, behind as many spaces as are wanted
behind_spaces : (s : Held) (total : ℕ) (text : List ℕ) → Bytes text → length text ≤ total → held_after (Holding []) text ≡ s → Reached s total
behind_spaces s total text f h e =
    record {
      text = replicate (total - length text) 32 ++ text;
      bytes = bytes_append (replicate (total - length text) 32) text (bytes_same (total - length text) 32 (omega arith)) f;
      long = omega (arith, h, length-append (replicate (total - length text) 32) text, length-replicate {A = ℕ} (total - length text) 32);
      leaves =
          after_append (Holding []) (replicate (total - length text) 32) text
          ∙ ap (λ (x : Held). held_after x text) (spaces_none (total - length text))
          ∙ e;
    }

-- a run of letters that passes the limit, and an apostrophe behind it
long_run : List ℕ
long_run = replicate (word_limit + 1) 97

long_gone : held_after (Holding []) long_run ≡ Gone
unfolding long_run held_after next joins letter small capital
long_gone = refl

long_marked : held_after (Holding []) (long_run ++ (apostrophe ∷ [])) ≡ GoneMarked
unfolding held_after next letter small capital
long_marked = after_append (Holding []) long_run (apostrophe ∷ []) ∙ rw long_gone

one_byte : (b : ℕ) → b < 256 → Bytes (b ∷ [])
one_byte b h zero k = h
one_byte b h (suc i) k = absurd (omega (arith, k))

-- all bytes but the last, and the last
keep_last : (kept : List ℕ) → waits kept ≡ true → kept ≡ but_last kept ++ (apostrophe ∷ [])
unfolding waits
keep_last [] e = never e
keep_last (b ∷ t) e =
    let l : last_of (b ∷ t) ≡ apostrophe = eqb-true (last_of (b ∷ t)) apostrophe e in
    let n : suc (length (b ∷ t) - 1) ≡ length (b ∷ t) = omega arith in
    sym (take_all (suc (length (b ∷ t) - 1)) (b ∷ t) (omega arith))
    ∙ take-suc (b ∷ t) (length (b ∷ t) - 1) 0 (omega arith)
    ∙ ap (λ (x : ℕ). but_last (b ∷ t) ++ (x ∷ [])) l

marked_after : (w : List ℕ) → judge_word word_limit w ≡ Ok tt → held_after (Holding []) (w ++ (apostrophe ∷ [])) ≡ Holding (w ++ (apostrophe ∷ []))
unfolding held_after next
marked_after w e = after_append (Holding []) w (apostrophe ∷ []) ∙ rw (good_held w e, apostrophe_none, joins_letter w apostrophe (good_last w e))

-- what can be held is left by a text
holding_reached : (kept : List ℕ) (total : ℕ) → can_be_held kept ≡ true → length kept ≤ total → Reached (Holding kept) total
unfolding can_be_held is_word
holding_reached kept total e h = go (eqb (length kept) 0) refl (is_fine (judge_word word_limit kept)) refl (waits kept) refl (is_fine (judge_word word_limit (but_last kept))) refl e
  where
    none : (l : List ℕ) → length l ≡ 0 → held_after (Holding []) l ≡ Holding l
    none [] z = after_none
    none (b ∷ t) z = absurd (omega (arith, z))

    none_bytes : (l : List ℕ) → length l ≡ 0 → Bytes l
    none_bytes l z i k = absurd (omega (arith, z, k))

    go : (x : Bool) → eqb (length kept) 0 ≡ x → (y : Bool) → is_fine (judge_word word_limit kept) ≡ y → (m : Bool) → waits kept ≡ m → (g : Bool) → is_fine (judge_word word_limit (but_last kept)) ≡ g
        → (x || (y || (m && g))) ≡ true → Reached (Holding kept) total
    go true z y p m q g r t = let n = eqb-true (length kept) 0 z in behind_spaces (Holding kept) total kept (none_bytes kept n) h (none kept n)
    go false z true p m q g r t = let f = fine_is (judge_word word_limit kept) p in behind_spaces (Holding kept) total kept (bytes_word kept f) h (good_held kept f)
    go false z false p true q true r t =
        let f = fine_is (judge_word word_limit (but_last kept)) r in
        let k = keep_last kept q in
        behind_spaces (Holding kept) total kept
        (rw k (bytes_append (but_last kept) (apostrophe ∷ []) (bytes_word (but_last kept) f) (one_byte apostrophe (omega arith))))
        h
        (rw k (marked_after (but_last kept) f))
    go false z false p true q false r t = never t
    go false z false p false q g r t = never t

test_reached : (s : Held) (total : ℕ) → is_reached s total ≡ true → Reached s total
unfolding is_reached long_run
test_reached (Holding kept) total e = let b = both (can_be_held kept) (leb (length kept) total) e in holding_reached kept total b.0 (leb-true (length kept) total b.1)
test_reached Gone total e =
    behind_spaces Gone total long_run (bytes_same (word_limit + 1) 97 (omega arith)) (leb-true (word_limit + 1) total e) long_gone
test_reached GoneMarked total e =
    behind_spaces GoneMarked total (long_run ++ (apostrophe ∷ []))
    (bytes_append long_run (apostrophe ∷ []) (bytes_same (word_limit + 1) 97 (omega arith)) (one_byte apostrophe (omega arith)))
    (leb-true (word_limit + 2) total e)
    long_marked

-- "A state these calls couldn't leave": what is held can be reached exactly where the test says so, with a text of bytes.
pub reached_exactly : (s : Held) (total : ℕ) → (is_reached s total ≡ true) ↔ Reached s total
reached_exactly s total = (
  λ e. test_reached s total e,
  λ r. rw (← r.leaves, held_is r.text, ← r.long) (held_reached r.text 0),
)

-- one byte more
pub next_reached : (s : Held) (total b : ℕ) → is_reached s total ≡ true → is_reached (next s b) (total + 1) ≡ true
unfolding held_after
next_reached s total b e =
    let r = test_reached s total e in
    let n : length (r.text ++ (b ∷ [])) ≡ total + 1 = length-append r.text (b ∷ []) ∙ ap (λ (k : ℕ). k + 1) r.long in
    let h : held_after (Holding []) (r.text ++ (b ∷ [])) ≡ next s b = after_append (Holding []) r.text (b ∷ []) ∙ ap (λ (x : Held). next x b) r.leaves in
    rw (← h, held_is (r.text ++ (b ∷ [])), ← n) (held_reached (r.text ++ (b ∷ [])) 0)

pub after_reached : (s : Held) (total : ℕ) (piece : List ℕ) → is_reached s total ≡ true → is_reached (held_after s piece) (total + length piece) ≡ true
unfolding held_after
after_reached s total [] e = rw (add-zero total) e
after_reached s total (b ∷ t) e =
    let n : total + suc (length t) ≡ total + 1 + length t = omega arith in
    rw n (after_reached (next s b) (total + 1) t (next_reached s total b e))
