-- What follows for the customer.
use Prim.Native.Nat.{ℕ, ◌+◌, ◌*◌, ◌-◌, ◌<◌, ◌≤◌}
use mathlib.Core.Bool.{true}
use mathlib.Core.List.{List}
use mathlib.Core.Path.{◌≡◌, refl, sym, ◌∙◌, ap, subst}
use native.Mathlib.Omega.{arith}
use lib.ListN.{length}
use Rattle.base.specs.Limits.{word_limit1980, short_word1980, budget1980}
use Rattle.base.specs.Grounds.{Finds, Refuses, told, first_of, Check}
use Rattle.base.specs.declared.Ground.{Ground}
use Rattle.std.specs.Prelude.{Ok, Err, None}
use Rattle.base.proofs.Grounds.{Ordered, said_found, said_refused_lem, no_refusal}
use Rattle.words.specs.Words.{judge_letters}
use Rattle.words.proofs.Laws.{letters_fit}
use Rattle.sheet1980.specs.Sheet.{u, sheet_of}
use Rattle.suffix1980.specs.Suffixes.{infinity, sufbegin, rows_fetched, all_instructions}
use Rattle.suffix1980.proofs.Masks.{no_mask_fetched}
use Rattle.machine1980.specs.Run.{Outcome, RanOut, Marked, machine}
use Rattle.machine1980.specs.Breaks.{in_print, is_break}
use Rattle.machine1980.specs.Calls.{grounds1980, judge1980, answered_found, ran_out_found, said1980, values_of, answer1980, room_left, room1980, Reprints, Answer1980}
use Rattle.machine1980.proofs.Order.{ordered_1980, judged_fine}
use Rattle.machine1980.proofs.Written.{written, all_letters}
use Rattle.machine1980.proofs.Laws.{short_machine, no_marks_short}
use Rattle.machine1980.proofs.Budgets.{most_executed, Within, within, any_budget}

ran_not : (most : ℕ) (o : Outcome) → Within most o → o ≡ RanOut → ⊥
ran_not most RanOut w e = w
ran_not most (Marked finale marks executed) w e = cc

executed_few : (most : ℕ) (o : Outcome) → Within most o → {finale executed : ℕ} {marks : List ℕ} → o ≡ Marked finale marks executed → executed ≤ most
executed_few most o w {finale} {executed} {marks} e = subst (λ (x : Outcome). Within most x) e w

module _ (word : List ℕ) (judged : judge_letters word_limit1980 word ≡ Ok tt) where
  -- "show that no word runs out": the budget of 20,000 is far above what the longest word may take, 2,024.
  pub no_word_runs_out : machine budget1980 word ≡ RanOut → ⊥
  no_word_runs_out e = ran_not (most_executed (length word)) (machine budget1980 word) (within word judged budget1980 (omega (arith, letters_fit word_limit1980 word judged))) e

  pub few_executed : {finale executed : ℕ} {marks : List ℕ} → machine budget1980 word ≡ Marked finale marks executed → (executed ≤ 32 * length word + 8) × (executed ≤ 2024)
  few_executed e =
      let w = executed_few (most_executed (length word)) (machine budget1980 word) (within word judged budget1980 (omega (arith, letters_fit word_limit1980 word judged))) e in
      (w, omega (arith, w, letters_fit word_limit1980 word judged))

  -- Any two budgets from 32 n + 8 on give the same answer.
  pub same_answer : (a b : ℕ) → 32 * length word + 8 ≤ a → 32 * length word + 8 ≤ b → machine a word ≡ machine b word
  same_answer a b h k = any_budget word judged a h ∙ sym (any_budget word judged b k)

  -- "Suffix words 0, 50, .. are letter masks": none of them is ever executed as an instruction.
  pub no_mask_executed : (budget : ℕ) → short_word1980 < length word → all_instructions (rows_fetched budget (length word) (sufbegin (u + length word - 1) true infinity (sheet_of word))) ≡ true
  no_mask_executed budget h = no_mask_fetched budget (length word) (sheet_of word) (written word_limit1980 word judged) h (all_letters word_limit1980 word judged)

-- "those of 1 to 4 letters have no break and execute nothing"
pub short_words : (budget : ℕ) (word : List ℕ) → length word ≤ short_word1980 → values_of (length word) (machine budget word) ≡ answered_found 0 0
unfolding values_of
short_words budget word h =
    ap (values_of (length word)) (short_machine budget word h)
    ∙ ap (λ k. answered_found k 0) (no_marks_short (length word) infinity (sheet_of word) h)

-- "Hyphens show before letters 3 to n - 2": a break is a gap from 2 to n - 3.
pub breaks_inside : (n finale : ℕ) (marks : List ℕ) (g : ℕ) → is_break n finale marks g ≡ true → (2 ≤ g) × (g + 3 ≤ n)
unfolding is_break in_print
breaks_inside n finale marks g e = grind arith

-- The same of the call: no answer is "ran out", and under every budget from 2,024 on all answers and rooms are the same.
abbrev pub enough : ℕ
enough = 2024

ordered_as : (word : List ℕ) (size : ℕ) {c : Check} → judge1980 word size ≡ c → Ordered c (grounds1980 word size)
ordered_as word size e = subst (λ (x : Check). Ordered x (grounds1980 word size)) e (ordered_1980 word size)

refused_as : (word : List ℕ) (size : ℕ) {g : Ground} → judge1980 word size ≡ Err g → (budget : ℕ) → first_of (Finds (values_of (length word) (machine budget word))) (grounds1980 word size) ≡ Refuses (told g)
refused_as word size j budget = said_refused_lem (ordered_as word size j) (values_of (length word) (machine budget word))

no_ran_out : (n most : ℕ) (o : Outcome) → Within most o → Finds (values_of n o) ≡ Finds ran_out_found → ⊥
unfolding values_of
no_ran_out n most RanOut w e = w
no_ran_out n most (Marked finale marks executed) w e = cc

pub never_ran_out : (word room after : List ℕ) (r : Answer1980) → Reprints budget1980 word room r after → r ≡ Ok None → ⊥
unfolding said1980 answer1980
never_ran_out word room after r p e = go (judge1980 word (length room)) refl
  where
    said : Finds ran_out_found ≡ first_of (Finds (values_of (length word) (machine budget1980 word))) (grounds1980 word (length room))
    said = ap said1980 (sym e) ∙ p.answered

    go : (c : Check) → judge1980 word (length room) ≡ c → ⊥
    go (Ok tt) j =
        let w = judged_fine word (length room) j in
        no_ran_out (length word) (most_executed (length word)) (machine budget1980 word) (within word w budget1980 (omega (arith, letters_fit word_limit1980 word w)))
        (sym (said ∙ said_found (ordered_as word (length room) j) (values_of (length word) (machine budget1980 word))))
    go (Err g) j = no_refusal (said ∙ refused_as word (length room) j budget1980)

module _ (a b : ℕ) (h : enough ≤ a) (k : enough ≤ b) (word : List ℕ) where
  machines_same : judge_letters word_limit1980 word ≡ Ok tt → machine a word ≡ machine b word
  machines_same w = let n = letters_fit word_limit1980 word w in same_answer word w a b (omega arith) (omega arith)

  pub answers_same : (size : ℕ) → answer1980 a word size ≡ answer1980 b word size
  unfolding answer1980
  answers_same size = go (judge1980 word size) refl
    where
      go : (c : Check) → judge1980 word size ≡ c
          → first_of (Finds (values_of (length word) (machine a word))) (grounds1980 word size) ≡ first_of (Finds (values_of (length word) (machine b word))) (grounds1980 word size)
      go (Ok tt) j = rw (machines_same (judged_fine word size j))
      go (Err g) j = rw (refused_as word size j a, refused_as word size j b)

  pub rooms_same : (room : List ℕ) → room1980 a word room ≡ room1980 b word room
  unfolding room1980 answer1980
  rooms_same room = go (judge1980 word (length room)) refl
    where
      go : (c : Check) → judge1980 word (length room) ≡ c
          → room_left (first_of (Finds (values_of (length word) (machine a word))) (grounds1980 word (length room))) (machine a word) (length word) room
          ≡ room_left (first_of (Finds (values_of (length word) (machine b word))) (grounds1980 word (length room))) (machine b word) (length word) room
      go (Ok tt) j = rw (machines_same (judged_fine word (length room) j))
      go (Err g) j = rw (refused_as word (length room) j a, refused_as word (length room) j b)
