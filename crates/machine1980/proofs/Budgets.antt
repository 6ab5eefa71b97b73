-- No word runs out, and more budget than the bound changes nothing.
use Prim.Native.Nat.{ℕ, ◌+◌, ◌*◌, ◌-◌, ◌<◌, ◌≤◌}
use mathlib.Core.Bool.{true}
use mathlib.Core.List.{List}
use mathlib.Core.Path.{◌≡◌, refl, ◌∙◌, ap}
use native.Mathlib.Omega.{arith}
use lib.ListN.{length}
use Rattle.base.specs.Limits.{word_limit1980}
use Rattle.std.specs.Prelude.{Ok}
use Rattle.words.specs.Words.{judge_letters}
use Rattle.sheet1980.specs.Sheet.{u, mem, sheet_of, Sheet}
use Rattle.suffix1980.specs.Suffixes.{infinity, sufbegin, Suffixed, phase2}
use Rattle.suffix1980.specs.Suffixes as suffix
use Rattle.suffix1980.proofs.Ends as two
use Rattle.suffix1980.proofs.Budget as two-budget
use Rattle.prefix1980.specs.Prefixes.{restartp, Prefixed, phase3}
use Rattle.prefix1980.specs.Prefixes as prefix
use Rattle.prefix1980.proofs.Ends as three
use Rattle.prefix1980.proofs.Budget as three-budget
use Rattle.middle1980.specs.Middles.{phase4}
use Rattle.machine1980.specs.Run.{Outcome, RanOut, Marked, from_prefixes, from_suffixes, run, machine}
use Rattle.machine1980.proofs.Written.{written}

-- more instructions than a word of n letters takes: phase 2 at most 24 n, phase 3 at most 8 n + 8
abbrev pub most_executed : ℕ → ℕ
most_executed n = 32 * n + 8

-- an answer with at most so many instructions executed
abbrev pub Within : ℕ → Outcome → Type 0
Within most RanOut = ⊥
Within most (Marked finale marks executed) = executed ≤ most

prefix_within : (budget left n finale : ℕ) (x : Prefixed) → budget < left + (24 * n + 1) → three.Ended n left (8 * n + 9) x → Within (most_executed n) (from_prefixes budget n finale x)
unfolding from_prefixes
prefix_within budget left n finale prefix.RanOut h e = e
prefix_within budget left n finale (prefix.Stopped rest m) h e = omega (arith, e.1)

suffix_within : (budget n : ℕ) (x : Suffixed) → 5 ≤ n → most_executed n ≤ budget → two.Ended n budget (24 * n + 1) x → Within (most_executed n) (from_suffixes budget n x)
unfolding from_suffixes
suffix_within budget n suffix.RanOut h b e = e
suffix_within budget n (suffix.Stopped left finale sheet) h b e =
    prefix_within budget left n finale (phase3 left sheet) e.1 (three.phase3_ends left n sheet e.0 h (omega (arith, e.1)))

run_within : (budget n : ℕ) (sheet : List ℕ) → Sheet n sheet → 5 ≤ n → most_executed n ≤ budget → Within (most_executed n) (run budget n sheet)
unfolding run
run_within budget n sheet s h b = suffix_within budget n (phase2 budget n sheet) h b (two.phase2_ends budget n sheet s h (omega arith))

-- more budget
suffix_stops : (n budget m : ℕ) (x : Suffixed) → two.Ended n budget m x → two-budget.HasStopped x
suffix_stops n budget m suffix.RanOut e = e
suffix_stops n budget m (suffix.Stopped left finale sheet) e = tt

prefix_stops : (n budget m : ℕ) (x : Prefixed) → three.Ended n budget m x → three-budget.HasStopped x
prefix_stops n budget m prefix.RanOut e = e
prefix_stops n budget m (prefix.Stopped left x) e = tt

suffix_more : (budget more n : ℕ) (sheet : List ℕ) → two-budget.HasStopped (phase2 budget n sheet) → phase2 (budget + more) n sheet ≡ two-budget.plus more (phase2 budget n sheet)
unfolding phase2
suffix_more budget more n sheet s = two-budget.left_over budget more n (sufbegin (u + n - 1) true infinity sheet) s

prefix_more : (budget more : ℕ) (sheet : List ℕ) → three-budget.HasStopped (phase3 budget sheet) → phase3 (budget + more) sheet ≡ three-budget.plus more (phase3 budget sheet)
unfolding phase3
prefix_more budget more sheet s = three-budget.left_over budget more (restartp (u + 2) (mem sheet (u + 1)) sheet) s

prefix_same : (budget more n finale : ℕ) (x : Prefixed) → from_prefixes (budget + more) n finale (three-budget.plus more x) ≡ from_prefixes budget n finale x
unfolding from_prefixes
prefix_same budget more n finale prefix.RanOut = refl
prefix_same budget more n finale (prefix.Stopped left m) = let e : budget + more - (left + more) ≡ budget - left = omega arith in ap (Marked finale (phase4 n finale m)) e

suffix_same : (budget more n : ℕ) (x : Suffixed) → 5 ≤ n → most_executed n ≤ budget → two.Ended n budget (24 * n + 1) x → from_suffixes (budget + more) n (two-budget.plus more x) ≡ from_suffixes budget n x
unfolding from_suffixes
suffix_same budget more n suffix.RanOut h b e = refl
suffix_same budget more n (suffix.Stopped left finale sheet) h b e =
    let ends = three.phase3_ends left n sheet e.0 h (omega (arith, e.1)) in
    ap (from_prefixes (budget + more) n finale) (prefix_more left more sheet (prefix_stops n left (8 * n + 9) (phase3 left sheet) ends))
    ∙ prefix_same budget more n finale (phase3 left sheet)

run_same : (budget more n : ℕ) (sheet : List ℕ) → Sheet n sheet → 5 ≤ n → most_executed n ≤ budget → run (budget + more) n sheet ≡ run budget n sheet
unfolding run
run_same budget more n sheet s h b =
    let ends = two.phase2_ends budget n sheet s h (omega arith) in
    ap (from_suffixes (budget + more) n) (suffix_more budget more n sheet (suffix_stops n budget (24 * n + 1) (phase2 budget n sheet) ends))
    ∙ suffix_same budget more n (phase2 budget n sheet) h b ends

-- a judged word
module _ (word : List ℕ) (judged : judge_letters word_limit1980 word ≡ Ok tt) where
  -- Under any budget from 32 n + 8 on a word is answered, and executes at most so many instructions.
  pub within : (budget : ℕ) → most_executed (length word) ≤ budget → Within (most_executed (length word)) (machine budget word)
  unfolding machine
  within budget b = let h = run_within budget (length word) (sheet_of word) (written word_limit1980 word judged) in grind arith

  -- and the answer is the same for all of them.
  pub any_budget : (budget : ℕ) → most_executed (length word) ≤ budget → machine budget word ≡ machine (most_executed (length word)) word
  unfolding machine
  any_budget budget b =
      let most = most_executed (length word) in
      let e : budget ≡ most + (budget - most) = omega arith in
      let h = run_same most (budget - most) (length word) (sheet_of word) (written word_limit1980 word judged) in
      grind arith
