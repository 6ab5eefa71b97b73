-- In a good list every line ascends from every line above it, "so no word stands twice".
use Prim.Native.Nat.{ℕ, zero, suc, ◌+◌, ◌<◌}
use mathlib.Core.Bool.{Bool, true, false, cond, ◌&&◌}
use mathlib.Core.List.{List, [], ◌∷◌}
use mathlib.Core.Path.{◌≡◌, refl}
use native.Mathlib.Decide.{dec_lt}
use native.Mathlib.Omega.{arith}
use lib.ListN.{length, get_or}
use Rattle.base.specs.Limits.{pattern_text}
use Rattle.std.specs.Prelude.{Ok, Err}
use Rattle.base.proofs.Grounds.{both_fine}
use Rattle.base.proofs.Lists.{clash}
use Rattle.words.specs.Symbols.{symbols_of}
use Rattle.lines.specs.Lines.{cut}
use Rattle.lines.specs.Order.{before}
use Rattle.lines.proofs.Order.{before_trans, before_self}
use Rattle.lists.specs.Lists.{good_line, first_bad, judge_lines, judge_size, bad_pattern, judge_patterns, Lines}
use Rattle.lists.specs.declared.Form.{Form}
use Rattle.lists.specs.declared.Form.TheVariants.{Patterns}

-- what a list that has no bad line says of its first line and of the rest
pub record Passed (form : Form) (at : ℕ) (above line : List ℕ) (rest : List (List ℕ)) : Type 0 where
  pub good : good_line form line ≡ true
  pub low : before (symbols_of above) (symbols_of line) ≡ true
  pub onward : first_bad form (at + length line) line rest ≡ Ok tt

pub passed : (form : Form) (at : ℕ) (above line : List ℕ) (rest : List (List ℕ)) → first_bad form at above (line ∷ rest) ≡ Ok tt → Passed form at above line rest
unfolding first_bad
passed form at above line rest e = go (good_line form line) refl (before (symbols_of above) (symbols_of line)) refl e
  where
    go : (a : Bool) → good_line form line ≡ a → (b : Bool) → before (symbols_of above) (symbols_of line) ≡ b
        → cond (a && b) (first_bad form (at + length line) line rest) (Err at) ≡ Ok tt → Passed form at above line rest
    go true p true q h = record { good = p; low = q; onward = h }
    go true p false q h = clash cc
    go false p b q h = clash cc

-- every line ascends from what stands above the first
all_above : (form : Form) (at : ℕ) (above : List ℕ) (ls : List (List ℕ)) → first_bad form at above ls ≡ Ok tt → (j : ℕ) → j < length ls
    → before (symbols_of above) (symbols_of (get_or ls j [])) ≡ true
all_above form at above [] e j h = absurd (omega arith)
all_above form at above (l ∷ ls) e zero h = (passed form at above l ls e).low
all_above form at above (l ∷ ls) e (suc j) h =
    let p = passed form at above l ls e in
    before_trans (symbols_of above) (symbols_of l) (symbols_of (get_or ls j [])) p.low (all_above form (at + length l) l ls p.onward j (omega arith))

ascend_from : (form : Form) (at : ℕ) (above : List ℕ) (ls : List (List ℕ)) → first_bad form at above ls ≡ Ok tt → (i j : ℕ) → i < j → j < length ls
    → before (symbols_of (get_or ls i [])) (symbols_of (get_or ls j [])) ≡ true
ascend_from form at above [] e i j k h = absurd (omega arith)
ascend_from form at above (l ∷ ls) e i zero k h = absurd (omega arith)
ascend_from form at above (l ∷ ls) e zero (suc j) k h = all_above form (at + length l) l ls (passed form at above l ls e).onward j (omega arith)
ascend_from form at above (l ∷ ls) e (suc i) (suc j) k h =
    ascend_from form (at + length l) l ls (passed form at above l ls e).onward i j (omega arith) (omega arith)

-- Order: a good list's lines ascend, from each to every later one.
pub ascending : (form : Form) (text : List ℕ) → judge_lines form text ≡ Ok tt → (i j : ℕ) → i < j → j < length (cut text)
    → before (symbols_of (get_or (cut text) i [])) (symbols_of (get_or (cut text) j [])) ≡ true
unfolding judge_lines
ascending form text e i j k h = ascend_from form 0 [] (cut text) e i j k h

-- Order: "So no word stands twice." Two lines of a good list with the same symbols are one line.
pub at_most_once : (form : Form) (text : List ℕ) → judge_lines form text ≡ Ok tt → (i j : ℕ) → i < length (cut text) → j < length (cut text)
    → symbols_of (get_or (cut text) i []) ≡ symbols_of (get_or (cut text) j []) → i ≡ j
at_most_once form text e i j hi hj q = go (dec_lt i j) (dec_lt j i)
  where
    go : Dec (i < j) → Dec (j < i) → i ≡ j
    go (yes p) d = absurd (before_self (symbols_of (get_or (cut text) j [])) (rw q at (ascending form text e i j p hj)))
    go (no p) (yes r) = absurd (before_self (symbols_of (get_or (cut text) j [])) (rw q at (ascending form text e j i r hi)))
    go (no p) (no r) = omega arith

no_bad_pattern : (l : Lines) → bad_pattern l ≡ Ok tt → l ≡ Ok tt
no_bad_pattern (Ok _) e = refl
no_bad_pattern (Err o) e = clash cc

-- A pattern text that is judged fine has no bad line.
pub patterns_good : (text : List ℕ) → judge_patterns text ≡ Ok tt → judge_lines Patterns text ≡ Ok tt
unfolding judge_patterns
patterns_good text e = no_bad_pattern (judge_lines Patterns text) (both_fine (judge_size pattern_text text) (bad_pattern (judge_lines Patterns text)) e).1
