-- Laws about whole lists: one for each way through the code.
use Prim.Native.Nat.{ℕ, ◌+◌, ◌-◌, ◌≤◌, ◌<◌}
use mathlib.Core.Bool.{true, false}
use mathlib.Core.List.{List}
use mathlib.Core.Path.{◌≡◌, refl, ◌∙◌, ap}
use native.Mathlib.Omega.{arith}
use borrow.Author.Tests.{le-ltb}
use lib.ListN.{length, take, drop, drop_of_length-le}
use Rattle.base.specs.Limits.{pattern_text, exception_text, customer_list, house_list}
use Rattle.base.specs.Grounds.{Check}
use Rattle.std.specs.Prelude.{Ok, Err, MatchResult, IsErrAnd}
use Rattle.base.specs.declared.Ground.{Ground}
use Rattle.base.specs.declared.Ground.TheVariants.{BadPattern, BadException}
use Rattle.words.specs.Symbols.{symbols_of}
use Rattle.std.proofs.lemmas.Result.{err_from_is_err_and}
use Rattle.lines.specs.Lines.{cut, line_length, first_line, good_pattern, good_exception}
use Rattle.lines.specs.Ends.{end_if}
use Rattle.std.specs.Prelude.{Option, Some, None}
use Rattle.lines.specs.Order.{before}
use Rattle.lines.proofs.Laws.{cut_line, line_size, line_starts, first_line_lem, ends_bad, ends_good}
use Rattle.lists.specs.Lists.{Lines, good_line, first_bad, judge_lines, judge_size, bad_pattern, bad_exception, judge_patterns, judge_exceptions, judge_lists}
use Rattle.lists.specs.declared.Form.{Form}
use Rattle.lists.specs.declared.Form.TheVariants.{Patterns, Exceptions}

pub pattern_form_lem : {form : Form} (l : List ℕ) (e : ℕ) {r : Option ℕ} → r ≡ end_if (good_pattern l) e → form ≡ Patterns → r ≡ end_if (good_line form l) e
unfolding good_line
pattern_form_lem l e p f = rw f p

pub exception_form_lem : {form : Form} (l : List ℕ) (e : ℕ) {r : Option ℕ} → r ≡ end_if (good_exception l) e → form ≡ Exceptions → r ≡ end_if (good_line form l) e
unfolding good_line
exception_form_lem l e p f = rw f p

-- the loop over the lines
pub lines_start : (form : Form) (w : List ℕ) → judge_lines form w ≡ first_bad form 0 (take (0 - 0) (drop 0 w)) (cut (drop 0 w))
unfolding judge_lines
lines_start form w = refl

pub lines_end : (form : Form) (w : List ℕ) (at : ℕ) (above : List ℕ) → length w ≤ at → first_bad form at above (cut (drop at w)) ≡ Ok tt
unfolding first_bad cut
lines_end form w at above h = rw (drop_of_length-le w h)

-- what the search for a good line's end says of the line
module _ (form : Form) (w : List ℕ) (at : ℕ) {r : Option ℕ} (p : r ≡ end_if (good_line form (first_line (drop at w))) (at + line_length (drop at w))) where
  pub found_end : {e : ℕ} → r ≡ Some e → e ≡ at + line_length (drop at w)
  found_end q = (ends_good (good_line form (first_line (drop at w))) _ p q).1

  found_good : {e : ℕ} → r ≡ Some e → good_line form (take (e - at) (drop at w)) ≡ true
  found_good {e} q = rw (first_line_lem w at e (found_end q)) at (ends_good (good_line form (first_line (drop at w))) _ p q).0

  module _ (above : List ℕ) (h : at < length w) where
    pub line_bad : r ≡ None → first_bad form at above (cut (drop at w)) ≡ Err at
    unfolding first_bad
    line_bad q =
        let s : at + line_length (drop at w) ≡ at + line_length (drop at w) = refl in
        let g = rw (first_line_lem w at _ s) at (ends_bad (good_line form (first_line (drop at w))) _ p q) in
        rw (cut_line w at _ h s, g)

    module _ {e : ℕ} (q : r ≡ Some e) where
      pub line_low : before (symbols_of above) (symbols_of (take (e - at) (drop at w))) ≡ false → first_bad form at above (cut (drop at w)) ≡ Err at
      unfolding first_bad
      line_low b = rw (cut_line w at e h (found_end q), found_good q, b)

      pub line_good : before (symbols_of above) (symbols_of (take (e - at) (drop at w))) ≡ true
          → first_bad form at above (cut (drop at w)) ≡ first_bad form e (take (e - at) (drop at w)) (cut (drop e w))
      unfolding first_bad
      line_good b =
          let s : at + length (take (e - at) (drop at w)) ≡ e = omega (arith, line_size w at e h (found_end q), line_starts w at e h (found_end q)) in
          rw (cut_line w at e h (found_end q), found_good q, b, s)

pub size_in_lem : (limit : ℕ) (w : List ℕ) → length w ≤ limit → Ok tt ≡ judge_size limit w
unfolding judge_size
size_in_lem limit w h = rw (le-ltb limit (length w) h)

-- the judgements in order
pub patterns_size : (w : List ℕ) {s : Check} {g : Ground} → s ≡ judge_size pattern_text w → s ≡ Err g → Err g ≡ judge_patterns w
unfolding judge_patterns
patterns_size w p q = rw (← p, q)

pub patterns_lines : (w : List ℕ) {s : Check} → s ≡ judge_size pattern_text w → s ≡ Ok tt → bad_pattern (judge_lines Patterns w) ≡ judge_patterns w
unfolding judge_patterns
patterns_lines w p q = rw (← p, q)

pub exceptions_size : (list limit : ℕ) (w : List ℕ) {s : Check} {g : Ground} → s ≡ judge_size limit w → s ≡ Err g → Err g ≡ judge_exceptions list limit w
unfolding judge_exceptions
exceptions_size list limit w p q = rw (← p, q)

pub exceptions_lines : (list limit : ℕ) (w : List ℕ) {s : Check} → s ≡ judge_size limit w → s ≡ Ok tt → bad_exception list (judge_lines Exceptions w) ≡ judge_exceptions list limit w
unfolding judge_exceptions
exceptions_lines list limit w p q = rw (← p, q)

module _ (c h : List ℕ) {s : Check} (p : s ≡ judge_size exception_text c) where
  pub lists_size : {g : Ground} → s ≡ Err g → Err g ≡ judge_lists c h
  unfolding judge_lists
  lists_size q = rw (← p, q)

  module _ (q : s ≡ Ok tt) {t : Check} (u : t ≡ judge_size exception_text h) where
    pub lists_size_house : {g : Ground} → t ≡ Err g → Err g ≡ judge_lists c h
    unfolding judge_lists
    lists_size_house v = rw (← p, q, ← u, v)

    pub lists_customer : t ≡ Ok tt → {g : Ground} → bad_exception customer_list (judge_lines Exceptions c) ≡ Err g → Err g ≡ judge_lists c h
    unfolding judge_lists
    lists_customer v x = rw (← p, q, ← u, v, x)

    pub lists_house : t ≡ Ok tt → bad_exception customer_list (judge_lines Exceptions c) ≡ Ok tt → bad_exception house_list (judge_lines Exceptions h) ≡ judge_lists c h
    unfolding judge_lists
    lists_house v x = rw (← p, q, ← u, v, x)

-- The first bad line as a refusal: what a mapped judgement of the lines is, where the mapping makes this ground.
pub exception_lines : (list : ℕ) (l : Lines) {r : Check} {Q : ℕ → Ground → Type 0} → MatchResult l (λ x. r ≡ Ok x) (λ offset. IsErrAnd r (Q offset))
    → ((offset : ℕ) (g : Ground) → Q offset g → g ≡ BadException list offset) → r ≡ bad_exception list l
exception_lines list (Ok _) h made = h
exception_lines list (Err offset) {r} {Q} h made = let p = err_from_is_err_and r h in p.1 ∙ ap Err (made offset p.0 p.2)

pub pattern_lines : (l : Lines) {r : Check} {Q : ℕ → Ground → Type 0} → MatchResult l (λ x. r ≡ Ok x) (λ offset. IsErrAnd r (Q offset))
    → ((offset : ℕ) (g : Ground) → Q offset g → g ≡ BadPattern offset) → r ≡ bad_pattern l
pattern_lines (Ok _) h made = h
pattern_lines (Err offset) {r} {Q} h made = let p = err_from_is_err_and r h in p.1 ∙ ap Err (made offset p.0 p.2)
