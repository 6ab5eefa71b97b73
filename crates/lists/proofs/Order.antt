-- The judgements of texts give the first of their grounds that holds.
use Prim.Native.Nat.{ℕ}
use mathlib.Core.List.{List, [], ◌∷◌}
use mathlib.Core.Path.{refl}
use lib.Dec.{ltb}
use lib.ListN.{length}
use Rattle.base.specs.Limits.{pattern_text, exception_text, customer_list, house_list}
use Rattle.base.specs.Grounds.{says, first_of}
use Rattle.base.specs.declared.Ground.TheVariants.{TextLong}
use Rattle.base.proofs.Grounds.{Ordered, ordered_first, ordered_if}
use Rattle.lists.specs.Lists.{judge_lines, size_grounds, bad_line, pattern_grounds, exception_grounds, list_grounds, judge_size, bad_pattern, bad_exception, judge_patterns, judge_exceptions, judge_lists, Lines}
use Rattle.lists.specs.declared.Form.TheVariants.{Patterns, Exceptions}
use Rattle.std.specs.Prelude.{Ok, Err}

pub size_ordered : (limit : ℕ) (text : List ℕ) → Ordered (judge_size limit text) (size_grounds limit text)
unfolding judge_size size_grounds
size_ordered limit text = ordered_if (ltb limit (length text)) TextLong

bad_pattern_ordered : (lines : Lines) → Ordered (bad_pattern lines) (bad_line 7 0 lines ∷ [])
unfolding says first_of
bad_pattern_ordered (Ok _) = record { same = refl }
bad_pattern_ordered (Err offset) = record { same = refl }

bad_exception_ordered : (list : ℕ) (lines : Lines) → Ordered (bad_exception list lines) (bad_line 6 list lines ∷ [])
unfolding says first_of
bad_exception_ordered list (Ok _) = record { same = refl }
bad_exception_ordered list (Err offset) = record { same = refl }

pub patterns_ordered : (text : List ℕ) → Ordered (judge_patterns text) (pattern_grounds text)
unfolding judge_patterns pattern_grounds size_grounds
patterns_ordered text = ordered_first (size_ordered pattern_text text) (bad_pattern_ordered (judge_lines Patterns text))

pub exceptions_ordered : (list limit : ℕ) (text : List ℕ) → Ordered (judge_exceptions list limit text) (exception_grounds list limit text)
unfolding judge_exceptions exception_grounds size_grounds
exceptions_ordered list limit text = ordered_first (size_ordered limit text) (bad_exception_ordered list (judge_lines Exceptions text))

pub lists_ordered : (customer house : List ℕ) → Ordered (judge_lists customer house) (list_grounds customer house)
unfolding judge_lists list_grounds size_grounds
lists_ordered customer house =
    ordered_first (size_ordered exception_text customer)
    (ordered_first (size_ordered exception_text house)
    (ordered_first (bad_exception_ordered customer_list (judge_lines Exceptions customer)) (bad_exception_ordered house_list (judge_lines Exceptions house))))
