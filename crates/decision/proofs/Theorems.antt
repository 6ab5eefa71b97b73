-- "Our checker accepts exactly when the list is good, ground 9 doesn't hold and the table is right."
use Prim.Native.Nat.{ℕ}
use mathlib.Core.Bool.{true, not}
use mathlib.Core.List.{List}
use mathlib.Core.Logic.{◌↔◌}
use mathlib.Core.Path.{◌≡◌}
use borrow.Author.Tests.{not-false}
use Rattle.base.specs.Grounds.{first, refuse_if}
use Rattle.std.specs.Prelude.{Ok}
use Rattle.base.specs.declared.Ground.TheVariants.{NotRight}
use Rattle.base.proofs.Grounds.{both_fine, not_refused}
use Rattle.lists.specs.Lists.{judge_patterns}
use Rattle.liang.specs.Patterns.{patterns_of}
use Rattle.table.specs.Table.{root_base, judge_table, cells_of, entries_of}
use Rattle.rightness.specs.Right.{Right}
use Rattle.rightness.specs.Test.{right_for, judge_check}
use Rattle.patterns.proofs.Good.{good_sorted, good_patterns}
use Rattle.table.proofs.Parts.{cells_length, entries_length}
use Rattle.decision.proofs.Test.{right_tells}

-- for a good list and a well-formed table the test tells whether the table is right
pub test_tells : (text table : List ℕ) → judge_patterns text ≡ Ok tt → judge_table table ≡ Ok tt
    → (right_for text table ≡ true) ↔ Right (patterns_of text) (cells_of table) (entries_of table) root_base
test_tells text table p q =
    right_tells _ _ _ 0 (good_sorted text p) (good_patterns text p) _ _ (cells_length table q) (entries_length table q)

pub acceptance : (text table : List ℕ)
    → (judge_check text table ≡ Ok tt)
    ↔ ((judge_patterns text ≡ Ok tt) × (judge_table table ≡ Ok tt) × Right (patterns_of text) (cells_of table) (entries_of table) root_base)
unfolding judge_check
acceptance text table = (sound, complete)
  where
    sound : judge_check text table ≡ Ok tt → (judge_patterns text ≡ Ok tt) × (judge_table table ≡ Ok tt) × Right (patterns_of text) (cells_of table) (entries_of table) root_base
    sound e =
        let p = both_fine (judge_patterns text) (first (judge_table table) (refuse_if (not (right_for text table)) NotRight)) e in
        let q = both_fine (judge_table table) (refuse_if (not (right_for text table)) NotRight) p.1 in
        let t = not-false (right_for text table) (not_refused (not (right_for text table)) NotRight q.1) in
        (p.0, q.0, (test_tells text table p.0 q.0).0 t)

    complete : (judge_patterns text ≡ Ok tt) × (judge_table table ≡ Ok tt) × Right (patterns_of text) (cells_of table) (entries_of table) root_base → judge_check text table ≡ Ok tt
    complete (p, q, r) = rw (p, q, (test_tells text table p q).1 r)
