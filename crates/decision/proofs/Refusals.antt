-- "checker 8, 7, 9, 12": each refusal of the checker is given exactly on its own ground.
use Prim.Native.Nat.{ℕ, ◌<◌}
use mathlib.Core.Bool.{Bool, true, false, not}
use mathlib.Core.List.{List}
use mathlib.Core.Logic.{◌↔◌}
use mathlib.Core.Path.{◌≡◌, refl, sym, ◌∙◌}
use native.Mathlib.Omega.{arith}
use lib.Dec.{ltb}
use lib.ListN.{length}
use Rattle.base.specs.Limits.{pattern_text}
use Rattle.base.specs.Grounds.{told, first, refuse_if, Check}
use Rattle.std.specs.Prelude.{Ok, Err}
use Rattle.base.specs.declared.Ground.{Ground}
use Rattle.base.specs.declared.Ground.TheVariants.{BadPattern, TextLong, TableForm, NotRight}
use Rattle.base.proofs.Lists.{clash, never, untrue}
use Rattle.lists.specs.Lists.{judge_lines, judge_size, bad_pattern, judge_patterns, Lines}
use Rattle.lists.specs.declared.Form.TheVariants.{Patterns}
use Rattle.liang.specs.Patterns.{patterns_of}
use Rattle.table.specs.Table.{root_base, formed, judge_table, cells_of, entries_of}
use Rattle.rightness.specs.Right.{Right}
use Rattle.rightness.specs.Test.{right_for, judge_check}
use Rattle.decision.proofs.Theorems.{test_tells}

-- a list is refused on ground 8 or 7, and a table on ground 9
list_low : (text : List ℕ) (g : Ground) → judge_patterns text ≡ Err g → (told g).number < 9
unfolding judge_patterns judge_size
list_low text g e = go (ltb pattern_text (length text)) (judge_lines Patterns text) e
  where
    go : (z : Bool) (l : Lines) → first (refuse_if z TextLong) (bad_pattern l) ≡ Err g → (told g).number < 9
    go true l q = let s : g ≡ TextLong = cc in rw s (omega arith)
    go false (Err offset) q = let s : g ≡ BadPattern offset = cc in rw s (omega arith)
    go false (Ok _) q = clash cc

table_number : (table : List ℕ) (g : Ground) → judge_table table ≡ Err g → (told g).number ≡ 9
unfolding judge_table
table_number table g e = go (not (formed table)) e
  where
    go : (z : Bool) → refuse_if z TableForm ≡ Err g → (told g).number ≡ 9
    go true q = let s : g ≡ TableForm = cc in rw s
    go false q = clash cc

-- whose refusal the checker gives
data Whose (a b : Check) (test : Bool) (g : Ground) : Type 0 where
  of_list : a ≡ Err g → Whose a b test g
  of_table : a ≡ Ok tt → b ≡ Err g → Whose a b test g
  of_test : a ≡ Ok tt → b ≡ Ok tt → test ≡ false → (told g).number ≡ 12 → Whose a b test g

whose : (a b : Check) (test : Bool) (g : Ground) → first a (first b (refuse_if (not test) NotRight)) ≡ Err g → Whose a b test g
whose (Err h) b test g e = of_list e
whose (Ok _) (Err h) test g e = of_table refl e
whose (Ok _) (Ok _) false g e = let s : g ≡ NotRight = cc in of_test refl refl refl (rw s)
whose (Ok _) (Ok _) true g e = clash cc

module _ (text table : List ℕ) where
  asked : (g : Ground) → judge_check text table ≡ Err g → Whose (judge_patterns text) (judge_table table) (right_for text table) g
  unfolding judge_check
  asked g e = whose (judge_patterns text) (judge_table table) (right_for text table) g e

  -- a ground of the list's is the checker's exactly where it is the list's
  list_exactly : (g : Ground) → (told g).number < 9 → (judge_check text table ≡ Err g) ↔ (judge_patterns text ≡ Err g)
  unfolding judge_check
  list_exactly g l = (λ e. go (asked g e), λ p. rw p)
    where
      go : Whose (judge_patterns text) (judge_table table) (right_for text table) g → judge_patterns text ≡ Err g
      go (of_list p) = p
      go (of_table p q) = absurd (omega (arith, l, table_number table g q))
      go (of_test p q t n) = absurd (omega (arith, l))

  -- Ground 8: "a text over its limit".
  pub text_long_exactly : (judge_check text table ≡ Err TextLong) ↔ (judge_patterns text ≡ Err TextLong)
  text_long_exactly = list_exactly TextLong (omega arith)

  -- Ground 7: "bad pattern line", told at the "first bad line's offset".
  pub bad_pattern_exactly : (offset : ℕ) → (judge_check text table ≡ Err (BadPattern offset)) ↔ (judge_patterns text ≡ Err (BadPattern offset))
  bad_pattern_exactly offset = list_exactly (BadPattern offset) (omega arith)

  -- Ground 9: "table's length or kind 1 record wrong", where the list is good.
  pub table_form_exactly : (judge_check text table ≡ Err TableForm) ↔ ((judge_patterns text ≡ Ok tt) × (judge_table table ≡ Err TableForm))
  unfolding judge_check
  table_form_exactly = (λ e. go (asked TableForm e), λ p. rw (p.0, p.1))
    where
      go : Whose (judge_patterns text) (judge_table table) (right_for text table) TableForm → (judge_patterns text ≡ Ok tt) × (judge_table table ≡ Err TableForm)
      go (of_list p) = absurd (omega (arith, list_low text TableForm p))
      go (of_table p q) = (p, q)
      go (of_test p q t n) = absurd (omega arith)

  -- Ground 12: "table not right for the list", where the list is good and ground 9 doesn't hold.
  pub not_right_exactly : (judge_check text table ≡ Err NotRight)
      ↔ ((judge_patterns text ≡ Ok tt) × (judge_table table ≡ Ok tt) × (Right (patterns_of text) (cells_of table) (entries_of table) root_base → ⊥))
  unfolding judge_check
  not_right_exactly = (λ e. go (asked NotRight e), λ p. rw (p.0, p.1, fails p.0 p.1 p.2))
    where
      go : Whose (judge_patterns text) (judge_table table) (right_for text table) NotRight
          → (judge_patterns text ≡ Ok tt) × (judge_table table ≡ Ok tt) × (Right (patterns_of text) (cells_of table) (entries_of table) root_base → ⊥)
      go (of_list p) = absurd (omega (arith, list_low text NotRight p))
      go (of_table p q) = absurd (omega (arith, table_number table NotRight q))
      go (of_test p q t n) = (p, q, λ r. never (sym t ∙ (test_tells text table p q).1 r))

      fails : judge_patterns text ≡ Ok tt → judge_table table ≡ Ok tt → (Right (patterns_of text) (cells_of table) (entries_of table) root_base → ⊥) → right_for text table ≡ false
      fails p q n = untrue (right_for text table) (λ e. n ((test_tells text table p q).0 e))
