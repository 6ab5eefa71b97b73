use borrow.Author.Rules.{rules}
use mathlib.Core.Path.{sym, ◌∙◌}
use native.Mathlib.Omega.{arith}
use Rattle.lookup.proofs.Letters.{letters_most}
use Rattle.lookup.proofs.Compare as law
use Rattle.lookup.proofs.same_letters.Goals as goal

pub loop-i-init : goal.loop-i-init
loop-i-init c = (search rules, search rules, law.same_start _ _ _ _)

pub returns-then-line-j : goal.returns-then-line-j
returns-then-line-j c = sym (c.loop-i.invariant.2 ∙ law.same_more _ _ _ _ c.loop-i-test.true c.if-line-j.true)

pub returns-then-is_other : goal.returns-then-is_other
returns-then-is_other c = c.same_symbols.ensures ∙ law.same_start _ _ _ _ ∙ sym c.loop-i.invariant.2

pub returns-then-parts : goal.returns-then-parts
returns-then-parts c =
    sym
    (c.loop-i.invariant.2
    ∙ law.letters_part _ _ _ _ c.loop-i-test.true c.if-line-j.false (sym c.parts.ensures ∙ c.if-parts.true))

pub overflow_add-i : goal.overflow_add-i
overflow_add-i c = omega (arith, c.loop-i-test.true, letters_most _ c.letters_in-i.ensures)

pub loop-i-preserved : goal.loop-i-preserved
loop-i-preserved c = (
  omega (arith, c.loop-i-test.true, letters_most _ c.letters_in-i.ensures),
  search rules,
  c.loop-i.invariant.2
      ∙ law.letters_on _ _ _ _ c.loop-i-test.true c.if-line-j.false (sym c.is_other.ensures ∙ c.if-is_other.false)
      (sym c.parts.ensures ∙ c.if-parts.false) c.letters_in-i.ensures,
)

pub returns : goal.returns
returns c = c.same_symbols-2.ensures ∙ law.same_start _ _ _ _ ∙ sym c.loop-i.invariant.2
