use Rattle.std.proofs.Common.{rules, tests, arith, sym, ◌∙◌}
use lib.ListN.{length-drop}
use Rattle.lines.proofs.Splits.{cut_split}
use Rattle.patterns.proofs.Next.{next_from, next_other, next_mark, next_end}
use Rattle.patterns.proofs.mark_next.Goals as goal

pub returns-in_default : goal.returns-in_default
returns-in_default c = sym (next_end _ _ _ _ (grind (arith, length-drop)))

pub loop-line-init : goal.loop-line-init
loop-line-init c = next_from _ _ _ c.args.text.now c.args.at c.into_iter-line-iterator.result.rest.now (search (rules, c.in-Some.ensures.lookup.0.2))

pub returns-then-shared-m : goal.returns-then-shared-m
returns-then-shared-m c =
    next_other _ _ _ _ _ _ (cut_split _ _ _ _ c.in-Some-line.ensures.steps (λ b r q k. search (rules, tests))) c.shared.ensures c.if-shared-m.true ∙ sym c.loop-line.invariant

pub loop-line-preserved : goal.loop-line-preserved
loop-line-preserved c =
    c.loop-line.invariant
    ∙ next_mark _ _ _ _ _ _ (cut_split _ _ _ _ c.in-Some-line.ensures.steps (λ b r q k. search (rules, tests))) c.shared.ensures c.if-shared-m.false c.symbol_at.ensures c.mark_symbol.ensures

pub returns : goal.returns
returns c = sym (c.loop-line.invariant ∙ next_end _ _ _ _ (omega (arith, c.in-None.ensures.steps.0)))
