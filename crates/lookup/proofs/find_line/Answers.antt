use Rattle.std.proofs.Common.{rules, tests, arith, ◌≡◌, ◌+◌, ◌≤◌, length, sym, ◌∙◌, ap}
use Rattle.lines.proofs.Splits.{split_length, split_some, cut_split}
use Rattle.lookup.proofs.Laws.{find_start, find_end, find_here, find_on}
use Rattle.lookup.proofs.find_line.Goals as goal

pub loop-line-init : goal.loop-line-init
loop-line-init c =
    let e : c.into_iter-line-iterator.result.rest.now ≡ c.args.text.now = search rules in
    (omega (arith, ap length e), find_start _ _ e)

pub overflow_add-end : goal.overflow_add-end
overflow_add-end c =
    let h : c.loop-line.start + length c.in-Some.line.now ≤ length c.args.text.now = omega (arith, c.loop-line.invariant.0, split_length _ _ _ _ c.in-Some.ensures.steps) in
    search rules

pub returns-then-is_line_of : goal.returns-then-is_line_of
returns-then-is_line_of c =
    sym
    (c.loop-line.invariant.1
    ∙ find_here _ _ _ _ _ (cut_split _ _ _ _ c.in-Some.ensures.steps (λ b r q k. search (rules, tests))) (split_some _ _ _ _ c.in-Some.ensures.steps)
    (sym c.is_line_of.ensures ∙ c.if-is_line_of.true))

pub loop-line-preserved : goal.loop-line-preserved
loop-line-preserved c = (
  omega (arith, c.loop-line.invariant.0, split_length _ _ _ _ c.in-Some.ensures.steps),
  c.loop-line.invariant.1
      ∙ find_on _ _ _ _ _ (cut_split _ _ _ _ c.in-Some.ensures.steps (λ b r q k. search (rules, tests)))
      (sym c.is_line_of.ensures ∙ c.if-is_line_of.false),
)

pub returns : goal.returns
returns c = sym (c.loop-line.invariant.1 ∙ find_end _ _ _ c.in-None.ensures.steps.0)
