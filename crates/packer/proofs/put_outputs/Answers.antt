use Prim.Native.Nat.{◌≤◌}
use Rattle.std.proofs.Common.{rules, tests, arith, refl, ◌∙◌, ap}
use mathlib.Core.Path.{subst}
use Rattle.base.specs.Limits.{entry_limit}
use Rattle.lines.proofs.Splits.{cut_split}
use Rattle.entering.specs.Post.{as_entries, count_of}
use Rattle.packer.proofs.Laws.{line_shaped, shaped_on, outputs_many, outputs_on}
use Rattle.packer.proofs.put_outputs.Goals as goal

pub overflow_cast-m : goal.overflow_cast-m
overflow_cast-m c = omega (arith, c.symbol_count-m.ensures, line_shaped _ _ _ (cut_split _ _ _ _ c.in-Some.ensures.steps (λ b r q k. search (rules, tests))) c.loop-line.invariant.1)

pub enter_levels-requires : goal.enter_levels-requires
enter_levels-requires c = (c.loop-line.invariant.0, omega (arith, c.symbol_count-m.ensures, line_shaped _ _ _ (cut_split _ _ _ _ c.in-Some.ensures.steps (λ b r q k. search (rules, tests))) c.loop-line.invariant.1))

pub returns-in_err-step-clause-count_value : goal.returns-in_err-step-clause-count_value
returns-in_err-step-clause-count_value c = rw c.from_residual.ensures (c.loop-line.invariant.2 ∙ outputs_many _ _ _ (cut_split _ _ _ _ c.in-Some.ensures.steps (λ b r q k. search (rules, tests))) _ _ _ _ _ c.symbol_count-m.ensures (c.enter_levels.ensures.count_value ∙ ap (as_entries _) c.in_err-step.was) refl)

pub put_output-requires : goal.put_output-requires
put_output-requires c = (omega (arith, c.symbol_count-m.ensures, line_shaped _ _ _ (cut_split _ _ _ _ c.in-Some.ensures.steps (λ b r q k. search (rules, tests))) c.loop-line.invariant.1), c.symbol_count-m.ensures)

pub loop-line-preserved : goal.loop-line-preserved
loop-line-preserved c =
    let e = cut_split _ _ _ _ c.in-Some.ensures.steps (λ b r q k. search (rules, tests)) in (
      subst (λ e. count_of e ≤ entry_limit) c.in_ok-step.was c.enter_levels.ensures.result_bound,
      shaped_on _ _ _ e c.loop-line.invariant.1,
      c.loop-line.invariant.2 ∙ outputs_on _ _ _ e _ _ _ _ _ c.symbol_count-m.ensures (c.enter_levels.ensures.count_value ∙ ap (as_entries _) c.in_ok-step.was) refl c.put_output.ensures,
    )
