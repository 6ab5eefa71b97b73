use borrow.Author.Rules.{rules}
use Prim.Native.Nat.{suc}
use mathlib.Core.Path.{sym, ◌∙◌}
use native.Mathlib.Omega.{arith}
use Rattle.base.specs.Limits.{symbol_limit}
use Rattle.base.proofs.All.{all_pass, all_fail, all_end}
use Rattle.placing.proofs.Laws.{when_other, when_marked}
use Rattle.placing.proofs.all_marked.Goals as goal

pub loop-symbol-preserved-then-mask-symbol-ne1 : goal.loop-symbol-preserved-then-mask-symbol-ne1
loop-symbol-preserved-then-mask-symbol-ne1 g c = (search rules, λ test says. c.loop-symbol.invariant.1 test says ∙ all_pass _ _ (suc symbol_limit) (omega arith) (sym (when_other _ _ c.if-mask-symbol-ne1.true)))

pub returns-then-not-passes : goal.returns-then-not-passes
returns-then-not-passes g c = λ test says. sym (c.loop-symbol.invariant.1 test says ∙ all_fail _ _ (suc symbol_limit) (omega arith) (sym (when_marked _ _ c.if-mask-symbol-ne1.false) ∙ sym (says c.loop-symbol.symbol _ (omega arith) c.passes.ensures) ∙ c.if-not-passes.true))

pub loop-symbol-preserved : goal.loop-symbol-preserved
loop-symbol-preserved g c = (search rules, λ test says. c.loop-symbol.invariant.1 test says ∙ all_pass _ _ (suc symbol_limit) (omega arith) (sym (when_marked _ _ c.if-mask-symbol-ne1.false) ∙ sym (says c.loop-symbol.symbol _ (omega arith) c.passes.ensures) ∙ c.if-not-passes.false))

pub returns : goal.returns
returns g c = λ test says. sym (c.loop-symbol.invariant.1 test says ∙ all_end _ _ (suc symbol_limit) (omega arith))
