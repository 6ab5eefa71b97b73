use Rattle.std.proofs.Common.{rules, arith, ◌≡◌, ◌∙◌}
use Rattle.lines.proofs.Laws.{order_start, order_same, order_left}
use Rattle.lines.proofs.same_bytes.Goals as goal

pub loop-i-init : goal.loop-i-init
loop-i-init c = (search rules, search rules, order_start _ _)

pub returns-then-above-i : goal.returns-then-above-i
returns-then-above-i c = (search rules, search rules, order_left _ _ _ c.loop-i.invariant.2)

pub loop-i-preserved : goal.loop-i-preserved
loop-i-preserved c = (search rules, search rules, c.loop-i.invariant.2 ∙ order_same _ _ _ (omega arith) (omega arith) c.if-above-i.false)

pub returns : goal.returns
returns c = let e : c.min-both.result ≡ c.loop-i.i = omega arith in (search rules, search rules, rw e (order_left _ _ _ c.loop-i.invariant.2))
