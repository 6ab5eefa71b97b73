use native.Mathlib.Omega.{arith}
use Rattle.checker.proofs.Laws.{over_parted, over_first, over_kept, over_above}
use Rattle.checker.proofs.is_passed_over.Goals as goal

pub returns-then-not-is_none_between : goal.returns-then-not-is_none_between
returns-then-not-is_none_between c = over_parted _ _ _ _ _ c.if-m-beside.true c.is_none_between.ensures c.if-not-is_none_between.true

pub returns-then-not-is_none_between-2 : goal.returns-then-not-is_none_between-2
returns-then-not-is_none_between-2 c = over_first _ _ _ _ _ c.if-beside-m.true c.is_none_between-then-beside-m.ensures c.if-not-is_none_between-2.true

pub returns-then-m-beside-2 : goal.returns-then-m-beside-2
returns-then-m-beside-2 c = over_kept _ _ _ _ _ (λ e. grind arith) (λ h. grind arith) c.if-m-beside-2.true

pub returns-else-m-beside-2 : goal.returns-else-m-beside-2
returns-else-m-beside-2 c = over_above _ _ _ _ _ (λ e. grind arith) (λ h. grind arith) c.if-m-beside-2.false c.is_none_between-else-m-beside-2.ensures
