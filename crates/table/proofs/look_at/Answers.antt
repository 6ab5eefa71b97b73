use native.Mathlib.Omega.{arith}
use Rattle.table.proofs.Laws.{look_past, look_kind, look_other, look_hit}
use Rattle.table.proofs.look_at.Goals as goal

pub returns-then-cells-lt-CELL_SIZE : goal.returns-then-cells-lt-CELL_SIZE
returns-then-cells-lt-CELL_SIZE c = look_past _ _ _ (omega (arith, c.if-cells-lt-CELL_SIZE.true))

pub returns-then-cells-at : goal.returns-then-cells-at
returns-then-cells-at c = look_past _ _ _ (omega (arith, c.if-cells-lt-CELL_SIZE.false, c.if-cells-at.true))

pub returns-then-cells-at-2 : goal.returns-then-cells-at-2
returns-then-cells-at-2 c = look_other _ _ _ (omega (arith, c.if-cells-lt-CELL_SIZE.false, c.if-cells-at.false)) c.if-cells-at-2.true

pub returns-then-cells-at-ne-CELL_KIND : goal.returns-then-cells-at-ne-CELL_KIND
returns-then-cells-at-ne-CELL_KIND c = look_kind _ _ _ (omega (arith, c.if-cells-lt-CELL_SIZE.false, c.if-cells-at.false)) c.if-cells-at-ne-CELL_KIND.true

pub returns : goal.returns
returns c = look_hit _ _ _ (omega (arith, c.if-cells-lt-CELL_SIZE.false, c.if-cells-at.false)) c.if-cells-at-ne-CELL_KIND.false c.if-cells-at-2.false c.number_in.ensures c.number_in-2.ensures
