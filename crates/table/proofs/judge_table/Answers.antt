use Rattle.base.proofs.Grounds.{said_by}
use Rattle.table.proofs.Order.{table_ordered}
use Rattle.table.proofs.Laws.{short_table, wrong_kind, wrong_edition, no_cells, many_cells, many_entries, wrong_length, fine_table}
use Rattle.table.proofs.judge_table.Goals as goal

pub returns-then-table-lt-HEAD_SIZE : goal.returns-then-table-lt-HEAD_SIZE
returns-then-table-lt-HEAD_SIZE c = said_by (table_ordered _) (short_table _ c.if-table-lt-HEAD_SIZE.true)

pub returns-then-table-ne-HEAD_KIND : goal.returns-then-table-ne-HEAD_KIND
returns-then-table-ne-HEAD_KIND c = said_by (table_ordered _) (wrong_kind _ c.if-table-lt-HEAD_SIZE.false c.if-table-ne-HEAD_KIND.true)

pub returns-then-table-ne-EDITION : goal.returns-then-table-ne-EDITION
returns-then-table-ne-EDITION c = said_by (table_ordered _) (wrong_edition _ c.if-table-lt-HEAD_SIZE.false c.if-table-ne-HEAD_KIND.false c.if-table-ne-EDITION.true)

pub returns-then-cells-lt1 : goal.returns-then-cells-lt1
returns-then-cells-lt1 c = said_by (table_ordered _) (no_cells _ c.if-table-lt-HEAD_SIZE.false c.if-table-ne-HEAD_KIND.false c.if-table-ne-EDITION.false c.number_in-cells.ensures c.if-cells-lt1.true)

pub returns-then-cells-gt-CELL_LIMIT : goal.returns-then-cells-gt-CELL_LIMIT
returns-then-cells-gt-CELL_LIMIT c = said_by (table_ordered _) (many_cells _ c.if-table-lt-HEAD_SIZE.false c.if-table-ne-HEAD_KIND.false c.if-table-ne-EDITION.false c.number_in-cells.ensures c.if-cells-lt1.false c.if-cells-gt-CELL_LIMIT.true)

pub returns-then-entries-gt-ENTRY_LIMIT : goal.returns-then-entries-gt-ENTRY_LIMIT
returns-then-entries-gt-ENTRY_LIMIT c = said_by (table_ordered _) (many_entries _ c.if-table-lt-HEAD_SIZE.false c.if-table-ne-HEAD_KIND.false c.if-table-ne-EDITION.false c.number_in-cells.ensures c.if-cells-lt1.false c.if-cells-gt-CELL_LIMIT.false c.number_in-entries.ensures c.if-entries-gt-ENTRY_LIMIT.true)

pub returns-then-table-cells : goal.returns-then-table-cells
returns-then-table-cells c = said_by (table_ordered _) (wrong_length _ c.if-table-lt-HEAD_SIZE.false c.if-table-ne-HEAD_KIND.false c.if-table-ne-EDITION.false c.number_in-cells.ensures c.if-cells-lt1.false c.if-cells-gt-CELL_LIMIT.false c.number_in-entries.ensures c.if-entries-gt-ENTRY_LIMIT.false c.if-table-cells.true)

pub returns : goal.returns
returns c = said_by (table_ordered _) (fine_table _ c.if-table-lt-HEAD_SIZE.false c.if-table-ne-HEAD_KIND.false c.if-table-ne-EDITION.false c.number_in-cells.ensures c.if-cells-lt1.false c.if-cells-gt-CELL_LIMIT.false c.number_in-entries.ensures c.if-entries-gt-ENTRY_LIMIT.false c.if-table-cells.false)
