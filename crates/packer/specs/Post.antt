-- What the packer's parts leave, as definitions for their contracts.
use Rattle.std.specs.Prelude.{ℕ, ◌*◌, ◌≤◌, List, ◌++◌, take, Option, Some, None}
use Rattle.base.specs.Limits.{cell_limit, entry_limit}
use Rattle.table.specs.Table.{cell_size, entry_size}
use Rattle.table.specs.Records.{head_bytes}
use Rattle.fit.specs.Entries as fit
use Rattle.fit.specs.Table.{Fit, NoRoom, Packed}
use Rattle.packer.specs.declared.Laid.{Laid}

-- The count that putting the outputs returns, with the bytes it leaves, as first fit has them; too many are too many.
abbrev pub as_outputs : List ℕ → List ℕ → Option ℕ → fit.Outputs
as_outputs cells made (Some count) = fit.Out cells made count
as_outputs cells made None = fit.Over

abbrev pub entries_in : Option ℕ → ℕ
entries_in (Some count) = count
entries_in None = 0

-- A table: the head, the first c cells and the first e entries.
abbrev pub table_of : ℕ → ℕ → List ℕ → List ℕ → List ℕ
table_of c e cells made = head_bytes c e ++ (take (cell_size * c) cells ++ take (entry_size * e) made)

-- What filling leaves.
abbrev pub as_fit : List ℕ → List ℕ → Option Laid → Fit
as_fit cells made (Some laid) = Packed (table_of laid.cells laid.entries cells made)
as_fit cells made None = NoRoom

-- The sizes that a filled layout keeps to.
abbrev pub Bounded : Option Laid → Type 0
Bounded (Some laid) = (laid.cells ≤ cell_limit) × (laid.entries ≤ entry_limit)
Bounded None = Unit {0}
