-- First fit: the whole table's bytes.
use Rattle.std.specs.Prelude.{ℕ, zero, suc, ◌*◌, List, ◌++◌, set, take}
use Rattle.base.specs.Limits.{cell_limit}
use Rattle.liang.specs.Patterns.{Pattern}
use Rattle.table.specs.Table.{cell_kind, cell_size, entry_size, root_base}
use Rattle.table.specs.Records.{head_bytes}
use Rattle.fit.specs.Cells.{Layout, Full, Fits, layout_of, used_from}
use Rattle.fit.specs.Entries.{Outputs, Over, Out, outputs_of, empty_entries}

-- "A free cell is kind 2 and five zero bytes": the kinds of cells 0 to n - 1.
unfoldable pub put_kinds : ℕ → List ℕ → List ℕ
put_kinds zero bytes = bytes
put_kinds (suc n) bytes = put_kinds n (set bytes (cell_size * n) cell_kind)

-- A table, or that it needs C over 8,192 or E over 2,048.
pub data Fit : Type 0 where
  NoRoom : Fit
  Packed : List ℕ → Fit

-- "One kind 1, then C of kind 2 (cells 0 to C - 1), then E of kind 3"
unfoldable pub bytes_of : ℕ → List ℕ → List ℕ → ℕ → List ℕ
bytes_of c bytes made e =
    head_bytes c e ++ (take (cell_size * c) (put_kinds c bytes) ++ take (entry_size * e) made)

unfoldable pub finish : ℕ → Outputs → Fit
finish c Over = NoRoom
finish c (Out bytes made e) = Packed (bytes_of c bytes made e)

unfoldable pub fit_layout : List Pattern → Layout → Fit
fit_layout patterns Full = NoRoom
fit_layout patterns (Fits bytes taken) = finish (used_from bytes 0 cell_limit 1) (outputs_of root_base patterns (Out bytes empty_entries 0))

-- The first-fit table of a list.
unfoldable pub first_fit : List Pattern → Fit
first_fit patterns = fit_layout patterns (layout_of patterns)
