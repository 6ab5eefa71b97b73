-- The packed table as document 01 lays it out on bytes.
use Rattle.std.specs.Prelude.{ℕ, ◌+◌, ◌*◌, ◌-◌, ◌/◌, ◌%◌, Bool, cond, not, ◌&&◌, List, [], ◌∷◌, leb, ltb, eqb, length, get_or, set, take, drop, Option, Some, None}
use Rattle.base.specs.Limits.{cell_limit, entry_limit}
use Rattle.base.specs.Grounds.{Row, on, refuse_if, Check}
use Rattle.base.specs.declared.Ground.TheVariants.{TableForm}
use Rattle.table.specs.declared.Cell.{Cell}
use Rattle.table.specs.declared.Entry.{Entry}

-- "Records are one byte of kind, then a body whose length the kind fixes": a head of kind 1 with 5 bytes of body, cells of
-- kind 2 with 5, entries of kind 3 with 4. The sizes here include the byte of kind.
abbrev pub head_kind : ℕ
head_kind = 1

abbrev pub cell_kind : ℕ
cell_kind = 2

abbrev pub entry_kind : ℕ
entry_kind = 3

abbrev pub edition : ℕ
edition = 1

abbrev pub head_size : ℕ
head_size = 6

abbrev pub cell_size : ℕ
cell_size = 6

abbrev pub entry_size : ℕ
entry_size = 5

-- The bytes of as many cells, and of as many entries, as a table may have.
abbrev pub cell_room : ℕ
cell_room = cell_size * cell_limit

abbrev pub entry_room : ℕ
entry_room = entry_size * entry_limit

-- "The base starts at 0."
abbrev pub root_base : ℕ
root_base = 0

-- "Numbers of two bytes have the high byte first."
unfoldable pub number_at : List ℕ → ℕ → ℕ
number_at bytes at = 256 * get_or bytes at 0 + get_or bytes (at + 1) 0

unfoldable pub put_number : ℕ → ℕ → List ℕ → List ℕ
put_number at n bytes = set (set bytes at (n / 256)) (at + 1) (n % 256)

-- "edition 1, cells C (2 bytes), entries E (2 bytes)"
unfoldable pub cell_count : List ℕ → ℕ
cell_count table = number_at table 2

unfoldable pub entry_count : List ℕ → ℕ
entry_count table = number_at table 4

-- Ground 9 does not hold: a kind 1 record of edition 1, "C is 1 to 8,192, E 0 to 2,048. Length is 6 + 6C + 5E".
unfoldable pub formed : List ℕ → Bool
formed table =
    leb head_size (length table)
    && (eqb (get_or table 0 0) head_kind
    && (eqb (get_or table 1 0) edition
    && (leb 1 (cell_count table)
    && (leb (cell_count table) cell_limit
    && (leb (entry_count table) entry_limit
    && eqb (length table) (head_size + cell_size * cell_count table + entry_size * entry_count table))))))

-- Ground 9: "table's length or kind 1 record wrong".
unfoldable pub table_grounds : List ℕ → List Row
table_grounds table = on 9 (not (formed table)) ∷ []

-- The same as it is judged.
unfoldable pub judge_table : List ℕ → Check
judge_table table = refuse_if (not (formed table)) TableForm

-- The bytes of so many cells from a start on, and of the entries behind these, as far as they are there.
unfoldable pub cells_from : ℕ → ℕ → List ℕ → List ℕ
cells_from start count table = take (cell_size * count) (drop start table)

unfoldable pub entries_from : ℕ → ℕ → List ℕ → List ℕ
entries_from start count table = drop (start + cell_size * count) table

-- Where a part lies that begins behind n bytes, told by a block and an offset in it, as the table itself. Where the table ends
-- before, the part is empty and lies at the table's beginning.
unfoldable pub behind : ℕ → List ℕ → ℕ × ℕ → ℕ × ℕ
behind n table at = cond (ltb (length table) n) at (at.0, n + at.1)

-- "One kind 1, then C of kind 2 (cells 0 to C - 1), then E of kind 3": the cells stand behind the head, the entries behind them.
unfoldable pub cells_of : List ℕ → List ℕ
cells_of table = cells_from head_size (cell_count table) table

unfoldable pub entries_of : List ℕ → List ℕ
entries_of table = entries_from head_size (cell_count table) table

unfoldable pub cells_place : List ℕ → ℕ × ℕ → ℕ × ℕ
cells_place table at = behind head_size table at

unfoldable pub entries_place : List ℕ → ℕ × ℕ → ℕ × ℕ
entries_place table at = behind (head_size + cell_size * cell_count table) table at

-- What a look at a cell finds: the cell's link and output, or nothing.
abbrev pub Look : Type 0
Look = Option Cell

abbrev pub hit : ℕ → ℕ → Look
hit link output = Some (record { link = link; output = output })

-- One look at a cell: "It matches if it exists, is of kind 2 and holds this very symbol."
unfoldable pub look : List ℕ → ℕ → ℕ → Look
look bytes n symbol =
    cond (leb (cell_size * n + cell_size) (length bytes) && (eqb (get_or bytes (cell_size * n) 0) cell_kind && eqb (get_or bytes (cell_size * n + 1) 0) symbol))
    (hit (number_at bytes (cell_size * n + 2)) (number_at bytes (cell_size * n + 4)))
    None

abbrev pub has : ℕ → ℕ → ℕ → Option Entry
has distance level next = Some (record { distance = distance; level = level; next = next })

-- Entry k of a chain: "0 is none"; "a number over E or a kind other than 3 ends the chain with nothing from it". Entries are
-- numbered from 1.
unfoldable pub entry_at : List ℕ → ℕ → Option Entry
entry_at bytes k =
    cond (leb 1 k && (leb (entry_size * k) (length bytes) && eqb (get_or bytes (entry_size * k - 5) 0) entry_kind))
    (has (get_or bytes (entry_size * k - 4) 0) (get_or bytes (entry_size * k - 3) 0) (number_at bytes (entry_size * k - 2)))
    None
