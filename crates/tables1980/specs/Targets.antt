-- "Show once over each whole table that every target an instruction may go to is a row of it and no letter mask": the test of one row.
-- A target is an address field that the opcode uses. What a re-entry goes to comes from the word's sheet and is no field.
use Rattle.std.specs.Prelude.{ℕ, Bool, true, cond, not, ◌&&◌, ◌||◌, List, [], ◌∷◌, ltb, eqb}
use Rattle.base.specs.Grounds.{one_of}
use Rattle.tables1980.specs.Words.{opcode, truex, falsex, oprand, scan, double, table, check, again, mark}

-- How many rows each table has.
abbrev pub row_count : ℕ
row_count = 109

-- "Suffix words 0, 50, 54, 65, 67, 79, 93 and 107 are letter masks."
abbrev pub mask_rows : List ℕ
mask_rows = 0 ∷ 50 ∷ 54 ∷ 65 ∷ 67 ∷ 79 ∷ 93 ∷ 107 ∷ []

unfoldable pub is_mask : ℕ → Bool
is_mask k = one_of k mask_rows

-- A row of the suffix table that is no letter mask.
unfoldable pub is_instruction : ℕ → Bool
is_instruction k = ltb k row_count && not (is_mask k)

-- The opcodes with two targets, and those with truex alone.
abbrev goes_two_ways : ℕ → Bool
goes_two_ways op = one_of op (scan ∷ double ∷ table ∷ check ∷ [])

abbrev goes_one_way : ℕ → Bool
goes_one_way op = one_of op (again ∷ mark ∷ [])

-- The suffix machine's word w of row k: its targets are instructions, and what a table's operand names is a letter mask.
unfoldable pub suffix_row_right : ℕ → ℕ → Bool
suffix_row_right k w =
    is_mask k
    || (cond (goes_two_ways (opcode w)) (is_instruction (truex w) && is_instruction (falsex w)) (cond (goes_one_way (opcode w)) (is_instruction (truex w)) true)
    && cond (eqb (opcode w) table) (is_mask (oprand w)) true)

-- The prefix machine's word w of row k: only a scan has targets, and the table has no letter masks.
unfoldable pub prefix_row_right : ℕ → ℕ → Bool
prefix_row_right k w = cond (eqb (opcode w) scan) (ltb (truex w) row_count && ltb (falsex w) row_count) true
