-- Whole text lists: the first bad line, and the judgements by size and lines.
use Rattle.std.specs.Prelude.{ℕ, ◌+◌, Bool, true, false, cond, ◌&&◌, List, [], ◌∷◌, ltb, length, ⊤, Result, Ok, Err}
use Rattle.base.specs.Limits.{pattern_text, exception_text, customer_list, house_list}
use Rattle.base.specs.Grounds.{Row, on, on_line, first, refuse_if, Check}
use Rattle.base.specs.declared.Ground.TheVariants.{TextLong, BadPattern, BadException}
use Rattle.words.specs.Symbols.{symbols_of}
use Rattle.lines.specs.Lines.{cut, good_pattern, good_exception}
use Rattle.lines.specs.Order.{before}
use Rattle.lists.specs.declared.Form.{Form}
use Rattle.lists.specs.declared.Form.TheVariants.{Patterns, Exceptions}

-- What there is to say of a list's lines: they are good, or where the first bad one begins.
abbrev pub Lines : Type 0
Lines = Result ⊤ ℕ

-- Which lines are good as they stand goes by the form of the list.
unfoldable pub good_line : Form → List ℕ → Bool
good_line Patterns line = good_pattern line
good_line Exceptions line = good_exception line

-- "A line is also bad if it doesn't ascend from the line above." A good line has symbols and so ascends from the empty
-- `above` that stands for none. `at` is the offset of the first line given.
unfoldable pub first_bad : Form → ℕ → List ℕ → List (List ℕ) → Lines
first_bad form at above [] = Ok tt
first_bad form at above (line ∷ rest) =
    cond (good_line form line && before (symbols_of above) (symbols_of line)) (first_bad form (at + length line) line rest) (Err at)

-- The "first bad line's offset" of a whole text, or that there is none.
unfoldable pub judge_lines : Form → List ℕ → Lines
judge_lines form text = first_bad form 0 [] (cut text)

-- Ground 8: "a text over its limit".
abbrev pub over_size : ℕ → List ℕ → Row
over_size limit text = on 8 (ltb limit (length text))

unfoldable pub size_grounds : ℕ → List ℕ → List Row
size_grounds limit text = over_size limit text ∷ []

-- Grounds 7 and 6: is a line bad, and which is the first? 7 names no list.
abbrev pub is_bad : Lines → Bool
is_bad (Ok _) = false
is_bad (Err offset) = true

abbrev pub offset_of : Lines → ℕ
offset_of (Ok _) = 0
offset_of (Err offset) = offset

abbrev pub bad_line : ℕ → ℕ → Lines → Row
bad_line number list lines = on_line number list (offset_of lines) (is_bad lines)

-- A pattern text: 8, then 7. "A list is good if it is within its size and has no bad line": where neither holds.
unfoldable pub pattern_grounds : List ℕ → List Row
pattern_grounds text = over_size pattern_text text ∷ bad_line 7 0 (judge_lines Patterns text) ∷ []

-- An exception text: 8, then 6 with the list's number.
unfoldable pub exception_grounds : ℕ → ℕ → List ℕ → List Row
exception_grounds list limit text = over_size limit text ∷ bad_line 6 list (judge_lines Exceptions text) ∷ []

-- Both exception texts: "8 (customer, house), 6 (customer, house)".
unfoldable pub list_grounds : List ℕ → List ℕ → List Row
list_grounds customer house =
    over_size exception_text customer
    ∷ over_size exception_text house
    ∷ bad_line 6 customer_list (judge_lines Exceptions customer)
    ∷ bad_line 6 house_list (judge_lines Exceptions house)
    ∷ []

-- The same as they are judged one after the other.
unfoldable pub judge_size : ℕ → List ℕ → Check
judge_size limit text = refuse_if (ltb limit (length text)) TextLong

-- A bad line as a refusal: 7 with its offset, or 6 with the list and its offset.
abbrev pub bad_pattern : Lines → Check
bad_pattern (Ok _) = Ok tt
bad_pattern (Err offset) = Err (BadPattern offset)

abbrev pub bad_exception : ℕ → Lines → Check
bad_exception list (Ok _) = Ok tt
bad_exception list (Err offset) = Err (BadException list offset)

unfoldable pub judge_patterns : List ℕ → Check
judge_patterns text = first (judge_size pattern_text text) (bad_pattern (judge_lines Patterns text))

unfoldable pub judge_exceptions : ℕ → ℕ → List ℕ → Check
judge_exceptions list limit text = first (judge_size limit text) (bad_exception list (judge_lines Exceptions text))

unfoldable pub judge_lists : List ℕ → List ℕ → Check
judge_lists customer house =
    first (judge_size exception_text customer)
    (first (judge_size exception_text house)
    (first (bad_exception customer_list (judge_lines Exceptions customer)) (bad_exception house_list (judge_lines Exceptions house))))
