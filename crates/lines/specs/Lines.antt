-- A text as lines, and which lines are good as they stand. The order between lines is in Order.antt.
use Rattle.std.specs.Prelude.{ℕ, suc, Bool, true, false, cond, not, ◌&&◌, ◌||◌, List, [], ◌∷◌, leb, eqb, length}
use Rattle.base.specs.Limits.{word_limit, pattern_limit}
use Rattle.words.specs.Symbols.{line_feed, hyphen, dot, apostrophe, small, digit, symbols_of}
use Rattle.lines.specs.Apostrophes.{apostrophes_fit}

-- A byte put in front of a text that is already cut.
unfoldable pub glue : ℕ → List (List ℕ) → List (List ℕ)
glue b [] = (b ∷ []) ∷ []
glue b (l ∷ ls) = (b ∷ l) ∷ ls

-- Text lists: "lines each ended by a line feed (byte 10), the last too. An empty text has no lines." Each line keeps its
-- line feed, and bytes that no line feed ends are the last line, so that a line's offset is the length of those before it.
unfoldable pub cut : List ℕ → List (List ℕ)
cut [] = []
cut (b ∷ t) = cond (eqb b line_feed) ((b ∷ []) ∷ cut t) (glue b (cut t))

-- The length of a text's first line, its line feed included.
unfoldable pub line_length : List ℕ → ℕ
line_length [] = 0
line_length (b ∷ t) = cond (eqb b line_feed) 1 (suc (line_length t))

-- A text's first line, its line feed included.
unfoldable pub first_line : List ℕ → List ℕ
first_line [] = []
first_line (b ∷ t) = cond (eqb b line_feed) (b ∷ []) (b ∷ first_line t)

unfoldable pub is_nil : List ℕ → Bool
is_nil [] = true
is_nil (b ∷ t) = false

-- Does a text begin with this byte?
unfoldable pub starts_with : ℕ → List ℕ → Bool
starts_with x [] = false
starts_with x (b ∷ t) = eqb b x

-- Does some byte of a line pass the test?
unfoldable pub any_of : (ℕ → Bool) → List ℕ → Bool
any_of test [] = false
any_of test (b ∷ t) = test b || any_of test t

-- A letter of a line: a small one, or an apostrophe, which CR 5 counts as one.
unfoldable pub line_letter : ℕ → Bool
line_letter b = small b || eqb b apostrophe

-- Pattern line, byte by byte: letters, digits 1 to 9 and ".", then a line feed and nothing more. "At most one digit before the first,
-- between two, or after the last" symbol: no digit stands right after a digit. ""." only as first or last symbol. No digit before a
-- leading "." or after a trailing one": a "." is the first byte, or a line feed stands right after it. `letter`: which bytes are
-- letters, `small` by document 01 and `line_letter` since CR 5; `opening`: this is the first byte; `after_digit`: a digit stands right
-- before it.
unfoldable pub pattern_form : (ℕ → Bool) → Bool → Bool → List ℕ → Bool
pattern_form letter opening after_digit [] = false
pattern_form letter opening after_digit (b ∷ t) =
    cond (letter b) (pattern_form letter false false t)
    (cond (digit b) (not after_digit && pattern_form letter false true t)
    (cond (eqb b dot) ((opening || starts_with line_feed t) && pattern_form letter false false t)
    (eqb b line_feed && is_nil t)))

-- Pattern line: "1 to 16 symbols", "at least one small letter and one digit". (One symbol at least: the letter.) CR 5: "a pattern still
-- needs one of the 26".
unfoldable pub pattern_bytes : (ℕ → Bool) → List ℕ → Bool
pattern_bytes letter line =
    pattern_form letter true false line && (any_of small line && (any_of digit line && leb (length (symbols_of line)) pattern_limit))

-- CR 5: "a pattern may begin or end with it; elsewhere it makes the line bad".
unfoldable pub good_pattern : List ℕ → Bool
good_pattern line = pattern_bytes line_letter line && apostrophes_fit true true (symbols_of line)

-- Exception line, byte by byte: "small letters; single hyphens only between two letters", then a line feed and nothing more. CR 5: an
-- apostrophe "counts as a letter, for the limit and beside a hyphen too". `letter` as above; `after_letter`: a letter stands right before
-- this byte, as it must before a hyphen and before the line feed.
unfoldable pub exception_form : (ℕ → Bool) → Bool → List ℕ → Bool
exception_form letter after_letter [] = false
exception_form letter after_letter (b ∷ t) =
    cond (letter b) (exception_form letter true t)
    (after_letter && cond (eqb b hyphen) (exception_form letter false t) (eqb b line_feed && is_nil t))

-- Exception line: "1 to 63 small letters". (One at least: the line feed stands after a letter.)
unfoldable pub exception_bytes : (ℕ → Bool) → List ℕ → Bool
exception_bytes letter line = exception_form letter false line && leb (length (symbols_of line)) word_limit

-- CR 5: exceptions "may hold it under the same rule": each between two of the 26.
unfoldable pub good_exception : List ℕ → Bool
good_exception line = exception_bytes line_letter line && apostrophes_fit false false (symbols_of line)
