-- CR 6: what a running text gives: its output and its count. Both are what its words give, and the bytes between them (runs.specs).
use Rattle.std.specs.Prelude.{ℕ, ◌+◌, List, [], ◌∷◌}
use Rattle.writing.specs.Writing.{hyphenated}
use Rattle.words.specs.Symbols.{hyphen}
use Rattle.runs.specs.Text.{Held, text_out}
use Rattle.runs.specs.Held.{finished, given, flushed, piece_out}
use Rattle.hyphenation.specs.Calls.{breaks_sheet, breaks_looks}

-- "goes out with a backslash and a hyphen in each break"
abbrev pub backslash : ℕ
backslash = 92

abbrev pub break_sign : List ℕ
break_sign = backslash ∷ hyphen ∷ []

-- The output: a byte as it was read, and a word with the breaks of the hyphenating call.
abbrev pub as_read : ℕ → List ℕ
as_read b = b ∷ []

unfoldable pub broken : ℕ → ℕ → List ℕ → List ℕ → List ℕ → List ℕ → List ℕ
broken left right customer house table word = hyphenated break_sign (breaks_sheet left right word customer house table) word

-- The count: the looks of each word, none for a byte outside. "An over-long or exception word adds 0": the one is no word here, and of
-- the other the hyphenating call tells 0.
abbrev pub uncounted : ℕ → List ℕ
uncounted b = []

unfoldable pub word_looks : List ℕ → List ℕ → List ℕ → List ℕ → ℕ
word_looks customer house table word = breaks_looks word customer house table

abbrev pub counted : List ℕ → List ℕ → List ℕ → List ℕ → List ℕ
counted customer house table word = word_looks customer house table word ∷ []

unfoldable pub sum : List ℕ → ℕ
sum [] = 0
sum (n ∷ rest) = n + sum rest

-- Of a whole text, by the declaration of its words.
unfoldable pub whole_text : ℕ → ℕ → List ℕ → List ℕ → List ℕ → List ℕ → List ℕ
whole_text left right customer house table text = text_out as_read (broken left right customer house table) 0 text

unfoldable pub whole_looks : List ℕ → List ℕ → List ℕ → List ℕ → ℕ
whole_looks customer house table text = sum (text_out uncounted (counted customer house table) 0 text)

-- Of what is held, finished; of one byte behind it; of a piece behind it; of the end.
unfoldable pub finished_text : ℕ → ℕ → List ℕ → List ℕ → List ℕ → List ℕ → List ℕ
finished_text left right customer house table kept = finished as_read (broken left right customer house table) kept

unfoldable pub finished_looks : List ℕ → List ℕ → List ℕ → List ℕ → ℕ
finished_looks customer house table kept = sum (finished uncounted (counted customer house table) kept)

unfoldable pub given_text : ℕ → ℕ → List ℕ → List ℕ → List ℕ → Held → ℕ → List ℕ
given_text left right customer house table s b = given as_read (broken left right customer house table) s b

unfoldable pub given_looks : List ℕ → List ℕ → List ℕ → Held → ℕ → ℕ
given_looks customer house table s b = sum (given uncounted (counted customer house table) s b)

unfoldable pub piece_text : ℕ → ℕ → List ℕ → List ℕ → List ℕ → Held → List ℕ → List ℕ
piece_text left right customer house table s piece = piece_out as_read (broken left right customer house table) s piece

unfoldable pub piece_looks : List ℕ → List ℕ → List ℕ → Held → List ℕ → ℕ
piece_looks customer house table s piece = sum (piece_out uncounted (counted customer house table) s piece)

unfoldable pub end_text : ℕ → ℕ → List ℕ → List ℕ → List ℕ → Held → List ℕ
end_text left right customer house table s = flushed as_read (broken left right customer house table) s

unfoldable pub end_looks : List ℕ → List ℕ → List ℕ → Held → ℕ
end_looks customer house table s = sum (flushed uncounted (counted customer house table) s)
