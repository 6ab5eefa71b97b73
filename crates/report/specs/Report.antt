-- The lines that the program writes.
use Rattle.std.specs.Prelude.{ℕ, ◌+◌, ◌*◌, Bool, true, false, cond, List, [], ◌∷◌, ◌++◌, ◌≡◌, eqb, length, Option, Some, None, Ok, Err}
use Rattle.base.specs.Grounds.{told}
use Rattle.base.specs.declared.Ground.{Ground}
use Rattle.base.specs.Limits.{word_limit}
use Rattle.writing.specs.Written.{Writes}
use Rattle.writing.specs.declared.Writer.{Writer}
use Rattle.writing.specs.Writing.{space, question, field, counted, hyphenated}
use Rattle.words.specs.Symbols.{line_feed, hyphen}
use Rattle.hyphenation.specs.Calls.{judge_word_alone, room_after, breaks_sheet, word_answer, Answer}

-- A sign ("?" for a word, "!" for a list or a packing), number and place ("for ground 6 list, then offset"), "0 where none".
abbrev pub list_field : ℕ → List ℕ
list_field list = cond (eqb list 0) [] (field list)

abbrev pub told_line : ℕ → ℕ → ℕ → ℕ → List ℕ
told_line sign number list place = (sign ∷ []) ++ (field number ++ (list_field list ++ (field place ++ (line_feed ∷ []))))

abbrev pub refusal_line : ℕ → Ground → List ℕ
refusal_line sign g = told_line sign (told g).number (told g).list (told g).place

-- A word's line: the word with its breaks, or "?", number and place.
abbrev pub word_line : Answer → List ℕ → List ℕ → List ℕ
word_line (Ok f) sheet word = hyphenated (hyphen ∷ []) sheet word ++ (line_feed ∷ [])
word_line (Err g) sheet word = refusal_line question g

-- The last line: "words", "refused" and what the program sums beside them, each with its number. `hyphenate` sums "probes".
abbrev pub words_label : List ℕ
words_label = 119 ∷ 111 ∷ 114 ∷ 100 ∷ 115 ∷ []

abbrev pub refused_label : List ℕ
refused_label = space ∷ 114 ∷ 101 ∷ 102 ∷ 117 ∷ 115 ∷ 101 ∷ 100 ∷ []

abbrev pub probes_label : List ℕ
probes_label = space ∷ 112 ∷ 114 ∷ 111 ∷ 98 ∷ 101 ∷ 115 ∷ []

abbrev pub sums_line : ℕ → ℕ → List ℕ → ℕ → List ℕ
sums_line words refused label sum = counted words_label words ++ (counted refused_label refused ++ (counted label sum ++ (line_feed ∷ [])))

-- The looks that the program's "probes" sum: those of an answer, none where the word is refused.
abbrev pub looks_of : Answer → ℕ
looks_of (Ok f) = f.looks
looks_of (Err g) = 0

abbrev pub is_refused : Answer → Bool
is_refused (Ok f) = false
is_refused (Err g) = true

-- What a program gets of a word's line: what the word adds to its sum, nothing where the word is refused. Those count as refused.
abbrev pub summed : Option ℕ → ℕ
summed (Some n) = n
summed None = 0

abbrev pub refused : Option ℕ → Bool
refused (Some n) = false
refused None = true

-- Every line of a word fits into this many bytes: its letters, at most as many hyphens, and the line feed, with a byte to spare.
abbrev pub line_limit_of : ℕ → ℕ
line_limit_of n = 2 * n + 2

abbrev pub line_limit : ℕ
line_limit = line_limit_of word_limit

-- The line of a word where margins, lists and table were judged before, with a break room of this size.
abbrev pub line_for : ℕ → ℕ → List ℕ → List ℕ → List ℕ → List ℕ → ℕ → List ℕ
line_for left right word customer house table size = word_line (word_answer left right word customer house table size) (breaks_sheet left right word customer house table) word

-- What is put and returned for a word where margins, lists and table were judged before.
pub record Reports (left right : ℕ) (word customer house table marks : List ℕ) (before : Writer) (r : Option ℕ) (marks_after : List ℕ) (after : Writer) : Type 0 where
  pub line : Writes (line_for left right word customer house table (length marks)) before after
  pub looked : summed r ≡ looks_of (word_answer left right word customer house table (length marks))
  pub told : refused r ≡ is_refused (word_answer left right word customer house table (length marks))
  pub memory : marks_after ≡ room_after (judge_word_alone word (length marks)) (breaks_sheet left right word customer house table) marks
