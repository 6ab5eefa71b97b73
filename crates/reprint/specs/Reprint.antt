-- The lines that `archive` writes.
use Rattle.std.specs.Prelude.{ℕ, Bool, true, false, List, [], ◌∷◌, ◌++◌, ◌≡◌, length, Option}
use Rattle.base.specs.Limits.{word_limit1980, budget1980}
use Rattle.base.specs.Grounds.{Said, Finds, Refuses}
use Rattle.writing.specs.Written.{Writes}
use Rattle.writing.specs.declared.Writer.{Writer}
use Rattle.writing.specs.Writing.{space, question, hyphenated}
use Rattle.words.specs.Symbols.{line_feed, hyphen}
use Rattle.report.specs.Report.{told_line, line_limit_of, summed, refused}
use Rattle.machine1980.specs.Run.{Outcome, RanOut, Marked, machine}
use Rattle.machine1980.specs.Breaks.{break_sheet}
use Rattle.machine1980.specs.Calls.{answer1980, room1980}

-- The line of a word that isn't refused: the word with its breaks. "Ran out", which no word does (machine1980.proofs.Theorems), is
-- told as a refusal on no ground.
abbrev pub outcome_line : Outcome → List ℕ → List ℕ
outcome_line RanOut word = told_line question 0 0 0
outcome_line (Marked finale marks executed) word = hyphenated (hyphen ∷ []) (break_sheet (length word) finale marks) word ++ (line_feed ∷ [])

-- A word's line: that, or "?", number and place.
abbrev pub said_line : Said → Outcome → List ℕ → List ℕ
said_line (Finds values) o word = outcome_line o word
said_line (Refuses t) o word = told_line question t.number t.list t.place

-- The instructions that the program sums: those of an answer, none where the word is refused.
abbrev pub executed_by : Outcome → ℕ
executed_by RanOut = 0
executed_by (Marked finale marks executed) = executed

abbrev pub said_executed : Said → Outcome → ℕ
said_executed (Finds values) o = executed_by o
said_executed (Refuses t) o = 0

-- The words that it counts as refused.
abbrev pub ran_out : Outcome → Bool
ran_out RanOut = true
ran_out (Marked finale marks executed) = false

abbrev pub said_refused : Said → Outcome → Bool
said_refused (Finds values) o = ran_out o
said_refused (Refuses t) o = true

-- What the last line has beside "words" and "refused": " instructions".
abbrev pub instructions_label : List ℕ
instructions_label = space ∷ 105 ∷ 110 ∷ 115 ∷ 116 ∷ 114 ∷ 117 ∷ 99 ∷ 116 ∷ 105 ∷ 111 ∷ 110 ∷ 115 ∷ []

-- Every line of a word fits into this many bytes: its letters, at most as many hyphens, and the line feed, with a byte to spare.
abbrev pub line_limit1980 : ℕ
line_limit1980 = line_limit_of word_limit1980

-- The line of a word, with a break room of this size.
abbrev pub reprint_line : List ℕ → ℕ → List ℕ
reprint_line word size = said_line (answer1980 budget1980 word size) (machine budget1980 word) word

-- What is put and returned for a word, and what is left in the break room.
pub record Reprinted (word marks : List ℕ) (before : Writer) (r : Option ℕ) (marks_after : List ℕ) (after : Writer) : Type 0 where
  pub line : Writes (reprint_line word (length marks)) before after
  pub executed : summed r ≡ said_executed (answer1980 budget1980 word (length marks)) (machine budget1980 word)
  pub told : refused r ≡ said_refused (answer1980 budget1980 word (length marks)) (machine budget1980 word)
  pub memory : marks_after ≡ room1980 budget1980 word marks
