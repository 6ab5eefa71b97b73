-- What the parts of the call promise each other.
use Rattle.std.specs.Prelude.{ℕ, List, ◌≡◌, length, Option, Some, None}
use Rattle.base.specs.Grounds.{Finds}
use Rattle.machine1980.specs.Run.{Outcome, RanOut, Marked, machine}
use Rattle.machine1980.specs.Calls.{said1980, values_of, left_by, Answer1980}
use Rattle.machine1980.specs.declared.Made.{Made}

-- What the code tells of a run, joined with the sheet that it leaves.
abbrev pub joined : Option Made → List ℕ → Outcome
joined None sheet = RanOut
joined (Some made) sheet = Marked made.finale sheet made.executed

-- The answer behind all judgements.
pub record Answered (budget : ℕ) (word room : List ℕ) (r : Answer1980) (after : List ℕ) : Type 0 where
  pub answered : said1980 r ≡ Finds (values_of (length word) (machine budget word))
  pub memory : after ≡ left_by (length word) (machine budget word) room
