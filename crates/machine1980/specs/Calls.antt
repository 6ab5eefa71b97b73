-- The call: its grounds in order, its answer, and what it leaves in the room.
use Rattle.std.specs.Prelude.{ℕ, List, [], ◌∷◌, ◌≡◌, length, Ok, Err, Some, None, Result, Option}
use Rattle.base.specs.Limits.{word_limit1980, room_size1980}
use Rattle.base.specs.Grounds.{told, Said, Finds, Refuses, Row, on, first_of, first, refuse_if, Check}
use Rattle.base.specs.declared.Ground.{Ground}
use Rattle.base.specs.declared.Ground.TheVariants.{RoomShort}
use Rattle.words.specs.Words.{letter_grounds, judge_letters}
use Rattle.rooms.specs.Rooms.{is_short, written, nonzero}
use Rattle.machine1980.specs.Run.{Outcome, RanOut, Marked, machine}
use Rattle.machine1980.specs.Breaks.{break_sheet}
use Rattle.machine1980.specs.declared.Reprint.{Reprint}

-- "Words are judged as before (5, 2, 4, 3)", with limits of this call's own.
unfoldable pub grounds1980 : List ℕ → ℕ → List Row
grounds1980 word size = on 5 (is_short room_size1980 size) ∷ letter_grounds word_limit1980 word

-- What came out, by its number: ""Ran out", if more are needed, is an answer of its own".
abbrev pub answered_outcome : ℕ
answered_outcome = 0

abbrev pub ran_out_outcome : ℕ
ran_out_outcome = 1

-- A finding's values: what came out, how many breaks, how many instructions were executed. "Ran out" tells no numbers.
abbrev pub answered_found : ℕ → ℕ → List ℕ
answered_found breaks executed = answered_outcome ∷ breaks ∷ executed ∷ []

abbrev pub ran_out_found : List ℕ
ran_out_found = ran_out_outcome ∷ 0 ∷ 0 ∷ []

-- The answer: a finding, none where the budget runs out, or why the call refuses.
abbrev pub Answer1980 : Type 0
Answer1980 = Result (Option Reprint) Ground

abbrev pub reprint : ℕ → ℕ → Answer1980
reprint breaks executed = Ok (Some (record { breaks = breaks; executed = executed }))

-- What each case of the answer says.
unfoldable pub said1980 : Answer1980 → Said
said1980 (Ok (Some r)) = Finds (answered_found r.breaks r.executed)
said1980 (Ok None) = Finds ran_out_found
said1980 (Err g) = Refuses (told g)

-- What is found of a word of n letters.
unfoldable pub values_of : ℕ → Outcome → List ℕ
values_of n RanOut = ran_out_found
values_of n (Marked finale marks executed) = answered_found (nonzero (break_sheet n finale marks)) executed

-- What is left in the room: ""Ran out" .. room untouched".
unfoldable pub left_by : ℕ → Outcome → List ℕ → List ℕ
left_by n RanOut room = room
left_by n (Marked finale marks executed) room = written room_size1980 (break_sheet n finale marks) room

-- The answer under a budget, by the order of the grounds.
unfoldable pub answer1980 : ℕ → List ℕ → ℕ → Said
answer1980 budget word size = first_of (Finds (values_of (length word) (machine budget word))) (grounds1980 word size)

-- "Refusals leave lent memory untouched".
abbrev pub room_left : Said → Outcome → ℕ → List ℕ → List ℕ
room_left (Finds values) o n room = left_by n o room
room_left (Refuses t) o n room = room

unfoldable pub room1980 : ℕ → List ℕ → List ℕ → List ℕ
room1980 budget word room = room_left (answer1980 budget word (length room)) (machine budget word) (length word) room

-- The promise of the call under a budget; that of the call itself has "a budget of 20,000 instructions".
pub record Reprints (budget : ℕ) (word room : List ℕ) (r : Answer1980) (after : List ℕ) : Type 0 where
  pub answered : said1980 r ≡ answer1980 budget word (length room)
  pub memory : after ≡ room1980 budget word room

-- The grounds as they are judged, one after the other.
unfoldable pub judge1980 : List ℕ → ℕ → Check
judge1980 word size = first (refuse_if (is_short room_size1980 size) RoomShort) (judge_letters word_limit1980 word)
