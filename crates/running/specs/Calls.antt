-- CR 6: the two calls of a running text: their grounds in order, their answers, the state that they give back, and what they leave in the
-- room.
use Rattle.std.specs.Prelude.{ℕ, ◌+◌, ◌*◌, Bool, List, [], ◌∷◌, ◌++◌, ◌≡◌, ltb, length, drop, Ok, Err, Result}
use Rattle.base.specs.Limits.{running_text, room_per_byte}
use Rattle.base.specs.Grounds.{told, Said, Finds, Refuses, Row, on, first_of, first, refuse_if, Check}
use Rattle.base.specs.declared.Ground.{Ground}
use Rattle.base.specs.declared.Ground.TheVariants.{TextRoomShort, RunningLong}
use Rattle.rooms.specs.Rooms.{is_short}
use Rattle.lists.specs.Lists.{list_grounds, judge_lists}
use Rattle.table.specs.Table.{table_grounds, judge_table}
use Rattle.hyphenation.specs.Calls.{margin_grounds, judge_margins}
use Rattle.runs.specs.Text.{Held}
use Rattle.runs.specs.Held.{held_after}
use Rattle.states.specs.State.{state_of, new_text, held_in, read_state}
use Rattle.states.specs.declared.TextState.{TextState}
use Rattle.flowing.specs.Output.{finished_text, finished_looks, piece_text, piece_looks, end_text, end_looks}
use Rattle.running.specs.declared.Taken.{Taken}
use Rattle.running.specs.declared.Written.{Written}

-- "Exceptions, margins and table come with each call and are judged first (1, 8, 6, 9)."
unfoldable pub setting_grounds : ℕ → ℕ → List ℕ → List ℕ → List ℕ → List Row
setting_grounds left right customer house table = margin_grounds left right ++ (list_grounds customer house ++ table_grounds table)

-- "a piece that takes the text past 1,048,576 bytes is refusal 21"
unfoldable pub passes_end : ℕ → ℕ → Bool
passes_end total n = ltb running_text (total + n)

-- "The output room must have three bytes for each byte held or in the piece, else refusal 14"
unfoldable pub short_for : ℕ → ℕ → Bool
short_for bytes size = is_short (room_per_byte * bytes) size

-- A piece of n bytes and a room of this size, where so many bytes are held and the text has this total: "refusal 21, before 14".
unfoldable pub piece_grounds : ℕ → ℕ → List ℕ → List ℕ → List ℕ → ℕ → ℕ → ℕ → ℕ → List Row
piece_grounds left right customer house table total held n size =
    setting_grounds left right customer house table ++ (on 21 (passes_end total n) ∷ on 14 (short_for (held + n) size) ∷ [])

unfoldable pub end_grounds : ℕ → ℕ → List ℕ → List ℕ → List ℕ → ℕ → ℕ → List Row
end_grounds left right customer house table held size = setting_grounds left right customer house table ++ (on 14 (short_for held size) ∷ [])

-- What a call of a running text answers: what it wrote, or why it refuses.
abbrev pub TextAnswer : Type 0
TextAnswer = Result Written Ground

abbrev pub written : ℕ → ℕ → TextAnswer
written length looks = Ok (record { length = length; looks = looks })

-- What an answer says: "an answer tells the length of each text .. it wrote; here its count too".
unfoldable pub text_said : TextAnswer → Said
text_said (Ok w) = Finds (w.length ∷ w.looks ∷ [])
text_said (Err g) = Refuses (told g)

abbrev pub written_or : List Row → List ℕ → ℕ → Said
written_or grounds text looks = first_of (Finds (length text ∷ looks ∷ [])) grounds

-- "Refused, nothing is taken or written; bytes past an output stay."
abbrev pub text_left : Said → List ℕ → List ℕ → List ℕ
text_left (Finds values) text room = text ++ drop (length text) room
text_left (Refuses t) text room = room

abbrev pub state_left : Said → TextState → TextState → TextState
state_left (Finds values) given then = then
state_left (Refuses t) given then = given

-- The promise of a call by the order of its grounds, one text, one count, and the state that it leaves.
pub record Gives (grounds : List Row) (text : List ℕ) (looks : ℕ) (given then : TextState) (room : List ℕ) (r : Taken) (after : List ℕ) : Type 0 where
  pub answered : text_said r.answer ≡ written_or grounds text looks
  pub state : r.state ≡ state_left (written_or grounds text looks) given then
  pub memory : after ≡ text_left (written_or grounds text looks) text room

-- What a state holds as it is read, and its text's total.
abbrev pub held_now : TextState → Held
held_now state = held_in (read_state state)

abbrev pub total_now : TextState → ℕ
total_now state = (read_state state).total

-- The promise of a piece.
abbrev pub Pieces : TextState → (left right : ℕ) (customer house table piece room : List ℕ) → Taken → List ℕ → Type 0
Pieces state left right customer house table piece room =
    Gives (piece_grounds left right customer house table (total_now state) (read_state state).size (length piece) (length room))
    (piece_text left right customer house table (held_now state) piece) (piece_looks customer house table (held_now state) piece)
    state (state_of (held_after (held_now state) piece) (total_now state + length piece)) room

-- The promise of the end: "An end call flushes what is held, and the next piece begins a new text."
abbrev pub Ends : TextState → (left right : ℕ) (customer house table room : List ℕ) → Taken → List ℕ → Type 0
Ends state left right customer house table room =
    Gives (end_grounds left right customer house table (read_state state).size (length room))
    (end_text left right customer house table (held_now state)) (end_looks customer house table (held_now state))
    state new_text room

-- The same as it is computed: one judgement after the other, and then answer, state and room by what they come to.
unfoldable pub judge_setting : ℕ → ℕ → List ℕ → List ℕ → List ℕ → Check
judge_setting left right customer house table = first (judge_margins left right) (first (judge_lists customer house) (judge_table table))

unfoldable pub judge_piece : ℕ → ℕ → List ℕ → List ℕ → List ℕ → ℕ → ℕ → ℕ → ℕ → Check
judge_piece left right customer house table total held n size =
    first (judge_setting left right customer house table) (first (refuse_if (passes_end total n) RunningLong) (refuse_if (short_for (held + n) size) TextRoomShort))

unfoldable pub judge_end : ℕ → ℕ → List ℕ → List ℕ → List ℕ → ℕ → ℕ → Check
judge_end left right customer house table held size = first (judge_setting left right customer house table) (refuse_if (short_for held size) TextRoomShort)

abbrev pub text_answer : Check → List ℕ → ℕ → TextAnswer
text_answer (Ok _) text looks = written (length text) looks
text_answer (Err g) text looks = Err g

abbrev pub text_after : Check → List ℕ → List ℕ → List ℕ
text_after (Ok _) text room = text ++ drop (length text) room
text_after (Err g) text room = room

abbrev pub state_after : Check → TextState → TextState → TextState
state_after (Ok _) given then = then
state_after (Err g) given then = given

pub record Given (judged : Check) (text : List ℕ) (looks : ℕ) (given then : TextState) (room : List ℕ) (r : Taken) (after : List ℕ) : Type 0 where
  pub answered : r.answer ≡ text_answer judged text looks
  pub state : r.state ≡ state_after judged given then
  pub memory : after ≡ text_after judged text room

-- What a piece answers for a room of this size, the state that it leaves, and what it leaves in a room; the same of the end.
abbrev pub judged_piece : TextState → ℕ → ℕ → List ℕ → List ℕ → List ℕ → List ℕ → ℕ → Check
judged_piece state left right customer house table piece size = judge_piece left right customer house table (total_now state) (read_state state).size (length piece) size

abbrev pub piece_answer : TextState → ℕ → ℕ → List ℕ → List ℕ → List ℕ → List ℕ → ℕ → TextAnswer
piece_answer state left right customer house table piece size =
    text_answer (judged_piece state left right customer house table piece size) (piece_text left right customer house table (held_now state) piece)
    (piece_looks customer house table (held_now state) piece)

abbrev pub piece_next : TextState → ℕ → ℕ → List ℕ → List ℕ → List ℕ → List ℕ → ℕ → TextState
piece_next state left right customer house table piece size =
    state_after (judged_piece state left right customer house table piece size) state (state_of (held_after (held_now state) piece) (total_now state + length piece))

abbrev pub piece_room : TextState → ℕ → ℕ → List ℕ → List ℕ → List ℕ → List ℕ → List ℕ → List ℕ
piece_room state left right customer house table piece room =
    text_after (judged_piece state left right customer house table piece (length room)) (piece_text left right customer house table (held_now state) piece) room

abbrev pub judged_end : TextState → ℕ → ℕ → List ℕ → List ℕ → List ℕ → ℕ → Check
judged_end state left right customer house table size = judge_end left right customer house table (read_state state).size size

abbrev pub end_answer : TextState → ℕ → ℕ → List ℕ → List ℕ → List ℕ → ℕ → TextAnswer
end_answer state left right customer house table size =
    text_answer (judged_end state left right customer house table size) (end_text left right customer house table (held_now state)) (end_looks customer house table (held_now state))

abbrev pub end_next : TextState → ℕ → ℕ → List ℕ → List ℕ → List ℕ → ℕ → TextState
end_next state left right customer house table size = state_after (judged_end state left right customer house table size) state new_text

abbrev pub end_room : TextState → ℕ → ℕ → List ℕ → List ℕ → List ℕ → List ℕ → List ℕ
end_room state left right customer house table room =
    text_after (judged_end state left right customer house table (length room)) (end_text left right customer house table (held_now state)) room

-- The parts behind all judgements, over a state as it is read, and over the bytes held.
abbrev pub PiecesDone : TextState → (left right : ℕ) (customer house table piece room : List ℕ) → Taken → List ℕ → Type 0
PiecesDone s left right customer house table piece room =
    Given (Ok tt) (piece_text left right customer house table (held_in s) piece) (piece_looks customer house table (held_in s) piece) s
    (state_of (held_after (held_in s) piece) (s.total + length piece)) room

pub record EndsDone (kept : List ℕ) (left right : ℕ) (customer house table room : List ℕ) (r : TextAnswer) (after : List ℕ) : Type 0 where
  pub answered : r ≡ written (length (finished_text left right customer house table kept)) (finished_looks customer house table kept)
  pub memory : after ≡ finished_text left right customer house table kept ++ drop (length (finished_text left right customer house table kept)) room
