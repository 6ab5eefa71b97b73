-- The levels call and the hyphenating call: their grounds in order, their answers, and what they leave in the room.
use Rattle.std.specs.Prelude.{ℕ, ◌||◌, List, [], ◌∷◌, ◌++◌, ◌≡◌, length, Ok, Err, Result}
use Rattle.base.specs.Limits.{word_limit, room_size}
use Rattle.base.specs.Grounds.{told, Said, Finds, Refuses, Row, on, first_of, first, refuse_if, Check}
use Rattle.base.specs.declared.Ground.{Ground}
use Rattle.base.specs.declared.Ground.TheVariants.{Margin, RoomShort}
use Rattle.words.specs.Words.{word_grounds, judge_word}
use Rattle.lists.specs.Lists.{list_grounds, judge_lists}
use Rattle.liang.specs.Breaks.{bad_margin}
use Rattle.table.specs.Table.{root_base, table_grounds, judge_table, cells_of, entries_of}
use Rattle.rooms.specs.Rooms.{is_short, written, nonzero}
use Rattle.hyphenation.specs.Levels.{level_sheet, word_looks}
use Rattle.hyphenation.specs.Breaks.{break_sheet, break_looks}
use Rattle.hyphenation.specs.declared.Found.{Found}

-- Ground 5: "break or level room under 64 bytes".
unfoldable pub room_grounds : ℕ → List Row
room_grounds size = on 5 (is_short room_size size) ∷ []

-- Ground 1: "a margin outside 1 to 63".
unfoldable pub margin_grounds : ℕ → ℕ → List Row
margin_grounds left right = on 1 (bad_margin left || bad_margin right) ∷ []

-- "levels call 5, 2, 4, 3, 9"
unfoldable pub levels_grounds : List ℕ → List ℕ → ℕ → List Row
levels_grounds word table size = room_grounds size ++ (word_grounds word_limit word ++ table_grounds table)

-- "hyphenating call 1, 5, 2, 4, 3, 8 (customer, house), 6 (customer, house), 9"
unfoldable pub hyphenate_grounds : ℕ → ℕ → List ℕ → List ℕ → List ℕ → List ℕ → ℕ → List Row
hyphenate_grounds left right word customer house table size =
    margin_grounds left right ++ (room_grounds size ++ (word_grounds word_limit word ++ (list_grounds customer house ++ table_grounds table)))

-- The hyphenating call for a word alone, where margins, lists and table were judged before: 5, 2, 4, 3 are left.
unfoldable pub word_alone_grounds : List ℕ → ℕ → List Row
word_alone_grounds word size = room_grounds size ++ word_grounds word_limit word

-- What a call answers: a finding, or why it refuses.
abbrev pub Answer : Type 0
Answer = Result Found Ground

abbrev pub found : ℕ → ℕ → Answer
found marks looks = Ok (record { marks = marks; looks = looks })

-- What an answer says: "the number of breaks and the count", or of levels that aren't 0; or why the call refuses.
unfoldable pub answer_said : Answer → Said
answer_said (Ok f) = Finds (f.marks ∷ f.looks ∷ [])
answer_said (Err g) = Refuses (told g)

-- What a call says by the order of its grounds: a finding tells how many bytes of its sheet aren't 0, and the count of looks.
abbrev pub found_or : List Row → List ℕ → ℕ → Said
found_or grounds sheet looks = first_of (Finds (nonzero sheet ∷ looks ∷ [])) grounds

-- "Refusals leave lent memory untouched"; a finding writes its sheet.
abbrev pub room_left : Said → List ℕ → List ℕ → List ℕ
room_left (Finds values) sheet room = written room_size sheet room
room_left (Refuses t) sheet room = room

-- The promise of a call by the order of its grounds, one sheet and one count of looks.
pub record Answers (grounds : List Row) (sheet : List ℕ) (looks : ℕ) (room : List ℕ) (r : Answer) (after : List ℕ) : Type 0 where
  pub answered : answer_said r ≡ found_or grounds sheet looks
  pub memory : after ≡ room_left (found_or grounds sheet looks) sheet room

-- The same as it is computed: one judgement after the other, and then the answer and the room by what they come to.
unfoldable pub judge_room : ℕ → Check
judge_room size = refuse_if (is_short room_size size) RoomShort

unfoldable pub judge_margins : ℕ → ℕ → Check
judge_margins left right = refuse_if (bad_margin left || bad_margin right) Margin

unfoldable pub judge_levels : List ℕ → List ℕ → ℕ → Check
judge_levels word table size = first (judge_room size) (first (judge_word word_limit word) (judge_table table))

unfoldable pub judge_hyphenate : ℕ → ℕ → List ℕ → List ℕ → List ℕ → List ℕ → ℕ → Check
judge_hyphenate left right word customer house table size =
    first (judge_margins left right)
    (first (judge_room size)
    (first (judge_word word_limit word)
    (first (judge_lists customer house) (judge_table table))))

unfoldable pub judge_word_alone : List ℕ → ℕ → Check
judge_word_alone word size = first (judge_room size) (judge_word word_limit word)

abbrev pub answer : Check → List ℕ → ℕ → Answer
answer (Ok _) sheet looks = found (nonzero sheet) looks
answer (Err g) sheet looks = Err g

abbrev pub room_after : Check → List ℕ → List ℕ → List ℕ
room_after (Ok _) sheet room = written room_size sheet room
room_after (Err g) sheet room = room

pub record Answered (judged : Check) (sheet : List ℕ) (looks : ℕ) (room : List ℕ) (r : Answer) (after : List ℕ) : Type 0 where
  pub answered : r ≡ answer judged sheet looks
  pub memory : after ≡ room_after judged sheet room

-- What is found in a break room, which has just the bytes of a sheet: the sheet is in it, its marks are told and the count of looks.
pub record Filled (sheet : List ℕ) (looks : ℕ) (f : Found) (after : List ℕ) : Type 0 where
  pub marked : f.marks ≡ nonzero sheet
  pub counted : f.looks ≡ looks
  pub memory : after ≡ sheet

-- What the levels call answers for a room of this size, and what it leaves in a room. It "always walks".
abbrev pub levels_answer : List ℕ → List ℕ → ℕ → Answer
levels_answer word table size = answer (judge_levels word table size) (level_sheet (cells_of table) (entries_of table) root_base word) (word_looks (cells_of table) root_base word)

abbrev pub levels_room : List ℕ → List ℕ → List ℕ → List ℕ
levels_room word table room = room_after (judge_levels word table (length room)) (level_sheet (cells_of table) (entries_of table) root_base word) room

-- The promise of the levels call.
abbrev pub Levels : (word table room : List ℕ) → Answer → List ℕ → Type 0
Levels word table room = Answers (levels_grounds word table (length room))
    (level_sheet (cells_of table) (entries_of table) root_base word) (word_looks (cells_of table) root_base word) room

-- Its part behind all judgements, over a table's cells and entries.
abbrev pub LevelsFound : (cells entries : List ℕ) (root : ℕ) (word : List ℕ) → Found → List ℕ → Type 0
LevelsFound cells entries root word = Filled (level_sheet cells entries root word) (word_looks cells root word)

-- The hyphenating call's sheet and count over a table.
abbrev pub breaks_sheet : ℕ → ℕ → List ℕ → List ℕ → List ℕ → List ℕ → List ℕ
breaks_sheet left right word customer house table = break_sheet left right customer house (cells_of table) (entries_of table) root_base word

abbrev pub breaks_looks : List ℕ → List ℕ → List ℕ → List ℕ → ℕ
breaks_looks word customer house table = break_looks customer house (cells_of table) root_base word

-- What the hyphenating call answers for a room of this size, and what it leaves in a room.
abbrev pub breaks_answer : ℕ → ℕ → List ℕ → List ℕ → List ℕ → List ℕ → ℕ → Answer
breaks_answer left right word customer house table size =
    answer (judge_hyphenate left right word customer house table size) (breaks_sheet left right word customer house table) (breaks_looks word customer house table)

abbrev pub breaks_room : ℕ → ℕ → List ℕ → List ℕ → List ℕ → List ℕ → List ℕ → List ℕ
breaks_room left right word customer house table room =
    room_after (judge_hyphenate left right word customer house table (length room)) (breaks_sheet left right word customer house table) room

-- The promise of the hyphenating call.
abbrev pub Breaks : (left right : ℕ) (word customer house table room : List ℕ) → Answer → List ℕ → Type 0
Breaks left right word customer house table room = Answers (hyphenate_grounds left right word customer house table (length room))
    (breaks_sheet left right word customer house table) (breaks_looks word customer house table) room

-- Its part behind all judgements, over a table's cells and entries.
abbrev pub BreaksFound : (left right : ℕ) (word customer house cells entries : List ℕ) (root : ℕ) → Found → List ℕ → Type 0
BreaksFound left right word customer house cells entries root =
    Filled (break_sheet left right customer house cells entries root word) (break_looks customer house cells root word)

-- The hyphenating call for a word alone: what it answers for a room of this size, and its promise.
abbrev pub word_answer : ℕ → ℕ → List ℕ → List ℕ → List ℕ → List ℕ → ℕ → Answer
word_answer left right word customer house table size =
    answer (judge_word_alone word size) (breaks_sheet left right word customer house table) (breaks_looks word customer house table)

abbrev pub WordBreaks : (left right : ℕ) (word customer house table room : List ℕ) → Answer → List ℕ → Type 0
WordBreaks left right word customer house table room = Answers (word_alone_grounds word (length room))
    (breaks_sheet left right word customer house table) (breaks_looks word customer house table) room
