-- The packer: its grounds in order, its answer, and what it leaves in the room.
use Rattle.std.specs.Prelude.{ℕ, Bool, true, false, cond, List, [], ◌∷◌, ◌++◌, ◌≡◌, eqb, length, Ok, Err, Result}
use Rattle.base.specs.Limits.{pack_room}
use Rattle.base.specs.Grounds.{told, Said, Finds, Refuses, Row, on, first_of, first, refuse_if, Check}
use Rattle.base.specs.declared.Ground.{Ground}
use Rattle.base.specs.declared.Ground.TheVariants.{PackRoomShort, NoFit}
use Rattle.rooms.specs.Rooms.{is_short, filled}
use Rattle.lists.specs.Lists.{pattern_grounds, judge_patterns}
use Rattle.liang.specs.Patterns.{patterns_of}
use Rattle.fit.specs.Table.{Fit, NoRoom, Packed, first_fit}

-- Ground 11: "first fit needs C over 8,192 or E over 2,048".
abbrev pub has_no_room : Fit → Bool
has_no_room NoRoom = true
has_no_room (Packed table) = false

-- "packer 10, 8, 7, 11"
unfoldable pub pack_grounds : List ℕ → ℕ → List Row
pack_grounds text size = on 10 (is_short pack_room size) ∷ (pattern_grounds text ++ (on 11 (has_no_room (first_fit (patterns_of text))) ∷ []))

-- The bytes of a first-fit table; none where it has no room.
abbrev pub fit_bytes : Fit → List ℕ
fit_bytes NoRoom = []
fit_bytes (Packed table) = table

-- What the packer answers: the table's length, or why it refuses.
abbrev pub Packing : Type 0
Packing = Result ℕ Ground

-- What a packing says: "A packing tells its length".
unfoldable pub packing_said : Packing → Said
packing_said (Ok size) = Finds (size ∷ [])
packing_said (Err g) = Refuses (told g)

-- What the packer says by the order of its grounds, for a room of this size.
unfoldable pub pack_said : List ℕ → ℕ → Said
pack_said text size = first_of (Finds (length (fit_bytes (first_fit (patterns_of text))) ∷ [])) (pack_grounds text size)

-- "Refusals leave lent memory untouched, except 11, which sets the pack room's first 59,398 bytes to zero."
abbrev pub pack_left : Said → List ℕ → List ℕ → List ℕ
pack_left (Finds values) table room = filled pack_room table room
pack_left (Refuses t) table room = cond (eqb t.number 11) (filled pack_room [] room) room

-- The promise of the packer.
pub record Packs (text room : List ℕ) (r : Packing) (after : List ℕ) : Type 0 where
  pub answered : packing_said r ≡ pack_said text (length room)
  pub memory : after ≡ pack_left (pack_said text (length room)) (fit_bytes (first_fit (patterns_of text))) room

-- The same as it is computed: the grounds before the layout is made, one judgement after the other, and then what the layout
-- comes to.
unfoldable pub judge_pack : List ℕ → ℕ → Check
judge_pack text size = first (refuse_if (is_short pack_room size) PackRoomShort) (judge_patterns text)

abbrev pub packing : Check → Fit → Packing
packing (Err g) fit = Err g
packing (Ok _) NoRoom = Err NoFit
packing (Ok _) (Packed table) = Ok (length table)

abbrev pub packed_after : Check → Fit → List ℕ → List ℕ
packed_after (Err g) fit room = room
packed_after (Ok _) NoRoom room = filled pack_room [] room
packed_after (Ok _) (Packed table) room = filled pack_room table room

-- What the packer returns and leaves for a good text, in a room that is zero where a table may stand.
pub record Lays (text room : List ℕ) (r : Packing) (after : List ℕ) : Type 0 where
  pub answered : r ≡ packing (Ok tt) (first_fit (patterns_of text))
  pub memory : after ≡ packed_after (Ok tt) (first_fit (patterns_of text)) room

-- What the packer answers for a room of this size, and what it leaves in a room.
abbrev pub pack_answer : List ℕ → ℕ → Packing
pack_answer text size = packing (judge_pack text size) (first_fit (patterns_of text))

abbrev pub pack_leaves : List ℕ → List ℕ → List ℕ
pack_leaves text room = packed_after (judge_pack text (length room)) (first_fit (patterns_of text)) room

pub record Answered (text room : List ℕ) (r : Packing) (after : List ℕ) : Type 0 where
  pub answered : r ≡ pack_answer text (length room)
  pub memory : after ≡ pack_leaves text room
