-- The two calls: what their judgements ensure, and how their parts come to their promises.
use Prim.Native.Nat.{ℕ, ◌≤◌}
use mathlib.Core.List.{List, ◌++◌}
use mathlib.Core.Path.{◌≡◌, sym, ◌∙◌, ap}
use borrow.Author.Tests.{ltb-false}
use native.Mathlib.Omega.{arith}
use lib.ListN.{take, drop}
use lib.Seq.{take_all}
use Rattle.base.specs.Limits.{word_limit, room_size}
use Rattle.base.specs.Grounds.{Check}
use Rattle.std.specs.Prelude.{Ok, Err}
use Rattle.base.specs.declared.Ground.{Ground}
use Rattle.base.specs.declared.Ground.TheVariants.{RoomShort}
use Rattle.base.proofs.Grounds.{both_fine, not_refused}
use Rattle.rooms.specs.Rooms.{is_short, sheet, nonzero, written}
use Rattle.rooms.proofs.Sheets.{sheet_length}
use Rattle.words.specs.Words.{judge_word}
use Rattle.table.specs.Table.{root_base, judge_table, cells_of, entries_of}
use Rattle.hyphenation.specs.Levels.{level_sheet, word_looks}
use Rattle.hyphenation.specs.Breaks.{break_sheet, break_looks}
use Rattle.hyphenation.proofs.Rooms.{Done}
use Rattle.hyphenation.specs.Calls.{judge_room, judge_margins, judge_levels, judge_hyphenate, judge_word_alone, Answered, Filled, LevelsFound, breaks_sheet, breaks_looks, BreaksFound, Answer, found}
use Rattle.hyphenation.specs.declared.Found.{Found}

-- what a judged room is
pub room_fits : (size : ℕ) → judge_room size ≡ Ok tt → room_size ≤ size
unfolding judge_room
room_fits size e = ltb-false size room_size (not_refused (is_short room_size size) RoomShort e)

-- a sheet in the room whose marks are counted is what was found
counted : (f : ℕ → ℕ) {after : List ℕ} {count marks looks : ℕ} → Done (sheet room_size f) count looks after → marks ≡ nonzero (take room_size after)
    → Filled (sheet room_size f) count (record { marks = marks; looks = looks }) after
unfolding sheet
counted f d m =
    let all = take_all room_size (sheet room_size f) (omega (arith, sheet_length f 0 room_size)) in
    record { marked = m ∙ ap (λ (l : List ℕ). nonzero (take room_size l)) d.memory ∙ ap nonzero all; counted = d.counted; memory = d.memory }

pub levels_counted : (cells entries : List ℕ) (root : ℕ) (word : List ℕ) {after : List ℕ} {marks looks : ℕ}
    → Done (level_sheet cells entries root word) (word_looks cells root word) looks after → marks ≡ nonzero (take room_size after)
    → LevelsFound cells entries root word (record { marks = marks; looks = looks }) after
unfolding level_sheet
levels_counted cells entries root word d m = counted _ d m

pub breaks_counted : (left right : ℕ) (word customer house cells entries : List ℕ) (root : ℕ) {after : List ℕ} {marks looks : ℕ}
    → Done (break_sheet left right customer house cells entries root word) (break_looks customer house cells root word) looks after → marks ≡ nonzero (take room_size after)
    → BreaksFound left right word customer house cells entries root (record { marks = marks; looks = looks }) after
unfolding break_sheet
breaks_counted left right word customer house cells entries root d m = counted _ d m

-- equal findings have equal parts
parts : Answer → ℕ × ℕ
parts (Ok f) = (f.marks, f.looks)
parts (Err g) = (0, 0)

pub marks_once : {marks looks marks' looks' : ℕ} → found marks looks ≡ found marks' looks' → marks ≡ marks'
unfolding parts
marks_once e = ap (λ (r : Answer). (parts r).0) e

pub looks_once : {marks looks marks' looks' : ℕ} → found marks looks ≡ found marks' looks' → looks ≡ looks'
unfolding parts
looks_once e = ap (λ (r : Answer). (parts r).1) e

-- a refusal leaves the room alone, whatever the call
pub refused : (sheet : List ℕ) (looks : ℕ) (room : List ℕ) {judged judgement : Check} {g : Ground} {r : Answer} → judged ≡ judgement → judged ≡ Err g → r ≡ Err g
    → Answered judgement sheet looks room r room
refused sheet looks room p q e = record { answered = rw (e, ← p, q); memory = rw (← p, q) }

-- what is found in the first bytes of a room, behind a judgement that refuses nothing
answered : {judged judgement : Check} {sheet : List ℕ} {looks : ℕ} {f : Found} {part : List ℕ} (room : List ℕ) → judged ≡ judgement → judged ≡ Ok tt → Filled sheet looks f part
    → Answered judgement sheet looks room (Ok f) (part ++ drop room_size room)
unfolding written
answered room p q f = let j = sym p ∙ q in record { answered = rw (j, ← f.marked, ← f.counted); memory = rw (j, f.memory) }

pub levels_found : (word table room : List ℕ) {judged judgement : Check} {cells entries part : List ℕ} {root : ℕ} {f : Found} → judged ≡ judgement → judged ≡ Ok tt
    → (cells ≡ cells_of table) × (entries ≡ entries_of table) × (root ≡ root_base) → LevelsFound cells entries root word f part
    → Answered judgement (level_sheet (cells_of table) (entries_of table) root_base word) (word_looks (cells_of table) root_base word) room (Ok f) (part ++ drop room_size room)
levels_found word table room p q t f = answered room p q (rw (← t.0, ← t.1, ← t.2) f)

pub breaks_found : (left right : ℕ) (word customer house table room : List ℕ) {judged judgement : Check} {cells entries part : List ℕ} {root : ℕ} {f : Found} → judged ≡ judgement → judged ≡ Ok tt
    → (cells ≡ cells_of table) × (entries ≡ entries_of table) × (root ≡ root_base) → BreaksFound left right word customer house cells entries root f part
    → Answered judgement (breaks_sheet left right word customer house table) (breaks_looks word customer house table) room (Ok f) (part ++ drop room_size room)
breaks_found left right word customer house table room p q t f = answered room p q (rw (← t.0, ← t.1, ← t.2) f)

pub word_alone_sizes : (word : List ℕ) (size : ℕ) {judged : Check} → judged ≡ judge_word_alone word size → judged ≡ Ok tt → (judge_word word_limit word ≡ Ok tt) × (room_size ≤ size)
unfolding judge_word_alone
word_alone_sizes word size p q = let a = both_fine (judge_room size) (judge_word word_limit word) (sym p ∙ q) in (a.1, room_fits size a.0)

pub levels_sizes : (word table : List ℕ) (size : ℕ) {judged : Check} → judged ≡ judge_levels word table size → judged ≡ Ok tt → (judge_word word_limit word ≡ Ok tt) × (room_size ≤ size)
unfolding judge_levels
levels_sizes word table size p q =
    let a = both_fine (judge_room size) _ (sym p ∙ q) in
    let b = both_fine (judge_word word_limit word) (judge_table table) a.1 in
    (b.0, room_fits size a.0)

pub breaks_sizes : (left right : ℕ) (word customer house table : List ℕ) (size : ℕ) {judged : Check} → judged ≡ judge_hyphenate left right word customer house table size → judged ≡ Ok tt
    → (judge_word word_limit word ≡ Ok tt) × (room_size ≤ size)
unfolding judge_hyphenate
breaks_sizes left right word customer house table size p q =
    let a = both_fine (judge_margins left right) _ (sym p ∙ q) in
    let b = both_fine (judge_room size) _ a.1 in
    let c = both_fine (judge_word word_limit word) _ b.1 in
    (c.0, room_fits size b.0)
