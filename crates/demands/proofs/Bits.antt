-- The C interface loses nothing: what the header's accessors read of a returned number is what the call answers.
use Prim.Native.Nat.{ℕ, zero, suc, ◌+◌, ◌*◌, ◌-◌, ◌≤◌, ◌<◌}
use mathlib.Core.Bool.{Bool, true, false, cond, not, ◌&&◌, ◌||◌}
use mathlib.Core.List.{List, [], ◌∷◌}
use mathlib.Core.Path.{◌≡◌, refl, sym, ◌∙◌}
use native.Mathlib.Omega.{arith}
use borrow.Author.Tests.{ltb-false, leb-true, eqb-true, not-false}
use lib.Dec.{ltb, leb, eqb}
use lib.Ieee.{Float}
use lib.ListN.{length, get_or}
use Rattle.base.specs.Limits.{word_limit, room_size, pattern_limit, pattern_text, exception_text, customer_list, house_list, cell_limit, entry_limit, pack_room, word_limit1980, room_size1980, budget1980}
use Rattle.base.specs.Grounds.{told, Said, Finds, Refuses, first, refuse_if, first_of, Check}
use Rattle.std.specs.Prelude.{Ok, Err}
use Rattle.base.specs.declared.Ground.{Ground}
use Rattle.base.specs.declared.Ground.TheVariants.{Margin, WordEmpty, NotLetter, WordLong, RoomShort, BadException, BadPattern, TextLong, TableForm, PackRoomShort, NoFit, NotRight, BadWidth, TextRoomShort, RunningLong}
use Rattle.base.proofs.Grounds.{Ordered, both_fine, not_refused, said_found, said_refused_lem}
use Rattle.base.proofs.Lists.{clash, both}
use Rattle.rooms.specs.Rooms.{is_short, sheet, nonzero, bit}
use Rattle.rooms.proofs.Sheets.{sheet_length}
use Rattle.rooms.proofs.Laws.{nonzero_few}
use Rattle.words.specs.Symbols.{letter, symbols_of}
use Rattle.words.specs.Words.{Rule, letters_alone, with_apostrophes, all_fit, judge_length, judge_by, judge_word}
use Rattle.lines.specs.Lines.{cut}
use Rattle.lines.specs.Order.{before}
use Rattle.lists.specs.declared.Form.{Form}
use Rattle.lists.specs.declared.Form.TheVariants.{Patterns, Exceptions}
use Rattle.lists.specs.Lists.{Lines, good_line, first_bad, judge_lines, judge_size, bad_pattern, bad_exception, judge_patterns, judge_lists}
use Rattle.lookup.specs.declared.Located.{Located}
use Rattle.lookup.specs.declared.Located.TheVariants.{Customer, House, Nowhere}
use Rattle.lookup.specs.Lookup.{judge_lookup, locate}
use Rattle.lookup.proofs.Laws.{total, total_cut, located_customer, located_house, locate_refused}
use Rattle.liang.specs.Breaks.{bad_margin}
use Rattle.liang.specs.Patterns.{patterns_of}
use Rattle.table.specs.Table.{root_base, head_size, head_kind, edition, cell_size, entry_size, cell_count, entry_count, formed, judge_table, cells_of, entries_of}
use Rattle.rightness.specs.Test.{right_for, judge_check}
use Rattle.hyphenation.specs.Levels.{level_sheet, word_looks}
use Rattle.hyphenation.specs.Breaks.{break_sheet}
use Rattle.hyphenation.specs.Calls.{judge_room, judge_margins, judge_levels, judge_hyphenate, answer, levels_answer, breaks_sheet, breaks_looks, breaks_answer, Answer}
use Rattle.words.proofs.Laws.{word_fits, letters_fit}
use Rattle.hyphenation.proofs.Calls.{levels_sizes, breaks_sizes}
use Rattle.hyphenation.proofs.Theorems.{word_few, breaks_few}
use Rattle.fit.specs.Table.{Fit, NoRoom, Packed, first_fit}
use Rattle.gauge.specs.Widths.{any_bad}
use Rattle.gauge.specs.Fit.{whole_found, break_fits, whole_fits, last_of, break_or_none, fit_values, given, fit_grounds, fit_answer, judge_fit}
use Rattle.gauge.specs.declared.Gauge.{Gauge}
use Rattle.gauge.proofs.Laws.{fit_judged}
use Rattle.gauge.proofs.Order.{fit_ordered}
use Rattle.gauge.proofs.Theorems.{last_at_most}
use Rattle.machine1980.specs.Run.{Outcome, RanOut, Marked, machine}
use Rattle.machine1980.specs.Breaks as reprint
use Rattle.machine1980.specs.Calls.{grounds1980, values_of, answer1980, judge1980}
use Rattle.machine1980.proofs.Order.{ordered_1980, judged_fine}
use Rattle.machine1980.proofs.Budgets.{most_executed, Within, within}
use Rattle.states.specs.State.{read_state}
use Rattle.states.specs.Bytes.{state_size, of_bytes}
use Rattle.states.proofs.Theorems.{read_left_state}
use Rattle.states.proofs.Bytes.{bytes_wide}
use Rattle.flowing.specs.Output.{piece_text, piece_looks, end_text, end_looks}
use Rattle.running.specs.Calls.{passes_end, short_for, judge_setting, judge_piece, judge_end, held_now, total_now, text_answer, judged_piece, piece_answer, judged_end, end_answer, TextAnswer}
use Rattle.running.proofs.Theorems.{answered_short}
use Rattle.running.proofs.Sizes.{piece_fits, end_fits, piece_count, end_count}
use Rattle.packer.specs.Pack.{Packing, judge_pack, packing, pack_answer}
use Rattle.tteolmigu.specs.Bits.{refusal_bits, line_bits, answer_bits, packing_bits, check_bits, located_bits, fit_bits, bits1980, text_bits, text_length_in, number_in, list_in, place_in, marks_in, looks_in, size_in, offset_in, length_in, outcome_in, gap_in, ran_out_in, breaks_in, executed_in}
use Rattle.tteolmigu.proofs.Read.{told_number, told_list, told_place, found_number, found_marks, found_looks, size_number, size_size, line_number, line_list, line_offset, line_length_lem, fitting_number, fitting_outcome, fitting_gap, reprint_number, reprint_ran_out, reprint_breaks, reprint_executed, written_number, written_length, written_looks}
use Rattle.demands.proofs.Packed.{judged_patterns, fit_accepted}

-- What is read of a refusal's bits.
pub record ReadsRefusal (g : Ground) (bits : ℕ) : Type 0 where
  pub number : number_in bits ≡ (told g).number
  pub list : list_in bits ≡ (told g).list
  pub place : place_in bits ≡ (told g).place

-- A ground whose list and place fit into their bits.
pub record Small (g : Ground) : Type 0 where
  pub list : (told g).list < 256
  pub place : (told g).place < 281474976710656

SmallCheck : Check → Type 0
SmallCheck (Ok _) = Unit {0}
SmallCheck (Err g) = Small g

number_small : (g : Ground) → (told g).number < 256
number_small Margin = omega arith
number_small WordEmpty = omega arith
number_small (NotLetter at) = omega arith
number_small WordLong = omega arith
number_small RoomShort = omega arith
number_small (BadException list offset) = omega arith
number_small (BadPattern offset) = omega arith
number_small TextLong = omega arith
number_small TableForm = omega arith
number_small PackRoomShort = omega arith
number_small NoFit = omega arith
number_small NotRight = omega arith
number_small BadWidth = omega arith
number_small TextRoomShort = omega arith
number_small RunningLong = omega arith

reads_refusal : (g : Ground) → Small g → ReadsRefusal g (refusal_bits g)
reads_refusal g s =
    record {
      number = told_number (told g).number (told g).list (told g).place (number_small g) s.list s.place;
      list = told_list (told g).number (told g).list (told g).place (number_small g) s.list s.place;
      place = told_place (told g).number (told g).list (told g).place (number_small g) s.list s.place;
    }

-- judgements in order, and one that is made only where a test fails
small_first : (a b : Check) → SmallCheck a → SmallCheck b → SmallCheck (first a b)
unfolding SmallCheck
small_first (Ok _) b p q = q
small_first (Err g) b p q = p

small_both : (a b c : Check) → SmallCheck a → SmallCheck (first b c) → SmallCheck (first (first a b) c)
unfolding SmallCheck
small_both (Ok _) b c p q = q
small_both (Err g) b c p q = p

small_if : (test : Bool) (g : Ground) → Small g → SmallCheck (refuse_if test g)
unfolding SmallCheck
small_if true g s = s
small_if false g s = tt

small_unless : (test : Bool) (g : Ground) (rest : Check) → Small g → (test ≡ false → SmallCheck rest) → SmallCheck (first (refuse_if test g) rest)
unfolding SmallCheck
small_unless true g rest s k = s
small_unless false g rest s k = k refl

small_either : (test : Bool) (a b : Check) → SmallCheck a → SmallCheck b → SmallCheck (cond test a b)
small_either true a b p q = p
small_either false a b p q = q

-- words
bytes_small : (rule : Rule) (at : ℕ) (after : Bool) (word : List ℕ) → at + length word < 281474976710656 → SmallCheck (all_fit rule at after word)
unfolding all_fit SmallCheck
bytes_small rule at after [] h = tt
bytes_small rule at after (b ∷ word) h =
    small_either (rule after b word) (all_fit rule (at + 1) (letter b) word) (Err (NotLetter at)) (bytes_small rule (at + 1) (letter b) word (omega arith))
    (record { list = omega arith; place = omega arith })

word_small : (rule : Rule) (limit : ℕ) → limit < 281474976710656 → (word : List ℕ) → SmallCheck (judge_by rule limit word)
unfolding judge_by judge_length
word_small rule limit k word =
    small_both (refuse_if (eqb (length word) 0) WordEmpty) _ _ (small_if (eqb (length word) 0) WordEmpty (record { list = omega arith; place = omega arith }))
    (small_unless (ltb limit (length word)) WordLong (all_fit rule 0 false word) (record { list = omega arith; place = omega arith })
    λ z. bytes_small rule 0 false word (omega (arith, ltb-false limit (length word) z)))

-- lists
SmallLines : Lines → Type 0
SmallLines (Ok _) = Unit {0}
SmallLines (Err offset) = offset < 281474976710656

lines_either : (test : Bool) (a b : Lines) → SmallLines a → SmallLines b → SmallLines (cond test a b)
lines_either true a b p q = p
lines_either false a b p q = q

lines_small : (form : Form) (at : ℕ) (above : List ℕ) (ls : List (List ℕ)) → at + total ls < 281474976710656 → SmallLines (first_bad form at above ls)
unfolding first_bad total SmallLines
lines_small form at above [] h = tt
lines_small form at above (line ∷ rest) h =
    lines_either (good_line form line && before (symbols_of above) (symbols_of line)) (first_bad form (at + length line) line rest) (Err at)
    (lines_small form (at + length line) line rest (omega arith)) (omega arith)

text_small : (form : Form) (limit : ℕ) (text : List ℕ) → limit < 281474976710656 → length text ≤ limit → SmallLines (judge_lines form text)
unfolding judge_lines
text_small form limit text k h = lines_small form 0 [] (cut text) (omega (arith, total_cut text))

pattern_small : (lines : Lines) → SmallLines lines → SmallCheck (bad_pattern lines)
unfolding SmallLines SmallCheck
pattern_small (Ok _) h = tt
pattern_small (Err offset) h = record { list = omega arith; place = h }

exception_small : (list : ℕ) → list < 256 → (lines : Lines) → SmallLines lines → SmallCheck (bad_exception list lines)
unfolding SmallLines SmallCheck
exception_small list l (Ok _) h = tt
exception_small list l (Err offset) h = record { list = l; place = h }

plain : (g : Ground) → (told g).list ≡ 0 → (told g).place ≡ 0 → Small g
plain g l p = record { list = omega (arith, l); place = omega (arith, p) }

patterns_small : (text : List ℕ) → SmallCheck (judge_patterns text)
unfolding judge_patterns judge_size
patterns_small text =
    small_unless (ltb pattern_text (length text)) TextLong _ (plain TextLong refl refl)
    λ z. pattern_small (judge_lines Patterns text) (text_small Patterns pattern_text text (omega arith) (ltb-false pattern_text (length text) z))

lists_small : (customer house : List ℕ) → SmallCheck (judge_lists customer house)
unfolding judge_lists judge_size
lists_small customer house =
    small_unless (ltb exception_text (length customer)) TextLong _ (plain TextLong refl refl) λ c.
    small_unless (ltb exception_text (length house)) TextLong _ (plain TextLong refl refl) λ h.
    small_first (bad_exception customer_list (judge_lines Exceptions customer)) _
    (exception_small customer_list (omega arith) (judge_lines Exceptions customer) (text_small Exceptions exception_text customer (omega arith) (ltb-false exception_text (length customer) c)))
    (exception_small house_list (omega arith) (judge_lines Exceptions house) (text_small Exceptions exception_text house (omega arith) (ltb-false exception_text (length house) h)))

-- the calls' judgements
table_small : (table : List ℕ) → SmallCheck (judge_table table)
unfolding judge_table
table_small table = small_if (not (formed table)) TableForm (plain TableForm refl refl)

room_small : (size : ℕ) → SmallCheck (judge_room size)
unfolding judge_room
room_small size = small_if (is_short room_size size) RoomShort (plain RoomShort refl refl)

margins_small : (left right : ℕ) → SmallCheck (judge_margins left right)
unfolding judge_margins
margins_small left right = small_if (bad_margin left || bad_margin right) Margin (plain Margin refl refl)

levels_small : (word table : List ℕ) (size : ℕ) → SmallCheck (judge_levels word table size)
unfolding judge_levels
levels_small word table size = small_first (judge_room size) _ (room_small size) (small_first (judge_word word_limit word) (judge_table table) (word_small with_apostrophes word_limit (omega arith) word) (table_small table))

hyphenate_small : (left right : ℕ) (word customer house table : List ℕ) (size : ℕ) → SmallCheck (judge_hyphenate left right word customer house table size)
unfolding judge_hyphenate
hyphenate_small left right word customer house table size =
    small_first (judge_margins left right) _ (margins_small left right)
    (small_first (judge_room size) _ (room_small size)
    (small_first (judge_word word_limit word) _ (word_small with_apostrophes word_limit (omega arith) word)
    (small_first (judge_lists customer house) (judge_table table) (lists_small customer house) (table_small table))))

check_small : (text table : List ℕ) → SmallCheck (judge_check text table)
unfolding judge_check
check_small text table =
    small_first (judge_patterns text) _ (patterns_small text)
    (small_first (judge_table table) _ (table_small table)
    (small_if (not (right_for text table)) NotRight (plain NotRight refl refl)))

pack_small : (text : List ℕ) (size : ℕ) → SmallCheck (judge_pack text size)
unfolding judge_pack
pack_small text size =
    small_first (refuse_if (is_short pack_room size) PackRoomShort) (judge_patterns text) (small_if (is_short pack_room size) PackRoomShort (plain PackRoomShort refl refl)) (patterns_small text)

-- What is read of an answer's bits.
pub ReadsAnswer : Answer → ℕ → Type 0
ReadsAnswer (Ok f) bits = (number_in bits ≡ 0) × (marks_in bits ≡ f.marks) × (looks_in bits ≡ f.looks)
ReadsAnswer (Err g) bits = ReadsRefusal g bits

-- an answer by its judgement, where the finding's two numbers fit
reads_answer : (judged : Check) (bytes : List ℕ) (looks : ℕ) → SmallCheck judged → length bytes ≡ room_size → (judged ≡ Ok tt → looks < 4294967296)
    → ReadsAnswer (answer judged bytes looks) (answer_bits (answer judged bytes looks))
unfolding SmallCheck ReadsAnswer
reads_answer (Ok tt) bytes looks s n k =
    let m : nonzero bytes < 65536 = omega (arith, nonzero_few bytes, n) in
    (found_number (nonzero bytes) looks m (k refl), found_marks (nonzero bytes) looks m (k refl), found_looks (nonzero bytes) looks m (k refl))
reads_answer (Err g) bytes looks s n k = reads_refusal g s

-- a judged word's looks are few
module _ (word : List ℕ) (h : length word ≤ word_limit) where
  few : {looks : ℕ} → looks ≤ pattern_limit * (length word + 2) → looks < 4294967296
  few k = omega arith

-- The levels call's bits say what it answers.
pub levels_bits : (word table : List ℕ) (size : ℕ) → ReadsAnswer (levels_answer word table size) (answer_bits (levels_answer word table size))
unfolding level_sheet sheet
levels_bits word table size =
    reads_answer (judge_levels word table size) (level_sheet (cells_of table) (entries_of table) root_base word) (word_looks (cells_of table) root_base word)
    (levels_small word table size) (sheet_length _ 0 room_size)
    λ e. few word (word_fits word_limit word (levels_sizes word table size refl e).0) (word_few (cells_of table) root_base word)

-- The hyphenating call's bits say what it answers.
pub hyphenate_bits : (left right : ℕ) (word customer house table : List ℕ) (size : ℕ)
    → ReadsAnswer (breaks_answer left right word customer house table size) (answer_bits (breaks_answer left right word customer house table size))
unfolding break_sheet sheet
hyphenate_bits left right word customer house table size =
    reads_answer (judge_hyphenate left right word customer house table size) (breaks_sheet left right word customer house table) (breaks_looks word customer house table)
    (hyphenate_small left right word customer house table size) (sheet_length _ 0 room_size)
    λ e. few word (word_fits word_limit word (breaks_sizes left right word customer house table size refl e).0) (breaks_few customer house (cells_of table) root_base word)

-- The checker's bits say what it answers: all zero, or the refusal.
pub ReadsCheck : Check → ℕ → Type 0
ReadsCheck (Ok _) bits = bits ≡ 0
ReadsCheck (Err g) bits = ReadsRefusal g bits

pub check_bits_lem : (text table : List ℕ) → ReadsCheck (judge_check text table) (check_bits (judge_check text table))
unfolding SmallCheck ReadsCheck
check_bits_lem text table = go (judge_check text table) (check_small text table)
  where
    go : (c : Check) → SmallCheck c → ReadsCheck c (check_bits c)
    go (Ok _) s = refl
    go (Err g) s = reads_refusal g s

-- a table that passes ground 9 is short
formed_short : (table : List ℕ) → formed table ≡ true → length table ≤ pack_room
unfolding formed
formed_short table e =
    let a = both (leb head_size (length table)) _ e in
    let b = both (eqb (get_or table 0 0) head_kind) _ a.1 in
    let c = both (eqb (get_or table 1 0) edition) _ b.1 in
    let d = both (leb 1 (cell_count table)) _ c.1 in
    let f = both (leb (cell_count table) cell_limit) _ d.1 in
    let g = both (leb (entry_count table) entry_limit) _ f.1 in
    omega (
      arith,
      leb-true (cell_count table) cell_limit f.0,
      leb-true (entry_count table) entry_limit g.0,
      eqb-true (length table) (head_size + cell_size * cell_count table + entry_size * entry_count table) g.1,
    )

accepted_short : (text table : List ℕ) → judge_check text table ≡ Ok tt → length table ≤ pack_room
unfolding judge_check judge_table
accepted_short text table e =
    let a = both_fine (judge_patterns text) _ e in
    let b = both_fine (refuse_if (not (formed table)) TableForm) _ a.1 in
    formed_short table (not-false (formed table) (not_refused (not (formed table)) TableForm b.0))

-- The packer's bits say what it answers.
pub ReadsPacking : Packing → ℕ → Type 0
ReadsPacking (Ok size) bits = (number_in bits ≡ 0) × (size_in bits ≡ size)
ReadsPacking (Err g) bits = ReadsRefusal g bits

pub pack_bits : (text : List ℕ) (size : ℕ) → ReadsPacking (pack_answer text size) (packing_bits (pack_answer text size))
unfolding SmallCheck ReadsPacking
pack_bits text size = go (judge_pack text size) refl (pack_small text size) (first_fit (patterns_of text)) refl
  where
    go : (v : Check) → judge_pack text size ≡ v → SmallCheck v → (fit : Fit) → first_fit (patterns_of text) ≡ fit → ReadsPacking (packing v fit) (packing_bits (packing v fit))
    go (Err g) j s fit f = reads_refusal g s
    go (Ok _) j s NoRoom f = reads_refusal NoFit (plain NoFit refl refl)
    go (Ok tt) j s (Packed table) f =
        let n = accepted_short text table (fit_accepted text table (judged_patterns text size j) f) in
        (size_number (length table) (omega (arith, n)), size_size (length table) (omega (arith, n)))

-- two answers of the lookup told apart
nowhere_customer : {start end : ℕ} → Customer start end ≡ Nowhere → ⊥
nowhere_customer e = clash cc

nowhere_house : {start end : ℕ} → House start end ≡ Nowhere → ⊥
nowhere_house e = clash cc

-- The lookup's bits say where the line is: no list where there is none.
pub ReadsLine : ℕ → ℕ → ℕ → ℕ → Type 0
ReadsLine list start end bits = (number_in bits ≡ 0) × (list_in bits ≡ list) × (offset_in bits ≡ start) × (length_in bits ≡ end - start)

pub ReadsLocated : Located → ℕ → Type 0
ReadsLocated (Customer start end) bits = ReadsLine customer_list start end bits
ReadsLocated (House start end) bits = ReadsLine house_list start end bits
ReadsLocated Nowhere bits = bits ≡ 0

-- a line that is found lies in a text within its limit
lists_short : (word customer house : List ℕ) → judge_lookup word customer house ≡ Ok tt → (length customer ≤ exception_text) × (length house ≤ exception_text)
unfolding judge_lookup judge_lists judge_size
lists_short word customer house e =
    let a = both_fine (judge_word word_limit word) _ e in
    let b = both_fine (refuse_if (ltb exception_text (length customer)) TextLong) _ a.1 in
    let c = both_fine (refuse_if (ltb exception_text (length house)) TextLong) _ b.1 in (
      ltb-false exception_text (length customer) (not_refused (ltb exception_text (length customer)) TextLong b.0),
      ltb-false exception_text (length house) (not_refused (ltb exception_text (length house)) TextLong c.0),
    )

reads_line : (list start end : ℕ) → list < 256 → end ≤ exception_text → start ≤ end → ReadsLine list start end (line_bits list start end)
unfolding ReadsLine
reads_line list start end l e s = (
  line_number list start end l (omega arith) (omega arith),
  line_list list start end l (omega arith) (omega arith),
  line_offset list start end l (omega arith) (omega arith),
  line_length_lem list start end l (omega arith) (omega arith),
)

pub lookup_bits : (word customer house : List ℕ) → ReadsLocated (locate word customer house) (located_bits (locate word customer house))
unfolding ReadsLocated
lookup_bits word customer house = go (judge_lookup word customer house) refl (locate word customer house) refl
  where
    go : (v : Check) → judge_lookup word customer house ≡ v → (at : Located) → locate word customer house ≡ at → ReadsLocated at (located_bits at)
    go v j Nowhere l = refl
    go (Ok tt) j (Customer start end) l =
        let w = located_customer word customer house l in
        reads_line customer_list start end (omega arith) (omega (arith, w.ends, (lists_short word customer house j).0)) w.starts
    go (Ok tt) j (House start end) l =
        let w = located_house word customer house l in
        reads_line house_list start end (omega arith) (omega (arith, w.ends, (lists_short word customer house j).1)) w.starts
    go (Err g) j (Customer start end) l = absurd (nowhere_customer (sym (locate_refused word customer house (sym j) refl ∙ l)))
    go (Err g) j (House start end) l = absurd (nowhere_house (sym (locate_refused word customer house (sym j) refl ∙ l)))

-- The fitting call's bits say what it answers: what came out and the gap, or the refusal.
pub ReadsFit : Said → ℕ → Type 0
ReadsFit (Finds values) bits = (number_in bits ≡ 0) × (outcome_in bits ≡ get_or values 0 0) × (gap_in bits ≡ get_or values 1 0)
ReadsFit (Refuses t) bits = (number_in bits ≡ t.number) × (list_in bits ≡ t.list) × (place_in bits ≡ t.place)

fit_small : (g : Gauge) (widths : List Float) (word : List ℕ) (size : ℕ) → SmallCheck (judge_fit g widths word size)
unfolding judge_fit
fit_small g widths word size =
    small_first (refuse_if (ltb size room_size) RoomShort) _ (small_if (ltb size room_size) RoomShort (plain RoomShort refl refl))
    (small_first (judge_word word_limit word) _ (word_small with_apostrophes word_limit (omega arith) word)
    (small_if (any_bad (given g widths)) BadWidth (plain BadWidth refl refl)))

-- a finding's two numbers fit: the gap isn't past the last
values_small : (z : Bool) (k : ℕ) → k < 4294967296 → ReadsFit (Finds (cond z whole_found (break_or_none k))) (fit_bits (Finds (cond z whole_found (break_or_none k))))
unfolding ReadsFit
values_small true k h = (fitting_number 1 0 (omega arith) (omega arith), fitting_outcome 1 0 (omega arith) (omega arith), fitting_gap 1 0 (omega arith) (omega arith))
values_small false zero h = (fitting_number 3 0 (omega arith) (omega arith), fitting_outcome 3 0 (omega arith) (omega arith), fitting_gap 3 0 (omega arith) (omega arith))
values_small false (suc k) h = (fitting_number 2 (suc k) (omega arith) h, fitting_outcome 2 (suc k) (omega arith) h, fitting_gap 2 (suc k) (omega arith) h)

pub fit_bits_lem : (g : Gauge) (widths : List Float) (word room : List ℕ) → ReadsFit (fit_answer g widths word room) (fit_bits (fit_answer g widths word room))
unfolding fit_answer SmallCheck fit_values ReadsFit
fit_bits_lem g widths word room = go (judge_fit g widths word (length room)) refl (fit_small g widths word (length room)) (fit_ordered g widths word (length room))
  where
    read : {said : Said} → first_of (Finds (fit_values g widths word room)) (fit_grounds g widths word (length room)) ≡ said → ReadsFit said (fit_bits said)
        → ReadsFit (first_of (Finds (fit_values g widths word room)) (fit_grounds g widths word (length room))) (fit_bits (first_of (Finds (fit_values g widths word room)) (fit_grounds g widths word (length room))))
    read e r = rw e r

    go : (c : Check) → judge_fit g widths word (length room) ≡ c → SmallCheck c → Ordered c (fit_grounds g widths word (length room))
        → ReadsFit (first_of (Finds (fit_values g widths word room)) (fit_grounds g widths word (length room))) (fit_bits (first_of (Finds (fit_values g widths word room)) (fit_grounds g widths word (length room))))
    go (Ok tt) j s o =
        let n = word_fits word_limit word (fit_judged g widths word (length room) (sym j) refl).0 in
        read (said_found o (fit_values g widths word room))
        (values_small (whole_fits g widths word) (last_of (break_fits g widths word room) (length word - 1)) (omega (arith, n, last_at_most (break_fits g widths word room) (length word - 1))))
    go (Err x) j s o = let r = reads_refusal x s in read (said_refused_lem o (fit_values g widths word room)) (r.number, r.list, r.place)

-- The bits of CR 4's call say what it answers: whether it ran out, how many breaks and how many instructions, or the refusal.
pub Reads1980 : Said → ℕ → Type 0
Reads1980 (Finds values) bits = (number_in bits ≡ 0) × (ran_out_in bits ≡ get_or values 0 0) × (breaks_in bits ≡ get_or values 1 0) × (executed_in bits ≡ get_or values 2 0)
Reads1980 (Refuses t) bits = (number_in bits ≡ t.number) × (list_in bits ≡ t.list) × (place_in bits ≡ t.place)

small_1980 : (word : List ℕ) (size : ℕ) → SmallCheck (judge1980 word size)
unfolding judge1980
small_1980 word size =
    small_first (refuse_if (is_short room_size1980 size) RoomShort) _ (small_if (is_short room_size1980 size) RoomShort (plain RoomShort refl refl)) (word_small letters_alone word_limit1980 (omega arith) word)

breaks_fit : (n finale : ℕ) (marks : List ℕ) → nonzero (reprint.break_sheet n finale marks) < 65536
unfolding reprint.break_sheet sheet
breaks_fit n finale marks = omega (arith, nonzero_few (reprint.break_sheet n finale marks), sheet_length (λ g. bit (reprint.is_break n finale marks g)) 0 room_size1980)

outcome_reads : (n most : ℕ) (o : Outcome) → most < 4294967296 → Within most o → Reads1980 (Finds (values_of n o)) (bits1980 (Finds (values_of n o)))
unfolding values_of Reads1980
outcome_reads n most RanOut h w = absurd w
outcome_reads n most (Marked finale marks executed) h w =
    let b = breaks_fit n finale marks in
    let k : executed < 4294967296 = omega (arith, w) in
    let m = nonzero (reprint.break_sheet n finale marks) in
    (reprint_number 0 m executed (omega arith) b k, reprint_ran_out 0 m executed (omega arith) b k, reprint_breaks 0 m executed (omega arith) b k, reprint_executed 0 m executed (omega arith) b k)

pub bits_1980 : (word : List ℕ) (size : ℕ) → Reads1980 (answer1980 budget1980 word size) (bits1980 (answer1980 budget1980 word size))
unfolding answer1980 SmallCheck Reads1980
bits_1980 word size = go (judge1980 word size) refl (small_1980 word size) (ordered_1980 word size)
  where
    read : {said : Said} → first_of (Finds (values_of (length word) (machine budget1980 word))) (grounds1980 word size) ≡ said → Reads1980 said (bits1980 said)
        → Reads1980 (first_of (Finds (values_of (length word) (machine budget1980 word))) (grounds1980 word size)) (bits1980 (first_of (Finds (values_of (length word) (machine budget1980 word))) (grounds1980 word size)))
    read e r = rw e r

    go : (c : Check) → judge1980 word size ≡ c → SmallCheck c → Ordered c (grounds1980 word size)
        → Reads1980 (first_of (Finds (values_of (length word) (machine budget1980 word))) (grounds1980 word size)) (bits1980 (first_of (Finds (values_of (length word) (machine budget1980 word))) (grounds1980 word size)))
    go (Ok tt) j s o =
        let w = judged_fine word size j in
        let n = letters_fit word_limit1980 word w in
        read (said_found o (values_of (length word) (machine budget1980 word)))
        (outcome_reads (length word) (most_executed (length word)) (machine budget1980 word) (omega arith) (within word w budget1980 (omega arith)))
    go (Err x) j s o = let r = reads_refusal x s in read (said_refused_lem o (values_of (length word) (machine budget1980 word))) (r.number, r.list, r.place)

-- The bits of CR 6's calls say what they answer: the length of the text written and the count, or the refusal.
pub ReadsText : TextAnswer → ℕ → Type 0
ReadsText (Ok w) bits = (number_in bits ≡ 0) × (text_length_in bits ≡ w.length) × (looks_in bits ≡ w.looks)
ReadsText (Err g) bits = ReadsRefusal g bits

setting_small : (left right : ℕ) (customer house table : List ℕ) → SmallCheck (judge_setting left right customer house table)
unfolding judge_setting
setting_small left right customer house table =
    small_first (judge_margins left right) _ (margins_small left right) (small_first (judge_lists customer house) (judge_table table) (lists_small customer house) (table_small table))

piece_small : (left right : ℕ) (customer house table : List ℕ) (total held n size : ℕ) → SmallCheck (judge_piece left right customer house table total held n size)
unfolding judge_piece
piece_small left right customer house table total held n size =
    small_first (judge_setting left right customer house table) _ (setting_small left right customer house table)
    (small_first (refuse_if (passes_end total n) RunningLong) _ (small_if (passes_end total n) RunningLong (plain RunningLong refl refl))
    (small_if (short_for (held + n) size) TextRoomShort (plain TextRoomShort refl refl)))

end_small : (left right : ℕ) (customer house table : List ℕ) (held size : ℕ) → SmallCheck (judge_end left right customer house table held size)
unfolding judge_end
end_small left right customer house table held size =
    small_first (judge_setting left right customer house table) _ (setting_small left right customer house table) (small_if (short_for held size) TextRoomShort (plain TextRoomShort refl refl))

text_reads : (judged : Check) (text : List ℕ) (looks : ℕ) → SmallCheck judged → (judged ≡ Ok tt → (length text < 16777216) × (looks < 4294967296))
    → ReadsText (text_answer judged text looks) (text_bits (text_answer judged text looks))
unfolding ReadsText SmallCheck
text_reads (Ok tt) text looks s f =
    let b = f refl in
    (written_number (length text) looks b.0 b.1, written_length (length text) looks b.0 b.1, written_looks (length text) looks b.0 b.1)
text_reads (Err g) text looks s f = reads_refusal g s

module _ (bytes : List ℕ) (wide : length bytes ≡ state_size) (left right : ℕ) (customer house table : List ℕ) where
  pub piece_bits : (piece : List ℕ) (size : ℕ)
      → ReadsText (piece_answer (of_bytes bytes) left right customer house table piece size) (text_bits (piece_answer (of_bytes bytes) left right customer house table piece size))
  piece_bits piece size =
      let s = of_bytes bytes in
      let l = read_left_state (of_bytes bytes) (bytes_wide bytes wide) in
      text_reads (judged_piece s left right customer house table piece size) (piece_text left right customer house table (held_now s) piece) (piece_looks customer house table (held_now s) piece)
      (piece_small left right customer house table (total_now s) (read_state s).size (length piece) size)
      λ e.
      let n = answered_short left right customer house table s piece size e in
      (omega (arith, piece_fits left right customer house table (read_state s) l piece n), omega (arith, n, piece_count left right customer house table (read_state s) l piece))

  pub end_bits : (size : ℕ) → ReadsText (end_answer (of_bytes bytes) left right customer house table size) (text_bits (end_answer (of_bytes bytes) left right customer house table size))
  end_bits size =
      let s = of_bytes bytes in
      let l = read_left_state (of_bytes bytes) (bytes_wide bytes wide) in
      text_reads (judged_end s left right customer house table size) (end_text left right customer house table (held_now s)) (end_looks customer house table (held_now s))
      (end_small left right customer house table (read_state s).size size)
      λ e. (omega (arith, end_fits left right customer house table (read_state s) l), omega (arith, end_count left right customer house table (read_state s) l))
