-- How an answer stands in the 64 bits that a C function returns. include/tteolmigu.h says the same to a reader of C.
use Rattle.std.specs.Prelude.{ℕ, ◌+◌, ◌*◌, ◌-◌, ◌/◌, ◌%◌, ◌^◌, List, get_or, Ok, Err}
use Rattle.base.specs.Limits.{customer_list, house_list}
use Rattle.base.specs.Grounds.{told, Said, Finds, Refuses, Check}
use Rattle.base.specs.declared.Ground.{Ground}
use Rattle.lookup.specs.declared.Located.{Located}
use Rattle.lookup.specs.declared.Located.TheVariants.{Customer, House, Nowhere}
use Rattle.hyphenation.specs.Calls.{Answer}
use Rattle.states.specs.Bytes.{state_bytes}
use Rattle.states.specs.declared.TextState.{TextState}
use Rattle.running.specs.Calls.{TextAnswer}
use Rattle.packer.specs.Pack.{Packing}

-- A number, cut to its last `width` bits, as it stands from bit `low` on.
abbrev pub bits_at : ℕ → ℕ → ℕ → ℕ
bits_at low width n = n % 2 ^ width * 2 ^ low

-- Refusal: bits 56 to 63 the number, bits 48 to 55 the list (0 if none), bits 0 to 47 the place (0 if none).
abbrev pub told_bits : ℕ → ℕ → ℕ → ℕ
told_bits number list place = bits_at 56 8 number + bits_at 48 8 list + bits_at 0 48 place

abbrev pub refusal_bits : Ground → ℕ
refusal_bits g = told_bits (told g).number (told g).list (told g).place

-- Hyphenate and levels: bits 32 to 47 how many breaks or levels, bits 0 to 31 the count.
abbrev pub found_bits : ℕ → ℕ → ℕ
found_bits marks looks = bits_at 32 16 marks + bits_at 0 32 looks

-- Lookup: bits 48 to 55 the list that holds the line, bits 16 to 47 the line's offset, bits 0 to 15 its length.
abbrev pub line_bits : ℕ → ℕ → ℕ → ℕ
line_bits list start end = bits_at 48 8 list + bits_at 16 32 start + bits_at 0 16 (end - start)

abbrev pub answer_bits : Answer → ℕ
answer_bits (Ok f) = found_bits f.marks f.looks
answer_bits (Err g) = refusal_bits g

-- Pack: bits 0 to 47 the length.
abbrev pub packing_bits : Packing → ℕ
packing_bits (Ok size) = bits_at 0 48 size
packing_bits (Err g) = refusal_bits g

-- Check: all zero where the table is accepted.
abbrev pub check_bits : Check → ℕ
check_bits (Ok _) = 0
check_bits (Err g) = refusal_bits g

-- All zero where there is no line, and where the lookup's empty part stands for a refusal.
abbrev pub located_bits : Located → ℕ
located_bits (Customer start end) = line_bits customer_list start end
located_bits (House start end) = line_bits house_list start end
located_bits Nowhere = 0

-- Fit: bits 32 to 39 what came out, bits 0 to 31 the gap.
abbrev pub fitting_bits : ℕ → ℕ → ℕ
fitting_bits outcome gap = bits_at 32 8 outcome + bits_at 0 32 gap

abbrev pub fit_bits : Said → ℕ
fit_bits (Finds values) = fitting_bits (get_or values 0 0) (get_or values 1 0)
fit_bits (Refuses t) = told_bits t.number t.list t.place

-- CR 4's call: bit 48 set where it ran out, bits 32 to 47 how many breaks, bits 0 to 31 the instructions executed.
abbrev pub reprint_bits : ℕ → ℕ → ℕ → ℕ
reprint_bits outcome breaks executed = bits_at 48 1 outcome + bits_at 32 16 breaks + bits_at 0 32 executed

abbrev pub bits1980 : Said → ℕ
bits1980 (Finds values) = reprint_bits (get_or values 0 0) (get_or values 1 0) (get_or values 2 0)
bits1980 (Refuses t) = told_bits t.number t.list t.place

-- CR 6's calls: bits 32 to 55 the length of the text written, bits 0 to 31 the count.
abbrev pub written_bits : ℕ → ℕ → ℕ
written_bits length looks = bits_at 32 24 length + bits_at 0 32 looks

abbrev pub text_bits : TextAnswer → ℕ
text_bits (Ok w) = written_bits w.length w.looks
text_bits (Err g) = refusal_bits g

-- The state's bytes behind such a call: those of the state that it leaves; refused, "nothing is taken or written".
abbrev pub bytes_left : TextAnswer → List ℕ → TextState → List ℕ
bytes_left (Ok w) bytes then = state_bytes then
bytes_left (Err g) bytes then = bytes

-- What the header's accessors read of a returned number.
abbrev pub read_bits : ℕ → ℕ → ℕ → ℕ
read_bits low width bits = bits / 2 ^ low % 2 ^ width

abbrev pub number_in : ℕ → ℕ
number_in bits = read_bits 56 8 bits

abbrev pub list_in : ℕ → ℕ
list_in bits = read_bits 48 8 bits

abbrev pub place_in : ℕ → ℕ
place_in bits = read_bits 0 48 bits

abbrev pub marks_in : ℕ → ℕ
marks_in bits = read_bits 32 16 bits

abbrev pub looks_in : ℕ → ℕ
looks_in bits = read_bits 0 32 bits

abbrev pub size_in : ℕ → ℕ
size_in bits = read_bits 0 48 bits

abbrev pub offset_in : ℕ → ℕ
offset_in bits = read_bits 16 32 bits

abbrev pub text_length_in : ℕ → ℕ
text_length_in bits = read_bits 32 24 bits

abbrev pub length_in : ℕ → ℕ
length_in bits = read_bits 0 16 bits

abbrev pub outcome_in : ℕ → ℕ
outcome_in bits = read_bits 32 8 bits

abbrev pub gap_in : ℕ → ℕ
gap_in bits = read_bits 0 32 bits

abbrev pub ran_out_in : ℕ → ℕ
ran_out_in bits = read_bits 48 1 bits

abbrev pub breaks_in : ℕ → ℕ
breaks_in bits = read_bits 32 16 bits

abbrev pub executed_in : ℕ → ℕ
executed_in bits = read_bits 0 32 bits
