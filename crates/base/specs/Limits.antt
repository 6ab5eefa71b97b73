-- Every limit of documents 01 and 02 and the size of the alphabet, each named once, with the words that set it.
-- src/lib.rt has the same numbers for the code; a promise that uses both fails to prove where they differ.
use Rattle.std.specs.Prelude.{ℕ, ◌+◌}

-- Word: "1 to 63 bytes". Exception line: "1 to 63 small letters".
abbrev pub word_limit : ℕ
word_limit = 63

-- Ground 5: "break or level room under 64 bytes". Bytes 0 to 63 of the room are written.
abbrev pub room_size : ℕ
room_size = 64

-- Levels: "put an edge before and after the word": the longest row.
abbrev pub row_limit : ℕ
row_limit = 65

-- "a level outside 1 to 9"
abbrev pub level_limit : ℕ
level_limit = 9

-- "Margins are numbers from 1 to 63".
abbrev pub margin_limit : ℕ
margin_limit = 63

-- Symbols: "a to z are 1 to 26. The word's edge, written ".", is 27."
abbrev pub letter_limit : ℕ
letter_limit = 26

abbrev pub edge : ℕ
edge = 27

-- CR 5: "An apostrophe (byte 39) .. is symbol 28".
abbrev pub apostrophe_symbol : ℕ
apostrophe_symbol = 28

-- How many symbols there are: 1 to this number. CR 5: the walk, checker and first fit "then read 28 symbols".
abbrev pub symbol_limit : ℕ
symbol_limit = 28

-- Pattern line: "1 to 16 symbols". Walk: "or 16 symbols have matched".
abbrev pub pattern_limit : ℕ
pattern_limit = 16

-- "Pattern text at most 32,768 bytes, each exception text at most 8,192."
abbrev pub pattern_text : ℕ
pattern_text = 32768

abbrev pub exception_text : ℕ
exception_text = 8192

-- "C is 1 to 8,192, E 0 to 2,048."
abbrev pub cell_limit : ℕ
cell_limit = 8192

abbrev pub entry_limit : ℕ
entry_limit = 2048

-- Ground 10: "pack room under 59,398 bytes", the length of the longest table.
abbrev pub pack_room : ℕ
pack_room = 59398

-- CR 2: "with 26 letter widths beside it"; CR 5: it "gets a 27th width", the apostrophe's.
abbrev pub width_count : ℕ
width_count = 27

-- CR 6: "a piece that takes the text past 1,048,576 bytes is refusal 21".
abbrev pub running_text : ℕ
running_text = 1048576

-- "The output room must have three bytes for each byte held or in the piece".
abbrev pub room_per_byte : ℕ
room_per_byte = 3

-- What is held at most: "exactly the unfinished word .., with an apostrophe right behind it".
abbrev pub held_limit : ℕ
held_limit = word_limit + 1

-- CR 4: words "are judged as before (5, 2, 4, 3)", and the 1980 machine keeps these two where the word limit and the room size move.
abbrev pub word_limit1980 : ℕ
word_limit1980 = 63

abbrev pub room_size1980 : ℕ
room_size1980 = 64

-- "those of 1 to 4 letters have no break and execute nothing"
abbrev pub short_word1980 : ℕ
short_word1980 = 4

-- "A call gets a budget of 20,000 instructions".
abbrev pub budget1980 : ℕ
budget1980 = 20000

-- Ground 6: "list (1 customer, 2 house)".
abbrev pub customer_list : ℕ
customer_list = 1

abbrev pub house_list : ℕ
house_list = 2
