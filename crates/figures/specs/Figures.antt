-- "Marked (p): proved from the written definitions as a single table under one statement."
use Rattle.std.specs.Prelude.{ℕ, zero, suc, ◌+◌, ◌*◌, ◌-◌, Bool, true, ◌&&◌, List, [], ◌∷◌, ◌++◌, map, ◌≡◌, refl, eqb, length, take, drop, Some, None}
use Rattle.base.specs.Limits.{room_size}
use Rattle.base.specs.Grounds.{Said, Finds, Refuses, first_of}
use Rattle.rooms.specs.Rooms.{sheet_from, sheet, nonzero, bit}
use Rattle.words.specs.Symbols.{small, capital, letter, lower, digit, symbol_of, symbols_of}
use Rattle.words.specs.Words.{starts_letter, is_between, with_apostrophes, leading, grounds_by, all_fit, judge_length, judge_by, word_symbols, row_of, inner}
use Rattle.lines.specs.Apostrophes.{letter_symbol, letter_next, apostrophes_fit}
use Rattle.lines.specs.Lines.{glue, cut, is_nil, starts_with, any_of, line_letter, pattern_form, pattern_bytes, good_pattern, exception_form, exception_bytes, good_exception}
use Rattle.lines.specs.Order.{before}
use Rattle.lists.specs.Lists.{good_line, first_bad, judge_lines, judge_size, judge_lists, pattern_grounds, list_grounds}
use Rattle.base.specs.Tests.{same_list, all_from, smallest}
use Rattle.lookup.specs.Find.{find_line, find, find_either}
use Rattle.lookup.specs.Lookup.{judge_lookup, locate, line_of}
use Rattle.liang.specs.Patterns.{levels_from, pattern_of, patterns_of}
use Rattle.liang.specs.Levels.{begins, level_here, level_of, highest, liang}
use Rattle.hyphenation.specs.Breaks.{is_break, break_sheet, break_looks}
use Rattle.liang.specs.Breaks.{hyphen_at, in_margins, odd, line_break, level_break, bad_margin}
use Rattle.table.specs.Table.{root_base, number_at, cell_count, entry_count, formed, table_grounds, cells_from, entries_from, cells_of, entries_of, look, entry_at, Look}
use Rattle.walk.specs.Chain.{setting, chain_step, chain_from, chain}
use Rattle.walk.specs.Walk.{set_step, set_from, look_step, looks_from, settings, looks}
use Rattle.walk.specs.Raise.{highest_set}
use Rattle.hyphenation.specs.Levels.{level_at, level_sheet, word_looks}
use Rattle.hyphenation.specs.Calls.{room_grounds, margin_grounds, levels_grounds, hyphenate_grounds, found_or, breaks_sheet, breaks_looks}
use Rattle.patterns.specs.Common.{common}
use Rattle.patterns.specs.Next.{next_in, opens}
use Rattle.trie.specs.Paths.{onward, along}
use Rattle.trie.specs.Sound.{sound_step, sound_from, sound}
use Rattle.rightness.specs.Test.{kinds_from, kinds_test, exact_test, child_at, none_between, passed_over, follow_step, follow, besides, patterns_right, right_test, check_grounds}
use Rattle.fit.specs.Cells.{put_number, is_free, serves, base_for, inside, put_cell, put_cells, cell_of, put_link, place_at, place, place_length, place_lengths, layout_of, used_from}
use Rattle.fit.specs.Entries.{holds, find_entry, put_entry, enter_at, enter, enter_levels, enter_pattern, put_output, output_of, outputs_of}
use Rattle.fit.specs.Table.{put_kinds, Fit, NoRoom, Packed, bytes_of, finish, fit_layout, first_fit}
use Rattle.layout.specs.Bases.{goes_on, has_base, used_by, uses_cell, fits_at, reach, least_base, next_base, paths_at, paths_from, longest_length, paths_of, place_all, bases_of, top_from, top_of, cells_needed}
use Rattle.layout.specs.Entries.{equal, first_equal, add_at, add_level, add_levels, add_pattern, add_patterns, entry_list, entries_needed, output_from, output_for}
use Rattle.table.specs.Records.{two_bytes, head_bytes, cell_bytes, entry_bytes}
use Rattle.layout.specs.Table.{link_to, path_cell, cell_among, numbered_cells, all_entries, layout_table}
use Rattle.writing.specs.Writing.{hyphenated}
use Rattle.runs.specs.Text.{Holding, Gone, GoneMarked, spread, shown, text_out, unfinished, held_of}
use Rattle.runs.specs.Held.{waits, bytes_of as held_bytes}
use Rattle.runs.specs.Reached.{is_word, can_be_held, is_reached}
use Rattle.states.specs.State.{run_of}
use Rattle.flowing.specs.Output.{break_sign, broken, sum, whole_text, whole_looks}
use Rattle.flowing.specs.Output as output
use Rattle.figures.specs.Samples.{bytes, line, nine, letters, empty_table}

-- An answer in numbers: 0 and its values for a finding, number, list and place for a refusal.
abbrev pub in_numbers : Said → List ℕ
in_numbers (Finds values) = 0 ∷ values
in_numbers (Refuses t) = t.number ∷ t.list ∷ t.place ∷ []

-- The numbers from k on, n of them.
unfoldable pub count : ℕ → ℕ → List ℕ
count k zero = []
count k (suc n) = k ∷ count (suc k) n

-- What the levels call says over a table, with a room of 64 bytes.
unfoldable pub levels_call : List ℕ → List ℕ → List ℕ
levels_call table word =
    in_numbers (found_or (levels_grounds word table room_size) (level_sheet (cells_of table) (entries_of table) root_base word) (word_looks (cells_of table) root_base word))

-- What the hyphenating call says over a table, with a room of 64 bytes, and its breaks by gap.
unfoldable pub hyphenate_call : ℕ → ℕ → List ℕ → List ℕ → List ℕ → List ℕ → List ℕ
hyphenate_call left right table customer house word =
    in_numbers (found_or (hyphenate_grounds left right word customer house table room_size) (breaks_sheet left right word customer house table) (breaks_looks word customer house table))
    ++ take (length word - 1) (drop 1 (breaks_sheet left right word customer house table))

-- What is said of a pattern text, and of a house list.
unfoldable pub patterns_call : List ℕ → List ℕ
patterns_call text = in_numbers (first_of (Finds []) (pattern_grounds text))

unfoldable pub exceptions_call : List ℕ → List ℕ
exceptions_call text = in_numbers (first_of (Finds []) (list_grounds [] text))

-- The line that the lookup shows.
unfoldable pub lookup_call : List ℕ → List ℕ → List ℕ → List ℕ
lookup_call customer house word = line_of customer house (locate word customer house)

-- The levels of a word's inner gaps.
unfoldable pub levels : List ℕ → List ℕ → List ℕ
levels patterns word = map (liang (patterns_of patterns) word) (count 1 (length word - 1))

-- The breaks of a word by gap, 1 where there is one.
unfoldable pub breaks : ℕ → ℕ → List ℕ → List ℕ → List ℕ → List ℕ → List ℕ
breaks left right patterns customer house word = map (λ i. bit (is_break left right customer house (liang (patterns_of patterns) word) word i)) (count 1 (length word - 1))

-- The first-fit table of a text; no bytes where there is none.
abbrev pub bytes_in : Fit → List ℕ
bytes_in NoRoom = []
bytes_in (Packed table) = table

unfoldable pub packed : List ℕ → List ℕ
packed text = bytes_in (first_fit (patterns_of text))

-- The base of a path, written with letters: the link of its last cell.
abbrev pub link_in : Look → ℕ
link_in None = 0
link_in (Some found) = found.link

unfoldable pub base_of : List ℕ → List ℕ → ℕ
base_of table path = link_in (along (cells_of table) root_base (word_symbols path))

-- Length, C and E of a table.
unfoldable pub sizes : List ℕ → List ℕ
sizes table = length table ∷ cell_count table ∷ entry_count table ∷ []

-- Length, C and E of a text's layout as document 01 says it, without regard to any limit.
unfoldable pub layout_sizes : List ℕ → List ℕ
layout_sizes text = length (layout_table (patterns_of text)) ∷ cells_needed (patterns_of text) ∷ entries_needed (patterns_of text) ∷ []

abbrev pub all_of : List Bool → Bool
all_of [] = true
all_of (b ∷ t) = b && all_of t

-- The table: a row for each figure.
unfoldable pub table : List Bool
table =
    let nine_table = packed nine in
    let apostrophe_table = packed (line "l'1e") in
    let nine_layout = bases_of (patterns_of nine) in
    let nine_paths : List (List ℕ) = bytes "h" ∷ bytes "i" ∷ bytes "n" ∷ bytes "o" ∷ bytes "t" ∷ bytes "he" ∷ bytes "hy" ∷ bytes "na" ∷ bytes "ti" ∷ bytes "hen" ∷ bytes "hyp" ∷ bytes "hena" ∷ [] in
    let nine_bases : List ℕ = 1 ∷ 2 ∷ 3 ∷ 4 ∷ 7 ∷ 5 ∷ 6 ∷ 8 ∷ 9 ∷ 10 ∷ 13 ∷ 11 ∷ [] in
    -- the nine patterns: "Good, ascending."
    same_list (patterns_call nine) (0 ∷ [])
    -- ""hyphenation": levels 0 3 0 0 2 5 4 2 0 2; margins 2, 3 give hy-phen-ation."
    ∷ same_list (levels nine (bytes "hyphenation")) (0 ∷ 3 ∷ 0 ∷ 0 ∷ 2 ∷ 5 ∷ 4 ∷ 2 ∷ 0 ∷ 2 ∷ [])
    ∷ same_list (breaks 2 3 nine [] [] (bytes "hyphenation")) (0 ∷ 1 ∷ 0 ∷ 0 ∷ 0 ∷ 1 ∷ 0 ∷ 0 ∷ 0 ∷ 0 ∷ [])
    -- ""on" has level 2, no break"
    ∷ same_list (levels nine (bytes "on")) (2 ∷ [])
    ∷ same_list (breaks 2 3 nine [] [] (bytes "on")) (0 ∷ [])
    -- "Its first-fit table: C 32, E 7, 233 bytes. Bases: h 1, i 2, n 3, o 4, t 7, he 5, hy 6, na 8, ti 9, hen 10, hyp 13, hena 11."
    ∷ same_list (sizes nine_table) (233 ∷ 32 ∷ 7 ∷ [])
    ∷ same_list (map (base_of nine_table) nine_paths) nine_bases
    -- The same from the layout as document 01 says it.
    ∷ same_list (layout_sizes nine) (233 ∷ 32 ∷ 7 ∷ [])
    ∷ same_list (map (λ path. link_to nine_layout (word_symbols path)) nine_paths) nine_bases
    -- "Its count is 27 (limit 208); "on" has level 2, no break, count 6." Over the table the calls find the same.
    ∷ same_list (hyphenate_call 2 3 nine_table [] [] (bytes "hyphenation")) (0 ∷ 2 ∷ 27 ∷ 0 ∷ 1 ∷ 0 ∷ 0 ∷ 0 ∷ 1 ∷ 0 ∷ 0 ∷ 0 ∷ 0 ∷ [])
    ∷ eqb (16 * (length (bytes "hyphenation") + 2)) 208
    ∷ same_list (levels_call nine_table (bytes "hyphenation")) (0 ∷ 6 ∷ 27 ∷ [])
    ∷ same_list (levels_call nine_table (bytes "on")) (0 ∷ 1 ∷ 6 ∷ [])
    ∷ same_list (hyphenate_call 2 3 nine_table [] [] (bytes "on")) (0 ∷ 0 ∷ 6 ∷ 0 ∷ [])
    ∷ same_list (in_numbers (first_of (Finds []) (check_grounds nine nine_table))) (0 ∷ [])
    -- "Empty list: C 1, E 0, 12 bytes."
    ∷ same_list (packed []) empty_table
    ∷ same_list (layout_table []) empty_table
    ∷ same_list (layout_sizes []) (12 ∷ 1 ∷ 0 ∷ [])
    -- ""na": the 1 falls outside; level 0."
    ∷ same_list (levels nine (bytes "na")) (0 ∷ [])
    -- CR 1: ""met-al" has no break with margins 2, 3 and one with 2, 2. The lookup still shows the line as written."
    ∷ same_list (breaks 2 3 nine [] (line "met-al") (bytes "metal")) (0 ∷ 0 ∷ 0 ∷ 0 ∷ [])
    ∷ same_list (breaks 2 2 nine [] (line "met-al") (bytes "metal")) (0 ∷ 0 ∷ 1 ∷ 0 ∷ [])
    ∷ same_list (hyphenate_call 2 3 empty_table [] (line "met-al") (bytes "metal")) (0 ∷ 0 ∷ 0 ∷ 0 ∷ 0 ∷ 0 ∷ 0 ∷ [])
    ∷ same_list (hyphenate_call 2 2 empty_table [] (line "met-al") (bytes "metal")) (0 ∷ 1 ∷ 0 ∷ 0 ∷ 0 ∷ 1 ∷ 0 ∷ [])
    ∷ same_list (lookup_call [] (line "met-al") (bytes "metal")) (bytes "met-al")
    -- The customer's line is bound as the house line is, by the left margin too, and decides though none of its hyphens counts.
    ∷ same_list (hyphenate_call 2 3 empty_table (line "met-al") (line "me-tal") (bytes "metal")) (0 ∷ 0 ∷ 0 ∷ 0 ∷ 0 ∷ 0 ∷ 0 ∷ [])
    ∷ same_list (hyphenate_call 4 1 empty_table (line "me-t-a-l") (line "met-al") (bytes "metal")) (0 ∷ 1 ∷ 0 ∷ 0 ∷ 0 ∷ 0 ∷ 1 ∷ [])
    ∷ same_list (hyphenate_call 2 3 nine_table (line "hyph-e-nati-on") [] (bytes "hyphenation")) (0 ∷ 2 ∷ 0 ∷ 0 ∷ 0 ∷ 0 ∷ 1 ∷ 1 ∷ 0 ∷ 0 ∷ 0 ∷ 0 ∷ 0 ∷ [])
    -- "Customer "idler", house "id-ler": no break."
    ∷ same_list (breaks 2 3 nine (line "idler") (line "id-ler") (bytes "idler")) (0 ∷ 0 ∷ 0 ∷ 0 ∷ [])
    ∷ same_list (hyphenate_call 2 3 empty_table (line "idler") (line "id-ler") (bytes "idler")) (0 ∷ 0 ∷ 0 ∷ 0 ∷ 0 ∷ 0 ∷ 0 ∷ [])
    -- "63 letters answered, 64 refused (4); 64 bytes with a digit also 4." Over the empty table each of 65 places takes one look.
    ∷ same_list (levels_call empty_table (letters 63)) (0 ∷ 0 ∷ 65 ∷ [])
    ∷ same_list (levels_call empty_table (letters 64)) (4 ∷ 0 ∷ 0 ∷ [])
    ∷ same_list (levels_call empty_table (letters 63 ++ (49 ∷ []))) (4 ∷ 0 ∷ 0 ∷ [])
    -- CR 5: "Passes need l'entrata as one word." It has nine letters, so that 11 places take one look each.
    ∷ same_list (levels_call empty_table (bytes "l'entrata")) (0 ∷ 0 ∷ 11 ∷ [])
    ∷ same_list (levels_call empty_table (bytes "L'Entrata")) (0 ∷ 0 ∷ 11 ∷ [])
    -- "anywhere else it is refusal 3 at its place"
    ∷ same_list (levels_call empty_table (bytes "'a")) (3 ∷ 0 ∷ 0 ∷ [])
    ∷ same_list (levels_call empty_table (bytes "a'")) (3 ∷ 0 ∷ 1 ∷ [])
    ∷ same_list (levels_call empty_table (bytes "a''b")) (3 ∷ 0 ∷ 1 ∷ [])
    ∷ same_list (levels_call empty_table (bytes "a'1")) (3 ∷ 0 ∷ 1 ∷ [])
    ∷ same_list (levels_call empty_table (bytes "a'b'")) (3 ∷ 0 ∷ 3 ∷ [])
    -- It "counts as a letter of the word", for its limit too.
    ∷ same_list (levels_call empty_table (letters 31 ++ bytes "'" ++ letters 31)) (0 ∷ 0 ∷ 65 ∷ [])
    ∷ same_list (levels_call empty_table (letters 32 ++ bytes "'" ++ letters 31)) (4 ∷ 0 ∷ 0 ∷ [])
    -- "a pattern may begin or end with it"; "The edge stays 27, and 28 sorts last."
    ∷ same_list (patterns_call (line "l'1e" ++ line "z1" ++ line ".a1" ++ line "'a1" ++ line "'a1." ++ line "'a'1")) (0 ∷ [])
    ∷ same_list (patterns_call (line "'a1" ++ line "z1")) (7 ∷ 0 ∷ 4 ∷ [])
    ∷ same_list (patterns_call (line "'a1" ++ line ".a1")) (7 ∷ 0 ∷ 4 ∷ [])
    -- "elsewhere it makes the line bad": beside an edge, beside another, and where none of the 26 is left.
    ∷ same_list (patterns_call (line ".'a1")) (7 ∷ 0 ∷ 0 ∷ [])
    ∷ same_list (patterns_call (line "a1'.")) (7 ∷ 0 ∷ 0 ∷ [])
    ∷ same_list (patterns_call (line "''a1")) (7 ∷ 0 ∷ 0 ∷ [])
    ∷ same_list (patterns_call (line "a'1'b")) (7 ∷ 0 ∷ 0 ∷ [])
    ∷ same_list (patterns_call (line "'1")) (7 ∷ 0 ∷ 0 ∷ [])
    -- Its levels, its table (C 30: l 12, the apostrophe's cell 29, e 7), its breaks, and the count of 10 + 3 looks.
    ∷ same_list (levels (line "l'1e") (bytes "l'entrata")) (0 ∷ 1 ∷ 0 ∷ 0 ∷ 0 ∷ 0 ∷ 0 ∷ 0 ∷ [])
    ∷ same_list (sizes apostrophe_table) (191 ∷ 30 ∷ 1 ∷ [])
    ∷ same_list (layout_table (patterns_of (line "l'1e"))) apostrophe_table
    ∷ same_list (map (base_of apostrophe_table) (bytes "l" ∷ bytes "l'" ∷ [])) (1 ∷ 2 ∷ [])
    ∷ same_list (hyphenate_call 2 3 apostrophe_table [] [] (bytes "L'Entrata")) (0 ∷ 1 ∷ 13 ∷ 0 ∷ 1 ∷ 0 ∷ 0 ∷ 0 ∷ 0 ∷ 0 ∷ 0 ∷ [])
    -- The checker "read[s] 28 symbols": it takes this table with its list, and refuses a path by 28 that the list hasn't.
    ∷ same_list (in_numbers (first_of (Finds []) (check_grounds (line "l'1e") apostrophe_table))) (0 ∷ [])
    ∷ same_list (in_numbers (first_of (Finds []) (check_grounds (line "l1") (packed (line "l1" ++ line "l'1e"))))) (12 ∷ 0 ∷ 0 ∷ [])
    -- "In an exception line it counts as a letter, for the limit and beside a hyphen too", and for the margins: l' has two letters.
    ∷ same_list (hyphenate_call 2 3 empty_table (line "l'-en-tra-ta") [] (bytes "l'entrata")) (0 ∷ 2 ∷ 0 ∷ 0 ∷ 1 ∷ 0 ∷ 1 ∷ 0 ∷ 0 ∷ 0 ∷ 0 ∷ [])
    ∷ same_list (hyphenate_call 3 2 empty_table [] (line "l'-en-tra-ta") (bytes "l'entrata")) (0 ∷ 2 ∷ 0 ∷ 0 ∷ 0 ∷ 0 ∷ 1 ∷ 0 ∷ 0 ∷ 1 ∷ 0 ∷ [])
    ∷ same_list (lookup_call (line "l'-en-tra-ta") [] (bytes "L'ENTRATA")) (bytes "l'-en-tra-ta")
    ∷ same_list (exceptions_call (line "l'en" ++ line "m'-en" ++ line "n-'en" ++ line "o-'-en")) (0 ∷ [])
    ∷ same_list (exceptions_call (line "a'-'b")) (6 ∷ 2 ∷ 0 ∷ [])
    ∷ same_list (exceptions_call (line "l'")) (6 ∷ 2 ∷ 0 ∷ [])
    ∷ same_list (exceptions_call (line "'l")) (6 ∷ 2 ∷ 0 ∷ [])
    ∷ same_list (exceptions_call (letters 31 ++ bytes "-'-" ++ letters 31 ++ bytes "\n")) (0 ∷ [])
    ∷ same_list (exceptions_call (letters 32 ++ bytes "-'-" ++ letters 31 ++ bytes "\n")) (6 ∷ 2 ∷ 0 ∷ [])
    -- CR 6: "goes out with a backslash and a hyphen in each break", and an apostrophe behind a word belongs to none.
    ∷ same_list (whole_text 2 3 [] [] nine_table (bytes "1Hyphenation', on")) (bytes "1Hy" ++ break_sign ++ bytes "phen" ++ break_sign ++ bytes "ation', on")
    ∷ same_list (whole_text 2 3 (line "l'-en-tra-ta") [] empty_table (bytes "''L'Entrata''")) (bytes "''L'" ++ break_sign ++ bytes "En" ++ break_sign ++ bytes "trata''")
    -- "an over-long or exception word adds 0"
    ∷ eqb (whole_looks [] [] nine_table (bytes "hyphenation, Hyphenation")) 54
    ∷ eqb (whole_looks (line "hy-phen-ation") [] nine_table (bytes "hyphenation, Hyphenation")) 0
    ∷ eqb (whole_looks [] [] nine_table (letters 64)) 0
    -- "one over the word limit goes through unchanged", with what stands behind an apostrophe of it
    ∷ same_list (whole_text 1 1 [] [] nine_table (letters 62 ++ bytes "'hyphenation' hyphenation"))
    (letters 62 ++ bytes "'hyphenation' hy" ++ break_sign ++ bytes "phen" ++ break_sign ++ bytes "ation")
    -- "After each piece exactly the unfinished word is held, with an apostrophe right behind it"
    ∷ same_list (held_bytes (held_of 0 (bytes "on hyphena"))) (bytes "hyphena")
    ∷ same_list (held_bytes (held_of 0 (bytes "on l'"))) (bytes "l'")
    ∷ same_list (held_bytes (held_of 0 (bytes "on l''"))) []
    ∷ same_list (held_bytes (held_of 0 (letters 63 ++ bytes "'"))) (letters 63 ++ bytes "'")
    -- "a run that passes the word limit is let go at once, as is each later byte of it, a trailing apostrophe too"
    ∷ same_list (map (λ n. run_of (held_of 0 (letters n))) (63 ∷ 64 ∷ 65 ∷ [])) (0 ∷ 1 ∷ 1 ∷ [])
    ∷ eqb (run_of (held_of 0 (letters 64 ++ bytes "'"))) 2
    ∷ eqb (run_of (held_of 0 (letters 64 ++ bytes "'a"))) 1
    ∷ eqb (run_of (held_of 0 (letters 64 ++ bytes "''a"))) 0
    -- states that calls could leave, and such as they couldn't
    ∷ same_list (map (λ n. bit (is_reached (Holding (bytes "l'")) n)) (1 ∷ 2 ∷ 9 ∷ [])) (0 ∷ 1 ∷ 1 ∷ [])
    ∷ same_list (map (λ n. bit (is_reached Gone n)) (63 ∷ 64 ∷ [])) (0 ∷ 1 ∷ [])
    ∷ same_list (map (λ n. bit (is_reached GoneMarked n)) (64 ∷ 65 ∷ [])) (0 ∷ 1 ∷ [])
    ∷ same_list (map (λ kept. bit (can_be_held kept)) ([] ∷ bytes "a" ∷ bytes "'" ∷ bytes "a''" ∷ bytes "a1" ∷ letters 64 ∷ [])) (1 ∷ 1 ∷ 0 ∷ 0 ∷ 0 ∷ 0 ∷ [])
    ∷ []

pub figures : all_of table ≡ true
unfolding table nine count levels breaks small capital letter lower digit symbol_of symbols_of first_of starts_letter is_between with_apostrophes leading grounds_by word_symbols row_of inner glue cut is_nil starts_with any_of letter_symbol letter_next apostrophes_fit line_letter pattern_form pattern_bytes good_pattern exception_form exception_bytes good_exception before good_line first_bad judge_lines pattern_grounds list_grounds same_list find_line find find_either levels_from pattern_of patterns_of begins level_here level_of highest liang hyphen_at in_margins odd line_break level_break is_break bad_margin levels_call hyphenate_call patterns_call exceptions_call lookup_call judge_lookup locate all_fit judge_length judge_by judge_lists judge_size empty_table number_at cell_count entry_count formed table_grounds cells_from entries_from cells_of entries_of look entry_at setting chain_step chain_from chain set_step set_from look_step looks_from settings looks highest_set sheet_from sheet nonzero level_at level_sheet word_looks break_sheet break_looks room_grounds margin_grounds levels_grounds hyphenate_grounds packed base_of sizes common onward along sound_step sound_from sound next_in all_from kinds_from kinds_test exact_test child_at none_between passed_over follow_step follow besides patterns_right right_test check_grounds put_number is_free serves smallest base_for inside put_cell put_cells cell_of put_link place_at place opens place_length place_lengths layout_of used_from holds find_entry put_entry enter_at enter enter_levels enter_pattern put_output output_of outputs_of put_kinds bytes_of finish fit_layout first_fit layout_sizes goes_on has_base used_by uses_cell fits_at reach least_base next_base paths_at paths_from longest_length paths_of place_all bases_of top_from top_of cells_needed equal first_equal add_at add_level add_levels add_pattern add_patterns entry_list entries_needed output_from output_for two_bytes head_bytes cell_bytes entry_bytes link_to path_cell cell_among numbered_cells all_entries layout_table hyphenated spread shown text_out unfinished held_of waits is_word can_be_held is_reached broken sum output.word_looks whole_text whole_looks
figures = refl
