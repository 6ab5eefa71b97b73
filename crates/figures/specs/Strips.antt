-- CR 2's figures: sums of widths that show the rounding, and what the call says at its edges, one table under one statement.
use Rattle.std.specs.Prelude.{ℕ, ◌-◌, Bool, true, false, List, [], ◌∷◌, ◌++◌, ◌≡◌, refl, eqb, length, replicate, Float}
use Rattle.std.specs.Float.{nan, inf, binary64}
use Rattle.std.specs.Float.Ieee.{round, add, lt, is_nan, of_bits, to_bits}
use Rattle.base.specs.Limits.{room_size, width_count, letter_limit}
use Rattle.base.specs.Grounds.{first_of, one_of}
use Rattle.base.specs.Tests.{same_list}
use Rattle.rooms.specs.Rooms.{sheet_from, sheet, bit}
use Rattle.words.specs.Symbols.{small, capital, letter, lower, symbol_of}
use Rattle.words.specs.Words.{starts_letter, is_between, with_apostrophes, leading, grounds_by}
use Rattle.gauge.specs.Widths.{zero_width, width_limit, bad_width, any_bad, width_place, letter_width, width_to, fits_in}
use Rattle.gauge.specs.Fit.{gauge_of, is_marked, whole_fits, hyphen_fits, last_of, fit_values, fit_grounds, fit_answer}
use Rattle.figures.specs.Samples.{bytes}
use Rattle.figures.specs.Figures.{in_numbers, all_of}

-- The double that is nearest to a fraction, as a decimal number in a program is read.
abbrev pub near : ℕ → ℕ → Float
near num den = round binary64 false num den

-- The double with these bits.
abbrev pub double : ℕ → Float
double bits = of_bits binary64 bits

-- 27 widths: some for the first letters, and one for all others, the apostrophe too.
unfoldable pub letters_of : List Float → Float → List Float
letters_of some other = some ++ replicate (width_count - length some) other

-- One width for the 26 letters, and the apostrophe's.
unfoldable pub beside_letters : Float → Float → List Float
beside_letters letter apostrophe = replicate letter_limit letter ++ (apostrophe ∷ [])

-- A room whose breaks are these gaps.
unfoldable pub room_of : List ℕ → List ℕ
room_of gaps = sheet room_size (λ i. bit (one_of i gaps))

-- What the call says of a word with these breaks: 0, what came out and the gap, or number, list and place.
unfoldable pub fit_call : Float → Float → List Float → List ℕ → List ℕ → List ℕ
fit_call hyphen line widths word gaps =
    in_numbers (fit_answer (gauge_of hyphen line) widths word (room_of gaps))

-- What is said where the whole word fits, a break, and none.
abbrev pub whole : List ℕ
whole = 0 ∷ 1 ∷ 0 ∷ []

abbrev pub after : ℕ → List ℕ
after gap = 0 ∷ 2 ∷ gap ∷ []

abbrev pub none : List ℕ
none = 0 ∷ 3 ∷ 0 ∷ []

abbrev pub refused : List ℕ
refused = 13 ∷ 0 ∷ 0 ∷ []

-- The table: a row for each figure.
unfoldable pub strips : List Bool
strips =
    let tenth = near 1 10 in
    let tenths = letters_of [] tenth in
    let one = near 1 1 in
    let two = near 2 1 in
    let half = near 1 9007199254740992 in
    let ten = bytes "aaaaaaaaaa" in
    -- 0.1 ten times is 0.9999999999999999, the double below 1.
    eqb (to_bits binary64 (width_to tenths ten 10)) 0x3fef_ffff_ffff_ffff
    ∷ eqb (to_bits binary64 one) 0x3ff0_0000_0000_0000
    ∷ same_list (fit_call tenth one tenths ten []) whole
    ∷ same_list (fit_call tenth (double 0x3fef_ffff_ffff_ffff) tenths ten []) whole
    ∷ same_list (fit_call tenth (double 0x3fef_ffff_ffff_fffe) tenths ten []) none
    -- 0.1 three times is 0.30000000000000004, above 0.3: neither "aaa" nor "aa-" fits there, but "a-" does.
    ∷ eqb (to_bits binary64 (width_to tenths ten 3)) 0x3fd3_3333_3333_3334
    ∷ eqb (to_bits binary64 (near 3 10)) 0x3fd3_3333_3333_3333
    ∷ same_list (fit_call tenth (near 3 10) tenths (bytes "aaa") (1 ∷ 2 ∷ [])) (after 1)
    ∷ same_list (fit_call tenth (double 0x3fd3_3333_3333_3334) tenths (bytes "aaab") (1 ∷ 2 ∷ [])) (after 2)
    -- Ties go to even: 1 and half of its last place is 1 again, as often as it is added, and the line of 1 still fits.
    ∷ same_list (fit_call tenth one (letters_of (one ∷ []) half) (bytes "abbbb") []) whole
    -- From the left: the halves first make a whole place, and the line of 1 is passed.
    ∷ same_list (fit_call tenth one (letters_of (one ∷ []) half) (bytes "bba") []) none
    -- "the hyphen added last": behind two halves a hyphen of 1 comes to more than 1, behind one half to 1.
    ∷ same_list (fit_call one one (letters_of (half ∷ []) one) (bytes "aab") (2 ∷ [])) none
    ∷ same_list (fit_call one one (letters_of (half ∷ []) one) (bytes "aab") (1 ∷ 2 ∷ [])) (after 1)
    -- 0.1 and 0.2 and a hyphen of 0.3 are 0.6000000000000001, but 0.2 and 0.3 and then 0.1 would be 0.6.
    ∷ same_list (fit_call (near 3 10) (near 6 10) (letters_of (tenth ∷ near 2 10 ∷ []) one) (bytes "abc") (2 ∷ [])) none
    -- "it fits if it isn't above the line width"; "the whole word fits", though no break fits with its hyphen.
    ∷ same_list (fit_call one one (letters_of [] (near 1 4)) (bytes "abcd") (1 ∷ 2 ∷ 3 ∷ [])) whole
    -- "the last break that fits with its hyphen"; only "bytes 1 to n - 1 are read"; a capital is as wide as its small letter.
    ∷ same_list (fit_call (near 1 4) one (letters_of [] (near 1 4)) (bytes "aBcDe") (0 ∷ 1 ∷ 2 ∷ 3 ∷ 4 ∷ 5 ∷ [])) (after 3)
    ∷ same_list (fit_call (near 1 4) one (letters_of [] (near 1 4)) (bytes "aBcDe") (0 ∷ 4 ∷ 5 ∷ 6 ∷ [])) none
    -- "A given width outside 0 to 1,000": both ends and -0.0 are inside, their neighbours outside, used or not.
    ∷ same_list (fit_call width_limit width_limit (letters_of [] width_limit) (bytes "a") []) whole
    ∷ same_list (fit_call zero_width zero_width (letters_of [] (double 0x8000_0000_0000_0000)) (bytes "ab") []) whole
    ∷ same_list (fit_call (double 0x408f_4000_0000_0001) one (letters_of [] one) (bytes "a") []) refused
    ∷ same_list (fit_call one (double 0x408f_4000_0000_0001) (letters_of [] one) (bytes "a") []) refused
    ∷ same_list (fit_call one one (letters_of (one ∷ []) (double 0x8000_0000_0000_0001)) (bytes "a") []) refused
    ∷ same_list (fit_call one one (letters_of (one ∷ []) (inf false)) (bytes "a") []) refused
    -- "or not-a-number"
    ∷ same_list (fit_call one one (letters_of (one ∷ []) (double 0x7ff0_0000_0000_0001)) (bytes "a") []) refused
    -- "after 5, 2, 4, 3"
    ∷ same_list (fit_call nan one (letters_of [] one) (bytes "a1") []) (3 ∷ 0 ∷ 1 ∷ [])
    ∷ same_list (fit_call nan one (letters_of [] one) [] []) (2 ∷ 0 ∷ 0 ∷ [])
    -- CR 5: "a 27th width", the apostrophe's: where it is 0, "a'z" is as wide as "az"; where it is 1, "a'" fits a line of 2.
    ∷ same_list (fit_call one two (beside_letters one zero_width) (bytes "a'z") (2 ∷ [])) whole
    ∷ same_list (fit_call zero_width two (beside_letters one one) (bytes "a'z") (1 ∷ 2 ∷ [])) (after 2)
    ∷ same_list (fit_call zero_width two (beside_letters one two) (bytes "a'z") (1 ∷ 2 ∷ [])) (after 1)
    -- It is judged where no apostrophe stands in the word, and a stray one is told before it.
    ∷ same_list (fit_call one two (beside_letters one nan) (bytes "az") []) refused
    ∷ same_list (fit_call one two (beside_letters one nan) (bytes "a'") []) (3 ∷ 0 ∷ 1 ∷ [])
    ∷ []

pub strip_figures : all_of strips ≡ true
unfolding strips letters_of beside_letters room_of fit_call sheet_from sheet one_of same_list first_of small capital letter lower symbol_of starts_letter is_between with_apostrophes leading grounds_by bad_width any_bad width_place letter_width width_to fits_in is_marked whole_fits hyphen_fits last_of fit_values fit_grounds fit_answer round add lt is_nan of_bits to_bits
strip_figures = refl
