-- Every figure of specs.Figures holds: one table under one statement, for the words and for the call's edges.
use Rattle.std.specs.Prelude.{true, ◌≡◌, refl}
use Rattle.base.specs.Grounds.{first_of}
use Rattle.base.specs.Tests.{same_list}
use Rattle.rooms.specs.Rooms.{sheet_from, sheet, nonzero}
use Rattle.words.specs.Symbols.{small, capital, letter}
use Rattle.words.specs.Words.{letters_alone, leading, grounds_by}
use Rattle.tables1980.specs.Suffix.{suffix_words, suffix}
use Rattle.tables1980.specs.Prefix.{prefix_words, prefix}
use Rattle.tables1980.specs.Pairs.{pair_words, btable}
use Rattle.sheet1980.specs.Sheet.{sheet_of, mem, clear, vowel}
use Rattle.suffix1980.specs.Suffixes.{final_at, interps, suffixes, phase2}
use Rattle.suffix1980.specs.Suffixes as suf
use Rattle.middle1980.specs.Middles.{joins_h, with_h, is_pair, is_weak, liquid, doubled, ends_in_age, ends_in_est, weakly, paired, between, third, second, pair, ends_in_er, mark_at, scan_vowel, pass_vowel, onward, middles, phase4}
use Rattle.prefix1980.specs.Prefixes.{interpp, prefixes, phase3}
use Rattle.prefix1980.specs.Prefixes as pre
use Rattle.machine1980.specs.Run.{from_prefixes, from_suffixes, run, machine}
use Rattle.machine1980.specs.Breaks.{shows, in_print, is_break, break_sheet}
use Rattle.machine1980.specs.Calls.{grounds1980, values_of, answer1980}
use Rattle.figures1980.specs.Figures.{all_of, words, edges}

pub figures : all_of words ≡ true
unfolding words same_list sheet_from sheet suffix_words suffix prefix_words prefix pair_words btable sheet_of mem clear vowel final_at interps suffixes phase2 suf.decode joins_h with_h is_pair is_weak liquid doubled ends_in_age ends_in_est weakly paired between third second pair ends_in_er mark_at scan_vowel pass_vowel onward middles phase4 interpp prefixes phase3 pre.decode from_prefixes from_suffixes run machine shows in_print is_break break_sheet
figures = refl

pub edge_figures : all_of edges ≡ true
unfolding edges same_list sheet_from sheet nonzero suffix_words suffix prefix_words prefix pair_words btable sheet_of mem clear vowel final_at interps suffixes phase2 suf.decode joins_h with_h is_pair is_weak liquid doubled ends_in_age ends_in_est weakly paired between third second pair ends_in_er mark_at scan_vowel pass_vowel onward middles phase4 interpp prefixes phase3 pre.decode from_prefixes from_suffixes run machine shows in_print is_break break_sheet small capital letter letters_alone leading grounds_by grounds1980 values_of answer1980 first_of
edge_figures = refl
