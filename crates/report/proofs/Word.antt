-- That every line fits, and what a word's line is.
use Prim.Native.Nat.{ℕ, ◌+◌, ◌≤◌}
use mathlib.Core.List.{List, [], ◌∷◌, ◌++◌}
use mathlib.Core.Path.{◌≡◌, refl, sym, ◌∙◌, ap}
use native.Mathlib.Omega.{arith}
use lib.Dec.{eqb}
use lib.ListN.{length, drop, length-append}
use Rattle.base.specs.Limits.{room_size, word_limit}
use Rattle.base.specs.Grounds.{told, Check}
use Rattle.std.specs.Prelude.{Some, None, Ok, Err}
use Rattle.base.specs.declared.Ground.{Ground}
use Rattle.rooms.specs.Rooms.{sheet, written}
use Rattle.rooms.proofs.Sheets.{sheet_length}
use Rattle.writing.specs.Written.{Fits, Writes}
use Rattle.writing.specs.declared.Writer.{Writer}
use Rattle.writing.specs.Writing.{question, field, counted, hyphenated}
use Rattle.writing.proofs.Parts.{fits_as, written_as}
use Rattle.writing.proofs.Laws.{either_short, digits_short, counted_short, word_short, marks_front}
use Rattle.words.specs.Symbols.{line_feed, hyphen}
use Rattle.words.specs.Words.{judge_word}
use Rattle.hyphenation.specs.Breaks.{break_sheet}
use Rattle.hyphenation.specs.Calls.{judge_word_alone, answer, Answered, breaks_sheet, breaks_looks, word_answer, WordBreaks, Answer, found}
use Rattle.words.proofs.Laws.{word_fits}
use Rattle.hyphenation.proofs.Order.{word_alone_ordered, computed}
use Rattle.hyphenation.proofs.Calls.{word_alone_sizes}
use Rattle.hyphenation.proofs.Theorems.{finding}
use Rattle.report.specs.Report.{list_field, told_line, refusal_line, word_line, line_limit, line_for, Reports, words_label, refused_label, sums_line}

list_short : (list : ℕ) → length (list_field list) ≤ 21
list_short list = either_short (eqb list 0) [] (field list) 21 (omega arith) (omega (arith, digits_short 19 list))

-- a sign, three numbers and the line feed
pub told_short : (sign number list place : ℕ) → length (told_line sign number list place) ≤ 65
told_short sign number list place =
    omega (
      arith,
      digits_short 19 number,
      list_short list,
      digits_short 19 place,
      length-append (field number) (list_field list ++ (field place ++ (line_feed ∷ []))),
      length-append (list_field list) (field place ++ (line_feed ∷ [])),
      length-append (field place) (line_feed ∷ []),
    )

pub refusal_fits : (sign : ℕ) (g : Ground) (w : Writer) → w.at + line_limit ≤ length w.room.now → Fits (refusal_line sign g) w
refusal_fits sign g w h = omega (arith, h, told_short sign (told g).number (told g).list (told g).place)

-- every line of a word has at most this many bytes, whatever the call answers
line_short : (left right : ℕ) (word customer house table : List ℕ) (size : ℕ) → length (line_for left right word customer house table size) ≤ line_limit
line_short left right word customer house table size = go (judge_word_alone word size) refl
  where
    go : (judged : Check) → judge_word_alone word size ≡ judged
        → length (word_line (answer judged (breaks_sheet left right word customer house table) (breaks_looks word customer house table)) (breaks_sheet left right word customer house table) word) ≤ line_limit
    go (Ok tt) e =
        omega (
          arith,
          word_fits word_limit word (word_alone_sizes word size refl e).0,
          word_short (hyphen ∷ []) (breaks_sheet left right word customer house table) word,
          length-append (hyphenated (hyphen ∷ []) (breaks_sheet left right word customer house table) word) (line_feed ∷ []),
        )
    go (Err g) e = omega (arith, told_short question (told g).number (told g).list (told g).place)

pub line_fits : (left right : ℕ) (word customer house table : List ℕ) (size : ℕ) (w : Writer) → w.at + line_limit ≤ length w.room.now → Fits (line_for left right word customer house table size) w
line_fits left right word customer house table size w h = omega (arith, h, line_short left right word customer house table size)

-- beside the last label, 13 bytes of labels, three numbers of 21 with their spaces, and the line feed
pub sums_fit : (words refused : ℕ) (label : List ℕ) (sum : ℕ) (w : Writer) → w.at + 77 + length label ≤ length w.room.now → Fits (sums_line words refused label sum) w
sums_fit words refused label sum w h =
    omega (
      arith,
      h,
      counted_short words_label words,
      counted_short refused_label refused,
      counted_short label sum,
      length-append (counted words_label words) (counted refused_label refused ++ (counted label sum ++ (line_feed ∷ []))),
      length-append (counted refused_label refused) (counted label sum ++ (line_feed ∷ [])),
      length-append (counted label sum) (line_feed ∷ []),
    )

module _ (left right : ℕ) (word customer house table marks : List ℕ) {r : Answer} {after : List ℕ} (promise : WordBreaks left right word customer house table marks r after) where
  b : Answered (judge_word_alone word (length marks)) (breaks_sheet left right word customer house table) (breaks_looks word customer house table) marks r after
  b = computed (word_alone_ordered word (length marks)) promise

  module _ {count looks : ℕ} (e : r ≡ found count looks) where
    alone : judge_word_alone word (length marks) ≡ Ok tt
    alone = (finding (judge_word_alone word (length marks)) (breaks_sheet left right word customer house table) (breaks_looks word customer house table) count looks (sym e ∙ b.answered)).judged_fine

    fine : judge_word word_limit word ≡ Ok tt
    fine = (word_alone_sizes word (length marks) refl alone).0

    written_sheet : after ≡ breaks_sheet left right word customer house table ++ drop room_size marks
    unfolding written
    written_sheet = b.memory ∙ rw alone

    sheet_long : length (breaks_sheet left right word customer house table) ≡ room_size
    unfolding break_sheet sheet
    sheet_long = sheet_length _ 0 room_size

    pub found_marks : length word ≤ length after
    found_marks =
        omega (
          arith,
          word_fits word_limit word fine,
          ap length written_sheet,
          sheet_long,
          length-append (breaks_sheet left right word customer house table) (drop room_size marks),
        )

    shown : hyphenated (hyphen ∷ []) after word ≡ hyphenated (hyphen ∷ []) (breaks_sheet left right word customer house table) word
    shown =
        ap (λ (m : List ℕ). hyphenated (hyphen ∷ []) m word) written_sheet
        ∙ marks_front (hyphen ∷ []) (breaks_sheet left right word customer house table) (drop room_size marks) word (omega (arith, word_fits word_limit word fine, sheet_long))

    found_answer : word_answer left right word customer house table (length marks) ≡ found count looks
    found_answer = sym b.answered ∙ e

    found_line : hyphenated (hyphen ∷ []) after word ++ (line_feed ∷ []) ≡ line_for left right word customer house table (length marks)
    found_line = rw (found_answer, shown)

    pub found_fits : (w : Writer) → Fits (line_for left right word customer house table (length marks)) w → Fits (hyphenated (hyphen ∷ []) after word ++ (line_feed ∷ [])) w
    found_fits w h = fits_as w (sym found_line) h

    pub found_reports : {before filled : Writer} → Writes (hyphenated (hyphen ∷ []) after word ++ (line_feed ∷ [])) before filled
        → Reports left right word customer house table marks before (Some looks) after filled
    found_reports p =
        record {
          line = written_as (sym found_line) p;
          looked = rw found_answer;
          told = rw found_answer;
          memory = b.memory;
        }

  module _ {g : Ground} (e : r ≡ Err g) where
    refused_answer : word_answer left right word customer house table (length marks) ≡ Err g
    refused_answer = sym b.answered ∙ e

    pub refused_fits : (w : Writer) → Fits (line_for left right word customer house table (length marks)) w → Fits (refusal_line question g) w
    refused_fits w h = rw refused_answer at h

    pub refused_reports : {before filled : Writer} → Writes (refusal_line question g) before filled
        → Reports left right word customer house table marks before None after filled
    refused_reports p =
        record {
          line = written_as (rw refused_answer) p;
          looked = rw refused_answer;
          told = rw refused_answer;
          memory = b.memory;
        }
