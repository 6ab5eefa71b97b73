-- That every line fits, and what a word's line is.
use Prim.Native.Nat.{ℕ, ◌+◌, ◌≤◌}
use mathlib.Core.List.{List, [], ◌∷◌, ◌++◌}
use mathlib.Core.Path.{◌≡◌, refl, sym, ◌∙◌, ap}
use native.Mathlib.Omega.{arith}
use lib.ListN.{length, drop, length-append}
use Rattle.base.specs.Limits.{word_limit1980, room_size1980, budget1980}
use Rattle.base.specs.Grounds.{told, Finds, Refuses, says, Check}
use Rattle.std.specs.Prelude.{Ok, Err, Some, None}
use Rattle.base.specs.declared.Ground.{Ground}
use Rattle.base.proofs.Grounds.{Ordered, said_found, said_refused_lem, no_refusal}
use Rattle.base.proofs.Lists.{clash}
use Rattle.rooms.specs.Rooms.{sheet, written}
use Rattle.rooms.proofs.Sheets.{sheet_length}
use Rattle.writing.specs.Written.{Fits, Writes}
use Rattle.writing.specs.declared.Writer.{Writer}
use Rattle.writing.specs.Writing.{question, hyphenated}
use Rattle.writing.proofs.Parts.{fits_as, written_as}
use Rattle.writing.proofs.Laws.{word_short, marks_front}
use Rattle.words.specs.Symbols.{line_feed, hyphen}
use Rattle.words.proofs.Laws.{letters_fit}
use Rattle.report.specs.Report.{told_line, refusal_line}
use Rattle.report.proofs.Word.{told_short}
use Rattle.machine1980.specs.Run.{Outcome, RanOut, Marked, machine}
use Rattle.machine1980.specs.Breaks.{break_sheet}
use Rattle.machine1980.specs.Calls.{grounds1980, answered_found, ran_out_found, said1980, values_of, left_by, answer1980, room1980, Reprints, judge1980, Answer1980, reprint}
use Rattle.machine1980.proofs.Order.{ordered_1980, sizes}
use Rattle.reprint.specs.Reprint.{outcome_line, line_limit1980, reprint_line, Reprinted}

-- the answer by what is judged
module _ (word : List ℕ) (size : ℕ) where
  judged_as : {c : Check} → judge1980 word size ≡ c → Ordered c (grounds1980 word size)
  judged_as e = record { same = ap says (sym e) ∙ (ordered_1980 word size).same }

  finding : judge1980 word size ≡ Ok tt → answer1980 budget1980 word size ≡ Finds (values_of (length word) (machine budget1980 word))
  unfolding answer1980
  finding e = said_found (judged_as e) (values_of (length word) (machine budget1980 word))

  refusal : {g : Ground} → judge1980 word size ≡ Err g → answer1980 budget1980 word size ≡ Refuses (told g)
  unfolding answer1980
  refusal e = said_refused_lem (judged_as e) (values_of (length word) (machine budget1980 word))

  letters_few : judge1980 word size ≡ Ok tt → length word ≤ word_limit1980
  letters_few e = letters_fit word_limit1980 word (sizes word size (ordered_1980 word size).same e).0

  -- a finding is of a judged word
  found_fine : {values : List ℕ} → Finds values ≡ answer1980 budget1980 word size → judge1980 word size ≡ Ok tt
  found_fine {values} said = go (judge1980 word size) refl
    where
      go : (judged : Check) → judge1980 word size ≡ judged → judged ≡ Ok tt
      go (Ok _) e = refl
      go (Err g) e = no_refusal (said ∙ refusal e)

-- every line of a word has at most this many bytes, whatever the call answers
broken_short : (shown word : List ℕ) → length word ≤ word_limit1980 → length (hyphenated (hyphen ∷ []) shown word ++ (line_feed ∷ [])) ≤ line_limit1980
broken_short shown word h = omega (arith, word_short (hyphen ∷ []) shown word, length-append (hyphenated (hyphen ∷ []) shown word) (line_feed ∷ []))

outcome_short : (o : Outcome) (word : List ℕ) → length word ≤ word_limit1980 → length (outcome_line o word) ≤ line_limit1980
outcome_short RanOut word h = omega (arith, told_short question 0 0 0)
outcome_short (Marked finale marks executed) word h = broken_short (break_sheet (length word) finale marks) word h

line_short : (word : List ℕ) (size : ℕ) → length (reprint_line word size) ≤ line_limit1980
line_short word size = go (judge1980 word size) refl
  where
    go : (judged : Check) → judge1980 word size ≡ judged → length (reprint_line word size) ≤ line_limit1980
    go (Ok _) e = rw (finding word size e) (outcome_short (machine budget1980 word) word (letters_few word size e))
    go (Err g) e = rw (refusal word size e) (omega (arith, told_short question (told g).number (told g).list (told g).place))

pub line_fits : (word : List ℕ) (size : ℕ) (w : Writer) → w.at + line_limit1980 ≤ length w.room.now → Fits (reprint_line word size) w
line_fits word size w h = omega (arith, h, line_short word size)

-- what the machine came to, by the values of its answer
record Ran (o : Outcome) (executed : ℕ) : Type 0 where
  finale : ℕ
  marks : List ℕ
  same : o ≡ Marked finale marks executed

ran_by : (n : ℕ) (o : Outcome) {breaks executed : ℕ} → Finds (answered_found breaks executed) ≡ Finds (values_of n o) → Ran o executed
unfolding values_of
ran_by n RanOut e = clash cc
ran_by n (Marked finale marks k) {executed = executed} e = let q : k ≡ executed = cc in record { finale = finale; marks = marks; same = ap (Marked finale marks) q }

out_by : (n : ℕ) (o : Outcome) → Finds ran_out_found ≡ Finds (values_of n o) → o ≡ RanOut
unfolding values_of
out_by n RanOut e = refl
out_by n (Marked finale marks k) e = clash cc

module _ (word marks : List ℕ) {r : Answer1980} {after : List ℕ} (promise : Reprints budget1980 word marks r after) where
  module _ {breaks executed : ℕ} (e : r ≡ reprint breaks executed) where
    found_said : Finds (answered_found breaks executed) ≡ answer1980 budget1980 word (length marks)
    unfolding said1980
    found_said = ap said1980 (sym e) ∙ promise.answered

    fine : judge1980 word (length marks) ≡ Ok tt
    fine = found_fine word (length marks) found_said

    ran : Ran (machine budget1980 word) executed
    ran = ran_by (length word) (machine budget1980 word) (found_said ∙ finding word (length marks) fine)

    shown : List ℕ
    shown = break_sheet (length word) ran.finale ran.marks

    written_sheet : after ≡ shown ++ drop room_size1980 marks
    unfolding room1980 left_by written shown
    written_sheet = promise.memory ∙ rw (← found_said, ran.same)

    sheet_long : length shown ≡ room_size1980
    unfolding break_sheet sheet shown
    sheet_long = sheet_length _ 0 room_size1980

    pub found_marks : length word ≤ length after
    found_marks = omega (arith, letters_few word (length marks) fine, ap length written_sheet, sheet_long, length-append shown (drop room_size1980 marks))

    hyphens : hyphenated (hyphen ∷ []) after word ≡ hyphenated (hyphen ∷ []) shown word
    hyphens =
        ap (λ (m : List ℕ). hyphenated (hyphen ∷ []) m word) written_sheet
        ∙ marks_front (hyphen ∷ []) shown (drop room_size1980 marks) word (omega (arith, letters_few word (length marks) fine, sheet_long))

    found_line : hyphenated (hyphen ∷ []) after word ++ (line_feed ∷ []) ≡ reprint_line word (length marks)
    unfolding shown
    found_line = rw (← found_said, ran.same, hyphens)

    pub found_fits : (w : Writer) → Fits (reprint_line word (length marks)) w → Fits (hyphenated (hyphen ∷ []) after word ++ (line_feed ∷ [])) w
    found_fits w h = fits_as w (sym found_line) h

    pub found_reprinted : {before filled : Writer} → Writes (hyphenated (hyphen ∷ []) after word ++ (line_feed ∷ [])) before filled
        → Reprinted word marks before (Some executed) after filled
    found_reprinted p =
        record {
          line = written_as (sym found_line) p;
          executed = rw (← found_said, ran.same);
          told = rw (← found_said, ran.same);
          memory = promise.memory;
        }

  module _ (e : r ≡ Ok None) where
    out_said : Finds ran_out_found ≡ answer1980 budget1980 word (length marks)
    unfolding said1980
    out_said = ap said1980 (sym e) ∙ promise.answered

    out : machine budget1980 word ≡ RanOut
    out = out_by (length word) (machine budget1980 word) (out_said ∙ finding word (length marks) (found_fine word (length marks) out_said))

    pub out_fits : (w : Writer) → Fits (reprint_line word (length marks)) w → Fits (told_line question 0 0 0) w
    out_fits w h = rw (← out_said, out) at h

    pub out_reprinted : {before filled : Writer} → Writes (told_line question 0 0 0) before filled
        → Reprinted word marks before None after filled
    out_reprinted p =
        record {
          line = written_as (rw (← out_said, out)) p;
          executed = rw (← out_said, out);
          told = rw (← out_said, out);
          memory = promise.memory;
        }

  module _ {g : Ground} (e : r ≡ Err g) where
    refused_said : Refuses (told g) ≡ answer1980 budget1980 word (length marks)
    unfolding said1980
    refused_said = ap said1980 (sym e) ∙ promise.answered

    pub refused_fits : (w : Writer) → Fits (reprint_line word (length marks)) w → Fits (refusal_line question g) w
    refused_fits w h = rw (← refused_said) at h

    pub refused_reprinted : {before filled : Writer} → Writes (refusal_line question g) before filled
        → Reprinted word marks before None after filled
    refused_reprinted p =
        record {
          line = written_as (rw (← refused_said)) p;
          executed = rw (← refused_said);
          told = rw (← refused_said);
          memory = promise.memory;
        }
