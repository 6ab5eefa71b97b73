-- One law for each way through the code.
use Prim.Native.Nat.{ℕ, ◌+◌, ◌*◌, ◌-◌, ◌≤◌, ◌<◌}
use mathlib.Core.Bool.{Bool, true, false, ◌||◌}
use mathlib.Core.List.{List, [], ◌∷◌, ◌++◌}
use mathlib.Core.Path.{◌≡◌, refl, sym, ◌∙◌, ap}
use native.Mathlib.Nat.{add-zero}
use native.Mathlib.Decide.{ℕ_discrete}
use native.Mathlib.Omega.{arith}
use borrow.Author.Tests.{eq-eqb, ne_eqb}
use lib.ListN.{length, take, drop, length-append, get_or-eq_default}
use lib.Seq.{length-take-le}
use Rattle.base.specs.Limits.{word_limit, room_size, room_per_byte, running_text}
use Rattle.base.specs.Grounds.{Check}
use Rattle.std.specs.Prelude.{Ok, Err}
use Rattle.base.specs.declared.Ground.{Ground}
use Rattle.base.proofs.Lists.{never, clash}
use Rattle.rooms.specs.Rooms.{sheet, written, nonzero}
use Rattle.rooms.proofs.Sheets.{sheet_length}
use Rattle.writing.specs.Writing.{hyphenated}
use Rattle.writing.specs.Written.{Fits, Writes}
use Rattle.writing.specs.declared.Writer.{Writer}
use Rattle.writing.proofs.Parts.{written_as, none_written, second_part, both_parts}
use Rattle.writing.proofs.Laws.{word_short, marks_front}
use Rattle.words.specs.Symbols.{letter, apostrophe}
use Rattle.words.specs.Words.{judge_word}
use Rattle.words.proofs.Laws.{word_fits}
use Rattle.hyphenation.specs.Breaks.{break_sheet}
use Rattle.hyphenation.specs.Calls.{judge_room, judge_word_alone, Answered, breaks_sheet, breaks_looks, WordBreaks, Answer, found}
use Rattle.table.specs.Table.{root_base, cells_of}
use Rattle.hyphenation.proofs.Calls.{looks_once}
use Rattle.hyphenation.proofs.Order.{word_alone_ordered, computed}
use Rattle.hyphenation.proofs.Theorems.{breaks_few}
use Rattle.runs.specs.Held.{last_of, but_last, waits, finished}
use Rattle.runs.specs.Reached.{is_fine, is_word, can_be_held}
use Rattle.runs.proofs.Laws.{zero_none, letter_other}
use Rattle.runs.proofs.Reached.{fine_is}
use Rattle.runs.proofs.Words.{good_last}
use Rattle.runs.proofs.Short.{finished_short}
use Rattle.flowing.specs.Output.{break_sign, as_read, broken, word_looks, sum, finished_text, finished_looks}
use Rattle.flowing.specs.Post.{look_limit, Shows, Goes, Finishes}
use Rattle.flowing.specs.declared.Flow.{Flow}

-- a word with its breaks: at most three bytes for each of its own
pub broken_short : (left right : ℕ) (customer house table word : List ℕ) → length (broken left right customer house table word) ≤ room_per_byte * length word
unfolding broken
broken_short left right customer house table word = word_short break_sign (breaks_sheet left right word customer house table) word

-- a judged word, with a break room of its size
module _ (left right : ℕ) (word customer house table marks : List ℕ) (good : judge_word word_limit word ≡ Ok tt) (wide : length marks ≡ room_size) {r : Answer} {after : List ℕ}
    (promise : WordBreaks left right word customer house table marks r after) where
  alone : judge_word_alone word (length marks) ≡ Ok tt
  unfolding judge_word_alone judge_room
  alone = rw (wide, good)

  said : Answered (judge_word_alone word (length marks)) (breaks_sheet left right word customer house table) (breaks_looks word customer house table) marks r after
  said = computed (word_alone_ordered word (length marks)) promise

  finds : r ≡ found (nonzero (breaks_sheet left right word customer house table)) (breaks_looks word customer house table)
  finds = said.answered ∙ rw alone

  -- no word that was judged is refused
  pub not_refused_word : {g : Ground} {A : Type 0} → r ≡ Err g → A
  not_refused_word e = let z : ◌≡◌ {A = Answer} (found (nonzero (breaks_sheet left right word customer house table)) (breaks_looks word customer house table)) (Err _) = sym finds ∙ e in clash cc

  sheet_long : length (breaks_sheet left right word customer house table) ≡ room_size
  unfolding break_sheet sheet
  sheet_long = sheet_length _ 0 room_size

  written_sheet : after ≡ breaks_sheet left right word customer house table ++ drop room_size marks
  unfolding written
  written_sheet = said.memory ∙ rw alone

  pub marks_long : length word ≤ length after
  marks_long = omega (arith, word_fits word_limit word good, ap length written_sheet, sheet_long, length-append (breaks_sheet left right word customer house table) (drop room_size marks))

  shown : hyphenated break_sign after word ≡ broken left right customer house table word
  unfolding broken
  shown =
      ap (λ (m : List ℕ). hyphenated break_sign m word) written_sheet
      ∙ marks_front break_sign (breaks_sheet left right word customer house table) (drop room_size marks) word (omega (arith, word_fits word_limit word good, sheet_long))

  -- with any sign of two bytes
  pub marked_fits : (sign : List ℕ) → length sign ≡ 2 → (at n : ℕ) → at + room_per_byte * length word ≤ n → at + length (hyphenated sign after word) ≤ n
  marked_fits sign two at n h = omega (arith, h, rw two at (word_short sign after word))

  pub word_shows : {marked looks : ℕ} → r ≡ found marked looks → {out then : Writer} → Writes (hyphenated break_sign after word) out then
      → Shows (broken left right customer house table word) (word_looks customer house table word) out looks then
  unfolding word_looks
  word_shows e p =
      let f : found _ _ ≡ found (nonzero (breaks_sheet left right word customer house table)) (breaks_looks word customer house table) = sym e ∙ finds in
      record { put = written_as (sym shown) p; looked = looks_once f }

-- what can be held
module _ (kept : List ℕ) (can : can_be_held kept ≡ true) (some : length kept ≡ 0 → ⊥) where
  pub held_good : (last_of kept ≡ apostrophe → ⊥) → judge_word word_limit kept ≡ Ok tt
  unfolding can_be_held is_word waits
  held_good q =
      let e = rw (ne_eqb (length kept) 0 some, ne_eqb (last_of kept) apostrophe q) at can in
      fine_is (judge_word word_limit kept) (go (is_fine (judge_word word_limit kept)) e)
    where
      go : (z : Bool) → (z || false) ≡ true → z ≡ true
      go true e = refl
      go false e = e

  pub before_good : last_of kept ≡ apostrophe → judge_word word_limit (but_last kept) ≡ Ok tt
  unfolding can_be_held is_word waits
  before_good q =
      let e = rw (ne_eqb (length kept) 0 some, eq-eqb (last_of kept) apostrophe q) at can in
      go (judge_word word_limit kept) refl e
    where
      go : (c : Check) → judge_word word_limit kept ≡ c → (is_fine c || is_fine (judge_word word_limit (but_last kept))) ≡ true → judge_word word_limit (but_last kept) ≡ Ok tt
      go (Ok _) p e = never (sym (letter_other (last_of kept) (good_last kept p)) ∙ eq-eqb (last_of kept) apostrophe q)
      go (Err g) p e = fine_is (judge_word word_limit (but_last kept)) e

none_looks : (customer house table kept : List ℕ) → length kept ≡ 0 → finished_looks customer house table kept ≡ 0
unfolding finished_looks finished sum
none_looks customer house table [] e = refl
none_looks customer house table (b ∷ t) e = absurd (omega (arith, e))

-- what is held, finished
module _ (left right : ℕ) (customer house table : List ℕ) where
  pub none_shows : (kept : List ℕ) (out : Writer) → length kept ≡ 0 → out.at + room_per_byte * length kept ≤ length out.room.now
      → Shows (finished_text left right customer house table kept) (finished_looks customer house table kept) out 0 out
  unfolding finished_text finished_looks finished sum
  none_shows [] out e h = record { put = none_written out (omega (arith, h)); looked = refl }
  none_shows (b ∷ t) out e h = absurd (omega (arith, e))

  one_text : (kept : List ℕ) → (length kept ≡ 0 → ⊥) → (last_of kept ≡ apostrophe → ⊥) → finished_text left right customer house table kept ≡ broken left right customer house table kept
  unfolding finished_text finished waits
  one_text [] n q = absurd (n refl)
  one_text (b ∷ t) n q = rw (ne_eqb (last_of (b ∷ t)) apostrophe q)

  one_looks : (kept : List ℕ) → (length kept ≡ 0 → ⊥) → (last_of kept ≡ apostrophe → ⊥) → finished_looks customer house table kept ≡ word_looks customer house table kept
  unfolding finished_looks finished waits sum
  one_looks [] n q = absurd (n refl)
  one_looks (b ∷ t) n q = rw (ne_eqb (last_of (b ∷ t)) apostrophe q, add-zero (word_looks customer house table (b ∷ t)))

  pub one_shows : (kept : List ℕ) → (length kept ≡ 0 → ⊥) → (last_of kept ≡ apostrophe → ⊥) → {out then : Writer} {r : ℕ}
      → Shows (broken left right customer house table kept) (word_looks customer house table kept) out r then
      → Shows (finished_text left right customer house table kept) (finished_looks customer house table kept) out r then
  one_shows kept n q s = rw (one_text kept n q, one_looks kept n q) s

  two_text : (kept : List ℕ) → (length kept ≡ 0 → ⊥) → last_of kept ≡ apostrophe → finished_text left right customer house table kept ≡ broken left right customer house table (but_last kept) ++ (apostrophe ∷ [])
  unfolding finished_text finished waits
  two_text [] n q = absurd (n refl)
  two_text (b ∷ t) n q = rw (eq-eqb (last_of (b ∷ t)) apostrophe q)

  two_looks : (kept : List ℕ) → (length kept ≡ 0 → ⊥) → last_of kept ≡ apostrophe → finished_looks customer house table kept ≡ word_looks customer house table (but_last kept)
  unfolding finished_looks finished waits sum
  two_looks [] n q = absurd (n refl)
  two_looks (b ∷ t) n q = rw (eq-eqb (last_of (b ∷ t)) apostrophe q, add-zero (word_looks customer house table (but_last (b ∷ t))))

  -- the word before the apostrophe that waits
  module _ (kept : List ℕ) (n : length kept ≡ 0 → ⊥) (q : last_of kept ≡ apostrophe) (out : Writer) (h : out.at + room_per_byte * length kept ≤ length out.room.now) where
    cut_length : length (but_last kept) + 1 ≡ length kept
    cut_length = omega (arith, n, length-take-le (length kept - 1) kept (omega arith))

    both_short : Fits (broken left right customer house table (but_last kept) ++ (apostrophe ∷ [])) out
    both_short = omega (arith, h, cut_length, broken_short left right customer house table (but_last kept), length-append (broken left right customer house table (but_last kept)) (apostrophe ∷ []))

    module _ {shown : ℕ} {then : Writer} (s : Shows (broken left right customer house table (but_last kept)) (word_looks customer house table (but_last kept)) out shown then) where
      pub mark_fits : Fits (apostrophe ∷ []) then
      mark_fits = second_part (broken left right customer house table (but_last kept)) (apostrophe ∷ []) refl out s.put both_short

      pub two_shows : {last : Writer} → Writes (apostrophe ∷ []) then last
          → Shows (finished_text left right customer house table kept) (finished_looks customer house table kept) out shown last
      two_shows p =
          record {
            put = both_parts (broken left right customer house table (but_last kept)) (apostrophe ∷ []) (two_text kept n q) out s.put p;
            looked = s.looked ∙ sym (two_looks kept n q);
          }

-- the last of no bytes
pub last_none : (held : List ℕ) → length held < 1 → false ≡ letter (last_of held)
last_none held h = let z : length held ≤ length held - 1 = omega (arith, h) in sym (ap letter (get_or-eq_default held 0 z) ∙ zero_none)

-- all that is held, and a byte
module _ (b : ℕ) (f : Flow) (out : Writer) (w : f.size ≤ length f.held) (h : out.at + (f.size + 1) ≤ length out.room.now) where
  gone_short : Fits (take f.size f.held ++ (b ∷ [])) out
  gone_short = omega (arith, h, length-take-le f.size f.held w, length-append (take f.size f.held) (b ∷ []))

  module _ {then : Writer} (p : Writes (take f.size f.held) out then) where
    pub byte_fits : Fits (b ∷ []) then
    byte_fits = second_part (take f.size f.held) (b ∷ []) refl out p gone_short

    pub gone_goes : {last : Writer} → Writes (b ∷ []) then last
        → Goes (take f.size f.held ++ (b ∷ [])) 0 0 1 f out (record { held = f.held; size = 0; run = 1; looks = f.looks }) last
    gone_goes q = record { put = both_parts (take f.size f.held) (b ∷ []) refl out p q; looked = sym (add-zero f.looks); sized = refl; ran = refl; held = refl }

-- the looks of a word, and of what is held
word_few : (customer house table word : List ℕ) → judge_word word_limit word ≡ Ok tt → word_looks customer house table word ≤ look_limit
unfolding word_looks
word_few customer house table word good = omega (arith, breaks_few customer house (cells_of table) root_base word, word_fits word_limit word good)

module _ (left right : ℕ) (customer house table : List ℕ) where
  pub held_few : (kept : List ℕ) → can_be_held kept ≡ true → finished_looks customer house table kept ≤ look_limit
  held_few kept can = go (ℕ_discrete (length kept) 0) (ℕ_discrete (last_of kept) apostrophe)
    where
      go : Dec (length kept ≡ 0) → Dec (last_of kept ≡ apostrophe) → finished_looks customer house table kept ≤ look_limit
      go (yes z) d = omega (arith, none_looks customer house table kept z)
      go (no n) (yes q) = rw (two_looks left right customer house table kept n q) (word_few customer house table (but_last kept) (before_good kept can n q))
      go (no n) (no q) = rw (one_looks left right customer house table kept n q) (word_few customer house table kept (held_good kept can n q))

  pub finished_fits : (kept : List ℕ) → length (finished_text left right customer house table kept) ≤ room_per_byte * length kept
  unfolding finished_text
  finished_fits kept = finished_short as_read (broken left right customer house table) (λ b. omega arith) (broken_short left right customer house table) kept

  -- what is held and the byte that ends it
  module _ (b : ℕ) (f : Flow) (out : Writer) (ready : Finishes f out) where
    kept_length : length (take f.size f.held) ≡ f.size
    kept_length = length-take-le f.size f.held ready.within

    ends_short : Fits (finished_text left right customer house table (take f.size f.held) ++ (b ∷ [])) out
    ends_short =
        omega (
          arith,
          kept_length,
          ready.fits,
          finished_fits (take f.size f.held),
          length-append (finished_text left right customer house table (take f.size f.held)) (b ∷ []),
        )

    module _ {shown : ℕ} {then : Writer}
        (s : Shows (finished_text left right customer house table (take f.size f.held)) (finished_looks customer house table (take f.size f.held)) out shown then) where
      pub ending_fits : Fits (b ∷ []) then
      ending_fits = second_part (finished_text left right customer house table (take f.size f.held)) (b ∷ []) refl out s.put ends_short

      pub looks_fit : f.looks + shown ≤ look_limit * running_text
      looks_fit = omega (arith, s.looked, held_few (take f.size f.held) ready.good, ready.few)

      pub finish_goes : {last : Writer} → Writes (b ∷ []) then last
          → Goes (finished_text left right customer house table (take f.size f.held) ++ (b ∷ [])) (finished_looks customer house table (take f.size f.held)) 0 0 f out
          (record { held = f.held; size = 0; run = 0; looks = f.looks + shown }) last
      finish_goes p =
          record {
            put = both_parts (finished_text left right customer house table (take f.size f.held)) (b ∷ []) refl out s.put p;
            looked = ap (λ (n : ℕ). f.looks + n) s.looked;
            sized = refl;
            ran = refl;
            held = refl;
          }
