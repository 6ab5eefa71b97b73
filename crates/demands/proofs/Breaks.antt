-- Demand 2: "Over an accepted table, a word's breaks are those of Liang's method as document 01 states it: the customer's exception
-- line decides, else the house line, else the odd levels inside the margins." What the lists say is told by their own lines. CR 1: of a
-- line only those hyphens count that the margins fit around.
use Prim.Native.Nat.{ℕ, ◌-◌, ◌≤◌, ◌<◌}
use mathlib.Core.Bool.{Bool, true, false}
use mathlib.Core.List.{List}
use mathlib.Core.Logic.{◌⊎◌, inl, inr}
use mathlib.Core.Path.{◌≡◌, refl, sym, ◌∙◌, ap}
use borrow.Author.Tests.{leb-true}
use lib.Dec.{leb}
use lib.ListN.{length, get_or, take}
use Rattle.base.specs.Limits.{room_size, word_limit}
use Rattle.std.specs.Prelude.{Ok, Option, Some, None}
use Rattle.base.proofs.Grounds.{both_fine}
use Rattle.base.proofs.Lists.{clash, never, both}
use Rattle.rooms.specs.Rooms.{written, nonzero, bit}
use Rattle.rooms.proofs.Sheets.{written_low, written_take}
use Rattle.words.specs.Words.{judge_word, inner}
use Rattle.lists.specs.Lists.{judge_lists}
use Rattle.lookup.specs.Find.{find, own_first, find_either, span}
use Rattle.lookup.specs.Listed.{Listed, shown}
use Rattle.lookup.specs.declared.Span.{Span}
use Rattle.lookup.specs.declared.Located.{Located}
use Rattle.lookup.specs.declared.Located.TheVariants.{Customer, House, Nowhere}
use Rattle.lookup.proofs.Theorems.{find_listed, find_unlisted, part_listed, lists_good}
use Rattle.liang.specs.Patterns.{patterns_of}
use Rattle.liang.specs.Levels.{liang}
use Rattle.hyphenation.specs.Breaks.{break_by, is_break, break_sheet, unless_listed, break_looks}
use Rattle.liang.specs.Breaks.{in_margins, line_break, level_break}
use Rattle.table.specs.Table.{root_base, judge_table, cells_of, entries_of}
use Rattle.rightness.specs.Test.{judge_check}
use Rattle.hyphenation.specs.Levels.{level_at, word_looks}
use Rattle.hyphenation.specs.Deciding.{Decided, deciding_line, HyphenCounts}
use Rattle.hyphenation.specs.Calls.{judge_room, judge_margins, judge_hyphenate, breaks_sheet, breaks_looks, Breaks, found}
use Rattle.hyphenation.proofs.Order.{hyphenate_ordered, computed}
use Rattle.hyphenation.proofs.Theorems.{finding}
use Rattle.demands.proofs.Hyphens.{line_counts, counts_line}
use Rattle.demands.proofs.Liang as over
use Rattle.demands.proofs.Accepted.{accepted_paths, patterns_shaped}

-- Which line decides of a word, by the lists' own lines, and whatever its levels.
module _ (word customer house : List ℕ) (left right : ℕ) (level : ℕ → ℕ) where
  module _ (judged : judge_lists customer house ≡ Ok tt) where
    by_customer : (l : Listed word customer) (i : ℕ) → is_break left right customer house level word i ≡ line_break left right (length word) (shown word customer l) i
    unfolding is_break find_either
    by_customer l i =
        rw (find_listed word customer (lists_good customer house judged).0 l) (ap (λ (line : List ℕ). line_break left right (length word) line i) (part_listed word customer l _ _ refl refl))

    by_house : (Listed word customer → ⊥) → (l : Listed word house) (i : ℕ) → is_break left right customer house level word i ≡ line_break left right (length word) (shown word house l) i
    unfolding is_break find_either
    by_house n l i =
        rw (find_unlisted word customer n, find_listed word house (lists_good customer house judged).1 l)
        (ap (λ (line : List ℕ). line_break left right (length word) line i) (part_listed word house l _ _ refl refl))

    by_line_lem : (d : Decided word customer house) (i : ℕ) → is_break left right customer house level word i ≡ line_break left right (length word) (deciding_line word customer house d) i
    by_line_lem (inl l) i = by_customer l i
    by_line_lem (inr (n, l)) i = by_house n l i

  by_levels : (Listed word customer → ⊥) → (Listed word house → ⊥) → (i : ℕ) → is_break left right customer house level word i ≡ level_break left right (length word) level i
  unfolding is_break find_either
  by_levels n m i = rw (find_unlisted word customer n, find_unlisted word house m)

  -- whatever decides, a break has the margins around it
  break_inside : (i : ℕ) → is_break left right customer house level word i ≡ true → in_margins left right (length word) i ≡ true
  unfolding is_break line_break level_break
  break_inside i = go (find_either word customer house)
    where
      go : (l : Located) → break_by l customer house (line_break left right (length word)) (level_break left right (length word) level) i ≡ true → in_margins left right (length word) i ≡ true
      go (Customer start end) e = (both _ _ e).0
      go (House start end) e = (both _ _ e).0
      go Nowhere e = (both _ _ (both (inner (length word) i) _ e).1).0

-- A byte of the room that is 1 exactly where something holds, and else 0.
pub record OneWhere (holds : Type 0) (byte : ℕ) : Type 0 where
  pub one : holds → byte ≡ 1
  pub only : byte ≡ 1 → holds
  pub otherwise : (holds → ⊥) → byte ≡ 0

-- What a line that decides leaves: 1 at the gaps where one of its hyphens counts, the number of these told, and the count 0.
pub record ByLine (left right : ℕ) (line after : List ℕ) (marks looks : ℕ) : Type 0 where
  pub bytes : (i : ℕ) → i < room_size → OneWhere (HyphenCounts left right line i) (get_or after i 0)
  pub number : marks ≡ nonzero (take room_size after)
  pub count : looks ≡ 0

one_where : {holds : Type 0} (test : Bool) {byte : ℕ} → byte ≡ bit test → (test ≡ true → holds) → (holds → test ≡ true) → OneWhere holds byte
one_where true e f g = record { one = λ h. e; only = λ h. f refl; otherwise = λ n. absurd (n (f refl)) }
one_where false e f g = record { one = λ h. never (g h); only = λ h. clash (sym e ∙ h); otherwise = λ n. e }

-- what the promise says of a finding of the hyphenating call
record Finds (left right : ℕ) (word customer house table room after : List ℕ) (marks looks : ℕ) : Type 0 where
  judged : judge_hyphenate left right word customer house table (length room) ≡ Ok tt
  sheet : after ≡ written room_size (breaks_sheet left right word customer house table) room
  number : marks ≡ nonzero (breaks_sheet left right word customer house table)
  count : looks ≡ breaks_looks word customer house table

finds : (left right : ℕ) (word customer house table room after : List ℕ) (marks looks : ℕ) → Breaks left right word customer house table room (found marks looks) after
    → Finds left right word customer house table room after marks looks
finds left right word customer house table room after marks looks b =
    let a = computed (hyphenate_ordered left right word customer house table (length room)) b in
    let f = finding (judge_hyphenate left right word customer house table (length room)) _ _ marks looks a.answered in
    record { judged = f.judged_fine; sheet = a.memory ∙ rw f.judged_fine; number = f.marks_are; count = f.looks_are }

module _ (left right : ℕ) (word customer house table room after : List ℕ) (marks looks : ℕ) (b : Breaks left right word customer house table room (found marks looks) after) where
  finding_of : Finds left right word customer house table room after marks looks
  finding_of = finds left right word customer house table room after marks looks b

  -- a finding's word and lists are good
  pub judged_parts : (judge_word word_limit word ≡ Ok tt) × (judge_lists customer house ≡ Ok tt)
  unfolding judge_hyphenate
  judged_parts =
      let a = both_fine (judge_margins left right) _ finding_of.judged in
      let c = both_fine (judge_room (length room)) _ a.1 in
      let d = both_fine (judge_word word_limit word) _ c.1 in
      (d.0, (both_fine (judge_lists customer house) (judge_table table) d.1).0)

  -- "Over any table, a finding of either call carries the count of document 01's walk"
  pub count_unlisted : (Listed word customer → ⊥) → (Listed word house → ⊥) → looks ≡ word_looks (cells_of table) root_base word
  unfolding break_looks find_either
  count_unlisted n m = finding_of.count ∙ rw (find_unlisted word customer n, find_unlisted word house m)

  -- "but 0 from the hyphenating call where an exception line decides"
  pub count_listed : Listed word customer ⊎ Listed word house → looks ≡ 0
  unfolding break_looks find_either
  count_listed (inl l) = finding_of.count ∙ rw (find_listed word customer (lists_good customer house judged_parts.1).0 l)
  count_listed (inr l) = finding_of.count ∙ none (find word customer) (find word house) (word_looks (cells_of table) root_base word) (find_listed word house (lists_good customer house judged_parts.1).1 l)
    where
      none : (f g : Option Span) (n : ℕ) {start end : ℕ} → g ≡ span start end → unless_listed (own_first f g) n ≡ 0
      none (Some line) g n p = refl
      none None g n p = rw p

  -- "byte i of the room is 1 if gap i is a break, the other bytes up to 63 are 0", over any table
  pub byte_is : (i : ℕ) → i < room_size → get_or after i 0 ≡ bit (is_break left right customer house (level_at (cells_of table) (entries_of table) root_base word) word i)
  unfolding break_sheet
  byte_is i k = rw finding_of.sheet (written_low room_size _ room i k)

  -- "the number of breaks"
  number_is : marks ≡ nonzero (take room_size after)
  unfolding break_sheet
  number_is = finding_of.number ∙ ap nonzero (sym (ap (take room_size) finding_of.sheet ∙ written_take room_size _ room))

  -- CR 1: where a line decides, byte i of the room is 1 exactly where a hyphen of that line stands after i letters with the left
  -- margin's letters before it and the right margin's behind it, over any table. The line decides even where none of its hyphens counts.
  pub listed_breaks : (d : Decided word customer house) → ByLine left right (deciding_line word customer house d) after marks looks
  listed_breaks d = record { bytes = byte; number = number_is; count = count_listed (either d) }
    where
      level : ℕ → ℕ
      level = level_at (cells_of table) (entries_of table) root_base word

      byte : (i : ℕ) → i < room_size → OneWhere (HyphenCounts left right (deciding_line word customer house d) i) (get_or after i 0)
      byte i k =
          one_where (line_break left right (length word) (deciding_line word customer house d) i)
          (byte_is i k ∙ ap bit (by_line_lem word customer house left right level judged_parts.1 d i))
          (line_counts word customer house judged_parts.1 left right i d)
          (counts_line word customer house judged_parts.1 left right i d)

      either : Decided word customer house → Listed word customer ⊎ Listed word house
      either (inl l) = inl l
      either (inr (n, l)) = inr l

  -- Whatever decides and whoever packed the table, no break leaves fewer letters before it or behind it than the margins say.
  pub breaks_inside : (i : ℕ) → i < room_size → get_or after i 0 ≡ 1 → (left ≤ i) × (right ≤ length word - i)
  unfolding in_margins
  breaks_inside i k e =
      let m = break_inside word customer house left right (level_at (cells_of table) (entries_of table) root_base word) i (is_one _ (sym (byte_is i k) ∙ e)) in
      let l = both (leb left i) (leb right (length word - i)) m in
      (leb-true left i l.0, leb-true right (length word - i) l.1)
    where
      is_one : (z : Bool) → bit z ≡ 1 → z ≡ true
      is_one true e = refl
      is_one false e = clash e

  -- over a table that the checker accepts
  module _ (text : List ℕ) (accepted : judge_check text table ≡ Ok tt) where
    -- "byte i of the room is 1 if gap i is a break, the other bytes up to 63 are 0"
    pub breaks_are : (i : ℕ) → i < room_size → get_or after i 0 ≡ bit (is_break left right customer house (liang (patterns_of text) word) word i)
    breaks_are i k =
        rw finding_of.sheet (over.breaks_written (patterns_of text) (cells_of table) (entries_of table) root_base (accepted_paths text table accepted)
        word judged_parts.0 (patterns_shaped text table accepted) left right customer house room i k)

    -- "the customer's exception line decides"
    pub customer_decides : (l : Listed word customer) (i : ℕ) → i < room_size → get_or after i 0 ≡ bit (line_break left right (length word) (shown word customer l) i)
    customer_decides l i k = breaks_are i k ∙ ap bit (by_customer word customer house left right _ judged_parts.1 l i)

    -- "else the house line"
    pub house_decides : (Listed word customer → ⊥) → (l : Listed word house) (i : ℕ) → i < room_size → get_or after i 0 ≡ bit (line_break left right (length word) (shown word house l) i)
    house_decides n l i k = breaks_are i k ∙ ap bit (by_house word customer house left right _ judged_parts.1 n l i)

    -- "else the odd levels inside the margins"; demand 3: "the hyphenating call breaks a word on neither exception list at exactly
    -- those inner gaps inside the margins whose level is odd"
    pub levels_decide : (Listed word customer → ⊥) → (Listed word house → ⊥) → (i : ℕ) → i < room_size
        → get_or after i 0 ≡ bit (level_break left right (length word) (liang (patterns_of text) word) i)
    levels_decide n m i k = breaks_are i k ∙ ap bit (by_levels word customer house left right _ n m i)
