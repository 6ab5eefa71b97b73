-- What the promises of the two calls come to, over any table.
use Prim.Native.Nat.{ℕ, ◌+◌, ◌*◌, ◌-◌, ◌≤◌}
use mathlib.Core.Bool.{Bool}
use mathlib.Core.List.{List, [], ◌∷◌, map}
use mathlib.Core.Path.{◌≡◌, refl, sym, ◌∙◌, ap}
use native.Mathlib.Omega.{arith}
use lib.ListN.{length, take, drop}
use Rattle.base.specs.Limits.{pattern_limit, word_limit}
use Rattle.base.specs.Grounds.{first, Check}
use Rattle.std.specs.Prelude.{Ok, Err, Option, Some, None}
use Rattle.base.proofs.Lists.{clash}
use Rattle.rooms.specs.Rooms.{sheet, nonzero, bit}
use Rattle.rooms.proofs.Sheets.{sheet_same}
use Rattle.words.specs.Symbols.{lower}
use Rattle.words.specs.Words.{judge_word, row_of}
use Rattle.words.proofs.Laws.{row_length}
use Rattle.words.proofs.Theorems.{same_judgement, same_symbols, same_length}
use Rattle.lists.specs.Lists.{judge_lists}
use Rattle.lookup.specs.Find.{find, own_first, find_either}
use Rattle.lookup.specs.declared.Span.{Span}
use Rattle.lookup.specs.declared.Located.{Located}
use Rattle.lookup.specs.declared.Located.TheVariants.{Customer, House, Nowhere}
use Rattle.hyphenation.specs.Breaks.{break_by, is_break, break_sheet, unless_listed, break_looks}
use Rattle.liang.specs.Breaks.{line_break, level_break}
use Rattle.table.specs.Table.{root_base, judge_table, cells_of, entries_of}
use Rattle.walk.specs.Walk.{looks}
use Rattle.walk.proofs.Count.{looks_few}
use Rattle.hyphenation.specs.Levels.{level_at, level_sheet, word_looks}
use Rattle.hyphenation.specs.Calls.{judge_room, judge_margins, judge_levels, judge_hyphenate, judge_word_alone, answer, Levels, Breaks, WordBreaks, Answer, found}
use Rattle.hyphenation.proofs.Calls.{marks_once, looks_once}
use Rattle.hyphenation.proofs.Order.{levels_ordered, hyphenate_ordered, word_alone_ordered, promised, computed}

-- what it says that an answer is a finding
pub record Finding (judged : Check) (sheet : List ℕ) (count marks looks : ℕ) : Type 0 where
  pub judged_fine : judged ≡ Ok tt
  pub marks_are : marks ≡ nonzero sheet
  pub looks_are : looks ≡ count

pub finding : (judged : Check) (sheet : List ℕ) (count marks looks : ℕ) → found marks looks ≡ answer judged sheet count → Finding judged sheet count marks looks
finding (Ok _) sheet count marks looks e = record { judged_fine = refl; marks_are = marks_once e; looks_are = looks_once e }
finding (Err g) sheet count marks looks e = clash cc

pub word_few : (cells : List ℕ) (root : ℕ) (word : List ℕ) → word_looks cells root word ≤ pattern_limit * (length word + 2)
unfolding word_looks
word_few cells root word = omega (arith, looks_few cells root (row_of word), row_length word)

-- "Over any table, a finding of either call carries the count of document 01's walk": at most 16(n + 2) looks.
module _ (word table room after : List ℕ) (marks looks : ℕ) (l : Levels word table room (found marks looks) after) where
  pub levels_count : looks ≡ word_looks (cells_of table) root_base word
  levels_count =
      (finding (judge_levels word table (length room)) (level_sheet (cells_of table) (entries_of table) root_base word) _ _ _ (computed (levels_ordered word table (length room)) l).answered).looks_are

  pub levels_limit : looks ≤ pattern_limit * (length word + 2)
  levels_limit = omega (arith, levels_count, word_few (cells_of table) root_base word)

listed_few : (l : Located) (n m : ℕ) → n ≤ m → unless_listed l n ≤ m
listed_few (Customer s e) n m h = omega arith
listed_few (House s e) n m h = omega arith
listed_few Nowhere n m h = h

pub breaks_few : (customer house cells : List ℕ) (root : ℕ) (word : List ℕ) → break_looks customer house cells root word ≤ pattern_limit * (length word + 2)
unfolding break_looks
breaks_few customer house cells root word = listed_few (find_either word customer house) (word_looks cells root word) (pattern_limit * (length word + 2)) (word_few cells root word)

-- the same for the hyphenating call, whether an exception line decides or not
module _ (left right : ℕ) (word customer house table room after : List ℕ) (marks looks : ℕ) (b : Breaks left right word customer house table room (found marks looks) after) where
  breaks_count : looks ≡ break_looks customer house (cells_of table) root_base word
  breaks_count =
      (finding (judge_hyphenate left right word customer house table (length room)) (break_sheet left right customer house (cells_of table) (entries_of table) root_base word) _ _ _ (computed (hyphenate_ordered left right word customer house table (length room)) b).answered).looks_are

  pub breaks_limit : looks ≤ pattern_limit * (length word + 2)
  breaks_limit = omega (arith, breaks_count, breaks_few customer house (cells_of table) root_base word)

-- a break asks the levels at its own gap alone
pub break_same : (l m : Located) (customer house : List ℕ) (by_line : List ℕ → ℕ → Bool) (f g : ℕ → Bool) (i : ℕ) → l ≡ m → f i ≡ g i
    → break_by l customer house by_line f i ≡ break_by m customer house by_line g i
break_same l m customer house by_line f g i e h = rw e (go m)
  where
    go : (k : Located) → break_by k customer house by_line f i ≡ break_by k customer house by_line g i
    go (Customer start end) = refl
    go (House start end) = refl
    go Nowhere = h

-- "Capitals count as small": words that differ only in case get the same answer and the same room.
module _ (word other : List ℕ) (letters : map lower word ≡ map lower other) where
  same_row : row_of word ≡ row_of other
  unfolding row_of
  same_row = rw (same_symbols word other letters)

  same_at : (cells entries : List ℕ) (root i : ℕ) → level_at cells entries root word i ≡ level_at cells entries root other i
  unfolding level_at
  same_at cells entries root i = rw (same_row, same_length word other letters)

  same_levels_lem : (cells entries : List ℕ) (root : ℕ) → level_sheet cells entries root word ≡ level_sheet cells entries root other
  unfolding level_sheet
  same_levels_lem cells entries root = sheet_same _ _ _ (λ i h. same_at cells entries root i)

  same_looks : (cells : List ℕ) (root : ℕ) → word_looks cells root word ≡ word_looks cells root other
  unfolding word_looks
  same_looks cells root = rw same_row

  same_found : (customer house : List ℕ) → find_either word customer house ≡ find_either other customer house
  unfolding find_either find
  same_found customer house = rw (same_symbols word other letters)

  same_breaks : (left right : ℕ) (customer house cells entries : List ℕ) (root : ℕ)
      → break_sheet left right customer house cells entries root word ≡ break_sheet left right customer house cells entries root other
  unfolding break_sheet is_break level_break
  same_breaks left right customer house cells entries root =
      rw (same_length word other letters) (sheet_same _ _ _
      (λ i h. ap bit (break_same (find_either word customer house) (find_either other customer house) customer house (line_break left right (length other)) _ _ i (same_found customer house)
      (rw (same_at cells entries root i)))))

  same_count : (customer house cells : List ℕ) (root : ℕ) → break_looks customer house cells root word ≡ break_looks customer house cells root other
  unfolding break_looks
  same_count customer house cells root = rw (same_found customer house, same_looks cells root)

  pub levels_case : (table room : List ℕ) {r s : Answer} {after after' : List ℕ} → Levels word table room r after → Levels other table room s after' → (r ≡ s) × (after ≡ after')
  unfolding judge_levels
  levels_case table room p q =
      let a = computed (levels_ordered word table (length room)) p in
      let b = computed (levels_ordered other table (length room)) q in
      let j : judge_levels word table (length room) ≡ judge_levels other table (length room) = rw (same_judgement word other letters word_limit) in (
        a.answered ∙ rw (j, same_levels_lem (cells_of table) (entries_of table) root_base, same_looks (cells_of table) root_base) (sym b.answered),
        a.memory ∙ rw (j, same_levels_lem (cells_of table) (entries_of table) root_base) (sym b.memory),
      )

  pub breaks_case : (left right : ℕ) (customer house table room : List ℕ) {r s : Answer} {after after' : List ℕ}
      → Breaks left right word customer house table room r after → Breaks left right other customer house table room s after' → (r ≡ s) × (after ≡ after')
  unfolding judge_hyphenate
  breaks_case left right customer house table room p q =
      let a = computed (hyphenate_ordered left right word customer house table (length room)) p in
      let b = computed (hyphenate_ordered left right other customer house table (length room)) q in
      let j : judge_hyphenate left right word customer house table (length room) ≡ judge_hyphenate left right other customer house table (length room) = rw (same_judgement word other letters word_limit) in (
        a.answered ∙ rw (j, same_breaks left right customer house (cells_of table) (entries_of table) root_base, same_count customer house (cells_of table) root_base) (sym b.answered),
        a.memory ∙ rw (j, same_breaks left right customer house (cells_of table) (entries_of table) root_base) (sym b.memory),
      )

-- The word's line in one list, as a list of none or one.
pub own_line : List ℕ → Option Span → List (List ℕ)
own_line text (Some line) = take (line.end - line.start) (drop line.start text) ∷ []
own_line text None = []

-- two lists agree on a word: both have no line for it, or both have the same
pub Agree : (word text text' : List ℕ) → Type 0
Agree word text text' = own_line text (find word text) ≡ own_line text' (find word text')

lines_decide : (f o f' o' : Option Span) (c h c' h' : List ℕ) (by_line : List ℕ → ℕ → Bool) (by_level : ℕ → Bool) (i : ℕ) → own_line c f ≡ own_line c' f' → own_line h o ≡ own_line h' o'
    → break_by (own_first f o) c h by_line by_level i ≡ break_by (own_first f' o') c' h' by_line by_level i
unfolding own_line
lines_decide (Some line) o (Some other) o' c h c' h' by_line by_level i p q = let l : take (line.end - line.start) (drop line.start c) ≡ take (other.end - other.start) (drop other.start c') = cc in rw l
lines_decide (Some line) o None o' c h c' h' by_line by_level i p q = clash cc
lines_decide None o (Some line) o' c h c' h' by_line by_level i p q = clash cc
lines_decide None (Some line) None (Some other) c h c' h' by_line by_level i p q = let l : take (line.end - line.start) (drop line.start h) ≡ take (other.end - other.start) (drop other.start h') = cc in rw l
lines_decide None (Some line) None None c h c' h' by_line by_level i p q = clash cc
lines_decide None None None (Some line) c h c' h' by_line by_level i p q = clash cc
lines_decide None None None None c h c' h' by_line by_level i p q = refl

lines_count : (f o f' o' : Option Span) (c h c' h' : List ℕ) (n : ℕ) → own_line c f ≡ own_line c' f' → own_line h o ≡ own_line h' o'
    → unless_listed (own_first f o) n ≡ unless_listed (own_first f' o') n
unfolding own_line
lines_count (Some line) o (Some other) o' c h c' h' n p q = refl
lines_count (Some line) o None o' c h c' h' n p q = clash cc
lines_count None o (Some line) o' c h c' h' n p q = clash cc
lines_count None (Some line) None (Some other) c h c' h' n p q = refl
lines_count None (Some line) None None c h c' h' n p q = clash cc
lines_count None None None (Some line) c h c' h' n p q = clash cc
lines_count None None None None c h c' h' n p q = refl

-- "Other lines don't matter: two sets of good lists that agree on a word's lines, or on having none, give it the same breaks and
-- count over the same table and margins."
module _ (word c h c' h' : List ℕ) (own : Agree word c c') (other : Agree word h h') where
  agree_breaks : (left right : ℕ) (cells entries : List ℕ) (root : ℕ) → break_sheet left right c h cells entries root word ≡ break_sheet left right c' h' cells entries root word
  unfolding break_sheet is_break find_either Agree
  agree_breaks left right cells entries root =
      sheet_same _ _ _ (λ i k. ap bit (lines_decide (find word c) (find word h) (find word c') (find word h') c h c' h' (line_break left right (length word)) (level_break left right (length word) (level_at cells entries root word)) i own other))

  agree_count : (cells : List ℕ) (root : ℕ) → break_looks c h cells root word ≡ break_looks c' h' cells root word
  unfolding break_looks find_either Agree
  agree_count cells root = lines_count (find word c) (find word h) (find word c') (find word h') c h c' h' (word_looks cells root word) own other

  pub other_lines : (left right : ℕ) (table room : List ℕ) {r s : Answer} {after after' : List ℕ} → judge_lists c h ≡ Ok tt → judge_lists c' h' ≡ Ok tt
      → Breaks left right word c h table room r after → Breaks left right word c' h' table room s after' → (r ≡ s) × (after ≡ after')
  unfolding judge_hyphenate
  other_lines left right table room g g' p q =
      let a = computed (hyphenate_ordered left right word c h table (length room)) p in
      let b = computed (hyphenate_ordered left right word c' h' table (length room)) q in
      let j : judge_hyphenate left right word c h table (length room) ≡ judge_hyphenate left right word c' h' table (length room) = rw (g, g') in (
        a.answered ∙ rw (j, agree_breaks left right (cells_of table) (entries_of table) root_base, agree_count (cells_of table) root_base) (sym b.answered),
        a.memory ∙ rw (j, agree_breaks left right (cells_of table) (entries_of table) root_base) (sym b.memory),
      )

-- Judged once: over margins, lists and a table that were judged good, the call for a word alone keeps the promise of the
-- hyphenating call.
alone : (judged : Check) → first judged (Ok tt) ≡ judged
alone (Ok _) = refl
alone (Err g) = refl

pub judged_once : (left right : ℕ) (word customer house table room : List ℕ) {r : Answer} {after : List ℕ}
    → judge_margins left right ≡ Ok tt → judge_lists customer house ≡ Ok tt → judge_table table ≡ Ok tt
    → WordBreaks left right word customer house table room r after → Breaks left right word customer house table room r after
unfolding judge_hyphenate judge_word_alone
judged_once left right word customer house table room m l t w =
    let e : judge_hyphenate left right word customer house table (length room) ≡ judge_word_alone word (length room) = rw (m, l, t) (ap (first (judge_room (length room))) (alone (judge_word word_limit word))) in
    promised (hyphenate_ordered left right word customer house table (length room)) (rw e (computed (word_alone_ordered word (length room)) w))
