-- "Unreached cells and entries may hold anything in their bodies": tables that agree on all that they reach are judged alike with
-- every list, and the calls answer alike over them, checked or not.
use Prim.Native.Nat.{ℕ, ◌+◌, ◌*◌, ◌<◌}
use mathlib.Core.Bool.{true, not}
use mathlib.Core.List.{List}
use mathlib.Core.Logic.{◌⊎◌, inl, inr, ◌↔◌}
use mathlib.Core.Path.{◌≡◌, refl, sym, ◌∙◌, ap}
use native.Mathlib.Omega.{arith}
use lib.ListN.{length, drop, length-take, length-drop}
use Rattle.base.specs.Limits.{word_limit}
use Rattle.base.specs.Grounds.{first, refuse_if, Check}
use Rattle.std.specs.Prelude.{Ok, Err}
use Rattle.base.specs.declared.Ground.TheVariants.{NotRight}
use Rattle.base.proofs.Lists.{test_iff}
use Rattle.rooms.specs.Rooms.{bit}
use Rattle.rooms.proofs.Sheets.{sheet_same}
use Rattle.words.specs.Words.{judge_word, row_of}
use Rattle.lists.specs.Lists.{judge_patterns}
use Rattle.lookup.specs.Find.{find_either}
use Rattle.liang.specs.Patterns.{Pattern, patterns_of}
use Rattle.hyphenation.specs.Breaks.{is_break, break_sheet, break_looks}
use Rattle.liang.specs.Breaks.{level_break}
use Rattle.patterns.specs.Strings.{nth, Shaped, Sorted}
use Rattle.patterns.proofs.Good.{good_sorted, good_patterns}
use Rattle.table.proofs.Parts.{cells_length, entries_length}
use Rattle.table.specs.Table.{root_base, head_size, cell_size, number_at, cell_count, entry_count, formed, judge_table, cells_from, entries_from, cells_of, entries_of}
use Rattle.walk.specs.Walk.{settings}
use Rattle.rightness.specs.Right.{Kinds, PathsRight}
use Rattle.rightness.specs.Test.{kinds_test, paths_test, right_test, right_for, judge_check}
use Rattle.trie.specs.Reached.{AgreeReached}
use Rattle.matching.proofs.Unreached.{settings_alike, counts_alike, paths_right_of}
use Rattle.decision.proofs.Loops.{kinds_tell}
use Rattle.decision.proofs.Test.{paths_tell}
use Rattle.hyphenation.specs.Levels.{level_at, level_sheet, word_looks}
use Rattle.hyphenation.specs.Calls.{judge_levels, judge_hyphenate, answer, room_after, levels_answer, levels_room, breaks_sheet, breaks_looks, breaks_answer, breaks_room}
use Rattle.hyphenation.proofs.Calls.{levels_sizes, breaks_sizes}
use Rattle.hyphenation.proofs.Theorems.{break_same}
use Rattle.demands.proofs.Liang.{row_symbols}

-- tables that agree in this way agree in this way the other way round
turned : {root : ℕ} {table other : List ℕ} → AgreeReached root table other → AgreeReached root other table
turned {root} {table} {other} a =
    record {
      size = sym a.size;
      head = λ i l. sym (a.head i l);
      cell_kinds = λ n. sym (a.cell_kinds n);
      entry_kinds = λ k. sym (a.entry_kinds k);
      cells = λ n r i l. sym (a.cells n (swap r) i l);
      entries = λ k r i l. sym (a.entries k (swap r) i l);
    }
  where
    swap : {A B : Type 0} → A ⊎ B → B ⊎ A
    swap (inl x) = inr x
    swap (inr y) = inl y

module _ (root : ℕ) (table other : List ℕ) (a : AgreeReached root table other) where
  same_cells : cell_count table ≡ cell_count other
  unfolding cell_count number_at
  same_cells = rw (a.head 2 (omega arith), a.head 3 (omega arith))

  same_entries : entry_count table ≡ entry_count other
  unfolding entry_count number_at
  same_entries = rw (a.head 4 (omega arith), a.head 5 (omega arith))

  -- ground 9 asks length and head alone
  table_alike : judge_table table ≡ judge_table other
  unfolding judge_table formed
  table_alike = rw (a.size, a.head 0 (omega arith), a.head 1 (omega arith), same_cells, same_entries)

  cells_size : length (cells_of table) ≡ length (cells_of other)
  unfolding cells_of cells_from
  cells_size =
      omega (
        arith,
        length-take (cell_size * cell_count table) (drop head_size table),
        length-take (cell_size * cell_count other) (drop head_size other),
        length-drop head_size table,
        length-drop head_size other,
        a.size,
        same_cells,
      )

  entries_size : length (entries_of table) ≡ length (entries_of other)
  unfolding entries_of entries_from
  entries_size =
      omega (
        arith,
        length-drop (head_size + cell_size * cell_count table) table,
        length-drop (head_size + cell_size * cell_count other) other,
        a.size,
        same_cells,
      )

  kinds_alike : Kinds (cells_of table) (entries_of table) → Kinds (cells_of other) (entries_of other)
  kinds_alike k =
      record {
        of_cells = λ n l. sym (a.cell_kinds n) ∙ k.of_cells n (omega (arith, l, cells_size));
        of_entries = λ n l. sym (a.entry_kinds n) ∙ k.of_entries n (omega (arith, l, entries_size));
      }

  paths_alike : (patterns : List Pattern) → PathsRight patterns (cells_of table) (entries_of table) root → PathsRight patterns (cells_of other) (entries_of other) root
  paths_alike = paths_right_of (cells_of table) (cells_of other) (entries_of table) (entries_of other) cells_size entries_size root a.cells a.entries

module _ (root : ℕ) (table other : List ℕ) (a : AgreeReached root table other) where
  -- The checker's tests say the same of both: that of the kinds,
  pub kinds_test_alike : judge_table table ≡ Ok tt → judge_table other ≡ Ok tt
      → kinds_test (cells_of table) (entries_of table) (cell_count table) (entry_count table) ≡ kinds_test (cells_of other) (entries_of other) (cell_count other) (entry_count other)
  kinds_test_alike f g =
      test_iff _ _ (λ t. (tell other g).1 (kinds_alike root table other a ((tell table f).0 t))) (λ t. (tell table f).1 (kinds_alike root other table (turned a) ((tell other g).0 t)))
    where
      tell : (t : List ℕ) → judge_table t ≡ Ok tt → (kinds_test (cells_of t) (entries_of t) (cell_count t) (entry_count t) ≡ true) ↔ Kinds (cells_of t) (entries_of t)
      tell t fine = kinds_tell _ _ _ _ (cells_length t fine) (entries_length t fine)

  -- and that of a list's paths, whatever the list.
  pub paths_test_alike : (patterns : List Pattern) → Sorted patterns → ((i : ℕ) → i < length patterns → Shaped (nth patterns i))
      → paths_test patterns (cells_of table) (entries_of table) root ≡ paths_test patterns (cells_of other) (entries_of other) root
  paths_test_alike patterns sorted shaped =
      test_iff _ _
      (λ t. (tell other).1 (paths_alike root table other a patterns ((tell table).0 t)))
      (λ t. (tell table).1 (paths_alike root other table (turned a) patterns ((tell other).0 t)))
    where
      tell : (t : List ℕ) → (paths_test patterns (cells_of t) (entries_of t) root ≡ true) ↔ PathsRight patterns (cells_of t) (entries_of t) root
      tell t = paths_tell patterns (cells_of t) (entries_of t) root sorted shaped

-- So does the checker.
pub checked_alike : (text table other : List ℕ) → AgreeReached 0 table other → judge_check text table ≡ judge_check text other
unfolding judge_check right_test
checked_alike text table other a = rw (← (table_alike 0 table other a)) (go (judge_patterns text) refl (judge_table table) refl)
  where
    go : (p : Check) → judge_patterns text ≡ p → (q : Check) → judge_table table ≡ q
        → first p (first q (refuse_if (not (right_for text table)) NotRight)) ≡ first p (first q (refuse_if (not (right_for text other)) NotRight))
    go (Err g) e q f = refl
    go (Ok _) e (Err g) f = refl
    go (Ok _) e (Ok _) f =
        rw (
          kinds_test_alike 0 table other a f (sym (table_alike 0 table other a) ∙ f),
          paths_test_alike 0 table other a (patterns_of text) (good_sorted text e) (good_patterns text e),
        )

-- an answer, and a room, by what a judgement that refuses nothing leads to
answer_alike : (judged judged' : Check) (sheet sheet' : List ℕ) (count count' : ℕ) → judged ≡ judged' → (judged ≡ Ok tt → (sheet ≡ sheet') × (count ≡ count'))
    → answer judged sheet count ≡ answer judged' sheet' count'
answer_alike (Ok _) judged' sheet sheet' count count' e f = let s = f refl in rw (← e, s.0, s.1)
answer_alike (Err g) judged' sheet sheet' count count' e f = rw (← e)

room_alike : (judged judged' : Check) (sheet sheet' room : List ℕ) → judged ≡ judged' → (judged ≡ Ok tt → sheet ≡ sheet') → room_after judged sheet room ≡ room_after judged' sheet' room
room_alike (Ok _) judged' sheet sheet' room e f = rw (← e, f refl)
room_alike (Err g) judged' sheet sheet' room e f = rw (← e)

-- "Over any table, checked or not": the levels of a word, its count and its breaks are the same over both, from any root.
module _ (root : ℕ) (table other : List ℕ) (a : AgreeReached root table other) (word : List ℕ) (fine : judge_word word_limit word ≡ Ok tt) where
  level_alike : (i : ℕ) → level_at (cells_of table) (entries_of table) root word i ≡ level_at (cells_of other) (entries_of other) root word i
  unfolding level_at
  level_alike i = rw settings_over
    where
      settings_over : settings (cells_of table) (entries_of table) root 0 (row_of word) ≡ settings (cells_of other) (entries_of other) root 0 (row_of word)
      settings_over =
          settings_alike (cells_of table) (cells_of other) (entries_of table) (entries_of other) (cells_size root table other a) (entries_size root table other a) root
          a.cells a.entries 0 (row_of word) (row_symbols word_limit word fine)

  pub levels_alike : level_sheet (cells_of table) (entries_of table) root word ≡ level_sheet (cells_of other) (entries_of other) root word
  unfolding level_sheet
  levels_alike = sheet_same _ _ _ (λ i k. level_alike i)

  pub looks_alike : word_looks (cells_of table) root word ≡ word_looks (cells_of other) root word
  unfolding word_looks
  looks_alike =
      counts_alike (cells_of table) (cells_of other) (entries_of table) (entries_of other) (cells_size root table other a) (entries_size root table other a) root
      a.cells a.entries (row_of word) (row_symbols word_limit word fine)

  pub breaks_alike : (left right : ℕ) (customer house : List ℕ)
      → break_sheet left right customer house (cells_of table) (entries_of table) root word ≡ break_sheet left right customer house (cells_of other) (entries_of other) root word
  unfolding break_sheet is_break level_break
  breaks_alike left right customer house =
      sheet_same _ _ _ (λ i k. ap bit (break_same (find_either word customer house) (find_either word customer house) customer house _ _ _ i refl (rw (level_alike i))))

-- The calls say and write the same over both, whatever the word.
module _ (table other : List ℕ) (a : AgreeReached root_base table other) where
  module _ (word : List ℕ) (fine : judge_word word_limit word ≡ Ok tt) where
    pub level_sheet_alike : level_sheet (cells_of table) (entries_of table) root_base word ≡ level_sheet (cells_of other) (entries_of other) root_base word
    level_sheet_alike = levels_alike root_base table other a word fine

    pub word_looks_alike : word_looks (cells_of table) root_base word ≡ word_looks (cells_of other) root_base word
    word_looks_alike = looks_alike root_base table other a word fine

    pub break_sheet_alike : (left right : ℕ) (customer house : List ℕ) → breaks_sheet left right word customer house table ≡ breaks_sheet left right word customer house other
    break_sheet_alike = breaks_alike root_base table other a word fine

    pub break_looks_alike : (customer house : List ℕ) → breaks_looks word customer house table ≡ breaks_looks word customer house other
    unfolding break_looks
    break_looks_alike customer house = rw word_looks_alike

  -- the levels call
  module _ (word : List ℕ) where
    judge_levels_alike : (size : ℕ) → judge_levels word table size ≡ judge_levels word other size
    unfolding judge_levels
    judge_levels_alike size = rw (table_alike root_base table other a)

    levels_word : (size : ℕ) → judge_levels word table size ≡ Ok tt → judge_word word_limit word ≡ Ok tt
    levels_word size e = (levels_sizes word table size refl e).0

    pub levels_answer_alike : (size : ℕ) → levels_answer word table size ≡ levels_answer word other size
    levels_answer_alike size =
        answer_alike _ _ _ _ _ _ (judge_levels_alike size) (λ e. (level_sheet_alike word (levels_word size e), word_looks_alike word (levels_word size e)))

    pub levels_room_alike : (room : List ℕ) → levels_room word table room ≡ levels_room word other room
    levels_room_alike room = room_alike _ _ _ _ room (judge_levels_alike (length room)) (λ e. level_sheet_alike word (levels_word (length room) e))

  -- the hyphenating call
  module _ (left right : ℕ) (word customer house : List ℕ) where
    judge_breaks_alike : (size : ℕ) → judge_hyphenate left right word customer house table size ≡ judge_hyphenate left right word customer house other size
    unfolding judge_hyphenate
    judge_breaks_alike size = rw (table_alike root_base table other a)

    breaks_word : (size : ℕ) → judge_hyphenate left right word customer house table size ≡ Ok tt → judge_word word_limit word ≡ Ok tt
    breaks_word size e = (breaks_sizes left right word customer house table size refl e).0

    pub breaks_answer_alike : (size : ℕ) → breaks_answer left right word customer house table size ≡ breaks_answer left right word customer house other size
    breaks_answer_alike size =
        answer_alike _ _ _ _ _ _ (judge_breaks_alike size)
        (λ e. (break_sheet_alike word (breaks_word size e) left right customer house, break_looks_alike word (breaks_word size e) customer house))

    pub breaks_room_alike : (room : List ℕ) → breaks_room left right word customer house table room ≡ breaks_room left right word customer house other room
    breaks_room_alike room =
        room_alike _ _ _ _ room (judge_breaks_alike (length room)) (λ e. break_sheet_alike word (breaks_word (length room) e) left right customer house)
