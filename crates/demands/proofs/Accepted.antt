-- Over a table that the checker accepts with a list, the calls do what Liang's method says of the list.
use Prim.Native.Nat.{ℕ, ◌<◌}
use mathlib.Core.Bool.{true}
use mathlib.Core.List.{List}
use mathlib.Core.Path.{◌≡◌, ◌∙◌}
use lib.ListN.{length, get_or, drop}
use Rattle.base.specs.Limits.{pattern_limit, room_size, word_limit}
use Rattle.std.specs.Prelude.{Ok}
use Rattle.base.proofs.Grounds.{both_fine}
use Rattle.rooms.specs.Rooms.{written}
use Rattle.words.specs.Words.{judge_word, row_of, inner}
use Rattle.liang.specs.Patterns.{patterns_of}
use Rattle.liang.specs.Levels.{liang}
use Rattle.table.specs.Table.{root_base, judge_table, cells_of, entries_of}
use Rattle.walk.specs.Walk.{looks_from}
use Rattle.patterns.specs.Strings.{nth, Shaped}
use Rattle.patterns.proofs.Good.{good_patterns}
use Rattle.rightness.specs.Right.{PathsRight, Right}
use Rattle.rightness.specs.Test.{judge_check}
use Rattle.matching.specs.Longest.{longest}
use Rattle.matching.proofs.Looks.{Looked}
use Rattle.decision.proofs.Theorems.{acceptance}
use Rattle.hyphenation.specs.Levels.{level_at, level_sheet, word_looks}
use Rattle.hyphenation.specs.Calls.{judge_room, judge_levels, Answered, Levels, found}
use Rattle.hyphenation.proofs.Order.{levels_ordered, computed}
use Rattle.hyphenation.proofs.Theorems.{Finding, finding}
use Rattle.demands.proofs.Liang as over

-- what it says that the checker accepts
module _ (text table : List ℕ) (accepted : judge_check text table ≡ Ok tt) where
  pub accepted_right : Right (patterns_of text) (cells_of table) (entries_of table) root_base
  accepted_right = ((acceptance text table).0 accepted).2

  pub accepted_paths : PathsRight (patterns_of text) (cells_of table) (entries_of table) root_base
  accepted_paths = accepted_right.paths

  pub patterns_shaped : (i : ℕ) → i < length (patterns_of text) → Shaped (nth (patterns_of text) i)
  patterns_shaped = good_patterns text ((acceptance text table).0 accepted).0

  -- the level that the table gives to an inner gap is the one of Liang's method
  pub level_liang : (word : List ℕ) → judge_word word_limit word ≡ Ok tt → (i : ℕ) → inner (length word) i ≡ true
      → level_at (cells_of table) (entries_of table) root_base word i ≡ liang (patterns_of text) word i
  level_liang word fine = over.level_liang (patterns_of text) (cells_of table) (entries_of table) root_base accepted_paths word fine patterns_shaped

  -- "the levels call gives each inner gap of a word the highest level that a pattern of the list sets there, or 0 if none does"
  module _ (word room after : List ℕ) (marks looks : ℕ) (l : Levels word table room (found marks looks) after) where
    levels_computed : Answered (judge_levels word table (length room)) (level_sheet (cells_of table) (entries_of table) root_base word) (word_looks (cells_of table) root_base word) room (found marks looks) after
    levels_computed = computed (levels_ordered word table (length room)) l

    levels_finding : Finding (judge_levels word table (length room)) (level_sheet (cells_of table) (entries_of table) root_base word) (word_looks (cells_of table) root_base word) marks looks
    levels_finding = finding (judge_levels word table (length room)) _ _ marks looks levels_computed.answered

    levels_word : judge_word word_limit word ≡ Ok tt
    unfolding judge_levels
    levels_word = (both_fine (judge_word word_limit word) (judge_table table) (both_fine (judge_room (length room)) _ levels_finding.judged_fine).1).0

    levels_sheet : after ≡ written room_size (level_sheet (cells_of table) (entries_of table) root_base word) room
    levels_sheet = levels_computed.memory ∙ rw levels_finding.judged_fine

    pub levels_are_liang : (i : ℕ) → inner (length word) i ≡ true → i < room_size → get_or after i 0 ≡ liang (patterns_of text) word i
    levels_are_liang i h k =
        rw levels_sheet (over.levels_written (patterns_of text) (cells_of table) (entries_of table) root_base accepted_paths word levels_word patterns_shaped room i h k)

  -- "at each place in the row at most one more than the symbols in the longest beginning of a pattern standing there": m or m + 1,
  -- at least 1 and at most 16
  pub looks_at_place : (word : List ℕ) → judge_word word_limit word ≡ Ok tt → (place : ℕ) → place < length (row_of word)
      → Looked (longest (patterns_of text) (drop place (row_of word))) (looks_from (cells_of table) pattern_limit root_base (drop place (row_of word)))
  looks_at_place word fine = over.looks_at_place (patterns_of text) (cells_of table) (entries_of table) root_base accepted_paths word fine
