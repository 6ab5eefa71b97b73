-- What the walks from the places of a word's row come to: how many symbols match from each over an accepted table, and over any
-- table the count that a finding carries.
use Prim.Native.Nat.{ℕ, ◌+◌}
use mathlib.Core.List.{List}
use mathlib.Core.Path.{◌≡◌, ◌∙◌}
use lib.ListN.{length, drop}
use Rattle.base.specs.Limits.{pattern_limit, word_limit}
use Rattle.std.specs.Prelude.{Ok}
use Rattle.words.specs.Words.{judge_word, row_of}
use Rattle.words.proofs.Laws.{row_length}
use Rattle.lookup.specs.Listed.{Listed}
use Rattle.liang.specs.Patterns.{patterns_of}
use Rattle.table.specs.Table.{root_base, cells_of, entries_of}
use Rattle.walk.specs.Walk.{looks_from, matches_from, sum_to}
use Rattle.walk.proofs.Count.{looks_sum}
use Rattle.rightness.specs.Test.{judge_check}
use Rattle.matching.specs.Longest.{longest}
use Rattle.hyphenation.specs.Levels.{word_looks}
use Rattle.hyphenation.specs.Calls.{Levels, Breaks, found}
use Rattle.hyphenation.proofs.Theorems.{levels_count}
use Rattle.demands.proofs.Liang as over
use Rattle.demands.proofs.Accepted.{accepted_paths}
use Rattle.demands.proofs.Breaks.{count_unlisted}

-- "Over a right table, let m be the length of the longest beginning of a pattern that stands at a place, 0 if none does: the walk
-- from there matches m symbols".
pub matches_at_place : (text table : List ℕ) → judge_check text table ≡ Ok tt → (word : List ℕ) → judge_word word_limit word ≡ Ok tt → (place : ℕ)
    → matches_from (cells_of table) pattern_limit root_base (drop place (row_of word)) ≡ longest (patterns_of text) (drop place (row_of word))
matches_at_place text table accepted word fine = over.matches_at_place (patterns_of text) (cells_of table) (entries_of table) root_base (accepted_paths text table accepted) word fine

-- "A word's count sums the walks from all n + 2 places."
word_sum : (cells : List ℕ) (root : ℕ) (word : List ℕ) → word_looks cells root word ≡ sum_to (length word + 2) (λ place. looks_from cells pattern_limit root (drop place (row_of word)))
unfolding word_looks
word_sum cells root word = rw (← (row_length word)) (looks_sum cells root (row_of word))

-- "Over any table, a finding of either call carries the count of document 01's walk": the levels call's for every word,
pub levels_count_is_sum : (word table room after : List ℕ) (marks looks : ℕ) → Levels word table room (found marks looks) after
    → looks ≡ sum_to (length word + 2) (λ place. looks_from (cells_of table) pattern_limit root_base (drop place (row_of word)))
levels_count_is_sum word table room after marks looks l = levels_count word table room after marks looks l ∙ word_sum (cells_of table) root_base word

-- and the hyphenating call's for a word on neither exception list.
pub breaks_count_is_sum : (left right : ℕ) (word customer house table room after : List ℕ) (marks looks : ℕ)
    → Breaks left right word customer house table room (found marks looks) after → (Listed word customer → ⊥) → (Listed word house → ⊥)
    → looks ≡ sum_to (length word + 2) (λ place. looks_from (cells_of table) pattern_limit root_base (drop place (row_of word)))
breaks_count_is_sum left right word customer house table room after marks looks b n m =
    count_unlisted left right word customer house table room after marks looks b n m ∙ word_sum (cells_of table) root_base word
