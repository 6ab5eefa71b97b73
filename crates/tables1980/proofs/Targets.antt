-- Every target of either table is a row of it and no letter mask: one test over each whole table, and the rule at each row.
use Prim.Native.Nat.{ℕ, ◌<◌}
use mathlib.Core.Path.{◌≡◌, refl}
use lib.Dec.{T}
use lib.ListN.{length}
use Rattle.base.specs.Grounds.{one_of}
use Rattle.tables1980.specs.Suffix.{suffix_words, suffix}
use Rattle.tables1980.specs.Prefix.{prefix_words, prefix}
use Rattle.tables1980.specs.Pairs.{pair_words}
use Rattle.tables1980.specs.Targets.{row_count, is_mask, is_instruction, suffix_row_right, prefix_row_right}
use Rattle.tables1980.proofs.Table.{every, at}

-- "two constant tables of 109 words", and thirty words of pairs
pub suffix_rows : length suffix_words ≡ row_count
unfolding suffix_words
suffix_rows = refl

pub prefix_rows : length prefix_words ≡ row_count
unfolding prefix_words
prefix_rows = refl

pub pair_rows : length pair_words ≡ 30
unfolding pair_words
pair_rows = refl

suffix_tested : T (every suffix_row_right 0 suffix_words)
unfolding suffix_words suffix_row_right is_mask is_instruction one_of
suffix_tested = tt

pub suffix_targets : (k : ℕ) → k < row_count → T (suffix_row_right k (suffix k))
unfolding suffix suffix_words
suffix_targets k h = at suffix_row_right suffix_words suffix_tested k h

prefix_tested : T (every prefix_row_right 0 prefix_words)
unfolding prefix_words prefix_row_right
prefix_tested = tt

pub prefix_targets : (k : ℕ) → k < row_count → T (prefix_row_right k (prefix k))
unfolding prefix prefix_words
prefix_targets k h = at prefix_row_right prefix_words prefix_tested k h
