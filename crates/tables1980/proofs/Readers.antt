-- What is read of each table: of a machine's by word_at the word of the row, of the pairs' the word of the code.
use Prim.Native.Nat.{ℕ, ◌-◌, ◌<◌, ◌≤◌}
use mathlib.Core.List.{List}
use mathlib.Core.Path.{◌≡◌, sym, ◌∙◌, ap}
use borrow.Author.Tests.{lt-ltb, le-ltb}
use lib.ListN.{get_or, get_or-eq_default}
use Rattle.tables1980.specs.Suffix.{suffix_words, suffix}
use Rattle.tables1980.specs.Prefix.{prefix_words, prefix}
use Rattle.tables1980.specs.Pairs.{pair_words, btable}

pub suffix_word : (words : List ℕ) (row : ℕ) → words ≡ suffix_words → get_or words row 0 ≡ suffix row
unfolding suffix
suffix_word words row e = ap (λ (l : List ℕ). get_or l row 0) e

pub prefix_word : (words : List ℕ) (row : ℕ) → words ≡ prefix_words → get_or words row 0 ≡ prefix row
unfolding prefix
prefix_word words row e = ap (λ (l : List ℕ). get_or l row 0) e

-- The pair table's word before, in and past its rows.
pub pair_before : (c : ℕ) → c < 2 → 0 ≡ btable c
unfolding btable
pair_before c h = rw (lt-ltb c 2 h)

pub pair_in : (c : ℕ) → 2 ≤ c → get_or pair_words (c - 2) 0 ≡ btable c
unfolding btable
pair_in c h = rw (le-ltb c 2 h)

pub pair_past : (c : ℕ) → 2 ≤ c → 30 ≤ c - 2 → 0 ≡ btable c
unfolding btable pair_words
pair_past c h k = sym (get_or-eq_default pair_words 0 k) ∙ pair_in c h
