-- The checker's test, as it is computed: whether a table is right for a list. `decision.proofs.Theorems` shows that it holds
-- exactly where `Right` does. Only strings of the list are followed, so its work is bounded by the list: the patterns stand in
-- order, and so each path's continuations are met in order too. At each step the table must go on with the pattern's own symbol
-- and with none of those that the list passes over. `Node` and `Beside`, which the checker keeps on its way, are src/lib.rt's.
use Rattle.std.specs.Prelude.{ℕ, zero, suc, ◌+◌, ◌-◌, Bool, true, false, cond, not, ◌&&◌, ◌||◌, List, [], ◌∷◌, ◌++◌, leb, ltb, eqb, get_or, Some, None, is_some}
use Rattle.base.specs.Limits.{symbol_limit, pattern_limit}
use Rattle.base.specs.Tests.{all_from}
use Rattle.base.specs.Grounds.{Row, on, first, refuse_if, Check}
use Rattle.base.specs.declared.Ground.TheVariants.{NotRight}
use Rattle.lists.specs.Lists.{pattern_grounds, judge_patterns}
use Rattle.liang.specs.Patterns.{Pattern, patterns_of}
use Rattle.table.specs.Table.{root_base, cell_kind, entry_kind, cell_size, entry_size, cell_count, entry_count, table_grounds, judge_table, cells_of, entries_of, look, Look}
use Rattle.walk.specs.Chain.{chain}
use Rattle.walk.specs.Raise.{highest_set}
use Rattle.trie.specs.Sound.{sound}
use Rattle.patterns.specs.Common.{common}
use Rattle.rightness.specs.declared.Node.{Node}
use Rattle.rightness.specs.declared.Beside.{Beside}

-- The kinds of n records that stand `size` bytes apart, from a place on.
unfoldable pub kinds_from : ℕ → ℕ → List ℕ → ℕ → ℕ → Bool
kinds_from size kind bytes at zero = true
kinds_from size kind bytes at (suc n) = eqb (get_or bytes at 0) kind && kinds_from size kind bytes (at + size) n

-- The kinds of a table's cells and entries, as many as there are of each.
unfoldable pub kinds_test : List ℕ → List ℕ → ℕ → ℕ → Bool
kinds_test cells entries c e = kinds_from cell_size cell_kind cells 0 c && kinds_from entry_size entry_kind entries 0 e

-- An output is faultless and sets exactly a pattern's levels, gap by gap.
unfoldable pub exact_test : List ℕ → List ℕ → ℕ → ℕ → Bool
exact_test entries levels m output =
    sound entries m output && all_from (λ gap. eqb (highest_set (chain entries m m output) gap) (get_or levels gap 0)) 0 (suc m)

-- The node, where a path ends, that a link leads to; a leaf where the link is 0: "go on .. unless link is 0".
abbrev pub linked : ℕ → Node
linked link = record { leaf = eqb link 0; base = link }

-- The root is no leaf, whatever its base.
abbrev pub root_at : ℕ → Node
root_at base = record { leaf = false; base = base }

-- The look at how the table goes on from a node with a symbol.
unfoldable pub child_at : List ℕ → Node → ℕ → Look
child_at cells node s = cond node.leaf None (look cells (node.base + s) s)

abbrev pub is_hit : Look → Bool
is_hit found = is_some found

-- From a node the table goes on with no symbol between two others.
unfoldable pub none_between : List ℕ → Node → ℕ → ℕ → Bool
none_between cells node low high = all_from (λ s. not (is_hit (child_at cells node s))) (suc low) (high - suc low)

-- At the node of m symbols of a pattern that goes on with s (0 where it ends there), the symbols that the list passes over. Below s
-- they begin behind the symbol with which the pattern above left this node, or with the first where it hasn't this node; where it
-- goes on with s itself, they were tested there. Above s they are passed over where the pattern below hasn't this node.
unfoldable pub passed_over : List ℕ → Beside → Node → ℕ → ℕ → Bool
passed_over cells beside node m s =
    (ltb m beside.known || none_between cells node (cond (eqb m beside.known) beside.low 0) s)
    && (leb m beside.kept || none_between cells node s (suc symbol_limit))

-- One pattern followed through the table, from the node of m symbols that a cell with this output leads to. Outputs: exact where
-- the pattern ends, else 0; those of the symbols shared with the pattern above were tested there. A path has at most 16 symbols, so
-- nothing is asked of how the table goes on behind as many.
unfoldable pub follow_step : (ℕ → ℕ → Bool) → Look → Bool
follow_step go None = false
follow_step go (Some found) = go found.link found.output

unfoldable pub follow : List ℕ → List ℕ → List ℕ → Beside → Node → ℕ → ℕ → List ℕ → Bool
follow cells entries levels beside node output m [] =
    exact_test entries levels m output && (leb pattern_limit m || passed_over cells beside node m 0)
follow cells entries levels beside node output m (s ∷ rest) =
    (leb m beside.known || eqb output 0)
    && (passed_over cells beside node m s
    && follow_step (λ link out. follow cells entries levels beside (linked link) out (m + 1) rest) (child_at cells node s))

-- The symbols of a list's first pattern; none where there is no pattern.
abbrev pub first_symbols : List Pattern → List ℕ
first_symbols [] = []
first_symbols (p ∷ rest) = p.symbols

-- A pattern between the symbols of its neighbours.
unfoldable pub besides : List ℕ → List ℕ → List ℕ → Beside
besides above own below = record { known = common above own; low = get_or above (common above own) 0; kept = common own below }

-- Each pattern in turn; `above` has the symbols of the one before it. Behind the last, the root goes on with no further symbol.
unfoldable pub patterns_right : List ℕ → List ℕ → ℕ → List ℕ → List Pattern → Bool
patterns_right cells entries root above [] = none_between cells (root_at root) (get_or above 0 0) (suc symbol_limit)
patterns_right cells entries root above (p ∷ rest) =
    follow cells entries p.levels (besides above p.symbols (first_symbols rest)) (root_at root) 0 0 p.symbols
    && patterns_right cells entries root p.symbols rest

-- The paths of a list that begin at a root: every pattern, the first of which has none above it.
abbrev pub paths_test : List Pattern → List ℕ → List ℕ → ℕ → Bool
paths_test patterns cells entries root = patterns_right cells entries root [] patterns

-- The whole test: kinds, and the list's paths.
unfoldable pub right_test : List Pattern → List ℕ → List ℕ → ℕ → ℕ → ℕ → Bool
right_test patterns cells entries root c e = kinds_test cells entries c e && paths_test patterns cells entries root

-- Is a table right for the patterns of a text? "The base starts at 0."
abbrev pub right_for : List ℕ → List ℕ → Bool
right_for text table = right_test (patterns_of text) (cells_of table) (entries_of table) root_base (cell_count table) (entry_count table)

-- "checker 8, 7, 9, 12". "The checker accepts when it answers without a refusal."
unfoldable pub check_grounds : List ℕ → List ℕ → List Row
check_grounds text table = pattern_grounds text ++ (table_grounds table ++ (on 12 (not (right_for text table)) ∷ []))

-- The same as it is judged.
unfoldable pub judge_check : List ℕ → List ℕ → Check
judge_check text table = first (judge_patterns text) (first (judge_table table) (refuse_if (not (right_for text table)) NotRight))
