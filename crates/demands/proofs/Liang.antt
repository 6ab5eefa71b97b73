-- Over cells and entries whose paths from a root are right for a list: a word's levels and breaks are those of Liang's method, and
-- its walks follow the longest beginnings. Nothing is said of a head or of other lists, so each list of a table has all of this from
-- its own root.
use Prim.Native.Nat.{ℕ, zero, suc, ◌≤◌, ◌<◌}
use mathlib.Core.Bool.{Bool, true, false, ◌&&◌}
use mathlib.Core.List.{List, [], ◌∷◌, ◌++◌}
use mathlib.Core.Path.{◌≡◌, refl, sym, ◌∙◌, ap}
use native.Mathlib.Omega.{arith}
use borrow.Author.Tests.{le-leb, eqb-true, eqb-false}
use lib.Dec.{leb, eqb}
use lib.ListN.{length, get_or, drop, length-drop}
use Rattle.base.specs.Limits.{symbol_limit, edge, pattern_limit, room_size, word_limit}
use Rattle.std.specs.Prelude.{Ok}
use Rattle.rooms.specs.Rooms.{written, bit}
use Rattle.rooms.proofs.Sheets.{written_low}
use Rattle.words.specs.Symbols.{apostrophe, small, lower, letter, symbol_of}
use Rattle.words.specs.Words.{judge_word, word_byte, word_symbols, row_of, inner}
use Rattle.words.proofs.Theorems.{letter_lower}
use Rattle.words.proofs.Laws.{small_low, small_high, symbol_small, apostrophe_lower, byte_letter, word_byte_lem}
use Rattle.lookup.specs.Find.{find_either}
use Rattle.liang.specs.Patterns.{Pattern}
use Rattle.liang.specs.Levels.{liang}
use Rattle.liang.specs.Breaks.{in_margins, odd, level_break}
use Rattle.walk.specs.Walk.{looks_from, matches_from}
use Rattle.hyphenation.specs.Levels.{level_at, level_sheet}
use Rattle.hyphenation.specs.Breaks.{is_break, break_sheet}
use Rattle.hyphenation.proofs.Theorems.{break_same}
use Rattle.patterns.specs.Strings.{all_symbols, nth, Shaped}
use Rattle.patterns.proofs.Strings.{alphabet_rest}
use Rattle.rightness.specs.Right.{PathsRight}
use Rattle.matching.specs.Longest.{longest}
use Rattle.matching.proofs.Levels.{levels_liang}
use Rattle.matching.proofs.Looks.{Looked, matches_longest, looks_longest}

-- a judged word's row holds symbols alone
letter_symbol_lem : (b : ℕ) → letter b ≡ true → (leb 1 (symbol_of (lower b)) && leb (symbol_of (lower b)) symbol_limit) ≡ true
letter_symbol_lem b e =
    let s : small (lower b) ≡ true = sym (letter_lower b) ∙ e in
    let a : 1 ≤ symbol_of (lower b) = omega (arith, small_low (lower b) s, symbol_small (lower b) s) in
    let z : symbol_of (lower b) ≤ symbol_limit = omega (arith, small_high (lower b) s, symbol_small (lower b) s) in
    rw (le-leb 1 (symbol_of (lower b)) a, le-leb (symbol_of (lower b)) symbol_limit z)

byte_symbol : (b : ℕ) → word_byte b ≡ true → (leb 1 (symbol_of (lower b)) && leb (symbol_of (lower b)) symbol_limit) ≡ true
byte_symbol b e = go (eqb b apostrophe) refl
  where
    go : (q : Bool) → eqb b apostrophe ≡ q → (leb 1 (symbol_of (lower b)) && leb (symbol_of (lower b)) symbol_limit) ≡ true
    go true q = rw (← apostrophe_lower b (eqb-true b apostrophe q))
    go false q = letter_symbol_lem b (byte_letter b e (eqb-false b apostrophe q))

bytes_symbols : (word : List ℕ) → ((i : ℕ) → i < length word → word_byte (get_or word i 0) ≡ true) → all_symbols (word_symbols word ++ (edge ∷ [])) ≡ true
unfolding word_symbols all_symbols
bytes_symbols [] e = refl
bytes_symbols (b ∷ word) e = rw (byte_symbol b (e 0 (omega arith)), bytes_symbols word (λ i h. e (suc i) (omega arith)))

pub row_symbols : (limit : ℕ) (word : List ℕ) → judge_word limit word ≡ Ok tt → all_symbols (row_of word) ≡ true
unfolding row_of all_symbols
row_symbols limit word e = bytes_symbols word (word_byte_lem limit word e)

alphabet_drop : (n : ℕ) (row : List ℕ) → all_symbols row ≡ true → all_symbols (drop n row) ≡ true
alphabet_drop zero row e = e
alphabet_drop (suc n) [] e = e
alphabet_drop (suc n) (s ∷ row) e = alphabet_drop n row (alphabet_rest s row e)

module _ (patterns : List Pattern) (cells entries : List ℕ) (root : ℕ) (paths : PathsRight patterns cells entries root) (word : List ℕ) (fine : judge_word word_limit word ≡ Ok tt) where
  rest_symbols : (place : ℕ) → all_symbols (drop place (row_of word)) ≡ true
  rest_symbols place = alphabet_drop place (row_of word) (row_symbols word_limit word fine)

  -- from each place of the row the walk matches the longest beginning of a pattern that stands there,
  pub matches_at_place : (place : ℕ) → matches_from cells pattern_limit root (drop place (row_of word)) ≡ longest patterns (drop place (row_of word))
  matches_at_place place = matches_longest patterns cells entries root paths (drop place (row_of word)) (rest_symbols place)

  -- and looks at its cells, and at one more at most
  pub looks_at_place : (place : ℕ) → place < length (row_of word)
      → Looked (longest patterns (drop place (row_of word))) (looks_from cells pattern_limit root (drop place (row_of word)))
  looks_at_place place h =
      looks_longest patterns cells entries root paths (drop place (row_of word)) (rest_symbols place) (rw (length-drop place (row_of word)) (omega arith))

  module _ (shaped : (i : ℕ) → i < length patterns → Shaped (nth patterns i)) where
    -- the level that the table gives to an inner gap is the one of Liang's method,
    pub level_liang : (i : ℕ) → inner (length word) i ≡ true → level_at cells entries root word i ≡ liang patterns word i
    unfolding level_at liang
    level_liang i h = rw h (levels_liang patterns cells entries root paths shaped (row_of word) (row_symbols word_limit word fine) (suc i))

    -- in a room too into which the levels are written
    pub levels_written : (room : List ℕ) (i : ℕ) → inner (length word) i ≡ true → i < room_size → get_or (written room_size (level_sheet cells entries root word) room) i 0 ≡ liang patterns word i
    unfolding level_sheet
    levels_written room i h k = written_low _ (level_at cells entries root word) room i k ∙ level_liang i h

    module _ (left right : ℕ) where
      -- so a gap is a break by these levels exactly where it is one by Liang's,
      same_level : (i : ℕ) → level_break left right (length word) (level_at cells entries root word) i ≡ level_break left right (length word) (liang patterns word) i
      unfolding level_break
      same_level i = go (inner (length word) i) refl
        where
          go : (z : Bool) → inner (length word) i ≡ z
              → (z && (in_margins left right (length word) i && odd (level_at cells entries root word i))) ≡ (z && (in_margins left right (length word) i && odd (liang patterns word i)))
          go true p = rw (level_liang i p)
          go false p = refl

      pub same_break : (customer house : List ℕ) (i : ℕ) → is_break left right customer house (level_at cells entries root word) word i ≡ is_break left right customer house (liang patterns word) word i
      unfolding is_break
      same_break customer house i = break_same (find_either word customer house) (find_either word customer house) customer house _ _ _ i refl (same_level i)

      -- in a room too into which the breaks are written
      pub breaks_written : (customer house room : List ℕ) (i : ℕ) → i < room_size
          → get_or (written room_size (break_sheet left right customer house cells entries root word) room) i 0 ≡ bit (is_break left right customer house (liang patterns word) word i)
      unfolding break_sheet
      breaks_written customer house room i k = written_low _ _ room i k ∙ ap bit (same_break customer house i)
