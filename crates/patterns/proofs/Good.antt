-- What a good pattern list says of its patterns.
use Prim.Native.Nat.{ℕ, zero, suc, ◌+◌, ◌-◌, ◌≤◌, ◌<◌}
use mathlib.Core.Bool.{Bool, true, false, cond, ◌&&◌, ◌||◌}
use mathlib.Core.List.{List, [], ◌∷◌, map}
use mathlib.Core.Path.{◌≡◌, refl}
use native.Mathlib.Omega.{arith}
use borrow.Author.Tests.{leb-true, le-leb, eqb-false}
use lib.Dec.{leb, eqb}
use lib.ListN.{length, get_or, length-map}
use Rattle.base.specs.Limits.{edge, apostrophe_symbol, symbol_limit, pattern_limit, pattern_text, level_limit}
use Rattle.std.specs.Prelude.{Ok, Err}
use Rattle.base.proofs.Grounds.{both_fine}
use Rattle.base.proofs.Lists.{clash, never, both}
use Rattle.words.specs.Symbols.{dot, apostrophe, small, digit, symbol_of, symbols_of}
use Rattle.words.proofs.Laws.{range_high, small_symbol}
use Rattle.lines.specs.Apostrophes.{apostrophes_fit}
use Rattle.lines.specs.Lines.{cut, any_of, line_letter, pattern_form, pattern_bytes, good_pattern}
use Rattle.lists.specs.Lists.{good_line, first_bad, judge_lines, judge_size, bad_pattern, judge_patterns, Lines}
use Rattle.lists.specs.declared.Form.{Form}
use Rattle.lists.specs.declared.Form.TheVariants.{Patterns}
use Rattle.lists.proofs.Theorems.{passed, ascending}
use Rattle.liang.specs.Patterns.{levels_from, pattern_of, patterns_of}
use Rattle.patterns.proofs.Laws.{line_levels}
use Rattle.patterns.specs.Strings.{all_symbols, nth, Shaped, Sorted}

-- a symbol is 1 to 28
symbol_most : (b : ℕ) → symbol_of b ≤ symbol_limit
unfolding symbol_of small
symbol_most b = go (small b) refl (eqb b dot) (eqb b apostrophe)
  where
    go : (z : Bool) → small b ≡ z → (d q : Bool) → cond z (b - 96) (cond d edge (cond q apostrophe_symbol 0)) ≤ symbol_limit
    go true e d q = omega (arith, range_high 97 122 b e)
    go false e true q = omega arith
    go false e false true = omega arith
    go false e false false = omega arith

symbol_range : (b : ℕ) → eqb (symbol_of b) 0 ≡ false → (leb 1 (symbol_of b) && leb (symbol_of b) symbol_limit) ≡ true
symbol_range b e =
    let z = eqb-false (symbol_of b) 0 e in
    rw (le-leb 1 (symbol_of b) (omega arith), le-leb (symbol_of b) symbol_limit (symbol_most b))

-- so a line's symbols are, whatever its bytes
line_alphabet : (line : List ℕ) → all_symbols (symbols_of line) ≡ true
unfolding all_symbols symbols_of
line_alphabet [] = refl
line_alphabet (b ∷ t) = go (eqb (symbol_of b) 0) refl (line_alphabet t)
  where
    go : (z : Bool) → eqb (symbol_of b) 0 ≡ z → all_symbols (symbols_of t) ≡ true → all_symbols (cond z (symbols_of t) (symbol_of b ∷ symbols_of t)) ≡ true
    go true e next = next
    go false e next = rw (symbol_range b e) next

-- a line with a letter has a symbol
line_some : (line : List ℕ) → any_of small line ≡ true → 0 < length (symbols_of line)
unfolding any_of symbols_of
line_some [] e = never e
line_some (b ∷ t) e = go (small b) refl e (line_some t)
  where
    skip : (z : Bool) → 0 < length (symbols_of t) → 0 < length (cond z (symbols_of t) (symbol_of b ∷ symbols_of t))
    skip true h = h
    skip false h = omega arith

    go : (z : Bool) → small b ≡ z → (z || any_of small t) ≡ true → (any_of small t ≡ true → 0 < length (symbols_of t)) → 0 < length (symbols_of (b ∷ t))
    go true p h next = rw (small_symbol b p) (omega arith)
    go false p h next = skip (eqb (symbol_of b) 0) (next h)

good_shaped : (line : List ℕ) → good_pattern line ≡ true → Shaped (pattern_of line)
unfolding good_pattern pattern_bytes pattern_of
good_shaped line e =
    let w = both (pattern_bytes line_letter line) (apostrophes_fit true true (symbols_of line)) e in
    let a = both (pattern_form line_letter true false line) (any_of small line && (any_of digit line && leb (length (symbols_of line)) pattern_limit)) w.0 in
    let b = both (any_of small line) (any_of digit line && leb (length (symbols_of line)) pattern_limit) a.1 in
    let c = both (any_of digit line) (leb (length (symbols_of line)) pattern_limit) b.1 in
    record {
      some = line_some line b.0;
      short = leb-true (length (symbols_of line)) pattern_limit c.1;
      alphabet = line_alphabet line;
      measured = line_levels 0 line;
    }

-- a line's levels are those of digits
line_low : (level : ℕ) (line : List ℕ) → level ≤ level_limit → (gap : ℕ) → get_or (levels_from level line) gap 0 ≤ level_limit
unfolding levels_from digit
line_low level [] h zero = h
line_low level [] h (suc gap) = omega arith
line_low level (b ∷ t) h gap = go (digit b) refl (eqb (symbol_of b) 0) (λ l k g. line_low l t k g) gap
  where
    go : (d : Bool) → digit b ≡ d → (z : Bool) → ((l : ℕ) → l ≤ level_limit → (g : ℕ) → get_or (levels_from l t) g 0 ≤ level_limit) → (gap : ℕ)
        → get_or (cond d (levels_from (b - 48) t) (cond z (levels_from level t) (level ∷ levels_from 0 t))) gap 0 ≤ level_limit
    go true p z next gap = next (b - 48) (omega (arith, range_high 49 57 b p)) gap
    go false p true next gap = next level h gap
    go false p false next zero = h
    go false p false next (suc gap) = next 0 (omega arith) gap

-- every line of a list that has no bad line is good
pub each_good : (form : Form) (at : ℕ) (above : List ℕ) (ls : List (List ℕ)) → first_bad form at above ls ≡ Ok tt → (i : ℕ) → i < length ls → good_line form (get_or ls i []) ≡ true
each_good form at above [] e i h = absurd (omega arith)
each_good form at above (l ∷ ls) e zero h = (passed form at above l ls e).good
each_good form at above (l ∷ ls) e (suc i) h = each_good form (at + length l) l ls (passed form at above l ls e).onward i (omega arith)

lines_good : (l : Lines) → bad_pattern l ≡ Ok tt → l ≡ Ok tt
lines_good (Ok _) e = refl
lines_good (Err at) e = clash cc

-- a pattern by its line's number
nth_line : (ls : List (List ℕ)) (i : ℕ) → i < length ls → nth (map pattern_of ls) i ≡ pattern_of (get_or ls i [])
nth_line [] i h = absurd (omega arith)
nth_line (l ∷ ls) zero h = refl
nth_line (l ∷ ls) (suc i) h = nth_line ls i (omega arith)

module _ (text : List ℕ) (fine : judge_patterns text ≡ Ok tt) where
  good : judge_lines Patterns text ≡ Ok tt
  unfolding judge_patterns
  good = lines_good (judge_lines Patterns text) (both_fine (judge_size pattern_text text) (bad_pattern (judge_lines Patterns text)) fine).1

  nth_pattern : (i : ℕ) → i < length (patterns_of text) → (i < length (cut text)) × (nth (patterns_of text) i ≡ pattern_of (get_or (cut text) i []))
  unfolding patterns_of
  nth_pattern i h = let k : i < length (cut text) = omega (arith, length-map (cut text) pattern_of) in (k, nth_line (cut text) i k)

  pub good_sorted : Sorted (patterns_of text)
  unfolding pattern_of
  good_sorted i j k h =
      let p = nth_pattern i (omega arith) in
      let q = nth_pattern j h in
      rw (p.1, q.1) (ascending Patterns text good i j k q.0)

  pub good_patterns : (i : ℕ) → i < length (patterns_of text) → Shaped (nth (patterns_of text) i)
  unfolding judge_lines good_line
  good_patterns i h =
      let p = nth_pattern i h in
      rw p.1 (good_shaped (get_or (cut text) i []) (each_good Patterns 0 [] (cut text) good i p.0))

  pub good_levels : (i : ℕ) → i < length (patterns_of text) → (gap : ℕ) → get_or (nth (patterns_of text) i).levels gap 0 ≤ level_limit
  unfolding pattern_of
  good_levels i h gap = rw (nth_pattern i h).1 (line_low 0 (get_or (cut text) i []) (omega arith) gap)
