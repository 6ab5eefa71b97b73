-- CR 5: "tables without symbol 28 keep every byte". For a list without apostrophes first fit over 28 symbols is first fit over 27.
use Prim.Native.Nat.{ℕ, zero, suc, ◌+◌, ◌-◌}
use mathlib.Core.Bool.{Bool, true, false, cond, not, ◌&&◌, ◌||◌, and-false}
use mathlib.Core.List.{List, [], ◌∷◌, map}
use mathlib.Core.Path.{◌≡◌, refl, sym, ◌∙◌, ap}
use native.Mathlib.Omega.{arith}
use borrow.Author.Tests.{ne_eqb, eqb-false}
use lib.Dec.{leb, ltb, eqb}
use lib.ListN.{get_or}
use Rattle.base.specs.Limits.{apostrophe_symbol, symbol_limit, pattern_limit, cell_limit}
use Rattle.base.specs.Tests.{all_from, smallest}
use Rattle.base.proofs.Lists.{never, both}
use Rattle.words.specs.Symbols.{line_feed, apostrophe, symbol_of, symbols_of}
use Rattle.words.proofs.Apostrophes.{sorts_last}
use Rattle.lines.specs.Apostrophes.{has_apostrophe}
use Rattle.lines.specs.Lines.{glue, cut}
use Rattle.liang.specs.Patterns.{Pattern, pattern_of, patterns_of}
use Rattle.table.specs.Table.{root_base}
use Rattle.patterns.specs.Common.{common}
use Rattle.patterns.specs.Next.{next_in, opens}
use Rattle.fit.specs.Cells.{is_free, serves, base_for, inside, put_cell, put_cells, Layout, Full, Fits, place_at, place, place_length, place_lengths, empty_layout, layout_of}
use Rattle.fit.specs.Table.{fit_layout, first_fit}
use Rattle.fit.specs.Alphabet.{symbols_before, serves_over, base_over, inside_over, place_at_over, place_over, place_length_over, place_lengths_over, first_fit_over}

-- over all symbols it is first fit
place_symbols : (root m : ℕ) (own : List ℕ) (ps : List Pattern) (layout : Layout) → place_over symbol_limit root m own ps layout ≡ place root m own ps layout
unfolding place_over place place_at_over place_at base_over base_for inside_over inside serves_over serves
place_symbols root m own ps Full = refl
place_symbols root m own ps (Fits bytes taken) = refl

length_symbols : (root m : ℕ) (above : List ℕ) (ps : List Pattern) (layout : Layout) → place_length_over symbol_limit root m above ps layout ≡ place_length root m above ps layout
unfolding place_length_over place_length
length_symbols root m above [] layout = refl
length_symbols root m above (p ∷ ps) layout =
    ap (λ (l : Layout). place_length_over symbol_limit root m p.symbols ps (cond (opens m above p.symbols) l layout)) (place_symbols root m p.symbols (p ∷ ps) layout)
    ∙ length_symbols root m p.symbols ps (cond (opens m above p.symbols) (place root m p.symbols (p ∷ ps) layout) layout)

lengths_symbols : (root m k : ℕ) (ps : List Pattern) (layout : Layout) → place_lengths_over symbol_limit root m k ps layout ≡ place_lengths root m k ps layout
unfolding place_lengths_over place_lengths
lengths_symbols root m zero ps layout = refl
lengths_symbols root m (suc k) ps layout =
    ap (place_lengths_over symbol_limit root (suc m) k ps) (length_symbols root m [] ps layout) ∙ lengths_symbols root (suc m) k ps (place_length root m [] ps layout)

pub over_symbols : (patterns : List Pattern) → first_fit_over symbol_limit patterns ≡ first_fit patterns
unfolding first_fit_over first_fit layout_of
over_symbols patterns = ap (fit_layout patterns) (lengths_symbols root_base 0 pattern_limit patterns empty_layout)

-- Do these symbols lack one? Do the patterns of a list?
pub lacks : ℕ → List ℕ → Bool
lacks s [] = true
lacks s (x ∷ t) = not (eqb x s) && lacks s t

pub lack_all : ℕ → List Pattern → Bool
lack_all s [] = true
lack_all s (p ∷ ps) = lacks s p.symbols && lack_all s ps

lack_at : (n : ℕ) (l : List ℕ) (m : ℕ) → lacks (suc n) l ≡ true → eqb (get_or l m 0) (suc n) ≡ false
unfolding lacks
lack_at n [] m e = ne_eqb 0 (suc n) (λ z. omega (arith, z))
lack_at n (x ∷ l) zero e = go (eqb x (suc n)) (both (not (eqb x (suc n))) (lacks (suc n) l) e).0
  where
    go : (z : Bool) → not z ≡ true → z ≡ false
    go true h = never h
    go false h = refl
lack_at n (x ∷ l) (suc m) e = lack_at n l m (both (not (eqb x (suc n))) (lacks (suc n) l) e).1

next_none : (n m : ℕ) (own : List ℕ) (ps : List Pattern) → lack_all (suc n) ps ≡ true → next_in m own ps (suc n) ≡ false
unfolding next_in lack_all
next_none n m own [] e = refl
next_none n m own (p ∷ ps) e =
    let h = both (lacks (suc n) p.symbols) (lack_all (suc n) ps) e in
    rw (lack_at n p.symbols m h.0, next_none n m own ps h.1) (and-false (leb m (common own p.symbols)))

-- one symbol more with which no path goes on
all_more : (test : ℕ → Bool) (k n : ℕ) → test (k + n) ≡ true → all_from test k (suc n) ≡ all_from test k n
unfolding all_from
all_more test k zero e = let z : k + 0 ≡ k = omega arith in ap (λ (b : Bool). b && true) (ap test (sym z) ∙ e)
all_more test k (suc n) e = let z : suc k + n ≡ k + suc n = omega arith in ap (◌&&◌ (test k)) (all_more test (suc k) n (ap test z ∙ e))

cells_more : (child : ℕ → Bool) (base k n : ℕ) (bytes : List ℕ) → child (k + n) ≡ false → put_cells child base k (suc n) bytes ≡ put_cells child base k n bytes
unfolding put_cells
cells_more child base k zero bytes e =
    let z : k + 0 ≡ k = omega arith in ap (λ (b : Bool). cond b (put_cell (base + k) k bytes) bytes) (ap child (sym z) ∙ e)
cells_more child base k (suc n) bytes e =
    let z : suc k + n ≡ k + suc n = omega arith in cells_more child base (suc k) n (cond (child k) (put_cell (base + k) k bytes) bytes) (ap child z ∙ e)

smallest_same : (f g : ℕ → Bool) → ((i : ℕ) → f i ≡ g i) → (k n : ℕ) → smallest f k n ≡ smallest g k n
unfolding smallest
smallest_same f g h k zero = refl
smallest_same f g h k (suc n) = rw (h k, smallest_same f g h (suc k) n)

module _ (n : ℕ) (child : ℕ → Bool) (none : child (suc n) ≡ false) where
  at_last : child (1 + n) ≡ false
  at_last = let z : 1 + n ≡ suc n = omega arith in ap child z ∙ none

  free_more : (other : ℕ → Bool) → all_from (λ s. not (child s) || other s) 1 (suc n) ≡ all_from (λ s. not (child s) || other s) 1 n
  free_more other = all_more (λ s. not (child s) || other s) 1 n (ap (λ (b : Bool). not b || other (1 + n)) at_last)

  base_more : (root m : ℕ) (bytes taken : List ℕ) → base_over (suc n) root m bytes taken child ≡ base_over n root m bytes taken child
  unfolding base_over serves_over
  base_more root m bytes taken =
      ap (cond (eqb m 0) root)
      (smallest_same (serves_over (suc n) bytes taken child) (serves_over n bytes taken child)
      (λ base. ap (◌&&◌ (eqb (get_or taken base 0) 0)) (free_more (λ s. is_free bytes (base + s)))) 1 (cell_limit - 1))

  at_more : (root m : ℕ) (own : List ℕ) (base : ℕ) (bytes taken : List ℕ) → place_at_over (suc n) root m own child base bytes taken ≡ place_at_over n root m own child base bytes taken
  unfolding place_at_over inside_over
  at_more root m own base bytes taken = rw (free_more (λ s. ltb (base + s) cell_limit), cells_more child base 1 n bytes at_last)

module _ (n root : ℕ) where
  place_more : (m : ℕ) (own : List ℕ) (ps : List Pattern) (layout : Layout) → lack_all (suc n) ps ≡ true → place_over (suc n) root m own ps layout ≡ place_over n root m own ps layout
  unfolding place_over
  place_more m own ps Full e = refl
  place_more m own ps (Fits bytes taken) e =
      let none = next_none n m own ps e in
      ap (λ (b : ℕ). place_at_over (suc n) root m own (next_in m own ps) b bytes taken) (base_more n (next_in m own ps) none root m bytes taken)
      ∙ at_more n (next_in m own ps) none root m own (base_over n root m bytes taken (next_in m own ps)) bytes taken

  length_more : (m : ℕ) (above : List ℕ) (ps : List Pattern) (layout : Layout) → lack_all (suc n) ps ≡ true
      → place_length_over (suc n) root m above ps layout ≡ place_length_over n root m above ps layout
  unfolding place_length_over lack_all
  length_more m above [] layout e = refl
  length_more m above (p ∷ ps) layout e =
      ap (λ (l : Layout). place_length_over (suc n) root m p.symbols ps (cond (opens m above p.symbols) l layout)) (place_more m p.symbols (p ∷ ps) layout e)
      ∙ length_more m p.symbols ps (cond (opens m above p.symbols) (place_over n root m p.symbols (p ∷ ps) layout) layout) (both (lacks (suc n) p.symbols) (lack_all (suc n) ps) e).1

  lengths_more : (m k : ℕ) (ps : List Pattern) (layout : Layout) → lack_all (suc n) ps ≡ true → place_lengths_over (suc n) root m k ps layout ≡ place_lengths_over n root m k ps layout
  unfolding place_lengths_over
  lengths_more m zero ps layout e = refl
  lengths_more m (suc k) ps layout e =
      ap (place_lengths_over (suc n) root (suc m) k ps) (length_more m [] ps layout e) ∙ lengths_more (suc m) k ps (place_length_over n root m [] ps layout) e

-- A symbol more that no pattern has changes no byte.
pub fit_more : (n : ℕ) (patterns : List Pattern) → lack_all (suc n) patterns ≡ true → first_fit_over (suc n) patterns ≡ first_fit_over n patterns
unfolding first_fit_over
fit_more n patterns e = ap (fit_layout patterns) (lengths_more n root_base 0 pattern_limit patterns empty_layout e)

-- a text without byte 39 is a list without it
line_lacks : (b : ℕ) (l : List ℕ) → (b ≡ apostrophe → ⊥) → lacks apostrophe_symbol (symbols_of l) ≡ true → lacks apostrophe_symbol (symbols_of (b ∷ l)) ≡ true
unfolding lacks symbols_of
line_lacks b l q h = go (eqb (symbol_of b) 0)
  where
    go : (z : Bool) → lacks apostrophe_symbol (cond z (symbols_of l) (symbol_of b ∷ symbols_of l)) ≡ true
    go true = h
    go false = rw (ne_eqb (symbol_of b) apostrophe_symbol (λ e. omega (arith, e, sorts_last b q))) h

nil_lacks : lacks apostrophe_symbol (symbols_of []) ≡ true
unfolding lacks symbols_of
nil_lacks = refl

glue_lacks : (b : ℕ) (ls : List (List ℕ)) → (b ≡ apostrophe → ⊥) → lack_all apostrophe_symbol (map pattern_of ls) ≡ true → lack_all apostrophe_symbol (map pattern_of (glue b ls)) ≡ true
unfolding lack_all pattern_of glue
glue_lacks b [] q h = rw (line_lacks b [] q nil_lacks)
glue_lacks b (l ∷ ls) q h =
    let k = both (lacks apostrophe_symbol (symbols_of l)) (lack_all apostrophe_symbol (map pattern_of ls)) h in
    rw (line_lacks b l q k.0) k.1

text_lacks : (text : List ℕ) → has_apostrophe text ≡ false → lack_all apostrophe_symbol (map pattern_of (cut text)) ≡ true
unfolding has_apostrophe cut lack_all pattern_of
text_lacks [] e = refl
text_lacks (b ∷ t) e = split (eqb b apostrophe) refl e (text_lacks t)
  where
    go : (z : Bool) → (b ≡ apostrophe → ⊥) → lack_all apostrophe_symbol (map pattern_of (cut t)) ≡ true → lack_all apostrophe_symbol (map pattern_of (cond z ((b ∷ []) ∷ cut t) (glue b (cut t)))) ≡ true
    go true q h = rw (line_lacks b [] q nil_lacks) h
    go false q h = glue_lacks b (cut t) q h

    split : (z : Bool) → eqb b apostrophe ≡ z → (z || has_apostrophe t) ≡ false → (has_apostrophe t ≡ false → lack_all apostrophe_symbol (map pattern_of (cut t)) ≡ true)
        → lack_all apostrophe_symbol (map pattern_of (cond (eqb b line_feed) ((b ∷ []) ∷ cut t) (glue b (cut t)))) ≡ true
    split true p h next = never (sym h)
    split false p h next = go (eqb b line_feed) (eqb-false b apostrophe p) (next h)

-- "tables without symbol 28 keep every byte": the table of a text without apostrophes is that of first fit over the 27 symbols of before.
pub keeps_every_byte : (text : List ℕ) → has_apostrophe text ≡ false → first_fit (patterns_of text) ≡ first_fit_over symbols_before (patterns_of text)
unfolding patterns_of
keeps_every_byte text e = sym (over_symbols (map pattern_of (cut text))) ∙ fit_more symbols_before (map pattern_of (cut text)) (text_lacks text e)
