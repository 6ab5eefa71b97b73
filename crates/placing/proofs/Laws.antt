-- Laws about first fit's placing: one for each way through the code.
use Prim.Native.Nat.{ℕ, zero, suc, ◌+◌, ◌*◌, ◌-◌, ◌≤◌, ◌<◌}
use mathlib.Core.Bool.{Bool, true, false, cond, not, ◌&&◌, ◌||◌}
use mathlib.Core.List.{List, [], ◌∷◌, map}
use mathlib.Core.Path.{◌≡◌, refl, sym, ◌∙◌, ap}
use native.Mathlib.Nat.{sub-zero}
use native.Mathlib.Decide.{dec_lt}
use native.Mathlib.Numerals.{add-one}
use native.Mathlib.Omega.{arith}
use borrow.Author.Tests.{eq-eqb, ne_eqb, eqb-true, eqb-false, ltb-true}
use lib.Dec.{leb, ltb, eqb}
use Rattle.std.specs.Option.{MatchOption, unwrap_or}
use Rattle.std.specs.Prelude.{Option, Some, None}
use lib.ListN.{length, get_or, take, drop, set, replicate, length-set, drop_of_length-le}
use lib.Seq.{set_out, get_or-take, length-take-le}
use Rattle.base.specs.Limits.{symbol_limit, cell_limit}
use Rattle.base.proofs.Lists.{cons_at, never}
use Rattle.words.specs.Symbols.{symbols_of}
use Rattle.lines.specs.Lines.{cut, line_length}
use Rattle.lines.proofs.Laws.{cut_line}
use Rattle.liang.specs.Patterns.{Pattern, pattern_of, patterns_of}
use Rattle.table.specs.Table.{cell_kind, cell_size, number_at}
use Rattle.patterns.specs.Common.{common}
use Rattle.patterns.specs.Next.{next_in, next_mask, opens}
use Rattle.patterns.proofs.Next.{mask_says}
use Rattle.base.specs.Tests.{smallest}
use Rattle.base.proofs.All.{all_same, all_not}
use Rattle.fit.specs.Cells.{put_number, is_free, serves, base_for, inside, put_cell, put_cells, cell_of, put_link, Layout, Full, Fits, place_at, place, place_length, place_lengths}
use Rattle.placing.specs.Post.{marked, place_line, Placed}

-- what is asked of marked symbols only
module _ (mark : ℕ) (b : Bool) where
  pub when_other : (mark ≡ 1 → ⊥) → true ≡ (not (eqb mark 1) || b)
  when_other h = rw (ne_eqb mark 1 h)

  pub when_marked : mark ≡ 1 → b ≡ (not (eqb mark 1) || b)
  when_marked h = rw (eq-eqb mark 1 h)

-- a base that serves
module _ (bytes taken : List ℕ) (child : ℕ → Bool) (base : ℕ) where
  pub serves_used : {first : ℕ} {r : Bool} → get_or taken base 0 ≡ 0 → 1 ≤ first → first ≤ symbol_limit → child first ≡ true → r ≡ is_free bytes (base + first) → r ≡ false → false ≡ serves bytes taken child base
  unfolding serves
  serves_used {first = first} h a b m e z =
      rw (eq-eqb (get_or taken base 0) 0 h) (sym (all_not (λ s. not (child s) || is_free bytes (base + s)) 1 symbol_limit first a (omega (arith, b)) (rw m (sym e ∙ z))))

-- the smallest number that passes a test, as a search over a range finds it
smallest_past : (test : ℕ → Bool) (k n : ℕ) → ((i : ℕ) → k ≤ i → i < k + n → test i ≡ false) → smallest test k n ≡ k + n
unfolding smallest
smallest_past test k zero h = omega arith
smallest_past test k (suc n) h = rw (h k (omega arith) (omega arith), smallest_past test (suc k) n (λ i a b. h i (omega arith) (omega arith))) (omega arith)

smallest_at : (test : ℕ → Bool) (k n j : ℕ) → k ≤ j → j < k + n → test j ≡ true → ((i : ℕ) → k ≤ i → i < j → test i ≡ false) → smallest test k n ≡ j
unfolding smallest
smallest_at test k zero j a b t h = absurd (omega arith)
smallest_at test k (suc n) j a b t h = go (dec_lt k j) (smallest_at test (suc k) n j)
  where
    go : Dec (k < j) → (suc k ≤ j → j < suc k + n → test j ≡ true → ((i : ℕ) → suc k ≤ i → i < j → test i ≡ false) → smallest test (suc k) n ≡ j) → cond (test k) k (smallest test (suc k) n) ≡ j
    go (yes p) next = rw (h k (omega arith) p) (next (omega arith) (omega arith) t (λ i x y. h i (omega arith) y))
    go (no p) next = let i : j ≡ k = omega arith in let e : test k ≡ true = rw (← i) t in rw e (sym i)

pub smallest_found : (test : ℕ → Bool) (k n total : ℕ) (r : Option ℕ) → k + n ≡ total
    → MatchOption r ((i : ℕ) → k ≤ i → i < total → test i ≡ false) (λ j. (k ≤ j) × (j < total) × (test j ≡ true) × ((i : ℕ) → k ≤ i → i < j → test i ≡ false))
    → unwrap_or r total ≡ smallest test k n
smallest_found test k n total None e m = sym (smallest_past test k n (λ i a b. m i a (omega (arith, e, b))) ∙ e)
smallest_found test k n total (Some j) e m = sym (smallest_at test k n j m.0 (omega (arith, e, m.1)) m.2 m.3)

-- one cell
module _ (n s : ℕ) (bytes : List ℕ) where
  pub cell_out : length bytes ≤ cell_size * n → bytes ≡ put_cell n s bytes
  unfolding put_cell
  cell_out h =
      let l : length (set bytes (cell_size * n) cell_kind) ≤ cell_size * n + 1 = omega (arith, length-set bytes (cell_size * n) cell_kind, h) in
      sym (set_out (set bytes (cell_size * n) cell_kind) (cell_size * n + 1) s l ∙ set_out bytes (cell_size * n) cell_kind h)

-- the cells of the symbols below a total, from k on
module _ (child : ℕ → Bool) (base k total : ℕ) (bytes : List ℕ) where
  cells_turn : k < total → put_cells child base k (total - k) bytes ≡ put_cells child base (k + 1) (total - (k + 1)) (cond (child k) (put_cell (base + k) k bytes) bytes)
  unfolding put_cells
  cells_turn h = let e : total - k ≡ suc (total - (k + 1)) = omega arith in rw (e, add-one)

  pub cells_marked : {after : List ℕ} → k < total → child k ≡ true → after ≡ put_cell (base + k) k bytes
      → put_cells child base k (total - k) bytes ≡ put_cells child base (k + 1) (total - (k + 1)) after
  cells_marked h t e = cells_turn h ∙ rw (t, e)

  pub cells_other : k < total → child k ≡ false → put_cells child base k (total - k) bytes ≡ put_cells child base (k + 1) (total - (k + 1)) bytes
  cells_other h t = cells_turn h ∙ rw t

  pub cells_end : total ≤ k → put_cells child base k (total - k) bytes ≡ bytes
  unfolding put_cells
  cells_end h = let e : total - k ≡ 0 = omega arith in rw e

-- the cell that a string ends in
module _ (bytes own : List ℕ) (m base i : ℕ) {s : ℕ} (l : m ≤ length own) (p : s ≡ get_or own i 0) where
  symbol_is : i < m → get_or (take m own) i 0 ≡ s
  symbol_is h = get_or-take m own i 0 h ∙ sym p

  pub cell_on : {next : ℕ} → i + 1 < m → next ≡ number_at bytes (cell_size * (base + s) + 2)
      → cell_of bytes base (drop i (take m own)) ≡ cell_of bytes next (drop (i + 1) (take m own))
  unfolding cell_of
  cell_on h q =
      let size : length (take m own) ≡ m = length-take-le m own l in
      rw (cons_at (take m own) i (omega (arith, size, h)), cons_at (take m own) (i + 1) (omega (arith, size, h)), symbol_is (omega (arith, h)), q)

  pub cell_last : i + 1 ≡ m → cell_of bytes base (drop i (take m own)) ≡ base + s
  unfolding cell_of
  cell_last h =
      let size : length (take m own) ≡ m = length-take-le m own l in
      rw (cons_at (take m own) i (omega (arith, size, h)), drop_of_length-le (take m own) {i = i + 1} (omega (arith, size, h)), symbol_is (omega (arith, h)))

-- a path's link
pub some_link : (root : ℕ) (l : List ℕ) (base : ℕ) (bytes : List ℕ) → 0 < length l → put_link root l base bytes ≡ put_number (cell_size * cell_of bytes root l + 2) base bytes
unfolding put_link
some_link root [] base bytes h = absurd (omega (arith, h))
some_link root (s ∷ u) base bytes h = refl

module _ (root : ℕ) (own : List ℕ) (m base : ℕ) (bytes : List ℕ) where
  module _ (h : m ≡ 0 → ⊥) (l : m ≤ length own) {n : ℕ} (p : n ≡ cell_of bytes root (take m own)) where
    link_is : put_link root (take m own) base bytes ≡ put_number (cell_size * n + 2) base bytes
    link_is = some_link root (take m own) base bytes (omega (arith, length-take-le m own l, h)) ∙ rw p

    pub link_in_lem : {after : List ℕ} → after ≡ put_number (cell_size * n + 2) base bytes → after ≡ put_link root (take m own) base bytes
    link_in_lem e = e ∙ sym link_is

-- two tests that agree on the symbols place alike
smallest_same : (f g : ℕ → Bool) → ((i : ℕ) → f i ≡ g i) → (k n : ℕ) → smallest f k n ≡ smallest g k n
unfolding smallest
smallest_same f g h k zero = refl
smallest_same f g h k (suc n) = rw (h k, smallest_same f g h (suc k) n)

module _ (f g : ℕ → Bool) (same : (s : ℕ) → s < suc symbol_limit → f s ≡ g s) where
  cells_same : (base s n : ℕ) (bytes : List ℕ) → s + n ≤ suc symbol_limit → put_cells f base s n bytes ≡ put_cells g base s n bytes
  unfolding put_cells
  cells_same base s zero bytes h = refl
  cells_same base s (suc n) bytes h =
      ap (λ (b : Bool). put_cells f base (suc s) n (cond b (put_cell (base + s) s bytes) bytes)) (same s (omega arith))
      ∙ cells_same base (suc s) n (cond (g s) (put_cell (base + s) s bytes) bytes) (omega arith)

  serves_same : (bytes taken : List ℕ) (base : ℕ) → serves bytes taken f base ≡ serves bytes taken g base
  unfolding serves
  serves_same bytes taken base =
      ap (◌&&◌ (eqb (get_or taken base 0) 0)) (all_same _ _ 1 symbol_limit (λ s a b. ap (λ (x : Bool). not x || is_free bytes (base + s)) (same s (omega (arith, b)))))

  base_same : (root m : ℕ) (bytes taken : List ℕ) → base_for root m bytes taken f ≡ base_for root m bytes taken g
  unfolding base_for
  base_same root m bytes taken = ap (cond (eqb m 0) root) (smallest_same (serves bytes taken f) (serves bytes taken g) (serves_same bytes taken) 1 (cell_limit - 1))

  inside_same : (base : ℕ) → inside f base ≡ inside g base
  unfolding inside
  inside_same base = all_same _ _ 1 symbol_limit (λ s a b. ap (λ (x : Bool). not x || ltb (base + s) cell_limit) (same s (omega (arith, b))))

  at_same : (root m : ℕ) (own : List ℕ) (base : ℕ) (bytes taken : List ℕ) → place_at root m own f base bytes taken ≡ place_at root m own g base bytes taken
  unfolding place_at
  at_same root m own base bytes taken = rw (inside_same base, cells_same base 1 symbol_limit bytes (omega arith))

-- a step of placing, ended
pub placed : {layout : Layout} {bytes taken : List ℕ} → layout ≡ Fits bytes taken → Placed layout true bytes taken
placed e = record { fits = λ z. e; full = λ z. never (sym z) }

pub refused : {layout : Layout} {bytes taken : List ℕ} → layout ≡ Full → Placed layout false bytes taken
refused e = record { fits = λ z. never z; full = λ z. e }

-- one path
module _ (root m : ℕ) (own text : List ℕ) (bytes taken : List ℕ) {mask : List ℕ} {base : ℕ} {r : Bool} (p : mask ≡ next_mask m own (map pattern_of (cut (drop 0 text))) (replicate (suc symbol_limit) 0))
    (q : base ≡ base_for root m bytes taken (marked mask)) (i : r ≡ inside (marked mask) base) where
  path_is : place root m own (patterns_of text) (Fits bytes taken) ≡ place_at root m own (marked mask) base bytes taken
  unfolding place patterns_of
  path_is =
      let ps : List Pattern = map pattern_of (cut text) in
      let same : (s : ℕ) → s < suc symbol_limit → next_in m own ps s ≡ marked mask s = λ s h. sym (mask_says m own ps p s h) in
      ap (λ (b : ℕ). place_at root m own (next_in m own ps) b bytes taken) (base_same (next_in m own ps) (marked mask) same root m bytes taken ∙ sym q)
      ∙ at_same (next_in m own ps) (marked mask) same root m own base bytes taken

  pub path_full : r ≡ false → Placed (place root m own (patterns_of text) (Fits bytes taken)) false bytes taken
  unfolding place_at
  path_full e = refused (path_is ∙ rw (← i, e))

  pub path_fits : {put exit last : List ℕ} → r ≡ true → put ≡ put_cells (marked mask) base 1 symbol_limit bytes → exit ≡ put_link root (take m own) base put → last ≡ set taken base 1
      → Placed (place root m own (patterns_of text) (Fits bytes taken)) true exit last
  unfolding place_at
  path_fits e a b c = placed (path_is ∙ rw (← i, e, c, b, a))

-- a line that opens a path is long enough for it
pub opens_long : (m : ℕ) (above own : List ℕ) → opens m above own ≡ true → m ≤ length own
unfolding opens
opens_long m above own e = go (ltb m (length own)) refl e
  where
    go : (z : Bool) → ltb m (length own) ≡ z → (z && not (leb m (common above own) && ltb m (length above))) ≡ true → m ≤ length own
    go true p e = omega (arith, ltb-true m (length own) p)
    go false p e = never e

-- what is full stays full
length_full : (root m : ℕ) (above : List ℕ) (ps : List Pattern) → place_length root m above ps Full ≡ Full
unfolding place_length place
length_full root m above [] = refl
length_full root m above (p ∷ ps) = ap (place_length root m p.symbols ps) (go (opens m above p.symbols)) ∙ length_full root m p.symbols ps
  where
    go : (z : Bool) → cond z Full Full ≡ Full
    go true = refl
    go false = refl

lengths_full : (root m n : ℕ) (ps : List Pattern) → place_lengths root m n ps Full ≡ Full
unfolding place_lengths
lengths_full root m zero ps = refl
lengths_full root m (suc n) ps = ap (place_lengths root (suc m) n ps) (length_full root m [] ps) ∙ lengths_full root (suc m) n ps

-- a text that is empty, or not
module _ (w : List ℕ) {r : Bool} (e : r ≡ eqb (length w) 0) where
  pub some_left : r ≡ false → 0 < length w
  some_left z = omega (arith, eqb-false (length w) 0 (sym e ∙ z))

  pub none_left : r ≡ true → length w ≡ 0
  none_left z = eqb-true (length w) 0 (sym e ∙ z)

-- the loop over the lines
module _ (root m : ℕ) (text : List ℕ) (e : ℕ) (above : List ℕ) (h : 0 < length text) (q : e ≡ 0 + line_length (drop 0 text)) (bytes taken : List ℕ) where
  line_cut : patterns_of text ≡ pattern_of (take e text) ∷ patterns_of (drop e text)
  unfolding patterns_of
  line_cut = ap (map pattern_of) (cut_line text 0 e h q) ∙ ap (λ (n : ℕ). pattern_of (take n text) ∷ map pattern_of (cut (drop e text))) (sub-zero e)

  length_turn : {next : Layout} → place_line root m (symbols_of above) (symbols_of (take e text)) (patterns_of text) (Fits bytes taken) ≡ next
      → place_length root m (symbols_of above) (patterns_of text) (Fits bytes taken) ≡ place_length root m (symbols_of (take e text)) (patterns_of (drop e text)) next
  unfolding place_length pattern_of
  length_turn p =
      ap (λ (l : List Pattern). place_length root m (symbols_of above) l (Fits bytes taken)) line_cut
      ∙ ap (place_length root m (symbols_of (take e text)) (patterns_of (drop e text)))
      (sym (ap (λ (l : List Pattern). place_line root m (symbols_of above) (symbols_of (take e text)) l (Fits bytes taken)) line_cut) ∙ p)

  module _ {r : Bool} {exit last : List ℕ} (p : Placed (place_line root m (symbols_of above) (symbols_of (take e text)) (patterns_of text) (Fits bytes taken)) r exit last) where
    pub length_stop : r ≡ false → place_length root m (symbols_of above) (patterns_of text) (Fits bytes taken) ≡ Full
    length_stop z = length_turn (p.full z) ∙ length_full root m (symbols_of (take e text)) (patterns_of (drop e text))

    pub length_on : r ≡ true → place_length root m (symbols_of above) (patterns_of text) (Fits bytes taken) ≡ place_length root m (symbols_of (take e text)) (patterns_of (drop e text)) (Fits exit last)
    length_on z = length_turn (p.fits z)

pub length_begin : (root m : ℕ) (w : List ℕ) (layout : Layout) → place_length root m [] (patterns_of w) layout ≡ place_length root m (symbols_of []) (patterns_of w) layout
unfolding symbols_of
length_begin root m w layout = refl

pub length_done : (root m : ℕ) (above rest : List ℕ) (layout : Layout) → length rest ≡ 0 → place_length root m above (patterns_of rest) layout ≡ layout
unfolding place_length patterns_of cut
length_done root m above [] layout h = refl
length_done root m above (b ∷ t) layout h = absurd (omega arith)

-- the loop over the lengths below a total, from m on
module _ (root m total : ℕ) (ps : List Pattern) (bytes taken : List ℕ) (h : m < total) {r : Bool} {exit last : List ℕ} (p : Placed (place_length root m [] ps (Fits bytes taken)) r exit last) where
  lengths_turn : place_lengths root m (total - m) ps (Fits bytes taken) ≡ place_lengths root (m + 1) (total - (m + 1)) ps (place_length root m [] ps (Fits bytes taken))
  unfolding place_lengths
  lengths_turn = let e : total - m ≡ suc (total - (m + 1)) = omega arith in rw (e, add-one)

  pub lengths_stop : r ≡ false → place_lengths root m (total - m) ps (Fits bytes taken) ≡ Full
  lengths_stop z = lengths_turn ∙ ap (place_lengths root (m + 1) (total - (m + 1)) ps) (p.full z) ∙ lengths_full root (m + 1) (total - (m + 1)) ps

  pub lengths_on : r ≡ true → place_lengths root m (total - m) ps (Fits bytes taken) ≡ place_lengths root (m + 1) (total - (m + 1)) ps (Fits exit last)
  lengths_on z = lengths_turn ∙ ap (place_lengths root (m + 1) (total - (m + 1)) ps) (p.fits z)

pub lengths_done : (root m total : ℕ) (ps : List Pattern) (layout : Layout) → total ≤ m → place_lengths root m (total - m) ps layout ≡ layout
unfolding place_lengths
lengths_done root m total ps layout h = let e : total - m ≡ 0 = omega arith in rw e
