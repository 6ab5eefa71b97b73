-- Laws about one pattern line: one for each way through the code.
use Prim.Native.Nat.{ℕ, zero, suc, ◌+◌, ◌-◌, ◌≤◌, ◌<◌}
use mathlib.Core.Bool.{Bool, true, false, cond}
use mathlib.Core.List.{List, [], ◌∷◌}
use mathlib.Core.Path.{◌≡◌, refl, sym, ◌∙◌, ap}
use native.Mathlib.Omega.{arith}
use borrow.Author.Tests.{eq-eqb, ne_eqb, eqb-true}
use lib.Dec.{eqb}
use lib.ListN.{length, get_or, drop, drop_of_length-le}
use Rattle.std.specs.Prelude.{map, filter, not, Option, None, Some, slice_get}
use Rattle.std.specs.Option.{option_map, unwrap_or}
use Rattle.base.proofs.Lists.{cons_at, never}
use Rattle.words.specs.Symbols.{small, digit, symbol_of, symbols_of}
use Rattle.words.proofs.Laws.{small_not_digit, other_symbol, digit_not_dot, digit_not_apostrophe, symbols_skip, symbols_keep}
use Rattle.lines.proofs.Symbols.{symbols_filtered}
use Rattle.liang.specs.Patterns.{levels_from}
use Rattle.patterns.specs.Common.{common}
use Rattle.patterns.specs.Post.{Parts}

-- a line's symbols, byte by byte
pub symbols_chain : (l : List ℕ) → symbols_of l ≡ filter (λ s. not (eqb s 0)) (map symbol_of l)
symbols_chain l = sym (symbols_filtered l)

-- and one of them by its number
pub symbol_nth : (line : List ℕ) (number : ℕ) (r : Option ℕ) {s : ℕ} → option_map (λ x. x) r ≡ slice_get (filter (λ x. not (eqb x 0)) (map symbol_of line)) number → s ≡ unwrap_or r 0
    → s ≡ get_or (symbols_of line) number 0
symbol_nth line number r e p = p ∙ go r (e ∙ ap (λ (l : List ℕ). slice_get l number) (sym (symbols_chain line)))
  where
    got : (l : List ℕ) (n : ℕ) → unwrap_or (slice_get l n) 0 ≡ get_or l n 0
    got [] n = refl
    got (x ∷ l) zero = refl
    got (x ∷ l) (suc n) = got l n

    go : (r : Option ℕ) → option_map (λ x. x) r ≡ slice_get (symbols_of line) number → unwrap_or r 0 ≡ get_or (symbols_of line) number 0
    go None q = ap (λ (o : Option ℕ). unwrap_or o 0) q ∙ got (symbols_of line) number
    go (Some x) q = ap (λ (o : Option ℕ). unwrap_or o 0) q ∙ got (symbols_of line) number

-- what is left of a line's symbols
module _ (l : List ℕ) (i : ℕ) {s : ℕ} (h : i < length l) (p : s ≡ symbol_of (get_or l i 0)) where
  pub rest_skip : s ≡ 0 → symbols_of (drop i l) ≡ symbols_of (drop (i + 1) l)
  rest_skip e = rw (cons_at l i h, symbols_skip (get_or l i 0) (drop (i + 1) l) (eq-eqb (symbol_of (get_or l i 0)) 0 (sym p ∙ e)))

  pub rest_keep : (s ≡ 0 → ⊥) → symbols_of (drop i l) ≡ s ∷ symbols_of (drop (i + 1) l)
  rest_keep e =
      rw (cons_at l i h, symbols_keep (get_or l i 0) (drop (i + 1) l) (ne_eqb (symbol_of (get_or l i 0)) 0 (λ z. e (p ∙ z))), p)

pub rest_end : (l : List ℕ) (i : ℕ) → length l ≤ i → symbols_of (drop i l) ≡ []
unfolding symbols_of
rest_end l i h = rw (drop_of_length-le l h)

-- an element further on
pub get_d_pred : (x : ℕ) (xs : List ℕ) (n : ℕ) → (n ≡ 0 → ⊥) → get_or (x ∷ xs) n 0 ≡ get_or xs (n - 1) 0
get_d_pred x xs n h = let e : n ≡ suc (n - 1) = omega arith in ap (λ (k : ℕ). get_or (x ∷ xs) k 0) e

-- what is left of a line's levels
module _ (l : List ℕ) (i level : ℕ) (h : i < length l) where
  pub levels_digit : digit (get_or l i 0) ≡ true → levels_from level (drop i l) ≡ levels_from (get_or l i 0 - 48) (drop (i + 1) l)
  unfolding levels_from
  levels_digit d = rw (cons_at l i h, d)

  pub levels_symbol : {s : ℕ} → digit (get_or l i 0) ≡ false → s ≡ symbol_of (get_or l i 0) → (s ≡ 0 → ⊥) → levels_from level (drop i l) ≡ level ∷ levels_from 0 (drop (i + 1) l)
  unfolding levels_from
  levels_symbol d p e = rw (cons_at l i h, d, ne_eqb (symbol_of (get_or l i 0)) 0 (λ z. e (p ∙ z)))

  pub levels_other : {s : ℕ} → digit (get_or l i 0) ≡ false → s ≡ symbol_of (get_or l i 0) → s ≡ 0 → levels_from level (drop i l) ≡ levels_from level (drop (i + 1) l)
  unfolding levels_from
  levels_other d p e = rw (cons_at l i h, d, eq-eqb (symbol_of (get_or l i 0)) 0 (sym p ∙ e))

pub levels_end : (l : List ℕ) (i level : ℕ) → length l ≤ i → levels_from level (drop i l) ≡ level ∷ []
unfolding levels_from
levels_end l i level h = rw (drop_of_length-le l h)

-- the ways through the loop over what is left of a line's levels
pub ruleset rest_of_levels = (levels_digit, levels_symbol, levels_other, levels_end, get_d_pred)

-- a digit is no symbol
pub digit_symbol : (b : ℕ) → digit b ≡ true → eqb (symbol_of b) 0 ≡ true
digit_symbol b d = go (small b) refl
  where
    go : (z : Bool) → small b ≡ z → eqb (symbol_of b) 0 ≡ true
    go true p = never (sym (small_not_digit b p) ∙ d)
    go false p = other_symbol b p (digit_not_dot b d) (digit_not_apostrophe b d)

pub rest_digit : (l : List ℕ) (i : ℕ) → i < length l → digit (get_or l i 0) ≡ true → symbols_of (drop i l) ≡ symbols_of (drop (i + 1) l)
rest_digit l i h d = rest_skip l i h refl (eqb-true (symbol_of (get_or l i 0)) 0 (digit_symbol (get_or l i 0) d))

-- one level more than symbols
pub line_levels : (level : ℕ) (line : List ℕ) → length (levels_from level line) ≡ suc (length (symbols_of line))
unfolding levels_from symbols_of
line_levels level [] = refl
line_levels level (b ∷ t) = go (digit b) refl (eqb (symbol_of b) 0) refl (λ l. line_levels l t)
  where
    go : (d : Bool) → digit b ≡ d → (z : Bool) → eqb (symbol_of b) 0 ≡ z → ((l : ℕ) → length (levels_from l t) ≡ suc (length (symbols_of t)))
        → length (cond d (levels_from (b - 48) t) (cond z (levels_from level t) (level ∷ levels_from 0 t))) ≡ suc (length (cond z (symbols_of t) (symbol_of b ∷ symbols_of t)))
    go true p true q next = next (b - 48)
    go true p false q next = never (sym q ∙ digit_symbol b p)
    go false p true q next = next level
    go false p false q next = ap suc (next 0)

-- what two lines share
pub common_none : (xs : List ℕ) → common xs [] ≡ 0
unfolding common
common_none [] = refl
common_none (x ∷ xs) = refl

pub common_differs : (x y : ℕ) (xs ys : List ℕ) → (x ≡ y → ⊥) → common (x ∷ xs) (y ∷ ys) ≡ 0
unfolding common
common_differs x y xs ys h = rw (ne_eqb x y h)

pub common_agrees : (x y : ℕ) (xs ys : List ℕ) → x ≡ y → common (x ∷ xs) (y ∷ ys) ≡ suc (common xs ys)
unfolding common
common_agrees x y xs ys h = rw (eq-eqb x y h)

-- the loop of `part_lines`: what is left to share, and the first line's symbol behind it
unfoldable pub shared_from : List ℕ → ℕ → List ℕ → ℕ → ℕ
shared_from a i b j = common (symbols_of (drop i a)) (symbols_of (drop j b))

unfoldable pub next_from : List ℕ → ℕ → List ℕ → ℕ → ℕ
next_from a i b j = get_or (symbols_of (drop i a)) (shared_from a i b j) 0

-- what is counted, and what is left
pub record Parted (a : List ℕ) (i : ℕ) (b : List ℕ) (j count : ℕ) : Type 0 where
  pub shares : common (symbols_of a) (symbols_of b) ≡ count + shared_from a i b j
  pub follows : get_or (symbols_of a) (common (symbols_of a) (symbols_of b)) 0 ≡ next_from a i b j

pub part_start : (a b : List ℕ) → Parted a 0 b 0 0
unfolding shared_from next_from
part_start a b = record { shares = omega arith; follows = refl }

-- nothing more is shared
part_done : (a : List ℕ) (i : ℕ) (b : List ℕ) (j count : ℕ) {s : ℕ} → Parted a i b j count → shared_from a i b j ≡ 0 → s ≡ get_or (symbols_of (drop i a)) 0 0
    → Parts (symbols_of a) (symbols_of b) count s
unfolding next_from
part_done a i b j count p z e = record { count = omega (arith, p.shares); next = e ∙ sym (p.follows ∙ ap (λ (k : ℕ). get_or (symbols_of (drop i a)) k 0) z) }

pub part_end : (a : List ℕ) (i : ℕ) (b : List ℕ) (j count : ℕ) → Parted a i b j count → length a ≤ i → Parts (symbols_of a) (symbols_of b) count 0
part_end a i b j count p h = part_done a i b j count p none (rw (rest_end a i h))
  where
    none : shared_from a i b j ≡ 0
    none = unfold shared_from common in rw (rest_end a i h)

module _ (a : List ℕ) (i : ℕ) (b : List ℕ) (j count : ℕ) (w : Parted a i b j count) {x : ℕ} (h : i < length a) (p : x ≡ symbol_of (get_or a i 0)) where
  pub part_skip : x ≡ 0 → Parted a (i + 1) b j count
  unfolding shared_from next_from
  part_skip e =
      let r = rest_skip a i h p e in
      record { shares = w.shares ∙ rw r; follows = w.follows ∙ rw r }

  module _ (e : x ≡ 0 → ⊥) where
    first : x ≡ get_or (symbols_of (drop i a)) 0 0
    first = rw (rest_keep a i h p e)

    pub part_short : length b ≤ j → Parts (symbols_of a) (symbols_of b) count x
    part_short k = part_done a i b j count w none first
      where
        none : shared_from a i b j ≡ 0
        none = unfold shared_from in rw (rest_end b j k) (common_none (symbols_of (drop i a)))

    module _ {y : ℕ} (k : j < length b) (q : y ≡ symbol_of (get_or b j 0)) where
      pub part_skip_right : y ≡ 0 → Parted a i b (j + 1) count
      unfolding shared_from next_from
      part_skip_right d =
          let r = rest_skip b j k q d in
          record { shares = w.shares ∙ rw r; follows = w.follows ∙ rw r }

      pub part_differs : (y ≡ 0 → ⊥) → (x ≡ y → ⊥) → Parts (symbols_of a) (symbols_of b) count x
      part_differs d n = part_done a i b j count w none first
        where
          none : shared_from a i b j ≡ 0
          none = unfold shared_from in rw (rest_keep a i h p e, rest_keep b j k q d) (common_differs x y (symbols_of (drop (i + 1) a)) (symbols_of (drop (j + 1) b)) n)

      pub part_agrees : (y ≡ 0 → ⊥) → x ≡ y → Parted a (i + 1) b (j + 1) (count + 1)
      unfolding next_from
      part_agrees d n = record { shares = omega (arith, w.shares, one); follows = w.follows ∙ ap (get_d_at (symbols_of (drop i a))) one ∙ rw (rest_keep a i h p e) }
        where
          get_d_at : List ℕ → ℕ → ℕ
          get_d_at l m = get_or l m 0

          one : shared_from a i b j ≡ suc (shared_from a (i + 1) b (j + 1))
          one = unfold shared_from in rw (rest_keep a i h p e, rest_keep b j k q d) (common_agrees x y (symbols_of (drop (i + 1) a)) (symbols_of (drop (j + 1) b)) n)
