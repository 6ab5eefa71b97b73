-- Laws about a byte of the word against a byte of a line: one for each way through the code.
use Prim.Native.Nat.{ℕ, ◌+◌, ◌*◌, ◌/◌, ◌%◌, ◌≤◌, ◌<◌}
use mathlib.Core.Bool.{Bool, true, false, cond, not, ◌&&◌}
use mathlib.Core.Path.{◌≡◌, refl, sym, ◌∙◌, ap, ap₂}
use native.Mathlib.Omega.{arith}
use native.Mathlib.Decide.{dec_le}
use native.Mathlib.Nat.{max-eq_right}
use borrow.Author.Tests.{eq-eqb, ne_eqb, eqb-true, eqb-false, le-leb, lt-leb, not-false}
use lib.Bits.{bit_or, or_step, or_block, or_zero_r}
use lib.Dec.{eqb, leb}
use lib.Pow.{split}
use Rattle.words.specs.Symbols.{small, lower, symbol_of, dot, apostrophe}
use Rattle.words.proofs.Laws.{from_range, small_low, small_high, lower_below, lower_capital, lower_above, symbol_small, symbol_dot, symbol_apostrophe, symbol_none}

-- a number that a test chose
pub chosen : (t : Bool) (x y : ℕ) → t ≡ true → x ≡ cond t x y
chosen t x y e = rw e

pub not_chosen : (t : Bool) (x y : ℕ) → t ≡ false → y ≡ cond t x y
not_chosen t x y e = rw e

pub chosen_most : (t : Bool) (x : ℕ) {n : ℕ} → n ≡ cond t x 0 → n ≤ x
chosen_most true x e = omega (arith, e)
chosen_most false x e = omega (arith, e)

-- a byte with the bit of small letters set
lowest_set : (n : ℕ) → bit_or n 1 ≡ n / 2 * 2 + 1
lowest_set n = or_step n 1 ∙ ap₂ (λ (x y : ℕ). x * 2 + y) (or_zero_r (n / 2)) (max-eq_right (omega arith))

bit_set : (a : ℕ) → bit_or a 32 ≡ (a / 32 / 2 * 2 + 1) * 32 + a % 32
bit_set a =
    ap (λ (n : ℕ). bit_or n 32) (sym (split a 5)) ∙ or_block 5 (a / 32) 1 (a % 32) 0 (omega arith) (omega arith)
    ∙ ap₂ (λ (x y : ℕ). x * 32 + y) (lowest_set (a / 32)) (or_zero_r (a % 32))

neither : (x y b : ℕ) → (x ≡ b → ⊥) → (y ≡ b → ⊥) → eqb x b ≡ eqb y b
neither x y b p q = ne_eqb x b p ∙ sym (ne_eqb y b q)

-- it meets a small letter exactly where the byte is that letter or its capital
module _ (a b : ℕ) (s : small b ≡ true) where
  from_capitals : 65 ≤ a → Dec (a ≤ 90) → Dec (a ≤ 95) → Dec (a ≤ 127) → eqb (bit_or a 32) b ≡ eqb (lower a) b
  from_capitals h (yes k) t u = ap (λ (n : ℕ). eqb n b) (omega (arith, bit_set a, lower_capital a h k))
  from_capitals h (no k) (yes t) u =
      neither (bit_or a 32) (lower a) b (λ e. omega (arith, e, bit_set a, small_high b s)) (λ e. omega (arith, e, lower_above a h (omega arith), small_low b s))
  from_capitals h (no k) (no t) (yes u) = ap (λ (n : ℕ). eqb n b) (omega (arith, bit_set a, lower_above a h (omega arith)))
  from_capitals h (no k) (no t) (no u) =
      neither (bit_or a 32) (lower a) b (λ e. omega (arith, e, bit_set a, small_high b s)) (λ e. omega (arith, e, lower_above a h (omega arith), small_high b s))

  below_capitals : a < 65 → eqb (bit_or a 32) b ≡ eqb (lower a) b
  below_capitals h = neither (bit_or a 32) (lower a) b (λ e. omega (arith, e, bit_set a, small_low b s)) (λ e. omega (arith, e, lower_below a h, small_low b s))

  pub folded_meets : eqb (bit_or a 32) b ≡ eqb (lower a) b
  folded_meets = go (dec_le 65 a)
    where
      go : Dec (65 ≤ a) → eqb (bit_or a 32) b ≡ eqb (lower a) b
      go (yes h) = from_capitals h (dec_le a 90) (dec_le a 95) (dec_le a 127)
      go (no h) = below_capitals (omega arith)

small_from : (b : ℕ) → 97 ≤ b → leb b 122 ≡ small b
unfolding small
small_from b h = from_range 97 122 b h

-- a letter that is met is moved past the small ones; what stays among them is another letter
module _ (a b : ℕ) {left met : ℕ} (m : met ≡ cond (eqb (bit_or a 32) b) 256 0) (p : left ≡ b + met) where
  pub parts_below : left < 97 → false ≡ (small b && not (eqb (lower a) b))
  parts_below h = go (small b) refl
    where
      go : (z : Bool) → small b ≡ z → false ≡ (z && not (eqb (lower a) b))
      go true s = absurd (omega (arith, small_low b s))
      go false s = refl

  pub parts_from : 97 ≤ left → leb left 122 ≡ (small b && not (eqb (lower a) b))
  parts_from h = go (eqb (bit_or a 32) b) refl (small b) refl m
    where
      go : (t : Bool) → eqb (bit_or a 32) b ≡ t → (z : Bool) → small b ≡ z → met ≡ cond t 256 0 → leb left 122 ≡ (z && not (eqb (lower a) b))
      go true e true s q = lt-leb left 122 (omega (arith, q)) ∙ rw (sym (folded_meets a b s) ∙ e)
      go true e false s q = lt-leb left 122 (omega (arith, q))
      go false e true s q = le-leb left 122 (omega (arith, q, small_high b s)) ∙ rw (sym (folded_meets a b s) ∙ e)
      go false e false s q = let i : left ≡ b = omega (arith, q) in ap (λ (n : ℕ). leb n 122) i ∙ small_from b (omega arith) ∙ s

-- two bytes in one number each are the same exactly where both are
pub both_met :
    (a b c d : ℕ) → a < 256 → c < 256 → {f g x y : ℕ} → f ≡ bit_or a 32 → g ≡ bit_or b 32 → x ≡ f + g * 256 → y ≡ c + d * 256
    → eqb x y ≡ (eqb (bit_or a 32) c && eqb (bit_or b 32) d)
both_met a b c d h k {f} {g} {x} {y} i j p q = go (eqb (bit_or a 32) c) refl (eqb (bit_or b 32) d) refl
  where
    go : (t : Bool) → eqb (bit_or a 32) c ≡ t → (u : Bool) → eqb (bit_or b 32) d ≡ u → eqb x y ≡ (t && u)
    go true m true n = eq-eqb x y (omega (arith, i, j, p, q, eqb-true (bit_or a 32) c m, eqb-true (bit_or b 32) d n))
    go true m false n = ne_eqb x y (λ e. eqb-false (bit_or b 32) d n (omega (arith, e, i, j, p, q, eqb-true (bit_or a 32) c m)))
    go false m u n = ne_eqb x y (λ e. eqb-false (bit_or a 32) c m (omega (arith, e, i, j, p, q, h, k, bit_set a)))

-- no other symbol is a letter's
pub one_letter : (x b : ℕ) → small b ≡ true → symbol_of x ≡ symbol_of b → x ≡ b
one_letter x b s e = go (small x) refl (eqb x dot) refl (eqb x apostrophe) refl
  where
    go : (z : Bool) → small x ≡ z → (d : Bool) → eqb x dot ≡ d → (a : Bool) → eqb x apostrophe ≡ a → x ≡ b
    go true p d q a r = omega (arith, e, small_low x p, small_low b s, symbol_small x p, symbol_small b s)
    go false p true q a r = absurd (omega (arith, e, symbol_dot x p (eqb-true x dot q), small_high b s, symbol_small b s))
    go false p false q true r =
        absurd (omega (arith, e, symbol_apostrophe x p (eqb-false x dot q) (eqb-true x apostrophe r), small_high b s, symbol_small b s))
    go false p false q false r = absurd (omega (arith, e, symbol_none x p (eqb-false x dot q) (eqb-false x apostrophe r), small_low b s, symbol_small b s))

-- a byte that is no letter and no other symbol stands for none
pub no_symbol : (b : ℕ) → small b ≡ false → (not (small b) && not (eqb (symbol_of b) 0)) ≡ false → symbol_of b ≡ 0
no_symbol b s o = eqb-true (symbol_of b) 0 (not-false (eqb (symbol_of b) 0) (sym (ap (λ (z : Bool). not z && not (eqb (symbol_of b) 0)) s) ∙ o))

pub other_not : (b : ℕ) → small b ≡ true → false ≡ (not (small b) && not (eqb (symbol_of b) 0))
other_not b s = rw s

pub other_if : (b : ℕ) {y : ℕ} → small b ≡ false → y ≡ symbol_of b → not (eqb y 0) ≡ (not (small b) && not (eqb (symbol_of b) 0))
other_if b s e = rw (s, e)

pub letters_most : (b : ℕ) {n : ℕ} → n ≡ cond (small b) 1 0 → n ≤ 1
letters_most b e = chosen_most (small b) 1 e
