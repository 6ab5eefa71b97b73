-- Rounded sums of widths are finite and don't fall from letter to letter, so what fits a line fits it with fewer letters too.
-- A finite value is taken as the fraction `num` / `den`. Sums have the sign of plus; a width given may be -0.0.
use Prim.Native.Nat.{ℕ, zero, suc, ◌+◌, ◌-◌, ◌*◌, ◌%◌, ◌^◌, ◌≤◌, ◌<◌, zero-le}
use native.Mathlib.Nat.{le_refl, le_trans, le_of_eq, le_of_suc-le-suc, lt_of_not-le, not-le_of_lt, eq-or-lt_of_le, sub-add_cancel, sub-zero, add-zero, zero-add, zero-mul, mul-one, one-mul, mul_assoc, mul-pos, mul-le-mul_right, mul-lt-mul_of_pos_right, lt_of_mul-lt-mul_right}
use native.Mathlib.Omega.{arith}
use mathlib.Core.Logic.{inl, inr}
use mathlib.Core.Bool.{Bool, true, false, cond, ◌&&◌, ◌||◌, true≢false}
use mathlib.Core.List.{List, [], ◌∷◌}
use mathlib.Core.Path.{◌≡◌, refl, sym, ◌∙◌, ap, subst}
use borrow.Author.Tests.{ltb-true, ltb-false, le-ltb, not-true}
use denote.Floats.{passes, is_true}
use lib.Dec.{T, leb, ltb, eqb, ltb→lt, leb→le, eqb→eq}
use lib.IntN.{ℤ, pos, negsuc}
use lib.ListN.{get_or}
use lib.Pow.{pow-add, pow_pos, pow-lt}
use lib.Ieee.{Float, nan, inf, fin, Format, binary64, prec, emax, low, up, down, odd, units, round, sum, add, lt, le, fits, is_nan}
use lib.Ieee.Fits.{and_l, and_r, up_pos, down_pos, round_is, add-fits}
use lib.Ieee.Exact.{HasValue, odd_sign, round_exact}
use lib.Ieee.Back.{round_whole}
use lib.Ieee.Order.{transfer, le_of_values, round_mono}
use lib.Ieee.Scale.{finite}
use lib.Ieee.Positive.{num, den, den_pos, through}
use Rattle.words.specs.Symbols.{lower, symbol_of}
use Rattle.gauge.specs.Widths.{zero_width, bad_width, any_bad, width_place, letter_width, width_to, fits_in}

-- ---- what isn't refused

-- A width: finite, not below 0 (-0.0 isn't), and at most 1,000.
abbrev pub Width : Float → Type 0
Width nan = ⊥
Width (inf s) = ⊥
Width (fin s m e) = (s ≡ true → m ≡ 0) × (m * up e ≤ 1000 * down e)

-- where "one or the other" is false, both are
pub nor : (a b : Bool) → (a || b) ≡ false → (a ≡ false) × (b ≡ false)
nor true b e = absurd (true≢false e)
nor false b e = (refl, e)

-- where a product with a number above 0 is 0, the other factor is 0
none : (m u : ℕ) → 0 < u → m * u ≤ 0 → m ≡ 0
none zero u p h = refl
none (suc m) u p h = absurd (omega arith)

-- What isn't refused is a width.
pub judged_width : (x : Float) → bad_width x ≡ false → Width x
unfolding bad_width lt is_nan
judged_width nan e = absurd (true≢false e)
judged_width (inf true) e = absurd (true≢false e)
judged_width (inf false) e = absurd (true≢false e)
judged_width (fin true m e) r =
    let z : m * up e ≤ 0 = omega (arith, ltb-false 0 (m * up e * 1 + 0 * down e) (nor _ false r).0) in
    (λ _. none m (up e) (up_pos e) z, le_trans z zero-le)
judged_width (fin false m e) r = (λ s. absurd (true≢false (sym s)), omega (arith, ltb-false (1000 * down e) (m * up e * 1) (nor _ false (nor (lt (fin false m e) zero_width) _ r).1).0))

-- A width is finite, and so is what isn't refused.
finite_width : (x : Float) → Width x → finite x ≡ true
finite_width nan w = elim w [ ]
finite_width (inf _) w = elim w [ ]
finite_width (fin s m e) w = refl

pub width_finite : (x : Float) → bad_width x ≡ false → finite x ≡ true
width_finite x e = finite_width x (judged_width x e)

-- 0 is a width.
zero_fine : bad_width zero_width ≡ false
unfolding bad_width lt is_nan
zero_fine = refl

-- Where none of some widths is refused, the one at an index isn't, nor is the 0 that stands for one past the last.
each_fine : (widths : List Float) → any_bad widths ≡ false → (i : ℕ) → bad_width (get_or widths i zero_width) ≡ false
unfolding any_bad
each_fine [] e i = zero_fine
each_fine (x ∷ rest) e zero = (nor (bad_width x) (any_bad rest) e).0
each_fine (x ∷ rest) e (suc i) = each_fine rest (nor (bad_width x) (any_bad rest) e).1 i

-- So every letter has a width.
pub letter_width_lem : (widths : List Float) → any_bad widths ≡ false → (b : ℕ) → Width (letter_width widths b)
unfolding letter_width
letter_width_lem widths e b = judged_width _ (each_fine widths e (width_place (symbol_of (lower b))))

-- ---- values with the sign of plus, as fractions

-- finite, with the sign of plus
abbrev Plain : Float → Type 0
Plain x = HasValue x false (num x) (den x)

-- x is at most y
abbrev AtMost : Float → Float → Type 0
AtMost x y = num x * den y ≤ num y * den x

-- the order of fractions goes through a third
most_trans : (x y z : Float) → AtMost x y → AtMost y z → AtMost x z
most_trans x y z h k = through (num x) (num y) (num z) (den x) (den y) (den z) (den_pos y) h k

-- what `le` tests, of two fractions with one denominator
at_most : (a b : ℕ) → T (ltb a b || (eqb a b && true)) → a ≤ b
at_most a b t = go (ltb a b) refl t
  where
    go : (z : Bool) → ltb a b ≡ z → T (z || (eqb a b && true)) → a ≤ b
    go true p u = omega (arith, ltb-true a b p)
    go false p u = le_of_eq (eqb→eq a b (and_l (eqb a b) true u))

-- of two values in order, any fractions that they equal are in order
le_fractions : (x y : Float) (a c b d : ℕ) → HasValue x false a c → HasValue y false b d → T (le x y) → a * d ≤ b * c
unfolding le
le_fractions nan y a c b d p q t = elim p [ ]
le_fractions (inf _) y a c b d p q t = elim p [ ]
le_fractions (fin false m e) nan a c b d p q t = elim q [ ]
le_fractions (fin false m e) (inf _) a c b d p q t = elim q [ ]
le_fractions (fin true m e) y a c b d p q t = absurd (true≢false p.0)
le_fractions (fin false m e) (fin true n g) a c b d p q t = absurd (true≢false q.0)
le_fractions (fin false m e) (fin false n g) a c b d p q t =
    transfer a b c d (m * up e) (n * up g) (down e) (down g) (down_pos e) (down_pos g) (sym p.1) (sym q.1) (at_most (m * up e * down g) (n * up g * down e) t)

-- ---- rounding

-- the sign of plus, finite or not
abbrev Upper : Float → Type 0
Upper nan = ⊥
Upper (inf s) = s ≡ false
Upper (fin s m e) = s ≡ false

-- rounding to plus gives such a value
value_upper : (x : Float) (a c : ℕ) → HasValue x false a c → Upper x
value_upper nan a c h = elim h [ ]
value_upper (inf _) a c h = elim h [ ]
value_upper (fin s m e) a c h = h.0

units_upper : (f : Format) (q k : ℕ) → Upper (units f false q k)
unfolding units
units_upper f q k = go (ltb (q * 2 ^ k) (2 ^ (low f + suc (emax f))))
  where
    go : (b : Bool) → Upper (cond b (odd (suc (prec f)) false q k (low f)) (inf false))
    go true = value_upper (odd (suc (prec f)) false q k (low f)) (q * 2 ^ k) (2 ^ low f) (odd_sign (suc (prec f)) false q k (low f))
    go false = refl

round_upper : (f : Format) (a c : ℕ) → Upper (round f false a c)
round_upper f a c = subst (λ (z : Float). Upper z) (sym (round_is f false a c)) (units_upper f _ _)

-- what is at most a finite value is finite
under : (z w : Float) (a c : ℕ) → Upper z → HasValue w false a c → T (le z w) → Plain z
unfolding le
under nan w a c u v t = elim u [ ]
under (inf false) nan a c u v t = elim v [ ]
under (inf false) (inf _) a c u v t = elim v [ ]
under (inf true) w a c u v t = absurd (true≢false u)
under (inf false) (fin s n d) a c u v t = absurd t
under (fin s m e) w a c u v t = (u, refl)

-- A fraction of at most k rounds to a finite value of at most k, where k is a whole number that the format holds.
round_within : (f : Format) (a c k : ℕ) → 0 < c → k ≤ 2 ^ prec f → a ≤ k * c → Plain (round f false a c) × (num (round f false a c) ≤ k * den (round f false a c))
round_within f a c k C K h =
    let z = round f false a c in
    let v = round_whole f false k K in
    let t = round_mono f a c k 1 C (pow_pos 0) (le_trans (le_of_eq (mul-one a)) h) in
    let p : Plain z = under z (round f false k 1) k 1 (round_upper f a c) v t in
    (p, subst (λ (n : ℕ). n ≤ k * den z) (mul-one (num z)) (le_fractions z (round f false k 1) (num z) (den z) k 1 p v t))

-- powers of two in order have their exponents in order
le_of_pow : (i j : ℕ) → 2 ^ i ≤ 2 ^ j → i ≤ j
le_of_pow i j h = le_of_suc-le-suc (lt_of_not-le (λ (g : suc j ≤ i). not-le_of_lt (pow-lt g) h))

-- 2 ^ e is a power of two of the format's smallest values, where it isn't below them
shift : (l : ℕ) (e : ℤ) → down e ≤ 2 ^ l → (j : ℕ) × (up e * 2 ^ l ≡ 2 ^ j * down e)
shift l (pos k) h = (k + l, sym (pow-add 2 k l) ∙ sym (mul-one (2 ^ (k + l))))
shift l (negsuc k) h = (l - suc k, one-mul (2 ^ l) ∙ ap (λ (x : ℕ). 2 ^ x) (sym (sub-add_cancel (le_of_pow (suc k) l h))) ∙ pow-add 2 (l - suc k) (suc k))

-- a value below the end of the format, t, is below it in units of the smallest value too
below_top : (q u l p d t : ℕ) → 0 < l → q * u < t * d → q * u * l ≡ q * p * d → q * p < l * t
below_top q u l p d t L h e = lt_of_mul-lt-mul_right d (omega (arith, mul-lt-mul_of_pos_right h L, e))

-- A value that the format holds, rounded, is that value.
round_held : (f : Format) (x : Float) → Plain x → T (fits f x) → HasValue (round f false (num x) (den x)) false (num x) (den x)
unfolding fits
round_held f nan p t = elim p [ ]
round_held f (inf _) p t = elim p [ ]
round_held f (fin s zero e) p t = round_exact f false (0 * up e) (down e) 0 0 (down_pos e) (pow_pos (prec f)) (pow_pos (low f + suc (emax f))) (simp zero-mul)
round_held f (fin s (suc m) e) p t =
    let a = eqb (suc m % 2) 1 in
    let b = ltb (suc m) (2 ^ prec f) in
    let c = leb (down e) (2 ^ low f) in
    let abc = and_l (a && b && c) (ltb (suc m * up e) (2 ^ suc (emax f) * down e)) t in
    let k = shift (low f) e (leb→le (down e) (2 ^ low f) (and_r (a && b) c abc)) in
    let same : suc m * up e * 2 ^ low f ≡ suc m * 2 ^ k.0 * down e = mul_assoc (suc m) (up e) (2 ^ low f) ∙ ap (λ (x : ℕ). suc m * x) k.1 ∙ sym (mul_assoc (suc m) (2 ^ k.0) (down e)) in
    let top : suc m * up e < 2 ^ suc (emax f) * down e = ltb→lt (suc m * up e) (2 ^ suc (emax f) * down e) (and_r (a && b && c) _ t) in
    round_exact f false (suc m * up e) (down e) (suc m) k.0 (down_pos e) (ltb→lt (suc m) (2 ^ prec f) (and_r a b (and_l (a && b) c abc)))
    (subst (λ (x : ℕ). suc m * 2 ^ k.0 < x) (sym (pow-add 2 (low f) (suc (emax f)))) (below_top (suc m) (up e) (2 ^ low f) (2 ^ k.0) (down e) (2 ^ suc (emax f)) (pow_pos (low f)) top same)) same

-- ---- a sum and a width added to it

-- a sum with -0, and one with the sign of plus: both round the sum of the numerators
sum_minus : (f : Format) (a b c : ℕ) → b ≡ 0 → sum f false a true b c ≡ round f false (a + b) c
unfolding sum
sum_minus f a b c e = rw (e, le-ltb a 0 zero-le, sub-zero a, add-zero a)

sum_plus : (f : Format) (a b c : ℕ) → sum f false a false b c ≡ round f false (a + b) c
unfolding sum
sum_plus f a b c = refl

-- `add` of finite values brings them to one denominator
opened : (f : Format) (m : ℕ) (e : ℤ) (n : ℕ) (d : ℤ) (s : Bool) → add f (fin false m e) (fin s n d) ≡ sum f false (m * up e * down d) s (n * up d * down e) (down e * down d)
unfolding add
opened f m e n d s = refl

-- A width added is the sum of the fractions, rounded once.
add_is : (f : Format) (x y : Float) → Plain x → Width y → add f x y ≡ round f false (num x * den y + num y * den x) (den x * den y)
add_is f nan y p w = elim p [ ]
add_is f (inf _) y p w = elim p [ ]
add_is f (fin false m e) nan p w = elim w [ ]
add_is f (fin false m e) (inf _) p w = elim w [ ]
add_is f (fin true m e) y p w = absurd (true≢false p.0)
add_is f (fin false m e) (fin true n d) p w = opened f m e n d true ∙ sum_minus f _ _ _ (rw (w.0 refl) (simp zero-mul))
add_is f (fin false m e) (fin false n d) p w = opened f m e n d false ∙ sum_plus f _ _ _

-- a width is at most 1,000, as a fraction
width_most : (y : Float) → Width y → num y ≤ 1000 * den y
width_most nan w = elim w [ ]
width_most (inf _) w = elim w [ ]
width_most (fin s m e) w = w.1

-- What a sum is: finite with the sign of plus, held by the format, at most k.
record Sum (f : Format) (k : ℕ) (x : Float) : Type 0 where
  plain : Plain x
  held : T (fits f x)
  within : num x ≤ k * den x

-- The sum of nothing.
zero_sum : (f : Format) (k : ℕ) → Sum f k zero_width
unfolding fits
zero_sum f k = record { plain = (refl, refl); held = tt; within = zero-le }

-- a sum is finite
plain_finite : (x : Float) → Plain x → finite x ≡ true
plain_finite nan p = elim p [ ]
plain_finite (inf _) p = elim p [ ]
plain_finite (fin s m e) p = refl

module _ {f : Format} {k : ℕ} {x : Float} (s : Sum f k x) where
  finite_sum : finite x ≡ true
  finite_sum = plain_finite x s.plain

  -- sums in order pass the test of the order
  le_sums : {n : ℕ} {y : Float} → Sum f n y → AtMost x y → le x y ≡ true
  le_sums {y = y} t h = is_true (le x y) (le_of_values x y (num x) (den x) (num y) (den y) (den_pos x) (den_pos y) s.plain t.plain h)

-- x / c ≤ k and y / d ≤ 1000 give x / c + y / d ≤ k + 1000
both_most : (x c y d k n : ℕ) → x ≤ k * c → y ≤ 1000 * d → k + 1000 ≤ n → x * d + y * c ≤ n * (c * d)
both_most x c y d k n h g l = omega (arith, mul-le-mul_right d h, mul-le-mul_right c g, mul-le-mul_right (c * d) l)

module _ (f : Format) (x : Float) (k : ℕ) (s : Sum f k x) (y : Float) (w : Width y) (n : ℕ) (more : k + 1000 ≤ n) (room : n ≤ 2 ^ prec f) where
  -- A sum and a width make a sum, of at most 1,000 more.
  sum_step : Sum f n (add f x y)
  sum_step =
      let r = round_within f (num x * den y + num y * den x) (den x * den y) n (mul-pos (den_pos x) (den_pos y)) room (both_most (num x) (den x) (num y) (den y) k n s.within (width_most y w) more) in
      let e = sym (add_is f x y s.plain w) in
      record {
        plain = subst (λ (z : Float). Plain z) e r.0;
        held = add-fits f x y;
        within = subst (λ (z : Float). num z ≤ n * den z) e r.1;
      }

  -- It is no smaller than before.
  sum_grows : AtMost x (add f x y)
  sum_grows =
      le_fractions (round f false (num x) (den x)) (add f x y) (num x) (den x) _ _ (round_held f x s.plain s.held) sum_step.plain
      (subst (λ (z : Float). T (le (round f false (num x) (den x)) z)) (sym (add_is f x y s.plain w))
      (round_mono f (num x) (den x) (num x * den y + num y * den x) (den x * den y) (den_pos x) (mul-pos (den_pos x) (den_pos y)) (first_most (num x) (den x) (num y) (den y))))
    where
      -- a / c ≤ a / c + b / d
      first_most : (a c b d : ℕ) → a * (c * d) ≤ (a * d + b * c) * c
      first_most a c b d = omega arith

-- a / c + b / d ≤ a' / c' + b / d for a / c ≤ a' / c'
added : (a c a' c' b d : ℕ) → a * c' ≤ a' * c → (a * d + b * c) * (c' * d) ≤ (a' * d + b * c') * (c * d)
added a c a' c' b d h = omega (arith, mul-le-mul_right (d * d) h)

-- Of two values in order the sums with one width are in order.
add_mono : (f : Format) (x x' y : Float) → Plain x → Plain x' → Width y → AtMost x x' → T (le (add f x y) (add f x' y))
add_mono f x x' y p p' w h =
    subst (λ (z : Float). T (le z (add f x' y))) (sym (add_is f x y p w))
    (subst (λ (z : Float). T (le (round f false (num x * den y + num y * den x) (den x * den y)) z)) (sym (add_is f x' y p' w))
    (round_mono f (num x * den y + num y * den x) (den x * den y) (num x' * den y + num y * den x') (den x' * den y) (mul-pos (den_pos x) (den_pos y)) (mul-pos (den_pos x') (den_pos y))
    (added (num x) (den x) (num x') (den x') (num y) (den y) h)))

-- ---- a line

-- whether a line is below x, as a test of fractions
line_test : (l x : Float) → Width l → Plain x → lt l x ≡ ltb (num l * den x) (num x * den l)
unfolding lt
line_test l nan w p = elim p [ ]
line_test l (inf _) w p = elim p [ ]
line_test nan (fin false m e) w p = elim w [ ]
line_test (inf _) (fin false m e) w p = elim w [ ]
line_test l (fin true m e) w p = absurd (true≢false p.0)
line_test (fin true n d) (fin false m e) w p = rw (w.0 refl) (simp (zero-mul, zero-add))
line_test (fin false n d) (fin false m e) w p = refl

-- What fits a line still fits it where it is no larger.
fits_lower : (l x y : Float) → Width l → Plain x → Plain y → le x y ≡ true → fits_in l y ≡ true → fits_in l x ≡ true
unfolding fits_in
fits_lower l x y w p q r h =
    let a : num y * den l ≤ num l * den y = ltb-false (num l * den y) (num y * den l) (sym (line_test l y w q) ∙ not-true (lt l y) h) in
    let b : AtMost x y = le_fractions x y _ _ _ _ p q (passes (le x y) r) in
    rw (line_test l x w p, le-ltb (num l * den x) (num x * den l) (most_trans x y l b a))

-- ---- the letters of a word

-- So many letters and a hyphen come to less than 2 ^ 53, up to which the format holds every whole number.
abbrev pub most_letters : ℕ
most_letters = 2 ^ 40

module _ (widths : List Float) (word : List ℕ) (fine : any_bad widths ≡ false) where
  -- one letter more: again a sum, and no smaller
  letter_step : (i : ℕ) → i < most_letters → Sum binary64 (1000 * i) (width_to widths word i)
      → Sum binary64 (1000 * suc i) (width_to widths word (suc i)) × AtMost (width_to widths word i) (width_to widths word (suc i))
  unfolding width_to
  letter_step i h s =
      let n : 1000 * i + 1000 ≤ 1000 * suc i = omega arith in
      let r : 1000 * suc i ≤ 2 ^ 53 = omega arith in
      let w = letter_width_lem widths fine (get_or word i 0) in
      (sum_step binary64 _ (1000 * i) s _ w (1000 * suc i) n r, sum_grows binary64 _ (1000 * i) s _ w (1000 * suc i) n r)

  -- so each width of first letters is a sum
  sum_is : (i : ℕ) → i ≤ most_letters → Sum binary64 (1000 * i) (width_to widths word i)
  unfolding width_to
  sum_is zero h = zero_sum binary64 0
  sum_is (suc i) h = (letter_step i h (sum_is i (omega arith))).0

  -- The width of a word's first letters is finite.
  pub sum_finite : (i : ℕ) → i ≤ most_letters → finite (width_to widths word i) ≡ true
  sum_finite i h = finite_sum (sum_is i h)

  -- It is at most 1,000 a letter.
  pub sum_bound : (i : ℕ) → i ≤ most_letters → num (width_to widths word i) ≤ 1000 * i * den (width_to widths word i)
  sum_bound i h = (sum_is i h).within

  -- as fractions they rise: as many letters, and one more and more
  same_sum : (i j : ℕ) → i ≡ j → AtMost (width_to widths word i) (width_to widths word j)
  same_sum i j e = rw e (le_refl _)

  climb : (i j : ℕ) → i ≤ j → j ≤ most_letters → AtMost (width_to widths word i) (width_to widths word j)
  climb i zero h k = same_sum i zero (omega arith)
  climb i (suc j) h k =
      elim (eq-or-lt_of_le h) [
        | inl e ↦ same_sum i (suc j) e
        | inr l ↦
            let b : j ≤ most_letters = omega arith in
            most_trans (width_to widths word i) (width_to widths word j) (width_to widths word (suc j)) (climb i j (le_of_suc-le-suc l) b) (letter_step j k (sum_is j b)).1
      ]

  module _ (i j : ℕ) (h : i ≤ j) (k : j ≤ most_letters) where
    -- "rounded sums don't fall": more letters are no narrower.
    pub sums_rise : le (width_to widths word i) (width_to widths word j) ≡ true
    sums_rise = le_sums (sum_is i (le_trans h k)) (sum_is j k) (climb i j h k)

    -- Where more letters fit, fewer do.
    pub whole_before : (line : Float) → bad_width line ≡ false → fits_in line (width_to widths word j) ≡ true → fits_in line (width_to widths word i) ≡ true
    whole_before line l = fits_lower line _ _ (judged_width line l) (sum_is i (le_trans h k)).plain (sum_is j k).plain sums_rise

  module _ (hyphen : Float) (good : bad_width hyphen ≡ false) where
    -- with a hyphen they are sums too
    hyphened_is : (i : ℕ) → i ≤ most_letters → Sum binary64 (1000 * i + 1000) (add binary64 (width_to widths word i) hyphen)
    hyphened_is i h = sum_step binary64 _ (1000 * i) (sum_is i h) hyphen (judged_width hyphen good) (1000 * i + 1000) (le_refl _) (omega arith)

    -- The same with a hyphen: finite, no narrower with more letters, and where more letters fit, fewer do.
    pub hyphened_finite : (i : ℕ) → i ≤ most_letters → finite (add binary64 (width_to widths word i) hyphen) ≡ true
    hyphened_finite i h = finite_sum (hyphened_is i h)

    module _ (i j : ℕ) (h : i ≤ j) (k : j ≤ most_letters) where
      pub hyphened_rise : le (add binary64 (width_to widths word i) hyphen) (add binary64 (width_to widths word j) hyphen) ≡ true
      hyphened_rise = is_true _ (add_mono binary64 _ _ hyphen (sum_is i (le_trans h k)).plain (sum_is j k).plain (judged_width hyphen good) (climb i j h k))

      pub fits_before : (line : Float) → bad_width line ≡ false → fits_in line (add binary64 (width_to widths word j) hyphen) ≡ true → fits_in line (add binary64 (width_to widths word i) hyphen) ≡ true
      fits_before line l = fits_lower line _ _ (judged_width line l) (hyphened_is i (le_trans h k)).plain (hyphened_is j k).plain hyphened_rise
