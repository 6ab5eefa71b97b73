-- What the call's promise comes to, in the customer's words.
use Prim.Native.Nat.{ℕ, zero, suc, ◌-◌, ◌≤◌, ◌<◌}
use mathlib.Core.Bool.{Bool, true, false, cond, ◌&&◌, ◌||◌, or-true}
use mathlib.Core.List.{List, [], ◌∷◌, map}
use mathlib.Core.Logic.{◌↔◌, inl, inr}
use mathlib.Core.Path.{◌≡◌, refl, sym, ◌∙◌, ap, subst}
use native.Mathlib.Decide.{dec_lt}
use native.Mathlib.Omega.{arith}
use borrow.Author.Tests.{eqb-false, ne_eqb, not-true}
use lib.Dec.{eqb, ltb}
use lib.IntN.{pos}
use lib.ListN.{length, get_or}
use lib.Ieee.{Float, nan, inf, fin, binary64, add, of_int, lt, is_nan}
use lib.Ieee.Scale.{finite}
use Rattle.base.specs.Limits.{room_size, word_limit, width_count}
use Rattle.base.specs.Grounds.{plain, Finds, Refuses, Row, says, on, first_of, any_holds, one_of, Check}
use Rattle.std.specs.Prelude.{Ok, Err, Result}
use Rattle.base.proofs.Grounds.{Ordered, judged_by, said_found, said_refused_lem}
use Rattle.base.proofs.Lists.{never, both, untrue}
use Rattle.base.proofs.Order.{finds_exactly, last_exactly, none_found_lem}
use Rattle.words.specs.Symbols.{small, capital, lower, symbol_of}
use Rattle.words.specs.Words.{grounds_by, word_grounds, judge_word, word_symbols}
use Rattle.words.proofs.Laws.{word_fits}
use Rattle.words.proofs.Theorems.{same_judgement, same_symbols, same_length}
use Rattle.gauge.specs.Widths.{zero_width, width_limit, bad_width, any_bad, letter_width, width_to}
use Rattle.gauge.specs.Fit.{is_marked, whole_fits, hyphen_fits, break_fits, last_of, whole_found, break_found, none_found, break_or_none, fit_values, given, fit_grounds, fit_said, fit_answer, judge_fit}
use Rattle.gauge.specs.Strip.{IsBreak, LastFitting, NoneFitting, FirstMisfit, Outside, SomeOutside}
use Rattle.gauge.specs.declared.Gauge.{Gauge}
use Rattle.base.specs.declared.Ground.{Ground}
use Rattle.gauge.specs.declared.Fitting.{Fitting}
use Rattle.gauge.proofs.Order.{fit_ordered}
use Rattle.gauge.proofs.Laws.{fit_judged}
use Rattle.gauge.proofs.Sums.{nor, sum_finite, hyphened_finite, fits_before}

-- The limit of a width is the number 1,000, and all widths given are 29.
pub limit_is_thousand : width_limit ≡ of_int binary64 (pos 1000)
unfolding of_int
limit_is_thousand = refl

pub given_count : (g : Gauge) (widths : List Float) → length widths ≡ width_count → length (given g widths) ≡ 29
given_count g widths e = omega (arith, e)

-- the last number that passes a test, from both sides
module _ (test : ℕ → Bool) where
  -- the numbers behind k, up to n, fail
  abbrev FailBehind : ℕ → ℕ → Type 0
  FailBehind k n = (j : ℕ) → k < j → j ≤ n → test j ≡ false

  LastIs : ℕ → ℕ → Type 0
  LastIs n zero = FailBehind 0 n
  LastIs n (suc k) = (k < n) × (test (suc k) ≡ true) × FailBehind (suc k) n

  -- one number more that fails
  fail_more : (k n : ℕ) → test (suc n) ≡ false → FailBehind k n → FailBehind k (suc n)
  fail_more k n e h = λ j a b. go j a b (dec_lt j (suc n))
    where
      go : (j : ℕ) → k < j → j ≤ suc n → Dec (j < suc n) → test j ≡ false
      go j a b (yes l) = h j a (omega arith)
      go j a b (no l) = let i : j ≡ suc n = omega arith in rw i e

  last_more : (n k : ℕ) → test (suc n) ≡ false → LastIs n k → LastIs (suc n) k
  unfolding LastIs
  last_more n zero e h = fail_more 0 n e h
  last_more n (suc k) e h = (omega (arith, h.0), h.1, fail_more (suc k) n e h.2)

  last_is : (n : ℕ) → LastIs n (last_of test n)
  unfolding last_of LastIs
  last_is zero = λ j a b. absurd (omega arith)
  last_is (suc n) = go (test (suc n)) refl (last_is n)
    where
      go : (z : Bool) → test (suc n) ≡ z → LastIs n (last_of test n) → LastIs (suc n) (cond z (suc n) (last_of test n))
      go true e h = (omega arith, e, λ j a b. absurd (omega arith))
      go false e h = last_more n (last_of test n) e h

  last_at : (n k : ℕ) → last_of test n ≡ k → LastIs n k
  last_at n k e = subst (λ (x : ℕ). LastIs n x) e (last_is n)

  -- no two numbers are the last
  last_once : (n a b : ℕ) → LastIs n a → LastIs n b → a ≡ b
  unfolding LastIs
  last_once n zero zero p q = refl
  last_once n zero (suc b) p q = never (sym (p (suc b) (omega arith) (omega (arith, q.0))) ∙ q.1)
  last_once n (suc a) zero p q = never (sym (q (suc a) (omega arith) (omega (arith, p.0))) ∙ p.1)
  last_once n (suc a) (suc b) p q = go (dec_lt a b) (dec_lt b a)
    where
      go : Dec (a < b) → Dec (b < a) → suc a ≡ suc b
      go (yes l) y = never (sym (p.2 (suc b) (omega arith) (omega (arith, q.0))) ∙ q.1)
      go (no l) (yes k) = never (sym (q.2 (suc a) (omega arith) (omega (arith, p.0))) ∙ p.1)
      go (no l) (no k) = omega arith

-- the last of 1 to n isn't past n
pub last_at_most : (test : ℕ → Bool) (n : ℕ) → last_of test n ≤ n
unfolding last_of
last_at_most test zero = omega arith
last_at_most test (suc n) = go (test (suc n)) (last_at_most test n)
  where
    go : (z : Bool) → last_of test n ≤ n → cond z (suc n) (last_of test n) ≤ suc n
    go true h = omega arith
    go false h = omega arith

-- tests that agree on 1 to n have the same last
last_same : (a b : ℕ → Bool) (n : ℕ) → ((i : ℕ) → 1 ≤ i → i ≤ n → a i ≡ b i) → last_of a n ≡ last_of b n
unfolding last_of
last_same a b zero h = refl
last_same a b (suc n) h = rw (h (suc n) (omega arith) (omega arith), last_same a b n (λ i p q. h i p (omega arith)))

-- a mark is a byte that isn't 0
marked : (room : List ℕ) (i : ℕ) → is_marked room i ≡ true → get_or room i 0 ≡ 0 → ⊥
unfolding is_marked
marked room i e = eqb-false (get_or room i 0) 0 (not-true (eqb (get_or room i 0) 0) e)

marked_so : (room : List ℕ) (i : ℕ) → (get_or room i 0 ≡ 0 → ⊥) → is_marked room i ≡ true
unfolding is_marked
marked_so room i h = rw (ne_eqb (get_or room i 0) 0 h)

-- what a finding's values are, by the three cases
abbrev values : Bool → ℕ → List ℕ
values z k = cond z whole_found (break_or_none k)

-- the first and the second of a finding's values
outcome : List ℕ → ℕ
outcome l = get_or l 0 0

gap : List ℕ → ℕ
gap l = get_or l 1 0

whole_values : (z : Bool) (k : ℕ) → (values z k ≡ whole_found) ↔ (z ≡ true)
unfolding outcome
whole_values true k = (λ e. refl, λ e. refl)
whole_values false zero = (λ e. absurd (omega (arith, ap outcome e)), λ e. never e)
whole_values false (suc k) = (λ e. absurd (omega (arith, ap outcome e)), λ e. never e)

none_values : (z : Bool) (k : ℕ) → (values z k ≡ none_found) ↔ ((z ≡ false) × (k ≡ 0))
unfolding outcome
none_values true k = (λ e. absurd (omega (arith, ap outcome e)), λ p. never (sym p.0))
none_values false zero = (λ e. (refl, refl), λ p. refl)
none_values false (suc k) = (λ e. absurd (omega (arith, ap outcome e)), λ p. absurd (omega (arith, p.1)))

break_values : (z : Bool) (k i : ℕ) → (values z k ≡ break_found i) ↔ ((z ≡ false) × (1 ≤ i) × (k ≡ i))
unfolding outcome gap
break_values true k i = (λ e. absurd (omega (arith, ap outcome e)), λ p. never (sym p.0))
break_values false zero i = (λ e. absurd (omega (arith, ap outcome e)), λ p. absurd (omega (arith, p.1, p.2)))
break_values false (suc k) i = (λ e. let m = ap gap e in (refl, omega (arith, m), m), λ p. ap break_found p.2)

-- a width is refused exactly where it lies outside
outside : (x : Float) → (bad_width x ≡ true) ↔ Outside x
unfolding bad_width is_nan
outside x = (to (lt x zero_width) refl (lt width_limit x) refl, back)
  where
    is_nan_lem : (x : Float) → is_nan x ≡ true → x ≡ nan
    is_nan_lem nan e = refl
    is_nan_lem (inf s) e = never e
    is_nan_lem (fin s m e) n = never n

    to : (a : Bool) → lt x zero_width ≡ a → (b : Bool) → lt width_limit x ≡ b → (a || (b || is_nan x)) ≡ true → Outside x
    to true e b f h = inl e
    to false e true f h = inr (inl f)
    to false e false f h = inr (inr (is_nan_lem x h))

    back : Outside x → (lt x zero_width || (lt width_limit x || is_nan x)) ≡ true
    back (inl e) = rw e
    back (inr (inl e)) = rw e (or-true (lt x zero_width))
    back (inr (inr e)) = rw (ap is_nan e, or-true (lt width_limit x)) (or-true (lt x zero_width))

-- one of some widths is refused exactly where one lies outside
abbrev AnyOutside : List Float → Type 0
AnyOutside l = (k : ℕ) × (k < length l) × Outside (get_or l k zero_width)

any_outside : (l : List Float) → (any_bad l ≡ true) ↔ AnyOutside l
unfolding any_bad
any_outside [] = (λ e. never e, λ p. absurd (omega (arith, p.1)))
any_outside (x ∷ l) = (to (any_outside l) (bad_width x) refl, λ p. back (any_outside l) p.0 p.1 p.2)
  where
    to : (any_bad l ≡ true) ↔ AnyOutside l → (z : Bool) → bad_width x ≡ z → (z || any_bad l) ≡ true → AnyOutside (x ∷ l)
    to next true e h = (0, omega arith, (outside x).0 e)
    to next false e h = let p = next.0 h in (suc p.0, omega (arith, p.1), p.2)

    back : (any_bad l ≡ true) ↔ AnyOutside l → (k : ℕ) → k < suc (length l) → Outside (get_or (x ∷ l) k zero_width) → (bad_width x || any_bad l) ≡ true
    back next zero h o = rw ((outside x).1 o)
    back next (suc k) h o = rw (next.1 (k, omega arith, o)) (or-true (bad_width x))

-- ---- The answer of a call, whose promise is p.
module _ (g : Gauge) (widths : List Float) (word room : List ℕ) where
  -- no ground of the call holds
  abbrev pub NoGround : Type 0
  NoGround = any_holds (fit_grounds g widths word (length room)) ≡ false

  -- a gap that is a break fails the test exactly where it doesn't fit
  misfit : (j : ℕ) → (get_or room j 0 ≡ 0 → ⊥) → break_fits g widths word room j ≡ false → hyphen_fits g widths word j ≡ false
  misfit j m e = rw (marked_so room j m) at e

  fails : (j : ℕ) → 1 ≤ j → j < length word → (IsBreak word room j → hyphen_fits g widths word j ≡ false) → break_fits g widths word room j ≡ false
  fails j a b h = go (is_marked room j) refl
    where
      go : (z : Bool) → is_marked room j ≡ z → (z && hyphen_fits g widths word j) ≡ false
      go true e = h (a, b, marked room j e)
      go false e = refl

  -- the last break that fits, as the definition has it and in words
  last_fitting : (i : ℕ) → 1 ≤ i → (last_of (break_fits g widths word room) (length word - 1) ≡ i) ↔ LastFitting g widths word room i
  unfolding LastIs
  last_fitting zero h = absurd (omega arith)
  last_fitting (suc k) h = (to, back)
    where
      to : last_of (break_fits g widths word room) (length word - 1) ≡ suc k → LastFitting g widths word room (suc k)
      to e =
          let l = last_at (break_fits g widths word room) (length word - 1) (suc k) e in
          let m = both (is_marked room (suc k)) (hyphen_fits g widths word (suc k)) l.1 in
          record {
            is_break_lem = (omega arith, omega (arith, l.0), marked room (suc k) m.0);
            fits = m.1;
            last = λ j a b. misfit j b.2 (l.2 j a (omega (arith, b.1)));
          }

      back : LastFitting g widths word room (suc k) → last_of (break_fits g widths word room) (length word - 1) ≡ suc k
      back l =
          last_once (break_fits g widths word room) (length word - 1) _ (suc k) (last_is (break_fits g widths word room) (length word - 1))
          (omega (arith, l.is_break_lem.1), rw (marked_so room (suc k) l.is_break_lem.2, l.fits), λ j a b. fails j (omega arith) (omega (arith, l.is_break_lem.1)) (l.last j a))

  none_fitting : (last_of (break_fits g widths word room) (length word - 1) ≡ 0) ↔ NoneFitting g widths word room
  unfolding LastIs
  none_fitting = (to, back)
    where
      to : last_of (break_fits g widths word room) (length word - 1) ≡ 0 → NoneFitting g widths word room
      to e = λ j b. misfit j b.2 (last_at (break_fits g widths word room) (length word - 1) 0 e j b.0 (omega (arith, b.1)))

      back : NoneFitting g widths word room → last_of (break_fits g widths word room) (length word - 1) ≡ 0
      back n = last_once (break_fits g widths word room) (length word - 1) _ 0 (last_is (break_fits g widths word room) (length word - 1)) (λ j a b. fails j a (omega arith) (n j))

  module _ (r : Result Fitting Ground) (p : fit_said r ≡ fit_answer g widths word room) where
    found : (l : List ℕ) → (fit_said r ≡ Finds l) ↔ (NoGround × (fit_values g widths word room ≡ l))
    unfolding fit_answer
    found l =
        let e = finds_exactly (fit_grounds g widths word (length room)) (fit_values g widths word room) l in
        (λ q. e.0 (sym p ∙ q), λ q. p ∙ e.1 q)

    -- "the whole word fits": told exactly where no ground holds and the word's width isn't above the line's.
    pub fit_whole : (fit_said r ≡ Finds whole_found) ↔ (NoGround × (whole_fits g widths word ≡ true))
    unfolding fit_values
    fit_whole =
        let v = whole_values (whole_fits g widths word) (last_of (break_fits g widths word room) (length word - 1)) in
        (λ e. let q = (found whole_found).0 e in (q.0, v.0 q.1), λ q. (found whole_found).1 (q.0, v.1 q.1))

    -- "the last break that fits with its hyphen": told exactly where no ground holds, the whole word doesn't fit, and this break is it.
    pub fit_break : (i : ℕ) → (fit_said r ≡ Finds (break_found i)) ↔ (NoGround × (whole_fits g widths word ≡ false) × LastFitting g widths word room i)
    unfolding fit_values
    fit_break i =
        let v = break_values (whole_fits g widths word) (last_of (break_fits g widths word room) (length word - 1)) i in (
          λ e. let q = (found (break_found i)).0 e in let k = v.0 q.1 in (q.0, k.0, (last_fitting i k.1).0 k.2),
          λ q. (found (break_found i)).1 (q.0, v.1 (q.1, q.2.is_break_lem.0, (last_fitting i q.2.is_break_lem.0).1 q.2)),
        )

    -- "or none fits": told exactly where no ground holds and neither the whole word nor a break fits.
    pub fit_none : (fit_said r ≡ Finds none_found) ↔ (NoGround × (whole_fits g widths word ≡ false) × NoneFitting g widths word room)
    unfolding fit_values
    fit_none =
        let v = none_values (whole_fits g widths word) (last_of (break_fits g widths word room) (length word - 1)) in (
          λ e. let q = (found none_found).0 e in let k = v.0 q.1 in (q.0, k.0, none_fitting.0 k.1),
          λ q. (found none_found).1 (q.0, v.1 (q.1, none_fitting.1 q.2)),
        )

    -- "A given width outside 0 to 1,000, or not-a-number, is refusal 13, after 5, 2, 4, 3": exactly where one of all widths given is so and
    -- none of the others holds.
    pub bad_width_exactly : (fit_said r ≡ Refuses (plain 13)) ↔ ((any_holds (on 5 (ltb (length room) room_size) ∷ word_grounds word_limit word) ≡ false) × SomeOutside g widths)
    unfolding fit_answer fit_grounds grounds_by one_of
    bad_width_exactly =
        let e = last_exactly (on 5 (ltb (length room) room_size) ∷ word_grounds word_limit word) 13 (any_bad (given g widths)) (fit_values g widths word room) refl in
        let o = any_outside (given g widths) in
        (λ q. let k = e.0 (sym p ∙ q) in (k.0, o.0 k.1), λ q. p ∙ e.1 (q.0, o.1 q.1))

  -- ---- What a call that isn't refused was given.
  module _ (fine : NoGround) where
    judged : (judge_word word_limit word ≡ Ok tt) × (room_size ≤ length room) × (any_bad (given g widths) ≡ false)
    unfolding says
    judged = fit_judged g widths word (length room) (judged_by (fit_ordered g widths word (length room)) (sym (none_found_lem (fit_grounds g widths word (length room)) [] fine))) refl

    fine_hyphen : bad_width g.hyphen ≡ false
    unfolding any_bad
    fine_hyphen = (nor (bad_width g.hyphen) _ judged.2).0

    fine_line : bad_width g.line ≡ false
    unfolding any_bad
    fine_line = (nor (bad_width g.line) _ (nor (bad_width g.hyphen) _ judged.2).1).0

    fine_letters : any_bad widths ≡ false
    unfolding any_bad
    fine_letters = (nor (bad_width g.line) _ (nor (bad_width g.hyphen) _ judged.2).1).1

    short : length word ≤ word_limit
    short = word_fits word_limit word judged.0

    -- Every sum that is compared with the line is finite.
    pub sums_finite : (i : ℕ) → i ≤ length word → (finite (width_to widths word i) ≡ true) × (finite (add binary64 (width_to widths word i) g.hyphen) ≡ true)
    sums_finite i h = (
      sum_finite widths word fine_letters i (omega (arith, short)),
      hyphened_finite widths word fine_letters g.hyphen fine_hyphen i (omega (arith, short)),
    )

    -- Rounded sums don't fall: where a gap fits with a hyphen, every gap before it does.
    pub earlier_fits : (i j : ℕ) → i ≤ j → j ≤ length word → hyphen_fits g widths word j ≡ true → hyphen_fits g widths word i ≡ true
    unfolding hyphen_fits
    earlier_fits i j h k = fits_before widths word fine_letters g.hyphen fine_hyphen i j h (omega (arith, short)) g.line fine_line

    -- So the last break that fits is the last before the first that doesn't.
    pub last_before_misfit : (i m : ℕ) → FirstMisfit g widths word room m
        → LastFitting g widths word room i ↔ (IsBreak word room i × (i < m) × ((j : ℕ) → i < j → j < m → IsBreak word room j → ⊥))
    last_before_misfit i m f = (to, back)
      where
        -- a break from the first misfit on doesn't fit
        later : (j : ℕ) → m ≤ j → IsBreak word room j → hyphen_fits g widths word j ≡ false
        later j h b = untrue (hyphen_fits g widths word j) (λ t. never (sym f.misfits ∙ earlier_fits m j h (omega (arith, b.1)) t))

        to : LastFitting g widths word room i → IsBreak word room i × (i < m) × ((j : ℕ) → i < j → j < m → IsBreak word room j → ⊥)
        to l = (l.is_break_lem, before (dec_lt i m), λ j a b c. never (sym (l.last j a c) ∙ f.first j b c))
          where
            before : Dec (i < m) → i < m
            before (yes h) = h
            before (no h) = never (sym (later i (omega arith) l.is_break_lem) ∙ l.fits)

        back : IsBreak word room i × (i < m) × ((j : ℕ) → i < j → j < m → IsBreak word room j → ⊥) → LastFitting g widths word room i
        back p = record { is_break_lem = p.0; fits = f.first i p.1 p.0; last = λ j a b. behind j a b (dec_lt j m) }
          where
            behind : (j : ℕ) → i < j → IsBreak word room j → Dec (j < m) → hyphen_fits g widths word j ≡ false
            behind j a b (yes h) = absurd (p.2 j a h b)
            behind j a b (no h) = later j (omega arith) b

-- "bytes 1 to n - 1 are read, any but 0 is a break": rooms that agree on which of these are 0 give one answer.
pub rooms_alike : (g : Gauge) (widths : List Float) (word room other : List ℕ) → ltb (length room) room_size ≡ ltb (length other) room_size
    → ((i : ℕ) → 1 ≤ i → i < length word → eqb (get_or room i 0) 0 ≡ eqb (get_or other i 0) 0) → fit_answer g widths word room ≡ fit_answer g widths word other
unfolding fit_answer fit_grounds fit_values is_marked
rooms_alike g widths word room other s h =
    let e : last_of (break_fits g widths word room) (length word - 1) ≡ last_of (break_fits g widths word other) (length word - 1) = last_same _ _ (length word - 1) (λ i a b. rw (h i a (omega arith))) in
    rw (s, e)

-- "capitals count as small": words that differ only in case get one answer.
symbol_at : (w : List ℕ) (i : ℕ) → symbol_of (lower (get_or w i 0)) ≡ get_or (word_symbols w) i 0
unfolding word_symbols symbol_of small lower capital
symbol_at [] i = refl
symbol_at (b ∷ w) zero = refl
symbol_at (b ∷ w) (suc i) = symbol_at w i

-- judged alike and with equal values, two calls answer alike
answers_alike : (c : Check) {rows more : List Row} (values : List ℕ) → Ordered c rows → Ordered c more → first_of (Finds values) rows ≡ first_of (Finds values) more
answers_alike (Ok _) values o p = said_found o values ∙ sym (said_found p values)
answers_alike (Err x) values o p = said_refused_lem o values ∙ sym (said_refused_lem p values)

module _ (g : Gauge) (widths : List Float) (word other room : List ℕ) (same-letters : map lower word ≡ map lower other) where
  widths_alike : (i : ℕ) → width_to widths word i ≡ width_to widths other i
  unfolding width_to letter_width
  widths_alike zero = refl
  widths_alike (suc i) = rw (widths_alike i, symbol_at word i, same_symbols word other same-letters, symbol_at other i)

  values_alike : fit_values g widths word room ≡ fit_values g widths other room
  unfolding fit_values whole_fits hyphen_fits
  values_alike =
      let n = same_length word other same-letters in
      let e : last_of (break_fits g widths word room) (length word - 1) ≡ last_of (break_fits g widths other room) (length word - 1) = last_same _ _ (length word - 1) (λ i a b. rw (widths_alike i)) in
      rw (widths_alike (length word), e, n)

  judged_alike : judge_fit g widths word (length room) ≡ judge_fit g widths other (length room)
  unfolding judge_fit
  judged_alike = rw (same_judgement word other same-letters word_limit)

  pub case_alike : fit_answer g widths word room ≡ fit_answer g widths other room
  unfolding fit_answer
  case_alike =
      rw values_alike
      (answers_alike (judge_fit g widths word (length room)) (fit_values g widths other room) (fit_ordered g widths word (length room))
      (subst (λ (c : Check). Ordered c (fit_grounds g widths other (length room))) (sym judged_alike) (fit_ordered g widths other (length room))))
