-- Laws about widths, sums and what fits, one for each way through the code.
use Prim.Native.Nat.{ℕ, zero, suc, ◌+◌, ◌-◌, ◌≤◌, ◌<◌}
use mathlib.Core.Bool.{Bool, true, false, cond, not, ◌&&◌, or-true}
use mathlib.Core.List.{List, [], ◌∷◌}
use mathlib.Core.Path.{◌≡◌, refl, sym, ◌∙◌, ap}
use native.Mathlib.Omega.{arith}
use native.Mathlib.Numerals.{add-one}
use borrow.Author.Tests.{eq-eqb, ne_eqb, lt-ltb, le-ltb, ltb-false}
use lib.Dec.{eqb, ltb}
use lib.ListN.{length, get_or}
use lib.Ieee.{Float, nan, binary64, add, lt, is_nan}
use Rattle.base.specs.Limits.{room_size, word_limit, width_count, letter_limit, apostrophe_symbol}
use Rattle.base.specs.Grounds.{Finds, refuse_if, Check}
use Rattle.std.specs.Prelude.{Option, Some, None, Ok, Err, EachIndex}
use Rattle.base.specs.declared.Ground.{Ground}
use Rattle.base.specs.declared.Ground.TheVariants.{RoomShort, BadWidth}
use Rattle.base.proofs.Grounds.{both_fine, not_refused}
use Rattle.base.proofs.Lists.{clash}
use Rattle.words.specs.Symbols.{apostrophe, small, letter, lower, symbol_of}
use Rattle.words.specs.Words.{judge_word, word_byte}
use Rattle.words.proofs.Laws.{small_low, small_high, symbol_small, apostrophe_lower, byte_letter}
use Rattle.words.proofs.Theorems.{letter_lower}
use Rattle.gauge.specs.Widths.{zero_width, width_limit, bad_width, any_bad, width_place, letter_width, width_to, fits_in}
use Rattle.gauge.specs.Fit.{is_marked, whole_fits, hyphen_fits, break_fits, last_of, break_found, break_or_none, fit_values, given, judge_fit, fit_said}
use Rattle.gauge.specs.declared.Gauge.{Gauge}
use Rattle.gauge.specs.declared.Fitting.TheVariants as fittings

-- one width, by the way the code goes
pub width_below : (x : Float) → lt x zero_width ≡ true → true ≡ bad_width x
unfolding bad_width
width_below x e = rw e

pub width_above : (x : Float) → lt x zero_width ≡ false → lt width_limit x ≡ true → true ≡ bad_width x
unfolding bad_width
width_above x e f = rw (e, f)

pub width_number : (x : Float) → lt x zero_width ≡ false → lt width_limit x ≡ false → is_nan x ≡ bad_width x
unfolding bad_width
width_number x e f = rw (e, f)

-- is one of some widths bad?
any_true : (w : List Float) (k : ℕ) → k < length w → bad_width (get_or w k nan) ≡ true → any_bad w ≡ true
unfolding any_bad
any_true [] k h e = absurd (omega (arith, h))
any_true (x ∷ w) zero h e = rw e
any_true (x ∷ w) (suc k) h e = rw (any_true w k (omega (arith, h)) e) (or-true (bad_width x))

any_false : (w : List Float) → EachIndex w (λ k. bad_width (get_or w k nan) ≡ false) → any_bad w ≡ false
unfolding any_bad
any_false [] e = refl
any_false (x ∷ w) e = rw (e 0 (omega arith)) (any_false w (λ k h. e (suc k) (omega (arith, h))))

pub any_by : (w : List Float) (r : Bool) → (r ≡ true → (k : ℕ) × (k < length w) × (bad_width (get_or w k nan) ≡ true))
    → (r ≡ false → EachIndex w (λ k. bad_width (get_or w k nan) ≡ false)) → r ≡ any_bad w
any_by w r found none = go r refl
  where
    go : (z : Bool) → r ≡ z → r ≡ any_bad w
    go true p = let h = found p in p ∙ sym (any_true w h.0 h.1 h.2)
    go false p = p ∙ sym (any_false w (none p))

-- all widths of a call: the hyphen's, the line's, then the letters'
module _ (g : Gauge) (widths : List Float) {y : Bool} (p : y ≡ bad_width g.hyphen) where
  pub given_hyphen : y ≡ true → true ≡ any_bad (given g widths)
  unfolding any_bad
  given_hyphen e = rw (sym p ∙ e)

  module _ (f : y ≡ false) {z : Bool} (q : z ≡ bad_width g.line) where
    pub given_line : z ≡ true → true ≡ any_bad (given g widths)
    unfolding any_bad
    given_line e = rw (sym p ∙ f, sym q ∙ e)

    pub given_letters : z ≡ false → {r : Bool} → r ≡ any_bad widths → r ≡ any_bad (given g widths)
    unfolding any_bad
    given_letters e s = s ∙ rw (sym p ∙ f, sym q ∙ e)

-- the judgement of the call, by the way the code goes
module _ (g : Gauge) (widths : List Float) (word : List ℕ) (size : ℕ) where
  pub fit_short : size < room_size → Err RoomShort ≡ judge_fit g widths word size
  unfolding judge_fit
  fit_short h = rw (lt-ltb size room_size h)

  module _ (h : room_size ≤ size) {own : Check} (o : own ≡ judge_word word_limit word) where
    pub fit_word_refused : {x : Ground} → own ≡ Err x → Err x ≡ judge_fit g widths word size
    unfolding judge_fit
    fit_word_refused e = rw (le-ltb size room_size h, sym o ∙ e)

    module _ (f : own ≡ Ok tt) {z : Bool} (p : z ≡ any_bad (given g widths)) where
      pub fit_width : z ≡ true → Err BadWidth ≡ judge_fit g widths word size
      unfolding judge_fit
      fit_width e = rw (le-ltb size room_size h, sym o ∙ f, sym p ∙ e)

      pub fit_fine : z ≡ false → (Ok tt) ≡ judge_fit g widths word size
      unfolding judge_fit
      fit_fine e = rw (le-ltb size room_size h, sym o ∙ f, sym p ∙ e)

-- what a call that isn't refused may go on with
pub fit_judged : (g : Gauge) (widths : List Float) (word : List ℕ) (size : ℕ) {judged : Check} → judged ≡ judge_fit g widths word size → judged ≡ Ok tt
    → (judge_word word_limit word ≡ Ok tt) × (room_size ≤ size) × (any_bad (given g widths) ≡ false)
unfolding judge_fit
fit_judged g widths word size p e =
    let a = both_fine (refuse_if (ltb size room_size) RoomShort) _ (sym p ∙ e) in
    let b = both_fine (judge_word word_limit word) _ a.1 in
    (b.0, ltb-false size room_size (not_refused (ltb size room_size) RoomShort a.0), not_refused (any_bad (given g widths)) BadWidth b.1)

-- a letter's number in the alphabet, 1 to 26
letter_range : (b : ℕ) → letter b ≡ true → (1 ≤ symbol_of (lower b)) × (symbol_of (lower b) ≤ letter_limit)
letter_range b e =
    let s : small (lower b) ≡ true = sym (letter_lower b) ∙ e in
    let m = symbol_small (lower b) s in
    (omega (arith, small_low (lower b) s, m), omega (arith, small_high (lower b) s, m))

-- what stands in place of a width that there isn't doesn't matter where there is one
get_d_default : (w : List Float) (k : ℕ) → k < length w → get_or w k nan ≡ get_or w k zero_width
get_d_default [] k h = absurd (omega arith)
get_d_default (x ∷ w) zero h = refl
get_d_default (x ∷ w) (suc k) h = get_d_default w k (omega arith)

module _ (widths : List Float) (b : ℕ) (p : (length widths ≡ width_count) × (word_byte b ≡ true)) where
  pub apostrophe_is : b ≡ apostrophe → get_or widths letter_limit nan ≡ letter_width widths b
  unfolding letter_width width_place
  apostrophe_is e = get_d_default widths letter_limit (omega (arith, p.0)) ∙ rw (← apostrophe_lower b e)

  module _ (e : b ≡ apostrophe → ⊥) {n : ℕ} (q : n ≡ symbol_of (lower b)) where
    pub letter_number : (1 ≤ n) × (n ≤ letter_limit)
    letter_number = let r = letter_range b (byte_letter b p.1 e) in (omega (arith, r.0), omega (arith, r.1))

    pub letter_is : get_or widths (n - 1) nan ≡ letter_width widths b
    unfolding letter_width width_place
    letter_is =
        get_d_default widths (n - 1) (omega (arith, p.0, letter_number.0, letter_number.1))
        ∙ rw (← q, ne_eqb n apostrophe_symbol (λ z. omega (arith, z, letter_number.1)))

pub fits_is : (line width : Float) → not (lt line width) ≡ fits_in line width
unfolding fits_in
fits_is line width = refl

-- the last break so far, by the way the code goes
module _ (mark : ℕ) (fits : Bool) (i : ℕ) (before : Option ℕ) where
  pub break_unmarked : mark ≡ 0 → before ≡ cond (not (eqb mark 0) && fits) (Some i) before
  break_unmarked e = rw (eq-eqb mark 0 e)

  module _ (m : mark ≡ 0 → ⊥) where
    pub break_fits_lem : fits ≡ true → Some i ≡ cond (not (eqb mark 0) && fits) (Some i) before
    break_fits_lem e = rw (ne_eqb mark 0 m, e)

    pub break_misfits : fits ≡ false → before ≡ cond (not (eqb mark 0) && fits) (Some i) before
    break_misfits e = rw (ne_eqb mark 0 m, e)

-- a number that is 0 for none, as a gap
pub gap_of : ℕ → Option ℕ
gap_of zero = None
gap_of (suc n) = Some (suc n)

gap_either : (z : Bool) (i n : ℕ) {found : Option ℕ} → found ≡ gap_of n → cond z (Some (suc i)) found ≡ gap_of (cond z (suc i) n)
unfolding gap_of
gap_either true i n e = refl
gap_either false i n e = e

gap_none : (k : ℕ) → gap_of k ≡ None → k ≡ 0
unfolding gap_of
gap_none zero h = refl
gap_none (suc k) h = clash cc

gap_some : (k : ℕ) {gap : ℕ} → gap_of k ≡ Some gap → Finds (break_found gap) ≡ Finds (break_or_none k)
unfolding gap_of
gap_some zero h = clash cc
gap_some (suc k) {gap} h = let e : suc k ≡ gap = cc in rw e

-- What holds behind the first i letters of a judged word: their width, and the last break among the gaps up to there.
pub record Measured (g : Gauge) (widths : List Float) (word room : List ℕ) (i : ℕ) (width : Float) (found : Option ℕ) : Type 0 where
  pub sum : width ≡ width_to widths word i
  pub last : found ≡ gap_of (last_of (break_fits g widths word room) i)

module _ (g : Gauge) (widths : List Float) (word room : List ℕ) where
  pub measured_none : Measured g widths word room 0 zero_width None
  unfolding width_to last_of gap_of
  measured_none = record { sum = refl; last = refl }

  module _ {i : ℕ} {width : Float} {found : Option ℕ} (m : Measured g widths word room i width found) {w : Float} (l : w ≡ letter_width widths (get_or word i 0)) where
    -- a letter more
    width_more : add binary64 width w ≡ width_to widths word (i + 1)
    unfolding width_to
    width_more = rw (add-one, m.sum, l)

    -- a letter and a gap more
    pub measured_more : {z : Bool} → z ≡ fits_in g.line (add binary64 (add binary64 width w) g.hyphen) → {r : Option ℕ} → r ≡ cond (not (eqb (get_or room (i + 1) 0) 0) && z) (Some (i + 1)) found
        → Measured g widths word room (i + 1) (add binary64 width w) r
    unfolding last_of is_marked hyphen_fits
    measured_more f e = record { sum = width_more; last = e ∙ rw (f, width_more, add-one) (gap_either _ i _ m.last) }

    -- the last letter: the whole word, or its last break
    module _ (end : i + 1 ≡ length word) {z : Bool} (f : z ≡ fits_in g.line (add binary64 width w)) where
      whole : z ≡ whole_fits g widths word
      unfolding whole_fits
      whole = f ∙ ap (fits_in g.line) (width_more ∙ ap (width_to widths word) end)

      pub found_whole : z ≡ true → fit_said (Ok fittings.Whole) ≡ Finds (fit_values g widths word room)
      unfolding fit_said fit_values
      found_whole e = rw (sym whole ∙ e)

      by_break : z ≡ false → {k : ℕ} → last_of (break_fits g widths word room) i ≡ k → Finds (break_or_none k) ≡ Finds (fit_values g widths word room)
      unfolding fit_values
      by_break e p = let k : i ≡ length word - 1 = omega arith in rw (sym whole ∙ e, ← p, k)

      pub found_none : z ≡ false → found ≡ None → fit_said (Ok fittings.Nowhere) ≡ Finds (fit_values g widths word room)
      unfolding fit_said
      found_none e n = by_break e (gap_none (last_of (break_fits g widths word room) i) (sym m.last ∙ n))

      pub found_break : z ≡ false → {gap : ℕ} → found ≡ Some gap → fit_said (Ok (fittings.Break gap)) ≡ Finds (fit_values g widths word room)
      unfolding fit_said
      found_break e {gap} n = gap_some (last_of (break_fits g widths word room) i) (sym m.last ∙ n) ∙ by_break e refl
