-- Which words are good, and where refusal 3 is told: each byte is a letter or an apostrophe between two letters, and the place is that of
-- the first which isn't. A word without an apostrophe is judged as the machine of 1980 judges it.
use Prim.Native.Nat.{ℕ, zero, suc, ◌+◌, ◌-◌, ◌≤◌, ◌<◌}
use mathlib.Core.Bool.{Bool, true, false, cond, ◌&&◌, ◌||◌, or-true, or-false}
use mathlib.Core.List.{List, [], ◌∷◌}
use mathlib.Core.Logic.{inl, inr, ◌↔◌}
use mathlib.Core.Path.{◌≡◌, refl, sym, ◌∙◌, ap}
use native.Mathlib.Numerals.{add-one}
use native.Mathlib.Omega.{arith}
use borrow.Author.Tests.{eq-eqb, ne_eqb, eqb-true, eqb-false}
use lib.Dec.{eqb}
use lib.ListN.{length, get_or, drop}
use Rattle.base.specs.Limits.{apostrophe_symbol}
use Rattle.std.specs.Prelude.{Ok, Err}
use Rattle.base.specs.declared.Ground.TheVariants.{NotLetter}
use Rattle.base.proofs.Lists.{clash, never, both}
use Rattle.words.specs.Symbols.{dot, apostrophe, small, capital, letter, symbol_of}
use Rattle.words.specs.Words.{Rule, letters_alone, starts_letter, is_between, with_apostrophes, leading, all_fit, judge_by, judge_word, judge_letters, MayStand}
use Rattle.words.proofs.Laws.{small_high, symbol_small, symbol_dot, symbol_none, length_fine, judged_bytes, word_some, word_fits}

-- Does a letter stand right before place i, `after` telling of place 0?
abbrev behind_letter : Bool → List ℕ → ℕ → Bool
behind_letter after w zero = after
behind_letter after w (suc k) = letter (get_or w k 0)

abbrev fits_at : Rule → Bool → List ℕ → ℕ → Bool
fits_at rule after w i = rule (behind_letter after w i) (get_or w i 0) (drop (suc i) w)

before_on : (after : Bool) (b : ℕ) (t : List ℕ) (k : ℕ) → behind_letter (letter b) t k ≡ behind_letter after (b ∷ t) (suc k)
before_on after b t zero = refl
before_on after b t (suc k) = refl

-- the bytes before the place that is told fit, and the one there doesn't
module _ (rule : Rule) where
  lead_fits : (after : Bool) (w : List ℕ) (i : ℕ) → i < leading rule after w → fits_at rule after w i ≡ true
  unfolding leading
  lead_fits after [] i h = absurd (omega arith)
  lead_fits after (b ∷ t) i h = go (rule after b t) refl i h (lead_fits (letter b) t)
    where
      go : (z : Bool) → rule after b t ≡ z → (i : ℕ) → i < cond z (suc (leading rule (letter b) t)) 0 → ((i : ℕ) → i < leading rule (letter b) t → fits_at rule (letter b) t i ≡ true)
          → fits_at rule after (b ∷ t) i ≡ true
      go true p zero h next = p
      go true p (suc i) h next = ap (λ (z : Bool). rule z (get_or t i 0) (drop (suc i) t)) (sym (before_on after b t i)) ∙ next i (omega arith)
      go false p i h next = absurd (omega arith)

  lead_stops : (after : Bool) (w : List ℕ) → leading rule after w < length w → fits_at rule after w (leading rule after w) ≡ false
  unfolding leading
  lead_stops after [] h = absurd (omega arith)
  lead_stops after (b ∷ t) h = go (rule after b t) refl h (lead_stops (letter b) t)
    where
      go : (z : Bool) → rule after b t ≡ z → cond z (suc (leading rule (letter b) t)) 0 < length (b ∷ t)
          → (leading rule (letter b) t < length t → fits_at rule (letter b) t (leading rule (letter b) t) ≡ false)
          → fits_at rule after (b ∷ t) (cond z (suc (leading rule (letter b) t)) 0) ≡ false
      go true p h next =
          let k = leading rule (letter b) t in
          ap (λ (z : Bool). rule z (get_or t k 0) (drop (suc k) t)) (sym (before_on after b t k)) ∙ next (omega arith)
      go false p h next = p

  pub all_lead : (at : ℕ) (after : Bool) (w : List ℕ) → all_fit rule at after w ≡ Ok tt → leading rule after w ≡ length w
  unfolding all_fit leading
  all_lead at after [] e = refl
  all_lead at after (b ∷ t) e = go (rule after b t) e (all_lead (at + 1) (letter b) t)
    where
      go : (z : Bool) → cond z (all_fit rule (at + 1) (letter b) t) (Err (NotLetter at)) ≡ Ok tt → (all_fit rule (at + 1) (letter b) t ≡ Ok tt → leading rule (letter b) t ≡ length t)
          → cond z (suc (leading rule (letter b) t)) 0 ≡ suc (length t)
      go true h next = ap suc (next h)
      go false h next = clash cc

  each_all : (at : ℕ) (after : Bool) (w : List ℕ) → ((i : ℕ) → i < length w → fits_at rule after w i ≡ true) → all_fit rule at after w ≡ Ok tt
  unfolding all_fit
  each_all at after [] f = refl
  each_all at after (b ∷ t) f =
      rw (f 0 (omega arith))
      (each_all (at + 1) (letter b) t (λ i h. ap (λ (z : Bool). rule z (get_or t i 0) (drop (suc i) t)) (before_on after b t i) ∙ f (suc i) (omega arith)))

-- a letter stands behind
starts_at : (w : List ℕ) (n : ℕ) → starts_letter (drop n w) ≡ letter (get_or w n 0)
unfolding starts_letter letter small capital
starts_at [] zero = refl
starts_at (b ∷ t) zero = refl
starts_at [] (suc n) = refl
starts_at (b ∷ t) (suc n) = starts_at t n

one_less : (k : ℕ) → suc k - 1 ≡ k
one_less k = omega arith

fits_stand : (w : List ℕ) (i : ℕ) → fits_at with_apostrophes false w i ≡ true → MayStand w i
unfolding with_apostrophes is_between
fits_stand w i e = go (letter (get_or w i 0)) refl e
  where
    between : (i : ℕ) → (eqb (get_or w i 0) apostrophe && (behind_letter false w i && starts_letter (drop (suc i) w))) ≡ true → MayStand w i
    between zero e = never (both (eqb (get_or w 0 0) apostrophe) false e).1
    between (suc k) e =
        let a = both (eqb (get_or w (suc k) 0) apostrophe) (letter (get_or w k 0) && starts_letter (drop (suc (suc k)) w)) e in
        let b = both (letter (get_or w k 0)) (starts_letter (drop (suc (suc k)) w)) a.1 in
        inr (eqb-true (get_or w (suc k) 0) apostrophe a.0, omega arith, rw (one_less k) b.0, rw add-one (sym (starts_at w (suc (suc k))) ∙ b.1))

    go : (z : Bool) → letter (get_or w i 0) ≡ z → (z || (eqb (get_or w i 0) apostrophe && (behind_letter false w i && starts_letter (drop (suc i) w)))) ≡ true → MayStand w i
    go true p h = inl p
    go false p h = between i h

stand_fits : (w : List ℕ) (i : ℕ) → MayStand w i → fits_at with_apostrophes false w i ≡ true
unfolding with_apostrophes is_between
stand_fits w i (inl p) = rw p
stand_fits w zero (inr (q, h, a, b)) = absurd (omega arith)
stand_fits w (suc k) (inr (q, h, a, b)) =
    let before : letter (get_or w k 0) ≡ true = rw (one_less k) at a in
    let behind : starts_letter (drop (suc (suc k)) w) ≡ true = starts_at w (suc (suc k)) ∙ rw add-one at b in
    rw (eq-eqb (get_or w (suc k) 0) apostrophe q, before, behind) (or-true (letter (get_or w (suc k) 0)))

-- "anywhere else it is refusal 3 at its place": before the place told every byte may stand where it does, and the one there may not.
pub told_place : (w : List ℕ) → ((i : ℕ) → i < leading with_apostrophes false w → MayStand w i) × (leading with_apostrophes false w < length w → MayStand w (leading with_apostrophes false w) → ⊥)
told_place w = (
  λ i h. fits_stand w i (lead_fits with_apostrophes false w i h),
  λ h m. never (sym (lead_stops with_apostrophes false w h) ∙ stand_fits w (leading with_apostrophes false w) m),
)

-- A word is good exactly where it isn't empty, isn't over its limit, and each byte may stand where it does.
pub word_exactly : (limit : ℕ) (w : List ℕ) → (judge_word limit w ≡ Ok tt) ↔ ((1 ≤ length w) × (length w ≤ limit) × ((i : ℕ) → i < length w → MayStand w i))
unfolding judge_by
word_exactly limit w = (
  λ e.
      let n = all_lead with_apostrophes 0 false w (judged_bytes with_apostrophes limit w e) in
      (word_some limit w e, word_fits limit w e, λ i h. fits_stand w i (lead_fits with_apostrophes false w i (omega (arith, n)))),
  λ p.
      rw (← length_fine limit (length w) (λ z. omega (arith, z, p.0)) p.1)
      (each_all with_apostrophes 0 false w (λ i h. stand_fits w i (p.2 i h))),
)

-- "28 sorts last": every other byte's symbol is lower.
pub sorts_last : (b : ℕ) → (b ≡ apostrophe → ⊥) → symbol_of b < apostrophe_symbol
sorts_last b q = go (small b) refl (eqb b dot) refl
  where
    go : (z : Bool) → small b ≡ z → (d : Bool) → eqb b dot ≡ d → symbol_of b < apostrophe_symbol
    go true p d r = omega (arith, symbol_small b p, small_high b p)
    go false p true r = omega (arith, symbol_dot b p (eqb-true b dot r))
    go false p false r = omega (arith, symbol_none b p (eqb-false b dot r) q)

-- A word without an apostrophe is judged as letters alone are.
abbrev Plain : List ℕ → Type 0
Plain w = (i : ℕ) → i < length w → get_or w i 0 ≡ apostrophe → ⊥

plain_fit : (at : ℕ) (after : Bool) (w : List ℕ) → Plain w → all_fit with_apostrophes at after w ≡ all_fit letters_alone at after w
unfolding all_fit with_apostrophes letters_alone is_between
plain_fit at after [] f = refl
plain_fit at after (b ∷ t) f = rw (ne_eqb b apostrophe (f 0 (omega arith)), or-false (letter b), plain_fit (at + 1) (letter b) t (λ i h. f (suc i) (omega arith)))

pub plain_word : (limit : ℕ) (w : List ℕ) → Plain w → judge_word limit w ≡ judge_letters limit w
unfolding judge_by
plain_word limit w f = rw (plain_fit 0 false w f)
