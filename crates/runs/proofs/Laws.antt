-- Laws on runs and on what is held, that both theorems cite: how a run goes on, and the last of the bytes held.
use Prim.Native.Nat.{ℕ, suc, ◌+◌, ◌-◌}
use mathlib.Core.Bool.{Bool, true, false, and-true, and-false}
use mathlib.Core.List.{List, [], ◌∷◌, ◌++◌}
use mathlib.Core.Path.{◌≡◌, refl, sym, ◌∙◌, ap}
use native.Mathlib.Omega.{arith}
use borrow.Author.Tests.{ne_eqb}
use lib.Dec.{eqb}
use lib.ListN.{length, get_or, length-append}
use lib.Seq.{get_or-append-add, take_at}
use Rattle.base.proofs.Lists.{never}
use Rattle.words.specs.Symbols.{letter, small, capital, apostrophe}
use Rattle.words.specs.Words.{starts_letter, is_between, with_apostrophes, leading}
use Rattle.runs.specs.Text.{onward}
use Rattle.runs.specs.Held.{last_of, but_last, waits, joins, finished}

-- no apostrophe is a letter
pub apostrophe_none : letter apostrophe ≡ false
unfolding letter small capital
apostrophe_none = refl

pub zero_none : letter 0 ≡ false
unfolding letter small capital
zero_none = refl

pub letter_other : (b : ℕ) → letter b ≡ true → eqb b apostrophe ≡ false
letter_other b e = ne_eqb b apostrophe (λ q. never (sym apostrophe_none ∙ ap letter (sym q) ∙ e))

-- how a run goes on: with a letter, with an apostrophe before a letter, not at all
lead_either : (after : Bool) (t : List ℕ) → starts_letter t ≡ true → leading with_apostrophes after t ≡ onward t
unfolding starts_letter leading with_apostrophes
lead_either after [] e = never e
lead_either after (b ∷ t) e = rw (e)

module _ (b : ℕ) (t : List ℕ) where
  pub on_letter : letter b ≡ true → onward (b ∷ t) ≡ suc (onward t)
  unfolding leading with_apostrophes
  on_letter e = rw e

  pub on_mark : letter b ≡ false → eqb b apostrophe ≡ true → starts_letter t ≡ true → onward (b ∷ t) ≡ suc (onward t)
  unfolding leading with_apostrophes is_between
  on_mark e q l = rw (e, q, l, lead_either false t l)

  pub off_mark : letter b ≡ false → starts_letter t ≡ false → onward (b ∷ t) ≡ 0
  unfolding leading with_apostrophes is_between
  off_mark e l = rw (e, l, and-false (eqb b apostrophe))

  pub off_other : letter b ≡ false → eqb b apostrophe ≡ false → onward (b ∷ t) ≡ 0
  unfolding leading with_apostrophes is_between
  off_other e q = rw (e, q)

-- the last of some bytes, and those before it
one_more : (h : List ℕ) (b : ℕ) → length h ≡ length (h ++ (b ∷ [])) - 1
one_more h b = omega (arith, length-append h (b ∷ []))

pub last_is : (h : List ℕ) (b : ℕ) → last_of (h ++ (b ∷ [])) ≡ b
last_is h b =
    let e : length (h ++ (b ∷ [])) - 1 ≡ length h + 0 = omega (arith, length-append h (b ∷ [])) in
    ap (λ (k : ℕ). get_or (h ++ (b ∷ [])) k 0) e ∙ get_or-append-add h (b ∷ []) 0 0

pub but_last_is : (h : List ℕ) (b : ℕ) → but_last (h ++ (b ∷ [])) ≡ h
but_last_is h b = take_at h (b ∷ []) (length (h ++ (b ∷ [])) - 1) (one_more h b)

-- an apostrophe is held behind a letter, and not behind another nor where nothing is held
pub joins_none : (b : ℕ) → joins [] b ≡ false
unfolding joins
joins_none b = rw zero_none (and-false (eqb b apostrophe))

pub joins_letter : (h : List ℕ) (b : ℕ) → letter (last_of h) ≡ true → joins h b ≡ eqb b apostrophe
unfolding joins
joins_letter h b l = rw l (and-true (eqb b apostrophe))

pub joins_mark : (h : List ℕ) (b : ℕ) → joins (h ++ (apostrophe ∷ [])) b ≡ false
unfolding joins
joins_mark h b = rw (last_is h apostrophe, apostrophe_none) (and-false (eqb b apostrophe))

-- what is held, finished
module _ {A : Type 0} (byte : ℕ → List A) (word : List ℕ → List A) where
  pub finished_word : (h : List ℕ) → letter (last_of h) ≡ true → finished byte word h ≡ word h
  unfolding finished waits
  finished_word [] l = never (sym zero_none ∙ l)
  finished_word (b ∷ t) l = rw (letter_other (last_of (b ∷ t)) l)

  pub finished_marked : (h : List ℕ) → letter (last_of h) ≡ true → finished byte word (h ++ (apostrophe ∷ [])) ≡ word h ++ byte apostrophe
  unfolding finished waits
  finished_marked [] l = never (sym zero_none ∙ l)
  finished_marked (b ∷ t) l = rw (last_is (b ∷ t) apostrophe, but_last_is (b ∷ t) apostrophe)
