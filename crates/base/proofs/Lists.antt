-- Laws about lists and tests that every crate's proofs cite.
use Prim.Native.Nat.{ℕ, ◌+◌, ◌<◌}
use mathlib.Core.Bool.{Bool, true, false, cond, ◌&&◌}
use mathlib.Core.List.{List, [], ◌∷◌}
use mathlib.Core.Path.{◌≡◌, refl, sym, ap₂}
use native.Mathlib.Numerals.{add-one}
use native.Mathlib.Omega.{arith}
use borrow.Author.Tests.{eqb-true, eq-eqb}
use lib.Dec.{eqb}
use lib.ListN.{length, get_or, drop}
use lib.Seq.{drop-cons}
use Rattle.base.specs.Tests.{same_list}

-- What is left at an index that the code reads: the element there, then the rest.
pub cons_at : (w : List ℕ) (i : ℕ) → i < length w → drop i w ≡ get_or w i 0 ∷ drop (i + 1) w
cons_at w i h = rw (add-one, drop-cons w i 0)

-- 0 is not 1: what two constructors taken for equal come to, by `cc`
pub clash : {A : Type 0} → ◌≡◌ {A = ℕ} 0 1 → A
clash e = absurd (omega (arith, e))

-- false is not true
pub never : {A : Type 0} → false ≡ true → A
never e = clash cc

-- what it says of both tests that one and the other hold
pub both : (a b : Bool) → (a && b) ≡ true → (a ≡ true) × (b ≡ true)
both true b e = (refl, e)
both false b e = never e

pub and_cond : (a b : Bool) → (a && b) ≡ cond a b false
and_cond true b = refl
and_cond false b = refl

-- a test that doesn't hold is false
pub untrue : (a : Bool) → (a ≡ true → ⊥) → a ≡ false
untrue true n = absurd (n refl)
untrue false n = refl

-- two tests that follow from each other are the same
pub test_iff : (a b : Bool) → (a ≡ true → b ≡ true) → (b ≡ true → a ≡ true) → a ≡ b
test_iff true b f g = sym (f refl)
test_iff false true f g = g refl
test_iff false false f g = refl

-- lists that are the same by the test are equal, and the other way round
pub same_true : (a b : List ℕ) → same_list a b ≡ true → a ≡ b
unfolding same_list
same_true [] [] e = refl
same_true [] (y ∷ ys) e = never e
same_true (x ∷ xs) [] e = never e
same_true (x ∷ xs) (y ∷ ys) e = go (eqb x y) refl e (same_true xs ys)
  where
    go : (z : Bool) → eqb x y ≡ z → (z && same_list xs ys) ≡ true → (same_list xs ys ≡ true → xs ≡ ys) → x ∷ xs ≡ y ∷ ys
    go true p q next = ap₂ (λ (a : ℕ) (l : List ℕ). a ∷ l) (eqb-true x y p) (next q)
    go false p q next = never q

pub same_self : (a : List ℕ) → same_list a a ≡ true
unfolding same_list
same_self [] = refl
same_self (x ∷ xs) = rw (eq-eqb x x refl) (same_self xs)
