-- The order of symbols is strict: it is transitive, and nothing stands before itself.
use Prim.Native.Nat.{ℕ, ◌<◌}
use mathlib.Core.Bool.{Bool, true, false, ◌&&◌, ◌||◌}
use mathlib.Core.List.{List, [], ◌∷◌}
use mathlib.Core.Logic.{◌⊎◌, inl, inr}
use mathlib.Core.Path.{◌≡◌, refl}
use native.Mathlib.Omega.{arith}
use borrow.Author.Tests.{lt-ltb, le-ltb, eq-eqb, ltb-true, eqb-true}
use lib.Dec.{ltb, eqb}
use Rattle.base.proofs.Lists.{never}
use Rattle.lines.specs.Order.{before}

-- what it says of two lists that the first comes before the second
pub first_differs : (x y : ℕ) (r : Bool) → (ltb x y || (eqb x y && r)) ≡ true → (x < y) ⊎ ((x ≡ y) × (r ≡ true))
first_differs x y r e = go (ltb x y) refl (eqb x y) refl e
  where
    go : (a : Bool) → ltb x y ≡ a → (b : Bool) → eqb x y ≡ b → (a || (b && r)) ≡ true → (x < y) ⊎ ((x ≡ y) × (r ≡ true))
    go true p b q h = inl (ltb-true x y p)
    go false p true q h = inr (eqb-true x y q, h)
    go false p false q h = never h

pub before_trans : (a b c : List ℕ) → before a b ≡ true → before b c ≡ true → before a c ≡ true
unfolding before
before_trans [] [] c p q = never p
before_trans [] (y ∷ ys) [] p q = never q
before_trans [] (y ∷ ys) (z ∷ zs) p q = refl
before_trans (x ∷ xs) [] c p q = never p
before_trans (x ∷ xs) (y ∷ ys) [] p q = never q
before_trans (x ∷ xs) (y ∷ ys) (z ∷ zs) p q =
    go (first_differs x y (before xs ys) p) (first_differs y z (before ys zs) q) (before_trans xs ys zs)
  where
    less : x < z → (ltb x z || (eqb x z && before xs zs)) ≡ true
    less h = rw (lt-ltb x z h)

    go : (x < y) ⊎ ((x ≡ y) × (before xs ys ≡ true)) → (y < z) ⊎ ((y ≡ z) × (before ys zs ≡ true)) → (before xs ys ≡ true → before ys zs ≡ true → before xs zs ≡ true)
        → (ltb x z || (eqb x z && before xs zs)) ≡ true
    go (inl h) (inl k) t = less (omega arith)
    go (inl h) (inr k) t = less (omega (arith, k.0))
    go (inr h) (inl k) t = less (omega (arith, h.0))
    go (inr h) (inr k) t = rw (le-ltb x z (omega (arith, h.0, k.0)), eq-eqb x z (omega (arith, h.0, k.0)), t h.1 k.1)

pub before_self : (a : List ℕ) → before a a ≡ true → ⊥
unfolding before
before_self [] p = never p
before_self (x ∷ xs) p = go (first_differs x x (before xs xs) p) (before_self xs)
  where
    go : (x < x) ⊎ ((x ≡ x) × (before xs xs ≡ true)) → (before xs xs ≡ true → ⊥) → ⊥
    go (inl h) t = omega arith
    go (inr h) t = t h.1
