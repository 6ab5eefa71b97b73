-- The symbols of a line as the library's iterators give them.
use Prim.Native.Nat.{ℕ, ◌-◌}
use mathlib.Core.Bool.{Bool, true, false, cond, not}
use mathlib.Core.List.{List, [], ◌∷◌, map}
use mathlib.Core.Path.{◌≡◌, refl, ap}
use native.Mathlib.Omega.{arith}
use lib.Dec.{eqb}
use lib.ListN.{length, take, drop, length-drop}
use Rattle.std.specs.List.{filter}
use Rattle.std.proofs.lemmas.List.{take_all}
use Rattle.words.specs.Symbols.{symbol_of, symbols_of}

pub symbols_filtered : (l : List ℕ) → filter (λ s. not (eqb s 0)) (map symbol_of l) ≡ symbols_of l
unfolding symbols_of
symbols_filtered [] = refl
symbols_filtered (b ∷ t) = go (eqb (symbol_of b) 0) (symbols_filtered t)
  where
    go : (z : Bool) → filter (λ s. not (eqb s 0)) (map symbol_of t) ≡ symbols_of t
        → cond (not z) (symbol_of b ∷ filter (λ s. not (eqb s 0)) (map symbol_of t)) (filter (λ s. not (eqb s 0)) (map symbol_of t)) ≡ cond z (symbols_of t) (symbol_of b ∷ symbols_of t)
    go true e = e
    go false e = ap (λ (l : List ℕ). symbol_of b ∷ l) e

-- a slice from a place on is all that is left there
pub rest_whole : (l : List ℕ) (n : ℕ) → take (length l - n) (drop n l) ≡ drop n l
rest_whole l n = take_all (length l - n) (drop n l) (omega (arith, length-drop n l))
