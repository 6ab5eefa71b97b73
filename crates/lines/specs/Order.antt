-- The order of lists of symbols.
use Rattle.std.specs.Prelude.{ℕ, Bool, true, false, ◌&&◌, ◌||◌, List, [], ◌∷◌, ltb, eqb}

-- Order: "symbols .. strictly ascend from line to line, compared symbol by symbol; a proper beginning comes first".
-- The comparison is by symbol number: "." is 27 and stands behind z; CR 5: the apostrophe is "28" and "sorts last".
unfoldable pub before : List ℕ → List ℕ → Bool
before [] [] = false
before [] (y ∷ ys) = true
before (x ∷ xs) [] = false
before (x ∷ xs) (y ∷ ys) = ltb x y || (eqb x y && before xs ys)
