-- What the checker's functions compute on their way.
use Rattle.std.specs.Prelude.{ℕ, ◌+◌, Bool, true, ◌&&◌, List, [], ◌∷◌, eqb, get_or}

-- Do levels agree, one by one, with the bytes of a room? Byte gap + 1 is for the gap with so many of a path's symbols before it.
unfoldable pub same_levels : List ℕ → ℕ → List ℕ → Bool
same_levels room gap [] = true
same_levels room gap (level ∷ rest) = eqb (get_or room (gap + 1) 0) level && same_levels room (gap + 1) rest
