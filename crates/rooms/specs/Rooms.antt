-- What is done to the first bytes of a lent room. The width, the first argument of each definition, is how many bytes of the room a
-- call writes; bytes behind it are never touched.
use Rattle.std.specs.Prelude.{ℕ, zero, suc, ◌+◌, ◌-◌, Bool, true, false, cond, List, [], ◌∷◌, ◌++◌, ltb, eqb, length, drop, replicate}

-- "room under 64 bytes", "room under 59,398 bytes": is a room of this size shorter than a width?
abbrev pub is_short : ℕ → ℕ → Bool
is_short width size = ltb size width

-- n bytes, from byte k on, each by its number.
unfoldable pub sheet_from : (ℕ → ℕ) → ℕ → ℕ → List ℕ
sheet_from f k zero = []
sheet_from f k (suc n) = f k ∷ sheet_from f (suc k) n

-- The bytes of a width, each by its number.
unfoldable pub sheet : ℕ → (ℕ → ℕ) → List ℕ
sheet width f = sheet_from f 0 width

-- A room whose first bytes are a sheet: "later ones untouched".
unfoldable pub written : ℕ → List ℕ → List ℕ → List ℕ
written width bytes room = bytes ++ drop width room

-- A room that begins with some bytes: "the room beyond it up to byte 59,397 is zero, later bytes untouched".
unfoldable pub filled : ℕ → List ℕ → List ℕ → List ℕ
filled width bytes room = bytes ++ (replicate (width - length bytes) 0 ++ drop width room)

-- How many bytes aren't 0.
unfoldable pub nonzero : List ℕ → ℕ
nonzero [] = 0
nonzero (b ∷ t) = cond (eqb b 0) (nonzero t) (1 + nonzero t)

abbrev pub bit : Bool → ℕ
bit true = 1
bit false = 0
