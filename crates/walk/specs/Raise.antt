-- What the settings come to: the highest level at each inner gap.
use Rattle.std.specs.Prelude.{ℕ, ◌-◌, max, cond, ◌&&◌, List, [], ◌∷◌, leb, ltb, eqb, get_or, set}
use Rattle.walk.specs.Chain.{Setting}

-- "both calls give each inner gap the highest level so set, else 0". The gap is told by the number of symbols before it.
unfoldable pub highest_set : List Setting → ℕ → ℕ
highest_set [] gap = 0
highest_set (s ∷ rest) gap = max (cond (eqb s.before gap) s.level 0) (highest_set rest gap)

-- One setting put into a room whose byte i is the level of gap i: raised where it is an inner gap of n letters and the level
-- there is lower. "Levels set at other gaps are dropped." Gap i has i + 1 symbols before it.
unfoldable pub raise : ℕ → Setting → List ℕ → List ℕ
raise n s room =
    cond (leb 2 s.before && (leb s.before n && ltb (get_or room (s.before - 1) 0) s.level)) (set room (s.before - 1) s.level) room

unfoldable pub raise_all : ℕ → List Setting → List ℕ → List ℕ
raise_all n [] room = room
raise_all n (s ∷ rest) room = raise_all n rest (raise n s room)
