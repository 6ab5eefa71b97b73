-- What a walk leaves, as one record for the contracts.
use Rattle.std.specs.Prelude.{ℕ, List, ◌≡◌}
use Rattle.walk.specs.Walk.{settings, looks}
use Rattle.walk.specs.Raise.{raise_all}

-- After the walks over a row of n letters and two edges: the count, and the room with every setting put in.
pub record Walked (cells entries : List ℕ) (root n : ℕ) (row room : List ℕ) (count : ℕ) (after : List ℕ) : Type 0 where
  pub counted : count ≡ looks cells root row
  pub raised : after ≡ raise_all n (settings cells entries root 0 row) room
