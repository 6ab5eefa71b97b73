-- What the functions of this crate leave.
use Rattle.std.specs.Prelude.{ℕ, List, ◌≡◌, get_or}
use Rattle.patterns.specs.Common.{common}

-- Where a list of symbols parts from another: how many symbols they share, and its next one, 0 where it has none.
pub record Parts (a b : List ℕ) (shared symbol : ℕ) : Type 0 where
  pub count : shared ≡ common a b
  pub next : symbol ≡ get_or a (common a b) 0
