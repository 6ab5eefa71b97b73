use Rattle.std.proofs.Common.{ℕ, ◌%◌, ap}
use lib.Dec.{eqb}
use Rattle.sheet1980.proofs.is_scanned.Goals as goal

pub returns : goal.returns
returns c = ap (λ (x : ℕ). eqb (x % 32) (c.args.t % 32)) c.code_at.ensures
