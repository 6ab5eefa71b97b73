use native.Mathlib.Omega.{arith}
use Rattle.paths.proofs.Laws.{path_long, path_short}
use Rattle.paths.proofs.is_path.Goals as goal

pub returns-then-path-ge-PATH_MAX : goal.returns-then-path-ge-PATH_MAX
returns-then-path-ge-PATH_MAX c = path_long _ (omega (arith, c.if-path-ge-PATH_MAX.true))

pub returns : goal.returns
returns c = path_short _ (omega (arith, c.if-path-ge-PATH_MAX.false)) c.contains.ensures.value
