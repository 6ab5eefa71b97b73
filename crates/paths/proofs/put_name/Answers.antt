use native.Mathlib.Omega.{arith}
use Rattle.writing.proofs.Laws.{text_put}
use Rattle.paths.proofs.Laws.{name_fits, name_long}
use Rattle.paths.proofs.put_name.Goals as goal

pub returns-then-at-room : goal.returns-then-at-room
returns-then-at-room c = name_long _ _ _ (omega (arith, c.if-at-room.true))

pub returns-then-name-room : goal.returns-then-name-room
returns-then-name-room c = name_long _ _ _ (omega (arith, c.if-at-room.false, c.if-name-room.true))

pub returns : goal.returns
returns c = name_fits _ _ _ (text_put _ _ c.args.room.now (omega (arith, c.if-at-room.false, c.if-name-room.false)) c.copy_from_slice.ensures.after)
