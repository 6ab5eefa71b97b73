use Rattle.std.proofs.Common.{rules}
use Rattle.std.proofs.lemmas.List.Edits.{map_over_more}
use Rattle.paths.specs.Paths.{letter_by}
use Rattle.paths.proofs.Laws.{letter_end}
use Rattle.paths.proofs.put_fresh.Goals as goal

pub loop-b-preserved : goal.loop-b-preserved
loop-b-preserved c = map_over_more letter_by _ _ _ _ c.loop-b-test.true c.loop-b.invariant (search rules)

pub returns : goal.returns
returns c = letter_end _ _ c.loop-b-test.false c.loop-b.invariant c.put_name.ensures
