use mathlib.Core.Path.{refl, ◌∙◌, ap, subst}
use Rattle.packer.specs.Post.{as_fit, Bounded}
use Rattle.packer.proofs.Laws.{cells_cleared, lays_nothing, lays_table}
use Rattle.packer.proofs.lay.Goals as goal

pub fill_part-filled-requires : goal.fill_part-filled-requires
fill_part-filled-requires c = (cells_cleared c.args.room.now c.requires.0 c.requires.1, refl)

pub returns-in_default : goal.returns-in_default
returns-in_default c = lays_nothing c.args.room.now c.fill_part-filled.new.cells c.requires.0 c.fill_part-filled.auto.cells c.args.list.now.text.now (c.fill_part-filled.ensures.text_value ∙ ap (as_fit _ _) c.in_default.is) c.clear_from.ensures

pub returns : goal.returns
returns c = lays_table c.args.room.now c.fill_part-filled.new.cells c.requires.0 c.fill_part-filled.auto.cells c.args.list.now.text.now _ _ _ (subst Bounded c.in-Some.is c.fill_part-filled.ensures.bounded).0 (c.fill_part-filled.ensures.text_value ∙ ap (as_fit _ _) c.in-Some.is) c.finish-size.ensures.value c.finish-size.ensures.room_after
