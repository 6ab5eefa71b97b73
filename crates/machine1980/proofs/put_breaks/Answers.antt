use mathlib.Core.Path.{◌∙◌}
use native.Mathlib.Omega.{arith}
use Rattle.base.specs.Limits.{room_size1980}
use Rattle.rooms.proofs.Laws.{cleared_sheet}
use Rattle.rooms.proofs.Marks.{put_start, put_turn, put_end, put_cleared}
use Rattle.machine1980.specs.Breaks.{in_print, is_break, break_sheet}
use Rattle.machine1980.proofs.put_breaks.Goals as goal

pub loop-gap-init : goal.loop-gap-init
unfolding is_break in_print
loop-gap-init c =
    let k = c.args in
    put_start room_size1980 (is_break k.n k.finale k.sheet.now) 2 k.room.now _ (λ j h. grind arith) (c.clear_from.ensures ∙ cleared_sheet _ _)

pub loop-gap-preserved : goal.loop-gap-preserved
unfolding is_break in_print
loop-gap-preserved c =
    let k = c.args in
    let l = c.loop-gap in
    put_turn room_size1980 (is_break k.n k.finale k.sheet.now) l.gap _ l.invariant (omega arith) (omega arith)
    (grind arith)

pub returns : goal.returns
unfolding break_sheet is_break in_print
returns c =
    let k = c.args in
    let l = c.loop-gap in
    let broken = is_break k.n k.finale k.sheet.now in
    put_cleared room_size1980 broken k.room.now (c.clear_from.ensures ∙ cleared_sheet _ _)
    (put_end room_size1980 broken l.gap _ (λ j h. grind arith) l.invariant)
