use borrow.Author.Rules.{rules}
use Prim.Native.Nat.{◌+◌}
use native.Mathlib.Omega.{arith}
use lib.ListN.{length, length-set}
use mathlib.Core.Path.{◌≡◌, refl}
use Rattle.base.specs.Limits.{edge}
use Rattle.words.proofs.Laws.{word_byte_lem}
use Rattle.walk.proofs.Laws.{row_start, row_turn, row_end, row_kept}
use Rattle.walk.proofs.fill_row.Goals as goal

pub loop-i-init : goal.loop-i-init
loop-i-init c = (search rules, simp length-set (search rules), row_start c.args.word.now.bytes.now c.args.row.now (omega (arith, c.requires)))

pub word_symbol-requires : goal.word_symbol-requires
word_symbol-requires c = word_byte_lem _ _ c.args.word.now.judged _ c.loop-i-test.true

pub loop-i-preserved : goal.loop-i-preserved
loop-i-preserved c = (simp length-set (simp length-set at c.loop-i.invariant.0), search rules, row_turn c.args.word.now.bytes.now c.loop-i.row c.loop-i.i c.loop-i-test.true (omega (arith, c.loop-i.invariant.0, c.loop-i.invariant.1, c.loop-i-test.true)) c.loop-i.invariant.2 c.word_symbol.ensures)

pub shape_of-row : goal.shape_of-row
shape_of-row c = row_kept c.args.row.now c.loop-i.row (length c.args.word.now.bytes.now + 1) edge c.loop-i.invariant.0

pub returns : goal.returns
returns c =
    let e : c.loop-i.i ≡ length c.args.word.now.bytes.now = omega arith in
    row_end c.args.word.now.bytes.now c.loop-i.row (length c.args.word.now.bytes.now) refl (omega (arith, c.loop-i.invariant.0, c.loop-i.invariant.1)) (rw e at c.loop-i.invariant.2)
