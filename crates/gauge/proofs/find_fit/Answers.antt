use borrow.Author.Rules.{rules}
use Prim.Native.Nat.{◌+◌, ◌-◌}
use mathlib.Core.Path.{◌≡◌}
use lib.ListN.{length}
use native.Mathlib.Omega.{arith}
use lib.Ieee.{of_bits}
use Rattle.words.proofs.Laws.{word_some}
use Rattle.gauge.proofs.Laws.{measured_none, measured_more, found_whole, found_none, found_break}
use Rattle.gauge.proofs.find_fit.Goals as goal

pub loop-i-init : goal.loop-i-init
unfolding of_bits
loop-i-init c = (search rules, measured_none _ _ _ _)

pub loop-i-preserved : goal.loop-i-preserved
loop-i-preserved c = (search rules, measured_more _ _ _ _ c.loop-i.invariant.1 c.letter_width-width.ensures c.fits_in.ensures c.last_break-found.ensures)

pub returns-then-fits_in : goal.returns-then-fits_in
returns-then-fits_in c =
    let e : c.loop-i.i ≡ length c.args.word.now.bytes.now - 1 = omega arith in
    let n : length c.args.word.now.bytes.now - 1 + 1 ≡ length c.args.word.now.bytes.now = omega (arith, word_some _ _ c.args.word.now.judged) in
    found_whole _ _ _ _ (rw e at c.loop-i.invariant.1) c.letter_width.ensures n c.fits_in-2.ensures c.if-fits_in.true

pub returns-in-None : goal.returns-in-None
returns-in-None c =
    let e : c.loop-i.i ≡ length c.args.word.now.bytes.now - 1 = omega arith in
    let n : length c.args.word.now.bytes.now - 1 + 1 ≡ length c.args.word.now.bytes.now = omega (arith, word_some _ _ c.args.word.now.judged) in
    found_none _ _ _ _ (rw e at c.loop-i.invariant.1) c.letter_width.ensures n c.fits_in-2.ensures c.if-fits_in.false c.in-None.is

pub returns-in-Some : goal.returns-in-Some
returns-in-Some c =
    let e : c.loop-i.i ≡ length c.args.word.now.bytes.now - 1 = omega arith in
    let n : length c.args.word.now.bytes.now - 1 + 1 ≡ length c.args.word.now.bytes.now = omega (arith, word_some _ _ c.args.word.now.judged) in
    found_break _ _ _ _ (rw e at c.loop-i.invariant.1) c.letter_width.ensures n c.fits_in-2.ensures c.if-fits_in.false c.in-Some.is
