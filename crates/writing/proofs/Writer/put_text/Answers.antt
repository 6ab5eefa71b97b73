use mathlib.Core.Path.{refl}
use native.Mathlib.Omega.{arith}
use Rattle.writing.proofs.Laws.{text_start, byte_fits, text_turn, text_end}
use Rattle.writing.proofs.Writer.put_text.Goals as goal

pub loop-i-init : goal.loop-i-init
loop-i-init c = text_start _ _

pub overflow_add-self : goal.overflow_add-self
overflow_add-self c = omega (arith, c.requires, c.loop-i-test.true, c.loop-i.invariant.at)

pub bounds-self-self : goal.bounds-self-self
bounds-self-self c = byte_fits _ _ _ _ c.loop-i.invariant c.requires c.loop-i-test.true

pub loop-i-preserved : goal.loop-i-preserved
loop-i-preserved c = text_turn _ _ _ _ c.loop-i.invariant c.loop-i-test.true refl refl refl

pub overflow_add-self-2 : goal.overflow_add-self-2
overflow_add-self-2 c = omega (arith, c.requires, c.loop-i.invariant.at)

pub returns : goal.returns
returns c = text_end _ _ _ _ c.loop-i.invariant c.requires (omega (arith, c.loop-i-test.false, c.loop-i.auto.i-end)) refl refl refl
