use borrow.Author.Rules.{rules}
use Prim.Native.Nat.{◌≤◌}
use mathlib.Core.Path.{sym, ◌∙◌, subst}
use Rattle.base.specs.Limits.{pack_room}
use Rattle.base.proofs.Grounds.{judged_by, handed_on}
use Rattle.rooms.proofs.Laws.{too_short, long_enough}
use Rattle.lists.proofs.Order.{patterns_ordered}
use Rattle.packer.proofs.Order.{promised}
use Rattle.packer.proofs.Laws.{pack_short, pack_refused, cleared_start, pack_laid}
use Rattle.packer.proofs.pack.Goals as goal

pub returns-then-is_short : goal.returns-then-is_short
returns-then-is_short c = promised _ _ (pack_short _ _ (too_short pack_room _ c.is_short.ensures c.if-is_short.true))

pub returns-in_err-judge_patterns : goal.returns-in_err-judge_patterns
returns-in_err-judge_patterns c = promised _ _ (pack_refused _ _ (long_enough pack_room _ c.is_short.ensures c.if-is_short.false) (sym (judged_by (patterns_ordered _) c.judge_patterns.ensures) ∙ c.in_err-judge_patterns.was) (handed_on _ c.from_residual.ensures.1))

pub clear_from-requires : goal.clear_from-requires
clear_from-requires c = (search rules, long_enough pack_room _ c.is_short.ensures c.if-is_short.false)

pub lay-requires : goal.lay-requires
lay-requires c = (subst (λ n. pack_room ≤ n) (sym c.clear_from.auto.room) (long_enough pack_room _ c.is_short.ensures c.if-is_short.false), cleared_start c.args.text.now _ (long_enough pack_room _ c.is_short.ensures c.if-is_short.false) c.clear_from.ensures)

pub invariant_of-lay : goal.invariant_of-lay
invariant_of-lay c = record { judged = sym (judged_by (patterns_ordered _) c.judge_patterns.ensures) ∙ c.in_ok-judge_patterns.was }

pub returns : goal.returns
returns c = promised _ _ (pack_laid _ _ (long_enough pack_room _ c.is_short.ensures c.if-is_short.false) c.clear_from.ensures (sym (judged_by (patterns_ordered _) c.judge_patterns.ensures) ∙ c.in_ok-judge_patterns.was) c.lay.ensures)
