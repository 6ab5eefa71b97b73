use mathlib.Core.Path.{sym, ◌∙◌}
use native.Mathlib.Omega.{arith}
use borrow.Author.Tests.{ne_eqb, le-leb, eq-eqb}
use Rattle.checker.proofs.Laws as law
use Rattle.checker.proofs.is_followed.Goals as goal

pub loop-b-init : goal.loop-b-init
loop-b-init c = law.following_start _ _ _ _ _ c.requires

pub returns-then-output-ne0 : goal.returns-then-output-ne0
returns-then-output-ne0 c = sym (c.loop-b.invariant.same ∙ law.follow_loud _ _ _ _ _ _ _ _ _ c.loop-b-test.true c.symbol_of-symbol.ensures c.if-symbol-eq0.false c.if-beside-m.true (ne_eqb _ _ c.if-output-ne0.true))

pub returns-then-not-is_passed_over : goal.returns-then-not-is_passed_over
returns-then-not-is_passed_over c = sym (c.loop-b.invariant.same ∙ law.follow_crossed _ _ _ _ _ _ _ _ _ c.loop-b-test.true c.symbol_of-symbol.ensures c.if-symbol-eq0.false (record { passes = grind (arith, le-leb, eq-eqb) }) c.is_passed_over.ensures c.if-not-is_passed_over.true)

pub returns-then-node : goal.returns-then-node
returns-then-node c = sym (c.loop-b.invariant.same ∙ law.follow_leaf _ _ _ _ _ _ _ _ _ c.loop-b-test.true c.symbol_of-symbol.ensures c.if-symbol-eq0.false (record { passes = grind (arith, le-leb, eq-eqb) }) c.is_passed_over.ensures c.if-not-is_passed_over.false c.if-node.true)

pub returns-in_default : goal.returns-in_default
returns-in_default c = sym (c.loop-b.invariant.same ∙ law.follow_miss _ _ _ _ _ _ _ _ _ c.loop-b-test.true c.symbol_of-symbol.ensures c.if-symbol-eq0.false (record { passes = grind (arith, le-leb, eq-eqb) }) c.is_passed_over.ensures c.if-not-is_passed_over.false c.if-node.false c.look_at.ensures c.in_default.is)

pub overflow_add-m : goal.overflow_add-m
overflow_add-m c = omega (arith, law.following_few _ _ _ _ _ _ _ _ _ c.loop-b.invariant c.loop-b-test.true c.symbol_of-symbol.ensures c.if-symbol-eq0.false)

pub loop-b-preserved : goal.loop-b-preserved
loop-b-preserved c = law.following_on _ _ _ _ _ _ _ _ _ c.loop-b.invariant c.loop-b-test.true c.symbol_of-symbol.ensures c.if-symbol-eq0.false (law.follow_on _ _ _ _ _ _ _ _ _ c.loop-b-test.true c.symbol_of-symbol.ensures c.if-symbol-eq0.false (record { passes = grind (arith, le-leb, eq-eqb) }) c.is_passed_over.ensures c.if-not-is_passed_over.false c.if-node.false c.look_at.ensures c.in-Some.is)

pub loop-b-preserved-then-symbol-eq0 : goal.loop-b-preserved-then-symbol-eq0
loop-b-preserved-then-symbol-eq0 c = law.following_skip _ _ _ _ _ _ _ _ _ c.loop-b.invariant c.loop-b-test.true c.symbol_of-symbol.ensures c.if-symbol-eq0.true

pub is_exact-requires : goal.is_exact-requires
is_exact-requires c = (law.following_end _ _ _ _ _ _ _ _ _ c.loop-b.invariant c.loop-b-test.false, omega (arith, law.following_end _ _ _ _ _ _ _ _ _ c.loop-b.invariant c.loop-b-test.false, c.loop-b.invariant.short))

pub returns-then-not-is_exact : goal.returns-then-not-is_exact
returns-then-not-is_exact c = law.follow_end _ _ _ _ _ _ _ _ _ c.loop-b-test.false (law.follow_inexact _ _ _ _ _ _ _ c.is_exact.ensures c.if-not-is_exact.true) ∙ sym c.loop-b.invariant.same

pub returns-then-m-ge-PATTERN_LIMIT : goal.returns-then-m-ge-PATTERN_LIMIT
returns-then-m-ge-PATTERN_LIMIT c = law.follow_end _ _ _ _ _ _ _ _ _ c.loop-b-test.false (law.follow_longest _ _ _ _ _ _ _ c.is_exact.ensures c.if-not-is_exact.false c.if-m-ge-PATTERN_LIMIT.true) ∙ sym c.loop-b.invariant.same

pub returns : goal.returns
returns c = law.follow_end _ _ _ _ _ _ _ _ _ c.loop-b-test.false (law.follow_last _ _ _ _ _ _ _ c.is_exact.ensures c.if-not-is_exact.false c.if-m-ge-PATTERN_LIMIT.false c.is_passed_over-2.ensures) ∙ sym c.loop-b.invariant.same
