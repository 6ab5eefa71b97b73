use Rattle.std.proofs.Common.{rules, tests, sym, refl}
use Rattle.lists.proofs.Theorems.{patterns_good}
use Rattle.checker.proofs.Laws.{ahead_next, ahead_parts, lined_start, fewer, line_short, lined_wrong, lined_on, lined_done}
use Rattle.checker.proofs.is_right.Goals as goal

pub loop-next-init : goal.loop-next-init
loop-next-init c = lined_start _ _ _ _ _ _ (search rules) (ahead_next _ _ _ _ _ _ c.next-next.ensures.steps (λ b r q k. search (rules, tests))) (patterns_good _ c.args.list.now.judged)

pub is_followed-requires : goal.is_followed-requires
is_followed-requires c = line_short _ _ _ _ _ _ _ _ _ _ c.in-Some.is (ahead_next _ _ _ _ _ _ c.next-next-in-Some.ensures.steps (λ b r q k. search (rules, tests))) c.loop-next.invariant

pub returns-then-not-is_followed : goal.returns-then-not-is_followed
returns-then-not-is_followed c =
    sym (lined_wrong _ _ _ _ _ _ _ _ _ _ c.in-Some.is (ahead_next _ _ _ _ _ _ c.next-next-in-Some.ensures.steps (λ b r q k. search (rules, tests))) c.loop-next.invariant
    (ahead_parts _ _ _ refl c.unwrap_or.ensures c.part_lines-below.ensures) c.is_followed.ensures c.if-not-is_followed.true)

pub loop-next-smaller : goal.loop-next-smaller
loop-next-smaller c = fewer _ _ _ _ _ _ _ _ _ _ c.in-Some.is (ahead_next _ _ _ _ _ _ c.next-next-in-Some.ensures.steps (λ b r q k. search (rules, tests))) c.loop-next.invariant

pub loop-next-preserved : goal.loop-next-preserved
loop-next-preserved c =
    lined_on _ _ _ _ _ _ _ _ _ _ c.in-Some.is (ahead_next _ _ _ _ _ _ c.next-next-in-Some.ensures.steps (λ b r q k. search (rules, tests))) c.loop-next.invariant
    (ahead_parts _ _ _ refl c.unwrap_or.ensures c.part_lines-below.ensures) c.is_followed.ensures c.if-not-is_followed.false

pub returns : goal.returns
returns c = lined_done _ _ _ _ _ _ _ _ c.in_default.not-Some c.loop-next.invariant c.is_none_between.ensures
