-- Where both begin with two letters, these part, or word and line are the same where they are so behind them.
use mathlib.Core.Path.{sym, ◌∙◌}
use native.Mathlib.Omega.{arith}
use Rattle.lookup.proofs.Compare as law
use Rattle.lookup.proofs.is_line_of.Goals as goal

pub bounds-word-0 : goal.bounds-word-0
bounds-word-0 c =
    let s = c in
    law.word_has s.args.word.now s.args.line.now (sym c.has_pairs.ensures ∙ c.if-not-has_pairs.false) 0 (omega arith)

pub bounds-word-1 : goal.bounds-word-1
bounds-word-1 c =
    let s = c in
    law.word_has s.args.word.now s.args.line.now (sym c.has_pairs.ensures ∙ c.if-not-has_pairs.false) 1 (omega arith)

pub bounds-line-0 : goal.bounds-line-0
bounds-line-0 c =
    let s = c in
    law.line_has s.args.word.now s.args.line.now (sym c.has_pairs.ensures ∙ c.if-not-has_pairs.false) 0 (omega arith)

pub bounds-line-1 : goal.bounds-line-1
bounds-line-1 c =
    let s = c in
    law.line_has s.args.word.now s.args.line.now (sym c.has_pairs.ensures ∙ c.if-not-has_pairs.false) 1 (omega arith)

pub returns-then-not-meet_both : goal.returns-then-not-meet_both
returns-then-not-meet_both c =
    let s = c in
    sym (law.same_start _ 0 _ 0 ∙ law.pair_parts s.args.word.now s.args.line.now (sym c.has_pairs.ensures ∙ c.if-not-has_pairs.false) (sym c.meet_both.ensures ∙ c.if-not-meet_both.true))

pub returns : goal.returns
returns c =
    let s = c in
    c.same_letters-2.ensures
    ∙ law.same_start _ 2 _ 2
    ∙ sym
    (law.same_start _ 0 _ 0
    ∙ law.pair_agrees s.args.word.now s.args.line.now (sym c.has_pairs.ensures ∙ c.if-not-has_pairs.false) (sym c.meet_both.ensures ∙ c.if-not-meet_both.false))

pub same_letters-requires-2 : goal.same_letters-requires-2
same_letters-requires-2 c = (
  omega (arith, law.word_has c.args.word.now c.args.line.now (sym c.has_pairs.ensures ∙ c.if-not-has_pairs.false) 1 (omega arith)),
  omega (arith, law.line_has c.args.word.now c.args.line.now (sym c.has_pairs.ensures ∙ c.if-not-has_pairs.false) 1 (omega arith)),
)
