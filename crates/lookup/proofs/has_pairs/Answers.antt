use mathlib.Core.Path.{sym, ◌∙◌}
use Rattle.lookup.proofs.Compare as law
use Rattle.lookup.proofs.has_pairs.Goals as goal

pub returns-then-word-lt2 : goal.returns-then-word-lt2
returns-then-word-lt2 c = law.unpaired_word c.args.word.now c.args.line.now c.if-word-lt2.true

pub returns-then-line-lt2 : goal.returns-then-line-lt2
returns-then-line-lt2 c = law.unpaired_line c.args.word.now c.args.line.now c.if-word-lt2.false c.if-line-lt2.true

pub returns-then-not-is_small : goal.returns-then-not-is_small
returns-then-not-is_small c =
    law.unpaired_first c.args.word.now c.args.line.now c.if-word-lt2.false c.if-line-lt2.false
    (sym c.is_small.ensures ∙ c.if-not-is_small.true)

pub returns : goal.returns
returns c =
    c.is_small-2.ensures
    ∙ law.paired_second c.args.word.now c.args.line.now c.if-word-lt2.false
    c.if-line-lt2.false (sym c.is_small.ensures ∙ c.if-not-is_small.false)
