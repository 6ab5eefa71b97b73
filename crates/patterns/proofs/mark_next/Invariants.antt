-- The mask with the marks so far, gone on with by the lines that are left, is the whole mask.
use Rattle.std.proofs.Common.{◌≡◌, map, drop}
use Rattle.words.specs.Symbols.{symbols_of}
use Rattle.lines.specs.Lines.{cut}
use Rattle.liang.specs.Patterns.{pattern_of}
use Rattle.patterns.specs.Next.{next_mask}
use Rattle.patterns.proofs.mark_next.Given as goal

abbrev pub invariant-loop-line : goal.invariant-loop-line
invariant-loop-line l = next_mask l.m (symbols_of l.own) (map pattern_of (cut (drop l.at l.text))) l.initial.mask ≡ next_mask l.m (symbols_of l.own) (map pattern_of (cut l.line-iterator.rest.now)) l.mask
