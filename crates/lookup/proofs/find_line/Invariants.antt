-- The word is in no line before this place, so it is found where the rest has it.
use Rattle.std.proofs.Common.{◌≡◌, ◌+◌, ◌≤◌, length}
use Rattle.std.specs.Slice.Iter.{split_inclusive_rest}
use Rattle.words.specs.Words.{word_symbols}
use Rattle.lines.specs.Lines.{cut}
use Rattle.lookup.specs.Find.{find, find_line}
use Rattle.lookup.proofs.find_line.Given as goal

abbrev pub invariant-loop-line : goal.invariant-loop-line
invariant-loop-line l =
    (l.start + length (split_inclusive_rest l.line-iterator) ≤ length l.text) × (find l.word l.text ≡ find_line (word_symbols l.word) l.start (cut (split_inclusive_rest l.line-iterator)))
