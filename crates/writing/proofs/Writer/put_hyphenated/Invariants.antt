-- Of the word with its breaks, the letters not passed are still to be put.
use Rattle.std.proofs.Common.{◌≤◌, length}
use Rattle.std.specs.Slice.Iter.{iter_rest}
use Rattle.std.specs.Iterator.Adapters.{zip_first, zip_second}
use Rattle.writing.specs.Writing.{hyphenated}
use Rattle.writing.proofs.Parts.{Going}
use Rattle.writing.proofs.Writer.put_hyphenated.Given as goal

abbrev pub invariant-loop-mark : goal.invariant-loop-mark
invariant-loop-mark l =
    (length (iter_rest (zip_second l.mark-iterator)) ≤ length (iter_rest (zip_first l.mark-iterator)))
    × Going (hyphenated l.sign l.marks l.word) l.initial.self (hyphenated l.sign (iter_rest (zip_first l.mark-iterator)) (iter_rest (zip_second l.mark-iterator))) l.self
