-- The row begins with the edge and the symbols of the first i letters.
use Prim.Native.Nat.{◌≤◌, ◌+◌}
use mathlib.Core.List.{◌∷◌}
use mathlib.Core.Path.{◌≡◌}
use lib.ListN.{length, take}
use Rattle.base.specs.Limits.{edge}
use Rattle.words.specs.Words.{word_symbols}
use Rattle.walk.proofs.fill_row.Given as goal

abbrev pub invariant-loop-i : goal.invariant-loop-i
invariant-loop-i l = (length l.row ≡ length l.initial.row) × (length l.word.bytes.now + 2 ≤ length l.initial.row) × (take (l.i + 1) l.row ≡ edge ∷ word_symbols (take l.i l.word.bytes.now))
