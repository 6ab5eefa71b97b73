-- The patterns before the rest have their outputs, and those in it are well formed.
use Prim.Native.Nat.{◌≤◌}
use mathlib.Core.Path.{◌≡◌}
use Rattle.std.specs.Slice.Iter.{split_inclusive_rest}
use Rattle.base.specs.Limits.{entry_limit}
use Rattle.liang.specs.Patterns.{patterns_of}
use Rattle.fit.specs.Entries as fit
use Rattle.fit.specs.Entries.{outputs_of}
use Rattle.packer.proofs.Laws.{AllShaped}
use Rattle.packer.proofs.put_outputs.Given as goal

abbrev pub invariant-loop-line : goal.invariant-loop-line
invariant-loop-line l =
    (l.entries ≤ entry_limit) × AllShaped (patterns_of (split_inclusive_rest l.line-iterator)) × (outputs_of l.root (patterns_of l.list.text.now) (fit.Out l.initial.cells l.initial.made l.count) ≡ outputs_of l.root (patterns_of (split_inclusive_rest l.line-iterator)) (fit.Out l.cells l.made l.entries))
