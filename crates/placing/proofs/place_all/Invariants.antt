-- The paths of fewer than `m` symbols are placed.
use Prim.Native.Nat.{◌≤◌, ◌-◌}
use mathlib.Core.Path.{◌≡◌}
use Rattle.base.specs.Limits.{pattern_limit}
use Rattle.liang.specs.Patterns.{patterns_of}
use Rattle.fit.specs.Cells.{Fits, place_lengths, place_list}
use Rattle.placing.proofs.place_all.Given as goal

abbrev pub invariant-loop-m : goal.invariant-loop-m
invariant-loop-m l = (l.m ≤ pattern_limit) × (place_list l.root (patterns_of l.text) (Fits l.initial.cells l.initial.taken) ≡ place_lengths l.root l.m (pattern_limit - l.m) (patterns_of l.text) (Fits l.cells l.taken))
