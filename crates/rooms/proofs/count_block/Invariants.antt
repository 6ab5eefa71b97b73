-- The bytes passed have the count, and the rest is still to be counted.
use Prim.Native.Nat.{◌≤◌, ◌+◌}
use mathlib.Core.Path.{◌≡◌}
use lib.ListN.{length, drop}
use Rattle.rooms.specs.Rooms.{nonzero}
use Rattle.rooms.proofs.count_block.Given as goal

abbrev pub invariant-loop-b : goal.invariant-loop-b
invariant-loop-b l = (l.count ≤ l.b-index) × (length l.block ≤ 255) × (nonzero l.block ≡ l.count + nonzero (drop l.b-index l.block))
