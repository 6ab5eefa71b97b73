-- The blocks passed have the count, and the rest is still to be counted.
use Rattle.std.proofs.Common.{◌≡◌, ◌+◌, ◌≤◌, length, take}
use Rattle.std.specs.Slice.Iter.{chunks_rest, chunks_size}
use Rattle.rooms.specs.Rooms.{nonzero}
use Rattle.rooms.proofs.count_marks.Given as goal

abbrev pub invariant-loop-block : goal.invariant-loop-block
invariant-loop-block l =
    (chunks_size l.block-iterator ≡ 64) × (l.count + length (chunks_rest l.block-iterator) ≤ length l.room) × (nonzero (take l.width l.room) ≡ l.count + nonzero (chunks_rest l.block-iterator))
