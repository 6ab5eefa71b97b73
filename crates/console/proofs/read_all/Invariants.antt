-- What is read lies in the buffer.
use Rattle.std.proofs.Common.{◌≤◌, length}
use Rattle.console.proofs.read_all.Given as goal

abbrev pub invariant-loop : goal.invariant-loop
invariant-loop l = l.size ≤ length l.bytes
