-- Whoever writes a word's line keeps what the words ask of it.
use Rattle.std.specs.Prelude.{ℕ, List}
use Rattle.writing.specs.Written.{Writes}
use Rattle.writing.specs.declared.Writer.{Writer}
use Rattle.writing.proofs.Parts.{written_within}
use Rattle.spool.specs.State.{Grows}

pub grows : {bytes : List ℕ} {before after : Writer} → Writes bytes before after → Grows before after
grows p = record { room = p.room; size = p.size; ends = written_within p }
