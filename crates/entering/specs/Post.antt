-- What entering leaves, as definitions for the contracts.
use Rattle.std.specs.Prelude.{ℕ, List, Option, Some, None}
use Rattle.fit.specs.Entries as fit
use Rattle.entering.specs.declared.Made.{Made}

-- The numbers that a step of entering returns, with the bytes it leaves, as first fit has them; too many are too many.
abbrev pub as_entries : List ℕ → Option Made → fit.Entries
as_entries bytes (Some made) = fit.Made bytes made.count made.last
as_entries bytes None = fit.TooMany

-- How many entries a step leaves, where it leaves any.
abbrev pub count_of : Option Made → ℕ
count_of (Some made) = made.count
count_of None = 0
