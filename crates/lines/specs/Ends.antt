-- Where a line ends, told only of a good one.
use Rattle.std.specs.Prelude.{ℕ, Bool, true, false, Option, Some, None}

abbrev pub end_if : Bool → ℕ → Option ℕ
end_if true end = Some end
end_if false end = None
