-- "Order": in which order each call asks its grounds, as documents 01 and 02 write it. Where a number stands twice, it is asked of the
-- customer's list and then of the house's.
use Rattle.std.specs.Prelude.{ℕ, List, [], ◌∷◌}

-- "hyphenating call 1, 5, 2, 4, 3, 8 (customer, house), 6 (customer, house), 9"
abbrev pub hyphenate_order : List ℕ
hyphenate_order = 1 ∷ 5 ∷ 2 ∷ 4 ∷ 3 ∷ 8 ∷ 8 ∷ 6 ∷ 6 ∷ 9 ∷ []

-- "levels call 5, 2, 4, 3, 9"
abbrev pub levels_order : List ℕ
levels_order = 5 ∷ 2 ∷ 4 ∷ 3 ∷ 9 ∷ []

-- "packer 10, 8, 7, 11"
abbrev pub pack_order : List ℕ
pack_order = 10 ∷ 8 ∷ 7 ∷ 11 ∷ []

-- "checker 8, 7, 9, 12"
abbrev pub check_order : List ℕ
check_order = 8 ∷ 7 ∷ 9 ∷ 12 ∷ []

-- The lookup: "grounds 2, 4, 3, 8 or 6, which the hyphenating call names".
abbrev pub lookup_order : List ℕ
lookup_order = 2 ∷ 4 ∷ 3 ∷ 8 ∷ 8 ∷ 6 ∷ 6 ∷ []

-- CR 2: "refusal 13, after 5, 2, 4, 3"
abbrev pub fit_order : List ℕ
fit_order = 5 ∷ 2 ∷ 4 ∷ 3 ∷ 13 ∷ []

-- CR 4: "Words are judged as before (5, 2, 4, 3)"
abbrev pub order1980 : List ℕ
order1980 = 5 ∷ 2 ∷ 4 ∷ 3 ∷ []

-- CR 6: "Exceptions, margins and table come with each call and are judged first (1, 8, 6, 9)", "refusal 21, before 14"; the end call
-- takes no piece.
abbrev pub piece_order : List ℕ
piece_order = 1 ∷ 8 ∷ 8 ∷ 6 ∷ 6 ∷ 9 ∷ 21 ∷ 14 ∷ []

abbrev pub end_order : List ℕ
end_order = 1 ∷ 8 ∷ 8 ∷ 6 ∷ 6 ∷ 9 ∷ 14 ∷ []
