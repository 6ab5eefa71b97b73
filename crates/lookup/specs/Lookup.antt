-- The lookup as it is called: judged first, and handed back as a part of the list that held the line.
use Rattle.std.specs.Prelude.{ℕ, ◌+◌, ◌-◌, List, [], ◌∷◌, ◌++◌, take, drop, Ok, Err}
use Rattle.base.specs.Limits.{word_limit, customer_list, house_list}
use Rattle.base.specs.Grounds.{Said, Finds, Refuses, Row, first_of, first, Check}
use Rattle.words.specs.Words.{word_grounds, judge_word}
use Rattle.lists.specs.Lists.{list_grounds, judge_lists}
use Rattle.lookup.specs.Find.{find_either}
use Rattle.lookup.specs.declared.Located.{Located}
use Rattle.lookup.specs.declared.Located.TheVariants.{Customer, House, Nowhere}

-- "grounds 2, 4, 3, 8 or 6, which the hyphenating call names"
unfoldable pub lookup_grounds : List ℕ → List ℕ → List ℕ → List Row
lookup_grounds word customer house = word_grounds word_limit word ++ list_grounds customer house

-- What is said of a line: the list that holds it (1 customer, 2 house), where it starts and where it ends; nothing where there
-- is none.
unfoldable pub line_said : Located → List ℕ
line_said (Customer start end) = customer_list ∷ start ∷ end ∷ []
line_said (House start end) = house_list ∷ start ∷ end ∷ []
line_said Nowhere = []

-- "only the lookup's empty part carries neither": a refusal says no more than that there is no line.
abbrev pub values_of : Said → List ℕ
values_of (Finds values) = values
values_of (Refuses t) = []

unfoldable pub lookup_said : List ℕ → List ℕ → List ℕ → List ℕ
lookup_said word customer house = values_of (first_of (Finds (line_said (find_either word customer house))) (lookup_grounds word customer house))

-- The same as it is judged and found.
unfoldable pub judge_lookup : List ℕ → List ℕ → List ℕ → Check
judge_lookup word customer house = first (judge_word word_limit word) (judge_lists customer house)

-- "An empty part means no line, or a refusal".
abbrev pub unless_refused : Check → Located → Located
unless_refused (Ok _) found = found
unless_refused (Err g) found = Nowhere

unfoldable pub locate : List ℕ → List ℕ → List ℕ → Located
locate word customer house = unless_refused (judge_lookup word customer house) (find_either word customer house)

-- The bytes of the line that was found, none where there is none.
abbrev pub line_of : List ℕ → List ℕ → Located → List ℕ
line_of customer house (Customer start end) = take (end - start) (drop start customer)
line_of customer house (House start end) = take (end - start) (drop start house)
line_of customer house Nowhere = []

-- "as a part of the list that held it": where the part begins, a block and an offset in it. An empty part lies at the beginning
-- of the customer's list.
abbrev pub place_of : ℕ × ℕ → ℕ × ℕ → Located → ℕ × ℕ
place_of customer house (Customer start end) = (customer.0, start + customer.1)
place_of customer house (House start end) = (house.0, start + house.1)
place_of customer house Nowhere = customer
