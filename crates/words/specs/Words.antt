-- Words: their judgement, their symbols, the row with its edges, and the inner gaps.
use Rattle.std.specs.Prelude.{ℕ, zero, suc, ◌+◌, ◌-◌, ◌≤◌, ◌<◌, Bool, true, false, cond, ◌&&◌, ◌||◌, List, [], ◌∷◌, ◌++◌, map, ◌⊎◌, ◌≡◌, leb, ltb, eqb, length, get_or, drop, Ok, Err}
use Rattle.base.specs.Limits.{edge}
use Rattle.base.specs.Grounds.{Row, on, on_at, first, refuse_if, Check}
use Rattle.base.specs.declared.Ground.TheVariants.{WordEmpty, WordLong, NotLetter}
use Rattle.words.specs.Symbols.{letter, lower, symbol_of, apostrophe}

-- Which bytes a word may have. A rule is asked of a byte, with whether a letter stands right before it and what stands behind it.
abbrev pub Rule : Type 0
Rule = Bool → ℕ → List ℕ → Bool

-- Word: "each A to Z or a to z". The machine of 1980 keeps this rule: "The 1980 machine refuses it with 3."
unfoldable pub letters_alone : Rule
letters_alone after b behind = letter b

-- Does a text begin with a letter?
unfoldable pub starts_letter : List ℕ → Bool
starts_letter [] = false
starts_letter (b ∷ t) = letter b

-- CR 5: "An apostrophe (byte 39) between two of the 26 letters .. counts as a letter of the word; anywhere else it is refusal 3".
unfoldable pub is_between : Rule
is_between after b behind = eqb b apostrophe && (after && starts_letter behind)

unfoldable pub with_apostrophes : Rule
with_apostrophes after b behind = letter b || is_between after b behind

-- How many bytes a word begins with that it may have: the place of the "first such byte, from 0", where one is refused.
unfoldable pub leading : Rule → Bool → List ℕ → ℕ
leading rule after [] = 0
leading rule after (b ∷ t) = cond (rule after b t) (suc (leading rule (letter b) t)) 0

-- A word's own grounds in order: 2, 4, 3. Rule and limit are parameters, since the machine of 1980 keeps its own.
unfoldable pub grounds_by : Rule → ℕ → List ℕ → List Row
grounds_by rule limit w =
    on 2 (eqb (length w) 0)
    ∷ on 4 (ltb limit (length w))
    ∷ on_at 3 (leading rule false w) (ltb (leading rule false w) (length w))
    ∷ []

abbrev pub word_grounds : ℕ → List ℕ → List Row
word_grounds limit w = grounds_by with_apostrophes limit w

abbrev pub letter_grounds : ℕ → List ℕ → List Row
letter_grounds limit w = grounds_by letters_alone limit w

-- The same as it is judged byte by byte. Ground 3: `at` is the place of the first byte given.
unfoldable pub all_fit : Rule → ℕ → Bool → List ℕ → Check
all_fit rule at after [] = Ok tt
all_fit rule at after (b ∷ t) = cond (rule after b t) (all_fit rule (at + 1) (letter b) t) (Err (NotLetter at))

-- Does a letter stand right before place i of a word?
unfoldable pub letter_before : List ℕ → ℕ → Bool
letter_before w zero = false
letter_before w (suc k) = letter (get_or w k 0)

-- A test of a place of a word goes on where letters end: a rule has every letter, and of the other bytes those that the test says.
pub record Extends (rule : Rule) (w : List ℕ) (test : ℕ → Bool → Type 0) : Type 0 where
  pub letters : (after : Bool) (b : ℕ) (behind : List ℕ) → letter b ≡ true → rule after b behind ≡ true
  pub others : (i : ℕ) (r : Bool) → i < length w → letter (get_or w i 0) ≡ false → test i r → r ≡ rule (letter_before w i) (get_or w i 0) (drop (suc i) w)

-- grounds 2 and 4
unfoldable pub judge_length : ℕ → ℕ → Check
judge_length limit size = first (refuse_if (eqb size 0) WordEmpty) (refuse_if (ltb limit size) WordLong)

unfoldable pub judge_by : Rule → ℕ → List ℕ → Check
judge_by rule limit w = first (judge_length limit (length w)) (all_fit rule 0 false w)

abbrev pub judge_word : ℕ → List ℕ → Check
judge_word limit w = judge_by with_apostrophes limit w

abbrev pub judge_letters : ℕ → List ℕ → Check
judge_letters limit w = judge_by letters_alone limit w

-- A byte that a judged word may have, whatever stands beside it.
unfoldable pub word_byte : ℕ → Bool
word_byte b = letter b || eqb b apostrophe

-- CR 5 as the customer says it, of the byte at place i: a letter, or an apostrophe with a letter right before it and one right behind
-- it. (Past the last byte stands 0, which is no letter.)
abbrev pub MayStand : List ℕ → ℕ → Type 0
MayStand w i = (letter (get_or w i 0) ≡ true) ⊎ ((get_or w i 0 ≡ apostrophe) × (1 ≤ i) × (letter (get_or w (i - 1) 0) ≡ true) × (letter (get_or w (i + 1) 0) ≡ true))

-- A word's symbols, "capitals count as small".
unfoldable pub word_symbols : List ℕ → List ℕ
word_symbols w = map (λ b. symbol_of (lower b)) w

-- Levels: "put an edge before and after the word".
unfoldable pub row_of : List ℕ → List ℕ
row_of w = edge ∷ word_symbols w ++ (edge ∷ [])

-- "Gap i lies after letter i; inner gaps are 1 to n - 1."
unfoldable pub inner : ℕ → ℕ → Bool
inner n i = leb 1 i && ltb i n
