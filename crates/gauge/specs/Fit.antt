-- Which break fits the strip: what the call finds, its grounds in order, and its promise.
use Rattle.std.specs.Prelude.{ℕ, zero, suc, ◌-◌, Bool, cond, not, ◌&&◌, List, [], ◌∷◌, ◌++◌, eqb, ltb, length, get_or, Float, Result, Ok, Err}
use Rattle.std.specs.Float.{binary64}
use Rattle.std.specs.Float.Ieee.{add}
use Rattle.base.specs.Limits.{room_size, word_limit}
use Rattle.base.specs.Grounds.{told, Said, Finds, Refuses, Row, on, first_of, first, refuse_if, Check}
use Rattle.base.specs.declared.Ground.{Ground}
use Rattle.base.specs.declared.Ground.TheVariants.{RoomShort, BadWidth}
use Rattle.words.specs.Words.{word_grounds, judge_word}
use Rattle.gauge.specs.Widths.{any_bad, width_to, fits_in}
use Rattle.gauge.specs.declared.Gauge.{Gauge}
use Rattle.gauge.specs.declared.Fitting.{Fitting}
use Rattle.gauge.specs.declared.Fitting.TheVariants.{Whole, Break, Nowhere}

-- "a gauge of hyphen width and line width"
abbrev pub gauge_of : Float → Float → Gauge
gauge_of hyphen line = record { hyphen = hyphen; line = line }

-- "any but 0 is a break"
unfoldable pub is_marked : List ℕ → ℕ → Bool
is_marked room i = not (eqb (get_or room i 0) 0)

-- "the whole word fits": no hyphen is added.
unfoldable pub whole_fits : Gauge → List Float → List ℕ → Bool
whole_fits g widths word = fits_in g.line (width_to widths word (length word))

-- A break after i letters fits "with its hyphen", "the hyphen added last".
unfoldable pub hyphen_fits : Gauge → List Float → List ℕ → ℕ → Bool
hyphen_fits g widths word i = fits_in g.line (add binary64 (width_to widths word i) g.hyphen)

abbrev pub break_fits : Gauge → List Float → List ℕ → List ℕ → ℕ → Bool
break_fits g widths word room i = is_marked room i && hyphen_fits g widths word i

-- The last of the numbers 1 to n that passes a test, 0 where none does.
unfoldable pub last_of : (ℕ → Bool) → ℕ → ℕ
last_of test zero = 0
last_of test (suc n) = cond (test (suc n)) (suc n) (last_of test n)

-- "the whole word fits, the last break that fits with its hyphen, or none fits": each by its number.
abbrev pub whole_outcome : ℕ
whole_outcome = 1

abbrev pub break_outcome : ℕ
break_outcome = 2

abbrev pub none_outcome : ℕ
none_outcome = 3

-- A finding's values: what came out, and the gap, 0 but for a break.
abbrev pub whole_found : List ℕ
whole_found = whole_outcome ∷ 0 ∷ []

abbrev pub break_found : ℕ → List ℕ
break_found gap = break_outcome ∷ gap ∷ []

abbrev pub none_found : List ℕ
none_found = none_outcome ∷ 0 ∷ []

abbrev pub break_or_none : ℕ → List ℕ
break_or_none zero = none_found
break_or_none (suc i) = break_found (suc i)

-- What is found of a word and its breaks: "bytes 1 to n - 1 are read".
unfoldable pub fit_values : Gauge → List Float → List ℕ → List ℕ → List ℕ
fit_values g widths word room = cond (whole_fits g widths word) whole_found (break_or_none (last_of (break_fits g widths word room) (length word - 1)))

-- All widths that a call is given: the hyphen's, the line's and the letters', whether the word has the letter or not.
abbrev pub given : Gauge → List Float → List Float
given g widths = g.hyphen ∷ g.line ∷ widths

-- "refusal 13, after 5, 2, 4, 3"
unfoldable pub fit_grounds : Gauge → List Float → List ℕ → ℕ → List Row
fit_grounds g widths word size = on 5 (ltb size room_size) ∷ word_grounds word_limit word ++ (on 13 (any_bad (given g widths)) ∷ [])

-- What each case of the answer says: its number and values.
unfoldable pub fit_said : Result Fitting Ground → Said
fit_said (Ok Whole) = Finds whole_found
fit_said (Ok (Break gap)) = Finds (break_found gap)
fit_said (Ok Nowhere) = Finds none_found
fit_said (Err g) = Refuses (told g)

-- The promise is that what the answer says is this.
unfoldable pub fit_answer : Gauge → List Float → List ℕ → List ℕ → Said
fit_answer g widths word room = first_of (Finds (fit_values g widths word room)) (fit_grounds g widths word (length room))

-- The grounds as they are judged, one after the other.
unfoldable pub judge_fit : Gauge → List Float → List ℕ → ℕ → Check
judge_fit g widths word size = first (refuse_if (ltb size room_size) RoomShort) (first (judge_word word_limit word) (refuse_if (any_bad (given g widths)) BadWidth))
