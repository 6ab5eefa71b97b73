-- The grounds of a refusal with their numbers and places, and refusals in order.
use Rattle.std.specs.Prelude.{ℕ, Bool, true, false, cond, ◌||◌, List, [], ◌∷◌, map, eqb, ⊤, Result, Ok, Err}
use Rattle.base.specs.declared.Ground.{Ground}
use Rattle.base.specs.declared.Ground.TheVariants.{Margin, WordEmpty, NotLetter, WordLong, RoomShort, BadException, BadPattern, TextLong, TableForm, PackRoomShort, NoFit, NotRight, BadWidth, TextRoomShort, RunningLong}

-- What the customer reads of a ground: its number, and the list and place told, 0 where none is.
pub record Told : Type 0 where
  pub number : ℕ
  pub list : ℕ
  pub place : ℕ

-- a ground that tells no place
abbrev pub plain : ℕ → Told
plain n = record { number = n; list = 0; place = 0 }

-- a ground that tells a place in the one text it speaks of
abbrev pub placed : ℕ → ℕ → Told
placed n at = record { number = n; list = 0; place = at }

-- The table of "When the desk says no", row by row; then document 02's: "A given width outside 0 to 1,000, or not-a-number, is refusal 13",
-- "The output room must have three bytes for each byte held or in the piece, else refusal 14", "past 1,048,576 bytes is refusal 21", and
-- "a new number tells no place unless one is named".
abbrev pub told : Ground → Told
told Margin = plain 1
told WordEmpty = plain 2
told (NotLetter at) = placed 3 at
told WordLong = plain 4
told RoomShort = plain 5
told (BadException list offset) = record { number = 6; list = list; place = offset }
told (BadPattern offset) = placed 7 offset
told TextLong = plain 8
told TableForm = plain 9
told PackRoomShort = plain 10
told NoFit = plain 11
told NotRight = plain 12
told BadWidth = plain 13
told TextRoomShort = plain 14
told RunningLong = plain 21

-- An answer as the customer reads it: "either a finding or a refusal that carries its ground and place". A finding tells its
-- values in order.
pub data Said : Type 0 where
  Finds : List ℕ → Said
  Refuses : Told → Said

-- A judgement: nothing stands against what is judged, or why it is refused.
abbrev pub Check : Type 0
Check = Result ⊤ Ground

-- What a judgement says.
unfoldable pub says : Check → Said
says (Ok _) = Finds []
says (Err g) = Refuses (told g)

-- One ground in the order of a call: whether it holds, and what it then tells.
pub record Row : Type 0 where
  pub holds : Bool
  pub tells : Told

-- A ground by its number: without a place, with a place in the one text it speaks of, with a list and a place in it.
abbrev pub on : ℕ → Bool → Row
on n test = record { holds = test; tells = plain n }

abbrev pub on_at : ℕ → ℕ → Bool → Row
on_at n at test = record { holds = test; tells = placed n at }

abbrev pub on_line : ℕ → ℕ → ℕ → Bool → Row
on_line n list offset test = record { holds = test; tells = record { number = n; list = list; place = offset } }

-- "Order": the first of some grounds that holds is the answer; where none does, it is the finding.
unfoldable pub first_of : Said → List Row → Said
first_of found [] = found
first_of found (row ∷ rest) = cond row.holds (Refuses row.tells) (first_of found rest)

-- The order as document 01 writes it, a list of numbers.
abbrev pub numbers_of : List Row → List ℕ
numbers_of rows = map (λ row. row.tells.number) rows

abbrev pub is_finding : Said → Bool
is_finding (Finds values) = true
is_finding (Refuses t) = false

-- Does one of some grounds hold?
unfoldable pub any_holds : List Row → Bool
any_holds [] = false
any_holds (row ∷ rest) = row.holds || any_holds rest

-- Is a number one of some?
unfoldable pub one_of : ℕ → List ℕ → Bool
one_of n [] = false
one_of n (m ∷ rest) = eqb n m || one_of n rest

-- Two judgements in order: the first refusal is the answer.
abbrev pub first : Check → Check → Check
first (Ok _) next = next
first (Err g) next = Err g

-- Refused on a ground where a test holds.
abbrev pub refuse_if : Bool → Ground → Check
refuse_if test g = cond test (Err g) (Ok tt)
