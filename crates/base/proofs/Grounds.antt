-- Laws about judgements in order, and about what they say.
use mathlib.Core.Bool.{Bool, true, false, cond}
use mathlib.Core.List.{List, [], ◌∷◌, ◌++◌}
use mathlib.Core.Path.{◌≡◌, refl, sym, ◌∙◌, ap}
use Prim.Native.Nat.{ℕ}
use lib.Dec.{eqb}
use Rattle.base.specs.Grounds.{Told, told, Said, Finds, Refuses, says, Row, first_of, first, refuse_if, Check}
use Rattle.std.specs.Prelude.{Result, Ok, Err, IsErrAnd}
use Rattle.std.proofs.lemmas.Result.{err_from_is_err_and}
use Rattle.base.specs.declared.Ground.{Ground}
use Rattle.base.specs.declared.Ground.TheVariants.{Margin, WordEmpty, NotLetter, WordLong, RoomShort, BadException, BadPattern, TextLong, TableForm, PackRoomShort, NoFit, NotRight, BadWidth, TextRoomShort, RunningLong}
use Rattle.base.proofs.Lists.{clash}

-- a judgement that is fine hands on to the next; the first refusal is the answer
module _ {a : Check} (b : Check) {r : Check} (p : r ≡ a) where
  pub pass : r ≡ Ok tt → first a b ≡ b
  pass q = rw (← p, q)

  pub stop : {g : Ground} → r ≡ Err g → first a b ≡ Err g
  stop q = rw (← p, q)

-- What leaves a function at a `?` is the refusal of the judgement asked there.
pub handed_on : {T : Type 0} (r : Result T Ground) {g : Ground} → IsErrAnd r (λ e. e ≡ g) → r ≡ Err g
handed_on r h = let p = err_from_is_err_and r h in p.1 ∙ ap Err p.2

-- what it says of the parts that judgements in order are fine
pub both_fine : (a b : Check) → first a b ≡ Ok tt → (a ≡ Ok tt) × (b ≡ Ok tt)
both_fine (Ok _) b e = (refl, e)
both_fine (Err g) b e = clash cc

-- a test that fails refuses nothing
pub not_refused : (t : Bool) (g : Ground) → refuse_if t g ≡ Ok tt → t ≡ false
not_refused false g e = refl
not_refused true g e = clash cc

-- No two grounds tell the same: what is told gives the ground back.
ground_of : Told → Ground
ground_of t =
    cond (eqb t.number 1) Margin
    (cond (eqb t.number 2) WordEmpty
    (cond (eqb t.number 3) (NotLetter t.place)
    (cond (eqb t.number 4) WordLong
    (cond (eqb t.number 5) RoomShort
    (cond (eqb t.number 6) (BadException t.list t.place)
    (cond (eqb t.number 7) (BadPattern t.place)
    (cond (eqb t.number 8) TextLong
    (cond (eqb t.number 9) TableForm
    (cond (eqb t.number 10) PackRoomShort
    (cond (eqb t.number 11) NoFit
    (cond (eqb t.number 12) NotRight
    (cond (eqb t.number 13) BadWidth
    (cond (eqb t.number 14) TextRoomShort RunningLong)))))))))))))

ground_told : (g : Ground) → ground_of (told g) ≡ g
unfolding ground_of
ground_told Margin = refl
ground_told WordEmpty = refl
ground_told (NotLetter at) = refl
ground_told WordLong = refl
ground_told RoomShort = refl
ground_told (BadException list offset) = refl
ground_told (BadPattern offset) = refl
ground_told TextLong = refl
ground_told TableForm = refl
ground_told PackRoomShort = refl
ground_told NoFit = refl
ground_told NotRight = refl
ground_told BadWidth = refl
ground_told TextRoomShort = refl
ground_told RunningLong = refl

pub told_once : (g h : Ground) → told g ≡ told h → g ≡ h
told_once g h e = sym (ground_told g) ∙ ap ground_of e ∙ ground_told h

refused_as : Said → Told
refused_as (Finds values) = record { number = 0; list = 0; place = 0 }
refused_as (Refuses t) = t

pub refuses_once : {s t : Told} → Refuses s ≡ Refuses t → s ≡ t
unfolding refused_as
refuses_once e = ap refused_as e

-- a finding is no refusal
pub no_refusal : {A : Type 0} {values : List ℕ} {t : Told} → Finds values ≡ Refuses t → A
no_refusal e = clash cc

pub says_once : (r s : Check) → says r ≡ says s → r ≡ s
unfolding says
says_once (Ok _) (Ok _) e = refl
says_once (Ok _) (Err h) e = no_refusal e
says_once (Err g) (Ok _) e = no_refusal (sym e)
says_once (Err g) (Err h) e = ap Err (told_once g h (refuses_once e))

-- A judgement and the order of its grounds, which say the same: from the one to the other, and back.
pub record Ordered (judged : Check) (rows : List Row) : Type 0 where
  pub same : says judged ≡ first_of (Finds []) rows

module _ {judged : Check} {rows : List Row} (o : Ordered judged rows) where
  pub said_by : {r : Check} → r ≡ judged → says r ≡ first_of (Finds []) rows
  said_by e = ap says e ∙ o.same

  pub judged_by : {r : Check} → says r ≡ first_of (Finds []) rows → r ≡ judged
  judged_by {r} e = says_once r judged (e ∙ sym o.same)

-- what stands for a finding matters only where nothing is refused
found_as : (rows : List Row) (values : List ℕ) → first_of (Finds []) rows ≡ Finds [] → first_of (Finds values) rows ≡ Finds values
unfolding first_of
found_as [] values e = refl
found_as (row ∷ rows) values e = go row.holds e (found_as rows values)
  where
    go : (z : Bool) → cond z (Refuses row.tells) (first_of (Finds []) rows) ≡ Finds [] → (first_of (Finds []) rows ≡ Finds [] → first_of (Finds values) rows ≡ Finds values)
        → cond z (Refuses row.tells) (first_of (Finds values) rows) ≡ Finds values
    go true p next = no_refusal (sym p)
    go false p next = next p

refused_alike : (rows : List Row) (values : List ℕ) {t : Told} → first_of (Finds []) rows ≡ Refuses t → first_of (Finds values) rows ≡ Refuses t
unfolding first_of
refused_alike [] values e = no_refusal e
refused_alike (row ∷ rows) values e = go row.holds e (refused_alike rows values)
  where
    go : {t : Told} (z : Bool) → cond z (Refuses row.tells) (first_of (Finds []) rows) ≡ Refuses t → (first_of (Finds []) rows ≡ Refuses t → first_of (Finds values) rows ≡ Refuses t)
        → cond z (Refuses row.tells) (first_of (Finds values) rows) ≡ Refuses t
    go true p next = p
    go false p next = next p

pub said_found : {rows : List Row} → Ordered (Ok tt) rows → (values : List ℕ) → first_of (Finds values) rows ≡ Finds values
unfolding says
said_found {rows} o values = found_as rows values (sym o.same)

pub said_refused_lem : {g : Ground} {rows : List Row} → Ordered (Err g) rows → (values : List ℕ) → first_of (Finds values) rows ≡ Refuses (told g)
unfolding says
said_refused_lem {rows = rows} o values = refused_alike rows values (sym o.same)

-- two judgements in order are the order of the grounds of both
either : Said → Said → Said
either (Finds values) next = next
either (Refuses t) next = Refuses t

said_first : (a b : Check) → says (first a b) ≡ either (says a) (says b)
unfolding says either
said_first (Ok _) b = refl
said_first (Err g) b = refl

rows_first : (rows more : List Row) → first_of (Finds []) (rows ++ more) ≡ either (first_of (Finds []) rows) (first_of (Finds []) more)
unfolding first_of either
rows_first [] more = refl
rows_first (row ∷ rows) more = go row.holds (rows_first rows more)
  where
    go : (z : Bool) → first_of (Finds []) (rows ++ more) ≡ either (first_of (Finds []) rows) (first_of (Finds []) more)
        → cond z (Refuses row.tells) (first_of (Finds []) (rows ++ more)) ≡ either (cond z (Refuses row.tells) (first_of (Finds []) rows)) (first_of (Finds []) more)
    go true e = refl
    go false e = e

pub ordered_first : {a b : Check} {rows more : List Row} → Ordered a rows → Ordered b more → Ordered (first a b) (rows ++ more)
ordered_first {a} {b} {rows} {more} p q = record { same = said_first a b ∙ rw (p.same, q.same) (sym (rows_first rows more)) }

-- a test that refuses on a ground is that ground's row
pub ordered_if : (test : Bool) (g : Ground) → Ordered (refuse_if test g) (record { holds = test; tells = told g } ∷ [])
unfolding says first_of
ordered_if true g = record { same = refl }
ordered_if false g = record { same = refl }
