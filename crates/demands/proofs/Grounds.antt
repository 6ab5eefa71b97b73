-- Demand 1: "every call ends with an answer or a numbered refusal. The numbers, their order, and what each leaves in the memory we
-- lent are those of document 01, and none is given on other grounds." For each call: its order is document 01's, it finds exactly
-- where none of these grounds holds, a refusal tells the first that holds, and what is left in lent memory then.
use Rattle.std.specs.Prelude.{Result}
use Prim.Native.Nat.{ℕ}
use mathlib.Core.Bool.{Bool, true, false, cond}
use mathlib.Core.List.{List, []}
use mathlib.Core.Logic.{◌↔◌}
use mathlib.Core.Path.{◌≡◌, refl, sym, ◌∙◌, ap}
use lib.Dec.{eqb}
use lib.Ieee.{Float}
use lib.ListN.{length}
use Rattle.base.specs.Limits.{pack_room}
use Rattle.base.specs.Grounds.{Told, Said, Finds, Refuses, says, Row, first_of, numbers_of, is_finding, any_holds, one_of, Check}
use Rattle.base.specs.Orders.{hyphenate_order, levels_order, pack_order, check_order, lookup_order, fit_order, order1980, piece_order, end_order}
use Rattle.base.proofs.Order.{Chosen, finding_exactly, refuses_first, refuses_listed, none_found_lem, some_refused}
use Rattle.rooms.specs.Rooms.{filled}
use Rattle.words.specs.Words.{grounds_by}
use Rattle.lists.specs.Lists.{pattern_grounds, list_grounds}
use Rattle.lookup.specs.Find.{find_either}
use Rattle.lookup.specs.Lookup.{lookup_grounds, line_said, values_of, lookup_said}
use Rattle.liang.specs.Patterns.{patterns_of}
use Rattle.table.specs.Table.{table_grounds}
use Rattle.rightness.specs.Test.{check_grounds}
use Rattle.fit.specs.Table.{first_fit}
use Rattle.hyphenation.specs.Calls.{room_grounds, margin_grounds, levels_grounds, hyphenate_grounds, answer_said, room_left, Answers, Levels, Breaks, Answer}
use Rattle.packer.specs.Pack.{pack_grounds, fit_bytes, packing_said, pack_said, pack_left, Packs, Packing}
use Rattle.gauge.specs.Fit.{fit_grounds, fit_said, fit_answer}
use Rattle.gauge.specs.declared.Gauge.{Gauge}
use Rattle.base.specs.declared.Ground.{Ground}
use Rattle.gauge.specs.declared.Fitting.{Fitting}
use Rattle.states.specs.declared.TextState.{TextState}
use Rattle.running.specs.Calls.{setting_grounds, piece_grounds, end_grounds, text_said, text_left, state_left, Gives, total_now, Pieces, Ends}
use Rattle.running.specs.declared.Taken.{Taken}
use Rattle.states.specs.State.{read_state}
use Rattle.machine1980.specs.Run.{Outcome, RanOut, machine}
use Rattle.machine1980.specs.Calls.{grounds1980, said1980, left_by, answer1980, room1980, Reprints, Answer1980}
use Rattle.machine1980.specs.Calls as reprint

-- What demand 1 says of one answer of a call with this order of grounds.
pub record Numbered (order : List ℕ) (grounds : List Row) (said : Said) : Type 0 where
  -- "The numbers, their order": the grounds have document 01's numbers
  pub ordered : numbers_of grounds ≡ order
  -- the answer is a finding exactly where no ground holds
  pub finds : (is_finding said ≡ true) ↔ (any_holds grounds ≡ false)
  -- a refusal tells the number, list and place of the first ground that holds
  pub first : (t : Told) → said ≡ Refuses t → Chosen grounds t
  -- "none is given on other grounds": its number is one of the order's
  pub listed : (t : Told) → said ≡ Refuses t → one_of t.number order ≡ true

numbered : (order : List ℕ) (grounds : List Row) (values : List ℕ) (said : Said) → numbers_of grounds ≡ order → said ≡ first_of (Finds values) grounds → Numbered order grounds said
numbered order grounds values said o p =
    record {
      ordered = o;
      finds = (λ e. (finding_exactly grounds values).0 (sym (ap is_finding p) ∙ e), λ e. ap is_finding p ∙ (finding_exactly grounds values).1 e);
      first = λ t e. refuses_first grounds values (sym p ∙ e);
      listed = λ t e. ap (one_of t.number) (sym o) ∙ refuses_listed grounds values (sym p ∙ e);
    }

-- "Refusals leave lent memory untouched": both calls that write a sheet
untouched : {grounds : List Row} {sheet : List ℕ} {looks : ℕ} {room after : List ℕ} {r : Answer} → Answers grounds sheet looks room r after → (t : Told) → answer_said r ≡ Refuses t → after ≡ room
untouched {sheet = sheet} {room = room} a t e = a.memory ∙ ap (λ (s : Said). room_left s sheet room) (sym a.answered ∙ e)

-- The levels call.
pub levels_order_lem : (word table : List ℕ) (size : ℕ) → numbers_of (levels_grounds word table size) ≡ levels_order
unfolding levels_grounds room_grounds grounds_by table_grounds
levels_order_lem word table size = refl

module _ (word table room after : List ℕ) (r : Answer) (l : Levels word table room r after) where
  pub levels_numbered : Numbered levels_order (levels_grounds word table (length room)) (answer_said r)
  levels_numbered = numbered levels_order _ _ (answer_said r) (levels_order_lem word table (length room)) l.answered

  pub levels_refused : (t : Told) → answer_said r ≡ Refuses t → after ≡ room
  levels_refused = untouched l

-- The hyphenating call.
pub hyphenate_order_lem : (left right : ℕ) (word customer house table : List ℕ) (size : ℕ) → numbers_of (hyphenate_grounds left right word customer house table size) ≡ hyphenate_order
unfolding hyphenate_grounds margin_grounds room_grounds grounds_by list_grounds table_grounds
hyphenate_order_lem left right word customer house table size = refl

module _ (left right : ℕ) (word customer house table room after : List ℕ) (r : Answer) (b : Breaks left right word customer house table room r after) where
  pub hyphenate_numbered : Numbered hyphenate_order (hyphenate_grounds left right word customer house table (length room)) (answer_said r)
  hyphenate_numbered = numbered hyphenate_order _ _ (answer_said r) (hyphenate_order_lem left right word customer house table (length room)) b.answered

  pub hyphenate_refused : (t : Told) → answer_said r ≡ Refuses t → after ≡ room
  hyphenate_refused = untouched b

-- The packer.
pub pack_order_lem : (text : List ℕ) (size : ℕ) → numbers_of (pack_grounds text size) ≡ pack_order
unfolding pack_grounds pattern_grounds
pack_order_lem text size = refl

module _ (text room after : List ℕ) (r : Packing) (p : Packs text room r after) where
  pub pack_numbered : Numbered pack_order (pack_grounds text (length room)) (packing_said r)
  unfolding pack_said
  pack_numbered = numbered pack_order _ _ (packing_said r) (pack_order_lem text (length room)) p.answered

  -- "Refusals leave lent memory untouched, except 11, which sets the pack room's first 59,398 bytes to zero."
  pub pack_refused : (t : Told) → packing_said r ≡ Refuses t → eqb t.number 11 ≡ false → after ≡ room
  pack_refused t e n = p.memory ∙ ap (λ (s : Said). pack_left s (fit_bytes (first_fit (patterns_of text))) room) (sym p.answered ∙ e) ∙ ap (λ (z : Bool). cond z (filled pack_room [] room) room) n

  pub pack_no_room : (t : Told) → packing_said r ≡ Refuses t → eqb t.number 11 ≡ true → after ≡ filled pack_room [] room
  pack_no_room t e n = p.memory ∙ ap (λ (s : Said). pack_left s (fit_bytes (first_fit (patterns_of text))) room) (sym p.answered ∙ e) ∙ ap (λ (z : Bool). cond z (filled pack_room [] room) room) n

-- The checker, which is lent no memory to write.
pub check_order_lem : (text table : List ℕ) → numbers_of (check_grounds text table) ≡ check_order
unfolding check_grounds pattern_grounds table_grounds
check_order_lem text table = refl

pub check_numbered : (text table : List ℕ) (r : Check) → says r ≡ first_of (Finds []) (check_grounds text table) → Numbered check_order (check_grounds text table) (says r)
check_numbered text table r p = numbered check_order _ [] (says r) (check_order_lem text table) p

-- The lookup: "An empty part means no line, or a refusal on grounds 2, 4, 3, 8 or 6, which the hyphenating call names."
pub lookup_order_lem : (word customer house : List ℕ) → numbers_of (lookup_grounds word customer house) ≡ lookup_order
unfolding lookup_grounds grounds_by list_grounds
lookup_order_lem word customer house = refl

pub lookup_refused : (word customer house : List ℕ) → any_holds (lookup_grounds word customer house) ≡ true → lookup_said word customer house ≡ []
unfolding lookup_said
lookup_refused word customer house e = ap values_of (some_refused (lookup_grounds word customer house) _ e).1

pub lookup_answered : (word customer house : List ℕ) → any_holds (lookup_grounds word customer house) ≡ false → lookup_said word customer house ≡ line_said (find_either word customer house)
unfolding lookup_said
lookup_answered word customer house e = ap values_of (none_found_lem (lookup_grounds word customer house) _ e)

-- The fitting call of CR 2, which is lent no memory to write: "Demand 1 reads the numbers and orders of this and the later requests too".
pub fit_order_lem : (g : Gauge) (widths : List Float) (word : List ℕ) (size : ℕ) → numbers_of (fit_grounds g widths word size) ≡ fit_order
unfolding fit_grounds grounds_by
fit_order_lem g widths word size = refl

pub fit_numbered : (g : Gauge) (widths : List Float) (word room : List ℕ) (r : Result Fitting Ground) → fit_said r ≡ fit_answer g widths word room → Numbered fit_order (fit_grounds g widths word (length room)) (fit_said r)
unfolding fit_answer
fit_numbered g widths word room r p = numbered fit_order _ _ (fit_said r) (fit_order_lem g widths word (length room)) p

-- The call of CR 4, under any budget. "Refusals leave lent memory untouched", and so does running out.
pub order_1980 : (word : List ℕ) (size : ℕ) → numbers_of (grounds1980 word size) ≡ order1980
unfolding grounds1980 grounds_by
order_1980 word size = refl

module _ (budget : ℕ) (word room after : List ℕ) (r : Answer1980) (p : Reprints budget word room r after) where
  pub numbered_1980 : Numbered order1980 (grounds1980 word (length room)) (said1980 r)
  unfolding answer1980
  numbered_1980 = numbered order1980 _ _ (said1980 r) (order_1980 word (length room)) p.answered

  pub refused_1980 : (t : Told) → said1980 r ≡ Refuses t → after ≡ room
  unfolding room1980
  refused_1980 t e = p.memory ∙ ap (λ (s : Said). reprint.room_left s (machine budget word) (length word) room) (sym p.answered ∙ e)

  pub ran_out_1980 : machine budget word ≡ RanOut → after ≡ room
  unfolding room1980 left_by
  ran_out_1980 e = p.memory ∙ either (answer1980 budget word (length room))
    where
      either : (s : Said) → reprint.room_left s (machine budget word) (length word) room ≡ room
      either (Finds values) = ap (λ (o : Outcome). left_by (length word) o room) e
      either (Refuses t) = refl

-- CR 6's calls: "1, 8, 6, 9", then 21 and 14. "Refused, nothing is taken or written": the state comes back as it was given too.
pub piece_order_lem : (left right : ℕ) (customer house table : List ℕ) (total held n size : ℕ) → numbers_of (piece_grounds left right customer house table total held n size) ≡ piece_order
unfolding piece_grounds setting_grounds margin_grounds list_grounds table_grounds
piece_order_lem left right customer house table total held n size = refl

pub end_order_lem : (left right : ℕ) (customer house table : List ℕ) (held size : ℕ) → numbers_of (end_grounds left right customer house table held size) ≡ end_order
unfolding end_grounds setting_grounds margin_grounds list_grounds table_grounds
end_order_lem left right customer house table held size = refl

nothing_taken : {grounds : List Row} {text : List ℕ} {looks : ℕ} {given then : TextState} {room after : List ℕ} {r : Taken} → Gives grounds text looks given then room r after → (t : Told)
    → text_said r.answer ≡ Refuses t → (r.state ≡ given) × (after ≡ room)
nothing_taken {text = text} {given = given} {then = then} {room = room} g t e = (
  g.state ∙ ap (λ (s : Said). state_left s given then) (sym g.answered ∙ e),
  g.memory ∙ ap (λ (s : Said). text_left s text room) (sym g.answered ∙ e),
)

module _ (state : TextState) (left right : ℕ) (customer house table room after : List ℕ) (r : Taken) where
  pub piece_numbered : (piece : List ℕ) → Pieces state left right customer house table piece room r after
      → Numbered piece_order (piece_grounds left right customer house table (total_now state) (read_state state).size (length piece) (length room)) (text_said r.answer)
  piece_numbered piece g = numbered piece_order _ _ (text_said r.answer) (piece_order_lem left right customer house table (total_now state) (read_state state).size (length piece) (length room)) g.answered

  pub piece_refused : (piece : List ℕ) → Pieces state left right customer house table piece room r after → (t : Told) → text_said r.answer ≡ Refuses t → (r.state ≡ state) × (after ≡ room)
  piece_refused piece g = nothing_taken g

  pub end_numbered : Ends state left right customer house table room r after
      → Numbered end_order (end_grounds left right customer house table (read_state state).size (length room)) (text_said r.answer)
  end_numbered g = numbered end_order _ _ (text_said r.answer) (end_order_lem left right customer house table (read_state state).size (length room)) g.answered

  pub end_refused : Ends state left right customer house table room r after → (t : Told) → text_said r.answer ≡ Refuses t → (r.state ≡ state) × (after ≡ room)
  end_refused g = nothing_taken g
