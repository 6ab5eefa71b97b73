-- The judgements of the two calls give the first of their grounds that holds, and their promises say the same by grounds and by
-- judgements.
use Prim.Native.Nat.{ℕ, ◌+◌}
use mathlib.Core.List.{List, [], ◌∷◌}
use mathlib.Core.Path.{◌≡◌, sym, ◌∙◌, ap}
use lib.ListN.{length}
use Rattle.base.specs.Grounds.{Said, Row, Check}
use Rattle.std.specs.Prelude.{Ok, Err}
use Rattle.base.specs.declared.Ground.TheVariants.{TextRoomShort, RunningLong}
use Rattle.base.proofs.Grounds.{Ordered, ordered_first, ordered_if, said_found, said_refused_lem, told_once, refuses_once, no_refusal}
use Rattle.lists.proofs.Order.{lists_ordered}
use Rattle.table.proofs.Order.{table_ordered}
use Rattle.hyphenation.proofs.Order.{margins_ordered}
use Rattle.states.specs.declared.TextState.{TextState}
use Rattle.running.specs.Calls.{setting_grounds, passes_end, short_for, piece_grounds, end_grounds, text_said, written_or, text_left, state_left, Gives, judge_setting, judge_piece, judge_end, text_answer, text_after, state_after, Given, TextAnswer}
use Rattle.running.specs.declared.Taken.{Taken}

pub setting_ordered : (left right : ℕ) (customer house table : List ℕ) → Ordered (judge_setting left right customer house table) (setting_grounds left right customer house table)
unfolding judge_setting setting_grounds
setting_ordered left right customer house table = ordered_first (margins_ordered left right) (ordered_first (lists_ordered customer house) (table_ordered table))

pub piece_ordered : (left right : ℕ) (customer house table : List ℕ) (total held n size : ℕ)
    → Ordered (judge_piece left right customer house table total held n size) (piece_grounds left right customer house table total held n size)
unfolding judge_piece piece_grounds
piece_ordered left right customer house table total held n size =
    ordered_first (setting_ordered left right customer house table)
    (ordered_first (ordered_if (passes_end total n) RunningLong) (ordered_if (short_for (held + n) size) TextRoomShort))

pub end_ordered : (left right : ℕ) (customer house table : List ℕ) (held size : ℕ)
    → Ordered (judge_end left right customer house table held size) (end_grounds left right customer house table held size)
unfolding judge_end end_grounds
end_ordered left right customer house table held size =
    ordered_first (setting_ordered left right customer house table) (ordered_if (short_for held size) TextRoomShort)

-- no two answers say the same
answer_once : (r s : TextAnswer) → text_said r ≡ text_said s → r ≡ s
unfolding text_said
answer_once (Ok w) (Ok w') e = let a : w.length ≡ w'.length = cc in let b : w.looks ≡ w'.looks = cc in rw (a, b)
answer_once (Ok w) (Err h) e = no_refusal e
answer_once (Err g) (Ok w) e = no_refusal (sym e)
answer_once (Err g) (Err h) e = ap Err (told_once g h (refuses_once e))

-- what is answered and left by a judgement is what its grounds say
module _ (text : List ℕ) (looks : ℕ) {rows : List Row} where
  answer_said_lem : (judged : Check) → Ordered judged rows → text_said (text_answer judged text looks) ≡ written_or rows text looks
  unfolding text_said
  answer_said_lem (Ok _) o = sym (said_found o (length text ∷ looks ∷ []))
  answer_said_lem (Err g) o = sym (said_refused_lem o (length text ∷ looks ∷ []))

  room_left_lem : (judged : Check) → Ordered judged rows → (room : List ℕ) → text_after judged text room ≡ text_left (written_or rows text looks) text room
  room_left_lem (Ok _) o room = ap (λ (s : Said). text_left s text room) (sym (said_found o (length text ∷ looks ∷ [])))
  room_left_lem (Err g) o room = ap (λ (s : Said). text_left s text room) (sym (said_refused_lem o (length text ∷ looks ∷ [])))

  state_left_lem : (judged : Check) → Ordered judged rows → (given then : TextState) → state_after judged given then ≡ state_left (written_or rows text looks) given then
  state_left_lem (Ok _) o given then = ap (λ (s : Said). state_left s given then) (sym (said_found o (length text ∷ looks ∷ [])))
  state_left_lem (Err g) o given then = ap (λ (s : Said). state_left s given then) (sym (said_refused_lem o (length text ∷ looks ∷ [])))

-- from the promise by judgements to the one by grounds, and back
module _ {judged : Check} {rows : List Row} (o : Ordered judged rows) {text : List ℕ} {looks : ℕ} {given then : TextState} {room : List ℕ} {r : Taken} {after : List ℕ} where
  pub promised : Given judged text looks given then room r after → Gives rows text looks given then room r after
  promised a =
      record {
        answered = ap text_said a.answered ∙ answer_said_lem text looks judged o;
        state = a.state ∙ state_left_lem text looks judged o given then;
        memory = a.memory ∙ room_left_lem text looks judged o room;
      }

  pub computed : Gives rows text looks given then room r after → Given judged text looks given then room r after
  computed p =
      record {
        answered = answer_once r.answer (text_answer judged text looks) (p.answered ∙ sym (answer_said_lem text looks judged o));
        state = p.state ∙ sym (state_left_lem text looks judged o given then);
        memory = p.memory ∙ sym (room_left_lem text looks judged o room);
      }
