-- The judgements of the two calls give the first of their grounds that holds, and their promises say the same by grounds and by
-- judgements.
use Prim.Native.Nat.{ℕ}
use mathlib.Core.Bool.{◌||◌}
use mathlib.Core.List.{List, [], ◌∷◌}
use mathlib.Core.Path.{◌≡◌, refl, sym, ◌∙◌, ap}
use Rattle.base.specs.Limits.{word_limit, room_size}
use Rattle.base.specs.Grounds.{Said, Row, first, Check}
use Rattle.std.specs.Prelude.{Ok, Err}
use Rattle.base.specs.declared.Ground.TheVariants.{Margin, RoomShort}
use Rattle.base.proofs.Grounds.{Ordered, ordered_first, ordered_if, said_found, said_refused_lem, told_once, refuses_once, no_refusal}
use Rattle.rooms.specs.Rooms.{is_short, nonzero}
use Rattle.words.specs.Words.{judge_word}
use Rattle.words.proofs.Order.{word_ordered}
use Rattle.lists.proofs.Order.{lists_ordered}
use Rattle.liang.specs.Breaks.{bad_margin}
use Rattle.table.specs.Table.{judge_table}
use Rattle.table.proofs.Order.{table_ordered}
use Rattle.hyphenation.specs.Calls.{room_grounds, margin_grounds, levels_grounds, hyphenate_grounds, word_alone_grounds, answer_said, found_or, room_left, Answers, judge_room, judge_margins, judge_levels, judge_hyphenate, judge_word_alone, answer, room_after, Answered, Answer}

pub room_ordered : (size : ℕ) → Ordered (judge_room size) (room_grounds size)
unfolding judge_room room_grounds
room_ordered size = ordered_if (is_short room_size size) RoomShort

pub margins_ordered : (left right : ℕ) → Ordered (judge_margins left right) (margin_grounds left right)
unfolding judge_margins margin_grounds
margins_ordered left right = ordered_if (bad_margin left || bad_margin right) Margin

pub levels_ordered : (word table : List ℕ) (size : ℕ) → Ordered (judge_levels word table size) (levels_grounds word table size)
unfolding judge_levels levels_grounds
levels_ordered word table size = ordered_first (room_ordered size) (ordered_first (word_ordered word_limit word) (table_ordered table))

pub hyphenate_ordered : (left right : ℕ) (word customer house table : List ℕ) (size : ℕ)
    → Ordered (judge_hyphenate left right word customer house table size) (hyphenate_grounds left right word customer house table size)
unfolding judge_hyphenate hyphenate_grounds
hyphenate_ordered left right word customer house table size =
    ordered_first (margins_ordered left right)
    (ordered_first (room_ordered size)
    (ordered_first (word_ordered word_limit word)
    (ordered_first (lists_ordered customer house) (table_ordered table))))

pub word_alone_ordered : (word : List ℕ) (size : ℕ) → Ordered (judge_word_alone word size) (word_alone_grounds word size)
unfolding judge_word_alone word_alone_grounds
word_alone_ordered word size = ordered_first (room_ordered size) (word_ordered word_limit word)

-- room and word first, as for a word alone, and then the table
pub levels_after_word : (word table : List ℕ) (size : ℕ) → judge_levels word table size ≡ first (judge_word_alone word size) (judge_table table)
unfolding judge_levels judge_word_alone
levels_after_word word table size = go (judge_room size)
  where
    go : (a : Check) → first a (first (judge_word word_limit word) (judge_table table)) ≡ first (first a (judge_word word_limit word)) (judge_table table)
    go (Ok _) = refl
    go (Err g) = refl

-- no two answers say the same
answer_once : (r s : Answer) → answer_said r ≡ answer_said s → r ≡ s
unfolding answer_said
answer_once (Ok f) (Ok f') e = let a : f.marks ≡ f'.marks = cc in let b : f.looks ≡ f'.looks = cc in rw (a, b)
answer_once (Ok f) (Err h) e = no_refusal e
answer_once (Err g) (Ok f) e = no_refusal (sym e)
answer_once (Err g) (Err h) e = ap Err (told_once g h (refuses_once e))

-- what is answered and left by a judgement is what its grounds say
module _ (sheet : List ℕ) (looks : ℕ) {rows : List Row} where
  answer_said_lem : (judged : Check) → Ordered judged rows → answer_said (answer judged sheet looks) ≡ found_or rows sheet looks
  unfolding answer_said
  answer_said_lem (Ok _) o = sym (said_found o (nonzero sheet ∷ looks ∷ []))
  answer_said_lem (Err g) o = sym (said_refused_lem o (nonzero sheet ∷ looks ∷ []))

  room_left_lem : (judged : Check) → Ordered judged rows → (room : List ℕ) → room_after judged sheet room ≡ room_left (found_or rows sheet looks) sheet room
  room_left_lem (Ok _) o room = ap (λ (s : Said). room_left s sheet room) (sym (said_found o (nonzero sheet ∷ looks ∷ [])))
  room_left_lem (Err g) o room = ap (λ (s : Said). room_left s sheet room) (sym (said_refused_lem o (nonzero sheet ∷ looks ∷ [])))

-- from the promise by judgements to the one by grounds, and back
module _ {judged : Check} {rows : List Row} (o : Ordered judged rows) {sheet : List ℕ} {looks : ℕ} {room : List ℕ} {r : Answer} {after : List ℕ} where
  pub promised : Answered judged sheet looks room r after → Answers rows sheet looks room r after
  promised a =
      record {
        answered = ap answer_said a.answered ∙ answer_said_lem sheet looks judged o;
        memory = a.memory ∙ room_left_lem sheet looks judged o room;
      }

  pub computed : Answers rows sheet looks room r after → Answered judged sheet looks room r after
  computed p =
      record {
        answered = answer_once r (answer judged sheet looks) (p.answered ∙ sym (answer_said_lem sheet looks judged o));
        memory = p.memory ∙ sym (room_left_lem sheet looks judged o room);
      }
