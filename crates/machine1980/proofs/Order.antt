-- The judgement of the call gives the first of its grounds that holds, and its promise follows from what is found behind it.
use Prim.Native.Nat.{ℕ, ◌≤◌}
use mathlib.Core.List.{List, []}
use mathlib.Core.Path.{◌≡◌, sym, ◌∙◌, ap}
use borrow.Author.Tests.{ltb-false}
use lib.ListN.{length}
use Rattle.base.specs.Limits.{word_limit1980, room_size1980}
use Rattle.base.specs.Grounds.{Said, Finds, says, first_of, refuse_if, Check}
use Rattle.std.specs.Prelude.{Ok, Err}
use Rattle.base.specs.declared.Ground.{Ground}
use Rattle.base.specs.declared.Ground.TheVariants.{RoomShort}
use Rattle.base.proofs.Grounds.{Ordered, ordered_first, ordered_if, said_found, said_refused_lem, both_fine, not_refused, judged_by}
use Rattle.rooms.specs.Rooms.{is_short}
use Rattle.words.specs.Words.{judge_letters}
use Rattle.words.proofs.Order.{letters_ordered}
use Rattle.machine1980.specs.Run.{machine}
use Rattle.machine1980.specs.Calls.{grounds1980, judge1980, said1980, values_of, answer1980, room_left, room1980, Reprints, Answer1980}
use Rattle.machine1980.specs.Post.{Answered}

pub ordered_1980 : (word : List ℕ) (size : ℕ) → Ordered (judge1980 word size) (grounds1980 word size)
unfolding judge1980 grounds1980
ordered_1980 word size = ordered_first (ordered_if (is_short room_size1980 size) RoomShort) (letters_ordered word_limit1980 word)

-- what a judgement that is fine says of the word and of the room
pub judged_fine : (word : List ℕ) (size : ℕ) → judge1980 word size ≡ Ok tt → judge_letters word_limit1980 word ≡ Ok tt
unfolding judge1980
judged_fine word size e = (both_fine (refuse_if (is_short room_size1980 size) RoomShort) (judge_letters word_limit1980 word) e).1

pub sizes : (word : List ℕ) (size : ℕ) {judged : Check} → says judged ≡ first_of (Finds []) (grounds1980 word size) → judged ≡ Ok tt
    → (judge_letters word_limit1980 word ≡ Ok tt) × (room_size1980 ≤ size)
unfolding judge1980
sizes word size p q =
    let a = both_fine (refuse_if (is_short room_size1980 size) RoomShort) (judge_letters word_limit1980 word) (sym (judged_by (ordered_1980 word size) p) ∙ q) in
    (a.1, ltb-false size room_size1980 (not_refused (is_short room_size1980 size) RoomShort a.0))

-- the promise by its judgement: a refusal as it is judged, else what is found
module _ (budget : ℕ) (word room : List ℕ) {judged : Check} (p : says judged ≡ first_of (Finds []) (grounds1980 word (length room))) where
  judged_as : {c : Check} → judged ≡ c → Ordered c (grounds1980 word (length room))
  judged_as e = record { same = ap says (sym e) ∙ p }

  pub refused : {g : Ground} {r : Answer1980} → judged ≡ Err g → r ≡ Err g → Reprints budget word room r room
  unfolding said1980 answer1980 room1980
  refused e f =
      let s = said_refused_lem (judged_as e) (values_of (length word) (machine budget word)) in
      record { answered = ap said1980 f ∙ sym s; memory = ap (λ (x : Said). room_left x (machine budget word) (length word) room) (sym s) }

  pub found : (r : Answer1980) (after : List ℕ) → judged ≡ Ok tt → Answered budget word room r after → Reprints budget word room r after
  unfolding answer1980 room1980
  found r after e a =
      let s = said_found (judged_as e) (values_of (length word) (machine budget word)) in
      record { answered = a.answered ∙ sym s; memory = a.memory ∙ ap (λ (x : Said). room_left x (machine budget word) (length word) room) (sym s) }
