-- What the promises of the two calls come to: however a text is cut, what is held, which states are left.
use Prim.Native.Nat.{ℕ, ◌+◌, ◌*◌, ◌≤◌}
use mathlib.Core.Bool.{true, cond}
use mathlib.Core.List.{List, [], ◌∷◌, ◌++◌}
use mathlib.Core.Path.{◌≡◌, refl, sym, ◌∙◌, ap, subst}
use native.Mathlib.Nat.{add-zero, zero-add}
use native.Mathlib.Omega.{arith}
use borrow.Author.Tests.{le-ltb}
use lib.ListN.{length, length-append}
use Rattle.base.specs.Limits.{held_limit, room_per_byte, running_text}
use Rattle.base.specs.Grounds.{refuse_if, Check}
use Rattle.std.specs.Prelude.{Ok, Err}
use Rattle.base.specs.declared.Ground.TheVariants.{RunningLong}
use Rattle.base.proofs.Grounds.{both_fine, not_refused}
use Rattle.runs.specs.Text.{Held, Holding, held_of}
use Rattle.runs.specs.Held.{held_after, piece_out, flushed, joined}
use Rattle.runs.specs.Reached.{is_fine, can_be_held, is_reached}
use Rattle.runs.proofs.Cut.{piece_cut, one_piece}
use Rattle.runs.proofs.Kept.{held_is, after_append}
use Rattle.runs.proofs.Reached.{after_reached}
use Rattle.states.specs.State.{state_of, new_text, held_in, Left, is_left, read_state}
use Rattle.states.specs.declared.TextState.{TextState}
use Rattle.states.proofs.Theorems.{held_in_lem, made_left, read_left_state}
use Rattle.flowing.specs.Output.{as_read, broken, uncounted, counted, sum, whole_text, whole_looks, piece_text, piece_looks, end_text, end_looks}
use Rattle.flowing.proofs.Steps.{sum_append}
use Rattle.running.specs.Calls.{passes_end, short_for, judge_setting, judge_piece, held_now, total_now, state_after, judged_piece, piece_next, judged_end, end_next}
use Rattle.running.specs.Sessions.{Call, Course, answered_first, session}
use Rattle.running.proofs.Laws.{past_bound, left_reached}

-- a state as a text left it is read as it is
module _ (h : Held) (total : ℕ) (short : total ≤ running_text) (r : is_reached h total ≡ true) where
  pub read_same : read_state (state_of h total) ≡ state_of h total
  unfolding read_state
  read_same = rw (made_left h total short r)

  held_same : held_now (state_of h total) ≡ h
  held_same = ap held_in read_same ∙ held_in_lem h total

  total_same : total_now (state_of h total) ≡ total
  unfolding state_of
  total_same = ap (λ (t : TextState). t.total) read_same

module _ (left right : ℕ) (customer house table : List ℕ) where
  -- what an answered piece says of the total
  pub answered_short : (state : TextState) (piece : List ℕ) (room : ℕ) → judged_piece state left right customer house table piece room ≡ Ok tt → total_now state + length piece ≤ running_text
  unfolding judge_piece
  answered_short state piece room e =
      let a = both_fine (judge_setting left right customer house table) _ e in
      let b = both_fine (refuse_if (passes_end (total_now state) (length piece)) RunningLong) _ a.1 in
      past_bound (total_now state) (length piece) (not_refused (passes_end (total_now state) (length piece)) RunningLong b.0)

  -- outputs and counts of two pieces
  text_cut : (h : Held) (p q : List ℕ) → piece_text left right customer house table h (p ++ q) ≡ piece_text left right customer house table h p ++ piece_text left right customer house table (held_after h p) q
  unfolding piece_text
  text_cut h p q = piece_cut as_read (broken left right customer house table) h p q

  looks_cut : (h : Held) (p q : List ℕ) → piece_looks customer house table h (p ++ q) ≡ piece_looks customer house table h p + piece_looks customer house table (held_after h p) q
  unfolding piece_looks
  looks_cut h p q =
      ap sum (piece_cut uncounted (counted customer house table) h p q)
      ∙ sum_append (piece_out uncounted (counted customer house table) h p) (piece_out uncounted (counted customer house table) (held_after h p) q)

  -- calls over what is held, as one piece
  record Follows (h : Held) (total : ℕ) (c : Course) : Type 0 where
    pub text : c.text ≡ piece_text left right customer house table h (joined c.pieces)
    pub looks : c.looks ≡ piece_looks customer house table h (joined c.pieces)
    pub state : c.state ≡ state_of (held_after h (joined c.pieces)) (total + length (joined c.pieces))
    pub short : total + length (joined c.pieces) ≤ running_text
    pub reached : is_reached (held_after h (joined c.pieces)) (total + length (joined c.pieces)) ≡ true

  none_follow : (h : Held) (total : ℕ) → total ≤ running_text → is_reached h total ≡ true → Follows h total (record { pieces = []; text = []; looks = 0; state = state_of h total })
  unfolding piece_text piece_looks piece_out joined held_after sum
  none_follow h total s r = record { text = refl; looks = refl; state = rw (add-zero total); short = rw (add-zero total) s; reached = rw (add-zero total) r }

  one_follows : (h : Held) (total : ℕ) (piece : List ℕ) (rest : Course) → Follows (held_after h piece) (total + length piece) rest
      → Follows h total (record { pieces = piece ∷ rest.pieces; text = piece_text left right customer house table h piece ++ rest.text; looks = piece_looks customer house table h piece + rest.looks; state = rest.state })
  unfolding joined
  one_follows h total piece rest f =
      let j = joined rest.pieces in
      let n : total + length (piece ++ j) ≡ total + length piece + length j = omega (arith, length-append piece (joined rest.pieces)) in
      record {
        text = rw (f.text, text_cut h piece (joined rest.pieces));
        looks = rw (f.looks, looks_cut h piece (joined rest.pieces));
        state = rw (n, after_append h piece (joined rest.pieces)) f.state;
        short = rw n f.short;
        reached = rw (n, after_append h piece (joined rest.pieces)) f.reached;
      }

  -- one call before the rest
  call_follows : (h : Held) (total : ℕ) → total ≤ running_text → is_reached h total ≡ true → (piece : List ℕ) (room : ℕ) (rest : TextState → Course)
      → (total + length piece ≤ running_text → is_reached (held_after h piece) (total + length piece) ≡ true → Follows (held_after h piece) (total + length piece) (rest (state_of (held_after h piece) (total + length piece))))
      → Follows h total (rest (state_of h total))
      → (judged : Check) → judged_piece (state_of h total) left right customer house table piece room ≡ judged
      → Follows h total
      (cond (is_fine judged)
      (answered_first left right customer house table (state_of h total) piece
      (rest (state_after judged (state_of h total) (state_of (held_after (held_now (state_of h total)) piece) (total_now (state_of h total) + length piece)))))
      (rest (state_after judged (state_of h total) (state_of (held_after (held_now (state_of h total)) piece) (total_now (state_of h total) + length piece)))))
  call_follows h total s r piece room rest later same (Ok tt) e =
      let t : total + length piece ≤ running_text = omega (arith, total_same h total s r, answered_short (state_of h total) piece room e) in
      let n : state_of (held_after (held_now (state_of h total)) piece) (total_now (state_of h total) + length piece) ≡ state_of (held_after h piece) (total + length piece) =
      ap (λ (x : Held). state_of (held_after x piece) (total_now (state_of h total) + length piece)) (held_same h total s r)
      ∙ ap (λ (k : ℕ). state_of (held_after h piece) (k + length piece)) (total_same h total s r) in
      subst (λ (x : Held). Follows h total
      (record {
        pieces = piece ∷ (rest (state_of (held_after (held_now (state_of h total)) piece) (total_now (state_of h total) + length piece))).pieces;
        text = piece_text left right customer house table x piece ++ (rest (state_of (held_after (held_now (state_of h total)) piece) (total_now (state_of h total) + length piece))).text;
        looks = piece_looks customer house table x piece + (rest (state_of (held_after (held_now (state_of h total)) piece) (total_now (state_of h total) + length piece))).looks;
        state = (rest (state_of (held_after (held_now (state_of h total)) piece) (total_now (state_of h total) + length piece))).state;
      })) (sym (held_same h total s r))
      (one_follows h total piece (rest (state_of (held_after (held_now (state_of h total)) piece) (total_now (state_of h total) + length piece)))
      (subst (λ (x : TextState). Follows (held_after h piece) (total + length piece) (rest x)) (sym n) (later t (after_reached h total piece r))))
  call_follows h total s r piece room rest later same (Err g) e = same

  session_follows : (calls : List Call) (h : Held) (total : ℕ) → total ≤ running_text → is_reached h total ≡ true
      → Follows h total (session left right customer house table (state_of h total) calls)
  unfolding session
  session_follows [] h total s r = none_follow h total s r
  session_follows (c ∷ calls) h total s r =
      call_follows h total s r c.piece c.room (λ (x : TextState). session left right customer house table x calls)
      (λ t u. session_follows calls (held_after h c.piece) (total + length c.piece) t u)
      (session_follows calls h total s r)
      (judged_piece (state_of h total) left right customer house table c.piece c.room)
      refl

  -- a whole text
  whole_text_lem : (text : List ℕ) → piece_text left right customer house table (Holding []) text ++ end_text left right customer house table (held_after (Holding []) text) ≡ whole_text left right customer house table text
  unfolding piece_text end_text whole_text
  whole_text_lem text = one_piece as_read (broken left right customer house table) text

  whole_looks_lem : (text : List ℕ) → piece_looks customer house table (Holding []) text + end_looks customer house table (held_after (Holding []) text) ≡ whole_looks customer house table text
  unfolding piece_looks end_looks whole_looks
  whole_looks_lem text =
      sym (sum_append (piece_out uncounted (counted customer house table) (Holding []) text) (flushed uncounted (counted customer house table) (held_after (Holding []) text)))
      ∙ ap sum (one_piece uncounted (counted customer house table) text)

  new_reached : is_reached (Holding []) 0 ≡ true
  unfolding is_reached can_be_held
  new_reached = refl

  -- "From a new text on, while they stay the same, and refused calls left out, the joined output and total count are those of one piece,
  -- however the text is cut": for every list of calls, with the end behind them. And after them "exactly the unfinished word is held".
  module _ (calls : List Call) where
    abbrev course : Course
    course = session left right customer house table new_text calls

    abbrev whole : List ℕ
    whole = joined course.pieces

    follows : Follows (Holding []) 0 course
    follows = session_follows calls (Holding []) 0 (omega arith) new_reached

    held_then : held_now course.state ≡ held_after (Holding []) whole
    held_then = ap held_now follows.state ∙ held_same (held_after (Holding []) whole) (0 + length whole) follows.short follows.reached

    pub one_output : course.text ++ end_text left right customer house table (held_now course.state) ≡ whole_text left right customer house table whole
    one_output = rw (held_then, follows.text) (whole_text_lem whole)

    pub one_count : course.looks + end_looks customer house table (held_now course.state) ≡ whole_looks customer house table whole
    one_count = rw (held_then, follows.looks) (whole_looks_lem whole)

    pub held_exactly : held_now course.state ≡ held_of 0 whole
    held_exactly = held_then ∙ held_is whole

    pub total_exactly : total_now course.state ≡ length whole
    total_exactly =
        ap total_now follows.state
        ∙ total_same (held_after (Holding []) whole) (0 + length whole) follows.short follows.reached
        ∙ zero-add (length whole)

  -- Every answered call leaves a state that a text leaves, whatever state it was given: a piece, and the end, which leaves a new text's.
  pub answered_left : (state : TextState) → length state.held ≡ held_limit → (piece : List ℕ) (room : ℕ) → judged_piece state left right customer house table piece room ≡ Ok tt
      → is_left (piece_next state left right customer house table piece room) ≡ true
  answered_left state wide piece room e =
      let l = read_left_state state wide in
      let r = left_reached (read_state state) l in
      rw e
      (made_left (held_after (held_now state) piece) (total_now state + length piece) (answered_short state piece room e) (after_reached (held_now state) (total_now state) piece r))

  pub ended_left : (state : TextState) (room : ℕ) → judged_end state left right customer house table room ≡ Ok tt → is_left (end_next state left right customer house table room) ≡ true
  ended_left state room e = rw e (made_left (Holding []) 0 (omega arith) new_reached)

  -- Each such state is left by a call: a new text, one piece, and three bytes of room for each of its bytes, with any margins, lists and
  -- table that aren't refused.
  judged_new : (n : ℕ) → n ≤ running_text → judge_setting left right customer house table ≡ Ok tt → judge_piece left right customer house table 0 0 n (room_per_byte * n) ≡ Ok tt
  unfolding judge_piece passes_end short_for
  judged_new n h e =
      let z : 0 + n ≡ n = zero-add n in
      rw (e, z, le-ltb running_text n h, le-ltb (room_per_byte * n) (room_per_byte * n) (omega arith))

  new_judged : (n room : ℕ) → judge_piece left right customer house table (total_now new_text) (read_state new_text).size n room ≡ judge_piece left right customer house table 0 0 n room
  unfolding state_of
  new_judged n room = ap (λ (t : TextState). judge_piece left right customer house table t.total t.size n room) (read_same (Holding []) 0 (omega arith) new_reached)

  pub left_by_call : (t : TextState) (l : Left t) → judge_setting left right customer house table ≡ Ok tt
      → piece_next new_text left right customer house table l.reached.text (room_per_byte * length l.reached.text) ≡ t
  left_by_call t l e =
      let j = new_judged (length l.reached.text) (room_per_byte * length l.reached.text) ∙ judged_new (length l.reached.text) (omega (arith, l.reached.long, l.short)) e in
      let h : held_now new_text ≡ Holding [] = held_same (Holding []) 0 (omega arith) new_reached in
      let z : total_now new_text + length l.reached.text ≡ t.total = omega (arith, total_same (Holding []) 0 (omega arith) new_reached, l.reached.long) in
      ap (λ (c : Check). state_after c new_text (state_of (held_after (held_now new_text) l.reached.text) (total_now new_text + length l.reached.text))) j
      ∙ ap (λ (n : ℕ). state_of (held_after (held_now new_text) l.reached.text) n) z
      ∙ ap (λ (x : Held). state_of (held_after x l.reached.text) t.total) h
      ∙ ap (λ (x : Held). state_of x t.total) l.reached.leaves
      ∙ sym l.is
