-- The two calls: what their judgements ensure, and how their parts come to their promises.
use Prim.Native.Nat.{ℕ, ◌+◌, ◌*◌, ◌≤◌}
use mathlib.Core.Bool.{true, false}
use mathlib.Core.List.{List}
use mathlib.Core.Path.{◌≡◌, sym, ◌∙◌, ap, subst}
use native.Mathlib.Omega.{arith}
use borrow.Author.Tests.{ltb-false}
use lib.ListN.{length, take}
use lib.Seq.{length-take-le}
use Rattle.base.specs.Limits.{room_per_byte, running_text}
use Rattle.base.specs.Grounds.{refuse_if, Check}
use Rattle.std.specs.Prelude.{Ok, Err}
use Rattle.base.specs.declared.Ground.{Ground}
use Rattle.base.specs.declared.Ground.TheVariants.{TextRoomShort, RunningLong}
use Rattle.base.proofs.Grounds.{both_fine, not_refused}
use Rattle.runs.specs.Held.{held_after}
use Rattle.runs.specs.Reached.{can_be_held}
use Rattle.states.specs.State.{state_of, new_text, held_in, Left, read_state, Reads}
use Rattle.states.specs.declared.TextState.{TextState}
use Rattle.flowing.specs.Output.{piece_text, piece_looks, end_text, end_looks}
use Rattle.running.specs.Calls.{passes_end, short_for, judge_setting, judge_piece, judge_end, total_now, Given, PiecesDone, EndsDone, TextAnswer}
use Rattle.running.specs.declared.Taken.{Taken}
use Rattle.running.proofs.Laws.{past_bound, size_within, ends_can, end_text_is, end_looks_is}

-- a room that isn't short
room_fits : (bytes size : ℕ) → short_for bytes size ≡ false → room_per_byte * bytes ≤ size
unfolding short_for
room_fits bytes size e = ltb-false size (room_per_byte * bytes) e

-- a refusal leaves state and room alone, whatever the call
pub refused : (text : List ℕ) (looks : ℕ) (state then : TextState) (room : List ℕ) {judged judgement : Check} {g : Ground} → judged ≡ judgement → judged ≡ Err g
    → Given judgement text looks state then room (record { state = state; answer = Err g }) room
refused text looks state then room p q = record { answered = rw (← p, q); state = rw (← p, q); memory = rw (← p, q) }

module _ (state s : TextState) (e : Reads state s) (left right : ℕ) (customer house table : List ℕ) where
  module _ (piece room : List ℕ) {judged : Check} (p : judged ≡ judge_piece left right customer house table s.total s.size (length piece) (length room)) where
    -- what was judged, over the state as it is read
    pub piece_judged : judged ≡ judge_piece left right customer house table (total_now state) (read_state state).size (length piece) (length room)
    piece_judged = p ∙ ap (λ (t : TextState). judge_piece left right customer house table t.total t.size (length piece) (length room)) e.is

    pub piece_asks : judged ≡ Ok tt → Left s × (s.total + length piece ≤ running_text) × (room_per_byte * (s.size + length piece) ≤ length room)
    unfolding judge_piece
    piece_asks q =
        let a = both_fine (judge_setting left right customer house table) _ (sym p ∙ q) in
        let b = both_fine (refuse_if (passes_end s.total (length piece)) RunningLong) _ a.1 in (
          e.left,
          past_bound s.total (length piece) (not_refused (passes_end s.total (length piece)) RunningLong b.0),
          room_fits (s.size + length piece) (length room) (not_refused (short_for (s.size + length piece) (length room)) TextRoomShort b.1),
        )

    abbrev Promise : TextState → Taken → List ℕ → Type 0
    Promise t r after = Given (judge_piece left right customer house table t.total t.size (length piece) (length room))
        (piece_text left right customer house table (held_in t) piece) (piece_looks customer house table (held_in t) piece)
        state (state_of (held_after (held_in t) piece) (t.total + length piece)) room r after

    pub piece_found : judged ≡ Ok tt → {r : Taken} {after : List ℕ} → PiecesDone s left right customer house table piece room r after → Promise (read_state state) r after
    piece_found q {r = r} {after = after} d =
        let j = sym p ∙ q in
        subst (λ (t : TextState). Promise t r after) e.is (rw j (record { answered = d.answered; state = d.state; memory = d.memory }))

  module _ (room : List ℕ) {judged : Check} (p : judged ≡ judge_end left right customer house table s.size (length room)) where
    pub end_judged : judged ≡ judge_end left right customer house table (read_state state).size (length room)
    end_judged = p ∙ ap (λ (t : TextState). judge_end left right customer house table t.size (length room)) e.is

    module _ (q : judged ≡ Ok tt) where
      pub end_within : s.size ≤ length s.held
      end_within = omega (arith, size_within s e.wide e.left, e.wide)

      pub end_asks : (can_be_held (take s.size s.held) ≡ true) × (room_per_byte * length (take s.size s.held) ≤ length room)
      unfolding judge_end
      end_asks =
          let a = both_fine (judge_setting left right customer house table) _ (sym p ∙ q) in
          let n = length-take-le s.size s.held end_within in
          (ends_can s e.wide e.left, omega (arith, n, room_fits s.size (length room) (not_refused (short_for s.size (length room)) TextRoomShort a.1)))

      abbrev EndPromise : TextState → Taken → List ℕ → Type 0
      EndPromise t r after = Given (judge_end left right customer house table t.size (length room))
          (end_text left right customer house table (held_in t)) (end_looks customer house table (held_in t)) state new_text room r after

      pub end_found : {r : TextAnswer} {n : TextState} {after : List ℕ} → n ≡ new_text → EndsDone (take s.size s.held) left right customer house table room r after
          → EndPromise (read_state state) (record { state = n; answer = r }) after
      end_found {r = r} {n = n} {after = after} m d =
          let j = sym p ∙ q in
          let t = end_text_is s e.wide e.left left right customer house table in
          let k = end_looks_is s e.wide e.left customer house table in
          subst (λ (t : TextState). EndPromise t (record { state = n; answer = r }) after) e.is (rw (j, t, k) (record { answered = d.answered; state = m; memory = d.memory }))
