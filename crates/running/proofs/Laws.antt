-- One law for each way through the code.
use Prim.Native.Nat.{ℕ, zero, suc, ◌+◌, ◌*◌, ◌-◌, ◌≤◌}
use mathlib.Core.Bool.{Bool, true, false}
use mathlib.Core.List.{List, [], ◌++◌, append-nil}
use mathlib.Core.Path.{◌≡◌, refl, sym, ◌∙◌, ap}
use native.Mathlib.Nat.{zero-add}
use native.Mathlib.Omega.{arith}
use borrow.Author.Tests.{ltb-false}
use lib.ListN.{length, take, drop, replicate, length-append, length-replicate, drop_of_length-le}
use lib.Seq.{sets-eq}
use Rattle.base.specs.Limits.{held_limit, room_per_byte, running_text}
use Rattle.base.specs.Grounds.{Check}
use Rattle.std.specs.Prelude.{Ok, Err}
use Rattle.base.specs.declared.Ground.{Ground}
use Rattle.base.specs.declared.Ground.TheVariants.{TextRoomShort, RunningLong}
use Rattle.rooms.specs.Rooms.{is_short, filled}
use Rattle.writing.specs.Written.{Writes}
use Rattle.writing.specs.declared.Writer.{Writer}
use Rattle.runs.specs.Text.{Held, Holding, Gone, GoneMarked}
use Rattle.runs.specs.Held.{finished, flushed, bytes_of}
use Rattle.runs.specs.Reached.{can_be_held, is_reached}
use Rattle.runs.proofs.Reached.{reached_exactly}
use Rattle.states.specs.State.{run_of, padded, state_of, held_by, held_in, Left}
use Rattle.states.specs.declared.TextState.{TextState}
use Rattle.states.proofs.Theorems.{held_in_lem}
use Rattle.flowing.specs.Output.{as_read, broken, uncounted, counted, sum, finished_text, finished_looks, piece_looks, end_text, end_looks}
use Rattle.flowing.specs.Post.{flow_held, Shows, Shaped, Ready, Flows}
use Rattle.flowing.specs.declared.Flow.{Flow}
use Rattle.flowing.proofs.Steps.{bytes_by, bytes_are, size_is, held_can}
use Rattle.running.specs.Calls.{passes_end, short_for, judge_setting, judge_piece, judge_end, PiecesDone, EndsDone, written}

-- ground 21
pub past_bound : (total n : ℕ) → passes_end total n ≡ false → total + n ≤ running_text
unfolding passes_end
past_bound total n e = ltb-false running_text (total + n) e

-- a piece's grounds, one behind the other
module _ (left right : ℕ) (customer house table : List ℕ) (total held n size : ℕ) {c : Check} (p : c ≡ judge_setting left right customer house table) where
  pub piece_setting : {g : Ground} → c ≡ Err g → Err g ≡ judge_piece left right customer house table total held n size
  unfolding judge_piece
  piece_setting q = rw (← p, q)

  module _ (q : c ≡ Ok tt) {z : Bool} (e : z ≡ passes_end total n) where
    pub piece_past : z ≡ true → Err RunningLong ≡ judge_piece left right customer house table total held n size
    unfolding judge_piece
    piece_past f = rw (← p, q, ← e, f)

    module _ (f : z ≡ false) {y : Bool} (d : y ≡ is_short (room_per_byte * (held + n)) size) where
      pub piece_room_lem : y ≡ true → Err TextRoomShort ≡ judge_piece left right customer house table total held n size
      unfolding judge_piece short_for
      piece_room_lem g = rw (← p, q, ← e, f, ← d, g)

      pub piece_fine : y ≡ false → (Ok tt) ≡ judge_piece left right customer house table total held n size
      unfolding judge_piece short_for
      piece_fine g = rw (← p, q, ← e, f, ← d, g)

module _ (left right : ℕ) (customer house table : List ℕ) (held size : ℕ) {c : Check} (p : c ≡ judge_setting left right customer house table) where
  pub end_setting : {g : Ground} → c ≡ Err g → Err g ≡ judge_end left right customer house table held size
  unfolding judge_end
  end_setting q = rw (← p, q)

  module _ (q : c ≡ Ok tt) {y : Bool} (d : y ≡ is_short (room_per_byte * held) size) where
    pub end_room_lem : y ≡ true → Err TextRoomShort ≡ judge_end left right customer house table held size
    unfolding judge_end short_for
    end_room_lem g = rw (← p, q, ← d, g)

    pub end_fine : y ≡ false → (Ok tt) ≡ judge_end left right customer house table held size
    unfolding judge_end short_for
    end_fine g = rw (← p, q, ← d, g)

-- a text written at the room's beginning
front : {text room : List ℕ} {out then : Writer} → out.at ≡ 0 → out.room.now ≡ room → Writes text out then → (then.at ≡ length text) × (then.room.now ≡ text ++ drop (length text) room)
front {text = text} {out = out} z r p =
    let e : 0 + length text ≡ length text = zero-add (length text) in
    (p.put.ends ∙ rw (z, e), p.put.memory ∙ sets-eq text out.room.now out.at p.put.fits ∙ rw (z, e, r))

-- what a state that a text left holds
pub left_held : (s : TextState) (l : Left s) → held_in s ≡ l.held
left_held s l = ap held_in l.is ∙ held_in_lem l.held s.total

pub left_reached : (s : TextState) (l : Left s) → is_reached (held_in s) s.total ≡ true
left_reached s l = rw (left_held s l) ((reached_exactly l.held s.total).1 l.reached)

-- a state that a text left
module _ (s : TextState) (wide : length s.held ≡ held_limit) (l : Left s) where
  held_size : s.size ≡ length (bytes_of l.held)
  unfolding state_of
  held_size = ap (λ (t : TextState). t.size) l.is

  run_is : s.run ≡ run_of l.held
  unfolding state_of
  run_is = ap (λ (t : TextState). t.run) l.is

  pub size_within : s.size ≤ held_limit
  unfolding state_of padded
  size_within =
      let n : length (bytes_of l.held ++ replicate (held_limit - length (bytes_of l.held)) 0) ≡ held_limit = sym (ap (λ (t : TextState). length t.held) l.is) ∙ wide in
      omega (
        arith,
        n,
        held_size,
        length-append (bytes_of l.held) (replicate (held_limit - length (bytes_of l.held)) 0),
        length-replicate {A = ℕ} (held_limit - length (bytes_of l.held)) 0,
      )

  run_known : (h : Held) → run_of h ≤ 2
  run_known (Holding kept) = omega arith
  run_known Gone = omega arith
  run_known GoneMarked = omega arith

  run_quiet : (h : Held) → (run_of h ≡ 0 → ⊥) → length (bytes_of h) ≡ 0
  run_quiet (Holding kept) n = absurd (n refl)
  run_quiet Gone n = refl
  run_quiet GoneMarked n = refl

  quiet : (s.run ≡ 0 → ⊥) → s.size ≡ 0
  quiet n = held_size ∙ run_quiet l.held (λ z. n (run_is ∙ z))

  -- a piece can begin
  pub starts_ready : (piece room : List ℕ) {out : Writer} → out.at ≡ 0 → out.room.now ≡ room → s.total + length piece ≤ running_text → room_per_byte * (s.size + length piece) ≤ length room
      → Ready (length piece) (record { held = s.held; size = s.size; run = s.run; looks = 0 }) out
  starts_ready piece room z e t r =
      record {
        shaped = record { wide = wide; within = size_within; known = rw run_is (run_known l.held); quiet = quiet };
        total = s.total;
        reached = left_reached s l;
        fits = rw (z, e) (omega (arith, r));
        few = omega (arith, t);
      }

  -- what the end asks for, and gives
  bytes_held : bytes_of (held_in s) ≡ take s.size s.held
  bytes_held = bytes_by s.run (take s.size s.held) (λ n. ap (λ (k : ℕ). take k s.held) (quiet n))

  pub ends_can : can_be_held (take s.size s.held) ≡ true
  ends_can = ap can_be_held (sym bytes_held) ∙ held_can (held_in s) s.total (left_reached s l)

  flushed_is : {A : Type 0} (byte : ℕ → List A) (word : List ℕ → List A) → (h : Held) → flushed byte word h ≡ finished byte word (bytes_of h)
  unfolding flushed finished
  flushed_is byte word (Holding kept) = refl
  flushed_is byte word Gone = refl
  flushed_is byte word GoneMarked = refl

  pub end_text_is : (left right : ℕ) (customer house table : List ℕ) → end_text left right customer house table (held_in s) ≡ finished_text left right customer house table (take s.size s.held)
  unfolding end_text finished_text
  end_text_is left right customer house table =
      flushed_is as_read (broken left right customer house table) (held_in s) ∙ ap (finished as_read (broken left right customer house table)) bytes_held

  pub end_looks_is : (customer house table : List ℕ) → end_looks customer house table (held_in s) ≡ finished_looks customer house table (take s.size s.held)
  unfolding end_looks finished_looks
  end_looks_is customer house table =
      ap sum (flushed_is uncounted (counted customer house table) (held_in s) ∙ ap (finished uncounted (counted customer house table)) bytes_held)

-- the state that a piece leaves
run_of_lem : (f : Flow) → Shaped f → run_of (flow_held f) ≡ f.run
run_of_lem f shaped = go f.run shaped.known
  where
    go : (run : ℕ) → run ≤ 2 → run_of (held_by run (take f.size f.held)) ≡ run
    go zero h = refl
    go (suc zero) h = refl
    go (suc (suc zero)) h = refl
    go (suc (suc (suc n))) h = absurd (omega (arith, h))

cleared : (f : Flow) → Shaped f → filled held_limit (take f.size f.held) f.held ≡ padded (bytes_of (flow_held f))
unfolding filled padded
cleared f shaped =
    let h : length f.held ≤ held_limit = omega (arith, shaped.wide) in
    let d : drop held_limit f.held ≡ [] = drop_of_length-le f.held h in
    rw (bytes_are f shaped)
    (ap (λ (r : List ℕ). take f.size f.held ++ (replicate (held_limit - length (take f.size f.held)) 0 ++ r)) d
    ∙ ap (λ (r : List ℕ). take f.size f.held ++ r) (append-nil (replicate (held_limit - length (take f.size f.held)) 0)))

left_state : (f : Flow) (total : ℕ) → Shaped f
    → ◌≡◌ {A = TextState} (record { held = filled held_limit (take f.size f.held) f.held; size = f.size; run = f.run; total = total }) (state_of (flow_held f) total)
unfolding state_of
left_state f total shaped = rw (cleared f shaped, size_is f shaped, run_of_lem f shaped)

pub piece_done : (s : TextState) (left right : ℕ) (customer house table piece room : List ℕ) {out : Writer} → out.at ≡ 0 → out.room.now ≡ room → {f : Flow} {then : Writer} {cleaned after : List ℕ}
    → Flows left right customer house table piece (record { held = s.held; size = s.size; run = s.run; looks = 0 }) out f then
    → cleaned ≡ filled held_limit (take f.size f.held) f.held → after ≡ then.room.now
    → PiecesDone s left right customer house table piece room
    (record { state = record { held = cleaned; size = f.size; run = f.run; total = s.total + length piece }; answer = written then.at f.looks }) after
piece_done s left right customer house table piece room z e {f = f} w c a =
    let p = front z e w.put in
    let k : f.looks ≡ piece_looks customer house table (held_in s) piece = w.looked ∙ zero-add (piece_looks customer house table (held_in s) piece) in
    record {
      answered = rw (p.0, k);
      state = rw c (left_state f (s.total + length piece) w.shaped ∙ ap (λ (h : Held). state_of h (s.total + length piece)) w.holds);
      memory = a ∙ p.1;
    }

pub end_done : (held : List ℕ) (left right : ℕ) (customer house table room : List ℕ) {out then : Writer} → out.at ≡ 0 → out.room.now ≡ room → {shown : ℕ} {after : List ℕ}
    → Shows (finished_text left right customer house table held) (finished_looks customer house table held) out shown then
    → after ≡ then.room.now → EndsDone held left right customer house table room (written then.at shown) after
end_done held left right customer house table room z e s a =
    let p = front z e s.put in
    record { answered = rw (p.0, s.looked); memory = a ∙ p.1 }
