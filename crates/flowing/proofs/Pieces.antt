-- A piece, byte by byte.
use Prim.Native.Nat.{ℕ, ◌+◌, ◌*◌, ◌-◌, ◌≤◌, ◌<◌}
use mathlib.Core.Bool.{Bool, true, false, cond}
use mathlib.Core.List.{List, [], ◌∷◌, ◌++◌}
use mathlib.Core.Path.{◌≡◌, refl, sym, ◌∙◌, ap}
use native.Mathlib.Nat.{add-zero, sub-zero}
use native.Mathlib.Omega.{arith}
use lib.Dec.{ltb}
use lib.ListN.{length, get_or, drop, drop_of_length-le}
use lib.Seq.{length-sets}
use Rattle.base.specs.Limits.{word_limit, room_per_byte}
use Rattle.base.proofs.Lists.{cons_at}
use Rattle.writing.specs.declared.Writer.{Writer}
use Rattle.writing.proofs.Parts.{Going, go_start, go_step, go_end}
use Rattle.words.specs.Symbols.{letter}
use Rattle.runs.specs.Text.{spread, Held, Holding, Gone, GoneMarked}
use Rattle.runs.specs.Held.{joins, next, held_after, finished, given, piece_out, bytes_of}
use Rattle.runs.specs.Reached.{can_be_held, is_reached}
use Rattle.runs.proofs.Short.{given_short, piece_short}
use Rattle.runs.proofs.Reached.{next_reached}
use Rattle.flowing.specs.Output.{as_read, broken, uncounted, counted, sum, finished_looks, given_text, given_looks, piece_text, piece_looks}
use Rattle.flowing.specs.Post.{look_limit, flow_held, Ready, Steps, Flows}
use Rattle.flowing.specs.declared.Flow.{Flow}
use Rattle.flowing.proofs.Laws.{broken_short, held_few}
use Rattle.flowing.proofs.Steps.{no_looks, sum_append, size_is, held_can}

-- "three bytes for each byte held or in the piece": a piece's output is never longer
pub text_short : (left right : ℕ) (customer house table : List ℕ) (s : Held) (piece : List ℕ)
    → length (piece_text left right customer house table s piece) + room_per_byte * length (bytes_of (held_after s piece)) ≤ room_per_byte * (length (bytes_of s) + length piece)
unfolding piece_text
text_short left right customer house table s piece =
    piece_short as_read (broken left right customer house table) (λ x. omega arith) (broken_short left right customer house table) s piece

module _ (left right : ℕ) (customer house table : List ℕ) where
  abbrev Text : Held → List ℕ → List ℕ
  Text = piece_text left right customer house table

  abbrev Looks : Held → List ℕ → ℕ
  Looks = piece_looks customer house table

  -- what a byte gives: at most a word's looks, and room for what is held then
  pub given_few : (s : Held) (b : ℕ) → can_be_held (bytes_of s) ≡ true → given_looks customer house table s b ≤ look_limit
  unfolding given_looks given finished_looks sum
  given_few (Holding kept) b can = go (letter b) (ltb (length kept) word_limit) (joins kept b)
    where
      go : (z y j : Bool) → sum (cond z (cond y [] (spread uncounted (counted customer house table) (kept ++ (b ∷ [])))) (cond j [] (finished uncounted (counted customer house table) kept ++ []))) ≤ look_limit
      go true true j = omega arith
      go true false j = omega (arith, no_looks customer house table (kept ++ (b ∷ [])))
      go false y true = omega arith
      go false y false = omega (arith, sum_append (finished uncounted (counted customer house table) kept) [], held_few left right customer house table kept can)
  given_few Gone b can = omega arith
  given_few GoneMarked b can = omega arith

  text_room : (s : Held) (b : ℕ) → length (given_text left right customer house table s b) + room_per_byte * length (bytes_of (next s b)) ≤ room_per_byte * (length (bytes_of s) + 1)
  unfolding given_text
  text_room s b = given_short as_read (broken left right customer house table) (λ x. omega arith) (broken_short left right customer house table) s b

  -- one byte and the rest
  text_turn : (s : Held) (b : ℕ) (t : List ℕ) → Text s (b ∷ t) ≡ given_text left right customer house table s b ++ Text (next s b) t
  unfolding piece_text given_text piece_out
  text_turn s b t = refl

  looks_turn : (s : Held) (b : ℕ) (t : List ℕ) → Looks s (b ∷ t) ≡ given_looks customer house table s b + Looks (next s b) t
  unfolding piece_looks given_looks piece_out
  looks_turn s b t = sum_append (given uncounted (counted customer house table) s b) (piece_out uncounted (counted customer house table) (next s b) t)

  looks_none : (s : Held) → Looks s [] ≡ 0
  unfolding piece_looks piece_out sum
  looks_none s = refl

  -- a piece's count
  pub piece_few : (s : Held) (total : ℕ) (piece : List ℕ) → is_reached s total ≡ true → Looks s piece ≤ look_limit * length piece
  piece_few s total [] r = none
    where
      none : Looks s [] ≤ look_limit * 0
      none = omega (arith, looks_none s)
  piece_few s total (b ∷ t) r =
      omega (arith, looks_turn s b t, given_few s b (held_can s total r), piece_few (next s b) (total + 1) t (next_reached s total b r))

  after_turn : (s : Held) (b : ℕ) (t : List ℕ) → held_after s (b ∷ t) ≡ held_after (next s b) t
  unfolding held_after
  after_turn s b t = refl

  module _ (piece : List ℕ) (f₀ : Flow) (out₀ : Writer) where
    -- what holds before byte i
    pub record Taking (i : ℕ) (f : Flow) (out : Writer) : Type 0 where
      pub within : i ≤ length piece
      pub ready : Ready (length piece - i) f out
      pub going : Going (Text (flow_held f₀) piece) out₀ (Text (flow_held f) (drop i piece)) out
      pub looks : f₀.looks + Looks (flow_held f₀) piece ≡ f.looks + Looks (flow_held f) (drop i piece)
      pub after : held_after (flow_held f₀) piece ≡ held_after (flow_held f) (drop i piece)

    pub start : Ready (length piece) f₀ out₀ → Taking 0 f₀ out₀
    start r =
        record {
          within = omega arith;
          ready = rw (sub-zero (length piece)) r;
          going =
              go_start (Text (flow_held f₀) piece) out₀
              (omega (arith, r.fits, text_short left right customer house table (flow_held f₀) piece, size_is f₀ r.shaped));
          looks = refl;
          after = refl;
        }

    module _ (i : ℕ) (h : i < length piece) (f : Flow) (out : Writer) (t : Taking i f out) where
      -- one byte is ready
      pub ready_one : Ready 1 f out
      ready_one =
          record {
            shaped = t.ready.shaped;
            total = t.ready.total;
            reached = t.ready.reached;
            fits = omega (arith, h, t.ready.fits);
            few = omega (arith, h, t.ready.few);
          }

      pub turn : {r : Flow} {then : Writer} → Steps left right customer house table (get_or piece i 0) f out r then → Taking (i + 1) r then
      turn {r = r} st =
          let s = flow_held f in
          let b = get_or piece i 0 in
          let u = drop (i + 1) piece in
          let c = cons_at piece i h in
          let a₁ = ap length st.put.put.memory ∙ length-sets out.room.now out.at (given_text left right customer house table s b) in
          let z : length (bytes_of (next s b)) ≡ r.size = ap (λ (x : Held). length (bytes_of x)) (sym st.holds) ∙ size_is r st.shaped in
          record {
            within = omega (arith, h);
            ready =
                record {
                  shaped = st.shaped;
                  total = t.ready.total + 1;
                  reached = rw st.holds (next_reached s t.ready.total b t.ready.reached);
                  fits = omega (arith, h, t.ready.fits, a₁, st.put.put.ends, text_room s b, z, size_is f t.ready.shaped);
                  few = omega (arith, h, t.ready.few, st.looked, given_few s b (held_can s t.ready.total t.ready.reached));
                };
            going = rw st.holds (go_step (given_text left right customer house table s b) (Text (next s b) u) (ap (Text s) c ∙ text_turn s b u) t.going st.put);
            looks = t.looks ∙ rw (c, looks_turn s b u, st.looked, st.holds) (omega arith);
            after = t.after ∙ rw (c, after_turn s b u, st.holds);
          }

    pub done : (i : ℕ) → length piece ≤ i → (f : Flow) (out : Writer) → Taking i f out → Flows left right customer house table piece f₀ out₀ f out
    unfolding piece_text piece_looks piece_out held_after sum
    done i h f out t =
        let e : drop i piece ≡ [] = drop_of_length-le piece h in
        record {
          put = go_end (rw e) t.going;
          looked = sym (t.looks ∙ rw (e, add-zero f.looks));
          holds = sym (t.after ∙ rw e);
          shaped = t.ready.shaped;
        }
