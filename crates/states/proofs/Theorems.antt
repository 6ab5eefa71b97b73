-- Which states the calls could have left: the test is exact, in both directions.
use Prim.Native.Nat.{ℕ, zero, suc, ◌-◌, ◌≤◌}
use mathlib.Core.Bool.{Bool, true, false, cond, ◌&&◌}
use mathlib.Core.List.{List, [], ◌∷◌, ◌++◌}
use mathlib.Core.Logic.{◌↔◌}
use mathlib.Core.Path.{◌≡◌, refl, sym, ◌∙◌, ap, ap₂}
use native.Mathlib.Omega.{arith}
use borrow.Author.Tests.{leb-true, le-leb, eqb-true}
use lib.Dec.{leb, eqb}
use lib.ListN.{length, take, drop, replicate, length-append, length-drop, take-append-drop}
use lib.Seq.{length-take-le, take-append_seam, drop-append_seam}
use Rattle.base.specs.Limits.{held_limit, running_text}
use Rattle.base.proofs.Lists.{never, both}
use Rattle.runs.specs.Text.{Held, Holding, Gone, GoneMarked}
use Rattle.runs.specs.Held.{bytes_of, held_after}
use Rattle.runs.specs.Reached.{is_reached}
use Rattle.runs.proofs.Reached.{reached_exactly}
use Rattle.states.specs.State.{run_of, padded, state_of, new_text, held_in, Left, all_zero, is_gone, are_left, is_left, read_state, Reads}
use Rattle.states.specs.declared.TextState.{TextState}

-- zeros
zeros_are : (l : List ℕ) → all_zero l ≡ true → l ≡ replicate (length l) 0
unfolding all_zero
zeros_are [] e = refl
zeros_are (b ∷ t) e =
    let f = both (eqb b 0) (all_zero t) e in
    ap₂ (λ (x : ℕ) (r : List ℕ). x ∷ r) (eqb-true b 0 f.0) (zeros_are t f.1)

zeros_zero : (n : ℕ) → all_zero (replicate n 0) ≡ true
unfolding all_zero
zeros_zero zero = refl
zeros_zero (suc n) = zeros_zero n

-- a held part with zeros behind it
padded_is : (held : List ℕ) (size : ℕ) → length held ≡ held_limit → size ≤ length held → all_zero (drop size held) ≡ true → held ≡ padded (take size held)
unfolding padded
padded_is held size l h z =
    let n : length (drop size held) ≡ held_limit - length (take size held) = omega (arith, l, h, length-drop size held, length-take-le size held h) in
    sym (take-append-drop size held) ∙ ap (λ (r : List ℕ). take size held ++ r) (zeros_are (drop size held) z ∙ ap (λ (k : ℕ). replicate k 0) n)

-- from the test to a text
module _ (t : TextState) (l : length t.held ≡ held_limit) where
  same : {h : List ℕ} {s r : ℕ} → t.held ≡ h → t.size ≡ s → t.run ≡ r → t ≡ record { held = h; size = s; run = r; total = t.total }
  same p q r = rw (← p, ← q, ← r)

  holding_left : t.total ≤ running_text → t.size ≤ length t.held → all_zero (drop t.size t.held) ≡ true → t.run ≡ 0
      → is_reached (Holding (take t.size t.held)) t.total ≡ true → Left t
  unfolding state_of
  holding_left a b z r e =
      let s : t.size ≡ length (take t.size t.held) = sym (length-take-le t.size t.held b) in
      let p : t.held ≡ padded (take t.size t.held) = padded_is t.held t.size l b z in
      record {
        held = Holding (take t.size t.held);
        reached = (reached_exactly (Holding (take t.size t.held)) t.total).0 e;
        short = a;
        is = same p s r;
      }

  gone_left : (s : Held) → bytes_of s ≡ [] → t.run ≡ run_of s → t.total ≤ running_text → t.size ≡ 0 → all_zero (drop t.size t.held) ≡ true → is_reached s t.total ≡ true → Left t
  unfolding state_of padded
  gone_left s n r a q z e =
      let w : all_zero (drop 0 t.held) ≡ true = ap (λ (k : ℕ). all_zero (drop k t.held)) (sym q) ∙ z in
      let p : t.held ≡ replicate held_limit 0 = zeros_are t.held w ∙ ap (λ (k : ℕ). replicate k 0) l in
      record { held = s; reached = (reached_exactly s t.total).0 e; short = a; is = same p q r ∙ rw n }

  test_left : is_left t ≡ true → Left t
  unfolding is_left are_left is_gone
  test_left e =
      let f = both (leb t.total running_text) _ e in
      let g = both (leb t.size (length t.held)) _ f.1 in
      let h = both (all_zero (drop t.size t.held)) _ g.1 in
      go (leb-true t.total running_text f.0) (leb-true t.size (length t.held) g.0) h.0 (eqb t.run 0) refl h.1
    where
      run_gone : t.total ≤ running_text → t.size ≡ 0 → all_zero (drop t.size t.held) ≡ true → (x : Bool) → eqb t.run 1 ≡ x → (y : Bool) → eqb t.run 2 ≡ y
          → cond x (is_reached Gone t.total) (cond y (is_reached GoneMarked t.total) false) ≡ true → Left t
      run_gone a q z true p y r e = gone_left Gone refl (eqb-true t.run 1 p) a q z e
      run_gone a q z false p true r e = gone_left GoneMarked refl (eqb-true t.run 2 r) a q z e
      run_gone a q z false p false r e = never e

      go : t.total ≤ running_text → t.size ≤ length t.held → all_zero (drop t.size t.held) ≡ true → (x : Bool) → eqb t.run 0 ≡ x
          → cond x (is_reached (Holding (take t.size t.held)) t.total) (eqb t.size 0 && cond (eqb t.run 1) (is_reached Gone t.total) (cond (eqb t.run 2) (is_reached GoneMarked t.total) false)) ≡ true
          → Left t
      go a b z true p e = holding_left a b z (eqb-true t.run 0 p) e
      go a b z false p e =
          let f = both (eqb t.size 0) _ e in
          run_gone a (eqb-true t.size 0 f.0) z (eqb t.run 1) refl (eqb t.run 2) refl f.1

-- what a state holds is what it was made of
front : (kept : List ℕ) → take (length kept) (padded kept) ≡ kept
unfolding padded
front kept = take-append_seam kept (replicate (held_limit - length kept) 0)

pub held_in_lem : (s : Held) (total : ℕ) → held_in (state_of s total) ≡ s
unfolding state_of
held_in_lem (Holding kept) total = ap Holding (front kept)
held_in_lem Gone total = refl
held_in_lem GoneMarked total = refl

behind_zero : (kept : List ℕ) → all_zero (drop (length kept) (padded kept)) ≡ true
unfolding padded
behind_zero kept = rw (drop-append_seam kept (replicate (held_limit - length kept) 0)) (zeros_zero (held_limit - length kept))

padded_long : (kept : List ℕ) → length kept ≤ length (padded kept)
unfolding padded
padded_long kept = omega (arith, length-append kept (replicate (held_limit - length kept) 0))

-- from a text to the test
pub made_left : (s : Held) (total : ℕ) → total ≤ running_text → is_reached s total ≡ true → is_left (state_of s total) ≡ true
unfolding is_left are_left is_gone state_of
made_left (Holding kept) total h e =
    rw (le-leb total running_text h, le-leb (length kept) (length (padded kept)) (padded_long kept), behind_zero kept, front kept) e
made_left Gone total h e = rw (le-leb total running_text h, le-leb 0 (length (padded [])) (padded_long []), behind_zero []) e
made_left GoneMarked total h e = rw (le-leb total running_text h, le-leb 0 (length (padded [])) (padded_long []), behind_zero []) e

-- "A state these calls couldn't leave": the test holds exactly of the states that a text leaves.
pub left_exactly : (t : TextState) → length t.held ≡ held_limit → (is_left t ≡ true) ↔ Left t
left_exactly t l = (
  λ e. test_left t l e,
  λ m. ap is_left m.is ∙ made_left m.held t.total m.short ((reached_exactly m.held t.total).1 m.reached),
)

-- a state as it is read is one that a text leaves
new_left : Left new_text
unfolding state_of held_after
new_left = record { held = Holding []; reached = record { text = []; bytes = λ i h. absurd (omega (arith, h)); long = refl; leaves = refl }; short = omega arith; is = refl }

pub read_left_state : (t : TextState) → length t.held ≡ held_limit → Left (read_state t)
unfolding read_state
read_left_state t l = go (is_left t) refl
  where
    go : (z : Bool) → is_left t ≡ z → Left (cond z t new_text)
    go true e = (left_exactly t l).0 e
    go false e = new_left

pub new_wide : length new_text.held ≡ held_limit
unfolding state_of padded
new_wide = refl

pub read_left : (t : TextState) → length t.held ≡ held_limit → {z : Bool} → z ≡ is_left t → z ≡ true → Reads t t
unfolding read_state
read_left t l e f = record { is = rw (← e, f); left = (left_exactly t l).0 (sym e ∙ f); wide = l }

pub read_new : (t : TextState) → length t.held ≡ held_limit → {z : Bool} → z ≡ is_left t → z ≡ false → {n : TextState} → n ≡ new_text → Reads t n
unfolding read_state
read_new t l e f m = record { is = m ∙ rw (← e, f); left = rw m new_left; wide = rw m new_wide }
