-- How far a run of either machine can go, by two lists over its table: at most so many instructions are executed from a row on, up to the
-- next re-entry or the end (its height, 0 for no row); at least so many letters were matched on the way to it (its credit).
use Prim.Native.Nat.{ℕ, ◌+◌, ◌<◌, ◌≤◌}
use mathlib.Core.Bool.{Bool, true, false, cond, ◌&&◌}
use mathlib.Core.List.{List}
use mathlib.Core.Path.{◌≡◌, refl}
use native.Mathlib.Omega.{arith}
use borrow.Author.Tests.{ltb-true, ltb-false, lt-ltb, le-leb}
use lib.Dec.{T, leb, ltb, eqb, leb→le, ltb→lt, eqb→eq}
use lib.ListN.{length, get_or, get_or-eq_default}
use Rattle.base.proofs.Lists.{never}
use Rattle.tables1980.proofs.Table.{and_T, every, at}

-- Row x may follow row k, with `more` letters matched on the way.
pub record Goes (heights credits : List ℕ) (k x more : ℕ) : Type 0 where
  pub row : 0 < get_or heights x 0
  pub lower : get_or heights x 0 < get_or heights k 0
  pub claims : get_or credits x 0 ≤ get_or credits k 0 + more

unfoldable pub goes : List ℕ → List ℕ → ℕ → ℕ → ℕ → Bool
goes heights credits k x more =
    ltb 0 (get_or heights x 0) && (ltb (get_or heights x 0) (get_or heights k 0) && leb (get_or credits x 0) (get_or credits k 0 + more))

-- a rule that passed its test
cond_true : (test a : Bool) → T (cond test a true) → test ≡ true → T a
cond_true true a t e = t
cond_true false a t e = never e

module _ (heights credits : List ℕ) where
  pub goes_right : (k x more : ℕ) → T (goes heights credits k x more) → Goes heights credits k x more
  unfolding goes
  goes_right k x more t =
      let h = get_or heights x 0 in
      let a = and_T (ltb 0 h) (ltb h (get_or heights k 0) && leb (get_or credits x 0) (get_or credits k 0 + more)) t in
      let b = and_T (ltb h (get_or heights k 0)) (leb (get_or credits x 0) (get_or credits k 0 + more)) a.1 in
      record { row = ltb→lt 0 h a.0; lower = ltb→lt h (get_or heights k 0) b.0; claims = leb→le (get_or credits x 0) (get_or credits k 0 + more) b.1 }

  pub goes_both : (k x f m l : ℕ) → T (goes heights credits k x m && goes heights credits k f l) → Goes heights credits k x m × Goes heights credits k f l
  goes_both k x f m l t =
      let a = and_T (goes heights credits k x m) (goes heights credits k f l) t in
      (goes_right k x m a.0, goes_right k f l a.1)

  -- the rows of letters, which a run begins with: no letter was matched yet
  abbrev pub letter_row : ℕ → Bool
  letter_row k = cond (leb k 26) (ltb 0 (get_or heights k 0) && eqb (get_or credits k 0) 0) true

  -- a row that has a height: it isn't higher than the highest, and its word passes
  abbrev pub sound_row : (ℕ → ℕ → Bool) → ℕ → ℕ → ℕ → Bool
  sound_row test most k w = cond (ltb 0 (get_or heights k 0)) (leb (get_or heights k 0) most && test k w) true

  unfoldable pub run_row : (ℕ → ℕ → Bool) → ℕ → ℕ → ℕ → Bool
  run_row test most k w = letter_row k && sound_row test most k w

-- a row that has a height is one of the list's
inside : (heights : List ℕ) (k : ℕ) → 0 < get_or heights k 0 → k < length heights
inside heights k h = go (ltb k (length heights)) refl
  where
    go : (z : Bool) → ltb k (length heights) ≡ z → k < length heights
    go true e = ltb-true k (length heights) e
    go false e = absurd (omega (arith, get_or-eq_default heights 0 (ltb-false k (length heights) e)))

-- One test over a whole table, and the rules at its rows.
module _ (heights credits words : List ℕ) (test : ℕ → ℕ → Bool) (most : ℕ) (same : length heights ≡ length words)
    (tested : T (every (run_row heights credits test most) 0 words)) (k : ℕ) where
  passed : k < length words → T (letter_row heights credits k) × T (sound_row heights credits test most k (get_or words k 0))
  unfolding run_row
  passed l =
      and_T (letter_row heights credits k) (sound_row heights credits test most k (get_or words k 0))
      (at (run_row heights credits test most) words tested k l)

  pub letter_right : k < length words → k ≤ 26 → (0 < get_or heights k 0) × (get_or credits k 0 ≡ 0)
  letter_right l h =
      let t = cond_true (leb k 26) (ltb 0 (get_or heights k 0) && eqb (get_or credits k 0) 0) (passed l).0 (le-leb k 26 h) in
      let a = and_T (ltb 0 (get_or heights k 0)) (eqb (get_or credits k 0) 0) t in
      (ltb→lt 0 (get_or heights k 0) a.0, eqb→eq (get_or credits k 0) 0 a.1)

  pub row_right : 0 < get_or heights k 0 → (get_or heights k 0 ≤ most) × T (test k (get_or words k 0))
  row_right h =
      let l : k < length words = omega (arith, inside heights k h, same) in
      let a = and_T (leb (get_or heights k 0) most) (test k (get_or words k 0))
      (cond_true (ltb 0 (get_or heights k 0)) (leb (get_or heights k 0) most && test k (get_or words k 0)) (passed l).1 (lt-ltb 0 (get_or heights k 0) h)) in
      (leb→le (get_or heights k 0) most a.0, a.1)
