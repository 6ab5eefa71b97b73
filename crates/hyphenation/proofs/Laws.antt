-- Laws about hyphens, breaks and grounds: one for each way through the code.
use Prim.Native.Nat.{ℕ, ◌+◌, ◌-◌, ◌%◌, ◌≤◌, ◌<◌}
use mathlib.Core.Bool.{Bool, true, false, ◌&&◌, and-false}
use mathlib.Core.List.{List}
use mathlib.Core.Path.{◌≡◌, refl}
use native.Mathlib.Omega.{arith}
use borrow.Author.Tests.{lt-leb, le-leb, lt-ltb, le-ltb, eq-eqb, ne_eqb, eqb-true, eqb-false}
use lib.Dec.{leb, eqb}
use lib.ListN.{length, get_or, drop, set, drop_of_length-le}
use Rattle.base.specs.Limits.{room_size}
use Rattle.base.proofs.Lists.{cons_at}
use Rattle.words.specs.Symbols.{hyphen}
use Rattle.words.specs.Words.{inner}
use Rattle.liang.specs.Breaks.{in_margins, odd, level_break}
use Rattle.rooms.specs.Rooms.{bit}
use Rattle.hyphenation.specs.Breaks.{mark_hyphens}

-- an exception line's hyphens
module _ (counts : ℕ → Bool) where
  module _ (line : List ℕ) (i : ℕ) (h : i < length line) (gap : ℕ) (room : List ℕ) where
    pub mark_letter : (get_or line i 0 ≡ hyphen → ⊥) → mark_hyphens counts gap (drop i line) room ≡ mark_hyphens counts (gap + 1) (drop (i + 1) line) room
    unfolding mark_hyphens
    mark_letter z = rw (cons_at line i h, ne_eqb (get_or line i 0) hyphen z)

    pub mark_hyphen : get_or line i 0 ≡ hyphen → gap < room_size → counts gap ≡ true
        → mark_hyphens counts gap (drop i line) room ≡ mark_hyphens counts gap (drop (i + 1) line) (set room gap 1)
    unfolding mark_hyphens
    mark_hyphen z k c = rw (cons_at line i h, eq-eqb (get_or line i 0) hyphen z, lt-ltb gap room_size k, c)

    pub mark_outside : get_or line i 0 ≡ hyphen → gap < room_size → counts gap ≡ false
        → mark_hyphens counts gap (drop i line) room ≡ mark_hyphens counts gap (drop (i + 1) line) room
    unfolding mark_hyphens
    mark_outside z k c = rw (cons_at line i h, eq-eqb (get_or line i 0) hyphen z, lt-ltb gap room_size k, c)

    pub mark_far : get_or line i 0 ≡ hyphen → room_size ≤ gap → mark_hyphens counts gap (drop i line) room ≡ mark_hyphens counts gap (drop (i + 1) line) room
    unfolding mark_hyphens
    mark_far z k = rw (cons_at line i h, eq-eqb (get_or line i 0) hyphen z, le-ltb gap room_size k)

  pub mark_end : (line : List ℕ) (i gap : ℕ) (room : List ℕ) → length line ≤ i → mark_hyphens counts gap (drop i line) room ≡ room
  unfolding mark_hyphens
  mark_end line i gap room h = rw (drop_of_length-le line h)

-- a gap that the levels break
module _ (left right n : ℕ) (level : ℕ → ℕ) (i : ℕ) where
  pub break_left : i < left → level_break left right n level i ≡ false
  unfolding level_break in_margins
  break_left l = rw (lt-leb left i l) (and-false (inner n i))

  pub break_right : n - i < right → level_break left right n level i ≡ false
  unfolding level_break in_margins
  break_right l = rw (lt-leb right (n - i) l) (either (inner n i) (leb left i))
    where
      either : (a b : Bool) → (a && ((b && false) && odd (level i))) ≡ false
      either true true = refl
      either true false = refl
      either false b = refl

  pub break_outer : n ≤ i → level_break left right n level i ≡ false
  unfolding level_break inner
  break_outer h = rw (le-ltb i n h) (either (leb 1 i))
    where
      either : (a : Bool) → ((a && false) && (in_margins left right n i && odd (level i))) ≡ false
      either true = refl
      either false = refl

  -- inside the margins a level's parity decides; a gap that isn't an inner one has none
  pub break_odd : left ≤ i → right ≤ n - i → (inner n i ≡ false → level i ≡ 0) → level i % 2 ≡ bit (level_break left right n level i)
  unfolding level_break in_margins odd
  break_odd l m none = rw (le-leb left i l, le-leb right (n - i) m) (go (inner n i) refl (eqb (level i % 2) 1) refl)
    where
      go : (a : Bool) → inner n i ≡ a → (z : Bool) → eqb (level i % 2) 1 ≡ z → level i % 2 ≡ bit (a && z)
      go true q true p = eqb-true (level i % 2) 1 p
      go true q false p = let r : level i % 2 ≡ 1 → ⊥ = eqb-false (level i % 2) 1 p in omega arith
      go false q z p = omega (arith, none q)
