-- One law for each way through the code, and what a room holds that begins with some bytes and is zero behind them.
use Prim.Native.Nat.{ℕ, suc, ◌+◌, ◌-◌, ◌≤◌, ◌<◌}
use mathlib.Core.Bool.{Bool, true, false, cond}
use mathlib.Core.List.{List, [], ◌∷◌, ◌++◌}
use mathlib.Core.Path.{◌≡◌, refl, sym, ◌∙◌, ap}
use native.Mathlib.Omega.{arith}
use borrow.Author.Tests.{eq-eqb, ne_eqb, ltb-true, ltb-false}
use lib.Dec.{eqb}
use lib.ListN.{length, get_or, take, drop, replicate, length-append, length-drop, length-replicate, drop_of_length-le}
use lib.Seq.{paste, length-take-le, take-append_seam, take_at, drop_at, drop-drop}
use borrow.Rule.Slice.PartMut.{put_mid}
use Rattle.base.proofs.Lists.{cons_at}
use Rattle.rooms.specs.Rooms.{is_short, sheet, written, filled, nonzero}
use Rattle.rooms.proofs.Sheets.{sheet_zeros, take_sheet}

-- what it says of a size that a room is short, and that it isn't
pub too_short : (width size : ℕ) {short : Bool} → short ≡ is_short width size → short ≡ true → size < width
too_short width size p q = ltb-true size width (sym p ∙ q)

pub long_enough : (width size : ℕ) {short : Bool} → short ≡ is_short width size → short ≡ false → width ≤ size
long_enough width size p q = ltb-false size width (sym p ∙ q)

-- zeros put behind a beginning
pub cleared_part : (room : List ℕ) (from width : ℕ) → from ≤ width → width ≤ length room → {part : List ℕ}
    → part ≡ replicate (length (take (width - from) (drop from room))) 0 → put_mid from (width - from) room part ≡ filled width (take from room) room
unfolding filled
cleared_part room from width h k e =
    let n : length (take (width - from) (drop from room)) ≡ width - from = length-take-le (width - from) (drop from room) (omega (arith, length-drop from room)) in
    let m : from + (width - from) ≡ width = omega arith in
    rw (e, n, length-take-le from room (omega arith), drop-drop (width - from) from room, m)

-- a room that begins with some bytes: these, what lies behind the width, and that nothing else of the old room is left
module _ (width : ℕ) where
  pub filled_begins : (bytes room : List ℕ) → take (length bytes) (filled width bytes room) ≡ bytes
  unfolding filled
  filled_begins bytes room = take-append_seam bytes (replicate (width - length bytes) 0 ++ drop width room)

  pub filled_same : (bytes a b : List ℕ) → drop width a ≡ drop width b → filled width bytes a ≡ filled width bytes b
  unfolding filled
  filled_same bytes a b e = ap (λ (l : List ℕ). bytes ++ (replicate (width - length bytes) 0 ++ l)) e

  -- a room cleared from its first byte on
  cleared : (room : List ℕ) → filled width (take 0 room) room ≡ replicate width 0 ++ drop width room
  unfolding filled
  cleared room = let e : width - 0 ≡ width = omega arith in rw e

  pub cleared_take : (room : List ℕ) → take width (filled width (take 0 room) room) ≡ replicate width 0
  cleared_take room = rw (cleared room) (take_at (replicate width 0) (drop width room) width (length-replicate {A = ℕ} width 0))

  pub cleared_drop : (room : List ℕ) → drop width (filled width (take 0 room) room) ≡ drop width room
  cleared_drop room = rw (cleared room) (drop_at (replicate width 0) (drop width room) width (length-replicate {A = ℕ} width 0))

  pub cleared_sheet : (room : List ℕ) → filled width (take 0 room) room ≡ written width (sheet width (λ i. 0)) room
  unfolding written sheet
  cleared_sheet room = cleared room ∙ ap (λ (l : List ℕ). l ++ drop width room) (sheet_zeros 0 width)

-- no more bytes are marked than there are
pub nonzero_few : (bytes : List ℕ) → nonzero bytes ≤ length bytes
unfolding nonzero
nonzero_few [] = omega arith
nonzero_few (b ∷ bytes) = go (eqb b 0) (nonzero_few bytes)
  where
    go : (z : Bool) → nonzero bytes ≤ length bytes → cond z (nonzero bytes) (1 + nonzero bytes) ≤ suc (length bytes)
    go true h = omega arith
    go false h = omega arith

pub nonzero_none : (xs : List ℕ) → length xs ≡ 0 → nonzero xs ≡ 0
unfolding nonzero
nonzero_none [] h = refl
nonzero_none (b ∷ xs) h = absurd (omega (arith, h))

-- the marks of a room, block by block
nonzero_both : (xs ys : List ℕ) → nonzero (xs ++ ys) ≡ nonzero xs + nonzero ys
unfolding nonzero
nonzero_both [] ys = omega arith
nonzero_both (b ∷ xs) ys = go (eqb b 0) (nonzero_both xs ys)
  where
    go : (z : Bool) → nonzero (xs ++ ys) ≡ nonzero xs + nonzero ys → cond z (nonzero (xs ++ ys)) (1 + nonzero (xs ++ ys)) ≡ cond z (nonzero xs) (1 + nonzero xs) + nonzero ys
    go true e = e
    go false e = omega (arith, e)

module _ (block rest : List ℕ) {left : List ℕ} (e : left ≡ block ++ rest) {marks : ℕ} (m : marks ≡ nonzero block) (count : ℕ) where
  pub block_fits : (limit : ℕ) → count + length left ≤ limit → count + marks + length rest ≤ limit
  block_fits limit h = let l : length left ≡ length block + length rest = rw e (length-append block rest) in omega (arith, nonzero_few block, l, m, h)

  pub block_counted : {total : ℕ} → total ≡ count + nonzero left → total ≡ count + marks + nonzero rest
  block_counted h = let n : nonzero left ≡ nonzero block + nonzero rest = rw e (nonzero_both block rest) in omega (arith, n, m, h)

-- the marks of a block, byte by byte
module _ (block : List ℕ) (i : ℕ) where
  pub marks_zero : i < length block → get_or block i 0 ≡ 0 → nonzero (drop i block) ≡ nonzero (drop (i + 1) block)
  unfolding nonzero
  marks_zero h z = rw (cons_at block i h, eq-eqb (get_or block i 0) 0 z)

  pub marks_one : i < length block → (get_or block i 0 ≡ 0 → ⊥) → nonzero (drop i block) ≡ 1 + nonzero (drop (i + 1) block)
  unfolding nonzero
  marks_one h z = rw (cons_at block i h, ne_eqb (get_or block i 0) 0 z)

  pub marks_end : length block ≤ i → nonzero (drop i block) ≡ 0
  unfolding nonzero
  marks_end h = rw (drop_of_length-le block h)

-- from the first byte on, they are a sheet
pub copied_sheet : (width : ℕ) (bytes room : List ℕ) → width ≤ length bytes → paste room 0 bytes width ≡ written width (sheet width (λ i. get_or bytes i 0)) room
unfolding written
copied_sheet width bytes room h = let e : 0 + width ≡ width = omega arith in rw e (ap (λ (l : List ℕ). l ++ drop width room) (take_sheet width bytes h))
