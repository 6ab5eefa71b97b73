-- Marks put byte by byte into a cleared room, from one place up to another.
use Prim.Native.Nat.{ℕ, ◌+◌, ◌≤◌, ◌<◌}
use mathlib.Core.Bool.{Bool, true, false, ◌&&◌}
use mathlib.Core.List.{List}
use mathlib.Core.Path.{◌≡◌, refl, sym, ◌∙◌, ap}
use native.Mathlib.Decide.{dec_lt}
use native.Mathlib.Omega.{arith}
use borrow.Author.Tests.{lt-ltb, le-ltb, ltb-true, ltb-false}
use lib.Dec.{ltb}
use lib.ListN.{length, set}
use Rattle.rooms.specs.Rooms.{sheet, written, bit}
use Rattle.rooms.proofs.Sheets.{sheet_same, written_again, set_written}

module _ (width : ℕ) (marked : ℕ → Bool) where
  -- the marks below a place
  abbrev pub below : ℕ → ℕ → ℕ
  below i j = bit (ltb j i && marked j)

  none_below : (from : ℕ) → ((j : ℕ) → j < from → marked j ≡ false) → (j : ℕ) → 0 ≡ below from j
  none_below from none j = go (ltb j from) refl
    where
      go : (z : Bool) → ltb j from ≡ z → 0 ≡ bit (z && marked j)
      go true p = rw (none j (ltb-true j from p))
      go false p = refl

  pub put_start : (from : ℕ) (d room : List ℕ) → ((j : ℕ) → j < from → marked j ≡ false) → room ≡ written width (sheet width (λ j. 0)) d → room ≡ written width (sheet width (below from)) room
  put_start from d room none e =
      e ∙ sym (written_again width (λ j. 0) d (sheet width (λ j. 0))) ∙ ap (λ (l : List ℕ). written width (sheet width (λ j. 0)) l) (sym e)
      ∙ ap (λ (l : List ℕ). written width l room) (sheet_same width _ _ (λ j k. none_below from none j))

  pub put_turn : (i : ℕ) (d : List ℕ) {room : List ℕ} {x : ℕ} → room ≡ written width (sheet width (below i)) d → width ≤ length d → i < width → x ≡ bit (marked i)
      → set room i x ≡ written width (sheet width (below (i + 1))) d
  put_turn i d {x = x} e large h q = rw e (set_written width (below i) (below (i + 1)) d i x large h (q ∙ here) same)
    where
      here : bit (marked i) ≡ below (i + 1) i
      here = rw (lt-ltb i (i + 1) (omega arith))

      same : (j : ℕ) → j < width → (j ≡ i → ⊥) → below i j ≡ below (i + 1) j
      same j k p = go (dec_lt j i)
        where
          go : Dec (j < i) → bit (ltb j i && marked j) ≡ bit (ltb j (i + 1) && marked j)
          go (yes l) = rw (lt-ltb j i l, lt-ltb j (i + 1) (omega arith))
          go (no l) = rw (le-ltb j i (omega arith), le-ltb j (i + 1) (omega arith))

  pub put_end : (i : ℕ) (d : List ℕ) {room : List ℕ} → ((j : ℕ) → i ≤ j → marked j ≡ false) → room ≡ written width (sheet width (below i)) d → room ≡ written width (sheet width (λ j. bit (marked j))) d
  put_end i d none e = e ∙ ap (λ (l : List ℕ). written width l d) (sheet_same width _ _ (λ j k. go j (ltb j i) refl))
    where
      go : (j : ℕ) (z : Bool) → ltb j i ≡ z → bit (z && marked j) ≡ bit (marked j)
      go j true p = refl
      go j false p = rw (none j (ltb-false j i p))

  -- what the room was before it was cleared doesn't matter
  pub put_cleared : {room after : List ℕ} (d : List ℕ) → room ≡ written width (sheet width (λ j. 0)) d
      → after ≡ written width (sheet width (λ j. bit (marked j))) room → after ≡ written width (sheet width (λ j. bit (marked j))) d
  put_cleared d e f = f ∙ rw e (written_again width (λ j. 0) d (sheet width (λ j. bit (marked j))))
