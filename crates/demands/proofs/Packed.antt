-- The packer finishes the first-fit table, and what it finishes is accepted with its list.
use Prim.Native.Nat.{ℕ, ◌<◌}
use mathlib.Core.List.{List}
use mathlib.Core.Logic.{◌⊎◌, ◌↔◌}
use mathlib.Core.Path.{◌≡◌, refl, sym, ◌∙◌, ap}
use borrow.Author.Tests.{eq-eqb}
use lib.ListN.{length, take}
use Rattle.base.specs.Limits.{pack_room, cell_limit, entry_limit}
use Rattle.base.specs.Grounds.{Check, Told, plain, told, Refuses, refuse_if}
use Rattle.std.specs.Prelude.{Ok, Err}
use Rattle.base.specs.declared.Ground.TheVariants.{PackRoomShort, NoFit}
use Rattle.base.proofs.Lists.{clash, never}
use Rattle.base.proofs.Grounds.{both_fine, refuses_once, no_refusal}
use Rattle.rooms.specs.Rooms.{is_short}
use Rattle.rooms.proofs.Laws.{filled_begins}
use Rattle.lists.specs.Lists.{judge_patterns}
use Rattle.liang.specs.Patterns.{patterns_of}
use Rattle.rightness.specs.Test.{judge_check}
use Rattle.decision.proofs.Theorems.{acceptance}
use Rattle.patterns.proofs.Good.{good_sorted, good_patterns, good_levels}
use Rattle.fit.specs.Table.{Fit, NoRoom, Packed, first_fit}
use Rattle.demands.proofs.Fitted.{fitted}
use Rattle.layout.specs.Bases.{cells_needed}
use Rattle.layout.specs.Entries.{entries_needed}
use Rattle.layout.specs.Table.{layout_table}
use Rattle.layout.proofs.Theorems.{no_room_exactly, packed_is_layout}
use Rattle.packer.specs.Pack.{Packing, packing_said, judge_pack, packing, packed_after, Packs}
use Rattle.packer.proofs.Order.{early_number, computed}

pub judged_patterns : (text : List ℕ) (size : ℕ) → judge_pack text size ≡ Ok tt → judge_patterns text ≡ Ok tt
unfolding judge_pack
judged_patterns text size e = (both_fine (refuse_if (is_short pack_room size) PackRoomShort) (judge_patterns text) e).1

-- a first-fit table of a good list is accepted with it
pub fit_accepted : (text table : List ℕ) → judge_patterns text ≡ Ok tt → first_fit (patterns_of text) ≡ Packed table → judge_check text table ≡ Ok tt
fit_accepted text table fine e =
    let good = fitted (patterns_of text) (good_sorted text fine) (good_patterns text fine) (good_levels text fine) table e in
    (acceptance text table).1 (fine, good.formed, good.right)

-- "Where no ground of its own holds, our packer finishes document 01's first-fit table"
pub packer_finishes : (text room after table : List ℕ) {r : Packing} → Packs text room r after → judge_pack text (length room) ≡ Ok tt → first_fit (patterns_of text) ≡ Packed table
    → (r ≡ Ok (length table)) × (take (length table) after ≡ table)
packer_finishes text room after table p j f = ((computed text room p).answered ∙ rw (j, f), ap (take (length table)) ((computed text room p).memory ∙ rw (j, f)) ∙ filled_begins pack_room table room)

-- "and every table it finishes is accepted with its list"
pub packed_accepted : (text room after : List ℕ) (size : ℕ) → Packs text room (Ok size) after → judge_check text (take size after) ≡ Ok tt
packed_accepted text room after size p = go (judge_pack text (length room)) refl (first_fit (patterns_of text)) refl (computed text room p).answered (computed text room p).memory
  where
    go : (v : Check) → judge_pack text (length room) ≡ v → (fit : Fit) → first_fit (patterns_of text) ≡ fit → Ok size ≡ packing v fit → after ≡ packed_after v fit room
        → judge_check text (take size after) ≡ Ok tt
    go (Err g) j fit f a m = clash cc
    go (Ok _) j NoRoom f a m = clash cc
    go (Ok tt) j (Packed table) f a m =
        let n : size ≡ length table = cc in
        rw (m, n, filled_begins pack_room table room) (fit_accepted text table (judged_patterns text (length room) j) f)

-- what the layout says of a good list
module _ (text : List ℕ) (fine : judge_patterns text ≡ Ok tt) where
  text_no_room : (first_fit (patterns_of text) ≡ NoRoom) ↔ ((cell_limit < cells_needed (patterns_of text)) ⊎ (entry_limit < entries_needed (patterns_of text)))
  text_no_room = no_room_exactly (patterns_of text) (good_sorted text fine) (good_patterns text fine) (good_levels text fine)

-- "The packer writes exactly the first-fit table for a list": what it finishes is the layout, byte for byte.
pub packer_writes : (text room after : List ℕ) (size : ℕ) → Packs text room (Ok size) after
    → (size ≡ length (layout_table (patterns_of text))) × (take size after ≡ layout_table (patterns_of text))
packer_writes text room after size p = go (judge_pack text (length room)) refl (first_fit (patterns_of text)) refl (computed text room p).answered
  where
    go : (v : Check) → judge_pack text (length room) ≡ v → (fit : Fit) → first_fit (patterns_of text) ≡ fit → Ok size ≡ packing v fit
        → (size ≡ length (layout_table (patterns_of text))) × (take size after ≡ layout_table (patterns_of text))
    go (Err g) j fit f a = clash cc
    go (Ok _) j NoRoom f a = clash cc
    go (Ok tt) j (Packed table) f a =
        let fine = judged_patterns text (length room) j in
        let e : table ≡ layout_table (patterns_of text) = packed_is_layout (patterns_of text) (good_sorted text fine) (good_patterns text fine) (good_levels text fine) table f in
        let n : size ≡ length table = cc in
        (n ∙ ap length e, ap (λ (k : ℕ). take k after) n ∙ (packer_finishes text room after table p j f).1 ∙ e)

-- "and says "no room" only when that layout passes the limits": exactly where no ground before holds and C is over 8,192 or E over
-- 2,048.
pub packer_no_room : (text room after : List ℕ) (r : Packing) → Packs text room r after
    → (packing_said r ≡ Refuses (plain 11))
    ↔ ((judge_pack text (length room) ≡ Ok tt) × ((cell_limit < cells_needed (patterns_of text)) ⊎ (entry_limit < entries_needed (patterns_of text))))
unfolding packing_said
packer_no_room text room after r p = (λ e. only (judge_pack text (length room)) refl (first_fit (patterns_of text)) refl e, λ h. when h.0 h.1)
  where
    answered : r ≡ packing (judge_pack text (length room)) (first_fit (patterns_of text))
    answered = (computed text room p).answered

    only : (v : Check) → judge_pack text (length room) ≡ v → (fit : Fit) → first_fit (patterns_of text) ≡ fit → packing_said r ≡ Refuses (plain 11)
        → (judge_pack text (length room) ≡ Ok tt) × ((cell_limit < cells_needed (patterns_of text)) ⊎ (entry_limit < entries_needed (patterns_of text)))
    only (Err g) j fit f e =
        let a : r ≡ Err g = answered ∙ rw j in
        let n : (told g).number ≡ 11 = ap (λ (t : Told). t.number) (refuses_once (sym (ap packing_said a) ∙ e)) in
        never (sym (early_number text (length room) g j) ∙ eq-eqb (told g).number 11 n)
    only (Ok _) j NoRoom f e = (j, (text_no_room text (judged_patterns text (length room) j)).0 f)
    only (Ok _) j (Packed table) f e = let a : r ≡ Ok (length table) = answered ∙ rw (j, f) in no_refusal (sym (ap packing_said a) ∙ e)

    when : judge_pack text (length room) ≡ Ok tt → (cell_limit < cells_needed (patterns_of text)) ⊎ (entry_limit < entries_needed (patterns_of text)) → packing_said r ≡ Refuses (plain 11)
    when j h =
        let a : r ≡ Err NoFit = answered ∙ rw (j, (text_no_room text (judged_patterns text (length room) j)).1 h) in
        ap packing_said a
