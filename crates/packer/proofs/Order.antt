-- The packer's judgement and layout give the first of its grounds that holds, and its promise says the same by grounds and as it is
-- computed.
use Prim.Native.Nat.{ℕ}
use mathlib.Core.Bool.{Bool, true, false, cond}
use mathlib.Core.List.{List, [], ◌∷◌}
use mathlib.Core.Path.{◌≡◌, refl, sym, ◌∙◌, ap, subst}
use borrow.Author.Tests.{eqb-true}
use lib.Dec.{eqb}
use lib.ListN.{length}
use Rattle.base.specs.Limits.{pack_room}
use Rattle.base.specs.Grounds.{told, Said, Finds, Row, on, first_of, one_of, first, refuse_if, Check}
use Rattle.std.specs.Prelude.{Ok, Err}
use Rattle.base.specs.declared.Ground.{Ground}
use Rattle.base.specs.declared.Ground.TheVariants.{PackRoomShort, NoFit}
use Rattle.base.proofs.Grounds.{Ordered, ordered_first, ordered_if, said_found, said_refused_lem, told_once, refuses_once, no_refusal}
use Rattle.base.proofs.Lists.{never}
use Rattle.base.proofs.Order.{refuses_listed}
use Rattle.rooms.specs.Rooms.{is_short, filled}
use Rattle.lists.specs.Lists.{pattern_grounds}
use Rattle.lists.proofs.Order.{patterns_ordered}
use Rattle.liang.specs.Patterns.{patterns_of}
use Rattle.fit.specs.Table.{Fit, NoRoom, Packed, first_fit}
use Rattle.packer.specs.Pack.{has_no_room, pack_grounds, fit_bytes, packing_said, pack_said, pack_left, Packs, judge_pack, packing, packed_after, pack_answer, pack_leaves, Answered, Packing}

-- ground 11 behind the others
judge_fit : List ℕ → ℕ → Check
judge_fit text size = first (judge_pack text size) (refuse_if (has_no_room (first_fit (patterns_of text))) NoFit)

fit_ordered : (text : List ℕ) (size : ℕ) → Ordered (judge_fit text size) (pack_grounds text size)
unfolding judge_fit judge_pack pack_grounds
fit_ordered text size =
    ordered_first (ordered_first (ordered_if (is_short pack_room size) PackRoomShort) (patterns_ordered text)) (ordered_if (has_no_room (first_fit (patterns_of text))) NoFit)

-- none of the grounds before the layout is 11
early_ordered : (text : List ℕ) (size : ℕ) → Ordered (judge_pack text size) (on 10 (is_short pack_room size) ∷ pattern_grounds text)
unfolding judge_pack
early_ordered text size = ordered_first (ordered_if (is_short pack_room size) PackRoomShort) (patterns_ordered text)

not_eleven : (n : ℕ) → one_of n (10 ∷ 8 ∷ 7 ∷ []) ≡ true → eqb n 11 ≡ false
unfolding one_of
not_eleven n e = go (eqb n 11) refl
  where
    go : (z : Bool) → eqb n 11 ≡ z → z ≡ false
    go false p = refl
    go true p = never (ap (λ (k : ℕ). one_of k (10 ∷ 8 ∷ 7 ∷ [])) (sym (eqb-true n 11 p)) ∙ e)

pub early_number : (text : List ℕ) (size : ℕ) (g : Ground) → judge_pack text size ≡ Err g → eqb (told g).number 11 ≡ false
unfolding pattern_grounds
early_number text size g e =
    not_eleven (told g).number
    (refuses_listed (on 10 (is_short pack_room size) ∷ pattern_grounds text) [] (said_refused_lem (subst (λ (c : Check). Ordered c (on 10 (is_short pack_room size) ∷ pattern_grounds text)) e (early_ordered text size)) []))

-- no two packings say the same
packing_once : (r s : Packing) → packing_said r ≡ packing_said s → r ≡ s
unfolding packing_said
packing_once (Ok n) (Ok m) e = let a : n ≡ m = cc in rw a
packing_once (Ok n) (Err h) e = no_refusal e
packing_once (Err g) (Ok m) e = no_refusal (sym e)
packing_once (Err g) (Err h) e = ap Err (told_once g h (refuses_once e))

-- what a judgement and a layout come to is what the grounds say
module _ {rows : List Row} (room : List ℕ) where
  packing_said_lem : (judged : Check) (fit : Fit) → Ordered (first judged (refuse_if (has_no_room fit) NoFit)) rows
      → packing_said (packing judged fit) ≡ first_of (Finds (length (fit_bytes fit) ∷ [])) rows
  unfolding packing_said
  packing_said_lem (Err g) fit o = sym (said_refused_lem o (length (fit_bytes fit) ∷ []))
  packing_said_lem (Ok _) NoRoom o = sym (said_refused_lem o (0 ∷ []))
  packing_said_lem (Ok _) (Packed table) o = sym (said_found o (length table ∷ []))

  packing_left : (judged : Check) (fit : Fit) → ((g : Ground) → judged ≡ Err g → eqb (told g).number 11 ≡ false) → Ordered (first judged (refuse_if (has_no_room fit) NoFit)) rows
      → packed_after judged fit room ≡ pack_left (first_of (Finds (length (fit_bytes fit) ∷ [])) rows) (fit_bytes fit) room
  packing_left (Err g) fit early o =
      let s = said_refused_lem o (length (fit_bytes fit) ∷ []) in
      ap (λ (z : Bool). cond z (filled pack_room [] room) room) (sym (early g refl)) ∙ ap (λ (x : Said). pack_left x (fit_bytes fit) room) (sym s)
  packing_left (Ok _) NoRoom early o = ap (λ (x : Said). pack_left x [] room) (sym (said_refused_lem o (0 ∷ [])))
  packing_left (Ok _) (Packed table) early o = ap (λ (x : Said). pack_left x table room) (sym (said_found o (length table ∷ [])))

-- from the promise as it is computed to the one by grounds, and back
module _ (text room : List ℕ) where
  said : packing_said (pack_answer text (length room)) ≡ pack_said text (length room)
  unfolding pack_said judge_fit
  said = packing_said_lem room (judge_pack text (length room)) (first_fit (patterns_of text)) (fit_ordered text (length room))

  left : pack_leaves text room ≡ pack_left (pack_said text (length room)) (fit_bytes (first_fit (patterns_of text))) room
  unfolding pack_said judge_fit
  left = packing_left room (judge_pack text (length room)) (first_fit (patterns_of text)) (early_number text (length room)) (fit_ordered text (length room))

  pub promised : {r : Packing} {after : List ℕ} → Answered text room r after → Packs text room r after
  promised a = record { answered = ap packing_said a.answered ∙ said; memory = a.memory ∙ left }

  pub computed : {r : Packing} {after : List ℕ} → Packs text room r after → Answered text room r after
  computed {r} p = record { answered = packing_once r (pack_answer text (length room)) (p.answered ∙ sym said); memory = p.memory ∙ sym left }
