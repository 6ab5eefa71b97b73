-- Laws about the pack room: one for each way through the code.
use Prim.Native.Nat.{ℕ, zero, suc, ◌+◌, ◌*◌, ◌-◌, ◌≤◌, ◌<◌}
use mathlib.Core.Bool.{cond}
use mathlib.Core.List.{List, [], ◌∷◌, ◌++◌, map, append_assoc}
use mathlib.Core.Path.{◌≡◌, refl, sym, ◌∙◌, ap, subst}
use native.Mathlib.Numerals.{add-one}
use native.Mathlib.Omega.{arith}
use borrow.Author.Tests.{eq-eqb, ne_eqb, lt-ltb, le-ltb}
use lib.Dec.{eqb}
use lib.ListN.{length, get_or, set, take, drop, replicate, length-append, length-drop}
use lib.Seq.{length-take-le, get_or-drop, drop-drop, drop_at, take-add, take-take, take-append-le, take-length, paste, take-paste, drop-paste}
use Rattle.base.specs.Limits.{pattern_limit, cell_limit, entry_limit, pack_room}
use Rattle.base.specs.declared.Ground.{Ground}
use Rattle.std.specs.Prelude.{Ok, Err}
use Rattle.base.specs.declared.Ground.TheVariants.{PackRoomShort, NoFit}
use Rattle.rooms.specs.Rooms.{filled}
use Rattle.rooms.proofs.Laws.{filled_same, cleared_take, cleared_drop}
use Rattle.words.specs.Symbols.{symbols_of}
use Rattle.lines.specs.Lines.{cut}
use Rattle.lists.specs.Lists.{judge_patterns}
use Rattle.liang.specs.Patterns.{Pattern, levels_from, pattern_of, patterns_of}
use Rattle.table.specs.Table.{cell_kind, head_size, cell_size, entry_size, cell_room, entry_room, root_base, put_number}
use Rattle.patterns.specs.Strings.{nth, Shaped}
use Rattle.patterns.proofs.Good.{good_patterns}
use Rattle.fit.specs.Cells.{Full, Fits, is_free, cell_of, place_list, layout_of, used_from}
use Rattle.fit.specs.Entries.{Entries, TooMany, Made, Outputs, Over, Out, enter_levels, enter_pattern, put_output, output_of, outputs_of, empty_entries}
use Rattle.fit.specs.Table.{Fit, NoRoom, Packed, put_kinds, bytes_of, finish, fit_layout, first_fit}
use Rattle.packer.specs.Pack.{Packing, judge_pack, packed_after, Lays, Answered}
use Rattle.table.specs.Records.{two_bytes, head_bytes}
use Rattle.packer.specs.Post.{table_of}

-- the highest used cell
used_step : (bytes : List ℕ) (k n c : ℕ) → used_from bytes k (suc n) c ≡ used_from (drop cell_size bytes) (suc k) n (cond (eqb (get_or bytes 1 0) 0) c (suc k))
unfolding used_from is_free
used_step bytes k n c = refl

module _ (cells : List ℕ) (n used : ℕ) (h : n < cell_limit) where
  used_turn : used_from (drop (cell_size * n) cells) n (cell_limit - n) used ≡ used_from (drop (cell_size * (n + 1)) cells) (n + 1) (cell_limit - (n + 1)) (cond (eqb (get_or cells (cell_size * n + 1) 0) 0) used (n + 1))
  used_turn =
      let e : cell_limit - n ≡ suc (cell_limit - (n + 1)) = omega arith in
      let m : cell_size * n + cell_size ≡ cell_size * (n + 1) = omega arith in
      ap (λ (k : ℕ). used_from (drop (cell_size * n) cells) n k used) e
      ∙ used_step (drop (cell_size * n) cells) n (cell_limit - (n + 1)) used
      ∙ ap (λ (l : List ℕ). used_from l (suc n) (cell_limit - (n + 1)) (cond (eqb (get_or (drop (cell_size * n) cells) 1 0) 0) used (suc n))) (drop-drop cell_size (cell_size * n) cells ∙ ap (λ (k : ℕ). drop k cells) m)
      ∙ ap (λ (b : ℕ). used_from (drop (cell_size * (n + 1)) cells) (suc n) (cell_limit - (n + 1)) (cond (eqb b 0) used (suc n))) (get_or-drop (cell_size * n) cells 1 0)
      ∙ ap (λ (k : ℕ). used_from (drop (cell_size * (n + 1)) cells) k (cell_limit - (n + 1)) (cond (eqb (get_or cells (cell_size * n + 1) 0) 0) used k)) (sym (add-one n))

  pub used_here : (get_or cells (cell_size * n + 1) 0 ≡ 0 → ⊥) → used_from (drop (cell_size * n) cells) n (cell_limit - n) used ≡ used_from (drop (cell_size * (n + 1)) cells) (n + 1) (cell_limit - (n + 1)) (n + 1)
  used_here z = used_turn ∙ rw (ne_eqb (get_or cells (cell_size * n + 1) 0) 0 z)

  pub used_on : get_or cells (cell_size * n + 1) 0 ≡ 0 → used_from (drop (cell_size * n) cells) n (cell_limit - n) used ≡ used_from (drop (cell_size * (n + 1)) cells) (n + 1) (cell_limit - (n + 1)) used
  used_on z = used_turn ∙ rw (eq-eqb (get_or cells (cell_size * n + 1) 0) 0 z)

pub used_end : (cells : List ℕ) (n used : ℕ) → cell_limit ≤ n → used_from (drop (cell_size * n) cells) n (cell_limit - n) used ≡ used
unfolding used_from
used_end cells n used h = let e : cell_limit - n ≡ 0 = omega arith in rw e

pub kinds_turn : (n : ℕ) (cells : List ℕ) → 0 < n → put_kinds n cells ≡ put_kinds (n - 1) (set cells (cell_size * (n - 1)) cell_kind)
unfolding put_kinds
kinds_turn n cells h = let e : n ≡ suc (n - 1) = omega arith in ap (λ (k : ℕ). put_kinds k cells) e

pub kinds_end : (n : ℕ) (cells : List ℕ) → n ≤ 0 → put_kinds n cells ≡ cells
unfolding put_kinds
kinds_end n cells h = let e : n ≡ 0 = omega arith in rw e

-- one pattern's output
pub output_put : (root : ℕ) (cells symbols : List ℕ) (m output : ℕ) {n : ℕ} {after : List ℕ} → n ≡ cell_of cells root (take m symbols) → m ≡ length symbols
    → after ≡ put_number (cell_size * n + 4) output cells → after ≡ put_number (cell_size * cell_of cells root symbols + 4) output cells
output_put root cells symbols m output p q e = e ∙ rw (p, q, take-length symbols)

-- the loop over the patterns
pub AllShaped : List Pattern → Type 0
AllShaped patterns = (i : ℕ) → i < length patterns → Shaped (nth patterns i)

pub shaped_start : (text : List ℕ) → judge_patterns text ≡ Ok tt → {rest : List ℕ} → rest ≡ text → AllShaped (patterns_of rest)
unfolding AllShaped
shaped_start text e q = rw q (good_patterns text e)

outputs_over : (root : ℕ) (patterns : List Pattern) → outputs_of root patterns Over ≡ Over
unfolding outputs_of output_of
outputs_over root [] = refl
outputs_over root (p ∷ rest) = outputs_over root rest

pub outputs_start : (root : ℕ) (text : List ℕ) (made : Outputs) {rest : List ℕ} → rest ≡ text → outputs_of root (patterns_of text) made ≡ outputs_of root (patterns_of rest) made
outputs_start root text made q = rw q

pub outputs_end : (root : ℕ) (rest : List ℕ) (made : Outputs) → length rest ≡ 0 → outputs_of root (patterns_of rest) made ≡ made
unfolding outputs_of patterns_of cut
outputs_end root [] made h = refl
outputs_end root (b ∷ t) made h = absurd (omega arith)

module _ (text line rest : List ℕ) (e : cut text ≡ line ∷ cut rest) where
  line_first : patterns_of text ≡ pattern_of line ∷ patterns_of rest
  unfolding patterns_of
  line_first = ap (map pattern_of) e

  shaped_first : AllShaped (patterns_of text) → AllShaped (pattern_of line ∷ patterns_of rest)
  shaped_first s = rw line_first at s

  pub line_shaped : AllShaped (patterns_of text) → (0 < length (symbols_of line)) × (length (symbols_of line) ≤ pattern_limit)
  unfolding AllShaped pattern_of
  line_shaped s = let p = shaped_first s 0 (omega arith) in (p.some, p.short)

  pub shaped_on : AllShaped (patterns_of text) → AllShaped (patterns_of rest)
  unfolding AllShaped
  shaped_on s i k = shaped_first s (suc i) (omega arith)

  module _ (root : ℕ) (cells made : List ℕ) (count m : ℕ) (n : m ≡ length (symbols_of line)) {step : Entries} (l : enter_levels (levels_from 0 line) m 0 (suc m) (Made made count 0) ≡ step) where
    outputs_turn : outputs_of root (patterns_of text) (Out cells made count) ≡ outputs_of root (patterns_of rest) (put_output root (pattern_of line) cells step)
    unfolding outputs_of output_of enter_pattern pattern_of
    outputs_turn =
        ap (λ (ps : List Pattern). outputs_of root ps (Out cells made count)) line_first
        ∙ ap (λ (s : Entries). outputs_of root (patterns_of rest) (put_output root (pattern_of line) cells s)) (ap (λ (k : ℕ). enter_levels (levels_from 0 line) k 0 (suc k) (Made made count 0)) (sym n) ∙ l)

    pub outputs_many : step ≡ TooMany → outputs_of root (patterns_of text) (Out cells made count) ≡ Over
    unfolding put_output
    outputs_many z = outputs_turn ∙ rw z (outputs_over root (patterns_of rest))

    pub outputs_on : {after bytes : List ℕ} {more output : ℕ} → step ≡ Made bytes more output → after ≡ put_number (cell_size * cell_of cells root (symbols_of line) + 4) output cells
        → outputs_of root (patterns_of text) (Out cells made count) ≡ outputs_of root (patterns_of rest) (Out after bytes more)
    unfolding put_output pattern_of
    outputs_on z a = outputs_turn ∙ rw (z, ← a)

-- the layout's parts put together
module _ (patterns : List Pattern) {cells made taken : List ℕ} (p : cells ≡ replicate cell_room 0) (q : made ≡ empty_entries) (t : taken ≡ replicate cell_limit 0) where
  layout_is : layout_of patterns ≡ place_list root_base patterns (Fits cells taken)
  unfolding layout_of
  layout_is = rw (p, t)

  pub fit_full : place_list root_base patterns (Fits cells taken) ≡ Full → first_fit patterns ≡ NoRoom
  unfolding first_fit fit_layout
  fit_full f = rw (layout_is, f)

  module _ {cells' taken' : List ℕ} (f : place_list root_base patterns (Fits cells taken) ≡ Fits cells' taken') {c : ℕ} (u : c ≡ used_from cells' 0 cell_limit 1) where
    pub fit_over : outputs_of root_base patterns (Out cells' made 0) ≡ Over → first_fit patterns ≡ NoRoom
    unfolding first_fit fit_layout finish
    fit_over o = rw (layout_is, f, ← q, o)

    pub fit_laid : {cells'' made' after : List ℕ} {e : ℕ} → outputs_of root_base patterns (Out cells' made 0) ≡ Out cells'' made' e → after ≡ put_kinds c cells''
        → first_fit patterns ≡ Packed (head_bytes c e ++ (take (cell_size * c) after ++ take (entry_size * e) made'))
    unfolding first_fit fit_layout finish bytes_of
    fit_laid o k = rw (layout_is, f, ← q, o, ← u, ← k)

-- the table put together in the room
module _ (c e : ℕ) (room made : List ℕ) (p : pack_room ≤ length room) (q : length made ≡ entry_room) (h : c ≤ cell_limit) (k : e ≤ entry_limit) where
  -- where the entries start, and the table's length
  abbrev from : ℕ
  from = head_size + cell_size * c

  abbrev size : ℕ
  size = from + entry_size * e

  body : List ℕ
  body = take (cell_size * c) (drop head_size room) ++ take (entry_size * e) made

  body_size : length body ≡ cell_size * c + entry_size * e
  unfolding body
  body_size = length-append (take (cell_size * c) (drop head_size room)) (take (entry_size * e) made)
      ∙ omega (arith, length-take-le (cell_size * c) (drop head_size room) (omega (arith, length-drop head_size room)), length-take-le (entry_size * e) made (omega arith))

  pub table_size : size ≡ length (table_of c e (drop head_size room) made)
  unfolding head_bytes two_bytes body
  table_size = omega (arith, body_size)

  front : take from room ++ take (entry_size * e) made ≡ take head_size room ++ body
  unfolding body
  front = ap (λ (l : List ℕ). l ++ take (entry_size * e) made) (take-add head_size (cell_size * c) room) ∙ append_assoc (take head_size room) (take (cell_size * c) (drop head_size room)) (take (entry_size * e) made)

  pub table_put : {copied cleared after : List ℕ} → copied ≡ paste room from made (entry_size * e) → cleared ≡ filled pack_room (take size copied) copied
      → after ≡ head_bytes c e ++ drop head_size cleared → after ≡ filled pack_room (table_of c e (drop head_size room) made) room
  unfolding filled head_bytes two_bytes body
  table_put x y z =
      let inside : from ≤ length room = omega arith in
      let entries : entry_size * e ≤ length made = omega arith in
      let rest : pack_room ≡ size + (pack_room - size) = omega arith in
      let behind : drop pack_room (paste room from made (entry_size * e)) ≡ drop pack_room room =
      ap (λ (n : ℕ). drop n (paste room from made (entry_size * e))) rest
      ∙ sym (drop-drop (pack_room - size) size (paste room from made (entry_size * e)))
      ∙ ap (drop (pack_room - size)) (drop-paste room from made (entry_size * e) inside entries)
      ∙ drop-drop (pack_room - size) size room
      ∙ ap (λ (n : ℕ). drop n room) (sym rest) in
      let same : length (take head_size room ++ body) ≡ length (head_bytes c e ++ body) = length-append (take head_size room) body ∙ omega (arith, length-take-le head_size room (omega arith), table_size, body_size) in
      let zeros : List ℕ = replicate (pack_room - length (take head_size room ++ body)) 0 ++ drop pack_room room in
      let whole : filled pack_room (take size (paste room from made (entry_size * e))) (paste room from made (entry_size * e)) ≡ take head_size room ++ (body ++ zeros) =
      rw (take-paste room from made (entry_size * e) inside entries, behind, front) (append_assoc (take head_size room) body zeros) in
      z
      ∙ ap (λ (l : List ℕ). head_bytes c e ++ drop head_size l) (y ∙ ap (λ (l : List ℕ). filled pack_room (take size l) l) x ∙ whole)
      ∙ ap (λ (l : List ℕ). head_bytes c e ++ l) (drop_at (take head_size room) (body ++ zeros) head_size (length-take-le head_size room (omega arith)))
      ∙ sym (append_assoc (head_bytes c e) body zeros)
      ∙ ap (λ (n : ℕ). (head_bytes c e ++ body) ++ (replicate (pack_room - n) 0 ++ drop pack_room room)) same

take_zeros : (n k : ℕ) → n ≤ k → take {A = ℕ} n (replicate k 0) ≡ replicate n 0
take_zeros zero k h = refl
take_zeros (suc n) zero h = absurd (omega arith)
take_zeros (suc n) (suc k) h = ap (λ (l : List ℕ). 0 ∷ l) (take_zeros n k (omega arith))

-- the cells in a cleared room are zero
pub cells_cleared : (room : List ℕ) → pack_room ≤ length room → take pack_room room ≡ replicate pack_room 0 → take cell_room (drop head_size room) ≡ replicate cell_room 0
cells_cleared room p z =
    let front : take (head_size + cell_room) room ≡ replicate (head_size + cell_room) 0 = sym (take-take (head_size + cell_room) pack_room room (omega arith)) ∙ ap (take (head_size + cell_room)) z ∙ take_zeros (head_size + cell_room) pack_room (omega arith) in
    sym (drop_at (take head_size room) (take cell_room (drop head_size room)) head_size (length-take-le head_size room (omega arith))) ∙ ap (drop head_size) (sym (take-add head_size cell_room room) ∙ front)

-- a room whose cells were filled
module _ (room cells : List ℕ) (p : pack_room ≤ length room) (q : length cells ≡ length (take cell_room (drop head_size room))) where
  abbrev pub filled_room : List ℕ
  filled_room = take head_size room ++ (cells ++ drop cell_room (drop head_size room))

  head_length : length (take head_size room) ≡ head_size
  head_length = length-take-le head_size room (omega arith)

  cells_length : length cells ≡ cell_room
  cells_length = q ∙ length-take-le cell_room (drop head_size room) (omega (arith, length-drop head_size room))

  pub filled_length : length filled_room ≡ length room
  filled_length =
      length-append (take head_size room) (cells ++ drop cell_room (drop head_size room))
      ∙ omega (arith, head_length, cells_length, length-append cells (drop cell_room (drop head_size room)), length-drop cell_room (drop head_size room), length-drop head_size room)

  pub filled_holds : pack_room ≤ length filled_room
  filled_holds = subst (λ (n : ℕ). pack_room ≤ n) (sym filled_length) p

  filled_behind : drop pack_room filled_room ≡ drop pack_room room
  filled_behind =
      ap (drop pack_room) (sym (append_assoc (take head_size room) cells (drop cell_room (drop head_size room))))
      ∙ sym (drop-drop entry_room (head_size + cell_room) ((take head_size room ++ cells) ++ drop cell_room (drop head_size room)))
      ∙ ap (drop entry_room) (drop_at (take head_size room ++ cells) (drop cell_room (drop head_size room)) (head_size + cell_room) (length-append (take head_size room) cells ∙ omega (arith, head_length, cells_length)))
      ∙ drop-drop entry_room cell_room (drop head_size room)
      ∙ drop-drop (entry_room + cell_room) head_size room

  filled_cells : (c : ℕ) → c ≤ cell_limit → take (cell_size * c) (drop head_size filled_room) ≡ take (cell_size * c) cells
  filled_cells c h = ap (take (cell_size * c)) (drop_at (take head_size room) (cells ++ drop cell_room (drop head_size room)) head_size head_length) ∙ take-append-le (cell_size * c) cells (drop cell_room (drop head_size room)) (omega (arith, cells_length))

  module _ (text : List ℕ) where
    pub lays_nothing : {after : List ℕ} → first_fit (patterns_of text) ≡ NoRoom → after ≡ filled pack_room (take 0 filled_room) filled_room → Lays text room (Err NoFit) after
    unfolding filled
    lays_nothing f e = record { answered = rw f refl; memory = rw f (e ∙ ap (λ (l : List ℕ). replicate pack_room 0 ++ l) filled_behind) }

    pub lays_table : (c e : ℕ) (made : List ℕ) → c ≤ cell_limit → {size : ℕ} {after : List ℕ} → first_fit (patterns_of text) ≡ Packed (table_of c e cells made)
        → size ≡ length (table_of c e (drop head_size filled_room) made) → after ≡ filled pack_room (table_of c e (drop head_size filled_room) made) filled_room → Lays text room (Ok size) after
    unfolding filled
    lays_table c e made h f s a =
        let same : table_of c e (drop head_size filled_room) made ≡ table_of c e cells made = ap (λ (l : List ℕ). head_bytes c e ++ (l ++ take (entry_size * e) made)) (filled_cells c h) in
        record {
          answered = rw f (ap Ok (s ∙ ap length same));
          memory = rw f (a ∙ ap (λ (t : List ℕ). filled pack_room t filled_room) same ∙ ap (λ (l : List ℕ). table_of c e cells made ++ (replicate (pack_room - length (table_of c e cells made)) 0 ++ l)) filled_behind);
        }

-- the whole call
after_same : (fit : Fit) (a b : List ℕ) → drop pack_room a ≡ drop pack_room b → packed_after (Ok tt) fit a ≡ packed_after (Ok tt) fit b
after_same NoRoom a b e = filled_same pack_room [] a b e
after_same (Packed t) a b e = filled_same pack_room t a b e

module _ (text room : List ℕ) where
  judged_short : length room < pack_room → judge_pack text (length room) ≡ Err PackRoomShort
  unfolding judge_pack
  judged_short h = rw (lt-ltb (length room) pack_room h)

  judged_next : pack_room ≤ length room → judge_pack text (length room) ≡ judge_patterns text
  unfolding judge_pack
  judged_next h = rw (le-ltb (length room) pack_room h)

  pub pack_short : length room < pack_room → Answered text room (Err PackRoomShort) room
  pack_short h = record { answered = rw (judged_short h) refl; memory = rw (judged_short h) refl }

  module _ (h : pack_room ≤ length room) where
    pub pack_refused : {g : Ground} → judge_patterns text ≡ Err g → {r : Packing} → r ≡ Err g → Answered text room r room
    pack_refused e f = record { answered = rw (f, judged_next h, e) refl; memory = rw (judged_next h, e) refl }

    module _ {cleared : List ℕ} (k : cleared ≡ filled pack_room (take 0 room) room) where
      pub cleared_start : take pack_room cleared ≡ replicate pack_room 0
      cleared_start = rw k (cleared_take pack_room room)

      pub pack_laid : judge_patterns text ≡ Ok tt → {r : Packing} {after : List ℕ} → Lays text cleared r after → Answered text room r after
      pack_laid e l =
          let behind : drop pack_room cleared ≡ drop pack_room room = ap (drop pack_room) k ∙ cleared_drop pack_room room in
          record {
            answered = rw (judged_next h, e) l.answered;
            memory = rw (judged_next h, e) (l.memory ∙ after_same (first_fit (patterns_of text)) cleared room behind);
          }
