-- The packed table is the layout written out: head, cells and entries.
use Prim.Native.Nat.{ℕ, zero, suc, ◌+◌, ◌*◌, ◌/◌, ◌%◌, ◌≤◌, ◌<◌}
use mathlib.Core.List.{List, [], ◌∷◌}
use mathlib.Core.Path.{◌≡◌, refl, sym, ◌∙◌, ap, subst}
use native.Mathlib.Omega.{arith}
use lib.ListN.{length, get_or, take, drop, take-append-drop, length-drop}
use lib.Seq.{get_or-take, get_or-drop, drop-drop, length-take-le}
use Rattle.base.specs.Limits.{cell_limit}
use Rattle.liang.specs.Patterns.{Pattern}
use Rattle.table.specs.Table.{cell_size, entry_size, cell_room}
use Rattle.fit.specs.Table.{put_kinds, bytes_of}
use Rattle.patterns.proofs.Strings.{length_none}
use Rattle.fit_trie.proofs.Finished.{cut_length, cut_at, cut_kind}
use Rattle.layout.specs.Bases.{Based, bases_of, cells_needed}
use Rattle.layout.specs.Entries.{Entry, Entering, entry_list, entries_needed}
use Rattle.table.specs.Records.{two_bytes, head_bytes, cell_bytes, entry_bytes}
use Rattle.layout.specs.Table.{entry_record, cell_among, numbered_cells, all_entries, layout_table}
use Rattle.layout.proofs.Entries.{no_entry, Stores}
use Rattle.layout.proofs.Low.{Low, halves}
use Rattle.layout.proofs.Cells.{Reads}

-- a record further on
further : (size a b : ℕ) (l : List ℕ) → size + a ≡ b → take size (drop a (drop size l)) ≡ take size (drop b l)
further size a b l e = ap (take size) (drop-drop a size l) ∙ ap (λ (i : ℕ). take size (drop i l)) e

-- bytes that are cells one by one
cells_written : (patterns : List Pattern) (bases : List Based) (c k : ℕ) (l : List ℕ) → length l ≡ cell_size * c
    → ((n : ℕ) → n < c → take cell_size (drop (cell_size * n) l) ≡ cell_among patterns bases (k + n) bases) → l ≡ numbered_cells patterns bases k c
unfolding numbered_cells
cells_written patterns bases zero k l h f = length_none l (omega (arith, h))
cells_written patterns bases (suc c) k l h f =
    let z : k + 0 ≡ k = omega arith in
    let here : take cell_size l ≡ cell_among patterns bases k bases = f 0 (omega arith) ∙ ap (λ (i : ℕ). cell_among patterns bases i bases) z in
    let rest = cells_written patterns bases c (suc k) (drop cell_size l) (length-drop cell_size l ∙ omega (arith, h))
    (λ n i. let e : k + suc n ≡ suc k + n = omega arith in
    further cell_size (cell_size * n) (cell_size * suc n) l (omega arith) ∙ f (suc n) (omega arith) ∙ ap (λ (j : ℕ). cell_among patterns bases j bases) e) in
    sym (take-append-drop cell_size l) ∙ rw (here, rest)

-- bytes that are entries one by one
entries_written : (xs : List Entry) (l : List ℕ) → length l ≡ entry_size * length xs
    → ((n : ℕ) → n < length xs → take entry_size (drop (entry_size * n) l) ≡ entry_record (get_or xs n no_entry)) → l ≡ all_entries xs
unfolding all_entries
entries_written [] l h f = length_none l (omega (arith, h))
entries_written (x ∷ xs) l h f =
    let here : take entry_size l ≡ entry_record x = f 0 (omega arith) in
    let rest = entries_written xs (drop entry_size l) (length-drop entry_size l ∙ omega (arith, h))
    (λ n i. further entry_size (entry_size * n) (entry_size * suc n) l (omega arith) ∙ f (suc n) (omega arith)) in
    sym (take-append-drop entry_size l) ∙ rw (here, rest)

-- the first bytes of a list, one by one
six : (l : List ℕ) → 6 ≤ length l → take 6 l ≡ get_or l 0 0 ∷ get_or l 1 0 ∷ get_or l 2 0 ∷ get_or l 3 0 ∷ get_or l 4 0 ∷ get_or l 5 0 ∷ []
six [] h = absurd (omega arith)
six (a ∷ []) h = absurd (omega arith)
six (a ∷ b ∷ []) h = absurd (omega arith)
six (a ∷ b ∷ c ∷ []) h = absurd (omega arith)
six (a ∷ b ∷ c ∷ d ∷ []) h = absurd (omega arith)
six (a ∷ b ∷ c ∷ d ∷ e ∷ []) h = absurd (omega arith)
six (a ∷ b ∷ c ∷ d ∷ e ∷ f ∷ l) h = refl

five : (l : List ℕ) → 5 ≤ length l → take 5 l ≡ get_or l 0 0 ∷ get_or l 1 0 ∷ get_or l 2 0 ∷ get_or l 3 0 ∷ get_or l 4 0 ∷ []
five [] h = absurd (omega arith)
five (a ∷ []) h = absurd (omega arith)
five (a ∷ b ∷ []) h = absurd (omega arith)
five (a ∷ b ∷ c ∷ []) h = absurd (omega arith)
five (a ∷ b ∷ c ∷ d ∷ []) h = absurd (omega arith)
five (a ∷ b ∷ c ∷ d ∷ e ∷ l) h = refl

-- the cells cut off behind the last used one
module _ (bytes : List ℕ) (c : ℕ) (size : length bytes ≡ cell_room) (few : c ≤ cell_limit) (low : Low bytes) where
  abbrev cut : List ℕ
  cut = take (cell_size * c) (put_kinds c bytes)

  cell_block : (n : ℕ) → n < c → (written : List ℕ) → Reads bytes n written → take cell_size (drop (cell_size * n) cut) ≡ written
  unfolding cell_bytes two_bytes
  cell_block n h written r =
      six (drop (cell_size * n) cut) (omega (arith, length-drop (cell_size * n) cut, cut_length bytes c size few))
      ∙ rw (
        at 0 (cell_size * n) (omega arith) ∙ cut_kind bytes c size few n h,
        at 1 (cell_size * n + 1) refl ∙ kept 1 (omega arith) (omega arith) ∙ r.symbol_read,
        at 2 (cell_size * n + 2) refl ∙ kept 2 (omega arith) (omega arith) ∙ link.0,
        at 3 (cell_size * n + 2 + 1) (omega arith) ∙ cut_at bytes c size few (cell_size * n + 2 + 1) (omega arith) (λ k e. omega (arith, e)) ∙ link.1,
        at 4 (cell_size * n + 4) refl ∙ kept 4 (omega arith) (omega arith) ∙ output.0,
        at 5 (cell_size * n + 4 + 1) (omega arith) ∙ cut_at bytes c size few (cell_size * n + 4 + 1) (omega arith) (λ k e. omega (arith, e)) ∙ output.1,
      )
      (sym r.same)
    where
      at : (i j : ℕ) → cell_size * n + i ≡ j → get_or (drop (cell_size * n) cut) i 0 ≡ get_or cut j 0
      at i j e = get_or-drop (cell_size * n) cut i 0 ∙ ap (λ (k : ℕ). get_or cut k 0) e

      kept : (i : ℕ) → 1 ≤ i → i ≤ 5 → get_or cut (cell_size * n + i) 0 ≡ get_or bytes (cell_size * n + i) 0
      kept i a b = cut_at bytes c size few (cell_size * n + i) (omega arith) (λ k e. omega (arith, e))

      link : (get_or bytes (cell_size * n + 2) 0 ≡ r.link / 256) × (get_or bytes (cell_size * n + 2 + 1) 0 ≡ r.link % 256)
      link = let e : cell_size * n + 3 ≡ cell_size * n + 2 + 1 = omega arith in halves bytes (cell_size * n + 2) r.link r.link_read (subst (λ (i : ℕ). get_or bytes i 0 < 256) e (low.link n))

      output : (get_or bytes (cell_size * n + 4) 0 ≡ r.output / 256) × (get_or bytes (cell_size * n + 4 + 1) 0 ≡ r.output % 256)
      output = let e : cell_size * n + 5 ≡ cell_size * n + 4 + 1 = omega arith in halves bytes (cell_size * n + 4) r.output r.output_read (subst (λ (i : ℕ). get_or bytes i 0 < 256) e (low.output n))

  pub cells_cut : (patterns : List Pattern) (bases : List Based) → ((n : ℕ) → Reads bytes n (cell_among patterns bases n bases)) → cut ≡ numbered_cells patterns bases 0 c
  cells_cut patterns bases reads =
      cells_written patterns bases c 0 cut (cut_length bytes c size few)
      (λ n h. let e : n ≡ 0 + n = omega arith in cell_block n h (cell_among patterns bases n bases) (reads n) ∙ ap (λ (i : ℕ). cell_among patterns bases i bases) e)

-- the entries made
module _ (so : Entering) (bytes : List ℕ) (count last : ℕ) (stores : Stores so bytes count last) where
  abbrev part : List ℕ
  part = take (entry_size * count) bytes

  part_length : length part ≡ entry_size * count
  part_length = length-take-le (entry_size * count) bytes (omega (arith, stores.size, stores.few))

  entry_block : (k : ℕ) → k < count → take entry_size (drop (entry_size * k) part) ≡ entry_record (get_or so.made k no_entry)
  unfolding entry_bytes two_bytes
  entry_block k h =
      let s = stores.each k h in
      five (drop (entry_size * k) part) (omega (arith, length-drop (entry_size * k) part, part_length))
      ∙ rw (at 0 (omega arith) ∙ here ∙ s.kind, at 1 (omega arith) ∙ s.distance, at 2 (omega arith) ∙ s.level, at 3 (omega arith) ∙ s.high, at 4 (omega arith) ∙ s.low)
    where
      at : (i : ℕ) → i < entry_size → get_or (drop (entry_size * k) part) i 0 ≡ get_or bytes (entry_size * k + i) 0
      at i l = get_or-drop (entry_size * k) part i 0 ∙ get_or-take (entry_size * count) bytes (entry_size * k + i) 0 (omega arith)

      here : get_or bytes (entry_size * k + 0) 0 ≡ get_or bytes (entry_size * k) 0
      here = let e : entry_size * k + 0 ≡ entry_size * k = omega arith in ap (λ (i : ℕ). get_or bytes i 0) e

  pub entries_cut : part ≡ all_entries so.made
  entries_cut = entries_written so.made part (part_length ∙ ap (λ (n : ℕ). entry_size * n) stores.counted) (λ k h. entry_block k (omega (arith, stores.counted)))

-- The table with these cells and entries is the layout's.
pub table_written : (patterns : List Pattern) (c e : ℕ) (bytes made : List ℕ) → c ≡ cells_needed patterns → e ≡ entries_needed patterns
    → take (cell_size * c) (put_kinds c bytes) ≡ numbered_cells patterns (bases_of patterns) 0 c → take (entry_size * e) made ≡ all_entries (entry_list patterns)
    → bytes_of c bytes made e ≡ layout_table patterns
unfolding bytes_of layout_table head_bytes two_bytes
table_written patterns c e bytes made p q f g = rw (f, g, ← p, ← q)
