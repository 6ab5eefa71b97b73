-- The finished table: the cells up to the last used one, all of kind 2, and the entries made.
use Prim.Native.Nat.{ℕ, zero, suc, ◌+◌, ◌*◌, ◌-◌, ◌≤◌, ◌<◌, max}
use mathlib.Core.Bool.{Bool, true, false, cond}
use mathlib.Core.List.{List}
use mathlib.Core.Logic.{◌⊎◌, inl, inr}
use mathlib.Core.Path.{◌≡◌, refl, sym, ◌∙◌, ap}
use native.Mathlib.Decide.{ℕ_discrete, dec_lt}
use native.Mathlib.Omega.{arith}
use borrow.Author.Tests.{eqb-true, eqb-false, le-leb}
use lib.ListN.{length, get_or, set, take, drop, length-set, length-append, get_or-eq_default}
use lib.Seq.{get_or-set_same, get_or-set_other, get_or-take, get_or-drop, length-take-le, take_at, drop_at, drop-drop}
use Rattle.base.specs.Limits.{cell_limit, entry_limit}
use Rattle.std.specs.Prelude.{Ok}
use Rattle.table.specs.Table.{cell_kind, entry_kind, head_size, cell_size, cell_room, entry_size, number_at, cell_count, judge_table, cells_from, entries_from, cells_of, entries_of}
use Rattle.table.proofs.Laws.{fine_table}
use Rattle.fit.specs.Cells.{is_free, used_from}
use Rattle.table.specs.Records.{two_bytes, head_bytes}
use Rattle.fit.specs.Table.{put_kinds, bytes_of}
use Rattle.fit_trie.proofs.Bytes.{kind_in, symbol_in, link_in, output_in, number_same}
use Rattle.fit_trie.proofs.Nodes.{Site, Node, node, Goes, Holds, Owned, Linked, owned_moved, linked_moved}
use Rattle.fit_trie.proofs.Chains.{Entered, Kept, entry_same}

-- the cell before C is a used one of n from k on, where C is not what it was
abbrev pub Top : List ℕ → ℕ → ℕ → ℕ → ℕ → Type 0
Top bytes k n c used = (used ≡ c) ⊎ ((i : ℕ) × ((i < n) × ((suc (k + i) ≡ used) × (symbol_in bytes i ≡ 0 → ⊥))))

-- "C is the highest used cell + 1": no used cell among n from k on lies at it or behind it
record Used (bytes : List ℕ) (k n c used : ℕ) : Type 0 where
  least : c ≤ used
  most : used ≤ max c (k + n)
  behind : (i : ℕ) → i < n → (symbol_in bytes i ≡ 0 → ⊥) → k + i < used
  top : Top bytes k n c used

used_says : (n k c : ℕ) (bytes : List ℕ) → c ≤ suc k → Used bytes k n c (used_from bytes k n c)
unfolding used_from
used_says zero k c bytes h = record { least = omega arith; most = omega arith; behind = λ i l. absurd (omega arith); top = inl refl }
used_says (suc n) k c bytes h = go (is_free bytes 0) refl (λ d l. used_says n (suc k) d (drop cell_size bytes) l)
  where
    taken : is_free bytes 0 ≡ true → symbol_in bytes 0 ≡ 0
    taken e = unfold is_free in eqb-true (symbol_in bytes 0) 0 e

    held : is_free bytes 0 ≡ false → symbol_in bytes 0 ≡ 0 → ⊥
    held e = unfold is_free in eqb-false (symbol_in bytes 0) 0 e

    further : (i : ℕ) → symbol_in (drop cell_size bytes) i ≡ symbol_in bytes (suc i)
    further i = let e : cell_size + (cell_size * i + 1) ≡ cell_size * suc i + 1 = omega arith in get_or-drop cell_size bytes (cell_size * i + 1) 0 ∙ ap (λ (j : ℕ). get_or bytes j 0) e

    go : (z : Bool) → is_free bytes 0 ≡ z → ((d : ℕ) → d ≤ suc (suc k) → Used (drop cell_size bytes) (suc k) n d (used_from (drop cell_size bytes) (suc k) n d))
        → Used bytes k (suc n) c (used_from (drop cell_size bytes) (suc k) n (cond z c (suc k)))
    go true e next = record { least = r.least; most = omega (arith, r.most); behind = behind; top = top r.top }
      where
        r : Used (drop cell_size bytes) (suc k) n c (used_from (drop cell_size bytes) (suc k) n c)
        r = next c (omega arith)

        top : Top (drop cell_size bytes) (suc k) n c (used_from (drop cell_size bytes) (suc k) n c) → Top bytes k (suc n) c (used_from (drop cell_size bytes) (suc k) n c)
        top (inl e) = inl e
        top (inr w) = inr (suc w.0, (omega (arith, w.1.0), (omega (arith, w.1.1.0), λ z. w.1.1.1 (further w.0 ∙ z))))

        behind : (i : ℕ) → i < suc n → (symbol_in bytes i ≡ 0 → ⊥) → k + i < used_from (drop cell_size bytes) (suc k) n c
        behind zero l d = absurd (d (taken e))
        behind (suc i) l d = omega (arith, r.behind i (omega arith) (λ z. d (sym (further i) ∙ z)))
    go false e next = record { least = omega (arith, r.least); most = omega (arith, r.most); behind = behind; top = top r.top }
      where
        r : Used (drop cell_size bytes) (suc k) n (suc k) (used_from (drop cell_size bytes) (suc k) n (suc k))
        r = next (suc k) (omega arith)

        top : Top (drop cell_size bytes) (suc k) n (suc k) (used_from (drop cell_size bytes) (suc k) n (suc k)) → Top bytes k (suc n) c (used_from (drop cell_size bytes) (suc k) n (suc k))
        top (inl q) = inr (0, (omega arith, (omega (arith, q), held e)))
        top (inr w) = inr (suc w.0, (omega (arith, w.1.0), (omega (arith, w.1.1.0), λ z. w.1.1.1 (further w.0 ∙ z))))

        behind : (i : ℕ) → i < suc n → (symbol_in bytes i ≡ 0 → ⊥) → k + i < used_from (drop cell_size bytes) (suc k) n (suc k)
        behind zero l d = omega (arith, r.least)
        behind (suc i) l d = omega (arith, r.behind i (omega arith) (λ z. d (sym (further i) ∙ z)))

-- C is in range, and every used cell lies below it
pub used_range : (bytes : List ℕ) → (1 ≤ used_from bytes 0 cell_limit 1) × (used_from bytes 0 cell_limit 1 ≤ cell_limit)
    × ((n : ℕ) → n < cell_limit → (symbol_in bytes n ≡ 0 → ⊥) → n < used_from bytes 0 cell_limit 1)
used_range bytes =
    let u = used_says cell_limit 0 1 bytes (omega arith) in
    (u.least, omega (arith, u.most), λ n h d. omega (arith, u.behind n h d))

-- and the cell before C is used, unless C is 1
pub used_top : (bytes : List ℕ) → Top bytes 0 cell_limit 1 (used_from bytes 0 cell_limit 1)
used_top bytes = (used_says cell_limit 0 1 bytes (omega arith)).top

-- the kinds of cells 0 to n - 1
kinds_length : (n : ℕ) (bytes : List ℕ) → length (put_kinds n bytes) ≡ length bytes
unfolding put_kinds
kinds_length zero bytes = refl
kinds_length (suc n) bytes = kinds_length n _ ∙ length-set bytes (cell_size * n) cell_kind

kinds_other : (n : ℕ) (bytes : List ℕ) (i : ℕ) → ((k : ℕ) → i ≡ cell_size * k → ⊥) → get_or (put_kinds n bytes) i 0 ≡ get_or bytes i 0
unfolding put_kinds
kinds_other zero bytes i d = refl
kinds_other (suc n) bytes i d = kinds_other n (set bytes (cell_size * n) cell_kind) i d ∙ get_or-set_other bytes (cell_size * n) i cell_kind 0 (d n)

kinds_above : (n : ℕ) (bytes : List ℕ) (k : ℕ) → n ≤ k → kind_in (put_kinds n bytes) k ≡ kind_in bytes k
unfolding put_kinds
kinds_above zero bytes k h = refl
kinds_above (suc n) bytes k h = kinds_above n (set bytes (cell_size * n) cell_kind) k (omega arith) ∙ get_or-set_other bytes (cell_size * n) (cell_size * k) cell_kind 0 (λ e. omega (arith, e))

kinds_at : (n : ℕ) (bytes : List ℕ) (k : ℕ) → k < n → cell_size * n ≤ length bytes → kind_in (put_kinds n bytes) k ≡ cell_kind
unfolding put_kinds
kinds_at zero bytes k h l = absurd (omega arith)
kinds_at (suc n) bytes k h l = go (ℕ_discrete n k) (kinds_at n (set bytes (cell_size * n) cell_kind) k)
  where
    go : Dec (n ≡ k) → (k < n → cell_size * n ≤ length (set bytes (cell_size * n) cell_kind) → kind_in (put_kinds n (set bytes (cell_size * n) cell_kind)) k ≡ cell_kind)
        → kind_in (put_kinds n (set bytes (cell_size * n) cell_kind)) k ≡ cell_kind
    go (yes e) next =
        ap (λ (i : ℕ). kind_in (put_kinds n (set bytes (cell_size * n) cell_kind)) i) (sym e)
        ∙ kinds_above n (set bytes (cell_size * n) cell_kind) n (omega arith)
        ∙ get_or-set_same bytes (cell_size * n) cell_kind 0 (omega arith)
    go (no d) next = next (omega arith) (omega (arith, length-set bytes (cell_size * n) cell_kind))

-- The cells cut off behind the last used one. `bytes` are those of the layout with the outputs.
module _ (bytes : List ℕ) (c : ℕ) (size : length bytes ≡ cell_room) (few : c ≤ cell_limit) where
  abbrev pub cut : List ℕ
  cut = take (cell_size * c) (put_kinds c bytes)

  pub cut_length : length cut ≡ cell_size * c
  cut_length = length-take-le (cell_size * c) (put_kinds c bytes) (omega (arith, kinds_length c bytes))

  -- all but the kinds are as before
  pub cut_at : (i : ℕ) → i < cell_size * c → ((k : ℕ) → i ≡ cell_size * k → ⊥) → get_or cut i 0 ≡ get_or bytes i 0
  cut_at i h d = get_or-take (cell_size * c) (put_kinds c bytes) i 0 h ∙ kinds_other c bytes i d

  pub cut_kind : (n : ℕ) → n < c → kind_in cut n ≡ cell_kind
  cut_kind n h = get_or-take (cell_size * c) (put_kinds c bytes) (cell_size * n) 0 (omega arith) ∙ kinds_at c bytes n h (omega arith)

  cut_symbol : (n : ℕ) → n < c → symbol_in cut n ≡ symbol_in bytes n
  cut_symbol n h = cut_at (cell_size * n + 1) (omega arith) (λ k e. omega (arith, e))

  cut_link : (n : ℕ) → n < c → link_in cut n ≡ link_in bytes n
  cut_link n h = number_same cut bytes (cell_size * n + 2) (cut_at _ (omega arith) (λ k e. omega (arith, e))) (cut_at _ (omega arith) (λ k e. omega (arith, e)))

  pub cut_output : (n : ℕ) → n < c → output_in cut n ≡ output_in bytes n
  cut_output n h = number_same cut bytes (cell_size * n + 4) (cut_at _ (omega arith) (λ k e. omega (arith, e))) (cut_at _ (omega arith) (λ k e. omega (arith, e)))

  -- what stands in a used cell stays
  module _ (nodes : List Node) (below : (j s : ℕ) → j < length nodes → Goes (node nodes j) s → (node nodes j).base + s < c) where
    pub cut_owned : (site : Site) → Owned site nodes bytes → Owned site nodes cut
    cut_owned site owned = owned_moved site nodes bytes cut holds symbols owned
      where
        holds : (j s : ℕ) → j < length nodes → Goes (node nodes j) s → Holds bytes ((node nodes j).base + s) s → Holds cut ((node nodes j).base + s) s
        holds j s h g w = let l = below j s h g in record { within = omega (arith, cut_length, l); kind = cut_kind _ l; symbol = cut_symbol _ l ∙ w.symbol }

        symbols : (n : ℕ) → (symbol_in cut n ≡ 0 → ⊥) → symbol_in cut n ≡ symbol_in bytes n
        symbols n d = go (dec_lt n c)
          where
            go : Dec (n < c) → symbol_in cut n ≡ symbol_in bytes n
            go (yes h) = cut_symbol n h
            go (no h) = absurd (d (get_or-eq_default cut 0 (omega (arith, cut_length))))

    pub cut_links : Linked nodes bytes → Linked nodes cut
    cut_links = linked_moved nodes bytes cut (λ j s h g. cut_link ((node nodes j).base + s) (below j s h g))

-- the entries made, without the room behind them
module _ (made : List ℕ) (e : ℕ) (entered : Entered made e) where
  pub part_length : length (take (entry_size * e) made) ≡ entry_size * e
  part_length = length-take-le (entry_size * e) made (omega (arith, entered.size, entered.few))

  pub part_kept : Kept made (take (entry_size * e) made) e
  part_kept j h =
      entry_same (take (entry_size * e) made) made j
      (le-leb (entry_size * j) (length (take (entry_size * e) made)) (omega (arith, part_length)) ∙ sym (le-leb (entry_size * j) (length made) (omega (arith, entered.size, entered.few))))
      (λ i l. get_or-take (entry_size * e) made i 0 (omega arith))

  pub part_kind : (k : ℕ) → entry_size * k + entry_size ≤ length (take (entry_size * e) made) → get_or (take (entry_size * e) made) (entry_size * k) 0 ≡ entry_kind
  part_kind k h =
      let l : k < e = omega (arith, part_length) in
      let p : entry_size * (suc k - 1) ≡ entry_size * k = omega arith in
      get_or-take (entry_size * e) made (entry_size * k) 0 (omega arith) ∙ ap (λ (i : ℕ). get_or made i 0) (sym p) ∙ entered.kind (suc k) (omega arith) l

-- the table's parts
module _ (c e : ℕ) (bytes made : List ℕ) (cell_bytes : length (take (cell_size * c) (put_kinds c bytes)) ≡ cell_size * c) (entry_bytes : length (take (entry_size * e) made) ≡ entry_size * e) where
  abbrev table : List ℕ
  table = bytes_of c bytes made e

  head_cells : c ≡ number_at table 2
  unfolding bytes_of head_bytes two_bytes number_at
  head_cells = omega arith

  head_entries : e ≡ number_at table 4
  unfolding bytes_of head_bytes two_bytes number_at
  head_entries = omega arith

  table_length : length table ≡ 6 + 6 * c + 5 * e
  unfolding bytes_of head_bytes two_bytes
  table_length =
      let l = length-append (take (cell_size * c) (put_kinds c bytes)) (take (entry_size * e) made) in
      omega (arith, cell_bytes, entry_bytes)

  pub table_cells : cells_of table ≡ take (cell_size * c) (put_kinds c bytes)
  unfolding cells_of cells_from cell_count
  table_cells = ap (λ (n : ℕ). take (cell_size * n) (drop head_size table)) (sym head_cells) ∙ unfold bytes_of head_bytes two_bytes in take_at (take (cell_size * c) (put_kinds c bytes)) (take (entry_size * e) made) (cell_size * c) cell_bytes

  pub table_entries : entries_of table ≡ take (entry_size * e) made
  unfolding entries_of entries_from cell_count
  table_entries =
      ap (λ (n : ℕ). drop (head_size + cell_size * n) table) (sym head_cells)
      ∙ sym (drop-drop (cell_size * c) head_size table)
      ∙ unfold bytes_of head_bytes two_bytes in drop_at (take (cell_size * c) (put_kinds c bytes)) (take (entry_size * e) made) (cell_size * c) cell_bytes

  pub table_fine : 1 ≤ c → c ≤ cell_limit → e ≤ entry_limit → judge_table table ≡ Ok tt
  table_fine l m k = sym (fine_table table (omega (arith, table_length)) (unfold bytes_of head_bytes two_bytes in refl) (unfold bytes_of head_bytes two_bytes in refl) head_cells l m head_entries k table_length)
