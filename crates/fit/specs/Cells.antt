-- First fit: where the cells of a list's paths go. Cells are written into a list of bytes, 6 bytes a cell; a cell is free while its
-- symbol byte is 0. `taken` has a mark for each base that a path has. The list's root base is given, and so is the layout that the
-- list's paths are placed into: one list in an empty layout is edition 1.
use Rattle.std.specs.Prelude.{ℕ, zero, suc, ◌+◌, ◌*◌, ◌-◌, Bool, cond, not, ◌&&◌, ◌||◌, List, [], ◌∷◌, ltb, eqb, get_or, set, take, drop, replicate}
use Rattle.base.specs.Limits.{symbol_limit, pattern_limit, cell_limit}
use Rattle.liang.specs.Patterns.{Pattern}
use Rattle.table.specs.Table.{cell_kind, cell_size, cell_room, root_base, number_at}
unfoldable pub use Rattle.table.specs.Table.{put_number}
use Rattle.patterns.specs.Next.{next_in, opens}
use Rattle.base.specs.Tests.{all_from, smallest}

unfoldable pub is_free : List ℕ → ℕ → Bool
is_free bytes n = eqb (get_or bytes (cell_size * n + 1) 0) 0

-- Does a base serve a path that goes on with these symbols? One "which no path has and whose needed cells are all free".
unfoldable pub serves : List ℕ → List ℕ → (ℕ → Bool) → ℕ → Bool
serves bytes taken child base = eqb (get_or taken base 0) 0 && all_from (λ s. not (child s) || is_free bytes (base + s)) 1 symbol_limit

-- "the root first with base 0": the root's base is given. "Each later path with continuations gets the smallest base from 1 up which no path has and whose
-- needed cells are all free." `m` is the path's length.
unfoldable pub base_for : ℕ → ℕ → List ℕ → List ℕ → (ℕ → Bool) → ℕ
base_for root m bytes taken child =
    let found = smallest (serves bytes taken child) 1 (cell_limit - 1) in
    cond (eqb m 0) root found

-- Are all the cells that a base needs below 8,192? Where one is not, the finished layout has C over 8,192: cells are only added.
unfoldable pub inside : (ℕ → Bool) → ℕ → Bool
inside child base = all_from (λ s. not (child s) || ltb (base + s) cell_limit) 1 symbol_limit

-- A cell with its kind and symbol; link and output are 0 as yet.
unfoldable pub put_cell : ℕ → ℕ → List ℕ → List ℕ
put_cell n s bytes = set (set bytes (cell_size * n) cell_kind) (cell_size * n + 1) s

-- The cells of a path's continuations, n symbols from s on.
unfoldable pub put_cells : (ℕ → Bool) → ℕ → ℕ → ℕ → List ℕ → List ℕ
put_cells child base s zero bytes = bytes
put_cells child base s (suc n) bytes = put_cells child base (suc s) n (cond (child s) (put_cell (base + s) s bytes) bytes)

-- The number of the cell that a string's last symbol has, walked by links from a base.
unfoldable pub cell_of : List ℕ → ℕ → List ℕ → ℕ
cell_of bytes base [] = 0
cell_of bytes base (s ∷ []) = base + s
cell_of bytes base (s ∷ (x ∷ u)) = cell_of bytes (number_at bytes (cell_size * (base + s) + 2)) (x ∷ u)

-- A path's base written as the link of its last cell. The root has none.
unfoldable pub put_link : ℕ → List ℕ → ℕ → List ℕ → List ℕ
put_link root [] base bytes = bytes
put_link root (s ∷ u) base bytes = put_number (cell_size * cell_of bytes root (s ∷ u) + 2) base bytes

-- The layout so far, or that it needs too many cells.
pub data Layout : Type 0 where
  Full : Layout
  Fits : List ℕ → List ℕ → Layout

-- The path of the first m symbols of `own` gets its base; the patterns are those from the first that goes on behind it.
unfoldable pub place_at : ℕ → ℕ → List ℕ → (ℕ → Bool) → ℕ → List ℕ → List ℕ → Layout
place_at root m own child base bytes taken =
    cond (inside child base) (Fits (put_link root (take m own) base (put_cells child base 1 symbol_limit bytes)) (set taken base 1)) Full

unfoldable pub place : ℕ → ℕ → List ℕ → List Pattern → Layout → Layout
place root m own patterns Full = Full
place root m own patterns (Fits bytes taken) = place_at root m own (next_in m own patterns) (base_for root m bytes taken (next_in m own patterns)) bytes taken

-- "Paths by length, then symbol order": all paths of m symbols that have continuations, in the list's order.
unfoldable pub place_length : ℕ → ℕ → List ℕ → List Pattern → Layout → Layout
place_length root m above [] layout = layout
place_length root m above (p ∷ rest) layout =
    place_length root m p.symbols rest (cond (opens m above p.symbols) (place root m p.symbols (p ∷ rest) layout) layout)

-- n lengths from m on.
unfoldable pub place_lengths : ℕ → ℕ → ℕ → List Pattern → Layout → Layout
place_lengths root m zero patterns layout = layout
place_lengths root m (suc n) patterns layout = place_lengths root (suc m) n patterns (place_length root m [] patterns layout)

-- A whole list's paths placed into a layout: paths with continuations have at most 15 symbols.
abbrev pub place_list : ℕ → List Pattern → Layout → Layout
place_list root patterns layout = place_lengths root 0 pattern_limit patterns layout

-- No cell used and no base taken.
abbrev pub empty_layout : Layout
empty_layout = Fits (replicate cell_room 0) (replicate cell_limit 0)

-- The cells of one list.
unfoldable pub layout_of : List Pattern → Layout
layout_of patterns = place_list root_base patterns empty_layout

-- "C is the highest used cell + 1, or 1 if none": n cells from number k on, of which the bytes are given; `c` is so far.
unfoldable pub used_from : List ℕ → ℕ → ℕ → ℕ → ℕ
used_from bytes k zero c = c
used_from bytes k (suc n) c = used_from (drop cell_size bytes) (suc k) n (cond (is_free bytes 0) c (suc k))
