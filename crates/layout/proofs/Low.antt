-- The low byte of every link and output that the packer writes is below 256, so that a number settles its two bytes.
use Prim.Native.Nat.{ℕ, zero, suc, ◌+◌, ◌*◌, ◌/◌, ◌%◌, ◌<◌}
use mathlib.Core.Bool.{Bool, true, false, cond}
use mathlib.Core.List.{List, [], ◌∷◌}
use mathlib.Core.Path.{◌≡◌, ap}
use native.Mathlib.Decide.{ℕ_discrete, dec_lt}
use native.Mathlib.Omega.{arith}
use lib.ListN.{length, get_or, set, take, drop, replicate, length-set}
use lib.Seq.{set_out, get_or-set_same, get_or-set_other}
use Rattle.base.specs.Limits.{symbol_limit}
use Rattle.liang.specs.Patterns.{Pattern}
use Rattle.patterns.specs.Next.{next_in, opens}
use Rattle.patterns.specs.Strings.{nth}
use Rattle.table.specs.Table.{cell_size, number_at, root_base, cell_room}
use Rattle.patterns.proofs.Sorted.{above}
use Rattle.fit.specs.Cells.{put_number, base_for, inside, put_cell, put_cells, cell_of, put_link, Layout, Full, Fits, place_at, place, layout_of, empty_layout}
use Rattle.fit.specs.Entries.{Entries, TooMany, Made, enter_pattern, Outputs, Over, Out, put_output, output_of, outputs_of}
use Rattle.fit_trie.proofs.Bytes.{cell_kept}
use Rattle.fit_trie.proofs.Passes.{zero_byte, list_kept}

-- the low bytes of links and outputs
pub record Low (bytes : List ℕ) : Type 0 where
  pub link : (n : ℕ) → get_or bytes (cell_size * n + 3) 0 < 256
  pub output : (n : ℕ) → get_or bytes (cell_size * n + 5) 0 < 256

-- a number's two bytes, the low one below 256
pub halves : (bytes : List ℕ) (at n : ℕ) → number_at bytes at ≡ n → get_or bytes (at + 1) 0 < 256 → (get_or bytes at 0 ≡ n / 256) × (get_or bytes (at + 1) 0 ≡ n % 256)
unfolding number_at
halves bytes at n e h = (omega (arith, e, h), omega (arith, e, h))

-- whatever number is put, and wherever
put_below : (at n : ℕ) (bytes : List ℕ) (i : ℕ) → (i ≡ at → ⊥) → get_or bytes i 0 < 256 → get_or (put_number at n bytes) i 0 < 256
unfolding put_number
put_below at n bytes i d h = go (ℕ_discrete i (at + 1)) (dec_lt (at + 1) (length bytes))
  where
    go : Dec (i ≡ at + 1) → Dec (at + 1 < length bytes) → get_or (set (set bytes at (n / 256)) (at + 1) (n % 256)) i 0 < 256
    go (yes e) (yes l) =
        let s = get_or-set_same (set bytes at (n / 256)) (at + 1) (n % 256) 0 (omega (arith, length-set bytes at (n / 256))) in
        omega (arith, ap (λ (j : ℕ). get_or (set (set bytes at (n / 256)) (at + 1) (n % 256)) j 0) e, s)
    go (yes e) (no l) =
        let o : set (set bytes at (n / 256)) (at + 1) (n % 256) ≡ set bytes at (n / 256) = set_out (set bytes at (n / 256)) (at + 1) (n % 256) (omega (arith, length-set bytes at (n / 256))) in
        omega (arith, ap (λ (l : List ℕ). get_or l i 0) o, get_or-set_other bytes at i (n / 256) 0 d, h)
    go (no e) l = omega (arith, get_or-set_other (set bytes at (n / 256)) (at + 1) i (n % 256) 0 e, get_or-set_other bytes at i (n / 256) 0 d, h)

low_cells : (child : ℕ → Bool) (base n s : ℕ) (bytes : List ℕ) → Low bytes → Low (put_cells child base s n bytes)
unfolding put_cells
low_cells child base zero s bytes low = low
low_cells child base (suc n) s bytes low = low_cells child base n (suc s) (cond (child s) (put_cell (base + s) s bytes) bytes) (go (child s))
  where
    go : (z : Bool) → Low (cond z (put_cell (base + s) s bytes) bytes)
    go true =
        record {
          link = λ k. omega (arith, cell_kept (base + s) s bytes (cell_size * k + 3) (λ e. omega (arith, e)) (λ e. omega (arith, e)), low.link k);
          output = λ k. omega (arith, cell_kept (base + s) s bytes (cell_size * k + 5) (λ e. omega (arith, e)) (λ e. omega (arith, e)), low.output k);
        }
    go false = low

low_link : (root : ℕ) (u : List ℕ) (base : ℕ) (bytes : List ℕ) → Low bytes → Low (put_link root u base bytes)
unfolding put_link
low_link root [] base bytes low = low
low_link root (s ∷ u) base bytes low =
    record {
      link = λ k. put_below (cell_size * cell_of bytes root (s ∷ u) + 2) base bytes (cell_size * k + 3) (λ e. omega (arith, e)) (low.link k);
      output = λ k. put_below (cell_size * cell_of bytes root (s ∷ u) + 2) base bytes (cell_size * k + 5) (λ e. omega (arith, e)) (low.output k);
    }

abbrev pub LowIn : Layout → Type 0
LowIn Full = Unit
LowIn (Fits bytes taken) = Low bytes

low_place : (m : ℕ) (own : List ℕ) (ps : List Pattern) (layout : Layout) → LowIn layout → LowIn (place root_base m own ps layout)
unfolding place place_at
low_place m own ps Full low = tt
low_place m own ps (Fits bytes taken) low = go (inside (next_in m own ps) (base_for root_base m bytes taken (next_in m own ps))) (base_for root_base m bytes taken (next_in m own ps))
  where
    go : (z : Bool) (base : ℕ) → LowIn (cond z (Fits (put_link root_base (take m own) base (put_cells (next_in m own ps) base 1 symbol_limit bytes)) (set taken base 1)) Full)
    go true base = low_link root_base (take m own) base _ (low_cells (next_in m own ps) base symbol_limit 1 bytes low)
    go false base = tt

pub layout_low : (patterns : List Pattern) → LowIn (layout_of patterns)
unfolding layout_of
layout_low patterns = list_kept root_base patterns (λ m k. LowIn) step (λ m layout low. low) empty_layout (start cell_room)
  where
    step : (m k : ℕ) → k < length patterns → (layout : Layout) → LowIn layout
        → LowIn (cond (opens m (above [] patterns k) (nth patterns k).symbols) (place root_base m (nth patterns k).symbols (drop k patterns) layout) layout)
    step m k h layout low = go (opens m (above [] patterns k) (nth patterns k).symbols)
      where
        go : (z : Bool) → LowIn (cond z (place root_base m (nth patterns k).symbols (drop k patterns) layout) layout)
        go true = low_place m (nth patterns k).symbols (drop k patterns) layout low
        go false = low

    start : (n : ℕ) → Low (replicate n 0)
    start n = record { link = λ k. omega (arith, zero_byte n (cell_size * k + 3)); output = λ k. omega (arith, zero_byte n (cell_size * k + 5)) }

abbrev pub LowOut : Outputs → Type 0
LowOut Over = Unit
LowOut (Out cs bytes count) = Low cs

low_put : (root : ℕ) (p : Pattern) (cs : List ℕ) → Low cs → (made : Entries) → LowOut (put_output root p cs made)
unfolding put_output
low_put root p cs low TooMany = tt
low_put root p cs low (Made bytes count last) =
    record {
      link = λ k. put_below (cell_size * cell_of cs root p.symbols + 4) last cs (cell_size * k + 3) (λ e. omega (arith, e)) (low.link k);
      output = λ k. put_below (cell_size * cell_of cs root p.symbols + 4) last cs (cell_size * k + 5) (λ e. omega (arith, e)) (low.output k);
    }

pub outputs_low : (root : ℕ) (ps : List Pattern) (outs : Outputs) → LowOut outs → LowOut (outputs_of root ps outs)
unfolding outputs_of
outputs_low root [] outs low = low
outputs_low root (p ∷ ps) outs low = outputs_low root ps (output_of root p outs) (go outs low)
  where
    go : (outs : Outputs) → LowOut outs → LowOut (output_of root p outs)
    go Over low = unfold output_of in tt
    go (Out cs bytes count) low = unfold output_of in low_put root p cs low (enter_pattern p (Made bytes count 0))
