-- First fit over an alphabet of n symbols: the definitions of Cells.antt in which the number of symbols stands, with that number as an
-- argument. Over all 28 they are those of Cells.antt; over 27 they are first fit as it was before CR 5.
use Rattle.std.specs.Prelude.{ℕ, zero, suc, ◌+◌, ◌-◌, Bool, cond, not, ◌&&◌, ◌||◌, List, [], ◌∷◌, ltb, eqb, get_or, set, take}
use Rattle.base.specs.Limits.{pattern_limit, cell_limit}
use Rattle.base.specs.Tests.{all_from, smallest}
use Rattle.liang.specs.Patterns.{Pattern}
use Rattle.table.specs.Table.{root_base}
use Rattle.patterns.specs.Next.{next_in, opens}
use Rattle.fit.specs.Cells.{is_free, put_cells, put_link, Layout, Full, Fits, empty_layout}
use Rattle.fit.specs.Table.{Fit, fit_layout}

-- Document 01's symbols, before CR 5: "a to z are 1 to 26. The word's edge .. is 27."
abbrev pub symbols_before : ℕ
symbols_before = 27

unfoldable pub serves_over : ℕ → List ℕ → List ℕ → (ℕ → Bool) → ℕ → Bool
serves_over n bytes taken child base = eqb (get_or taken base 0) 0 && all_from (λ s. not (child s) || is_free bytes (base + s)) 1 n

unfoldable pub base_over : ℕ → ℕ → ℕ → List ℕ → List ℕ → (ℕ → Bool) → ℕ
base_over n root m bytes taken child =
    let found = smallest (serves_over n bytes taken child) 1 (cell_limit - 1) in
    cond (eqb m 0) root found

unfoldable pub inside_over : ℕ → (ℕ → Bool) → ℕ → Bool
inside_over n child base = all_from (λ s. not (child s) || ltb (base + s) cell_limit) 1 n

unfoldable pub place_at_over : ℕ → ℕ → ℕ → List ℕ → (ℕ → Bool) → ℕ → List ℕ → List ℕ → Layout
place_at_over n root m own child base bytes taken =
    cond (inside_over n child base) (Fits (put_link root (take m own) base (put_cells child base 1 n bytes)) (set taken base 1)) Full

unfoldable pub place_over : ℕ → ℕ → ℕ → List ℕ → List Pattern → Layout → Layout
place_over n root m own patterns Full = Full
place_over n root m own patterns (Fits bytes taken) =
    place_at_over n root m own (next_in m own patterns) (base_over n root m bytes taken (next_in m own patterns)) bytes taken

unfoldable pub place_length_over : ℕ → ℕ → ℕ → List ℕ → List Pattern → Layout → Layout
place_length_over n root m above [] layout = layout
place_length_over n root m above (p ∷ rest) layout =
    place_length_over n root m p.symbols rest (cond (opens m above p.symbols) (place_over n root m p.symbols (p ∷ rest) layout) layout)

unfoldable pub place_lengths_over : ℕ → ℕ → ℕ → ℕ → List Pattern → Layout → Layout
place_lengths_over n root m zero patterns layout = layout
place_lengths_over n root m (suc k) patterns layout = place_lengths_over n root (suc m) k patterns (place_length_over n root m [] patterns layout)

-- The first-fit table of a list over the symbols 1 to n.
unfoldable pub first_fit_over : ℕ → List Pattern → Fit
first_fit_over n patterns = fit_layout patterns (place_lengths_over n root_base 0 pattern_limit patterns empty_layout)
