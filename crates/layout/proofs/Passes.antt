-- The packer's passes and the paths in their order, step by step: each path gets the same base, or needs a cell past the last.
use Prim.Native.Nat.{ℕ, suc, ◌+◌, ◌-◌, ◌≤◌, ◌<◌}
use mathlib.Core.Bool.{Bool, true, false, cond}
use mathlib.Core.List.{List, [], ◌∷◌, ◌++◌}
use mathlib.Core.Path.{◌≡◌, refl, sym, ◌∙◌, ap, subst}
use native.Mathlib.Decide.{ℕ_discrete, dec_lt}
use native.Mathlib.Omega.{arith}
use borrow.Author.Tests.{eq-eqb, ne_eqb, le-ltb}
use lib.Dec.{eqb}
use lib.ListN.{length, get_or, set, take, drop, drop_of_length-le}
use lib.Seq.{drop-cons}
use Rattle.base.specs.Limits.{symbol_limit, pattern_limit, cell_limit}
use Rattle.base.proofs.Lists.{never}
use Rattle.lines.specs.Lines.{is_nil}
use Rattle.liang.specs.Patterns.{Pattern}
use Rattle.patterns.specs.Next.{next_in, opens}
use Rattle.table.specs.Table.{root_base}
use Rattle.patterns.specs.Strings.{nth, no_pattern, Shaped, Sorted}
use Rattle.patterns.proofs.Strings.{most_all}
use Rattle.base.specs.Tests.{smallest}
use Rattle.patterns.proofs.Sorted.{above}
use Rattle.fit.specs.Cells.{Layout, Full, Fits, serves, base_for, inside, put_cells, put_link, place_at, place, layout_of, empty_layout}
use Rattle.fit_trie.proofs.Nodes.{Node}
use Rattle.fit_trie.proofs.Search.{inside_says}
use Rattle.fit_trie.proofs.Opened.{goes_beginning, beginning_goes}
use Rattle.fit_trie.proofs.Passes.{Passing, size, new_opened, own_goes, place_inside, place_none, next_pass, passing_start, list_kept, empty_site, empty_sited, root_clear}
use Rattle.layout.specs.Bases.{Based, goes_on, fits_at, least_base, next_base, paths_at, paths_from, longest_length, paths_of, place_all, bases_of, top_of, cells_needed}
use Rattle.layout.proofs.Nodes.{goes_says, says_goes, symbolic, based_of, Paired, paired_none, paired_more, same_fit}
use Rattle.layout.proofs.Search.{same_found}
use Rattle.layout.proofs.Needed.{top_more, top_over, not_inside}

-- no pattern opens a path as long as the longest
pub none_opens : (m : ℕ) (a own : List ℕ) → length own ≤ m → opens m a own ≡ false
unfolding opens
none_opens m a own h = rw (le-ltb m (length own) h)

pub none_at : (m : ℕ) (a : List ℕ) (ps : List Pattern) → longest_length ps ≤ m → paths_at m a ps ≡ []
unfolding paths_at longest_length
none_at m a [] h = refl
none_at m a (p ∷ ps) h = rw (none_opens m a p.symbols (omega arith)) (none_at m p.symbols ps (omega arith))

-- the paths from m symbols up
abbrev pub paths_up : List Pattern → ℕ → List (List ℕ)
paths_up patterns m = paths_from m (longest_length patterns - m) patterns

pub paths_turn : (patterns : List Pattern) (m : ℕ) → paths_up patterns m ≡ paths_at m [] patterns ++ paths_up patterns (suc m)
unfolding paths_from
paths_turn patterns m = go (dec_lt m (longest_length patterns))
  where
    go : Dec (m < longest_length patterns) → paths_up patterns m ≡ paths_at m [] patterns ++ paths_up patterns (suc m)
    go (yes h) = let e : longest_length patterns - m ≡ suc (longest_length patterns - suc m) = omega arith in rw e
    go (no h) =
        let e : longest_length patterns - m ≡ 0 = omega arith in
        let f : longest_length patterns - suc m ≡ 0 = omega arith in
        rw (e, f, none_at m [] patterns (omega arith))

pub paths_end : (patterns : List Pattern) (m : ℕ) → longest_length patterns ≤ m → paths_up patterns m ≡ []
unfolding paths_from
paths_end patterns m h = let e : longest_length patterns - m ≡ 0 = omega arith in rw e

pub longest_most : (patterns : List Pattern) (limit : ℕ) → ((i : ℕ) → i < length patterns → length (nth patterns i).symbols ≤ limit) → longest_length patterns ≤ limit
unfolding longest_length
longest_most = most_all (λ p. length p.symbols) longest_length refl (λ p ps. refl)

-- one path placed
abbrev pub based_next : List Pattern → List Based → List ℕ → Based
based_next patterns placed u = record { path = u; base = next_base patterns placed u }

module _ (patterns : List Pattern) (sorted : Sorted patterns) (shaped : (i : ℕ) → i < length patterns → Shaped (nth patterns i)) where
  -- The packer's layout so far and the paths placed so far. A layout that is full has a path that needs a cell past the last.
  abbrev Agrees : ℕ → ℕ → List Based → Layout → Type 0
  Agrees m k placed Full = cell_limit < top_of patterns placed
  Agrees m k placed (Fits bytes taken) = (nodes : List Node) × (Passing empty_site patterns m k nodes bytes taken × Paired nodes placed)

  module _ (m k : ℕ) (within : k < length patterns) (placed : List Based) (nodes : List Node) (bytes taken : List ℕ) (now : Passing empty_site patterns m k nodes bytes taken)
      (paired : Paired nodes placed) (opening : opens m (above [] patterns k) (nth patterns k).symbols ≡ true) where
    abbrev own : List ℕ
    own = (nth patterns k).symbols

    abbrev child : ℕ → Bool
    child = next_in m own (drop k patterns)

    abbrev found : ℕ
    found = base_for root_base m bytes taken child

    abbrev new : ℕ → Node
    new base = record { path = take m own; base = base; child = child; opener = k }

    abbrev next : Based
    next = based_next patterns placed (take m own)

    -- the path goes on in the list as the scan from its opener says
    same_child : (s : ℕ) → 1 ≤ s → s ≤ symbol_limit → child s ≡ goes_on patterns (take m own) s
    same_child s h l = go (child s) refl (goes_on patterns (take m own) s) refl
      where
        go : (a : Bool) → child s ≡ a → (b : Bool) → goes_on patterns (take m own) s ≡ b → a ≡ b
        go true p true q = refl
        go false p false q = refl
        go true p false q =
            never (sym q ∙ says_goes patterns (take m own) s
            (goes_beginning patterns (new 0) (new_opened empty_site empty_sited patterns sorted shaped (root_clear patterns) m k within nodes bytes taken now opening 0) s (record { low = h; high = l; goes = p })))
        go false p true q =
            never (sym p ∙ (beginning_goes patterns (new 0) (new_opened empty_site empty_sited patterns sorted shaped (root_clear patterns) m k within nodes bytes taken now opening 0) sorted s h l (goes_says patterns (take m own) s q)).goes)

    same_serves : (b : ℕ) → serves bytes taken child b ≡ fits_at patterns placed (take m own) b
    same_serves = same_fit patterns sorted (symbolic patterns shaped) nodes now.opened bytes taken now.laid placed paired (take m own) child same_child

    not_root : (m ≡ 0 → ⊥) → next.base ≡ least_base patterns placed (take m own)
    unfolding next_base
    not_root d = go (take m own) (size empty_site empty_sited patterns sorted shaped (root_clear patterns) m k within nodes bytes taken now opening)
      where
        go : (u : List ℕ) → length u ≡ m → cond (is_nil u) root_base (least_base patterns placed (take m own)) ≡ least_base patterns placed (take m own)
        go [] e = absurd (d (sym e))
        go (x ∷ u) e = unfold is_nil in refl

    is_root : m ≡ 0 → next.base ≡ 0
    unfolding next_base is_nil
    is_root z = ap (λ (i : ℕ). next_base patterns placed (take i own)) z

    -- the base found in the bytes is the path's, unless that needs a cell past the last
    record Agreed (b : ℕ) : Type 0 where
      equal : inside child b ≡ true → b ≡ next.base
      over : inside child b ≡ false → cell_limit < top_of patterns (placed ++ (next ∷ []))

    -- a needed cell that lies past the last
    past : (b : ℕ) → b ≡ next.base → inside child b ≡ false → cell_limit < top_of patterns (placed ++ (next ∷ []))
    past b q e =
        let w = not_inside child b e in
        let g = sym (same_child w.0 w.1.0 w.1.1.0) ∙ w.1.1.1.0 in
        let t = top_over patterns next placed w.0 w.1.0 w.1.1.0 g in
        omega (arith, t, w.1.1.1.1, q)

    far : cell_limit ≤ next.base → cell_limit < top_of patterns (placed ++ (next ∷ []))
    far h =
        let g = own_goes empty_site empty_sited patterns sorted shaped (root_clear patterns) m k within nodes bytes taken now opening 0 in
        let t = top_over patterns next placed (get_or own m 0) g.low g.high (sym (same_child (get_or own m 0) g.low g.high) ∙ g.goes) in
        omega (arith, t, h)

    agreed : Agreed found
    unfolding base_for
    agreed = go (ℕ_discrete m 0)
      where
        least : ℕ
        least = smallest (serves bytes taken child) 1 (cell_limit - 1)

        low : inside child least ≡ true → least < cell_limit
        low e = let g = own_goes empty_site empty_sited patterns sorted shaped (root_clear patterns) m k within nodes bytes taken now opening least in omega (arith, inside_says child least e (get_or own m 0) g.low g.high g.goes)

        searched : (least < 1 + (cell_limit - 1) → least ≡ least_base patterns placed (take m own)) × (1 + (cell_limit - 1) ≤ least → 1 + (cell_limit - 1) ≤ least_base patterns placed (take m own))
        searched = same_found patterns (symbolic patterns shaped) placed (take m own) (serves bytes taken child) same_serves (cell_limit - 1)

        go : Dec (m ≡ 0) → Agreed (cond (eqb m 0) root_base least)
        go (yes z) = rw (eq-eqb m 0 z) (record { equal = λ e. sym (is_root z); over = past root_base (sym (is_root z)) })
        go (no d) =
            rw (ne_eqb m 0 d)
            (record {
              equal = λ e. searched.0 (omega (arith, low e)) ∙ sym (not_root d);
              over = λ e. either (dec_lt least cell_limit) e;
            })
          where
            either : Dec (least < cell_limit) → inside child least ≡ false → cell_limit < top_of patterns (placed ++ (next ∷ []))
            either (yes l) e = past least (searched.0 (omega (arith, l)) ∙ sym (not_root d)) e
            either (no l) e = far (omega (arith, not_root d, searched.1 (omega (arith, l))))

    place_agrees : Agrees m (suc k) (placed ++ (next ∷ [])) (place root_base m own (drop k patterns) (Fits bytes taken))
    unfolding place place_at
    place_agrees = go (inside child found) refl
      where
        go : (z : Bool) → inside child found ≡ z → Agrees m (suc k) (placed ++ (next ∷ [])) (cond z (Fits (put_link root_base (take m own) found (put_cells child found 1 symbol_limit bytes)) (set taken found 1)) Full)
        go false e = agreed.over e
        go true e =
            let q = agreed.equal e in
            let x : next ≡ based_of (new found) = ap (λ (b : ℕ). record { path = take m own; base = b }) (sym q) in
            (new found ∷ nodes, (place_inside empty_site empty_sited patterns sorted shaped (root_clear patterns) m k within nodes bytes taken now opening e, paired_more nodes placed (new found) next x paired))

  -- Before pattern k of the pass for m symbols: the paths still to be placed, behind those placed, make the whole layout.
  record Going (m k : ℕ) (layout : Layout) : Type 0 where
    placed : List Based
    left : bases_of patterns ≡ place_all patterns (paths_at m (above [] patterns k) (drop k patterns) ++ paths_up patterns (suc m)) placed
    agrees : Agrees m k placed layout

  abbrev placed_line : ℕ → ℕ → Bool → List Based → List Based
  placed_line m k z placed = cond z (placed ++ (based_next patterns placed (take m (nth patterns k).symbols) ∷ [])) placed

  line_turn : (m k : ℕ) (placed : List Based) (later : List (List ℕ)) → k < length patterns
      → place_all patterns (paths_at m (above [] patterns k) (drop k patterns) ++ later) placed
      ≡ place_all patterns (paths_at m (above [] patterns (suc k)) (drop (suc k) patterns) ++ later) (placed_line m k (opens m (above [] patterns k) (nth patterns k).symbols) placed)
  unfolding paths_at place_all
  line_turn m k placed later h =
      ap (λ (ps : List Pattern). place_all patterns (paths_at m (above [] patterns k) ps ++ later) placed) (drop-cons patterns k no_pattern h)
      ∙ go (opens m (above [] patterns k) (nth patterns k).symbols)
    where
      go : (z : Bool)
          → place_all patterns
          (cond z (take m (nth patterns k).symbols ∷ paths_at m (nth patterns k).symbols (drop (suc k) patterns)) (paths_at m (nth patterns k).symbols (drop (suc k) patterns)) ++ later) placed
          ≡ place_all patterns (paths_at m (nth patterns k).symbols (drop (suc k) patterns) ++ later) (placed_line m k z placed)
      go true = refl
      go false = refl

  agrees_step : (m k : ℕ) → k < length patterns → (placed : List Based) (layout : Layout) → Agrees m k placed layout
      → Agrees m (suc k) (placed_line m k (opens m (above [] patterns k) (nth patterns k).symbols) placed)
      (cond (opens m (above [] patterns k) (nth patterns k).symbols) (place root_base m (nth patterns k).symbols (drop k patterns) layout) layout)
  agrees_step m k h placed layout now = go (opens m (above [] patterns k) (nth patterns k).symbols) refl layout now
    where
      go : (z : Bool) → opens m (above [] patterns k) (nth patterns k).symbols ≡ z → (layout : Layout) → Agrees m k placed layout
          → Agrees m (suc k) (placed_line m k z placed) (cond z (place root_base m (nth patterns k).symbols (drop k patterns) layout) layout)
      go true e Full now = unfold place in omega (arith, now, top_more patterns (based_next patterns placed (take m (nth patterns k).symbols)) placed)
      go true e (Fits bytes taken) now = place_agrees m k h placed now.0 bytes taken now.1.0 now.1.1 e
      go false e Full now = now
      go false e (Fits bytes taken) now = (now.0, (place_none empty_site empty_sited patterns sorted shaped (root_clear patterns) m k h now.0 bytes taken e now.1.0, now.1.1))

  going_step : (m k : ℕ) → k < length patterns → (layout : Layout) → Going m k layout
      → Going m (suc k) (cond (opens m (above [] patterns k) (nth patterns k).symbols) (place root_base m (nth patterns k).symbols (drop k patterns) layout) layout)
  going_step m k h layout now =
      record {
        placed = placed_line m k (opens m (above [] patterns k) (nth patterns k).symbols) now.placed;
        left = now.left ∙ line_turn m k now.placed (paths_up patterns (suc m)) h;
        agrees = agrees_step m k h now.placed layout now.agrees;
      }

  agrees_next : (m : ℕ) (placed : List Based) (layout : Layout) → Agrees m (length patterns) placed layout → Agrees (suc m) 0 placed layout
  agrees_next m placed Full now = now
  agrees_next m placed (Fits bytes taken) now = (now.0, (next_pass empty_site empty_sited patterns sorted shaped (root_clear patterns) m now.0 bytes taken now.1.0, now.1.1))

  none_left : (m : ℕ) (a : List ℕ) → paths_at m a [] ++ paths_up patterns (suc m) ≡ paths_up patterns (suc m)
  unfolding paths_at
  none_left m a = refl

  going_next : (m : ℕ) (layout : Layout) → Going m (length patterns) layout → Going (suc m) 0 layout
  going_next m layout now =
      let h : length patterns ≤ length patterns = omega arith in
      let d : drop (length patterns) patterns ≡ [] = drop_of_length-le patterns h in
      record {
        placed = now.placed;
        left = now.left
            ∙ ap (λ (ps : List Pattern). place_all patterns (paths_at m (above [] patterns (length patterns)) ps ++ paths_up patterns (suc m)) now.placed) d
            ∙ ap (λ (us : List (List ℕ)). place_all patterns us now.placed) (none_left m (above [] patterns (length patterns)) ∙ paths_turn patterns (suc m));
        agrees = agrees_next m now.placed layout now.agrees;
      }

  place_end : (placed : List Based) → place_all patterns [] placed ≡ placed
  unfolding place_all
  place_end placed = refl

  all_left : bases_of patterns ≡ place_all patterns (paths_at 0 [] patterns ++ paths_up patterns 1) []
  unfolding bases_of paths_of
  all_left =
      let e : longest_length patterns ≡ longest_length patterns - 0 = omega arith in
      ap (λ (n : ℕ). place_all patterns (paths_from 0 n patterns) []) e ∙ ap (λ (us : List (List ℕ)). place_all patterns us []) (paths_turn patterns 0)

  going_start : Going 0 0 empty_layout
  going_start = record { placed = []; left = all_left; agrees = ([], (passing_start empty_site empty_sited patterns sorted shaped (root_clear patterns), paired_none)) }

  -- What the packer's layout is of the whole: full only where C is over 8,192, else the same paths with the same bases.
  abbrev pub Whole : Layout → Type 0
  Whole Full = cell_limit < cells_needed patterns
  Whole (Fits bytes taken) = (nodes : List Node) × (Passing empty_site patterns pattern_limit 0 nodes bytes taken × Paired nodes (bases_of patterns))

  going_end : (layout : Layout) → Going pattern_limit 0 layout → Whole layout
  going_end layout now = go layout now.agrees
    where
      all : bases_of patterns ≡ now.placed
      all =
          now.left
          ∙ ap (λ (us : List (List ℕ)). place_all patterns us now.placed)
          (sym (paths_turn patterns pattern_limit) ∙ paths_end patterns pattern_limit (longest_most patterns pattern_limit (λ i h. (shaped i h).short)))
          ∙ place_end now.placed

      go : (layout : Layout) → Agrees pattern_limit 0 now.placed layout → Whole layout
      go Full p = unfold cells_needed in rw all p
      go (Fits bytes taken) p = (p.0, (p.1.0, subst (λ (x : List Based). Paired p.0 x) (sym all) p.1.1))

  pub layout_whole : Whole (layout_of patterns)
  unfolding layout_of
  layout_whole = going_end (layout_of patterns) (list_kept root_base patterns Going going_step going_next empty_layout going_start)
