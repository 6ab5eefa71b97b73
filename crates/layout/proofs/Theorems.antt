-- First fit: what the layout is, and that the packer's definition is it. The list is sorted and its patterns are those of good lines,
-- as `patterns.proofs.Good` shows of every good text.
use Prim.Native.Nat.{ℕ, suc, ◌≤◌, ◌<◌}
use mathlib.Core.Bool.{Bool, true, false, cond, ◌||◌}
use mathlib.Core.List.{List, [], ◌∷◌}
use mathlib.Core.Logic.{◌⊎◌, inl, inr, ◌↔◌}
use mathlib.Core.Path.{◌≡◌, refl, sym, ◌∙◌, ap, subst}
use native.Mathlib.Omega.{arith}
use borrow.Author.Tests.{lt-ltb, ltb-true}
use lib.Dec.{ltb}
use lib.ListN.{length, get_or, take}
use Rattle.base.specs.Limits.{level_limit, cell_limit, entry_limit}
use Rattle.base.proofs.Lists.{clash}
use Rattle.liang.specs.Patterns.{Pattern}
use Rattle.liang.specs.Levels.{begins}
use Rattle.patterns.specs.Strings.{nth, Shaped, Sorted}
use Rattle.patterns.proofs.Strings.{begins_more}
use Rattle.fit.specs.Table.{NoRoom, Packed, first_fit}
use Rattle.layout.specs.Bases.{Based, goes_on, used_by, uses_cell, fits_at, least_base, bases_of, cells_needed}
use Rattle.layout.specs.FirstFit.{root, based, Ascends, Least, FirstFit}
use Rattle.layout.specs.Entries.{entries_needed}
use Rattle.layout.specs.Table.{layout_table}
use Rattle.layout.proofs.Nodes.{line_goes, symbolic}
use Rattle.layout.proofs.Search.{reach_enough}
use Rattle.layout.proofs.Needed.{top_highest}
use Rattle.layout.proofs.Bases.{paths_once, bases_once, cells_once, layout_first_fit, layout_only}
use Rattle.layout.proofs.Packed.{fit_of, over_any, fit_is_layout}

-- The list is sorted and its patterns are those of good lines.
module _ (patterns : List Pattern) (sorted : Sorted patterns) (shaped : (i : ℕ) → i < length patterns → Shaped (nth patterns i)) where
  -- All that document 01 says of the bases holds of the layout, and of no other.
  pub layout_is_first_fit : (bases : List Based) → FirstFit patterns bases ↔ (bases ≡ bases_of patterns)
  layout_is_first_fit bases = (layout_only patterns sorted shaped bases, λ e. subst (FirstFit patterns) (sym e) (layout_first_fit patterns sorted shaped))

  -- "the root first with base 0": where the list is not empty.
  pub root_first : 0 < length patterns → (0 < length (bases_of patterns)) × (based (bases_of patterns) 0 ≡ root)
  root_first h =
      let some = go (nth patterns 0).symbols refl in
      (some, (layout_first_fit patterns sorted shaped).rooted some)
    where
      go : (own : List ℕ) → (nth patterns 0).symbols ≡ own → 0 < length (bases_of patterns)
      go [] e = absurd (omega (arith, (shaped 0 h).some, ap length e))
      go (x ∷ own) e =
          let g = line_goes [] x patterns 0 h (ap (begins (x ∷ [])) e ∙ begins_more x [] own (unfold begins in refl)) in
          let w = ((layout_first_fit patterns sorted shaped).every [] x g).1.0 in
          omega (arith, w)

  -- "Each later path with continuations gets the smallest base from 1 up which no path has and whose needed cells are all free."
  pub least_base_lem : (i : ℕ) → 0 < i → i < length (bases_of patterns)
      → Least patterns (take i (bases_of patterns)) (based (bases_of patterns) i).path (based (bases_of patterns) i).base
  least_base_lem = (layout_first_fit patterns sorted shaped).later

  -- The search for it ends nowhere too early: among any paths, what it finds fits.
  pub finite_reach : (placed : List Based) (u : List ℕ) → fits_at patterns placed u (least_base patterns placed u) ≡ true
  finite_reach = reach_enough patterns (symbolic patterns shaped)

  -- "Paths by length, then symbol order".
  pub in_order : (i j : ℕ) → i < j → j < length (bases_of patterns) → Ascends (based (bases_of patterns) i).path (based (bases_of patterns) j).path
  in_order = (layout_first_fit patterns sorted shaped).order

  -- No path stands twice.
  pub each_once : (i j : ℕ) → i < length (bases_of patterns) → j < length (bases_of patterns)
      → (based (bases_of patterns) i).path ≡ (based (bases_of patterns) j).path → i ≡ j
  each_once = paths_once patterns (bases_of patterns) (layout_first_fit patterns sorted shaped)

  -- No two paths have one base, which would let each read the other's cells, and no two use one cell.
  pub own_base : (i j : ℕ) → i < length (bases_of patterns) → j < length (bases_of patterns)
      → (based (bases_of patterns) i).base ≡ (based (bases_of patterns) j).base → i ≡ j
  own_base = bases_once patterns (symbolic patterns shaped) (bases_of patterns) (layout_first_fit patterns sorted shaped)

  pub own_cells : (n i j : ℕ) → i < length (bases_of patterns) → j < length (bases_of patterns)
      → used_by patterns n (based (bases_of patterns) i) ≡ true → used_by patterns n (based (bases_of patterns) j) ≡ true → i ≡ j
  own_cells = cells_once patterns (symbolic patterns shaped) (bases_of patterns) (layout_first_fit patterns sorted shaped)

  -- The paths are exactly the strings behind which some pattern goes on.
  pub every_path : (u : List ℕ) → ((i : ℕ) × ((i < length (bases_of patterns)) × ((based (bases_of patterns) i).path ≡ u))) ↔ ((s : ℕ) × (goes_on patterns u s ≡ true))
  every_path u = (
    λ w. subst (λ (v : List ℕ). (s : ℕ) × (goes_on patterns v s ≡ true)) w.1.1 ((layout_first_fit patterns sorted shaped).goes w.0 w.1.0),
    λ g. (layout_first_fit patterns sorted shaped).every u g.0 g.1,
  )

  -- "C is the highest used cell + 1, or 1 if none."
  pub highest_cell : ((n : ℕ) → uses_cell patterns n (bases_of patterns) ≡ true → n < cells_needed patterns)
      × ((cells_needed patterns ≡ 1) ⊎ ((n : ℕ) × ((suc n ≡ cells_needed patterns) × (uses_cell patterns n (bases_of patterns) ≡ true))))
  unfolding cells_needed
  highest_cell = top_highest patterns (symbolic patterns shaped) (bases_of patterns)

-- Levels are up to 9 besides.
module _ (patterns : List Pattern) (sorted : Sorted patterns) (shaped : (i : ℕ) → i < length patterns → Shaped (nth patterns i))
    (low : (i : ℕ) → i < length patterns → (gap : ℕ) → get_or (nth patterns i).levels gap 0 ≤ level_limit) where
  -- The packer's first fit is this layout written out, and ground 11, "first fit needs C over 8,192 or E over 2,048".
  pub first_fit_is_layout : first_fit patterns ≡ cond (ltb cell_limit (cells_needed patterns) || ltb entry_limit (entries_needed patterns)) NoRoom (Packed (layout_table patterns))
  first_fit_is_layout = fit_is_layout patterns sorted shaped low

  -- There is no room exactly where the layout, which knows no limits, passes one.
  pub no_room_exactly : (first_fit patterns ≡ NoRoom) ↔ ((cell_limit < cells_needed patterns) ⊎ (entry_limit < entries_needed patterns))
  no_room_exactly = (
    λ e. over (ltb cell_limit (cells_needed patterns)) refl (ltb entry_limit (entries_needed patterns)) refl (sym first_fit_is_layout ∙ e),
    λ h. first_fit_is_layout ∙ none_fits h,
  )
    where
      over : (a : Bool) → ltb cell_limit (cells_needed patterns) ≡ a → (b : Bool) → ltb entry_limit (entries_needed patterns) ≡ b → fit_of patterns a b ≡ NoRoom
          → (cell_limit < cells_needed patterns) ⊎ (entry_limit < entries_needed patterns)
      over true p b q e = inl (ltb-true cell_limit (cells_needed patterns) p)
      over false p true q e = inr (ltb-true entry_limit (entries_needed patterns) q)
      over false p false q e = clash cc

      none_fits : (cell_limit < cells_needed patterns) ⊎ (entry_limit < entries_needed patterns)
          → fit_of patterns (ltb cell_limit (cells_needed patterns)) (ltb entry_limit (entries_needed patterns)) ≡ NoRoom
      none_fits (inl h) = rw (lt-ltb cell_limit (cells_needed patterns) h)
      none_fits (inr h) = ap (fit_of patterns (ltb cell_limit (cells_needed patterns))) (lt-ltb entry_limit (entries_needed patterns) h) ∙ over_any patterns (ltb cell_limit (cells_needed patterns))

  -- A table that is packed is the layout's in every byte.
  pub packed_is_layout : (table : List ℕ) → first_fit patterns ≡ Packed table → table ≡ layout_table patterns
  packed_is_layout table e = go (ltb cell_limit (cells_needed patterns)) (ltb entry_limit (entries_needed patterns)) (sym e ∙ first_fit_is_layout)
    where
      go : (a b : Bool) → Packed table ≡ fit_of patterns a b → table ≡ layout_table patterns
      go true b q = clash cc
      go false true q = clash cc
      go false false q = cc
