-- The packer's cells, one by one: each holds what the layout says of it.
use Prim.Native.Nat.{ℕ, zero, suc, ◌+◌, ◌-◌, ◌≤◌, ◌<◌}
use mathlib.Core.Bool.{Bool, true, false, cond}
use mathlib.Core.List.{List, [], ◌∷◌}
use mathlib.Core.Logic.{◌⊎◌, inl, inr}
use mathlib.Core.Path.{◌≡◌, refl, sym, ◌∙◌, ap, subst}
use native.Mathlib.Decide.{ℕ_discrete}
use native.Mathlib.Omega.{arith}
use lib.ListN.{length}
use Rattle.base.specs.Limits.{pattern_limit, cell_limit}
use Rattle.base.proofs.Lists.{never, same_true, same_self}
use Rattle.lines.specs.Order.{before}
use Rattle.lines.proofs.Order.{before_self}
use Rattle.base.specs.Tests.{same_list}
use Rattle.liang.specs.Patterns.{Pattern}
use Rattle.patterns.specs.Strings.{nth, Shaped, Sorted}
use Rattle.table.specs.Table.{root_base}
use Rattle.patterns.proofs.Strings.{Found, search_pattern, ◌▸◌}
use Rattle.fit.specs.Cells.{used_from}
use Rattle.fit.specs.Entries.{Over, Out, outputs_of, empty_entries}
use Rattle.fit_trie.proofs.Bytes.{symbol_in, link_in, output_in}
use Rattle.fit_trie.proofs.Nodes.{Node, node, Goes, Behind, Placed, search_node}
use Rattle.fit_trie.proofs.Passes.{Passing, empty_site, empty_owner, empty_silent}
use Rattle.fit_trie.proofs.Outputs.{one_string, Issued}
use Rattle.fit_trie.proofs.Finished.{Top, used_range, used_top}
use Rattle.layout.specs.Bases.{Based, goes_on, used_by, bases_of, top_of, cells_needed}
use Rattle.layout.specs.FirstFit.{based}
use Rattle.layout.specs.Entries.{no_entries, output_from, output_for}
use Rattle.table.specs.Records.{two_bytes, cell_bytes}
use Rattle.layout.specs.Table.{link_to, path_cell, cell_among}
use Rattle.layout.proofs.Nodes.{symbolic, Among, among_more, Uses, used_says, says_used, based_of, Back, Paired, list_goes, goes_list, owner_uses}
use Rattle.layout.proofs.Needed.{top_some, top_each, top_most}
use Rattle.layout.proofs.Entries.{output_none, pattern_output}

-- a path's link is the base of the first that is it. "Leaves have link 0."
abbrev Linked : List Based → List ℕ → ℕ → Type 0
Linked placed u link = Among placed (λ x. (x.path ≡ u) × (link ≡ x.base)) ⊎ (((i : ℕ) → i < length placed → (based placed i).path ≡ u → ⊥) × (link ≡ 0))

link_search : (u : List ℕ) (placed : List Based) → Linked placed u (link_to placed u)
unfolding link_to
link_search u [] = inr (λ i h. absurd (omega arith), refl)
link_search u (x ∷ placed) = go (same_list x.path u) refl (link_to placed u) (link_search u placed)
  where
    go : (z : Bool) → same_list x.path u ≡ z → (later : ℕ) → Linked placed u later → Linked (x ∷ placed) u (cond z x.base later)
    go true e later next = inl (record { at = 0; inside = omega arith; holds = (same_true x.path u e, refl) })
    go false e later (inl w) = inl (among_more x placed _ w)
    go false e later (inr w) = inr (none, w.1)
      where
        none : (i : ℕ) → i < length (x ∷ placed) → (based (x ∷ placed) i).path ≡ u → ⊥
        none zero h q = never (sym e ∙ ap (λ (v : List ℕ). same_list v u) q ∙ same_self u)
        none (suc i) h q = w.0 i (omega arith) q

-- the cell of the first path that uses it, else a free one
module _ (patterns : List Pattern) (bases : List Based) (n : ℕ) where
  abbrev Used : List Based → List ℕ → Type 0
  Used placed bytes = Among placed (λ x. Uses patterns n x × (bytes ≡ path_cell patterns bases x.path (n - x.base)))

  abbrev Free : List Based → List ℕ → Type 0
  Free placed bytes = ((i : ℕ) → i < length placed → Uses patterns n (based placed i) → ⊥) × (bytes ≡ cell_bytes 0 0 0)

  cell_search : (placed : List Based) → Used placed (cell_among patterns bases n placed) ⊎ Free placed (cell_among patterns bases n placed)
  unfolding cell_among cell_bytes two_bytes
  cell_search [] = inr (λ i h. absurd (omega arith), refl)
  cell_search (x ∷ placed) = go (used_by patterns n x) refl (cell_among patterns bases n placed) (cell_search placed)
    where
      go : (z : Bool) → used_by patterns n x ≡ z → (later : List ℕ) → Used placed later ⊎ Free placed later
          → Used (x ∷ placed) (cond z (path_cell patterns bases x.path (n - x.base)) later) ⊎ Free (x ∷ placed) (cond z (path_cell patterns bases x.path (n - x.base)) later)
      go true e later next = inl (record { at = 0; inside = omega arith; holds = (used_says patterns n x e, refl) })
      go false e later (inl w) = inl (among_more x placed _ w)
      go false e later (inr w) = inr (none, w.1)
        where
          none : (i : ℕ) → i < length (x ∷ placed) → Uses patterns n (based (x ∷ placed) i) → ⊥
          none zero h u = never (sym e ∙ says_used patterns n x u)
          none (suc i) h u = w.0 i (omega arith) u

-- the three numbers of a cell
pub record Reads (bytes : List ℕ) (n : ℕ) (written : List ℕ) : Type 0 where
  pub symbol : ℕ
  pub link : ℕ
  pub output : ℕ
  pub symbol_read : symbol_in bytes n ≡ symbol
  pub link_read : link_in bytes n ≡ link
  pub output_read : output_in bytes n ≡ output
  pub same : written ≡ cell_bytes symbol link output

-- the list is sorted, its patterns are those of good lines, and the packer's layout is not full
module _ (patterns : List Pattern) (sorted : Sorted patterns) (shaped : (i : ℕ) → i < length patterns → Shaped (nth patterns i)) (nodes : List Node) (bytes taken : List ℕ)
    (placed : Passing empty_site patterns pattern_limit 0 nodes bytes taken) (paired : Paired nodes (bases_of patterns)) where
  goes : (i s : ℕ) → i < length nodes → goes_on patterns (node nodes i).path s ≡ true → Goes (node nodes i) s
  goes = list_goes patterns sorted (symbolic patterns shaped) nodes placed.opened

  uses : (n i s : ℕ) → i < length nodes → Goes (node nodes i) s → (node nodes i).base + s ≡ n → Uses patterns n (based_of (node nodes i))
  uses = owner_uses patterns sorted (symbolic patterns shaped) nodes placed.opened

  -- "C is the highest used cell + 1, or 1 if none"
  pub same_count : used_from bytes 0 cell_limit 1 ≡ cells_needed patterns
  unfolding cells_needed
  same_count =
      let a = top_most patterns (used_from bytes 0 cell_limit 1) (used_range bytes).0 (bases_of patterns) (λ j t h e. most j t (paired.back j h) e) in
      let b = least (used_top bytes) in
      omega (arith, a, b)
    where
      most : (j t : ℕ) → Back nodes (based (bases_of patterns) j) → goes_on patterns (based (bases_of patterns) j).path t ≡ true → (based (bases_of patterns) j).base + t < used_from bytes 0 cell_limit 1
      most j t v e =
          let g = goes v.at t v.inside (ap (λ (x : Based). goes_on patterns x.path t) (sym v.same) ∙ e) in
          let k = placed.laid.owned.held v.at t v.inside g in
          let q = (used_range bytes).2 ((node nodes v.at).base + t) (omega (arith, k.within, placed.laid.size)) (λ z. omega (arith, z, k.symbol, g.low)) in
          omega (arith, q, ap (λ (x : Based). x.base) v.same)

      least : Top bytes 0 cell_limit 1 (used_from bytes 0 cell_limit 1) → used_from bytes 0 cell_limit 1 ≤ top_of patterns (bases_of patterns)
      least (inl e) = omega (arith, e, top_some patterns (bases_of patterns))
      least (inr w) =
          let o = empty_owner nodes bytes taken placed.laid w.0 w.1.1.1 in
          let v = paired.there o.at o.inside in
          let e = goes_list patterns sorted (symbolic patterns shaped) nodes placed.opened o.at (symbol_in bytes w.0) o.inside o.goes in
          let t = top_each patterns (bases_of patterns) v.at (symbol_in bytes w.0) v.inside o.goes.low o.goes.high
          (ap (λ (x : Based). goes_on patterns x.path (symbol_in bytes w.0)) v.holds ∙ e) in
          omega (arith, w.1.1.0, o.place, t, ap (λ (x : Based). x.base) v.holds)

  -- and neither are there too many entries
  module _ (after made : List ℕ) (e : ℕ) (room : outputs_of root_base patterns (Out bytes empty_entries 0) ≡ Over → ⊥)
      (issued : Issued empty_site nodes patterns bytes empty_entries 0 after made e) where
    -- a cell that a path uses
    module _ (n i s : ℕ) (h : i < length nodes) (g : Goes (node nodes i) s) (place : (node nodes i).base + s ≡ n) where
      abbrev path : List ℕ
      path = (node nodes i).path ▸ s

      abbrev behind : Behind nodes path
      behind = record { at = i; inside = h; last = s; same = refl; goes = g }

      path_symbol : symbol_in after n ≡ s
      path_symbol = issued.symbol_kept n ∙ ap (λ (k : ℕ). symbol_in bytes k) (sym place) ∙ (placed.laid.owned.held i s h g).symbol

      path_link : link_in after n ≡ link_to (bases_of patterns) path
      path_link = issued.link_kept n ∙ ap (λ (k : ℕ). link_in bytes k) (sym place) ∙ go (link_to (bases_of patterns) path) (search_node nodes path) (link_search path (bases_of patterns))
        where
          go : (link : ℕ) → Placed nodes path ⊎ ((j : ℕ) → j < length nodes → (node nodes j).path ≡ path → ⊥) → Linked (bases_of patterns) path link → link_in bytes ((node nodes i).base + s) ≡ link
          go link (inl p) (inl w) =
              let v = paired.back w.at w.inside in
              let d = placed.laid.tree.distinct p.at v.at p.inside v.inside (p.same ∙ sym w.holds.0 ∙ ap (λ (x : Based). x.path) v.same) in
              placed.laid.links.linked p.at i s p.inside h g p.same
              ∙ ap (λ (k : ℕ). (node nodes k).base) d
              ∙ ap (λ (x : Based). x.base) (sym v.same)
              ∙ sym w.holds.1
          go link (inl p) (inr w) = let v = paired.there p.at p.inside in absurd (w.0 v.at v.inside (ap (λ (x : Based). x.path) v.holds ∙ p.same))
          go link (inr none) (inl w) = let v = paired.back w.at w.inside in absurd (none v.at v.inside (ap (λ (x : Based). x.path) (sym v.same) ∙ w.holds.0))
          go link (inr none) (inr w) = placed.laid.links.unlinked i s h g none ∙ sym w.1

      path_output : output_in after n ≡ output_for patterns path
      unfolding output_for
      path_output = go (search_pattern patterns path)
        where
          go : Found patterns path ⊎ ((j : ℕ) → j < length patterns → (nth patterns j).symbols ≡ path → ⊥) → output_in after n ≡ output_from patterns no_entries path
          go (inl f) =
              ap (λ (k : ℕ). output_in after k) (sym place)
              ∙ issued.numbered f.at f.within (record { at = i; inside = h; last = s; same = f.same; goes = g })
              ∙ pattern_output patterns bytes room f.at f.within
              (λ j l q. before_self (nth patterns f.at).symbols (subst (λ (u : List ℕ). before u (nth patterns f.at).symbols ≡ true) q (sorted j f.at l f.within)))
              ∙ ap (λ (u : List ℕ). output_from patterns no_entries u) f.same
          go (inr none) =
              issued.others n (λ j q b p. none j q (one_string empty_site nodes placed.laid.tree bytes placed.laid.owned (nth patterns j).symbols path b behind (sym p ∙ sym place)))
              ∙ empty_silent nodes bytes taken placed.laid n
              ∙ sym (output_none patterns no_entries path none)

    -- a cell that no path uses
    module _ (n : ℕ) (none : (i : ℕ) → i < length nodes → Uses patterns n (based_of (node nodes i)) → ⊥) where
      free_symbol : symbol_in bytes n ≡ 0
      free_symbol = go (ℕ_discrete (symbol_in bytes n) 0)
        where
          go : Dec (symbol_in bytes n ≡ 0) → symbol_in bytes n ≡ 0
          go (yes z) = z
          go (no d) = let o = empty_owner nodes bytes taken placed.laid n d in absurd (none o.at o.inside (uses n o.at (symbol_in bytes n) o.inside o.goes o.place))

      free_output : output_in after n ≡ 0
      free_output = issued.others n (λ j q b p. none b.at b.inside (uses n b.at b.last b.inside b.goes (sym p))) ∙ empty_silent nodes bytes taken placed.laid n

    -- Every cell holds the numbers that the layout gives it.
    pub cell_reads : (n : ℕ) → Reads after n (cell_among patterns (bases_of patterns) n (bases_of patterns))
    cell_reads n = go (cell_among patterns (bases_of patterns) n (bases_of patterns)) (cell_search patterns (bases_of patterns) n (bases_of patterns))
      where
        -- the cell of the node that is the path
        own : (written : List ℕ) (x : Based) → Uses patterns n x → written ≡ path_cell patterns (bases_of patterns) x.path (n - x.base) → Back nodes x → Reads after n written
        own written x u e v =
            let f : Uses patterns n (based_of (node nodes v.at)) = subst (λ (y : Based). Uses patterns n y) v.same u in
            let l = f.0 in
            let s : ℕ = n - (node nodes v.at).base in
            let p : (node nodes v.at).base + (n - (node nodes v.at).base) ≡ n = omega arith in
            let g = goes v.at (n - (node nodes v.at).base) v.inside f.1 in
            record {
              symbol = s;
              link = link_to (bases_of patterns) ((node nodes v.at).path ▸ s);
              output = output_for patterns ((node nodes v.at).path ▸ s);
              symbol_read = path_symbol n v.at s v.inside g p;
              link_read = path_link n v.at s v.inside g p;
              output_read = path_output n v.at s v.inside g p;
              same = e ∙ ap (λ (y : Based). path_cell patterns (bases_of patterns) y.path (n - y.base)) v.same ∙ unfold path_cell in refl;
            }

        go : (written : List ℕ) → Used patterns (bases_of patterns) n (bases_of patterns) written ⊎ Free patterns (bases_of patterns) n (bases_of patterns) written → Reads after n written
        go written (inl w) = own written (based (bases_of patterns) w.at) w.holds.0 w.holds.1 (paired.back w.at w.inside)
        go written (inr w) =
            let none : (i : ℕ) → i < length nodes → Uses patterns n (based_of (node nodes i)) → ⊥ =
            λ i h u. let v = paired.there i h in w.0 v.at v.inside (subst (λ (x : Based). Uses patterns n x) (sym v.holds) u) in
            record {
              symbol = 0;
              link = 0;
              output = 0;
              symbol_read = issued.symbol_kept n ∙ free_symbol n none;
              link_read = issued.link_kept n ∙ placed.laid.blank n (free_symbol n none);
              output_read = free_output n none;
              same = w.1;
            }
