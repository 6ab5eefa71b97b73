-- First fit is right: a table that it packs is well formed and right for its list.
use Rattle.table.proofs.Laws.{outputs_once}
use Prim.Native.Nat.{ℕ, suc, ◌+◌, ◌*◌, ◌≤◌, ◌<◌}
use mathlib.Core.List.{List}
use mathlib.Core.Path.{◌≡◌, sym, ◌∙◌, ap, subst}
use native.Mathlib.Omega.{arith}
use lib.ListN.{length, get_or, take}
use Rattle.base.specs.Limits.{pattern_limit, level_limit, cell_limit}
use Rattle.std.specs.Prelude.{Ok}
use Rattle.base.proofs.Lists.{clash}
use Rattle.liang.specs.Patterns.{Pattern}
use Rattle.table.specs.Table.{root_base, cell_size, cell_room, entry_size, judge_table, cells_of, entries_of, hit}
use Rattle.trie.specs.Paths.{along, Path}
use Rattle.patterns.specs.Strings.{Beginning, nth, Shaped, Sorted}
use Rattle.rightness.specs.Right.{Exact, PathsRight, Right}
use Rattle.patterns.proofs.Strings.{begins_alphabet, begins_length}
use Rattle.fit.specs.Cells.{Layout, Full, Fits, layout_of, used_from}
use Rattle.fit.specs.Entries.{Outputs, Over, Out, outputs_of, empty_entries}
use Rattle.fit.specs.Table.{Packed, put_kinds, bytes_of, finish, fit_layout, first_fit}
use Rattle.fit_trie.proofs.Bytes.{link_in, output_in}
use Rattle.fit_trie.proofs.Nodes.{Node, node, Goes, Site, Sited, Owned, Behind, cell_behind, Linked, along_goes, along_only}
use Rattle.fit_trie.proofs.Opened.{goes_beginning}
use Rattle.fit_trie.proofs.Passes.{Passing, PassingIn, empty_site, empty_sited, layout_passed}
use Rattle.fit_trie.proofs.Chains.{Runs, runs_kept, runs_exact}
use Rattle.fit_trie.proofs.Outputs.{one_string, Issued, IssuedIn}
use Rattle.fit_trie.proofs.Finished.{used_range, cut_length, cut_kind, cut_output, cut_owned, cut_links, part_length, part_kept, part_kind, table_cells, table_entries, table_fine}
use Rattle.fit_trie.proofs.Behind.{beginning_behind, pattern_behind, empty_entered, all_issued}

-- A table that is well formed and right for a list.
pub record Good (patterns : List Pattern) (table : List ℕ) : Type 0 where
  pub formed : judge_table table ≡ Ok tt
  pub right : Right patterns (cells_of table) (entries_of table) root_base

-- The list is sorted and its patterns are those of good lines, with levels up to 9.
module _ (patterns : List Pattern) (sorted : Sorted patterns) (shaped : (i : ℕ) → i < length patterns → Shaped (nth patterns i))
    (low : (i : ℕ) → i < length patterns → (gap : ℕ) → get_or (nth patterns i).levels gap 0 ≤ level_limit) where
  -- The list is placed in a site, and its outputs stand behind the entries that were there.
  module _ (site : Site) (sited : Sited site) (nodes : List Node) (bytes taken : List ℕ) (placed : Passing site patterns pattern_limit 0 nodes bytes taken) where
    module _ (older : List ℕ) (count : ℕ) (after made : List ℕ) (e : ℕ) (issued : Issued site nodes patterns bytes older count after made e) where
      abbrev c : ℕ
      c = used_from bytes 0 cell_limit 1

      size : length after ≡ cell_room
      size = issued.size ∙ placed.laid.size

      few : c ≤ cell_limit
      few = (used_range bytes).1

      -- C counts every cell of a continuation
      below : (j s : ℕ) → j < length nodes → Goes (node nodes j) s → (node nodes j).base + s < c
      below j s h g =
          let k = placed.laid.owned.held j s h g in
          (used_range bytes).2 ((node nodes j).base + s) (omega (arith, k.within, placed.laid.size)) (λ z. omega (arith, z, k.symbol, g.low))

      abbrev cell_part : List ℕ
      cell_part = take (cell_size * c) (put_kinds c after)

      abbrev entry_part : List ℕ
      entry_part = take (entry_size * e) made

      cell_bytes : length cell_part ≡ cell_size * c
      cell_bytes = cut_length after c size few

      entry_bytes : length entry_part ≡ entry_size * e
      entry_bytes = part_length made e issued.entered

      part_owned : Owned site nodes cell_part
      part_owned = cut_owned after c size few nodes below site issued.owned

      part_links : Linked nodes cell_part
      part_links = cut_links after c size few nodes below issued.links

      -- a string behind a node is a path, with the output issued
      along_behind : (u : List ℕ) (b : Behind nodes u) → along cell_part site.root u ≡ hit (link_in cell_part (cell_behind nodes u b)) (output_in after (cell_behind nodes u b))
      along_behind u b =
          ap (λ (v : List ℕ). along cell_part site.root v) b.same
          ∙ along_goes site nodes cell_part placed.laid.tree part_owned part_links b.at b.inside b.last b.goes
          ∙ ap (hit (link_in cell_part (cell_behind nodes u b))) (cut_output after c size few (cell_behind nodes u b) (below b.at b.last b.inside b.goes))

      path_behind : (u : List ℕ) → Path cell_part site.root u → Behind nodes u
      path_behind u p =
          along_only site nodes cell_part placed.laid.tree part_owned part_links sited
          u p.link p.output p.alphabet p.matches

      -- a pattern's output was issued for its levels
      exact : (i : ℕ) → i < length patterns → (link output : ℕ) → along cell_part site.root (nth patterns i).symbols ≡ hit link output → Exact entry_part (nth patterns i) output
      exact i h link output a =
          let b = pattern_behind patterns sorted shaped low site nodes bytes taken placed i h in
          let w = along_behind (nth patterns i).symbols b in
          let o : output_in after (cell_behind nodes (nth patterns i).symbols b) ≡ output = outputs_once (sym w ∙ a) in
          let r = runs_kept (nth patterns i).levels (length (nth patterns i).symbols) entry_part e (part_kept made e issued.entered) (issued.within i h b) (issued.exact i h b) in
          let x = runs_exact (nth patterns i).levels (length (nth patterns i).symbols) (subst (λ (k : ℕ). Runs entry_part (nth patterns i).levels (length (nth patterns i).symbols) (suc (length (nth patterns i).symbols)) k) o r) in
          record { faultless = x.0; levels = x.1 }

      -- a cell that no pattern ends in has no output
      silent : (u : List ℕ) (p : Path cell_part site.root u) → ((i : ℕ) → i < length patterns → (nth patterns i).symbols ≡ u → ⊥) → p.output ≡ 0
      silent u p other =
          let b = path_behind u p in
          let w = along_behind u b in
          let m = p.matches in
          let o : p.output ≡ output_in after (cell_behind nodes u b) = outputs_once (sym m ∙ w) in
          o
          ∙ issued.others (cell_behind nodes u b)
          (λ i h a q. other i h (one_string site nodes placed.laid.tree bytes placed.laid.owned (nth patterns i).symbols u a b (sym q)))
          ∙ placed.laid.silent (cell_behind nodes u b)
          ∙ sited.silent (cell_behind nodes u b) (placed.laid.owned.own_free b.at b.last b.inside b.goes)

      -- the list's own paths, whatever else stands in the cells
      pub paths_right : PathsRight patterns cell_part entry_part site.root
      paths_right =
          record {
            reached = λ u b.
                let w = beginning_behind patterns sorted shaped low site nodes bytes taken placed u b in
                record {
                  short = omega (arith, begins_length u (nth patterns b.at).symbols b.stands, (shaped b.at b.within).short);
                  alphabet = begins_alphabet u (nth patterns b.at).symbols b.stands (shaped b.at b.within).alphabet;
                  link = link_in cell_part (cell_behind nodes u w);
                  output = output_in after (cell_behind nodes u w);
                  matches = along_behind u w;
                };
            only = λ u p.
                let b = path_behind u p in
                subst (λ (v : List ℕ). Beginning patterns v) (sym b.same) (goes_beginning patterns (node nodes b.at) (placed.opened b.at b.inside) b.last b.goes);
            exact = exact;
            silent = silent;
          }

      parts_right : Right patterns cell_part entry_part site.root
      parts_right =
          record {
            kinds = record {
              of_cells = λ n h. cut_kind after c size few n (omega (arith, h, cell_bytes));
              of_entries = part_kind made e issued.entered;
            };
            paths = paths_right;
          }

      -- the whole table
      table_right : Right patterns (cells_of (bytes_of c after made e)) (entries_of (bytes_of c after made e)) site.root
      table_right =
          subst (λ (l : List ℕ). Right patterns l (entries_of (bytes_of c after made e)) site.root) (sym (table_cells c e after made cell_bytes entry_bytes))
          (subst (λ (l : List ℕ). Right patterns cell_part l site.root) (sym (table_entries c e after made cell_bytes entry_bytes)) parts_right)

      table_judged : judge_table (bytes_of c after made e) ≡ Ok tt
      table_judged = table_fine c e after made cell_bytes entry_bytes (used_range bytes).0 few issued.entered.few

  issued_good : (nodes : List Node) (bytes taken : List ℕ) (placed : Passing empty_site patterns pattern_limit 0 nodes bytes taken) (empty table : List ℕ) (outs : Outputs)
      → IssuedIn empty_site nodes patterns bytes empty 0 outs → finish (used_from bytes 0 cell_limit 1) outs ≡ Packed table → Good patterns table
  unfolding finish
  issued_good nodes bytes taken placed empty table Over issued e = clash cc
  issued_good nodes bytes taken placed empty table (Out after made n) issued e =
      let t : bytes_of (used_from bytes 0 cell_limit 1) after made n ≡ table = cc in
      subst (λ (l : List ℕ). Good patterns l) t
      (record { formed = table_judged empty_site empty_sited nodes bytes taken placed empty 0 after made n issued; right = table_right empty_site empty_sited nodes bytes taken placed empty 0 after made n issued })

  layout_good : (table : List ℕ) (layout : Layout) → PassingIn empty_site patterns pattern_limit 0 layout → fit_layout patterns layout ≡ Packed table → Good patterns table
  unfolding fit_layout
  layout_good table Full placed e = clash cc
  layout_good table (Fits bytes taken) placed e =
      issued_good placed.0 bytes taken placed.1 empty_entries table (outputs_of root_base patterns (Out bytes empty_entries 0))
      (all_issued patterns sorted shaped low empty_site placed.0 bytes taken placed.1 empty_entries 0 empty_entered) e

  -- First fit's table is well formed and right for its list.
  pub fitted : (table : List ℕ) → first_fit patterns ≡ Packed table → Good patterns table
  unfolding first_fit
  fitted table e = layout_good table (layout_of patterns) (layout_passed patterns sorted shaped) e
