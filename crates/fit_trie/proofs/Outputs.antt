-- The outputs of all patterns: each in its own cell, exact for its levels; the other cells keep theirs.
use Prim.Native.Nat.{ℕ, zero, suc, ◌+◌, ◌*◌, ◌≤◌, ◌<◌}
use mathlib.Core.List.{List, [], ◌∷◌}
use mathlib.Core.Path.{◌≡◌, refl, sym, ◌∙◌, ap, subst}
use native.Mathlib.Omega.{arith}
use lib.ListN.{length, get_or}
use Rattle.base.specs.Limits.{level_limit}
use Rattle.table.specs.Table.{cell_size}
use Rattle.liang.specs.Patterns.{Pattern}
use Rattle.patterns.specs.Strings.{nth}
use Rattle.fit.specs.Cells.{put_number, cell_of}
use Rattle.fit.specs.Entries.{Entries, TooMany, Made, afresh, enter_pattern, Outputs, Over, Out, put_output, output_of, outputs_of}
use Rattle.fit_trie.proofs.Bytes.{kind_in, symbol_in, link_in, output_in, put_length, put_kept, put_apart, put_read}
use Rattle.patterns.proofs.Strings.{◌▸◌}
use Rattle.fit_trie.proofs.Nodes.{Node, node, Site, Owned, Behind, cell_behind, Tree, Linked, one_owner, cell_of_lem, owned_moved, linked_moved}
use Rattle.fit_trie.proofs.Chains.{Entered, Kept, Runs, runs_kept, ChainedIn, levels_entered}

-- one output written
record Written (site : Site) (nodes : List Node) (bytes : List ℕ) (u : List ℕ) (output : ℕ) (after : List ℕ) : Type 0 where
  size : length after ≡ length bytes
  owned : Owned site nodes after
  links : Linked nodes after
  here : (b : Behind nodes u) → output_in after (cell_behind nodes u b) ≡ output
  there : (n : ℕ) → ((b : Behind nodes u) → n ≡ cell_behind nodes u b → ⊥) → output_in after n ≡ output_in bytes n
  symbol_kept : (n : ℕ) → symbol_in after n ≡ symbol_in bytes n
  link_kept : (n : ℕ) → link_in after n ≡ link_in bytes n

abbrev pub last_of : Entries → ℕ
last_of TooMany = 0
last_of (Made bytes count last) = last

-- the number that pattern i of some gets as its output, behind the entries made
unfoldable pub output_at : List Pattern → ℕ → Entries → ℕ
output_at [] i made = 0
output_at (p ∷ rest) zero made = last_of (enter_pattern p made)
output_at (p ∷ rest) (suc i) made = output_at rest i (afresh (enter_pattern p made))

-- the cells and entries after the outputs of some patterns
pub record Issued (site : Site) (nodes : List Node) (rest : List Pattern) (bytes made : List ℕ) (count : ℕ) (after entries : List ℕ) (total : ℕ) : Type 0 where
  pub size : length after ≡ length bytes
  pub owned : Owned site nodes after
  pub links : Linked nodes after
  pub entered : Entered entries total
  pub grown : count ≤ total
  pub kept : Kept made entries count
  pub exact : (i : ℕ) → i < length rest → (b : Behind nodes (nth rest i).symbols)
      → Runs entries (nth rest i).levels (length (nth rest i).symbols) (suc (length (nth rest i).symbols)) (output_in after (cell_behind nodes (nth rest i).symbols b))
  pub within : (i : ℕ) → i < length rest → (b : Behind nodes (nth rest i).symbols) → output_in after (cell_behind nodes (nth rest i).symbols b) ≤ total
  pub others : (n : ℕ) → ((i : ℕ) → i < length rest → (b : Behind nodes (nth rest i).symbols) → n ≡ cell_behind nodes (nth rest i).symbols b → ⊥) → output_in after n ≡ output_in bytes n
  pub numbered : (i : ℕ) → i < length rest → (b : Behind nodes (nth rest i).symbols) → output_in after (cell_behind nodes (nth rest i).symbols b) ≡ output_at rest i (Made made count 0)
  pub symbol_kept : (n : ℕ) → symbol_in after n ≡ symbol_in bytes n
  pub link_kept : (n : ℕ) → link_in after n ≡ link_in bytes n

abbrev pub IssuedIn : Site → List Node → List Pattern → List ℕ → List ℕ → ℕ → Outputs → Type 0
IssuedIn site nodes rest bytes made count Over = Unit
IssuedIn site nodes rest bytes made count (Out after entries total) = Issued site nodes rest bytes made count after entries total

-- what is asked of the patterns: each behind a node, no two with the same symbols, and no level over 9
pub record Ready (nodes : List Node) (rest : List Pattern) : Type 0 where
  pub behind : (i : ℕ) → i < length rest → Behind nodes (nth rest i).symbols
  pub differ : (i j : ℕ) → i < j → j < length rest → (nth rest i).symbols ≡ (nth rest j).symbols → ⊥
  pub low : (i : ℕ) → i < length rest → (gap : ℕ) → get_or (nth rest i).levels gap 0 ≤ level_limit

pub outputs_over : (root : ℕ) (rest : List Pattern) → outputs_of root rest Over ≡ Over
unfolding outputs_of output_of
outputs_over root [] = refl
outputs_over root (p ∷ rest) = outputs_over root rest

module _ (site : Site) (nodes : List Node) (tree : Tree site nodes) where
  -- two strings with one cell are one
  pub one_string : (bytes : List ℕ) → Owned site nodes bytes → (u v : List ℕ) (a : Behind nodes u) (b : Behind nodes v) → cell_behind nodes u a ≡ cell_behind nodes v b → u ≡ v
  one_string bytes owned u v a b e =
      let w = one_owner site nodes bytes tree owned a.at b.at a.last b.last a.inside b.inside a.goes b.goes e in
      a.same ∙ ap (λ (i : ℕ). (node nodes i).path ▸ a.last) w.0 ∙ ap (λ (s : ℕ). (node nodes b.at).path ▸ s) w.1 ∙ sym b.same

  module _ (bytes : List ℕ) (owned : Owned site nodes bytes) (links : Linked nodes bytes) (u : List ℕ) (behind : Behind nodes u) (output : ℕ) where
    -- the cell walked to is that of the string
    own : (b : Behind nodes u) → cell_behind nodes u b ≡ cell_of bytes site.root u
    own b = sym (cell_of_lem site nodes bytes tree links b.at b.inside b.last) ∙ ap (λ (v : List ℕ). cell_of bytes site.root v) (sym b.same)

    written : Written site nodes bytes u output (put_number (cell_size * cell_of bytes site.root u + 4) output bytes)
    written =
        record {
          size = put_length at output bytes;
          owned = owned_moved site nodes bytes after (λ j s l g h. record { within = omega (arith, h.within, put_length at output bytes); kind = kinds _ ∙ h.kind; symbol = symbols _ ∙ h.symbol }) (λ n d. symbols n) owned;
          links = linked_moved nodes bytes after
              (λ j s h g. put_apart at output bytes (cell_size * ((node nodes j).base + s) + 2) (λ e. omega (arith, e)) (λ e. omega (arith, e)) (λ e. omega (arith, e))) links;
          here = λ b. ap (λ (n : ℕ). output_in after n) (own b) ∙ put_read at output bytes (room b);
          there = λ n d. put_apart at output bytes (cell_size * n + 4) (λ e. d behind (omega (arith, e, own behind))) (λ e. omega (arith, e)) (λ e. omega (arith, e));
          symbol_kept = symbols;
          link_kept = λ n. put_apart at output bytes (cell_size * n + 2) (λ e. omega (arith, e)) (λ e. omega (arith, e)) (λ e. omega (arith, e));
        }
      where
        at : ℕ
        at = cell_size * cell_of bytes site.root u + 4

        after : List ℕ
        after = put_number (cell_size * cell_of bytes site.root u + 4) output bytes

        kinds : (n : ℕ) → kind_in after n ≡ kind_in bytes n
        kinds n = put_kept at output bytes (cell_size * n) (λ e. omega (arith, e)) (λ e. omega (arith, e))

        symbols : (n : ℕ) → symbol_in after n ≡ symbol_in bytes n
        symbols n = put_kept at output bytes (cell_size * n + 1) (λ e. omega (arith, e)) (λ e. omega (arith, e))

        room : (b : Behind nodes u) → cell_size * cell_of bytes site.root u + 4 + 2 ≤ length bytes
        room b = let h = owned.held b.at b.last b.inside b.goes in omega (arith, h.within, own b)

  -- whatever cells and entries they are issued behind
  abbrev pub Issues : List Pattern → Type 0
  Issues rest = (bytes made : List ℕ) (count : ℕ) → Owned site nodes bytes → Linked nodes bytes → Entered made count → IssuedIn site nodes rest bytes made count (outputs_of site.root rest (Out bytes made count))

  module _ (p : Pattern) (rest : List Pattern) (ready : Ready nodes (p ∷ rest)) (next : Issues rest) where
    -- the first pattern's output, then the others'
    first_issued : (bytes made : List ℕ) (count : ℕ) → Owned site nodes bytes → Linked nodes bytes → (chained : Entries) → enter_pattern p (Made made count 0) ≡ chained
        → ChainedIn p.levels (length p.symbols) made count (suc (length p.symbols)) chained
        → IssuedIn site nodes (p ∷ rest) bytes made count (outputs_of site.root rest (put_output site.root p bytes chained))
    unfolding put_output
    first_issued bytes made count owned links TooMany e chained = rw (outputs_over site.root rest) tt
    first_issued bytes made count owned links (Made after total last) e chained =
        joined (outputs_of site.root rest (Out first after total)) (next first after total w.owned w.links chained.entered)
      where
        behind : Behind nodes p.symbols
        behind = ready.behind 0 (omega arith)

        first : List ℕ
        first = put_number (cell_size * cell_of bytes site.root p.symbols + 4) last bytes

        w : Written site nodes bytes p.symbols last first
        w = written bytes owned links p.symbols behind last

        joined : (outs : Outputs) → IssuedIn site nodes rest first after total outs → IssuedIn site nodes (p ∷ rest) bytes made count outs
        joined Over rests = tt
        joined (Out final entries all) rests =
            record {
              size = rests.size ∙ w.size;
              owned = rests.owned;
              links = rests.links;
              entered = rests.entered;
              grown = omega (arith, chained.grown, rests.grown);
              kept = λ j h. rests.kept j (omega (arith, chained.grown)) ∙ chained.kept j h;
              exact = exact;
              within = within;
              others = λ n d. rests.others n (λ i h. d (suc i) (omega arith)) ∙ w.there n (λ b. d 0 (omega arith) b);
              numbered = numbered;
              symbol_kept = λ n. rests.symbol_kept n ∙ w.symbol_kept n;
              link_kept = λ n. rests.link_kept n ∙ w.link_kept n;
            }
          where
            -- no other pattern has the first one's cell
            alone : (b : Behind nodes p.symbols) (i : ℕ) → i < length rest → (c : Behind nodes (nth rest i).symbols) → cell_behind nodes p.symbols b ≡ cell_behind nodes (nth rest i).symbols c → ⊥
            alone b i h c e = ready.differ 0 (suc i) (omega arith) (omega arith) (one_string bytes owned p.symbols (nth rest i).symbols b c e)

            same : (b : Behind nodes p.symbols) → output_in final (cell_behind nodes p.symbols b) ≡ last
            same b = rests.others (cell_behind nodes p.symbols b) (alone b) ∙ w.here b

            exact : (i : ℕ) → i < length (p ∷ rest) → (b : Behind nodes (nth (p ∷ rest) i).symbols)
                → Runs entries (nth (p ∷ rest) i).levels (length (nth (p ∷ rest) i).symbols) (suc (length (nth (p ∷ rest) i).symbols)) (output_in final (cell_behind nodes (nth (p ∷ rest) i).symbols b))
            exact zero h b =
                subst (λ (k : ℕ). Runs entries p.levels (length p.symbols) (suc (length p.symbols)) k) (sym (same b))
                (runs_kept p.levels (length p.symbols) entries total rests.kept chained.within chained.runs)
            exact (suc i) h b = rests.exact i (omega arith) b

            within : (i : ℕ) → i < length (p ∷ rest) → (b : Behind nodes (nth (p ∷ rest) i).symbols) → output_in final (cell_behind nodes (nth (p ∷ rest) i).symbols b) ≤ all
            within zero h b = omega (arith, same b, chained.within, rests.grown)
            within (suc i) h b = rests.within i (omega arith) b

            numbered : (i : ℕ) → i < length (p ∷ rest) → (b : Behind nodes (nth (p ∷ rest) i).symbols)
                → output_in final (cell_behind nodes (nth (p ∷ rest) i).symbols b) ≡ output_at (p ∷ rest) i (Made made count 0)
            numbered zero h b = same b ∙ unfold output_at in ap last_of (sym e)
            numbered (suc i) h b = rests.numbered i (omega arith) b ∙ unfold output_at in ap (λ (x : Entries). output_at rest i (afresh x)) (sym e)

  ready_rest : (p : Pattern) (rest : List Pattern) → Ready nodes (p ∷ rest) → Ready nodes rest
  ready_rest p rest ready =
      record {
        behind = λ i h. ready.behind (suc i) (omega arith);
        differ = λ i j h l. ready.differ (suc i) (suc j) (omega arith) (omega arith);
        low = λ i h. ready.low (suc i) (omega arith);
      }

  -- All outputs issued, behind the entries so far.
  pub outputs_from : (rest : List Pattern) → Ready nodes rest → Issues rest
  unfolding outputs_of output_of enter_pattern
  outputs_from [] ready = λ bytes made count owned links entered.
      record {
        size = refl;
        owned = owned;
        links = links;
        entered = entered;
        grown = omega arith;
        kept = λ j h. refl;
        exact = λ i h. absurd (omega arith);
        within = λ i h. absurd (omega arith);
        others = λ n d. refl;
        numbered = λ i h. absurd (omega arith);
        symbol_kept = λ n. refl;
        link_kept = λ n. refl;
      }
  outputs_from (p ∷ rest) ready = λ bytes made count owned links entered.
      first_issued p rest ready (outputs_from rest (ready_rest p rest ready)) bytes made count owned links _ refl
      (levels_entered p.levels (length p.symbols) (ready.low 0 (omega arith)) made count entered)
