-- The nodes of a layout: the paths that go on, each with its base. What the bytes hold of them, and so which strings are paths.
use Prim.Native.Nat.{ℕ, zero, suc, ◌+◌, ◌*◌, ◌≤◌, ◌<◌}
use mathlib.Core.Bool.{Bool, true, false, cond, ◌&&◌}
use mathlib.Core.List.{List, [], ◌∷◌, List-discrete}
use mathlib.Core.Logic.{◌⊎◌, inl, inr}
use mathlib.Core.Path.{◌≡◌, refl, sym, ◌∙◌, ap, subst}
use native.Mathlib.Decide.{ℕ_discrete}
use native.Mathlib.Omega.{arith}
use borrow.Author.Tests.{eqb-true}
use lib.Dec.{leb, eqb}
use lib.ListN.{length, get_or}
use Rattle.base.specs.Limits.{symbol_limit, cell_limit}
use Rattle.base.proofs.Lists.{clash}
use Rattle.table.specs.Table.{cell_kind, cell_size, cell_room, look, Look, hit}
use Rattle.std.specs.Prelude.{None}
use Rattle.table.proofs.Laws.{look_hit, links_once}
use Rattle.trie.specs.Paths.{onward, along}
use Rattle.patterns.specs.Strings.{all_symbols}
use Rattle.fit.specs.Cells.{cell_of}
use Rattle.fit_trie.proofs.Bytes.{kind_in, symbol_in, link_in, output_in}
use Rattle.patterns.proofs.Strings.{◌▸◌, Ended, ended, snoc_length, length_none, alphabet_last}
use Rattle.fit_trie.proofs.Strings.{cell_further, along_further, onward_hit, Onward, onward_from}

-- A path with continuations: its base, the test of the symbols that it goes on with, and the number of the pattern that opens it.
pub record Node : Type 0 where
  pub path : List ℕ
  pub base : ℕ
  pub child : ℕ → Bool
  pub opener : ℕ

abbrev no_node : Node
no_node = record { path = []; base = 0; child = λ s. false; opener = 0 }

abbrev pub node : List Node → ℕ → Node
node nodes i = get_or nodes i no_node

pub record Goes (n : Node) (s : ℕ) : Type 0 where
  pub low : 1 ≤ s
  pub high : s ≤ symbol_limit
  pub goes : n.child s ≡ true

-- cell n is there, of kind 2, and holds this symbol
pub record Holds (bytes : List ℕ) (n s : ℕ) : Type 0 where
  pub within : cell_size * n + cell_size ≤ length bytes
  pub kind : kind_in bytes n ≡ cell_kind
  pub symbol : symbol_in bytes n ≡ s

-- the node whose continuation a cell is
pub record Owner (nodes : List Node) (n s : ℕ) : Type 0 where
  pub at : ℕ
  pub inside : at < length nodes
  pub place : (node nodes at).base + s ≡ n
  pub goes : Goes (node nodes at) s

-- Where a list is placed: the base of its root, and the layout that is there before, its bytes and its marks.
pub record Site : Type 0 where
  pub root : ℕ
  pub bytes : List ℕ
  pub taken : List ℕ

-- A site that a list can be placed in: each cell used has its base taken, no other cell has a link or an output, and the root's base
-- isn't taken.
pub record Sited (site : Site) : Type 0 where
  pub size : length site.bytes ≡ cell_room
  pub room : length site.taken ≡ cell_limit
  pub based : (b s : ℕ) → 1 ≤ s → symbol_in site.bytes (b + s) ≡ s → get_or site.taken b 0 ≡ 1
  pub blank : (n : ℕ) → symbol_in site.bytes n ≡ 0 → link_in site.bytes n ≡ 0
  pub silent : (n : ℕ) → symbol_in site.bytes n ≡ 0 → output_in site.bytes n ≡ 0
  pub root_free : get_or site.taken site.root 0 ≡ 0
  pub root_low : site.root < cell_limit

-- each continuation has its own cell, and every other cell used was so before
pub record Owned (site : Site) (nodes : List Node) (bytes : List ℕ) : Type 0 where
  pub held : (j s : ℕ) → j < length nodes → Goes (node nodes j) s → Holds bytes ((node nodes j).base + s) s
  pub owner : (n : ℕ) → (symbol_in bytes n ≡ 0 → ⊥) → Owner nodes n (symbol_in bytes n) ⊎ (symbol_in site.bytes n ≡ symbol_in bytes n)
  pub own_free : (j s : ℕ) → j < length nodes → Goes (node nodes j) s → symbol_in site.bytes ((node nodes j).base + s) ≡ 0

-- the node that a string stands behind, with the string's last symbol
pub record Behind (nodes : List Node) (u : List ℕ) : Type 0 where
  pub at : ℕ
  pub inside : at < length nodes
  pub last : ℕ
  pub same : u ≡ (node nodes at).path ▸ last
  pub goes : Goes (node nodes at) last

-- the number of a string's cell
abbrev pub cell_behind : (nodes : List Node) (u : List ℕ) → Behind nodes u → ℕ
cell_behind nodes u b = (node nodes b.at).base + b.last

-- a tree of nodes: one node for a base and for a path, the root's base for the root alone, base 0 for no other, bases that weren't
-- taken before, and every other path behind a node
pub record Tree (site : Site) (nodes : List Node) : Type 0 where
  pub apart : (i j : ℕ) → i < length nodes → j < length nodes → (node nodes i).base ≡ (node nodes j).base → i ≡ j
  pub distinct : (i j : ℕ) → i < length nodes → j < length nodes → (node nodes i).path ≡ (node nodes j).path → i ≡ j
  pub root : (i : ℕ) → i < length nodes → (node nodes i).path ≡ [] → (node nodes i).base ≡ site.root
  pub rooted : (i : ℕ) → i < length nodes → (node nodes i).base ≡ site.root → (node nodes i).path ≡ []
  pub some : (i : ℕ) → i < length nodes → (node nodes i).base ≡ 0 → (node nodes i).path ≡ []
  pub untaken : (i : ℕ) → i < length nodes → get_or site.taken (node nodes i).base 0 ≡ 0
  pub behind : (i : ℕ) → i < length nodes → ((node nodes i).path ≡ [] → ⊥) → Behind nodes (node nodes i).path

-- a continuation's link is its own node's base, or 0 where it is no node
pub record Linked (nodes : List Node) (bytes : List ℕ) : Type 0 where
  pub linked : (i j s : ℕ) → i < length nodes → j < length nodes → Goes (node nodes j) s → (node nodes i).path ≡ (node nodes j).path ▸ s
      → link_in bytes ((node nodes j).base + s) ≡ (node nodes i).base
  pub unlinked : (j s : ℕ) → j < length nodes → Goes (node nodes j) s → ((i : ℕ) → i < length nodes → (node nodes i).path ≡ (node nodes j).path ▸ s → ⊥)
      → link_in bytes ((node nodes j).base + s) ≡ 0

-- what a hit says of the symbol byte
hit_symbol : (bytes : List ℕ) (n s l o : ℕ) → look bytes n s ≡ hit l o → symbol_in bytes n ≡ s
unfolding look
hit_symbol bytes n s l o e = go (leb (cell_size * n + cell_size) (length bytes)) (eqb (kind_in bytes n) cell_kind) (eqb (symbol_in bytes n) s) refl e
  where
    go : (a b c : Bool) → eqb (symbol_in bytes n) s ≡ c → cond (a && (b && c)) (hit (link_in bytes n) (output_in bytes n)) None ≡ hit l o → symbol_in bytes n ≡ s
    go true true true p q = eqb-true (symbol_in bytes n) s p
    go true true false p q = clash cc
    go true false c p q = clash cc
    go false b c p q = clash cc

-- the search for a node by its path
pub record Placed (nodes : List Node) (u : List ℕ) : Type 0 where
  pub at : ℕ
  pub inside : at < length nodes
  pub same : (node nodes at).path ≡ u

pub search_node : (nodes : List Node) (u : List ℕ) → Placed nodes u ⊎ ((i : ℕ) → i < length nodes → (node nodes i).path ≡ u → ⊥)
search_node [] u = inr (λ i h e. omega arith)
search_node (n ∷ nodes) u = go (List-discrete ℕ_discrete n.path u) (search_node nodes u)
  where
    go : Dec (n.path ≡ u) → Placed nodes u ⊎ ((i : ℕ) → i < length nodes → (node nodes i).path ≡ u → ⊥)
        → Placed (n ∷ nodes) u ⊎ ((i : ℕ) → i < length (n ∷ nodes) → (node (n ∷ nodes) i).path ≡ u → ⊥)
    go (yes e) rest = inl (record { at = 0; inside = omega arith; same = e })
    go (no d) (inl f) = inl (record { at = suc f.at; inside = omega arith; same = f.same })
    go (no d) (inr none) = inr other
      where
        other : (i : ℕ) → i < length (n ∷ nodes) → (node (n ∷ nodes) i).path ≡ u → ⊥
        other zero h e = d e
        other (suc i) h e = none i (omega arith) e

-- a tree from its root on
module _ (site : Site) (nodes : List Node) (tree : Tree site nodes) (P : ℕ → Type 0) (start : (j : ℕ) → j < length nodes → (node nodes j).path ≡ [] → P j)
    (more : (j k x : ℕ) → j < length nodes → k < length nodes → Goes (node nodes k) x → (node nodes j).path ≡ (node nodes k).path ▸ x → P k → P j) where
  tree_from : (n j : ℕ) → length (node nodes j).path ≤ n → j < length nodes → P j
  tree_from zero j l h = start j h (length_none (node nodes j).path l)
  tree_from (suc n) j l h = go (node nodes j).path refl (λ k m. tree_from n k m)
    where
      go : (u : List ℕ) → (node nodes j).path ≡ u → ((k : ℕ) → length (node nodes k).path ≤ n → k < length nodes → P k) → P j
      go [] e next = start j h e
      go (x ∷ u) e next =
          let b = tree.behind j h (λ z. let w : ◌≡◌ {A = ℕ} 0 1 = omega (arith, ap length (sym z ∙ e)) in omega arith) in
          let size = snoc_length (node nodes b.at).path b.last in
          more j b.at b.last h b.inside b.goes b.same (next b.at (omega (arith, ap length b.same)) b.inside)

  tree_each : (j : ℕ) → j < length nodes → P j
  tree_each j h = tree_from (length (node nodes j).path) j (omega arith) h

module _ (site : Site) (nodes : List Node) (bytes : List ℕ) (tree : Tree site nodes) (links : Linked nodes bytes) where
  -- the cell walked to by links is the continuation's
  pub cell_of_lem : (j : ℕ) → j < length nodes → (s : ℕ) → cell_of bytes site.root ((node nodes j).path ▸ s) ≡ (node nodes j).base + s
  unfolding cell_of
  cell_of_lem = tree_each site nodes tree (λ j. (s : ℕ) → cell_of bytes site.root ((node nodes j).path ▸ s) ≡ (node nodes j).base + s) first later
    where
      first : (j : ℕ) → j < length nodes → (node nodes j).path ≡ [] → (s : ℕ) → cell_of bytes site.root ((node nodes j).path ▸ s) ≡ (node nodes j).base + s
      first j h e s = rw (e, tree.root j h e)

      later : (j k x : ℕ) → j < length nodes → k < length nodes → Goes (node nodes k) x → (node nodes j).path ≡ (node nodes k).path ▸ x
          → ((s : ℕ) → cell_of bytes site.root ((node nodes k).path ▸ s) ≡ (node nodes k).base + s) → (s : ℕ) → cell_of bytes site.root ((node nodes j).path ▸ s) ≡ (node nodes j).base + s
      later j k x h i g e next s =
          ap (λ (u : List ℕ). cell_of bytes site.root (u ▸ s)) e
          ∙ cell_further bytes (node nodes k).path site.root x s
          ∙ ap (λ (n : ℕ). link_in bytes n + s) (next x)
          ∙ ap (λ (n : ℕ). n + s) (links.linked j k x h i g e)

module _ (site : Site) (nodes : List Node) (bytes : List ℕ) (tree : Tree site nodes) (owned : Owned site nodes bytes) where
  -- one cell for two continuations: they are one
  pub one_owner : (i j s t : ℕ) → i < length nodes → j < length nodes → Goes (node nodes i) s → Goes (node nodes j) t
      → (node nodes i).base + s ≡ (node nodes j).base + t → (i ≡ j) × (s ≡ t)
  one_owner i j s t h k g f e =
      let p = (owned.held i s h g).symbol in
      let q = (owned.held j t k f).symbol in
      let r : s ≡ t = sym p ∙ ap (λ (n : ℕ). symbol_in bytes n) e ∙ q in
      (tree.apart i j h k (omega arith), r)

  -- a look from a node's base hits its continuations
  pub look_goes : (j s : ℕ) → j < length nodes → Goes (node nodes j) s
      → look bytes ((node nodes j).base + s) s ≡ hit (link_in bytes ((node nodes j).base + s)) (output_in bytes ((node nodes j).base + s))
  look_goes j s h g =
      let c = owned.held j s h g in
      sym (look_hit bytes ((node nodes j).base + s) s c.within c.kind c.symbol refl refl)

  module _ (sited : Sited site) where
    -- the owner of a cell that a look hits from a base that wasn't taken before
    hit_owner : (b s l o : ℕ) → get_or site.taken b 0 ≡ 0 → 1 ≤ s → look bytes (b + s) s ≡ hit l o → Owner nodes (b + s) s
    hit_owner b s l o free k e = go (owned.owner (b + s) (λ z. omega (arith, z, p, k)))
      where
        p : symbol_in bytes (b + s) ≡ s
        p = hit_symbol bytes (b + s) s l o e

        go : Owner nodes (b + s) (symbol_in bytes (b + s)) ⊎ (symbol_in site.bytes (b + s) ≡ symbol_in bytes (b + s)) → Owner nodes (b + s) s
        go (inl w) = subst (λ (t : ℕ). Owner nodes (b + s) t) p w
        go (inr q) = absurd (omega (arith, free, sited.based b s k (q ∙ p)))

    -- and nothing else
    pub look_only : (j s l o : ℕ) → j < length nodes → 1 ≤ s → look bytes ((node nodes j).base + s) s ≡ hit l o → Goes (node nodes j) s
    look_only j s l o h k e =
        let w = hit_owner (node nodes j).base s l o (tree.untaken j h) k e in
        subst (λ (i : ℕ). Goes (node nodes i) s) (tree.apart w.at j w.inside h (omega (arith, w.place))) w.goes

  module _ (links : Linked nodes bytes) where
    -- a string behind a node is a path
    pub along_goes : (j : ℕ) → j < length nodes → (s : ℕ) → Goes (node nodes j) s
        → along bytes site.root ((node nodes j).path ▸ s) ≡ hit (link_in bytes ((node nodes j).base + s)) (output_in bytes ((node nodes j).base + s))
    along_goes = tree_each site nodes tree Reached first later
      where
        Reached : ℕ → Type 0
        Reached j = (s : ℕ) → Goes (node nodes j) s
            → along bytes site.root ((node nodes j).path ▸ s) ≡ hit (link_in bytes ((node nodes j).base + s)) (output_in bytes ((node nodes j).base + s))

        first : (j : ℕ) → j < length nodes → (node nodes j).path ≡ [] → Reached j
        first j h e s g =
            ap (λ (u : List ℕ). along bytes site.root (u ▸ s)) e
            ∙ unfold along in ap (λ (n : ℕ). look bytes (n + s) s) (sym (tree.root j h e))
            ∙ look_goes j s h g

        later : (j k x : ℕ) → j < length nodes → k < length nodes → Goes (node nodes k) x → (node nodes j).path ≡ (node nodes k).path ▸ x → Reached k → Reached j
        later j k x h i f e next s g =
            ap (λ (u : List ℕ). along bytes site.root (u ▸ s)) e
            ∙ along_further bytes (node nodes k).path site.root x s
            ∙ ap (λ (l : Look). onward (λ n. look bytes (n + s) s) l) (next x f)
            ∙ onward_hit (λ n. look bytes (n + s) s) _ _ (λ z. other (tree.some j h (sym (links.linked j k x h i f e) ∙ z)))
            ∙ ap (λ (n : ℕ). look bytes (n + s) s) (links.linked j k x h i f e)
            ∙ look_goes j s h g
          where
            other : (node nodes j).path ≡ [] → ⊥
            other z = omega (arith, snoc_length (node nodes k).path x, ap length (sym z ∙ e))

    module _ (sited : Sited site) where
      -- and every path stands behind a node: so it is with the paths of fewer than n symbols before their last
      abbrev Only : ℕ → Type 0
      Only n = (v : List ℕ) (s l o : ℕ) → length v < n → all_symbols (v ▸ s) ≡ true → along bytes site.root (v ▸ s) ≡ hit l o → Behind nodes (v ▸ s)

      only_step : (n : ℕ) → Only n → Only (suc n)
      only_step n next [] s l o m a e =
          let w = hit_owner sited site.root s l o sited.root_free (alphabet_last [] s a).0 (unfold along in e) in
          let z = tree.rooted w.at w.inside (omega (arith, w.place)) in
          record { at = w.at; inside = w.inside; last = s; same = ap (λ (u : List ℕ). u ▸ s) (sym z); goes = w.goes }
      only_step n next (y ∷ v) s l o m a e = go (ended y v)
        where
          go : Ended (y ∷ v) → Behind nodes ((y ∷ v) ▸ s)
          go c =
              let i = onward_from _ _ l o (sym (along_further bytes c.front site.root c.last s) ∙ ap (λ (u : List ℕ). along bytes site.root (u ▸ s)) (sym c.same) ∙ e) in
              let f = alphabet_last (c.front ▸ c.last) s (subst (λ (u : List ℕ). all_symbols (u ▸ s) ≡ true) c.same a) in
              let b = next c.front c.last i.from i.past (omega (arith, snoc_length c.front c.last, ap length c.same)) f.2 i.looked in
              let g = ap (λ (u : List ℕ). along bytes site.root u) (sym b.same) ∙ i.looked in
              let k = along_goes b.at b.inside b.last b.goes in
              let q : i.from ≡ link_in bytes (cell_behind nodes _ b) = links_once (sym g ∙ k) in
              found c b i f.0 q (search_node nodes ((node nodes b.at).path ▸ b.last))
            where
              found : (c : Ended (y ∷ v)) (b : Behind nodes (c.front ▸ c.last)) (i : Onward (λ n. look bytes (n + s) s) (along bytes site.root (c.front ▸ c.last)) l o) → 1 ≤ s
                  → i.from ≡ link_in bytes (cell_behind nodes (c.front ▸ c.last) b)
                  → Placed nodes ((node nodes b.at).path ▸ b.last) ⊎ ((i : ℕ) → i < length nodes → (node nodes i).path ≡ (node nodes b.at).path ▸ b.last → ⊥)
                  → Behind nodes ((y ∷ v) ▸ s)
              found c b i h q (inr none) = absurd (i.some (q ∙ links.unlinked b.at b.last b.inside b.goes none))
              found c b i h q (inl p) =
                  let r = q ∙ links.linked p.at b.at b.last p.inside b.inside b.goes p.same in
                  record {
                    at = p.at;
                    inside = p.inside;
                    last = s;
                    same = ap (λ (u : List ℕ). u ▸ s) (c.same ∙ b.same ∙ sym p.same);
                    goes = look_only sited p.at s l o p.inside h (ap (λ (n : ℕ). look bytes (n + s) s) (sym r) ∙ i.goes);
                  }

      only_from : (n : ℕ) → Only n
      only_from zero = λ v s l o m. absurd (omega arith)
      only_from (suc n) = only_step n (only_from n)

      pub along_only : (u : List ℕ) (l o : ℕ) → all_symbols u ≡ true → along bytes site.root u ≡ hit l o → Behind nodes u
      unfolding along
      along_only [] l o a e = clash cc
      along_only (x ∷ u) l o a e =
          let c = ended x u in
          let b = only_from (suc (length c.front)) c.front c.last l o (omega arith) (subst (λ (v : List ℕ). all_symbols v ≡ true) c.same a)
          (ap (λ (v : List ℕ). along bytes site.root v) (sym c.same) ∙ e) in
          record { at = b.at; inside = b.inside; last = b.last; same = c.same ∙ b.same; goes = b.goes }

-- Bytes that hold the same symbols in the cells used have the same owners.
pub owned_moved : (site : Site) (nodes : List Node) (a b : List ℕ) → ((j s : ℕ) → j < length nodes → Goes (node nodes j) s → Holds a ((node nodes j).base + s) s → Holds b ((node nodes j).base + s) s) → ((n : ℕ) → (symbol_in b n ≡ 0 → ⊥) → symbol_in b n ≡ symbol_in a n)
    → Owned site nodes a → Owned site nodes b
owned_moved site nodes a b holds same owned =
    record {
      held = λ j s h g. holds j s h g (owned.held j s h g);
      owner = λ n d. subst (λ (s : ℕ). Owner nodes n s ⊎ (symbol_in site.bytes n ≡ s)) (sym (same n d)) (owned.owner n (λ z. d (same n d ∙ z)));
      own_free = owned.own_free;
    }

pub linked_moved : (nodes : List Node) (a b : List ℕ) → ((j s : ℕ) → j < length nodes → Goes (node nodes j) s → link_in b ((node nodes j).base + s) ≡ link_in a ((node nodes j).base + s))
    → Linked nodes a → Linked nodes b
linked_moved nodes a b same links =
    record {
      linked = λ i j s h k g e. same j s k g ∙ links.linked i j s h k g e;
      unlinked = λ j s k g none. same j s k g ∙ links.unlinked j s k g none;
    }
