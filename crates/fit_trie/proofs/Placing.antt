-- One node placed: a base that no node has, whose cells are free, keeps all that is said of the nodes before it.
use Prim.Native.Nat.{ℕ, zero, suc, ◌+◌, ◌*◌, ◌-◌, ◌≤◌, ◌<◌}
use mathlib.Core.Bool.{Bool, true, false, cond}
use mathlib.Core.List.{List, [], ◌∷◌}
use mathlib.Core.Logic.{◌⊎◌, inl, inr}
use mathlib.Core.Path.{◌≡◌, refl, sym, ◌∙◌, ap, subst}
use native.Mathlib.Decide.{ℕ_discrete, dec_le}
use native.Mathlib.Omega.{arith}
use lib.ListN.{length, get_or, set, length-set}
use lib.Seq.{get_or-set_same, get_or-set_other}
use Rattle.base.specs.Limits.{symbol_limit, cell_limit}
use Rattle.base.proofs.Lists.{never}
use Rattle.table.specs.Table.{cell_size, cell_room}
use Rattle.fit.specs.Cells.{put_number, put_cell, put_cells, cell_of, put_link}
use Rattle.fit_trie.proofs.Bytes.{kind_in, symbol_in, link_in, output_in, put_length, put_kept, put_apart, put_read, cell_length, cell_kept, cell_symbol, cell_kind_lem, cell_numbers_lem}
use Rattle.patterns.proofs.Strings.{◌▸◌, snoc_length}
use Rattle.fit_trie.proofs.Nodes.{Node, node, Goes, Holds, Owner, Site, Owned, Behind, cell_behind, Tree, Linked, one_owner, cell_of_lem, owned_moved, linked_moved}

-- the cells of a node's continuations, n symbols from s on
module _ (child : ℕ → Bool) (base : ℕ) where
  cells_length : (n s : ℕ) (bytes : List ℕ) → length (put_cells child base s n bytes) ≡ length bytes
  unfolding put_cells
  cells_length zero s bytes = refl
  cells_length (suc n) s bytes = cells_length n (suc s) _ ∙ go (child s)
    where
      go : (z : Bool) → length (cond z (put_cell (base + s) s bytes) bytes) ≡ length bytes
      go true = cell_length (base + s) s bytes
      go false = refl

  cells_numbers : (n s : ℕ) (bytes : List ℕ) (k : ℕ)
      → (link_in (put_cells child base s n bytes) k ≡ link_in bytes k) × (output_in (put_cells child base s n bytes) k ≡ output_in bytes k)
  unfolding put_cells
  cells_numbers zero s bytes k = (refl, refl)
  cells_numbers (suc n) s bytes k =
      let next = cells_numbers n (suc s) (cond (child s) (put_cell (base + s) s bytes) bytes) k in
      let here = go (child s) in
      (next.0 ∙ here.0, next.1 ∙ here.1)
    where
      go : (z : Bool) → (link_in (cond z (put_cell (base + s) s bytes) bytes) k ≡ link_in bytes k) × (output_in (cond z (put_cell (base + s) s bytes) bytes) k ≡ output_in bytes k)
      go true = cell_numbers_lem (base + s) s bytes k
      go false = (refl, refl)

  -- other cells keep kind and symbol
  cells_other : (n s : ℕ) (bytes : List ℕ) (k : ℕ) → ((t : ℕ) → s ≤ t → t < s + n → child t ≡ true → base + t ≡ k → ⊥)
      → (kind_in (put_cells child base s n bytes) k ≡ kind_in bytes k) × (symbol_in (put_cells child base s n bytes) k ≡ symbol_in bytes k)
  unfolding put_cells
  cells_other zero s bytes k h = (refl, refl)
  cells_other (suc n) s bytes k h =
      let next = cells_other n (suc s) (cond (child s) (put_cell (base + s) s bytes) bytes) k (λ t a b. h t (omega arith) (omega arith)) in
      let here = go (child s) refl in
      (next.0 ∙ here.0, next.1 ∙ here.1)
    where
      go : (z : Bool) → child s ≡ z → (kind_in (cond z (put_cell (base + s) s bytes) bytes) k ≡ kind_in bytes k) × (symbol_in (cond z (put_cell (base + s) s bytes) bytes) k ≡ symbol_in bytes k)
      go true p =
          let d = h s (omega arith) (omega arith) p in
          (cell_kept (base + s) s bytes _ (λ e. d (omega (arith, e))) (λ e. omega (arith, e)), cell_kept (base + s) s bytes _ (λ e. omega (arith, e)) (λ e. d (omega (arith, e))))
      go false p = (refl, refl)

  -- a continuation's cell holds its symbol
  cells_held : (n s : ℕ) (bytes : List ℕ) (t : ℕ) → s ≤ t → t < s + n → child t ≡ true → cell_size * (base + t) + cell_size ≤ length bytes
      → Holds (put_cells child base s n bytes) (base + t) t
  unfolding put_cells
  cells_held zero s bytes t a b p h = absurd (omega arith)
  cells_held (suc n) s bytes t a b p h = go (ℕ_discrete t s) (cells_held n (suc s) (cond (child s) (put_cell (base + s) s bytes) bytes) t)
    where
      sized : (z : Bool) → length (cond z (put_cell (base + s) s bytes) bytes) ≡ length bytes
      sized true = cell_length (base + s) s bytes
      sized false = refl

      go : Dec (t ≡ s)
          → (suc s ≤ t → t < suc s + n → child t ≡ true → cell_size * (base + t) + cell_size ≤ length (cond (child s) (put_cell (base + s) s bytes) bytes)
          → Holds (put_cells child base (suc s) n (cond (child s) (put_cell (base + s) s bytes) bytes)) (base + t) t)
          → Holds (put_cells child base (suc s) n (cond (child s) (put_cell (base + s) s bytes) bytes)) (base + t) t
      go (no d) next = next (omega arith) (omega arith) p (omega (arith, sized (child s)))
      go (yes e) next =
          let put : cond (child s) (put_cell (base + s) s bytes) bytes ≡ put_cell (base + s) s bytes = ap (λ (z : Bool). cond z (put_cell (base + s) s bytes) bytes) (sym (ap child e) ∙ p) in
          let kept = cells_other n (suc s) (put_cell (base + s) s bytes) (base + s) (λ t c d q f. omega (arith, c, f)) in
          let k : cell_size * (base + s) + cell_size ≤ length bytes = omega arith in
          let w : Holds (put_cells child base (suc s) n (put_cell (base + s) s bytes)) (base + s) s =
          record {
            within = omega (arith, cells_length n (suc s) (put_cell (base + s) s bytes), cell_length (base + s) s bytes);
            kind = kept.0 ∙ cell_kind_lem (base + s) s bytes k;
            symbol = kept.1 ∙ cell_symbol (base + s) s bytes k;
          } in
          rw (put, e) w

-- The layout while nodes are placed in a site: bytes and marks for 8,192 cells, free cells without a link, outputs as before, and no
-- cell or base free that was not so before.
pub record Laid (site : Site) (nodes : List Node) (bytes taken : List ℕ) : Type 0 where
  pub size : length bytes ≡ cell_room
  pub room : length taken ≡ cell_limit
  pub tree : Tree site nodes
  pub owned : Owned site nodes bytes
  pub links : Linked nodes bytes
  pub blank : (n : ℕ) → symbol_in bytes n ≡ 0 → link_in bytes n ≡ 0
  pub silent : (n : ℕ) → output_in bytes n ≡ output_in site.bytes n
  pub free : (n : ℕ) → symbol_in bytes n ≡ 0 → symbol_in site.bytes n ≡ 0
  pub marked : (i : ℕ) → i < length nodes → get_or taken (node nodes i).base 0 ≡ 1
  pub unmarked : (b : ℕ) → ((i : ℕ) → i < length nodes → (node nodes i).base ≡ b → ⊥) → get_or taken b 0 ≡ get_or site.taken b 0
  pub untaken : (b : ℕ) → get_or taken b 0 ≡ 0 → get_or site.taken b 0 ≡ 0

-- What a node needs to be placed behind those that are.
pub record Fitting (site : Site) (nodes : List Node) (bytes taken : List ℕ) (new : Node) : Type 0 where
  pub free : (s : ℕ) → Goes new s → symbol_in bytes (new.base + s) ≡ 0
  pub within : (s : ℕ) → Goes new s → new.base + s < cell_limit
  pub inside : new.base < cell_limit
  pub unmarked : get_or taken new.base 0 ≡ 0
  pub root : new.path ≡ [] → new.base ≡ site.root
  pub rooted : new.base ≡ site.root → new.path ≡ []
  pub some : new.base ≡ 0 → new.path ≡ []
  pub fresh : (i : ℕ) → i < length nodes → (node nodes i).path ≡ new.path → ⊥
  pub longest : (i : ℕ) → i < length nodes → length (node nodes i).path ≤ length new.path
  pub behind : (new.path ≡ [] → ⊥) → Behind nodes new.path

behind_more : (nodes : List Node) (new : Node) (u : List ℕ) → Behind nodes u → Behind (new ∷ nodes) u
behind_more nodes new u b = record { at = suc b.at; inside = omega (arith, b.inside); last = b.last; same = b.same; goes = b.goes }

module _ (site : Site) (nodes : List Node) (bytes taken : List ℕ) (new : Node) (laid : Laid site nodes bytes taken) (fits : Fitting site nodes bytes taken new) where
  -- the bytes with the new cells
  celled : List ℕ
  celled = put_cells new.child new.base 1 symbol_limit bytes

  -- a cell that held a symbol is no new one
  old_cell : (n t : ℕ) → (symbol_in bytes n ≡ 0 → ⊥) → 1 ≤ t → t < 1 + symbol_limit → new.child t ≡ true → new.base + t ≡ n → ⊥
  old_cell n t d a b p e = d (ap (λ (k : ℕ). symbol_in bytes k) (sym e) ∙ fits.free t (record { low = a; high = omega arith; goes = p }))

  celled_size : length celled ≡ cell_room
  unfolding celled
  celled_size = cells_length new.child new.base symbol_limit 1 bytes ∙ laid.size

  celled_numbers : (k : ℕ) → (link_in celled k ≡ link_in bytes k) × (output_in celled k ≡ output_in bytes k)
  unfolding celled
  celled_numbers k = cells_numbers new.child new.base symbol_limit 1 bytes k

  celled_old : (n s : ℕ) → 1 ≤ s → Holds bytes n s → Holds celled n s
  unfolding celled
  celled_old n s k h =
      let same = cells_other new.child new.base symbol_limit 1 bytes n (λ t. old_cell n t (λ z. omega (arith, k, z, h.symbol))) in
      record { within = omega (arith, celled_size, laid.size, h.within); kind = same.0 ∙ h.kind; symbol = same.1 ∙ h.symbol }

  celled_new : (s : ℕ) → Goes new s → Holds celled (new.base + s) s
  unfolding celled
  celled_new s g = cells_held new.child new.base symbol_limit 1 bytes s g.low (omega (arith, g.high)) g.goes (omega (arith, fits.within s g, laid.size))

  -- a cell whose symbol byte changed is a new one
  celled_owner : (n : ℕ) → (symbol_in celled n ≡ 0 → ⊥) → Owner (new ∷ nodes) n (symbol_in celled n) ⊎ (symbol_in site.bytes n ≡ symbol_in celled n)
  unfolding celled
  celled_owner n d = go (dec_le new.base n) (dec_le 1 (n - new.base)) (dec_le (n - new.base) symbol_limit) (new.child (n - new.base)) refl
    where
      Held : Type 0
      Held = Owner (new ∷ nodes) n (symbol_in celled n) ⊎ (symbol_in site.bytes n ≡ symbol_in celled n)

      kept : symbol_in celled n ≡ symbol_in bytes n → Owner nodes n (symbol_in bytes n) ⊎ (symbol_in site.bytes n ≡ symbol_in bytes n) → Held
      kept same (inl w) =
          inl (subst (λ (s : ℕ). Owner (new ∷ nodes) n s) (sym same) (record { at = suc w.at; inside = omega (arith, w.inside); place = w.place; goes = w.goes }))
      kept same (inr e) = inr (e ∙ sym same)

      old : ((t : ℕ) → 1 ≤ t → t < 1 + symbol_limit → new.child t ≡ true → new.base + t ≡ n → ⊥) → Held
      old other =
          let same = (cells_other new.child new.base symbol_limit 1 bytes n other).1 in
          kept same (laid.owned.owner n (λ z. d (same ∙ z)))

      go : Dec (new.base ≤ n) → Dec (1 ≤ n - new.base) → Dec (n - new.base ≤ symbol_limit) → (z : Bool) → new.child (n - new.base) ≡ z → Held
      go (yes a) (yes b) (yes c) true p =
          let e : new.base + (n - new.base) ≡ n = omega arith in
          let g : Goes new (n - new.base) = record { low = b; high = c; goes = p } in
          let s : symbol_in celled n ≡ n - new.base = ap (λ (k : ℕ). symbol_in celled k) (sym e) ∙ (celled_new (n - new.base) g).symbol in
          inl (subst (λ (s : ℕ). Owner (new ∷ nodes) n s) (sym s) (record { at = 0; inside = omega arith; place = e; goes = g }))
      go (yes a) (yes b) (yes c) false p = old (λ t x y q e. let k : t ≡ n - new.base = omega arith in never (sym p ∙ ap new.child (sym k) ∙ q))
      go (yes a) (yes b) (no c) z p = old (λ t x y q e. c (omega arith))
      go (yes a) (no b) c z p = old (λ t x y q e. b (omega arith))
      go (no a) b c z p = old (λ t x y q e. a (omega arith))

  celled_owned : Owned site (new ∷ nodes) celled
  celled_owned = record { held = held; owner = celled_owner; own_free = own_free }
    where
      held : (j s : ℕ) → j < length (new ∷ nodes) → Goes (node (new ∷ nodes) j) s → Holds celled ((node (new ∷ nodes) j).base + s) s
      held zero s h g = celled_new s g
      held (suc j) s h g = celled_old ((node nodes j).base + s) s g.low (laid.owned.held j s (omega arith) g)

      own_free : (j s : ℕ) → j < length (new ∷ nodes) → Goes (node (new ∷ nodes) j) s → symbol_in site.bytes ((node (new ∷ nodes) j).base + s) ≡ 0
      own_free zero s h g = laid.free (new.base + s) (fits.free s g)
      own_free (suc j) s h g = laid.owned.own_free j s (omega arith) g

  celled_blank : (n : ℕ) → symbol_in celled n ≡ 0 → symbol_in bytes n ≡ 0
  unfolding celled
  celled_blank n e = go (ℕ_discrete (symbol_in bytes n) 0)
    where
      go : Dec (symbol_in bytes n ≡ 0) → symbol_in bytes n ≡ 0
      go (yes z) = z
      go (no d) = absurd (d (sym (cells_other new.child new.base symbol_limit 1 bytes n (λ t. old_cell n t d)).1 ∙ e))

  new_tree : Tree site (new ∷ nodes)
  new_tree = record { apart = apart; distinct = distinct; root = root; rooted = rooted; some = some; untaken = untaken; behind = behind }
    where
      taken_base : (j : ℕ) → j < length nodes → new.base ≡ (node nodes j).base → ⊥
      taken_base j h e = omega (arith, laid.marked j h, fits.unmarked, ap (λ (b : ℕ). get_or taken b 0) e)

      apart : (i j : ℕ) → i < length (new ∷ nodes) → j < length (new ∷ nodes) → (node (new ∷ nodes) i).base ≡ (node (new ∷ nodes) j).base → i ≡ j
      apart zero zero h k e = refl
      apart zero (suc j) h k e = absurd (taken_base j (omega arith) e)
      apart (suc i) zero h k e = absurd (taken_base i (omega arith) (sym e))
      apart (suc i) (suc j) h k e = ap suc (laid.tree.apart i j (omega arith) (omega arith) e)

      distinct : (i j : ℕ) → i < length (new ∷ nodes) → j < length (new ∷ nodes) → (node (new ∷ nodes) i).path ≡ (node (new ∷ nodes) j).path → i ≡ j
      distinct zero zero h k e = refl
      distinct zero (suc j) h k e = absurd (fits.fresh j (omega arith) (sym e))
      distinct (suc i) zero h k e = absurd (fits.fresh i (omega arith) e)
      distinct (suc i) (suc j) h k e = ap suc (laid.tree.distinct i j (omega arith) (omega arith) e)

      root : (i : ℕ) → i < length (new ∷ nodes) → (node (new ∷ nodes) i).path ≡ [] → (node (new ∷ nodes) i).base ≡ site.root
      root zero h e = fits.root e
      root (suc i) h e = laid.tree.root i (omega arith) e

      rooted : (i : ℕ) → i < length (new ∷ nodes) → (node (new ∷ nodes) i).base ≡ site.root → (node (new ∷ nodes) i).path ≡ []
      rooted zero h e = fits.rooted e
      rooted (suc i) h e = laid.tree.rooted i (omega arith) e

      some : (i : ℕ) → i < length (new ∷ nodes) → (node (new ∷ nodes) i).base ≡ 0 → (node (new ∷ nodes) i).path ≡ []
      some zero h e = fits.some e
      some (suc i) h e = laid.tree.some i (omega arith) e

      untaken : (i : ℕ) → i < length (new ∷ nodes) → get_or site.taken (node (new ∷ nodes) i).base 0 ≡ 0
      untaken zero h = laid.untaken new.base fits.unmarked
      untaken (suc i) h = laid.tree.untaken i (omega arith)

      behind : (i : ℕ) → i < length (new ∷ nodes) → ((node (new ∷ nodes) i).path ≡ [] → ⊥) → Behind (new ∷ nodes) (node (new ∷ nodes) i).path
      behind zero h d = behind_more nodes new new.path (fits.behind d)
      behind (suc i) h d = behind_more nodes new (node nodes i).path (laid.tree.behind i (omega arith) d)

  -- The bytes with the new node's link: it stands in the cell of its path, and every other field is as before.
  record Tied (after : List ℕ) : Type 0 where
    size : length after ≡ length celled
    kinds : (n : ℕ) → kind_in after n ≡ kind_in celled n
    symbols : (n : ℕ) → symbol_in after n ≡ symbol_in celled n
    outputs : (n : ℕ) → output_in after n ≡ output_in celled n
    here : (b : Behind nodes new.path) → link_in after (cell_behind nodes new.path b) ≡ new.base
    there : (n : ℕ) → ((b : Behind nodes new.path) → n ≡ cell_behind nodes new.path b → ⊥) → link_in after n ≡ link_in celled n

  tie : Tied (put_link site.root new.path new.base celled)
  tie = go new.path refl
    where
      go : (u : List ℕ) → new.path ≡ u → Tied (put_link site.root u new.base celled)
      go [] e =
          unfold put_link in record {
            size = refl;
            kinds = λ n. refl;
            symbols = λ n. refl;
            outputs = λ n. refl;
            here = λ b. absurd (omega (arith, snoc_length (node nodes b.at).path b.last, ap length (sym b.same ∙ e)));
            there = λ n d. refl;
          }
      go (x ∷ u) e =
          unfold put_link in record {
            size = put_length _ _ celled;
            kinds = λ n. put_kept _ _ celled (cell_size * n) (λ p. omega (arith, p)) (λ p. omega (arith, p));
            symbols = λ n. put_kept _ _ celled (cell_size * n + 1) (λ p. omega (arith, p)) (λ p. omega (arith, p));
            outputs = λ n. put_apart _ _ celled (cell_size * n + 4) (λ p. omega (arith, p)) (λ p. omega (arith, p)) (λ p. omega (arith, p));
            here = λ b. ap (λ (n : ℕ). link_in (put_number (cell_size * cell_of celled site.root (x ∷ u) + 2) new.base celled) n) (own b) ∙ put_read _ new.base celled (room b);
            there = λ n d. put_apart _ _ celled (cell_size * n + 2) (λ p. other n d (omega (arith, p))) (λ p. omega (arith, p)) (λ p. omega (arith, p));
          }
        where
          own : (b : Behind nodes new.path) → cell_behind nodes new.path b ≡ cell_of celled site.root (x ∷ u)
          own b =
              sym (cell_of_lem site nodes celled laid.tree (linked_moved nodes bytes celled (λ j s h g. (celled_numbers ((node nodes j).base + s)).0) laid.links) b.at b.inside b.last)
              ∙ ap (λ (v : List ℕ). cell_of celled site.root v) (sym b.same ∙ e)

          room : (b : Behind nodes new.path) → cell_size * cell_of celled site.root (x ∷ u) + 2 + 2 ≤ length celled
          room b = let h = celled_old (cell_behind nodes new.path b) b.last b.goes.low (laid.owned.held b.at b.last b.inside b.goes) in omega (arith, h.within, own b)

          other : (n : ℕ) → ((b : Behind nodes new.path) → n ≡ cell_behind nodes new.path b → ⊥) → n ≡ cell_of celled site.root (x ∷ u) → ⊥
          other n d p =
              let b = fits.behind (λ z. let w : ◌≡◌ {A = ℕ} 0 1 = omega (arith, ap length (sym z ∙ e)) in omega arith) in
              d b (p ∙ sym (own b))

  module _ (after : List ℕ) (tied : Tied after) where
    -- a continuation placed before, in the cell of the new path, is that path
    same_path : (j s : ℕ) → j < length nodes → Goes (node nodes j) s → (b : Behind nodes new.path) → (node nodes j).base + s ≡ cell_behind nodes new.path b
        → new.path ≡ (node nodes j).path ▸ s
    same_path j s h g b e =
        let w = one_owner site nodes bytes laid.tree laid.owned j b.at s b.last h b.inside g b.goes e in
        b.same ∙ ap (λ (i : ℕ). (node nodes i).path ▸ b.last) (sym w.0) ∙ ap (λ (x : ℕ). (node nodes j).path ▸ x) (sym w.1)

    -- a new cell is not that of the new path
    new_cell : (s : ℕ) → Goes new s → (b : Behind nodes new.path) → new.base + s ≡ cell_behind nodes new.path b → ⊥
    new_cell s g b e =
        omega (arith, b.goes.low, (laid.owned.held b.at b.last b.inside b.goes).symbol, fits.free s g, ap (λ (n : ℕ). symbol_in bytes n) e)

    after_links : Linked (new ∷ nodes) after
    after_links = record { linked = linked; unlinked = unlinked }
      where
        linked : (i j s : ℕ) → i < length (new ∷ nodes) → j < length (new ∷ nodes) → Goes (node (new ∷ nodes) j) s → (node (new ∷ nodes) i).path ≡ (node (new ∷ nodes) j).path ▸ s
            → link_in after ((node (new ∷ nodes) j).base + s) ≡ (node (new ∷ nodes) i).base
        linked zero zero s h k g e = absurd (omega (arith, ap length e, snoc_length new.path s))
        linked zero (suc j) s h k g e = tied.here (record { at = j; inside = omega arith; last = s; same = e; goes = g })
        linked (suc i) zero s h k g e = absurd (omega (arith, ap length e, snoc_length new.path s, fits.longest i (omega arith)))
        linked (suc i) (suc j) s h k g e =
            tied.there ((node nodes j).base + s) (λ b p. fits.fresh i (omega arith) (e ∙ sym (same_path j s (omega arith) g b p)))
            ∙ (celled_numbers ((node nodes j).base + s)).0
            ∙ laid.links.linked i j s (omega arith) (omega arith) g e

        unlinked : (j s : ℕ) → j < length (new ∷ nodes) → Goes (node (new ∷ nodes) j) s
            → ((i : ℕ) → i < length (new ∷ nodes) → (node (new ∷ nodes) i).path ≡ (node (new ∷ nodes) j).path ▸ s → ⊥) → link_in after ((node (new ∷ nodes) j).base + s) ≡ 0
        unlinked zero s h g none = tied.there (new.base + s) (new_cell s g) ∙ (celled_numbers (new.base + s)).0 ∙ laid.blank (new.base + s) (fits.free s g)
        unlinked (suc j) s h g none =
            tied.there ((node nodes j).base + s) (λ b p. none 0 (omega arith) (same_path j s (omega arith) g b p))
            ∙ (celled_numbers ((node nodes j).base + s)).0
            ∙ laid.links.unlinked j s (omega arith) g (λ i k. none (suc i) (omega arith))

    after_blank : (n : ℕ) → symbol_in after n ≡ 0 → link_in after n ≡ 0
    after_blank n e =
        let z = celled_blank n (sym (tied.symbols n) ∙ e) in
        tied.there n (λ b p. omega (arith, b.goes.low, (laid.owned.held b.at b.last b.inside b.goes).symbol, z, ap (λ (k : ℕ). symbol_in bytes k) p))
        ∙ (celled_numbers n).0
        ∙ laid.blank n z

    after_marked : (i : ℕ) → i < length (new ∷ nodes) → get_or (set taken new.base 1) (node (new ∷ nodes) i).base 0 ≡ 1
    after_marked zero h = get_or-set_same taken new.base 1 0 (omega (arith, fits.inside, laid.room))
    after_marked (suc i) h =
        let m = laid.marked i (omega arith) in
        get_or-set_other taken new.base (node nodes i).base 1 0 (λ e. omega (arith, m, fits.unmarked, ap (λ (b : ℕ). get_or taken b 0) e)) ∙ m

    -- a base without a mark had none
    still : (b : ℕ) → get_or (set taken new.base 1) b 0 ≡ 0 → get_or taken b 0 ≡ 0
    still b e = go (ℕ_discrete new.base b)
      where
        go : Dec (new.base ≡ b) → get_or taken b 0 ≡ 0
        go (yes p) = subst (λ (k : ℕ). get_or taken k 0 ≡ 0) p fits.unmarked
        go (no d) = sym (get_or-set_other taken new.base b 1 0 (λ q. d (sym q))) ∙ e

    after_laid : Laid site (new ∷ nodes) after (set taken new.base 1)
    after_laid =
        record {
          size = tied.size ∙ celled_size;
          room = length-set taken new.base 1 ∙ laid.room;
          tree = new_tree;
          owned = owned_moved site (new ∷ nodes) celled after
              (λ j s l g h. record { within = omega (arith, h.within, tied.size); kind = tied.kinds _ ∙ h.kind; symbol = tied.symbols _ ∙ h.symbol }) (λ n d. tied.symbols n) celled_owned;
          links = after_links;
          blank = after_blank;
          silent = λ n. tied.outputs n ∙ (celled_numbers n).1 ∙ laid.silent n;
          free = λ n e. laid.free n (celled_blank n (sym (tied.symbols n) ∙ e));
          marked = after_marked;
          unmarked = λ b none. get_or-set_other taken new.base b 1 0 (λ e. none 0 (omega arith) (sym e)) ∙ laid.unmarked b (λ i h. none (suc i) (omega arith));
          untaken = λ b e. laid.untaken b (still b e);
        }

  -- One more node: its cells, its link and its mark.
  pub laid_more : Laid site (new ∷ nodes) (put_link site.root new.path new.base (put_cells new.child new.base 1 symbol_limit bytes)) (set taken new.base 1)
  unfolding celled
  laid_more = after_laid _ tie
