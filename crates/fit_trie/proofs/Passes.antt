-- The passes over the list: they place exactly the paths that some pattern goes on behind.
use Prim.Native.Nat.{ℕ, zero, suc, ◌+◌, ◌*◌, ◌-◌, ◌≤◌, ◌<◌}
use mathlib.Core.Bool.{Bool, true, false, cond}
use mathlib.Core.List.{List, [], ◌∷◌}
use mathlib.Core.Logic.{◌⊎◌, inl, inr}
use mathlib.Core.Path.{◌≡◌, refl, sym, ◌∙◌, ap, subst}
use native.Mathlib.Decide.{ℕ_discrete, dec_lt}
use native.Mathlib.Omega.{arith}
use borrow.Author.Tests.{eqb-true, eq-eqb, ne_eqb}
use lib.Dec.{eqb}
use lib.ListN.{length, get_or, set, take, drop, replicate, get_or-replicate, length-replicate, drop_of_length-le, get_or-eq_default}
use lib.Seq.{length-take-le, take-suc, drop-cons}
use Rattle.base.specs.Limits.{symbol_limit, pattern_limit, cell_limit}
use Rattle.liang.specs.Patterns.{Pattern}
use Rattle.liang.specs.Levels.{begins}
use Rattle.patterns.specs.Common.{common}
use Rattle.table.specs.Table.{cell_size, cell_room, root_base, number_at}
use Rattle.patterns.specs.Strings.{nth, no_pattern, Beginning, Shaped, Sorted}
use Rattle.patterns.specs.Next.{next_in, opens}
use Rattle.patterns.proofs.Strings.{begins_alphabet, ◌▸◌, snoc_length, length_none, alphabet_last, begins_take}
use Rattle.base.specs.Tests.{smallest}
use Rattle.patterns.proofs.Sorted.{above}
use Rattle.fit.specs.Cells.{Layout, Full, Fits, serves, base_for, inside, put_cells, put_link, place_at, place, place_length, place_lengths, place_list, layout_of}
use Rattle.fit_trie.proofs.Bytes.{symbol_in, output_in}
use Rattle.fit_trie.proofs.Nodes.{Node, node, Goes, Owner, Site, Sited, Placed, Behind}
use Rattle.fit_trie.proofs.Placing.{Laid, Fitting, laid_more}
use Rattle.fit_trie.proofs.Search.{Smallest, smallest_found, serves_says, inside_says}
use Rattle.fit_trie.proofs.Opened.{Opened, goes_beginning, beginning_goes, opens_says, opens_not, opens_first}

-- Within the pass for paths of m symbols, before pattern k: what is placed, and that it is all that had to be.
pub record Passing (site : Site) (patterns : List Pattern) (m k : ℕ) (nodes : List Node) (bytes taken : List ℕ) : Type 0 where
  pub laid : Laid site nodes bytes taken
  pub opened : (i : ℕ) → i < length nodes → Opened patterns (node nodes i)
  pub short : (i : ℕ) → i < length nodes → length (node nodes i).path ≤ m
  pub early : (i : ℕ) → i < length nodes → length (node nodes i).path ≡ m → (node nodes i).opener < k
  pub shorter : (l j : ℕ) → l < m → j < length patterns → l < length (nth patterns j).symbols → Placed nodes (take l (nth patterns j).symbols)
  pub done : (j : ℕ) → j < k → m < length (nth patterns j).symbols → Placed nodes (take m (nth patterns j).symbols)

abbrev pub PassingIn : Site → List Pattern → ℕ → ℕ → Layout → Type 0
PassingIn site patterns m k Full = Unit
PassingIn site patterns m k (Fits bytes taken) = (nodes : List Node) × Passing site patterns m k nodes bytes taken

placed_more : (nodes : List Node) (new : Node) (u : List ℕ) → Placed nodes u → Placed (new ∷ nodes) u
placed_more nodes new u p = record { at = suc p.at; inside = omega (arith, p.inside); same = p.same }

-- two strings with m symbols in common
pub take_common : (m : ℕ) (a b : List ℕ) → m ≤ common a b → take m a ≡ take m b
unfolding common
take_common zero a b h = refl
take_common (suc m) [] b h = absurd (omega arith)
take_common (suc m) (x ∷ a) [] h = absurd (omega arith)
take_common (suc m) (x ∷ a) (y ∷ b) h = go (eqb x y) refl h (take_common m a b)
  where
    go : (z : Bool) → eqb x y ≡ z → suc m ≤ cond z (suc (common a b)) 0 → (m ≤ common a b → take m a ≡ take m b) → x ∷ take m a ≡ y ∷ take m b
    go true p k next = let e = eqb-true x y p in let f = next (omega arith) in cc
    go false p k next = absurd (omega arith)

-- Whatever each pattern keeps and each pass hands on to the next, from before the first pattern of the first pass on, holds of the
-- whole layout. `P m k` is said of the layout in the pass for paths of m symbols, before pattern k.
module _ (root : ℕ) (patterns : List Pattern) (P : ℕ → ℕ → Layout → Type 0)
    (step : (m k : ℕ) → k < length patterns → (layout : Layout) → P m k layout
    → P m (suc k) (cond (opens m (above [] patterns k) (nth patterns k).symbols) (place root m (nth patterns k).symbols (drop k patterns) layout) layout))
    (next : (m : ℕ) (layout : Layout) → P m (length patterns) layout → P (suc m) 0 layout) where
  pass_turn : (m k : ℕ) (layout : Layout) → k < length patterns
      → place_length root m (above [] patterns k) (drop k patterns) layout
      ≡ place_length root m (above [] patterns (suc k)) (drop (suc k) patterns) (cond (opens m (above [] patterns k) (nth patterns k).symbols) (place root m (nth patterns k).symbols (drop k patterns) layout) layout)
  unfolding place_length
  pass_turn m k layout h =
      let e = drop-cons patterns k no_pattern h in
      ap (λ (ps : List Pattern). place_length root m (above [] patterns k) ps layout) e
      ∙ ap (λ (ps : List Pattern). place_length root m (nth patterns k).symbols (drop (suc k) patterns) (cond (opens m (above [] patterns k) (nth patterns k).symbols) (place root m (nth patterns k).symbols ps layout) layout)) (sym e)

  pass_end : (m : ℕ) (a : List ℕ) (layout : Layout) → place_length root m a [] layout ≡ layout
  unfolding place_length
  pass_end m a layout = refl

  -- one pass, n patterns from k on
  pass_from : (m n k : ℕ) → k + n ≡ length patterns → (layout : Layout) → P m k layout → P m (length patterns) (place_length root m (above [] patterns k) (drop k patterns) layout)
  pass_from m zero k e layout now =
      let z : k ≡ length patterns = omega arith in
      let h : length patterns ≤ k = omega arith in
      let d : drop k patterns ≡ [] = drop_of_length-le patterns h in
      let same : place_length root m (above [] patterns k) (drop k patterns) layout ≡ layout = ap (λ (ps : List Pattern). place_length root m (above [] patterns k) ps layout) d ∙ pass_end m (above [] patterns k) layout in
      subst (λ (l : Layout). P m (length patterns) l) (sym same) (subst (λ (i : ℕ). P m i layout) z now)
  pass_from m (suc n) k e layout now =
      subst (λ (l : Layout). P m (length patterns) l) (sym (pass_turn m k layout (omega arith))) (pass_from m n (suc k) (omega arith) _ (step m k (omega arith) layout now))

  passes_from : (n m : ℕ) (layout : Layout) → P m 0 layout → P (m + n) 0 (place_lengths root m n patterns layout)
  unfolding place_lengths
  passes_from zero m layout now = let e : m ≡ m + 0 = omega arith in subst (λ (n : ℕ). P n 0 layout) e now
  passes_from (suc n) m layout now =
      let e : suc m + n ≡ m + suc n = omega arith in
      subst (λ (k : ℕ). P k 0 (place_lengths root (suc m) n patterns (place_length root m [] patterns layout))) e
      (passes_from n (suc m) (place_length root m [] patterns layout) (next m (place_length root m [] patterns layout) (pass_from m (length patterns) 0 (omega arith) layout now)))

  pub list_kept : (layout : Layout) → P 0 0 layout → P pattern_limit 0 (place_list root patterns layout)
  list_kept layout start = passes_from pattern_limit 0 layout start

-- The list, and the site where it is placed: the root's own cells are free there.
module _ (site : Site) (sited : Sited site) (patterns : List Pattern) (sorted : Sorted patterns) (shaped : (i : ℕ) → i < length patterns → Shaped (nth patterns i))
    (clear : (s : ℕ) → Beginning patterns (s ∷ []) → symbol_in site.bytes (site.root + s) ≡ 0) where
  -- a pattern's symbol at its place
  symbol_at : (m k : ℕ) → k < length patterns → m < length (nth patterns k).symbols
      → (1 ≤ get_or (nth patterns k).symbols m 0) × (get_or (nth patterns k).symbols m 0 ≤ symbol_limit) × (begins (take m (nth patterns k).symbols ▸ get_or (nth patterns k).symbols m 0) (nth patterns k).symbols ≡ true)
  symbol_at m k h l =
      let own = (nth patterns k).symbols in
      let b : begins (take m own ▸ get_or own m 0) own ≡ true = subst (λ (u : List ℕ). begins u own ≡ true) (take-suc own m 0 l) (begins_take (suc m) own) in
      let a = alphabet_last (take m own) (get_or own m 0) (begins_alphabet (take m own ▸ get_or own m 0) own b (shaped k h).alphabet) in
      (a.0, a.1, b)

  module _ (m k : ℕ) (within : k < length patterns) (nodes : List Node) (bytes taken : List ℕ) (now : Passing site patterns m k nodes bytes taken)
      (opening : opens m (above [] patterns k) (nth patterns k).symbols ≡ true) where
    abbrev pub own : List ℕ
    own = (nth patterns k).symbols

    longer : m < length own
    longer = (opens_says m (above [] patterns k) (nth patterns k).symbols opening).0

    abbrev pub new : ℕ → Node
    new base = record { path = take m own; base = base; child = next_in m own (drop k patterns); opener = k }

    pub size : length (take m own) ≡ m
    size = length-take-le m own (omega (arith, longer))

    pub new_opened : (base : ℕ) → Opened patterns (new base)
    new_opened base =
        record {
          within = within;
          longer = omega (arith, size, longer);
          stands = begins_take m own;
          first = λ j h b. omega (arith, size, opens_first patterns sorted m k within opening j h b);
          child = λ s. ap (λ (n : ℕ). next_in n own (drop k patterns) s) (sym size);
        }

    -- the path was not placed before: its opener would stand above this pattern
    fresh : (i : ℕ) → i < length (nodes) → (node (nodes) i).path ≡ take m own → ⊥
    fresh i h e =
        let o = now.opened i h in
        let b = subst (λ (u : List ℕ). begins u (nth patterns (node (nodes) i).opener).symbols ≡ true) e o.stands in
        let f = opens_first patterns sorted m k within opening (node (nodes) i).opener (now.early i h (ap length e ∙ size)) b in
        omega (arith, f, o.longer, ap length e, size)

    -- the pattern itself goes on with its next symbol
    pub own_goes : (base : ℕ) → Goes (new base) (get_or own m 0)
    own_goes base =
        let s = symbol_at m k within longer in
        beginning_goes patterns (new base) (new_opened base) sorted (get_or own m 0) s.0 s.1
        (record { some = omega (arith, snoc_length (take m own) (get_or own m 0)); at = k; within = within; stands = s.2 })

    -- the base that the search gives
    record Served (base : ℕ) : Type 0 where
      free : (s : ℕ) → Goes (new base) s → symbol_in bytes (base + s) ≡ 0
      low : base < cell_limit
      unmarked : get_or taken base 0 ≡ 0
      root : m ≡ 0 → base ≡ site.root
      rooted : base ≡ site.root → m ≡ 0
      some : base ≡ 0 → m ≡ 0

    -- where the root is placed no node is yet
    served_root : m ≡ 0 → Served site.root
    served_root z =
        record {
          free = λ s g. empty s g (ℕ_discrete (symbol_in bytes (site.root + s)) 0);
          low = sited.root_low;
          unmarked = now.laid.unmarked site.root (λ i h e. none i h) ∙ sited.root_free;
          root = λ e. refl;
          rooted = λ e. z;
          some = λ e. z;
        }
      where
        none : (i : ℕ) → i < length (nodes) → ⊥
        none i h = fresh i h (length_none (node (nodes) i).path (omega (arith, now.short i h, z)) ∙ sym (length_none (take m own) (omega (arith, size, z))))

        begun : (s : ℕ) → Goes (new site.root) s → Beginning patterns (s ∷ [])
        begun s g =
            subst (λ (u : List ℕ). Beginning patterns u) (ap (λ (n : ℕ). take n own ▸ s) z) (goes_beginning patterns (new site.root) (new_opened site.root) s g)

        empty : (s : ℕ) → Goes (new site.root) s → Dec (symbol_in bytes (site.root + s) ≡ 0) → symbol_in bytes (site.root + s) ≡ 0
        empty s g (yes e) = e
        empty s g (no d) = of (now.laid.owned.owner (site.root + s) d)
          where
            of : Owner nodes (site.root + s) (symbol_in bytes (site.root + s)) ⊎ (symbol_in site.bytes (site.root + s) ≡ symbol_in bytes (site.root + s))
                → symbol_in bytes (site.root + s) ≡ 0
            of (inl w) = absurd (none w.at w.inside)
            of (inr q) = sym q ∙ clear s (begun s g)

    served_found : (m ≡ 0 → ⊥) → (base : ℕ) → Smallest (serves bytes taken (next_in m own (drop k patterns))) 1 (cell_limit - 1) base → inside (next_in m own (drop k patterns)) base ≡ true → Served base
    served_found d base found e =
        record {
          free = λ s g. says.1 s g.low g.high g.goes;
          low = low;
          unmarked = says.0;
          root = λ z. absurd (d z);
          rooted = λ z. absurd (marked z);
          some = λ z. absurd (omega (arith, z, found.low));
        }
      where
        low : base < cell_limit
        low = let g = own_goes base in omega (arith, inside_says (next_in m own (drop k patterns)) base e (get_or own m 0) g.low g.high g.goes)

        says : (get_or taken base 0 ≡ 0) × ((s : ℕ) → 1 ≤ s → s ≤ symbol_limit → next_in m own (drop k patterns) s ≡ true → symbol_in bytes (base + s) ≡ 0)
        says = serves_says bytes taken (next_in m own (drop k patterns)) base (found.passes (omega (arith, low)))

        -- the root was placed in the first pass, and its base is taken since
        marked : base ≡ site.root → ⊥
        marked z =
            let p = now.shorter 0 k (omega arith) within (omega (arith, longer)) in
            let r = now.laid.tree.root p.at p.inside p.same in
            omega (arith, says.0, now.laid.marked p.at p.inside, ap (λ (b : ℕ). get_or taken b 0) (z ∙ sym r))

    served : inside (next_in m own (drop k patterns)) (base_for site.root m bytes taken (next_in m own (drop k patterns))) ≡ true → Served (base_for site.root m bytes taken (next_in m own (drop k patterns)))
    unfolding base_for
    served e = go (ℕ_discrete m 0) e
      where
        found : ℕ
        found = smallest (serves bytes taken (next_in m own (drop k patterns))) 1 (cell_limit - 1)

        go : Dec (m ≡ 0) → inside (next_in m own (drop k patterns)) (cond (eqb m 0) site.root found) ≡ true → Served (cond (eqb m 0) site.root found)
        go (yes z) i = rw (eq-eqb m 0 z) (served_root z)
        go (no d) i = rw (ne_eqb m 0 d) (served_found d found (smallest_found _ (cell_limit - 1) 1) (rw (ne_eqb m 0 d) at i))

    fitting : (base : ℕ) → Served base → inside (next_in m own (drop k patterns)) base ≡ true → Fitting site (nodes) bytes taken (new base)
    fitting base s e =
        record {
          free = s.free;
          within = λ t g. inside_says (next_in m own (drop k patterns)) base e t g.low g.high g.goes;
          inside = s.low;
          unmarked = s.unmarked;
          root = λ z. s.root (omega (arith, size, ap length z));
          rooted = λ z. ap (λ (n : ℕ). take n own) (s.rooted z);
          some = λ z. ap (λ (n : ℕ). take n own) (s.some z);
          fresh = fresh;
          longest = λ i h. omega (arith, size, now.short i h);
          behind = λ d. up m refl d;
        }
      where
        -- the path one symbol shorter was placed in the pass before
        up : (n : ℕ) → m ≡ n → (take m own ≡ [] → ⊥) → Behind (nodes) (take m own)
        up zero z d = absurd (d (ap (λ (n : ℕ). take n own) z))
        up (suc n) z d =
            let l : n < length own = omega (arith, longer) in
            let p = now.shorter n k (omega arith) within l in
            let t : take m own ≡ take n own ▸ get_or own n 0 = ap (λ (i : ℕ). take i own) z ∙ take-suc own n 0 l in
            let same : take m own ≡ (node (nodes) p.at).path ▸ get_or own n 0 = t ∙ ap (λ (u : List ℕ). u ▸ get_or own n 0) (sym p.same) in
            let a = symbol_at n k within l in
            record {
              at = p.at;
              inside = p.inside;
              last = get_or own n 0;
              same = same;
              goes = beginning_goes patterns (node (nodes) p.at) (now.opened p.at p.inside) sorted (get_or own n 0) a.0 a.1
                  (record {
                    some = omega (arith, snoc_length (node (nodes) p.at).path (get_or own n 0));
                    at = k;
                    within = within;
                    stands = subst (λ (u : List ℕ). begins (u ▸ get_or own n 0) own ≡ true) (sym p.same) a.2;
                  });
            }

    -- the path placed at a base that serves and lies inside
    place_served : (base : ℕ) → Served base → inside (next_in m own (drop k patterns)) base ≡ true
        → Passing site patterns m (suc k) (new base ∷ nodes) (put_link site.root (take m own) base (put_cells (next_in m own (drop k patterns)) base 1 symbol_limit bytes)) (set taken base 1)
    place_served base s e =
        record {
          laid = laid_more site nodes bytes taken (new base) now.laid (fitting base s e);
          opened = opened;
          short = short;
          early = early;
          shorter = λ l j h i q. placed_more nodes (new base) _ (now.shorter l j h i q);
          done = λ j h l. done j h l (ℕ_discrete k j);
        }
      where
        opened : (i : ℕ) → i < length (new base ∷ nodes) → Opened patterns (node (new base ∷ nodes) i)
        opened zero h = new_opened base
        opened (suc i) h = now.opened i (omega arith)

        short : (i : ℕ) → i < length (new base ∷ nodes) → length (node (new base ∷ nodes) i).path ≤ m
        short zero h = omega (arith, size)
        short (suc i) h = now.short i (omega arith)

        early : (i : ℕ) → i < length (new base ∷ nodes) → length (node (new base ∷ nodes) i).path ≡ m → (node (new base ∷ nodes) i).opener < suc k
        early zero h e = omega arith
        early (suc i) h e = omega (arith, now.early i (omega arith) e)

        done : (j : ℕ) → j < suc k → m < length (nth patterns j).symbols → Dec (k ≡ j) → Placed (new base ∷ nodes) (take m (nth patterns j).symbols)
        done j h l (yes e) = record { at = 0; inside = omega arith; same = ap (λ (i : ℕ). take m (nth patterns i).symbols) e }
        done j h l (no d) = placed_more nodes (new base) _ (now.done j (omega arith) l)

    abbrev pub found : ℕ
    found = base_for site.root m bytes taken (next_in m own (drop k patterns))

    -- The path placed at the base found, where all its cells lie inside.
    pub place_inside : inside (next_in m own (drop k patterns)) found ≡ true
        → Passing site patterns m (suc k) (new found ∷ nodes) (put_link site.root (take m own) found (put_cells (next_in m own (drop k patterns)) found 1 symbol_limit bytes)) (set taken found 1)
    place_inside e = place_served found (served e) e

    place_more : PassingIn site patterns m (suc k) (place site.root m own (drop k patterns) (Fits bytes taken))
    unfolding place place_at
    place_more = go (inside (next_in m own (drop k patterns)) found) refl
      where
        go : (z : Bool) → inside (next_in m own (drop k patterns)) found ≡ z
            → PassingIn site patterns m (suc k) (cond z (Fits (put_link site.root (take m own) found (put_cells (next_in m own (drop k patterns)) found 1 symbol_limit bytes)) (set taken found 1)) Full)
        go false e = tt
        go true e = (new found ∷ nodes, place_inside e)

  -- a pattern that opens nothing: its path is that of the one above
  pub place_none : (m k : ℕ) → k < length patterns → (nodes : List Node) (bytes taken : List ℕ) → opens m (above [] patterns k) (nth patterns k).symbols ≡ false
      → Passing site patterns m k nodes bytes taken → Passing site patterns m (suc k) nodes bytes taken
  place_none m k within nodes bytes taken e now =
      record {
        laid = now.laid;
        opened = now.opened;
        short = now.short;
        early = λ i h p. omega (arith, now.early i h p);
        shorter = now.shorter;
        done = λ j h l. of j l (ℕ_discrete j k) h;
      }
    where
      up : (i : ℕ) → k ≡ i → m < length (nth patterns k).symbols → (m ≤ common (above [] patterns i) (nth patterns k).symbols) × (m < length (above [] patterns i))
          → Placed (nodes) (take m (nth patterns k).symbols)
      up zero z l p = absurd (omega (arith, p.1))
      up (suc i) z l p =
          let q = now.done i (omega arith) p.1 in
          record { at = q.at; inside = q.inside; same = q.same ∙ take_common m (nth patterns i).symbols (nth patterns k).symbols p.0 }

      of : (j : ℕ) → m < length (nth patterns j).symbols → Dec (j ≡ k) → j < suc k → Placed (nodes) (take m (nth patterns j).symbols)
      of j l (yes q) h =
          subst (λ (i : ℕ). Placed (nodes) (take m (nth patterns i).symbols)) (sym q)
          (up k refl (subst (λ (i : ℕ). m < length (nth patterns i).symbols) q l)
          (opens_not m (above [] patterns k) (nth patterns k).symbols e (subst (λ (i : ℕ). m < length (nth patterns i).symbols) q l)))
      of j l (no d) h = now.done j (omega arith) l

  place_step : (m k : ℕ) → k < length patterns → (layout : Layout) → PassingIn site patterns m k layout
      → PassingIn site patterns m (suc k) (cond (opens m (above [] patterns k) (nth patterns k).symbols) (place site.root m (nth patterns k).symbols (drop k patterns) layout) layout)
  place_step m k h layout now = go (opens m (above [] patterns k) (nth patterns k).symbols) refl layout now
    where
      go : (z : Bool) → opens m (above [] patterns k) (nth patterns k).symbols ≡ z → (layout : Layout) → PassingIn site patterns m k layout
          → PassingIn site patterns m (suc k) (cond z (place site.root m (nth patterns k).symbols (drop k patterns) layout) layout)
      go true e Full now = unfold place in tt
      go true e (Fits bytes taken) now = place_more m k h now.0 bytes taken now.1 e
      go false e Full now = tt
      go false e (Fits bytes taken) now = (now.0, place_none m k h now.0 bytes taken e now.1)

  -- the next pass begins where one ends
  pub next_pass : (m : ℕ) (nodes : List Node) (bytes taken : List ℕ) → Passing site patterns m (length patterns) nodes bytes taken → Passing site patterns (suc m) 0 nodes bytes taken
  next_pass m nodes bytes taken now =
      record {
        laid = now.laid;
        opened = now.opened;
        short = λ i h. omega (arith, now.short i h);
        early = λ i h e. absurd (omega (arith, now.short i h, e));
        shorter = λ l j h i k. of l j h i k (ℕ_discrete m l);
        done = λ j h l. absurd (omega arith);
      }
    where
      of : (l j : ℕ) → l < suc m → j < length patterns → l < length (nth patterns j).symbols → Dec (m ≡ l) → Placed (nodes) (take l (nth patterns j).symbols)
      of l j h i k (yes e) =
          subst (λ (n : ℕ). Placed (nodes) (take n (nth patterns j).symbols)) e (now.done j i (subst (λ (n : ℕ). n < length (nth patterns j).symbols) (sym e) k))
      of l j h i k (no d) = now.shorter l j (omega arith) i k

  next_step : (m : ℕ) (layout : Layout) → PassingIn site patterns m (length patterns) layout → PassingIn site patterns (suc m) 0 layout
  next_step m Full now = tt
  next_step m (Fits bytes taken) now = (now.0, next_pass m now.0 bytes taken now.1)

  -- before the first pass there is no node
  laid_start : Laid site [] site.bytes site.taken
  laid_start =
      record {
        size = sited.size;
        room = sited.room;
        tree = record {
          apart = λ i j h. absurd (omega arith);
          distinct = λ i j h. absurd (omega arith);
          root = λ i h. absurd (omega arith);
          rooted = λ i h. absurd (omega arith);
          some = λ i h. absurd (omega arith);
          untaken = λ i h. absurd (omega arith);
          behind = λ i h. absurd (omega arith);
        };
        owned = record { held = λ j s h. absurd (omega arith); owner = λ n d. inr refl; own_free = λ j s h. absurd (omega arith) };
        links = record { linked = λ i j s h. absurd (omega arith); unlinked = λ j s h. absurd (omega arith) };
        blank = sited.blank;
        silent = λ n. refl;
        free = λ n e. e;
        marked = λ i h. absurd (omega arith);
        unmarked = λ b none. refl;
        untaken = λ b e. e;
      }

  pub passing_start : Passing site patterns 0 0 [] site.bytes site.taken
  passing_start =
      record {
        laid = laid_start;
        opened = λ i h. absurd (omega arith);
        short = λ i h. absurd (omega arith);
        early = λ i h. absurd (omega arith);
        shorter = λ l j h. absurd (omega arith);
        done = λ j h. absurd (omega arith);
      }

  -- After all passes every path of less than 16 symbols that a pattern goes on behind is placed, and nothing else.
  pub list_passed : PassingIn site patterns pattern_limit 0 (place_list site.root patterns (Fits site.bytes site.taken))
  list_passed = list_kept site.root patterns (PassingIn site patterns) place_step next_step (Fits site.bytes site.taken) ([], passing_start)

-- bytes of zeros
pub zero_byte : (n i : ℕ) → ◌≡◌ {A = ℕ} (get_or (replicate n 0) i 0) 0
zero_byte n i = go (dec_lt i n)
  where
    go : Dec (i < n) → ◌≡◌ {A = ℕ} (get_or (replicate n 0) i 0) 0
    go (yes h) = get_or-replicate {A = ℕ} n i 0 0 h
    go (no d) = get_or-eq_default (replicate n 0) 0 (omega (arith, length-replicate {A = ℕ} n 0))

-- An empty site, with bytes and marks for so many cells.
abbrev zeros : ℕ → ℕ → ℕ → Site
zeros root a b = record { root = root; bytes = replicate a 0; taken = replicate b 0 }

zeros_sited : (root a b : ℕ) → root < cell_limit → a ≡ cell_room → b ≡ cell_limit → Sited (zeros root a b)
unfolding number_at
zeros_sited root a b h p q =
    record {
      size = length-replicate {A = ℕ} a 0 ∙ p;
      room = length-replicate {A = ℕ} b 0 ∙ q;
      based = λ c s k e. absurd (omega (arith, k, e, zero_byte a (cell_size * (c + s) + 1)));
      blank = λ n e. omega (arith, zero_byte a (cell_size * n + 2), zero_byte a (cell_size * n + 2 + 1));
      silent = λ n e. omega (arith, zero_byte a (cell_size * n + 4), zero_byte a (cell_size * n + 4 + 1));
      root_free = zero_byte b root;
      root_low = h;
    }

-- One list's site: an empty layout.
abbrev pub empty_site : Site
empty_site = zeros root_base cell_room cell_limit

pub empty_sited : Sited empty_site
empty_sited = zeros_sited root_base cell_room cell_limit (omega arith) refl refl

pub empty_clear : (n : ℕ) → symbol_in empty_site.bytes n ≡ 0
empty_clear n = zero_byte cell_room (cell_size * n + 1)

pub root_clear : (patterns : List Pattern) (s : ℕ) → Beginning patterns (s ∷ []) → symbol_in empty_site.bytes (empty_site.root + s) ≡ 0
root_clear patterns s b = empty_clear (root_base + s)

pub layout_passed : (patterns : List Pattern) → Sorted patterns → ((i : ℕ) → i < length patterns → Shaped (nth patterns i)) → PassingIn empty_site patterns pattern_limit 0 (layout_of patterns)
unfolding layout_of
layout_passed patterns sorted shaped = list_passed empty_site empty_sited patterns sorted shaped (root_clear patterns)

-- What is placed in an empty site: every cell used is a node's, every base taken is a node's, and there is no output yet.
module _ (nodes : List Node) (bytes taken : List ℕ) (laid : Laid empty_site nodes bytes taken) where
  pub empty_owner : (n : ℕ) → (symbol_in bytes n ≡ 0 → ⊥) → Owner nodes n (symbol_in bytes n)
  empty_owner n d = of (laid.owned.owner n d)
    where
      of : Owner nodes n (symbol_in bytes n) ⊎ (symbol_in empty_site.bytes n ≡ symbol_in bytes n) → Owner nodes n (symbol_in bytes n)
      of (inl w) = w
      of (inr q) = absurd (d (sym q ∙ empty_clear n))

  pub empty_unmarked : (b : ℕ) → ((i : ℕ) → i < length nodes → (node nodes i).base ≡ b → ⊥) → get_or taken b 0 ≡ 0
  empty_unmarked b none = laid.unmarked b none ∙ zero_byte cell_limit b

  pub empty_silent : (n : ℕ) → output_in bytes n ≡ 0
  empty_silent n = laid.silent n ∙ empty_sited.silent n (empty_clear n)
