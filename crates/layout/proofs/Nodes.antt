-- The packer's nodes as paths with bases: a base serves in the bytes exactly where it fits among the paths.
use Prim.Native.Nat.{ℕ, zero, suc, ◌+◌, ◌-◌, ◌≤◌, ◌<◌}
use mathlib.Core.Bool.{Bool, true, false, not, ◌&&◌, ◌||◌}
use mathlib.Core.List.{List, [], ◌∷◌, ◌++◌}
use mathlib.Core.Path.{◌≡◌, refl, sym, ◌∙◌, ap, subst}
use native.Mathlib.Decide.{ℕ_discrete}
use native.Mathlib.Omega.{arith}
use borrow.Author.Tests.{eqb-true, eq-eqb, ne_eqb, ltb-true, lt-ltb}
use lib.Dec.{ltb, eqb}
use lib.ListN.{length, get_or, length-append, get_or-append}
use lib.Seq.{get_or-append_seam}
use Rattle.base.specs.Limits.{symbol_limit}
use Rattle.base.proofs.Lists.{never, both}
use Rattle.liang.specs.Patterns.{Pattern}
use Rattle.liang.specs.Levels.{begins}
use Rattle.patterns.specs.Strings.{Beginning, nth, Shaped, Sorted}
use Rattle.base.proofs.All.{all_same}
use Rattle.patterns.proofs.Strings.{begins_alphabet, ◌▸◌, snoc_length, alphabet_last}
use Rattle.fit.specs.Cells.{is_free, serves}
use Rattle.fit_trie.proofs.Bytes.{symbol_in}
use Rattle.fit_trie.proofs.Nodes.{Node, node, Goes}
use Rattle.fit_trie.proofs.Placing.{Laid}
use Rattle.fit_trie.proofs.Passes.{empty_site, empty_owner, empty_unmarked}
use Rattle.fit_trie.proofs.Opened.{Opened, goes_beginning, beginning_goes}
use Rattle.layout.specs.Bases.{Based, goes_on, has_base, used_by, uses_cell, fits_at}
use Rattle.layout.specs.FirstFit.{root, based}

pub or_left : (a b : Bool) → a ≡ true → (a || b) ≡ true
or_left true b e = refl
or_left false b e = never e

pub or_right : (a b : Bool) → b ≡ true → (a || b) ≡ true
or_right true b e = refl
or_right false b e = e

-- a path goes on with a symbol where the two together begin a pattern
pub goes_says : (ps : List Pattern) (u : List ℕ) (s : ℕ) → goes_on ps u s ≡ true → Beginning ps (u ▸ s)
unfolding goes_on
goes_says [] u s e = never e
goes_says (p ∷ ps) u s e = go (begins (u ▸ s) p.symbols) refl e (goes_says ps u s)
  where
    go : (z : Bool) → begins (u ▸ s) p.symbols ≡ z → (z || goes_on ps u s) ≡ true → (goes_on ps u s ≡ true → Beginning ps (u ▸ s)) → Beginning (p ∷ ps) (u ▸ s)
    go true b h next = record { some = omega (arith, snoc_length u s); at = 0; within = omega arith; stands = b }
    go false b h next = let n = next h in record { some = n.some; at = suc n.at; within = omega (arith, n.within); stands = n.stands }

pub line_goes : (u : List ℕ) (s : ℕ) (ps : List Pattern) (i : ℕ) → i < length ps → begins (u ▸ s) (nth ps i).symbols ≡ true → goes_on ps u s ≡ true
unfolding goes_on
line_goes u s [] i h e = absurd (omega arith)
line_goes u s (p ∷ ps) zero h e = or_left (begins (u ▸ s) p.symbols) (goes_on ps u s) e
line_goes u s (p ∷ ps) (suc i) h e = or_right (begins (u ▸ s) p.symbols) (goes_on ps u s) (line_goes u s ps i (omega arith) e)

pub says_goes : (ps : List Pattern) (u : List ℕ) (s : ℕ) → Beginning ps (u ▸ s) → goes_on ps u s ≡ true
says_goes ps u s b = line_goes u s ps b.at b.within b.stands

-- the symbols with which paths of good patterns go on
abbrev pub Symbolic : List Pattern → Type 0
Symbolic patterns = (u : List ℕ) (s : ℕ) → goes_on patterns u s ≡ true → (1 ≤ s) × (s ≤ symbol_limit)

pub symbolic : (patterns : List Pattern) → ((i : ℕ) → i < length patterns → Shaped (nth patterns i)) → Symbolic patterns
symbolic patterns shaped u s e =
    let b = goes_says patterns u s e in
    let a = alphabet_last u s (begins_alphabet (u ▸ s) (nth patterns b.at).symbols b.stands (shaped b.at b.within).alphabet) in
    (a.0, a.1)

-- one of some paths for which something holds
pub record Among (placed : List Based) (P : Based → Type 0) : Type 0 where
  pub at : ℕ
  pub inside : at < length placed
  pub holds : P (based placed at)

pub among_more : (x : Based) (placed : List Based) (P : Based → Type 0) → Among placed P → Among (x ∷ placed) P
among_more x placed P w = record { at = suc w.at; inside = omega (arith, w.inside); holds = w.holds }

-- a base that a path has
pub based_has : (placed : List Based) (b i : ℕ) → i < length placed → (based placed i).base ≡ b → has_base b placed ≡ true
unfolding has_base
based_has [] b i h e = absurd (omega arith)
based_has (x ∷ placed) b zero h e = or_left (eqb x.base b) _ (eq-eqb x.base b e)
based_has (x ∷ placed) b (suc i) h e = or_right (eqb x.base b) _ (based_has placed b i (omega arith) e)

has_based : (placed : List Based) (b : ℕ) → has_base b placed ≡ true → Among placed (λ x. x.base ≡ b)
unfolding has_base
has_based [] b e = never e
has_based (x ∷ placed) b e = go (eqb x.base b) refl e (has_based placed b)
  where
    go : (z : Bool) → eqb x.base b ≡ z → (z || has_base b placed) ≡ true → (has_base b placed ≡ true → Among placed (λ y. y.base ≡ b)) → Among (x ∷ placed) (λ y. y.base ≡ b)
    go true p h next = record { at = 0; inside = omega arith; holds = eqb-true x.base b p }
    go false p h next = among_more x placed _ (next h)

-- a cell that a path uses
module _ (patterns : List Pattern) (n : ℕ) where
  abbrev pub Uses : Based → Type 0
  Uses x = (x.base < n) × (goes_on patterns x.path (n - x.base) ≡ true)

  pub used_says : (x : Based) → used_by patterns n x ≡ true → Uses x
  unfolding used_by
  used_says x e = let w = both (ltb x.base n) _ e in (ltb-true x.base n w.0, w.1)

  pub says_used : (x : Based) → Uses x → used_by patterns n x ≡ true
  unfolding used_by
  says_used x u = rw (lt-ltb x.base n u.0, u.1)

  pub based_uses : (placed : List Based) (i : ℕ) → i < length placed → Uses (based placed i) → uses_cell patterns n placed ≡ true
  unfolding uses_cell
  based_uses [] i h u = absurd (omega arith)
  based_uses (x ∷ placed) zero h u = or_left (used_by patterns n x) _ (says_used x u)
  based_uses (x ∷ placed) (suc i) h u = or_right (used_by patterns n x) _ (based_uses placed i (omega arith) u)

  pub uses_based : (placed : List Based) → uses_cell patterns n placed ≡ true → Among placed Uses
  unfolding uses_cell
  uses_based [] e = never e
  uses_based (x ∷ placed) e = go (used_by patterns n x) refl e (uses_based placed)
    where
      go : (z : Bool) → used_by patterns n x ≡ z → (z || uses_cell patterns n placed) ≡ true → (uses_cell patterns n placed ≡ true → Among placed Uses) → Among (x ∷ placed) Uses
      go true p h next = record { at = 0; inside = omega arith; holds = used_says x p }
      go false p h next = among_more x placed _ (next h)

-- The packer's nodes and the paths placed are the same paths with the same bases, in whatever order.
abbrev pub based_of : Node → Based
based_of n = record { path = n.path; base = n.base }

-- the node that is a path placed
pub record Back (nodes : List Node) (x : Based) : Type 0 where
  pub at : ℕ
  pub inside : at < length nodes
  pub same : x ≡ based_of (node nodes at)

pub record Paired (nodes : List Node) (placed : List Based) : Type 0 where
  pub there : (i : ℕ) → i < length nodes → Among placed (λ x. x ≡ based_of (node nodes i))
  pub back : (j : ℕ) → j < length placed → Back nodes (based placed j)

pub paired_none : Paired [] []
paired_none = record { there = λ i h. absurd (omega arith); back = λ j h. absurd (omega arith) }

-- one more of both
pub paired_more : (nodes : List Node) (placed : List Based) (n : Node) (x : Based) → x ≡ based_of n → Paired nodes placed → Paired (n ∷ nodes) (placed ++ (x ∷ []))
paired_more nodes placed n x e p = record { there = there; back = λ j h. back j h (ℕ_discrete j (length placed)) }
  where
    size : length (placed ++ (x ∷ [])) ≡ suc (length placed)
    size = length-append placed (x ∷ []) ∙ omega arith

    there : (i : ℕ) → i < length (n ∷ nodes) → Among (placed ++ (x ∷ [])) (λ y. y ≡ based_of (node (n ∷ nodes) i))
    there zero h = record { at = length placed; inside = omega (arith, size); holds = get_or-append_seam placed x [] root ∙ e }
    there (suc i) h = let w = p.there i (omega arith) in record { at = w.at; inside = omega (arith, size, w.inside); holds = get_or-append placed (x ∷ []) root w.at w.inside ∙ w.holds }

    back : (j : ℕ) → j < length (placed ++ (x ∷ [])) → Dec (j ≡ length placed) → Back (n ∷ nodes) (based (placed ++ (x ∷ [])) j)
    back j h (yes q) = record { at = 0; inside = omega arith; same = ap (based (placed ++ (x ∷ []))) q ∙ get_or-append_seam placed x [] root ∙ e }
    back j h (no d) =
        let l : j < length placed = omega (arith, size) in
        let w = p.back j l in
        record { at = suc w.at; inside = omega (arith, w.inside); same = get_or-append placed (x ∷ []) root j l ∙ w.same }

-- The layout so far, in bytes and as paths with bases.
module _ (patterns : List Pattern) (sorted : Sorted patterns) (low : Symbolic patterns) (nodes : List Node)
    (opened : (i : ℕ) → i < length nodes → Opened patterns (node nodes i)) where
  -- what a node's path goes on with in the list it goes on with in the bytes
  pub list_goes : (i s : ℕ) → i < length nodes → goes_on patterns (node nodes i).path s ≡ true → Goes (node nodes i) s
  list_goes i s h e =
      let r = low (node nodes i).path s e in
      beginning_goes patterns (node nodes i) (opened i h) sorted s r.0 r.1 (goes_says patterns (node nodes i).path s e)

  pub goes_list : (i s : ℕ) → i < length nodes → Goes (node nodes i) s → goes_on patterns (node nodes i).path s ≡ true
  goes_list i s h g = says_goes patterns (node nodes i).path s (goes_beginning patterns (node nodes i) (opened i h) s g)

  -- the node that owns a cell uses it
  pub owner_uses : (n i s : ℕ) → i < length nodes → Goes (node nodes i) s → (node nodes i).base + s ≡ n → Uses patterns n (based_of (node nodes i))
  owner_uses n i s h g p =
      let k = g.low in
      let q : n - (node nodes i).base ≡ s = omega arith in
      (omega arith, ap (goes_on patterns (node nodes i).path) q ∙ goes_list i s h g)

  module _ (bytes taken : List ℕ) (laid : Laid empty_site nodes bytes taken) (placed : List Based) (paired : Paired nodes placed) where
    -- a base is marked where a path has it
    same_base : (b : ℕ) → eqb (get_or taken b 0) 0 ≡ not (has_base b placed)
    same_base b = go (has_base b placed) refl
      where
        go : (z : Bool) → has_base b placed ≡ z → eqb (get_or taken b 0) 0 ≡ not z
        go true e =
            let w = has_based placed b e in
            let v = paired.back w.at w.inside in
            let q : (node nodes v.at).base ≡ b = ap (λ (x : Based). x.base) (sym v.same) ∙ w.holds in
            let m = ap (λ (x : ℕ). get_or taken x 0) (sym q) ∙ laid.marked v.at v.inside in
            ne_eqb (get_or taken b 0) 0 (λ z. omega (arith, z, m))
        go false e =
            eq-eqb (get_or taken b 0) 0
            (empty_unmarked nodes bytes taken laid b (λ i h q. let w = paired.there i h in never (sym e ∙ based_has placed b w.at w.inside (ap (λ (x : Based). x.base) w.holds ∙ q))))

    -- a cell holds a symbol where a path uses it
    same_cell : (n : ℕ) → is_free bytes n ≡ not (uses_cell patterns n placed)
    unfolding is_free
    same_cell n = go (uses_cell patterns n placed) refl
      where
        go : (z : Bool) → uses_cell patterns n placed ≡ z → eqb (symbol_in bytes n) 0 ≡ not z
        go true e =
            let w = uses_based patterns n placed e in
            let v = paired.back w.at w.inside in
            let u : Uses patterns n (based_of (node nodes v.at)) = subst (λ (x : Based). Uses patterns n x) v.same w.holds in
            let k = u.0 in
            let g = list_goes v.at (n - (node nodes v.at).base) v.inside u.1 in
            let h = (laid.owned.held v.at (n - (node nodes v.at).base) v.inside g).symbol in
            let q : (node nodes v.at).base + (n - (node nodes v.at).base) ≡ n = omega arith in
            ne_eqb (symbol_in bytes n) 0 (λ z. omega (arith, z, ap (λ (x : ℕ). symbol_in bytes x) q, h, g.low))
        go false e = eq-eqb (symbol_in bytes n) 0 (free (ℕ_discrete (symbol_in bytes n) 0))
          where
            free : Dec (symbol_in bytes n ≡ 0) → symbol_in bytes n ≡ 0
            free (yes z) = z
            free (no d) =
                let o = empty_owner nodes bytes taken laid n d in
                let w = paired.there o.at o.inside in
                never (sym e ∙ based_uses patterns n placed w.at w.inside
                (subst (λ (x : Based). Uses patterns n x) (sym w.holds) (owner_uses n o.at (symbol_in bytes n) o.inside o.goes o.place)))

    -- A base serves a path in the bytes exactly where it fits among the paths, whatever base it is.
    pub same_fit : (u : List ℕ) (child : ℕ → Bool) → ((s : ℕ) → 1 ≤ s → s ≤ symbol_limit → child s ≡ goes_on patterns u s) → (b : ℕ) → serves bytes taken child b ≡ fits_at patterns placed u b
    unfolding serves fits_at
    same_fit u child same b =
        rw (same_base b)
        (ap (λ (z : Bool). not (has_base b placed) && z)
        (all_same (λ s. not (child s) || is_free bytes (b + s)) (λ s. not (goes_on patterns u s) || not (uses_cell patterns (b + s) placed)) 1 symbol_limit
        (λ s h k. rw (same s h (omega arith), same_cell (b + s)))))
