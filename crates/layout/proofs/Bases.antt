-- The layout is first fit's as document 01 says it, and the only one that is.
use Prim.Native.Nat.{ℕ, zero, suc, ◌+◌, ◌-◌, ◌≤◌, ◌<◌}
use mathlib.Core.Bool.{true}
use mathlib.Core.List.{List, [], ◌∷◌, ◌++◌, map, append-nil, map-append}
use mathlib.Core.Logic.{inl, inr}
use mathlib.Core.Path.{◌≡◌, refl, sym, ◌∙◌, ap, subst}
use native.Mathlib.Decide.{ℕ_discrete, dec_lt}
use native.Mathlib.Omega.{arith}
use lib.ListN.{length, get_or, take, length-append, length-map, get_or-append, get_or-map}
use lib.Seq.{length-take-le, take-suc, take_all, append_snoc, take-append-le, take-append_seam, get_or-append_seam, get_or-take}
use Rattle.base.proofs.Lists.{never}
use Rattle.lines.specs.Lines.{is_nil}
use Rattle.lines.specs.Order.{before}
use Rattle.lines.proofs.Order.{before_trans, before_self}
use Rattle.liang.specs.Patterns.{Pattern}
use Rattle.liang.specs.Levels.{begins}
use Rattle.patterns.specs.Strings.{nth, Shaped, Sorted}
use Rattle.patterns.proofs.Strings.{begins_cons, begins_more, ◌▸◌}
use Rattle.layout.specs.Bases.{Based, goes_on, used_by, uses_cell, least_base, next_base, paths_of, place_all, bases_of}
use Rattle.layout.specs.FirstFit.{root, based, Ascends, Least, FirstFit}
use Rattle.layout.proofs.Nodes.{goes_says, line_goes, Symbolic, symbolic, based_has, Uses, used_says, based_uses}
use Rattle.layout.proofs.Search.{fits_says, reach_enough, least_low, least_below}
use Rattle.layout.proofs.Paths.{paths_ascend, paths_go, paths_every}

-- the order is strict
ascends_self : (u : List ℕ) → Ascends u u → ⊥
ascends_self u (inl h) = omega arith
ascends_self u (inr p) = before_self u p.1

ascends_trans : (u v w : List ℕ) → Ascends u v → Ascends v w → Ascends u w
ascends_trans u v w (inl h) (inl k) = inl (omega arith)
ascends_trans u v w (inl h) (inr q) = inl (omega (arith, q.0))
ascends_trans u v w (inr p) (inl k) = inl (omega (arith, p.0))
ascends_trans u v w (inr p) (inr q) = inr (p.0 ∙ q.0, before_trans u v w p.1 q.1)

-- nothing comes before the root
ascends_none : (u : List ℕ) → Ascends u [] → ⊥
ascends_none u (inl h) = omega arith
ascends_none u (inr p) = go u p.1
  where
    go : (u : List ℕ) → before u [] ≡ true → ⊥
    go [] e = unfold before in never e
    go (x ∷ u) e = unfold before in never e

same_based : (x y : Based) → x.path ≡ y.path → x.base ≡ y.base → x ≡ y
same_based x y p q = ap (λ (u : List ℕ). record { path = u; base = x.base }) p ∙ ap (λ (b : ℕ). record { path = y.path; base = b }) q

-- where a path goes on, the root does
root_goes : (patterns : List Pattern) (x : ℕ) (u : List ℕ) (s : ℕ) → goes_on patterns (x ∷ u) s ≡ true → goes_on patterns [] x ≡ true
root_goes patterns x u s e =
    let b = goes_says patterns (x ∷ u) s e in
    line_goes [] x patterns b.at b.within (first (nth patterns b.at).symbols b.stands)
  where
    first : (own : List ℕ) → begins ((x ∷ u) ▸ s) own ≡ true → begins ([] ▸ x) own ≡ true
    first [] e = unfold begins in e
    first (y ∷ own) e = let k = begins_cons x y (u ▸ s) own e in subst (λ (z : ℕ). begins ([] ▸ x) (z ∷ own) ≡ true) k.0 (begins_more x [] own (unfold begins in refl))

-- the paths placed are those to be placed, and each has the base that is next behind those before it
module _ (patterns : List Pattern) where
  abbrev path_of : Based → List ℕ
  path_of x = x.path

  place_paths : (us : List (List ℕ)) (placed : List Based) → map path_of (place_all patterns us placed) ≡ map path_of placed ++ us
  unfolding place_all
  place_paths [] placed = sym (append-nil (map path_of placed))
  place_paths (u ∷ us) placed =
      let x : Based = record { path = u; base = next_base patterns placed u } in
      place_paths us (placed ++ (x ∷ []))
      ∙ ap (λ (vs : List (List ℕ)). vs ++ us) (map-append path_of placed (x ∷ []))
      ∙ append_snoc (map path_of placed) u us

  bases_paths : map path_of (bases_of patterns) ≡ paths_of patterns
  unfolding bases_of
  bases_paths = place_paths (paths_of patterns) []

  pub bases_size : length (bases_of patterns) ≡ length (paths_of patterns)
  bases_size = sym (length-map (bases_of patterns) path_of) ∙ ap length bases_paths

  pub path_at : (i : ℕ) → (based (bases_of patterns) i).path ≡ get_or (paths_of patterns) i []
  path_at i = sym (get_or-map path_of (bases_of patterns) i root) ∙ ap (λ (us : List (List ℕ)). get_or us i []) bases_paths

  abbrev last : List Based → List ℕ → List Based
  last placed u = record { path = u; base = next_base patterns placed u } ∷ []

  abbrev Nexts : List Based → Type 0
  Nexts placed = (i : ℕ) → i < length placed → (based placed i).base ≡ next_base patterns (take i placed) (based placed i).path

  nexts_more : (placed : List Based) (u : List ℕ) → Nexts placed → Nexts (placed ++ (record { path = u; base = next_base patterns placed u } ∷ []))
  nexts_more placed u f i h = go (ℕ_discrete i (length placed))
    where
      go : Dec (i ≡ length placed) → (based (placed ++ last placed u) i).base ≡ next_base patterns (take i (placed ++ last placed u)) (based (placed ++ last placed u) i).path
      go (yes e) =
          let q : based (placed ++ last placed u) i ≡ record { path = u; base = next_base patterns placed u } =
          ap (based (placed ++ last placed u)) e ∙ get_or-append_seam placed (record { path = u; base = next_base patterns placed u }) [] root in
          let t : take i (placed ++ last placed u) ≡ placed = ap (λ (j : ℕ). take j (placed ++ last placed u)) e ∙ take-append_seam placed (last placed u) in
          ap (λ (y : Based). y.base) q ∙ ap (λ (y : List Based). next_base patterns y u) (sym t) ∙ ap (λ (y : Based). next_base patterns (take i (placed ++ last placed u)) y.path) (sym q)
      go (no d) =
          let l : i < length placed = omega (arith, length-append placed (last placed u)) in
          let q = get_or-append placed (last placed u) root i l in
          let t = take-append-le i placed (last placed u) (omega arith) in
          ap (λ (y : Based). y.base) q
          ∙ f i l
          ∙ ap (λ (y : List Based). next_base patterns y (based placed i).path) (sym t)
          ∙ ap (λ (y : Based). next_base patterns (take i (placed ++ last placed u)) y.path) (sym q)

  place_nexts : (us : List (List ℕ)) (placed : List Based) → Nexts placed → Nexts (place_all patterns us placed)
  unfolding place_all
  place_nexts [] placed f = f
  place_nexts (u ∷ us) placed f = place_nexts us (placed ++ (record { path = u; base = next_base patterns placed u } ∷ [])) (nexts_more placed u f)

  bases_nexts : Nexts (bases_of patterns)
  unfolding bases_of
  bases_nexts = place_nexts (paths_of patterns) [] (λ i h. absurd (omega arith))

module _ (patterns : List Pattern) (sorted : Sorted patterns) (shaped : (i : ℕ) → i < length patterns → Shaped (nth patterns i)) where
  -- "Paths by length, then symbol order"
  order_at : (i j : ℕ) → i < j → j < length (bases_of patterns) → Ascends (based (bases_of patterns) i).path (based (bases_of patterns) j).path
  order_at i j l h =
      subst (λ (u : List ℕ). Ascends u (based (bases_of patterns) j).path) (sym (path_at patterns i))
      (subst (Ascends (get_or (paths_of patterns) i [])) (sym (path_at patterns j)) (paths_ascend patterns sorted i j l (omega (arith, bases_size patterns))))

  -- the paths with continuations, and no others
  goes_at : (i : ℕ) → i < length (bases_of patterns) → (s : ℕ) × (goes_on patterns (based (bases_of patterns) i).path s ≡ true)
  goes_at i h = subst (λ (u : List ℕ). (s : ℕ) × (goes_on patterns u s ≡ true)) (sym (path_at patterns i)) (paths_go patterns sorted i (omega (arith, bases_size patterns)))

  every_at : (u : List ℕ) (s : ℕ) → goes_on patterns u s ≡ true → (i : ℕ) × ((i < length (bases_of patterns)) × ((based (bases_of patterns) i).path ≡ u))
  every_at u s e = let l = paths_every patterns sorted u s e in (l.at, (omega (arith, l.inside, bases_size patterns), path_at patterns l.at ∙ l.same))

  -- "the root first with base 0"
  rooted_at : 0 < length (bases_of patterns) → based (bases_of patterns) 0 ≡ root
  unfolding next_base is_nil
  rooted_at h =
      let e : (based (bases_of patterns) 0).path ≡ [] = go (based (bases_of patterns) 0).path refl (goes_at 0 h) in
      let b : (based (bases_of patterns) 0).base ≡ 0 = bases_nexts patterns 0 h ∙ ap (next_base patterns []) e in
      same_based (based (bases_of patterns) 0) root e b
    where
      go : (u : List ℕ) → (based (bases_of patterns) 0).path ≡ u → (s : ℕ) × (goes_on patterns (based (bases_of patterns) 0).path s ≡ true) → (based (bases_of patterns) 0).path ≡ []
      go [] e g = e
      go (x ∷ u) e g = at (every_at [] x (root_goes patterns x u g.0 (ap (λ (v : List ℕ). goes_on patterns v g.0) (sym e) ∙ g.1)))
        where
          at : (i : ℕ) × ((i < length (bases_of patterns)) × ((based (bases_of patterns) i).path ≡ [])) → (based (bases_of patterns) 0).path ≡ []
          at w = of (ℕ_discrete w.0 0)
            where
              of : Dec (w.0 ≡ 0) → (based (bases_of patterns) 0).path ≡ []
              of (yes z) = ap (λ (i : ℕ). (based (bases_of patterns) i).path) (sym z) ∙ w.1.1
              of (no d) = absurd (ascends_none _ (subst (Ascends (based (bases_of patterns) 0).path) w.1.1 (order_at 0 w.0 (omega arith) w.1.0)))

  -- "Each later path with continuations gets the smallest base from 1 up which no path has and whose needed cells are all free."
  later_at : (i : ℕ) → 0 < i → i < length (bases_of patterns) → Least patterns (take i (bases_of patterns)) (based (bases_of patterns) i).path (based (bases_of patterns) i).base
  later_at i p h =
      let e = bases_nexts patterns i h ∙ other (based (bases_of patterns) i).path refl in
      subst (Least patterns (take i (bases_of patterns)) (based (bases_of patterns) i).path) (sym e)
      (record {
        some = least_low patterns (symbolic patterns shaped) (take i (bases_of patterns)) (based (bases_of patterns) i).path;
        fits = reach_enough patterns (symbolic patterns shaped) (take i (bases_of patterns)) (based (bases_of patterns) i).path;
        least = least_below patterns (symbolic patterns shaped) (take i (bases_of patterns)) (based (bases_of patterns) i).path;
      })
    where
      -- it is not the root
      other : (u : List ℕ) → (based (bases_of patterns) i).path ≡ u
          → next_base patterns (take i (bases_of patterns)) (based (bases_of patterns) i).path ≡ least_base patterns (take i (bases_of patterns)) (based (bases_of patterns) i).path
      other [] e = absurd (ascends_none _ (subst (Ascends (based (bases_of patterns) 0).path) e (order_at 0 i p h)))
      other (x ∷ u) e = unfold next_base is_nil in rw e

  -- The layout is first fit's.
  pub layout_first_fit : FirstFit patterns (bases_of patterns)
  layout_first_fit = record { order = order_at; goes = goes_at; every = every_at; rooted = rooted_at; later = later_at }

-- the clauses leave no choice
module _ (patterns : List Pattern) where
  -- one smallest base
  one_least : (placed : List Based) (u : List ℕ) (a b : ℕ) → Least patterns placed u a → Least patterns placed u b → a ≡ b
  one_least placed u a b p q = go (dec_lt a b) (dec_lt b a)
    where
      go : Dec (a < b) → Dec (b < a) → a ≡ b
      go (yes h) k = never (sym (q.least a p.some h) ∙ p.fits)
      go (no h) (yes k) = never (sym (p.least b q.some k) ∙ q.fits)
      go (no h) (no k) = omega arith

  -- no path stands twice
  pub paths_once : (bases : List Based) → FirstFit patterns bases → (i j : ℕ) → i < length bases → j < length bases → (based bases i).path ≡ (based bases j).path → i ≡ j
  paths_once bases f i j h k e = go (dec_lt i j) (dec_lt j i)
    where
      go : Dec (i < j) → Dec (j < i) → i ≡ j
      go (yes l) d = absurd (ascends_self _ (subst (λ (u : List ℕ). Ascends u (based bases j).path) e (f.order i j l k)))
      go (no l) (yes m) = absurd (ascends_self _ (subst (Ascends (based bases j).path) e (f.order j i m h)))
      go (no l) (no m) = omega arith

  -- no two have one base, and no two use one cell: the later one's base fits behind the earlier
  module _ (low : Symbolic patterns) (bases : List Based) (f : FirstFit patterns bases) where
    base_differs : (i j : ℕ) → i < j → j < length bases → (based bases i).base ≡ (based bases j).base → ⊥
    base_differs i j l h e =
        let r = f.later j (omega arith) h in
        never (sym (fits_says patterns (take j bases) (based bases j).path (based bases j).base r.fits).0
        ∙ based_has (take j bases) (based bases j).base i (omega (arith, length-take-le j bases (omega arith))) (ap (λ (x : Based). x.base) (get_or-take j bases i root l) ∙ e))

    cell_differs : (n i j : ℕ) → i < j → j < length bases → Uses patterns n (based bases i) → Uses patterns n (based bases j) → ⊥
    cell_differs n i j l h u v =
        let r = f.later j (omega arith) h in
        let k = v.0 in
        let q : (based bases j).base + (n - (based bases j).base) ≡ n = omega arith in
        let s = low (based bases j).path (n - (based bases j).base) v.1 in
        never (sym ((fits_says patterns (take j bases) (based bases j).path (based bases j).base r.fits).1 (n - (based bases j).base) s.0 s.1 v.1)
        ∙ ap (λ (m : ℕ). uses_cell patterns m (take j bases)) q
        ∙ based_uses patterns n (take j bases) i (omega (arith, length-take-le j bases (omega arith))) (subst (λ (x : Based). Uses patterns n x) (sym (get_or-take j bases i root l)) u))

    pub bases_once : (i j : ℕ) → i < length bases → j < length bases → (based bases i).base ≡ (based bases j).base → i ≡ j
    bases_once i j h k e = go (dec_lt i j) (dec_lt j i)
      where
        go : Dec (i < j) → Dec (j < i) → i ≡ j
        go (yes l) d = absurd (base_differs i j l k e)
        go (no l) (yes m) = absurd (base_differs j i m h (sym e))
        go (no l) (no m) = omega arith

    pub cells_once : (n i j : ℕ) → i < length bases → j < length bases → used_by patterns n (based bases i) ≡ true → used_by patterns n (based bases j) ≡ true → i ≡ j
    cells_once n i j h k u v = go (dec_lt i j) (dec_lt j i) (used_says patterns n (based bases i) u) (used_says patterns n (based bases j) v)
      where
        go : Dec (i < j) → Dec (j < i) → Uses patterns n (based bases i) → Uses patterns n (based bases j) → i ≡ j
        go (yes l) d a b = absurd (cell_differs n i j l k a b)
        go (no l) (yes m) a b = absurd (cell_differs n j i m h b a)
        go (no l) (no m) a b = omega arith

  -- where a path of one layout stands in another: not among those that the two share
  there : (a b : List Based) → FirstFit patterns a → FirstFit patterns b → (n : ℕ) → n < length a → ((k : ℕ) → k < n → (based a k).path ≡ (based b k).path)
      → (j : ℕ) × ((j < length b) × (((based b j).path ≡ (based a n).path) × (n ≤ j)))
  there a b f g n h shared =
      let s = f.goes n h in
      let w = g.every (based a n).path s.0 s.1 in
      (w.0, (w.1.0, (w.1.1, go w.0 (dec_lt w.0 n) w.1.1)))
    where
      go : (j : ℕ) → Dec (j < n) → (based b j).path ≡ (based a n).path → n ≤ j
      go j (yes l) e = absurd (ascends_self _ (subst (λ (u : List ℕ). Ascends u (based a n).path) (shared j l ∙ e) (f.order j n l h)))
      go j (no l) e = omega arith

  module _ (a b : List Based) (f : FirstFit patterns a) (g : FirstFit patterns b) where
    same_path : (n : ℕ) → n < length a → n < length b → ((k : ℕ) → k < n → (based a k).path ≡ (based b k).path) → (based a n).path ≡ (based b n).path
    same_path n h k shared = go (there a b f g n h shared) (there b a g f n k (λ i l. sym (shared i l)))
      where
        go : (j : ℕ) × ((j < length b) × (((based b j).path ≡ (based a n).path) × (n ≤ j))) → (i : ℕ) × ((i < length a) × (((based a i).path ≡ (based b n).path) × (n ≤ i)))
            → (based a n).path ≡ (based b n).path
        go v w = of (ℕ_discrete v.0 n) (ℕ_discrete w.0 n)
          where
            of : Dec (v.0 ≡ n) → Dec (w.0 ≡ n) → (based a n).path ≡ (based b n).path
            of (yes e) d = sym v.1.1.0 ∙ ap (λ (i : ℕ). (based b i).path) e
            of (no c) (yes e) = ap (λ (i : ℕ). (based a i).path) (sym e) ∙ w.1.1.0
            of (no c) (no d) =
                let p = v.1.1.1 in
                let q = w.1.1.1 in
                absurd (ascends_self _
                (ascends_trans (based a n).path (based b n).path (based a n).path
                (subst (Ascends (based a n).path) w.1.1.0 (f.order n w.0 (omega arith) w.1.0))
                (subst (Ascends (based b n).path) v.1.1.0 (g.order n v.0 (omega arith) v.1.0))))

    same_next : (n : ℕ) → n < length a → n < length b → take n a ≡ take n b → (based a n).path ≡ (based b n).path → based a n ≡ based b n
    same_next zero h k t p = f.rooted h ∙ sym (g.rooted k)
    same_next (suc n) h k t p =
        same_based (based a (suc n)) (based b (suc n)) p
        (one_least (take (suc n) b) (based b (suc n)).path (based a (suc n)).base (based b (suc n)).base
        (subst (λ (placed : List Based). Least patterns placed (based b (suc n)).path (based a (suc n)).base) t
        (subst (λ (u : List ℕ). Least patterns (take (suc n) a) u (based a (suc n)).base) p (f.later (suc n) (omega arith) h)))
        (g.later (suc n) (omega arith) k))

    same_front : (n : ℕ) → n ≤ length a → (n ≤ length b) × (take n a ≡ take n b)
    same_front zero h = (omega arith, refl)
    same_front (suc n) h = go (same_front n (omega arith))
      where
        go : (n ≤ length b) × (take n a ≡ take n b) → (suc n ≤ length b) × (take (suc n) a ≡ take (suc n) b)
        go r =
            let shared : (k : ℕ) → k < n → (based a k).path ≡ (based b k).path =
            λ k l. ap (λ (x : Based). x.path) (sym (get_or-take n a k root l) ∙ ap (λ (x : List Based). based x k) r.1 ∙ get_or-take n b k root l) in
            let v = there a b f g n h shared in
            let q = v.1.0 in
            let m = v.1.1.1 in
            let k : n < length b = omega arith in
            let e = same_next n h k r.1 (same_path n h k shared) in
            (k, take-suc a n root h ∙ rw (r.1, e) (sym (take-suc b n root k)))

  -- Two layouts of which document 01's clauses hold are one.
  one_layout : (a b : List Based) → FirstFit patterns a → FirstFit patterns b → a ≡ b
  one_layout a b f g =
      let p = same_front a b f g (length a) (omega arith) in
      let q = same_front b a g f (length b) (omega arith) in
      sym (take_all (length a) a (omega arith)) ∙ p.1 ∙ take_all (length a) b q.0

-- So the layout is the only one.
pub layout_only : (patterns : List Pattern) → Sorted patterns → ((i : ℕ) → i < length patterns → Shaped (nth patterns i)) → (bases : List Based) → FirstFit patterns bases → bases ≡ bases_of patterns
layout_only patterns sorted shaped bases f = one_layout patterns bases (bases_of patterns) f (layout_first_fit patterns sorted shaped)
