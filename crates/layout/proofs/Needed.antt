-- The cells that a layout needs: at least one more than each cell used, and no more than the highest asks.
use Prim.Native.Nat.{ℕ, zero, suc, ◌+◌, ◌-◌, ◌≤◌, ◌<◌, max}
use mathlib.Core.Bool.{Bool, true, false, cond, not, ◌&&◌, ◌||◌}
use mathlib.Core.List.{List, [], ◌∷◌, ◌++◌}
use mathlib.Core.Logic.{◌⊎◌, inl, inr}
use mathlib.Core.Path.{◌≡◌, refl, sym, ◌∙◌, ap}
use native.Mathlib.Decide.{dec_lt}
use native.Mathlib.Omega.{arith}
use borrow.Author.Tests.{ltb-false}
use lib.Dec.{ltb}
use lib.ListN.{length, length-append}
use lib.Seq.{get_or-append_seam}
use Rattle.base.specs.Limits.{symbol_limit, cell_limit}
use Rattle.base.proofs.Lists.{never}
use Rattle.liang.specs.Patterns.{Pattern}
use Rattle.base.specs.Tests.{all_from}
use Rattle.fit.specs.Cells.{inside}
use Rattle.layout.specs.Bases.{Based, goes_on, used_by, uses_cell, top_from, top_of}
use Rattle.layout.specs.FirstFit.{root, based}
use Rattle.layout.proofs.Nodes.{or_left, or_right, Symbolic, says_used, uses_based}

module _ (patterns : List Pattern) where
  pub top_some : (placed : List Based) → 1 ≤ top_of patterns placed
  unfolding top_of
  top_some [] = omega arith
  top_some (x ∷ placed) = omega (arith, top_some placed)

  top_at : (x : Based) (n s t : ℕ) → s ≤ t → t < s + n → goes_on patterns x.path t ≡ true → x.base + t < top_from patterns x s n
  unfolding top_from
  top_at x zero s t h l e = absurd (omega arith)
  top_at x (suc n) s t h l e = go (dec_lt s t) (top_at x n (suc s) t)
    where
      go : Dec (s < t) → (suc s ≤ t → t < suc s + n → goes_on patterns x.path t ≡ true → x.base + t < top_from patterns x (suc s) n)
          → x.base + t < max (cond (goes_on patterns x.path s) (suc (x.base + s)) 1) (top_from patterns x (suc s) n)
      go (yes p) next = let r = next (omega arith) (omega arith) e in omega arith
      go (no p) next =
          let q : t ≡ s = omega arith in
          let g : goes_on patterns x.path s ≡ true = ap (goes_on patterns x.path) (sym q) ∙ e in
          rw g (omega arith)

  -- every cell used lies below
  pub top_each : (placed : List Based) (i s : ℕ) → i < length placed → 1 ≤ s → s ≤ symbol_limit → goes_on patterns (based placed i).path s ≡ true → (based placed i).base + s < top_of patterns placed
  unfolding top_of
  top_each [] i s h k l e = absurd (omega arith)
  top_each (x ∷ placed) zero s h k l e = omega (arith, top_at x symbol_limit 1 s k (omega arith) e)
  top_each (x ∷ placed) (suc i) s h k l e = omega (arith, top_each placed i s (omega arith) k l e)

  -- and so do those of one path more
  pub top_over : (x : Based) (placed : List Based) (s : ℕ) → 1 ≤ s → s ≤ symbol_limit → goes_on patterns x.path s ≡ true → x.base + s < top_of patterns (placed ++ (x ∷ []))
  top_over x placed s h l e =
      let q = get_or-append_seam placed x [] root in
      let r = top_each (placed ++ (x ∷ [])) (length placed) s (omega (arith, length-append placed (x ∷ []))) h l (ap (λ (y : Based). goes_on patterns y.path s) q ∙ e) in
      omega (arith, r, ap (λ (y : Based). y.base) q)

  pub top_more : (x : Based) (placed : List Based) → top_of patterns placed ≤ top_of patterns (placed ++ (x ∷ []))
  unfolding top_of
  top_more x [] = omega arith
  top_more x (y ∷ placed) = omega (arith, top_more x placed)

  top_under : (x : Based) (limit n s : ℕ) → 1 ≤ limit → ((t : ℕ) → s ≤ t → t < s + n → goes_on patterns x.path t ≡ true → x.base + t < limit) → top_from patterns x s n ≤ limit
  unfolding top_from
  top_under x limit zero s h f = h
  top_under x limit (suc n) s h f = go (goes_on patterns x.path s) refl (top_under x limit n (suc s) h (λ t a b. f t (omega arith) (omega arith)))
    where
      go : (z : Bool) → goes_on patterns x.path s ≡ z → top_from patterns x (suc s) n ≤ limit → max (cond z (suc (x.base + s)) 1) (top_from patterns x (suc s) n) ≤ limit
      go true e l = let k = f s (omega arith) (omega arith) e in omega arith
      go false e l = omega arith

  -- no more than a limit that every cell used lies below
  pub top_most : (limit : ℕ) → 1 ≤ limit → (placed : List Based)
      → ((i t : ℕ) → i < length placed → goes_on patterns (based placed i).path t ≡ true → (based placed i).base + t < limit) → top_of patterns placed ≤ limit
  unfolding top_of
  top_most limit h [] f = h
  top_most limit h (x ∷ placed) f =
      let a = top_under x limit symbol_limit 1 h (λ t k l e. f 0 t (omega arith) e) in
      let b = top_most limit h placed (λ i t l. f (suc i) t (omega arith)) in
      omega arith

  -- the highest cell used, where there is one
  topmost_from : (x : Based) (n s : ℕ) → (top_from patterns x s n ≡ 1) ⊎ ((t : ℕ) × ((goes_on patterns x.path t ≡ true) × (suc (x.base + t) ≡ top_from patterns x s n)))
  unfolding top_from
  topmost_from x zero s = inl refl
  topmost_from x (suc n) s = go (goes_on patterns x.path s) refl (top_from patterns x (suc s) n) (topmost_from x n (suc s))
    where
      go : (z : Bool) → goes_on patterns x.path s ≡ z → (later : ℕ) → (later ≡ 1) ⊎ ((t : ℕ) × ((goes_on patterns x.path t ≡ true) × (suc (x.base + t) ≡ later)))
          → (max (cond z (suc (x.base + s)) 1) later ≡ 1) ⊎ ((t : ℕ) × ((goes_on patterns x.path t ≡ true) × (suc (x.base + t) ≡ max (cond z (suc (x.base + s)) 1) later)))
      go true e later (inl q) = inr (s, (e, omega arith))
      go false e later (inl q) = inl (omega arith)
      go false e later (inr w) = let q = w.1.1 in inr (w.0, (w.1.0, omega arith))
      go true e later (inr w) = of (dec_lt later (suc (x.base + s)))
        where
          of : Dec (later < suc (x.base + s)) → (max (suc (x.base + s)) later ≡ 1) ⊎ ((t : ℕ) × ((goes_on patterns x.path t ≡ true) × (suc (x.base + t) ≡ max (suc (x.base + s)) later)))
          of (yes l) = inr (s, (e, omega arith))
          of (no l) = let q = w.1.1 in inr (w.0, (w.1.0, omega arith))

  module _ (low : Symbolic patterns) where
    abbrev pub Topmost : List Based → ℕ → Type 0
    Topmost placed top = (top ≡ 1) ⊎ ((n : ℕ) × ((suc n ≡ top) × (uses_cell patterns n placed ≡ true)))

    topmost : (placed : List Based) → Topmost placed (top_of patterns placed)
    unfolding top_of uses_cell
    topmost [] = inl refl
    topmost (x ∷ placed) = go (top_from patterns x 1 symbol_limit) (topmost_from x symbol_limit 1) (top_of patterns placed) (topmost placed)
      where
        own : (t : ℕ) → goes_on patterns x.path t ≡ true → (used_by patterns (x.base + t) x || uses_cell patterns (x.base + t) placed) ≡ true
        own t g =
            let k = (low x.path t g).0 in
            let q : x.base + t - x.base ≡ t = omega arith in
            or_left (used_by patterns (x.base + t) x) _ (says_used patterns (x.base + t) x (omega arith, ap (goes_on patterns x.path) q ∙ g))

        go : (a : ℕ) → (a ≡ 1) ⊎ ((t : ℕ) × ((goes_on patterns x.path t ≡ true) × (suc (x.base + t) ≡ a))) → (b : ℕ) → Topmost placed b → Topmost (x ∷ placed) (max a b)
        go a (inl p) b (inl q) = inl (omega arith)
        go a (inl p) b (inr w) = let q = w.1.0 in inr (w.0, (omega arith, or_right (used_by patterns w.0 x) _ w.1.1))
        go a (inr v) b (inl q) = let p = v.1.1 in inr (x.base + v.0, (omega arith, own v.0 v.1.0))
        go a (inr v) b (inr w) = of (dec_lt a b)
          where
            of : Dec (a < b) → Topmost (x ∷ placed) (max a b)
            of (yes l) = let q = w.1.0 in inr (w.0, (omega arith, or_right (used_by patterns w.0 x) _ w.1.1))
            of (no l) = let p = v.1.1 in inr (x.base + v.0, (omega arith, own v.0 v.1.0))

    used_below : (placed : List Based) (n : ℕ) → uses_cell patterns n placed ≡ true → n < top_of patterns placed
    used_below placed n e =
        let w = uses_based patterns n placed e in
        let l = w.holds.0 in
        let k = low (based placed w.at).path (n - (based placed w.at).base) w.holds.1 in
        omega (arith, top_each placed w.at (n - (based placed w.at).base) w.inside k.0 k.1 w.holds.1)

    -- "C is the highest used cell + 1, or 1 if none"
    pub top_highest : (placed : List Based) → ((n : ℕ) → uses_cell patterns n placed ≡ true → n < top_of patterns placed) × Topmost placed (top_of patterns placed)
    top_highest placed = (used_below placed, topmost placed)

-- a needed cell behind the last that there may be
abbrev pub Past : (ℕ → Bool) → ℕ → Type 0
Past child base = (s : ℕ) × ((1 ≤ s) × ((s ≤ symbol_limit) × ((child s ≡ true) × (cell_limit ≤ base + s))))

past_from : (child : ℕ → Bool) (base n s : ℕ) → 1 ≤ s → s + n ≡ suc symbol_limit → all_from (λ t. not (child t) || ltb (base + t) cell_limit) s n ≡ false → Past child base
unfolding all_from
past_from child base zero s h l q = never (sym q)
past_from child base (suc n) s h l q = split (child s) refl (ltb (base + s) cell_limit) refl q (past_from child base n (suc s) (omega arith) (omega arith))
  where
    split : (a : Bool) → child s ≡ a → (b : Bool) → ltb (base + s) cell_limit ≡ b → ((not a || b) && all_from (λ t. not (child t) || ltb (base + t) cell_limit) (suc s) n) ≡ false
        → (all_from (λ t. not (child t) || ltb (base + t) cell_limit) (suc s) n ≡ false → Past child base) → Past child base
    split true p false r w next = (s, (h, (omega arith, (p, ltb-false (base + s) cell_limit r))))
    split true p true r w next = next w
    split false p true r w next = next w
    split false p false r w next = next w

-- a base that is not inside needs one
pub not_inside : (child : ℕ → Bool) (base : ℕ) → inside child base ≡ false → Past child base
unfolding inside
not_inside child base e = past_from child base symbol_limit 1 (omega arith) (omega arith) e
