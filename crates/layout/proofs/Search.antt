-- The search for a base without a limit: it always finds one that fits, and the packer's search finds the same or stops before it.
use Prim.Native.Nat.{ℕ, suc, ◌+◌, ◌-◌, ◌≤◌, ◌<◌}
use mathlib.Core.Bool.{Bool, true, false, not, ◌&&◌, ◌||◌}
use mathlib.Core.List.{List, [], ◌∷◌}
use mathlib.Core.Path.{◌≡◌, refl, sym, ◌∙◌}
use native.Mathlib.Decide.{dec_lt}
use native.Mathlib.Omega.{arith}
use borrow.Author.Tests.{ne_eqb, not-true}
use lib.Dec.{ltb}
use Rattle.base.specs.Limits.{symbol_limit}
use Rattle.base.proofs.Lists.{never, both}
use Rattle.liang.specs.Patterns.{Pattern}
use Rattle.base.proofs.All.{each_all}
use Rattle.base.specs.Tests.{smallest}
use Rattle.fit_trie.proofs.Search.{all_at, Smallest, smallest_found, wanted}
use Rattle.layout.specs.Bases.{Based, goes_on, has_base, used_by, uses_cell, fits_at, reach, least_base}
use Rattle.layout.proofs.Nodes.{Symbolic}

-- a base that fits is had by no path, and its needed cells are free
pub fits_says : (patterns : List Pattern) (placed : List Based) (u : List ℕ) (b : ℕ) → fits_at patterns placed u b ≡ true
    → (has_base b placed ≡ false) × ((s : ℕ) → 1 ≤ s → s ≤ symbol_limit → goes_on patterns u s ≡ true → uses_cell patterns (b + s) placed ≡ false)
unfolding fits_at
fits_says patterns placed u b e =
    let p = both (not (has_base b placed)) _ e in
    (not-true (has_base b placed) p.0, λ s h k g. not-true (uses_cell patterns (b + s) placed) (wanted (goes_on patterns u s) _ (all_at _ symbol_limit 1 s p.1 h (omega arith)) g))

module _ (patterns : List Pattern) (low : Symbolic patterns) where
  -- past their reach no path has a base or uses a cell
  none_has : (placed : List Based) (b : ℕ) → reach placed ≤ b → has_base b placed ≡ false
  unfolding has_base reach
  none_has [] b h = refl
  none_has (x ∷ xs) b h = rw (ne_eqb x.base b (λ e. omega arith)) (none_has xs b (omega arith))

  none_used : (x : Based) (n : ℕ) → suc (x.base + symbol_limit) ≤ n → used_by patterns n x ≡ false
  unfolding used_by
  none_used x n h = go (goes_on patterns x.path (n - x.base)) refl (ltb x.base n)
    where
      go : (z : Bool) → goes_on patterns x.path (n - x.base) ≡ z → (a : Bool) → (a && z) ≡ false
      go true p a = absurd (omega (arith, (low x.path (n - x.base) p).1))
      go false p true = refl
      go false p false = refl

  none_uses : (placed : List Based) (n : ℕ) → reach placed ≤ n → uses_cell patterns n placed ≡ false
  unfolding uses_cell reach
  none_uses [] n h = refl
  none_uses (x ∷ xs) n h = rw (none_used x n (omega arith)) (none_uses xs n (omega arith))

  past_fits : (placed : List Based) (u : List ℕ) (b : ℕ) → reach placed ≤ b → fits_at patterns placed u b ≡ true
  unfolding fits_at
  past_fits placed u b h = rw (none_has placed b h) (each_all _ 1 symbol_limit (λ s k l. rw (none_uses placed (b + s) (omega arith)) (go (goes_on patterns u s))))
    where
      go : (z : Bool) → (not z || true) ≡ true
      go true = refl
      go false = refl

  -- The numbers searched are enough: what is found fits, so that the search's end is no limit.
  pub reach_enough : (placed : List Based) (u : List ℕ) → fits_at patterns placed u (least_base patterns placed u) ≡ true
  unfolding least_base
  reach_enough placed u = go (dec_lt (smallest (fits_at patterns placed u) 1 (reach placed)) (1 + reach placed))
    where
      go : Dec (smallest (fits_at patterns placed u) 1 (reach placed) < 1 + reach placed) → fits_at patterns placed u (smallest (fits_at patterns placed u) 1 (reach placed)) ≡ true
      go (yes h) = (smallest_found (fits_at patterns placed u) (reach placed) 1).passes h
      go (no h) = past_fits placed u (smallest (fits_at patterns placed u) 1 (reach placed)) (omega arith)

  module _ (placed : List Based) (u : List ℕ) where
    pub least_low : 1 ≤ least_base patterns placed u
    unfolding least_base
    least_low = (smallest_found (fits_at patterns placed u) (reach placed) 1).low

    -- no smaller base from 1 up fits
    pub least_below : (b : ℕ) → 1 ≤ b → b < least_base patterns placed u → fits_at patterns placed u b ≡ false
    unfolding least_base
    least_below = (smallest_found (fits_at patterns placed u) (reach placed) 1).below

    -- A search of n numbers finds the same base, or that lies behind them.
    pub same_found : (f : ℕ → Bool) → ((b : ℕ) → f b ≡ fits_at patterns placed u b) → (n : ℕ)
        → (smallest f 1 n < 1 + n → smallest f 1 n ≡ least_base patterns placed u) × (1 + n ≤ smallest f 1 n → 1 + n ≤ least_base patterns placed u)
    same_found f e n = (
      λ h. go h (dec_lt (least_base patterns placed u) (smallest f 1 n)) (dec_lt (smallest f 1 n) (least_base patterns placed u)),
      λ h. past h (dec_lt (least_base patterns placed u) (smallest f 1 n)),
    )
      where
        a : Smallest f 1 n (smallest f 1 n)
        a = smallest_found f n 1

        not_below : least_base patterns placed u < smallest f 1 n → ⊥
        not_below h = never (sym (a.below (least_base patterns placed u) least_low h) ∙ e (least_base patterns placed u) ∙ reach_enough placed u)

        go : smallest f 1 n < 1 + n → Dec (least_base patterns placed u < smallest f 1 n) → Dec (smallest f 1 n < least_base patterns placed u) → smallest f 1 n ≡ least_base patterns placed u
        go h (yes p) q = absurd (not_below p)
        go h (no p) (yes q) = never (sym (least_below (smallest f 1 n) a.low q) ∙ sym (e (smallest f 1 n)) ∙ a.passes h)
        go h (no p) (no q) = omega arith

        past : 1 + n ≤ smallest f 1 n → Dec (least_base patterns placed u < smallest f 1 n) → 1 + n ≤ least_base patterns placed u
        past h (yes p) = absurd (not_below p)
        past h (no p) = omega arith
