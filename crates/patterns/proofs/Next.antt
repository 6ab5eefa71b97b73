-- Laws about how the patterns of a list go on, as marks in a mask.
use Prim.Native.Nat.{ℕ, suc, ◌-◌, ◌≤◌, ◌<◌}
use mathlib.Core.Bool.{Bool, true, false, cond, ◌&&◌, ◌||◌}
use mathlib.Core.List.{List, [], ◌∷◌, map}
use mathlib.Core.Path.{◌≡◌, refl, sym, ◌∙◌, ap}
use native.Mathlib.Omega.{arith}
use borrow.Author.Tests.{lt-leb, le-leb, eqb-true, eqb-false}
use lib.Dec.{leb, eqb}
use lib.ListN.{length, get_or, take, drop, set, length-set, replicate, get_or-replicate}
use lib.Seq.{get_or-set_same, get_or-set_other}
use Rattle.base.specs.Limits.{symbol_limit}
use Rattle.words.specs.Symbols.{symbols_of}
use Rattle.lines.specs.Lines.{cut}
use Rattle.lines.proofs.Symbols.{rest_whole}
use Rattle.liang.specs.Patterns.{Pattern, pattern_of}
use Rattle.patterns.specs.Common.{common}
use Rattle.patterns.specs.Next.{next_in, next_mask}

-- the marks of the part of a text from a place on
pub next_from : (m : ℕ) (own mask text : List ℕ) (at : ℕ) (rest : List ℕ) → rest ≡ take (length text - at) (drop at text)
    → next_mask m own (map pattern_of (cut (drop at text))) mask ≡ next_mask m own (map pattern_of (cut rest)) mask
next_from m own mask text at rest e = ap (λ (l : List ℕ). next_mask m own (map pattern_of (cut l)) mask) (sym (e ∙ rest_whole text at))

-- how the list goes on, as marks, where its first line is taken off
module _ (m : ℕ) (own mask text line rest : List ℕ) (q : cut text ≡ line ∷ cut rest) where
  pub next_other : {c : ℕ} → c ≡ common own (symbols_of line) → c < m → mask ≡ next_mask m own (map pattern_of (cut text)) mask
  unfolding next_mask pattern_of
  next_other p l = rw (q, ← p, lt-leb m _ l)

  pub next_mark : {c s : ℕ} → c ≡ common own (symbols_of line) → m ≤ c → s ≡ get_or (symbols_of line) m 0 → {after : List ℕ} → after ≡ set mask s 1
      → next_mask m own (map pattern_of (cut text)) mask ≡ next_mask m own (map pattern_of (cut rest)) after
  unfolding next_mask pattern_of
  next_mark p l r a = rw (q, ← p, le-leb m _ l, a, r)

pub next_end : (m : ℕ) (own mask text : List ℕ) → length text ≤ 0 → next_mask m own (map pattern_of (cut text)) mask ≡ mask
unfolding next_mask cut
next_end m own mask [] h = refl
next_end m own mask (b ∷ t) h = absurd (omega arith)

pub mask_length : (m : ℕ) (own : List ℕ) (ps : List Pattern) (mask : List ℕ) → length (next_mask m own ps mask) ≡ length mask
unfolding next_mask
mask_length m own [] mask = refl
mask_length m own (p ∷ ps) mask = go (leb m (common own p.symbols)) (mask_length m own ps (set mask (get_or p.symbols m 0) 1) ∙ length-set mask (get_or p.symbols m 0) 1)
  where
    go : (z : Bool) → length (next_mask m own ps (set mask (get_or p.symbols m 0) 1)) ≡ length mask
        → length (cond z (next_mask m own ps (set mask (get_or p.symbols m 0) 1)) mask) ≡ length mask
    go true e = e
    go false e = refl

-- a mark stands exactly where a pattern goes on so
pub mask_at : (m : ℕ) (own : List ℕ) (ps : List Pattern) (mask : List ℕ) (s : ℕ) → s < length mask
    → get_or (next_mask m own ps mask) s 0 ≡ cond (next_in m own ps s) 1 (get_or mask s 0)
unfolding next_mask next_in
mask_at m own [] mask s h = refl
mask_at m own (p ∷ ps) mask s h =
    go (leb m (common own p.symbols)) (eqb (get_or p.symbols m 0) s) refl
    (mask_at m own ps (set mask (get_or p.symbols m 0) 1) s (omega (arith, h, length-set mask (get_or p.symbols m 0) 1)))
  where
    here : get_or p.symbols m 0 ≡ s → get_or (set mask (get_or p.symbols m 0) 1) s 0 ≡ 1
    here e = rw e (get_or-set_same mask s 1 0 h)

    once : (y : Bool) (n : ℕ) → n ≡ 1 → cond y 1 n ≡ 1
    once true n e = refl
    once false n e = e

    go : (a b : Bool) → eqb (get_or p.symbols m 0) s ≡ b
        → get_or (next_mask m own ps (set mask (get_or p.symbols m 0) 1)) s 0 ≡ cond (next_in m own ps s) 1 (get_or (set mask (get_or p.symbols m 0) 1) s 0)
        → get_or (cond a (next_mask m own ps (set mask (get_or p.symbols m 0) 1)) mask) s 0 ≡ cond (a && (b || next_in m own ps s)) 1 (get_or mask s 0)
    go true true e next = next ∙ once (next_in m own ps s) _ (here (eqb-true (get_or p.symbols m 0) s e))
    go true false e next = next ∙ ap (cond (next_in m own ps s) 1) (get_or-set_other mask (get_or p.symbols m 0) s 1 0 (λ z. eqb-false (get_or p.symbols m 0) s e (sym z)))
    go false b e next = refl

-- a clear mask, marked, says how the patterns go on
pub mask_says : (m : ℕ) (own : List ℕ) (ps : List Pattern) {mask : List ℕ} → mask ≡ next_mask m own ps (replicate (suc symbol_limit) 0) → (s : ℕ) → s < suc symbol_limit → eqb (get_or mask s 0) 1 ≡ next_in m own ps s
mask_says m own ps p s h =
    ap (λ (l : List ℕ). eqb (get_or l s 0) 1) p
    ∙ ap (λ (n : ℕ). eqb n 1) (mask_at m own ps (replicate (suc symbol_limit) 0) s h ∙ ap (cond (next_in m own ps s) 1) (get_or-replicate {A = ℕ} (suc symbol_limit) s 0 0 h))
    ∙ flag (next_in m own ps s)
  where
    flag : (z : Bool) → eqb (cond z 1 0) 1 ≡ z
    flag true = refl
    flag false = refl
