-- What the settings come to in a room, byte by byte, and where a chain's settings lie.
use Prim.Native.Nat.{ℕ, zero, suc, ◌+◌, ◌-◌, ◌≤◌, ◌<◌, max}
use mathlib.Core.Bool.{Bool, true, false, cond, ◌&&◌}
use mathlib.Core.List.{List, [], ◌∷◌, ◌++◌}
use mathlib.Core.Path.{◌≡◌, refl, sym, ◌∙◌, ap}
use native.Mathlib.Omega.{arith}
use borrow.Author.Tests.{ltb-true, ltb-false, eqb-true, eqb-false, leb-true, eq-eqb, ne_eqb}
use lib.Dec.{leb, ltb, eqb, leb-suc-suc}
use lib.ListN.{length, get_or, set}
use lib.Seq.{get_or-set_same, get_or-set_other}
use Rattle.base.specs.Limits.{level_limit}
use Rattle.words.specs.Words.{inner}
use Rattle.table.specs.declared.Entry.{Entry}
use Rattle.table.specs.Table.{entry_at}
use Rattle.std.specs.Prelude.{Some, None, Option}
use Rattle.walk.specs.Chain.{Setting, setting, chain_step, chain_from, chain}
use Rattle.walk.specs.Raise.{highest_set, raise, raise_all}
use Rattle.walk.proofs.Laws.{raise_length}

-- one setting raised: the byte of its gap becomes the higher of the two, where the gap is an inner one
module _ (n : ℕ) (s : Setting) (room : List ℕ) (i : ℕ) (h : i < length room) where
  raise_here : s.before ≡ suc i → get_or (raise n s room) i 0 ≡ max (get_or room i 0) (cond (inner n i) s.level 0)
  unfolding raise inner
  raise_here e =
      let k : suc i - 1 ≡ i = omega arith in
      rw (e, k, leb-suc-suc 1 i) (go (leb 1 i) (leb (suc i) n) (ltb (get_or room i 0) s.level) refl)
    where
      go : (a b c : Bool) → ltb (get_or room i 0) s.level ≡ c
          → get_or (cond (a && (b && c)) (set room i s.level) room) i 0 ≡ max (get_or room i 0) (cond (a && b) s.level 0)
      go true true true p = get_or-set_same room i s.level 0 h ∙ omega (arith, ltb-true (get_or room i 0) s.level p)
      go true true false p = omega (arith, ltb-false (get_or room i 0) s.level p)
      go true false c p = omega arith
      go false b c p = omega arith

  raise_elsewhere : (s.before ≡ suc i → ⊥) → get_or (raise n s room) i 0 ≡ get_or room i 0
  unfolding raise
  raise_elsewhere d = go (leb 2 s.before) refl (leb s.before n && ltb (get_or room (s.before - 1) 0) s.level)
    where
      go : (a : Bool) → leb 2 s.before ≡ a → (b : Bool) → get_or (cond (a && b) (set room (s.before - 1) s.level) room) i 0 ≡ get_or room i 0
      go true p true = get_or-set_other room (s.before - 1) i s.level 0 (λ q. omega (arith, q, d, leb-true 2 s.before p))
      go true p false = refl
      go false p b = refl

  raise_at : get_or (raise n s room) i 0 ≡ max (get_or room i 0) (cond (inner n i) (cond (eqb s.before (suc i)) s.level 0) 0)
  raise_at = go (eqb s.before (suc i)) refl
    where
      go : (z : Bool) → eqb s.before (suc i) ≡ z → get_or (raise n s room) i 0 ≡ max (get_or room i 0) (cond (inner n i) (cond z s.level 0) 0)
      go true p = raise_here (eqb-true s.before (suc i) p)
      go false p = raise_elsewhere (eqb-false s.before (suc i) p) ∙ none (inner n i)
        where
          none : (z : Bool) → get_or room i 0 ≡ max (get_or room i 0) (cond z 0 0)
          none true = omega arith
          none false = omega arith

-- all settings raised: "the highest level so set"
pub raised_at : (n : ℕ) (sets : List Setting) (room : List ℕ) (i : ℕ) → i < length room
    → get_or (raise_all n sets room) i 0 ≡ max (get_or room i 0) (cond (inner n i) (highest_set sets (suc i)) 0)
unfolding raise_all highest_set
raised_at n [] room i h = go (inner n i)
  where
    go : (z : Bool) → get_or room i 0 ≡ max (get_or room i 0) (cond z 0 0)
    go true = omega arith
    go false = omega arith
raised_at n (s ∷ rest) room i h =
    raised_at n rest (raise n s room) i (omega (arith, raise_length n s room))
    ∙ join (inner n i) (get_or room i 0) (cond (eqb s.before (suc i)) s.level 0) (highest_set rest (suc i)) (get_or (raise n s room) i 0) (raise_at n s room i h)
  where
    join : (z : Bool) (a b c d : ℕ) → d ≡ max a (cond z b 0) → max d (cond z c 0) ≡ max a (cond z (max b c) 0)
    join true a b c d e = omega (arith, e)
    join false a b c d e = omega (arith, e)

pub highest_append : (a b : List Setting) (gap : ℕ) → highest_set (a ++ b) gap ≡ max (highest_set a gap) (highest_set b gap)
unfolding highest_set
highest_append [] b gap = omega arith
highest_append (s ∷ a) b gap =
    ap (λ (n : ℕ). max (cond (eqb s.before gap) s.level 0) n) (highest_append a b gap) ∙ join (cond (eqb s.before gap) s.level 0) (highest_set a gap) (highest_set b gap)
  where
    join : (x y z : ℕ) → max x (max y z) ≡ max (max x y) z
    join x y z = omega arith

-- a chain moved along the row sets the same levels as far further on
module _ (entries : List ℕ) (m end by gap : ℕ) (h : m ≤ end) where
  same_gap : (d : ℕ) → d ≤ m → eqb (end + by - d) (gap + by) ≡ eqb (end - d) gap
  same_gap d k = go (eqb (end - d) gap) refl
    where
      go : (z : Bool) → eqb (end - d) gap ≡ z → eqb (end + by - d) (gap + by) ≡ z
      go true p = eq-eqb (end + by - d) (gap + by) (omega (arith, eqb-true (end - d) gap p))
      go false p = let q : end - d ≡ gap → ⊥ = eqb-false (end - d) gap p in ne_eqb (end + by - d) (gap + by) (λ e. q (omega (arith, e)))

  setting_moved : (d l : ℕ) → highest_set (setting m (end + by) d l) (gap + by) ≡ highest_set (setting m end d l) gap
  unfolding setting highest_set
  setting_moved d l = go (leb 1 l) (leb l level_limit) (leb d m) refl
    where
      go : (a b c : Bool) → leb d m ≡ c
          → highest_set (cond (a && (b && c)) (record { before = end + by - d; level = l } ∷ []) []) (gap + by)
          ≡ highest_set (cond (a && (b && c)) (record { before = end - d; level = l } ∷ []) []) gap
      go true true true p = rw (same_gap d (leb-true d m p))
      go true true false p = refl
      go true false c p = refl
      go false b c p = refl

  step_moved : (f g : ℕ → List Setting) (k : ℕ) → ((j : ℕ) → highest_set (f j) (gap + by) ≡ highest_set (g j) gap) → (e : Option Entry)
      → highest_set (chain_step f m (end + by) k e) (gap + by) ≡ highest_set (chain_step g m end k e) gap
  unfolding chain_step highest_set
  step_moved f g k next None = refl
  step_moved f g k next (Some entry) =
      highest_append (setting m (end + by) entry.distance entry.level) (cond (ltb entry.next k) (f entry.next) []) (gap + by)
      ∙ rw (setting_moved entry.distance entry.level, rest (ltb entry.next k)) (sym (highest_append (setting m end entry.distance entry.level) (cond (ltb entry.next k) (g entry.next) []) gap))
    where
      rest : (z : Bool) → highest_set (cond z (f entry.next) []) (gap + by) ≡ highest_set (cond z (g entry.next) []) gap
      rest true = next entry.next
      rest false = refl

  from_moved : (bound k : ℕ) → highest_set (chain_from entries m (end + by) bound k) (gap + by) ≡ highest_set (chain_from entries m end bound k) gap
  unfolding chain_from highest_set
  from_moved zero k = refl
  from_moved (suc bound) k =
      step_moved (λ j. chain_from entries m (end + by) bound j) (λ j. chain_from entries m end bound j) k (λ j. from_moved bound j) (entry_at entries k)

  pub chain_moved : (k : ℕ) → highest_set (chain entries m (end + by) k) (gap + by) ≡ highest_set (chain entries m end k) gap
  unfolding chain
  chain_moved k = from_moved k k
