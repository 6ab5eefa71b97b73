-- Laws about strings: beginnings, what two lists share, their symbols, and what is asked of every pattern of a list.
use Prim.Native.Nat.{ℕ, zero, suc, ◌≤◌, ◌<◌, max}
use mathlib.Core.Bool.{Bool, true, false, cond, ◌&&◌}
use mathlib.Core.List.{List, [], ◌∷◌, ◌++◌, List-discrete}
use mathlib.Core.Logic.{◌⊎◌, inl, inr}
use mathlib.Core.Path.{◌≡◌, refl, sym, ◌∙◌, ap}
use native.Mathlib.Decide.{ℕ_discrete}
use native.Mathlib.Omega.{arith}
use borrow.Author.Tests.{leb-true, le-leb, eqb-true, eqb-false, eq-eqb, ne_eqb}
use lib.Dec.{leb, eqb, leb-zero, leb-suc-zero, leb-suc-suc}
use lib.ListN.{length, get_or, take, length-append}
use lib.Seq.{take_all}
use Rattle.base.specs.Limits.{symbol_limit}
use Rattle.base.proofs.Lists.{never, both}
use Rattle.words.proofs.Laws.{range_low, range_high}
use Rattle.liang.specs.Patterns.{Pattern}
use Rattle.liang.specs.Levels.{begins}
use Rattle.patterns.specs.Common.{common}
use Rattle.patterns.specs.Strings.{all_symbols, nth}

pub begins_cons : (x y : ℕ) (u row : List ℕ) → begins (x ∷ u) (y ∷ row) ≡ true → (x ≡ y) × (begins u row ≡ true)
unfolding begins
begins_cons x y u row e = let p = both (eqb x y) (begins u row) e in (eqb-true x y p.0, p.1)

pub begins_more : (x : ℕ) (u row : List ℕ) → begins u row ≡ true → begins (x ∷ u) (x ∷ row) ≡ true
unfolding begins
begins_more x u row e = rw (eq-eqb x x refl, e)

pub begins_self : (u : List ℕ) → begins u u ≡ true
unfolding begins
begins_self [] = refl
begins_self (x ∷ u) = begins_more x u u (begins_self u)

pub alphabet_rest : (s : ℕ) (row : List ℕ) → all_symbols (s ∷ row) ≡ true → all_symbols row ≡ true
unfolding all_symbols
alphabet_rest s row a = (both (leb 1 s && leb s symbol_limit) (all_symbols row) a).1

pub begins_alphabet : (u row : List ℕ) → begins u row ≡ true → all_symbols row ≡ true → all_symbols u ≡ true
unfolding begins all_symbols
begins_alphabet [] row b a = refl
begins_alphabet (x ∷ u) [] b a = never b
begins_alphabet (x ∷ u) (y ∷ row) b a =
    let p = begins_cons x y u row b in
    let q = both (leb 1 y && leb y symbol_limit) (all_symbols row) a in
    rw (p.0, q.0, begins_alphabet u row p.1 q.1)

-- a string that begins two lists is no longer than what they share
pub begins_common : (u a row : List ℕ) → begins u a ≡ true → begins u row ≡ true → length u ≤ common a row
unfolding begins common
begins_common [] a row p q = omega arith
begins_common (x ∷ u) [] row p q = never p
begins_common (x ∷ u) (y ∷ a) [] p q = never q
begins_common (x ∷ u) (y ∷ a) (z ∷ row) p q =
    let s = begins_cons x y u a p in
    let t = begins_cons x z u row q in
    let next = begins_common u a row s.1 t.1 in
    rw (eq-eqb y z (omega (arith, s.0, t.0))) (omega arith)

-- what two lists share, as a string
pub record Shared (a row : List ℕ) : Type 0 where
  pub string : List ℕ
  pub size : length string ≡ common a row
  pub left : begins string a ≡ true
  pub right : begins string row ≡ true

pub shared : (a row : List ℕ) → Shared a row
unfolding begins common
shared [] row = record { string = []; size = refl; left = refl; right = refl }
shared (x ∷ a) [] = record { string = []; size = refl; left = refl; right = refl }
shared (x ∷ a) (y ∷ row) = go (eqb x y) refl (shared a row)
  where
    go : (z : Bool) → eqb x y ≡ z → Shared a row → Shared (x ∷ a) (y ∷ row)
    go true p s =
        record {
          string = x ∷ s.string;
          size = rw p (omega (arith, s.size));
          left = begins_more x s.string a s.left;
          right = rw (p, s.right);
        }
    go false p s = record { string = []; size = rw p; left = refl; right = refl }

-- the search for a pattern by its symbols
pub record Found (patterns : List Pattern) (u : List ℕ) : Type 0 where
  pub at : ℕ
  pub within : at < length patterns
  pub same : (nth patterns at).symbols ≡ u

pub search_pattern : (patterns : List Pattern) (u : List ℕ)
    → Found patterns u ⊎ ((i : ℕ) → i < length patterns → (nth patterns i).symbols ≡ u → ⊥)
search_pattern [] u = inr (λ i h e. omega arith)
search_pattern (p ∷ ps) u = go (List-discrete ℕ_discrete p.symbols u) (search_pattern ps u)
  where
    go : Dec (p.symbols ≡ u) → Found ps u ⊎ ((i : ℕ) → i < length ps → (nth ps i).symbols ≡ u → ⊥)
        → Found (p ∷ ps) u ⊎ ((i : ℕ) → i < length (p ∷ ps) → (nth (p ∷ ps) i).symbols ≡ u → ⊥)
    go (yes e) rest = inl (record { at = 0; within = omega arith; same = e })
    go (no d) (inl f) = inl (record { at = suc f.at; within = omega arith; same = f.same })
    go (no d) (inr none) = inr other
      where
        other : (i : ℕ) → i < length (p ∷ ps) → (nth (p ∷ ps) i).symbols ≡ u → ⊥
        other zero h e = d e
        other (suc i) h e = none i (omega arith) e

-- the most that a list's patterns come to
module _ (f : Pattern → ℕ) (most : List Pattern → ℕ) (none : most [] ≡ 0) (more : (p : Pattern) (ps : List Pattern) → most (p ∷ ps) ≡ max (f p) (most ps)) where
  pub most_each : (ps : List Pattern) (i : ℕ) → i < length ps → f (nth ps i) ≤ most ps
  most_each [] i h = absurd (omega arith)
  most_each (p ∷ ps) zero h = omega (arith, more p ps)
  most_each (p ∷ ps) (suc i) h = omega (arith, more p ps, most_each ps i (omega arith))

  pub most_all : (ps : List Pattern) (bound : ℕ) → ((i : ℕ) → i < length ps → f (nth ps i) ≤ bound) → most ps ≤ bound
  most_all [] bound h = omega (arith, none)
  most_all (p ∷ ps) bound h = omega (arith, more p ps, h 0 (omega arith), most_all ps bound (λ i k. h (suc i) (omega arith)))

pub begins_length : (u a : List ℕ) → begins u a ≡ true → length u ≤ length a
unfolding begins
begins_length [] a b = omega arith
begins_length (x ∷ u) [] b = never b
begins_length (x ∷ u) (y ∷ a) b = omega (arith, begins_length u a (begins_cons x y u a b).1)

common_comm : (a b : List ℕ) → common a b ≡ common b a
unfolding common
common_comm [] [] = refl
common_comm [] (y ∷ b) = refl
common_comm (x ∷ a) [] = refl
common_comm (x ∷ a) (y ∷ b) = go (eqb x y) refl (common_comm a b)
  where
    go : (t : Bool) → eqb x y ≡ t → common a b ≡ common b a → cond (eqb x y) (suc (common a b)) 0 ≡ cond (eqb y x) (suc (common b a)) 0
    go true e next = rw (e, eq-eqb y x (sym (eqb-true x y e)), next)
    go false e next = rw (e, ne_eqb y x (λ z. eqb-false x y e (sym z)))

-- a beginning of one list begins another where the two share as much
pub begins_shared : (u a b : List ℕ) → begins u a ≡ true → begins u b ≡ leb (length u) (common a b)
unfolding begins common
begins_shared [] a b p = sym (leb-zero (common a b))
begins_shared (x ∷ u) [] b p = never p
begins_shared (x ∷ u) (y ∷ a) [] p = sym (leb-suc-zero (length u))
begins_shared (x ∷ u) (y ∷ a) (z ∷ b) p = let q = begins_cons x y u a p in rw q.0 (go (eqb y z) (begins_shared u a b q.1))
  where
    go : (t : Bool) → begins u b ≡ leb (length u) (common a b) → (t && begins u b) ≡ leb (suc (length u)) (cond t (suc (common a b)) 0)
    go true next = next ∙ sym (leb-suc-suc (length u) (common a b))
    go false next = sym (leb-suc-zero (length u))

pub begins_above : (u above own : List ℕ) → begins u own ≡ true → begins u above ≡ leb (length u) (common above own)
begins_above u above own b = begins_shared u own above b ∙ ap (leb (length u)) (common_comm own above)

-- two lists go on alike within what they share
pub common_next : (a b : List ℕ) (m : ℕ) → m < common a b → get_or a m 0 ≡ get_or b m 0
unfolding common
common_next [] b m h = absurd (omega arith)
common_next (x ∷ a) [] m h = absurd (omega arith)
common_next (x ∷ a) (y ∷ b) m h = go (eqb x y) refl m h (common_next a b)
  where
    go : (t : Bool) → eqb x y ≡ t → (m : ℕ) → m < cond t (suc (common a b)) 0 → ((m : ℕ) → m < common a b → get_or a m 0 ≡ get_or b m 0) → get_or (x ∷ a) m 0 ≡ get_or (y ∷ b) m 0
    go true e zero k next = eqb-true x y e
    go true e (suc m) k next = next m (omega arith)
    go false e m k next = absurd (omega arith)

-- a beginning and one symbol more
pub begins_snoc : (u a : List ℕ) (s : ℕ) → 1 ≤ s → begins u a ≡ true → get_or a (length u) 0 ≡ s → begins (u ++ (s ∷ [])) a ≡ true
unfolding begins
begins_snoc [] [] s h b e = absurd (omega arith)
begins_snoc [] (y ∷ a) s h b e = rw (e, eq-eqb s s refl)
begins_snoc (x ∷ u) [] s h b e = never b
begins_snoc (x ∷ u) (y ∷ a) s h b e = let p = begins_cons x y u a b in rw p.0 (begins_more y (u ++ (s ∷ [])) a (begins_snoc u a s h p.1 e))

pub begins_init : (u w a : List ℕ) → begins (u ++ w) a ≡ true → begins u a ≡ true
unfolding begins
begins_init [] w a b = refl
begins_init (x ∷ u) w [] b = never b
begins_init (x ∷ u) w (y ∷ a) b = let p = begins_cons x y (u ++ w) a b in rw p.0 (begins_more y u a (begins_init u w a p.1))

pub begins_next : (u a : List ℕ) (s : ℕ) → begins (u ++ (s ∷ [])) a ≡ true → get_or a (length u) 0 ≡ s
unfolding begins
begins_next [] [] s b = never b
begins_next [] (y ∷ a) s b = let p = begins_cons s y [] a b in omega (arith, p.0)
begins_next (x ∷ u) [] s b = never b
begins_next (x ∷ u) (y ∷ a) s b = begins_next u a s (begins_cons x y (u ++ (s ∷ [])) a b).1

-- a list's first symbols begin it
pub begins_take : (m : ℕ) (a : List ℕ) → begins (take m a) a ≡ true
unfolding begins
begins_take zero a = refl
begins_take (suc m) [] = refl
begins_take (suc m) (x ∷ a) = begins_more x (take m a) a (begins_take m a)

pub take_begins : (u a : List ℕ) → begins u a ≡ true → take (length u) a ≡ u
unfolding begins
take_begins [] a b = refl
take_begins (x ∷ u) [] b = never b
take_begins (x ∷ u) (y ∷ a) b = let p = begins_cons x y u a b in rw (p.0, take_begins u a p.1)

-- a beginning that is no shorter is the whole
pub begins_whole : (u a : List ℕ) → begins u a ≡ true → length a ≤ length u → a ≡ u
begins_whole u a b h = sym (take_all (length u) a h) ∙ take_begins u a b

-- a string's symbols are 1 to 28
pub alphabet_first : (s : ℕ) (u : List ℕ) → all_symbols (s ∷ u) ≡ true → (1 ≤ s) × (s ≤ symbol_limit)
unfolding all_symbols
alphabet_first s u a = let p = both (leb 1 s && leb s symbol_limit) (all_symbols u) a in (range_low 1 symbol_limit s p.0, range_high 1 symbol_limit s p.0)

pub alphabet_most : (u : List ℕ) (m : ℕ) → all_symbols u ≡ true → get_or u m 0 ≤ symbol_limit
alphabet_most [] m a = omega arith
alphabet_most (s ∷ u) zero a = (alphabet_first s u a).1
alphabet_most (s ∷ u) (suc m) a = alphabet_most u m (alphabet_rest s u a)

pub alphabet_snoc : (u : List ℕ) (s : ℕ) → all_symbols u ≡ true → 1 ≤ s → s ≤ symbol_limit → all_symbols (u ++ (s ∷ [])) ≡ true
unfolding all_symbols
alphabet_snoc [] s a h k = rw (le-leb 1 s h, le-leb s symbol_limit k)
alphabet_snoc (x ∷ u) s a h k = let p = both (leb 1 x && leb x symbol_limit) (all_symbols u) a in rw p.0 (alphabet_snoc u s p.1 h k)

-- a string with one symbol more
infixl 25 ◌▸◌
abbrev pub ◌▸◌ : List ℕ → ℕ → List ℕ
u ▸ s = u ++ (s ∷ [])

-- a string with its last symbol apart
pub record Ended (u : List ℕ) : Type 0 where
  pub front : List ℕ
  pub last : ℕ
  pub same : u ≡ front ▸ last

pub ended : (x : ℕ) (u : List ℕ) → Ended (x ∷ u)
ended x [] = record { front = []; last = x; same = refl }
ended x (y ∷ u) = let e = ended y u in record { front = x ∷ e.front; last = e.last; same = ap (λ (v : List ℕ). x ∷ v) e.same }

pub snoc_length : (u : List ℕ) (s : ℕ) → length (u ▸ s) ≡ suc (length u)
snoc_length u s = length-append u (s ∷ []) ∙ omega arith

pub length_none : (u : List ℕ) → length u ≤ 0 → u ≡ []
length_none [] h = refl
length_none (x ∷ u) h = absurd (omega arith)

-- the last symbol of a string is one, and so are those before it
pub alphabet_last : (u : List ℕ) (s : ℕ) → all_symbols (u ▸ s) ≡ true → (1 ≤ s) × (s ≤ symbol_limit) × (all_symbols u ≡ true)
unfolding all_symbols
alphabet_last [] s a = go (leb 1 s) refl (leb s symbol_limit) refl a
  where
    go : (x : Bool) → leb 1 s ≡ x → (y : Bool) → leb s symbol_limit ≡ y → ((x && y) && true) ≡ true → (1 ≤ s) × (s ≤ symbol_limit) × (true ≡ true)
    go true p true q e = (leb-true 1 s p, leb-true s symbol_limit q, refl)
    go true p false q e = never e
    go false p y q e = never e
alphabet_last (x ∷ u) s a = go (leb 1 x && leb x symbol_limit) a (alphabet_last u s)
  where
    go : (z : Bool) → (z && all_symbols (u ▸ s)) ≡ true → (all_symbols (u ▸ s) ≡ true → (1 ≤ s) × (s ≤ symbol_limit) × (all_symbols u ≡ true))
        → (1 ≤ s) × (s ≤ symbol_limit) × ((z && all_symbols u) ≡ true)
    go true e next = next e
    go false e next = never e

-- one symbol more
pub begins_further : (w : List ℕ) (s : ℕ) (p : List ℕ) → 1 ≤ s → begins (w ▸ s) p ≡ (begins w p && eqb (get_or p (length w) 0) s)
unfolding begins
begins_further [] s [] h = sym (ne_eqb 0 s (λ e. omega (arith, e)))
begins_further [] s (y ∷ p) h = go (ℕ_discrete s y)
  where
    go : Dec (s ≡ y) → (eqb s y && true) ≡ eqb y s
    go (yes e) = rw (eq-eqb s y e, eq-eqb y s (sym e))
    go (no d) = rw (ne_eqb s y d, ne_eqb y s (λ e. d (sym e)))
begins_further (x ∷ w) s [] h = refl
begins_further (x ∷ w) s (y ∷ p) h = go (eqb x y) (begins_further w s p h)
  where
    go : (t : Bool) → begins (w ▸ s) p ≡ (begins w p && eqb (get_or p (length w) 0) s) → (t && begins (w ▸ s) p) ≡ ((t && begins w p) && eqb (get_or p (length w) 0) s)
    go true next = next
    go false next = refl
