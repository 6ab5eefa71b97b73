-- In a sorted list the patterns with one beginning stand together and go on in order, the beginning itself first. So the search for
-- continuations from the first of them on finds them all.
use Prim.Native.Nat.{ℕ, zero, suc, ◌≤◌, ◌<◌}
use mathlib.Core.Bool.{Bool, true, false, ◌&&◌, ◌||◌}
use mathlib.Core.List.{List, [], ◌∷◌}
use mathlib.Core.Logic.{◌⊎◌, inl, inr}
use mathlib.Core.Path.{◌≡◌, refl, sym, ◌∙◌, ap}
use native.Mathlib.Decide.{dec_lt}
use native.Mathlib.Omega.{arith}
use borrow.Author.Tests.{le-leb}
use lib.Dec.{eqb}
use lib.ListN.{length, get_or}
use Rattle.base.proofs.Lists.{never}
use Rattle.lines.specs.Order.{before}
use Rattle.lines.proofs.Order.{first_differs}
use Rattle.liang.specs.Patterns.{Pattern}
use Rattle.liang.specs.Levels.{begins}
use Rattle.patterns.specs.Common.{common}
use Rattle.patterns.specs.Next.{next_in}
use Rattle.patterns.specs.Strings.{nth, Beginning, Sorted}
use Rattle.patterns.proofs.Strings.{begins_cons, begins_more, begins_self, begins_common, begins_shared, begins_above, begins_further, ◌▸◌, snoc_length}

-- nothing stands before its own beginning
begins_first : (u a : List ℕ) → begins u a ≡ true → before a u ≡ true → ⊥
unfolding begins before
begins_first [] [] b l = never l
begins_first [] (y ∷ a) b l = never l
begins_first (x ∷ u) [] b l = never b
begins_first (x ∷ u) (y ∷ a) b l = go (begins_cons x y u a b) (first_differs y x (before a u) l) (begins_first u a)
  where
    go : (x ≡ y) × (begins u a ≡ true) → (y < x) ⊎ ((y ≡ x) × (before a u ≡ true)) → (begins u a ≡ true → before a u ≡ true → ⊥) → ⊥
    go p (inl k) next = omega (arith, p.0)
    go p (inr q) next = next p.1 q.1

-- what begins two lists begins every one between
pub begins_between : (u a b c : List ℕ) → before a b ≡ true → before b c ≡ true → begins u a ≡ true → begins u c ≡ true → begins u b ≡ true
unfolding begins before
begins_between [] a b c k l p q = refl
begins_between (x ∷ u) [] b c k l p q = never p
begins_between (x ∷ u) (y ∷ a) [] c k l p q = never k
begins_between (x ∷ u) (y ∷ a) (z ∷ b) [] k l p q = never q
begins_between (x ∷ u) (y ∷ a) (z ∷ b) (w ∷ c) k l p q =
    go (begins_cons x y u a p) (begins_cons x w u c q) (first_differs y z (before a b) k) (first_differs z w (before b c) l) (begins_between u a b c)
  where
    go : (x ≡ y) × (begins u a ≡ true) → (x ≡ w) × (begins u c ≡ true) → (y < z) ⊎ ((y ≡ z) × (before a b ≡ true)) → (z < w) ⊎ ((z ≡ w) × (before b c ≡ true))
        → (before a b ≡ true → before b c ≡ true → begins u a ≡ true → begins u c ≡ true → begins u b ≡ true)
        → begins (x ∷ u) (z ∷ b) ≡ true
    go d e (inl f) (inl g) next = absurd (omega (arith, d.0, e.0))
    go d e (inl f) (inr g) next = absurd (omega (arith, d.0, e.0, g.0))
    go d e (inr f) (inl g) next = absurd (omega (arith, d.0, e.0, f.0))
    go d e (inr f) (inr g) next = rw (d.0, f.0) (begins_more z u b (next f.1 g.1 d.1 e.1))

-- of two lists with one beginning the later goes on with no lower symbol
begins_order : (u a b : List ℕ) → begins u a ≡ true → begins u b ≡ true → before a b ≡ true → get_or a (length u) 0 ≤ get_or b (length u) 0
unfolding begins before
begins_order [] [] b p q l = omega arith
begins_order [] (y ∷ a) [] p q l = never l
begins_order [] (y ∷ a) (z ∷ b) p q l = go (first_differs y z (before a b) l)
  where
    go : (y < z) ⊎ ((y ≡ z) × (before a b ≡ true)) → y ≤ z
    go (inl h) = omega arith
    go (inr h) = omega (arith, h.0)
begins_order (x ∷ u) [] b p q l = never p
begins_order (x ∷ u) (y ∷ a) [] p q l = never q
begins_order (x ∷ u) (y ∷ a) (z ∷ b) p q l = go (begins_cons x y u a p) (begins_cons x z u b q) (first_differs y z (before a b) l) (begins_order u a b)
  where
    go : (x ≡ y) × (begins u a ≡ true) → (x ≡ z) × (begins u b ≡ true) → (y < z) ⊎ ((y ≡ z) × (before a b ≡ true))
        → (begins u a ≡ true → begins u b ≡ true → before a b ≡ true → get_or a (length u) 0 ≤ get_or b (length u) 0) → get_or a (length u) 0 ≤ get_or b (length u) 0
    go d e (inl h) next = absurd (omega (arith, d.0, e.0))
    go d e (inr h) next = next d.1 e.1 h.1

-- what stands above a pattern: the symbols of the one before it, or `top`
abbrev pub above : List ℕ → List Pattern → ℕ → List ℕ
above top patterns zero = top
above top patterns (suc i) = (nth patterns i).symbols

-- a beginning of a pattern that the one above it has not
pub record New (patterns : List Pattern) (u : List ℕ) (i : ℕ) : Type 0 where
  pub within : i < length patterns
  pub stands : begins u (nth patterns i).symbols ≡ true
  pub fresh : common (above [] patterns i) (nth patterns i).symbols < length u

-- every beginning is new somewhere: where it is not, the pattern above has it
pub new_at : (patterns : List Pattern) (u : List ℕ) → 0 < length u → (k : ℕ) → k < length patterns → begins u (nth patterns k).symbols ≡ true → (i : ℕ) × New patterns u i
unfolding common
new_at patterns u some zero h b = (0, record { within = h; stands = b; fresh = some })
new_at patterns u some (suc k) h b =
    go (dec_lt (common (nth patterns k).symbols (nth patterns (suc k)).symbols) (length u)) (new_at patterns u some k (omega arith))
  where
    go : Dec (common (nth patterns k).symbols (nth patterns (suc k)).symbols < length u) → (begins u (nth patterns k).symbols ≡ true → (i : ℕ) × New patterns u i) → (i : ℕ) × New patterns u i
    go (yes f) next = (suc k, record { within = h; stands = b; fresh = f })
    go (no f) next = next (begins_above u (nth patterns k).symbols (nth patterns (suc k)).symbols b ∙ le-leb (length u) (common (nth patterns k).symbols (nth patterns (suc k)).symbols) (omega arith))

-- with which symbol the pattern at i goes on behind u, 0 where it ends there
abbrev pub next_at : List Pattern → List ℕ → ℕ → ℕ
next_at patterns u i = get_or (nth patterns i).symbols (length u) 0

module _ (patterns : List Pattern) (sorted : Sorted patterns) (u : List ℕ) where
  pub stand_together : (i j k : ℕ) → i ≤ j → j ≤ k → k < length patterns → begins u (nth patterns i).symbols ≡ true → begins u (nth patterns k).symbols ≡ true
      → begins u (nth patterns j).symbols ≡ true
  stand_together i j k p q h a c = go (dec_lt i j) (dec_lt j k)
    where
      go : Dec (i < j) → Dec (j < k) → begins u (nth patterns j).symbols ≡ true
      go (yes l) (yes m) =
          begins_between u (nth patterns i).symbols (nth patterns j).symbols (nth patterns k).symbols (sorted i j l (omega arith)) (sorted j k m h) a c
      go (yes l) (no m) = let e : k ≡ j = omega arith in rw (← e) c
      go (no l) d = let e : i ≡ j = omega arith in rw (← e) a

  -- and they go on in order
  pub next_ascends : (i k : ℕ) → i ≤ k → k < length patterns → begins u (nth patterns i).symbols ≡ true → begins u (nth patterns k).symbols ≡ true
      → next_at patterns u i ≤ next_at patterns u k
  next_ascends i k l h a c = go (dec_lt i k)
    where
      go : Dec (i < k) → next_at patterns u i ≤ next_at patterns u k
      go (yes m) = begins_order u (nth patterns i).symbols (nth patterns k).symbols a c (sorted i k m h)
      go (no m) = let e : i ≡ k = omega arith in rw e (omega arith)

  -- where a beginning is new, no pattern has had it
  new_first : (i : ℕ) → New patterns u i → (k : ℕ) → k < length patterns → begins u (nth patterns k).symbols ≡ true → i ≤ k
  new_first zero n k h b = omega arith
  new_first (suc i) n k h b = go (dec_lt k (suc i))
    where
      go : Dec (k < suc i) → suc i ≤ k
      go (yes l) =
          let t = stand_together k i (suc i) (omega arith) (omega arith) n.within b n.stands in
          let c = begins_common u (nth patterns i).symbols (nth patterns (suc i)).symbols t n.stands in
          absurd (omega (arith, n.fresh))
      go (no l) = omega arith

  -- a pattern that is the string itself is the first that has it
  pub whole_first : (i j : ℕ) → New patterns u i → j < length patterns → (nth patterns j).symbols ≡ u → j ≡ i
  whole_first i j n h e = go (dec_lt i j)
    where
      go : Dec (i < j) → j ≡ i
      go (yes l) = absurd (begins_first u (nth patterns i).symbols n.stands (rw e at (sorted i j l h)))
      go (no l) = omega (arith, new_first i n j h (rw e (begins_self u)))

-- behind a string that goes on, one with the same beginning goes on as well
pub goes_on_lem : (w a b : List ℕ) → begins w a ≡ true → begins w b ≡ true → before a b ≡ true → length w < length a → length w < length b
unfolding begins before
goes_on_lem [] [] b p q l h = absurd (omega arith)
goes_on_lem [] (y ∷ a) [] p q l h = never l
goes_on_lem [] (y ∷ a) (z ∷ b) p q l h = omega arith
goes_on_lem (x ∷ w) [] b p q l h = never p
goes_on_lem (x ∷ w) (y ∷ a) [] p q l h = never q
goes_on_lem (x ∷ w) (y ∷ a) (z ∷ b) p q l h = go (begins_cons x y w a p) (begins_cons x z w b q) (first_differs y z (before a b) l) (goes_on_lem w a b)
  where
    go : (x ≡ y) × (begins w a ≡ true) → (x ≡ z) × (begins w b ≡ true) → (y < z) ⊎ ((y ≡ z) × (before a b ≡ true))
        → (begins w a ≡ true → begins w b ≡ true → before a b ≡ true → length w < length a → length w < length b) → suc (length w) < suc (length b)
    go e f (inl k) next = absurd (omega (arith, e.0, f.0))
    go e f (inr k) next = omega (arith, next e.1 f.1 k.1 (omega arith))

-- the search for continuations, from the first pattern with the beginning on
module _ (w own : List ℕ) (s : ℕ) (stands : begins w own ≡ true) (some : 1 ≤ s) where
  next_turn : (p : Pattern) (rest : List Pattern)
      → next_in (length w) own (p ∷ rest) s ≡ (begins w p.symbols && (eqb (get_or p.symbols (length w) 0) s || next_in (length w) own rest s))
  unfolding next_in
  next_turn p rest = ap (λ (z : Bool). z && (eqb (get_or p.symbols (length w) 0) s || next_in (length w) own rest s)) (sym (begins_shared w own p.symbols stands))

  -- nothing else is found
  pub next_sound : (ps : List Pattern) → next_in (length w) own ps s ≡ true → Beginning ps (w ▸ s)
  unfolding next_in
  next_sound [] e = never e
  next_sound (p ∷ rest) e =
      go (begins w p.symbols) refl (eqb (get_or p.symbols (length w) 0) s) refl (sym (next_turn p rest) ∙ e) (next_sound rest)
    where
      go : (a : Bool) → begins w p.symbols ≡ a → (b : Bool) → eqb (get_or p.symbols (length w) 0) s ≡ b → (a && (b || next_in (length w) own rest s)) ≡ true
          → (next_in (length w) own rest s ≡ true → Beginning rest (w ▸ s)) → Beginning (p ∷ rest) (w ▸ s)
      go true h true k q next = record { some = omega (arith, snoc_length w s); at = 0; within = omega arith; stands = begins_further w s p.symbols some ∙ rw (h, k) }
      go true h false k q next = let c = next q in record { some = c.some; at = suc c.at; within = omega (arith, c.within); stands = c.stands }
      go false h b k q next = never q

  -- and everything is
  pub next_complete : (ps : List Pattern) (k : ℕ) → k < length ps → ((i : ℕ) → i ≤ k → begins w (nth ps i).symbols ≡ true) → begins (w ▸ s) (nth ps k).symbols ≡ true
      → next_in (length w) own ps s ≡ true
  next_complete [] k h all e = absurd (omega arith)
  next_complete (p ∷ rest) zero h all e =
      let f = all 0 (omega arith) in
      let g : eqb (get_or p.symbols (length w) 0) s ≡ true = rw f at (sym (begins_further w s p.symbols some) ∙ e) in
      next_turn p rest ∙ rw (f, g)
  next_complete (p ∷ rest) (suc k) h all e =
      next_turn p rest ∙ rw (all 0 (omega arith), next_complete rest k (omega arith) (λ i l. all (suc i) (omega arith)) e) (go (eqb (get_or p.symbols (length w) 0) s))
    where
      go : (b : Bool) → (b || true) ≡ true
      go true = refl
      go false = refl
