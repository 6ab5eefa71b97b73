-- The paths in their order: strictly ascending, and exactly those behind which a pattern goes on.
use Prim.Native.Nat.{ℕ, zero, suc, ◌+◌, ◌-◌, ◌≤◌, ◌<◌}
use mathlib.Core.Bool.{Bool, true, false, cond, ◌&&◌, ◌||◌}
use mathlib.Core.List.{List, [], ◌∷◌, ◌++◌}
use mathlib.Core.Logic.{◌⊎◌, inl, inr}
use mathlib.Core.Path.{◌≡◌, refl, sym, ◌∙◌, ap, subst}
use native.Mathlib.Decide.{ℕ_discrete, dec_lt}
use native.Mathlib.Omega.{arith}
use borrow.Author.Tests.{lt-ltb, eq-eqb}
use lib.Dec.{ltb, eqb}
use lib.ListN.{length, get_or, take, drop, length-append, drop_of_length-le, get_or-append}
use lib.Seq.{drop-cons, take-suc, length-take-le, get_or-append-add}
use Rattle.base.proofs.Lists.{never}
use Rattle.lines.specs.Order.{before}
use Rattle.lines.proofs.Order.{first_differs}
use Rattle.liang.specs.Patterns.{Pattern}
use Rattle.liang.specs.Levels.{begins}
use Rattle.patterns.specs.Strings.{nth, no_pattern, Sorted}
use Rattle.patterns.proofs.Strings.{most_each, ◌▸◌, snoc_length, begins_take, begins_length, take_begins, begins_init}
use Rattle.patterns.specs.Next.{opens}
use Rattle.patterns.proofs.Sorted.{above}
use Rattle.fit_trie.proofs.Opened.{opens_says, opens_not, opens_first}
use Rattle.fit_trie.proofs.Passes.{take_common}
use Rattle.layout.specs.Bases.{goes_on, paths_at, paths_from, longest_length, paths_of}
use Rattle.layout.specs.FirstFit.{Ascends}
use Rattle.layout.proofs.Nodes.{goes_says, line_goes}

-- what holds of every string of a list
abbrev pub Each : List (List ℕ) → (List ℕ → Type 0) → Type 0
Each us P = (i : ℕ) → i < length us → P (get_or us i [])

-- a string of a list
pub record Listed (us : List (List ℕ)) (u : List ℕ) : Type 0 where
  pub at : ℕ
  pub inside : at < length us
  pub same : get_or us at [] ≡ u

abbrev pub Ascending : List (List ℕ) → Type 0
Ascending us = (i j : ℕ) → i < j → j < length us → Ascends (get_or us i []) (get_or us j [])

listed_more : (v : List ℕ) (us : List (List ℕ)) (u : List ℕ) → Listed us u → Listed (v ∷ us) u
listed_more v us u l = record { at = suc l.at; inside = omega (arith, l.inside); same = l.same }

-- two lists, one behind the other
module _ (us vs : List (List ℕ)) where
  front_at : (i : ℕ) → i < length us → get_or (us ++ vs) i [] ≡ get_or us i []
  front_at i h = get_or-append us vs [] i h

  behind_at : (i : ℕ) → length us ≤ i → get_or (us ++ vs) i [] ≡ get_or vs (i - length us) []
  behind_at i h = let e : i ≡ length us + (i - length us) = omega arith in ap (λ (j : ℕ). get_or (us ++ vs) j []) e ∙ get_or-append-add us vs (i - length us) []

  listed_front : (u : List ℕ) → Listed us u → Listed (us ++ vs) u
  listed_front u l = record { at = l.at; inside = omega (arith, l.inside, length-append us vs); same = front_at l.at l.inside ∙ l.same }

  listed_behind : (u : List ℕ) → Listed vs u → Listed (us ++ vs) u
  listed_behind u l = record { at = length us + l.at; inside = omega (arith, l.inside, length-append us vs); same = get_or-append-add us vs l.at [] ∙ l.same }

  each_append : (P : List ℕ → Type 0) → Each us P → Each vs P → Each (us ++ vs) P
  each_append P f g i h = go (dec_lt i (length us))
    where
      go : Dec (i < length us) → P (get_or (us ++ vs) i [])
      go (yes l) = subst P (sym (front_at i l)) (f i l)
      go (no l) = subst P (sym (behind_at i (omega arith))) (g (i - length us) (omega (arith, length-append us vs)))

  ascending_append : Ascending us → Ascending vs → Each us (λ u. Each vs (Ascends u)) → Ascending (us ++ vs)
  ascending_append f g all i j l h = go (dec_lt i (length us)) (dec_lt j (length us))
    where
      size : length (us ++ vs) ≡ length us + length vs
      size = length-append us vs

      go : Dec (i < length us) → Dec (j < length us) → Ascends (get_or (us ++ vs) i []) (get_or (us ++ vs) j [])
      go (yes a) (yes b) = subst (λ (u : List ℕ). Ascends u (get_or (us ++ vs) j [])) (sym (front_at i a)) (subst (Ascends (get_or us i [])) (sym (front_at j b)) (f i j l b))
      go (yes a) (no b) =
          subst (λ (u : List ℕ). Ascends u (get_or (us ++ vs) j [])) (sym (front_at i a))
          (subst (Ascends (get_or us i [])) (sym (behind_at j (omega arith))) (all i a (j - length us) (omega (arith, size))))
      go (no a) (yes b) = absurd (omega arith)
      go (no a) (no b) =
          subst (λ (u : List ℕ). Ascends u (get_or (us ++ vs) j [])) (sym (behind_at i (omega arith)))
          (subst (Ascends (get_or vs (i - length us) [])) (sym (behind_at j (omega arith))) (g (i - length us) (j - length us) (omega arith) (omega (arith, size))))

-- of two strings in order, so long, the first symbols are in order too where they differ
take_before : (m : ℕ) (a b : List ℕ) → m ≤ length a → m ≤ length b → before a b ≡ true → (begins (take m b) a ≡ true → ⊥) → before (take m a) (take m b) ≡ true
unfolding before begins
take_before zero a b h k l d = absurd (d refl)
take_before (suc m) [] b h k l d = absurd (omega arith)
take_before (suc m) (x ∷ a) [] h k l d = absurd (omega arith)
take_before (suc m) (x ∷ a) (y ∷ b) h k l d = go (first_differs x y (before a b) l) (take_before m a b (omega arith) (omega arith))
  where
    go : (x < y) ⊎ ((x ≡ y) × (before a b ≡ true)) → (before a b ≡ true → (begins (take m b) a ≡ true → ⊥) → before (take m a) (take m b) ≡ true)
        → (ltb x y || (eqb x y && before (take m a) (take m b))) ≡ true
    go (inl p) next = rw (lt-ltb x y p)
    go (inr p) next = rw (eq-eqb x y p.0, next p.1 (λ e. d (rw (eq-eqb y x (sym p.0)) e))) (either (ltb x y))
      where
        either : (z : Bool) → (z || true) ≡ true
        either true = refl
        either false = refl

module _ (patterns : List Pattern) (sorted : Sorted patterns) where
  abbrev own : ℕ → List ℕ
  own k = (nth patterns k).symbols

  -- the paths of m symbols from pattern k on
  module _ (m : ℕ) where
    abbrev from : ℕ → List (List ℕ)
    from k = paths_at m (above [] patterns k) (drop k patterns)

    abbrev opening : ℕ → Bool
    opening k = opens m (above [] patterns k) (own k)

    from_turn : (k : ℕ) → k < length patterns → from k ≡ cond (opening k) (take m (own k) ∷ from (suc k)) (from (suc k))
    unfolding paths_at
    from_turn k h = ap (paths_at m (above [] patterns k)) (drop-cons patterns k no_pattern h)

    from_end : (k : ℕ) → length patterns ≤ k → from k ≡ []
    unfolding paths_at
    from_end k h = ap (paths_at m (above [] patterns k)) (drop_of_length-le patterns h)

    -- each is opened by a pattern
    record Opens (k : ℕ) (u : List ℕ) : Type 0 where
      at : ℕ
      least : k ≤ at
      within : at < length patterns
      opened : opening at ≡ true
      same : u ≡ take m (own at)

    opens_more : (k : ℕ) (u : List ℕ) → Opens (suc k) u → Opens k u
    opens_more k u o = record { at = o.at; least = omega (arith, o.least); within = o.within; opened = o.opened; same = o.same }

    from_opens : (n k : ℕ) → k + n ≡ length patterns → Each (from k) (Opens k)
    from_opens zero k e = subst (λ (us : List (List ℕ)). Each us (Opens k)) (sym (from_end k (omega arith))) (λ i h. absurd (omega arith))
    from_opens (suc n) k e =
        subst (λ (us : List (List ℕ)). Each us (Opens k)) (sym (from_turn k (omega arith))) (go (opening k) refl (λ i h. opens_more k _ (from_opens n (suc k) (omega arith) i h)))
      where
        go : (z : Bool) → opening k ≡ z → Each (from (suc k)) (Opens k) → Each (cond z (take m (own k) ∷ from (suc k)) (from (suc k))) (Opens k)
        go false p next = next
        go true p next = first
          where
            first : Each (take m (own k) ∷ from (suc k)) (Opens k)
            first zero h = record { at = k; least = omega arith; within = omega arith; opened = p; same = refl }
            first (suc i) h = next i (omega arith)

    long : (k : ℕ) → opening k ≡ true → m < length (own k)
    long k p = (opens_says m (above [] patterns k) (own k) p).0

    size : (k : ℕ) → opening k ≡ true → length (take m (own k)) ≡ m
    size k p = length-take-le m (own k) (omega (arith, long k p))

    -- a later one that is opened comes behind
    opened_order : (j k : ℕ) → j < k → k < length patterns → opening j ≡ true → opening k ≡ true → Ascends (take m (own j)) (take m (own k))
    opened_order j k l h p q =
        inr (
          size j p ∙ sym (size k q),
          take_before m (own j) (own k) (omega (arith, long j p)) (omega (arith, long k q)) (sorted j k l h) (λ b. omega (arith, long j p, opens_first patterns sorted m k h q j l b)),
        )

    from_ascends : (n k : ℕ) → k + n ≡ length patterns → Ascending (from k)
    from_ascends zero k e = subst (λ (us : List (List ℕ)). Ascending us) (sym (from_end k (omega arith))) (λ i j l h. absurd (omega arith))
    from_ascends (suc n) k e = subst (λ (us : List (List ℕ)). Ascending us) (sym (from_turn k (omega arith))) (go (opening k) refl (from_ascends n (suc k) (omega arith)))
      where
        go : (z : Bool) → opening k ≡ z → Ascending (from (suc k)) → Ascending (cond z (take m (own k) ∷ from (suc k)) (from (suc k)))
        go false p next = next
        go true p next = first
          where
            first : Ascending (take m (own k) ∷ from (suc k))
            first zero zero l h = absurd (omega arith)
            first zero (suc j) l h =
                let o = from_opens n (suc k) (omega arith) j (omega arith) in
                subst (λ (u : List ℕ). Ascends (take m (own k)) u) (sym o.same) (opened_order k o.at (omega (arith, o.least)) o.within p o.opened)
            first (suc i) zero l h = absurd (omega arith)
            first (suc i) (suc j) l h = next i j (omega arith) (omega arith)

    from_listed : (n k j : ℕ) → k + n ≡ length patterns → k ≤ j → j < length patterns → opening j ≡ true → Listed (from k) (take m (own j))
    from_listed zero k j e l h p = absurd (omega arith)
    from_listed (suc n) k j e l h p =
        subst (λ (us : List (List ℕ)). Listed us (take m (own j))) (sym (from_turn k (omega arith))) (go (opening k) refl (ℕ_discrete j k) (λ g. from_listed n (suc k) j (omega arith) g h p))
      where
        go : (z : Bool) → opening k ≡ z → Dec (j ≡ k) → (suc k ≤ j → Listed (from (suc k)) (take m (own j))) → Listed (cond z (take m (own k) ∷ from (suc k)) (from (suc k))) (take m (own j))
        go true q (yes g) next = record { at = 0; inside = omega arith; same = ap (λ (i : ℕ). take m (own i)) (sym g) }
        go false q (yes g) next = never (sym q ∙ ap opening (sym g) ∙ p)
        go true q (no g) next = listed_more (take m (own k)) (from (suc k)) (take m (own j)) (next (omega arith))
        go false q (no g) next = next (omega arith)

    -- the first symbols of every longer pattern are listed
    at_listed : (j : ℕ) → j < length patterns → m < length (own j) → Listed (paths_at m [] patterns) (take m (own j))
    at_listed zero h l = go (opening 0) refl
      where
        go : (z : Bool) → opening 0 ≡ z → Listed (paths_at m [] patterns) (take m (own 0))
        go true p = from_listed (length patterns) 0 0 (omega arith) (omega arith) h p
        go false p = absurd (omega (arith, (opens_not m [] (own 0) p l).1))
    at_listed (suc j) h l = go (opening (suc j)) refl (at_listed j (omega arith))
      where
        go : (z : Bool) → opening (suc j) ≡ z → (m < length (own j) → Listed (paths_at m [] patterns) (take m (own j))) → Listed (paths_at m [] patterns) (take m (own (suc j)))
        go true p next = from_listed (length patterns) 0 (suc j) (omega arith) (omega arith) h p
        go false p next =
            let n = opens_not m (own j) (own (suc j)) p l in
            subst (Listed (paths_at m [] patterns)) (take_common m (own j) (own (suc j)) n.0) (next n.1)

    at_size : Each (paths_at m [] patterns) (λ u. length u ≡ m)
    at_size i h = let o = from_opens (length patterns) 0 (omega arith) i h in ap length o.same ∙ size o.at o.opened

    -- a path listed goes on
    at_goes : Each (paths_at m [] patterns) (λ u. (s : ℕ) × (goes_on patterns u s ≡ true))
    at_goes i h =
        let o = from_opens (length patterns) 0 (omega arith) i h in
        let l = long o.at o.opened in
        let b : begins (take m (own o.at) ▸ get_or (own o.at) m 0) (own o.at) ≡ true =
        subst (λ (u : List ℕ). begins u (own o.at) ≡ true) (take-suc (own o.at) m 0 l) (begins_take (suc m) (own o.at)) in (
          get_or (own o.at) m 0,
          ap (λ (u : List ℕ). goes_on patterns u (get_or (own o.at) m 0)) o.same ∙ line_goes (take m (own o.at)) (get_or (own o.at) m 0) patterns o.at o.within b,
        )

  -- n lengths from m on
  from_long : (n m : ℕ) → Each (paths_from m n patterns) (λ u. m ≤ length u)
  unfolding paths_from
  from_long zero m = λ i h. absurd (omega arith)
  from_long (suc n) m =
      each_append (paths_at m [] patterns) (paths_from (suc m) n patterns) (λ u. m ≤ length u) (λ i h. omega (arith, at_size m i h)) (λ i h. omega (arith, from_long n (suc m) i h))

  lengths_ascend : (n m : ℕ) → Ascending (paths_from m n patterns)
  unfolding paths_from
  lengths_ascend zero m = λ i j l h. absurd (omega arith)
  lengths_ascend (suc n) m =
      ascending_append (paths_at m [] patterns) (paths_from (suc m) n patterns) (from_ascends m (length patterns) 0 (omega arith)) (lengths_ascend n (suc m))
      (λ i h j l. inl (omega (arith, at_size m i h, from_long n (suc m) j l)))

  lengths_go : (n m : ℕ) → Each (paths_from m n patterns) (λ u. (s : ℕ) × (goes_on patterns u s ≡ true))
  unfolding paths_from
  lengths_go zero m = λ i h. absurd (omega arith)
  lengths_go (suc n) m = each_append (paths_at m [] patterns) (paths_from (suc m) n patterns) (λ u. (s : ℕ) × (goes_on patterns u s ≡ true)) (at_goes m) (lengths_go n (suc m))

  lengths_listed : (n m l : ℕ) (u : List ℕ) → m ≤ l → l < m + n → Listed (paths_at l [] patterns) u → Listed (paths_from m n patterns) u
  unfolding paths_from
  lengths_listed zero m l u a b w = absurd (omega arith)
  lengths_listed (suc n) m l u a b w = go (ℕ_discrete l m) (lengths_listed n (suc m) l u)
    where
      go : Dec (l ≡ m) → (suc m ≤ l → l < suc m + n → Listed (paths_at l [] patterns) u → Listed (paths_from (suc m) n patterns) u) → Listed (paths_at m [] patterns ++ paths_from (suc m) n patterns) u
      go (yes e) next = listed_front (paths_at m [] patterns) (paths_from (suc m) n patterns) u (subst (λ (k : ℕ). Listed (paths_at k [] patterns) u) e w)
      go (no d) next = listed_behind (paths_at m [] patterns) (paths_from (suc m) n patterns) u (next (omega arith) (omega arith) w)

  longest_each : (j : ℕ) → j < length patterns → length (own j) ≤ longest_length patterns
  unfolding longest_length
  longest_each j h = most_each (λ p. length p.symbols) longest_length refl (λ p ps. refl) patterns j h

  -- "Paths by length, then symbol order"
  pub paths_ascend : Ascending (paths_of patterns)
  unfolding paths_of
  paths_ascend = lengths_ascend (longest_length patterns) 0

  -- a path of the list has a continuation
  pub paths_go : Each (paths_of patterns) (λ u. (s : ℕ) × (goes_on patterns u s ≡ true))
  unfolding paths_of
  paths_go = lengths_go (longest_length patterns) 0

  -- and every one that has is listed
  pub paths_every : (u : List ℕ) (s : ℕ) → goes_on patterns u s ≡ true → Listed (paths_of patterns) u
  unfolding paths_of
  paths_every u s e =
      let b = goes_says patterns u s e in
      let l : length u < length (own b.at) = omega (arith, begins_length (u ▸ s) (own b.at) b.stands, snoc_length u s) in
      let t = take_begins u (own b.at) (begins_init u (s ∷ []) (own b.at) b.stands) in
      lengths_listed (longest_length patterns) 0 (length u) u (omega arith) (omega (arith, l, longest_each b.at b.within))
      (subst (Listed (paths_at (length u) [] patterns)) t (at_listed (length u) b.at b.within l))
