-- The table goes on behind a string as the list does, exactly where it goes on with none of the symbols that the list passes over.
use Prim.Native.Nat.{ℕ, zero, suc, ◌+◌, ◌-◌, ◌≤◌, ◌<◌}
use mathlib.Core.Bool.{Bool, true, false}
use mathlib.Core.List.{List, [], ◌∷◌, ◌++◌}
use mathlib.Core.Logic.{◌↔◌}
use mathlib.Core.Path.{◌≡◌, refl, sym, ◌∙◌}
use native.Mathlib.Decide.{dec_lt}
use native.Mathlib.Omega.{arith}
use borrow.Author.Tests.{lt-leb}
use lib.ListN.{length, get_or, length-append, get_or-eq_default}
use Rattle.base.specs.Limits.{symbol_limit}
use Rattle.base.proofs.Lists.{never}
use Rattle.liang.specs.Patterns.{Pattern}
use Rattle.liang.specs.Levels.{begins}
use Rattle.patterns.specs.Common.{common}
use Rattle.trie.specs.Paths.{along}
use Rattle.patterns.specs.Strings.{Beginning, no_pattern, nth, Sorted}
use Rattle.rightness.specs.Test.{is_hit}
use Rattle.patterns.proofs.Strings.{begins_above, begins_snoc, begins_init, begins_next}
use Rattle.patterns.proofs.Sorted.{above, New, new_at, next_at, stand_together, next_ascends}
use Rattle.decision.proofs.Nodes.{NoneOn, next_of, Passed}

module _ (patterns : List Pattern) (cells : List ℕ) (root : ℕ) where
  -- "every beginning is a path and every path is one", one symbol behind u
  abbrev pub Alike : List ℕ → Type 0
  Alike u = (s : ℕ) → 1 ≤ s → s ≤ symbol_limit → (is_hit (along cells root (u ++ (s ∷ []))) ≡ true) ↔ Beginning patterns (u ++ (s ∷ []))

  -- what the pattern at i passes over behind u
  abbrev PassedAt : List ℕ → ℕ → Type 0
  PassedAt u i = Passed cells root u (above [] patterns i) (nth patterns i).symbols (nth patterns (suc i)).symbols

  -- and the list's end, at the root
  abbrev pub Ended : Type 0
  Ended = NoneOn cells root [] (get_or (above [] patterns (length patterns)) 0 0) (suc symbol_limit)

  -- the list's last pattern is the last that has u; for the root the list's end says so
  over_last : Ended → (u : List ℕ) (i : ℕ) → suc i ≡ length patterns → PassedAt u i → NoneOn cells root u (next_at patterns u i) (suc symbol_limit)
  unfolding begins
  over_last ended [] i e p = rw (← e) at ended
  over_last ended (x ∷ u) i e p = let h : length patterns ≤ suc i = omega arith in p.over (rw (get_or-eq_default patterns no_pattern h))

  -- A symbol with which the table goes on behind u: from the first pattern with u on, it is met or lies still higher.
  module _ (ended : Ended) (u : List ℕ) (passed : (i : ℕ) → i < length patterns → begins u (nth patterns i).symbols ≡ true → PassedAt u i) (s : ℕ) (most : s ≤ symbol_limit)
      (hit : is_hit (along cells root (u ++ (s ∷ []))) ≡ true) where
    turn : (i : ℕ) → i < length patterns → begins u (nth patterns i).symbols ≡ true → next_of u (above [] patterns i) < s
        → (next_at patterns u i < s → Beginning patterns (u ++ (s ∷ []))) → Beginning patterns (u ++ (s ∷ []))
    turn i h b l later = go (dec_lt (next_at patterns u i) s) (dec_lt s (next_at patterns u i))
      where
        go : Dec (next_at patterns u i < s) → Dec (s < next_at patterns u i) → Beginning patterns (u ++ (s ∷ []))
        go (yes p) d = later p
        go (no p) (yes q) = absurd ((passed i h b).under s l q hit)
        go (no p) (no q) =
            record { some = omega (arith, length-append u (s ∷ [])); at = i; within = h; stands = begins_snoc u (nth patterns i).symbols s (omega arith) b (omega arith) }

    climb : (k i : ℕ) → i + suc k ≡ length patterns → begins u (nth patterns i).symbols ≡ true → next_of u (above [] patterns i) < s → Beginning patterns (u ++ (s ∷ []))
    climb zero i e b l = turn i (omega arith) b l (λ p. absurd (over_last ended u i (omega arith) (passed i (omega arith) b) s p (omega arith) hit))
    climb (suc k) i e b l = turn i (omega arith) b l (λ p. go p (begins u (nth patterns (suc i)).symbols) refl (climb k (suc i) (omega arith)))
      where
        go : next_at patterns u i < s → (z : Bool) → begins u (nth patterns (suc i)).symbols ≡ z
            → (begins u (nth patterns (suc i)).symbols ≡ true → next_of u (nth patterns i).symbols < s → Beginning patterns (u ++ (s ∷ []))) → Beginning patterns (u ++ (s ∷ []))
        go p true q further = further q (rw b p)
        go p false q further = absurd ((passed i (omega arith) b).over q s p (omega arith) hit)

    climb_new : 1 ≤ s → (i : ℕ) × New patterns u i → Beginning patterns (u ++ (s ∷ []))
    climb_new h (i, n) =
        let e : i + suc (length patterns - suc i) ≡ length patterns = omega (arith, n.within) in
        climb (length patterns - suc i) i e n.stands (rw fresh h)
      where
        fresh : begins u (above [] patterns i) ≡ false
        fresh = begins_above u (above [] patterns i) (nth patterns i).symbols n.stands ∙ lt-leb (length u) (common (above [] patterns i) (nth patterns i).symbols) n.fresh

  -- so it is met at last
  pub passed_only : Ended → (u : List ℕ) → (0 < length u → Beginning patterns u) → ((i : ℕ) → i < length patterns → begins u (nth patterns i).symbols ≡ true → PassedAt u i)
      → (s : ℕ) → 1 ≤ s → s ≤ symbol_limit → is_hit (along cells root (u ++ (s ∷ []))) ≡ true → Beginning patterns (u ++ (s ∷ []))
  unfolding begins
  passed_only ended [] b passed s h k t = go (length patterns) refl
    where
      go : (n : ℕ) → length patterns ≡ n → Beginning patterns (s ∷ [])
      go zero e = absurd ((rw e at ended) s h (omega arith) t)
      go (suc n) e = climb ended [] passed s k t n 0 (omega arith) refl h
  passed_only ended (x ∷ u) b passed s h k t =
      let c = b (omega arith) in
      climb_new ended (x ∷ u) passed s k t h (new_at patterns (x ∷ u) c.some c.at c.within c.stands)

  -- Where the table goes on as a sorted list does, it goes on with no symbol that the list passes over: the pattern that goes on with
  -- it would have no place.
  module _ (sorted : Sorted patterns) (u : List ℕ) (alike : Alike u) where
    record Goes (s : ℕ) : Type 0 where
      at : ℕ
      within : at < length patterns
      has : begins u (nth patterns at).symbols ≡ true
      next : next_at patterns u at ≡ s

    goes : (s : ℕ) → 1 ≤ s → s ≤ symbol_limit → is_hit (along cells root (u ++ (s ∷ []))) ≡ true → Goes s
    goes s h k t =
        let b = (alike s h k).0 t in
        record {
          at = b.at;
          within = b.within;
          has = begins_init u (s ∷ []) (nth patterns b.at).symbols b.stands;
          next = begins_next u (nth patterns b.at).symbols s b.stands;
        }

    above_has : (i : ℕ) → i < length patterns → begins u (nth patterns i).symbols ≡ true → (k : ℕ) → k < i → begins u (nth patterns k).symbols ≡ true
        → begins u (above [] patterns i) ≡ true
    above_has zero h b k l c = absurd (omega arith)
    above_has (suc i) h b k l c = stand_together patterns sorted u k i (suc i) (omega arith) (omega arith) h c b

    above_goes : (i : ℕ) → i ≤ length patterns → begins u (above [] patterns i) ≡ true → (s : ℕ) (g : Goes s) → g.at < i → s ≤ get_or (above [] patterns i) (length u) 0
    above_goes zero h b s g l = absurd (omega arith)
    above_goes (suc i) h b s g l = omega (arith, g.next, next_ascends patterns sorted u g.at i (omega arith) (omega arith) g.has b)

    pub alike_passed : (i : ℕ) → i < length patterns → begins u (nth patterns i).symbols ≡ true → next_at patterns u i ≤ symbol_limit → PassedAt u i
    alike_passed i h b most =
        record {
          under = λ s l k t. under s l k (goes s (omega arith) (omega arith) t);
          over = λ e s l k t. over s l e (goes s (omega arith) (omega arith) t);
        }
      where
        under : (s : ℕ) → next_of u (above [] patterns i) < s → s < next_at patterns u i → Goes s → ⊥
        under s l k g = go (dec_lt g.at i)
          where
            go : Dec (g.at < i) → ⊥
            go (yes m) =
                let t = above_has i h b g.at m g.has in
                omega (arith, rw t at l, above_goes i (omega arith) t s g m)
            go (no m) = omega (arith, g.next, next_ascends patterns sorted u i g.at (omega arith) g.within b g.has)

        over : (s : ℕ) → next_at patterns u i < s → begins u (nth patterns (suc i)).symbols ≡ false → Goes s → ⊥
        over s l e g = go (dec_lt i g.at)
          where
            go : Dec (i < g.at) → ⊥
            go (yes k) = never (sym e ∙ stand_together patterns sorted u i (suc i) g.at (omega arith) (omega arith) g.within b g.has)
            go (no k) = omega (arith, g.next, next_ascends patterns sorted u g.at i (omega arith) h g.has b)

  pub alike_ended : Sorted patterns → Alike [] → Ended
  unfolding begins
  alike_ended sorted alike s l k t =
      let g = goes sorted [] alike s (omega arith) (omega arith) t in
      omega (arith, above_goes sorted [] alike (length patterns) (omega arith) refl s g g.within)
