-- What the test of a list's paths asks, string by string.
use Prim.Native.Nat.{ℕ, suc, ◌<◌}
use mathlib.Core.Bool.{true}
use mathlib.Core.List.{List, [], ◌∷◌, ◌++◌}
use mathlib.Core.Path.{◌≡◌, ap}
use native.Mathlib.Decide.{dec_lt}
use native.Mathlib.Omega.{arith}
use lib.ListN.{length}
use Rattle.base.specs.Limits.{pattern_limit}
use Rattle.liang.specs.Patterns.{Pattern}
use Rattle.liang.specs.Levels.{begins}
use Rattle.patterns.specs.Common.{common}
use Rattle.trie.specs.Paths.{along}
use Rattle.patterns.specs.Strings.{Beginning, nth, Shaped, Sorted}
use Rattle.rightness.specs.Right.{Exact}
use Rattle.rightness.specs.Test.{is_hit, paths_test}
use Rattle.patterns.proofs.Strings.{begins_whole, alphabet_most}
use Rattle.patterns.proofs.Sorted.{above, New, new_at, whole_first}
use Rattle.decision.proofs.Loops.{test_exact, exact_test_lem}
use Rattle.decision.proofs.Nodes.{out_of, node_at, none_each, each_none, test_passed, passed_test}
use Rattle.decision.proofs.Follow.{Asked, follow_whole, follow_asked, asked_follow, patterns_each, each_patterns}
use Rattle.decision.proofs.Alike.{Alike, Ended, passed_only, alike_passed, alike_ended}

module _ (patterns : List Pattern) (cells entries : List ℕ) (root : ℕ) where
  -- The demands of the paths' test in no order: every beginning reached, the patterns' outputs exact and all others 0, and behind
  -- each string with fewer than 16 symbols the table goes on as the list does.
  pub record Checked : Type 0 where
    pub hit : (u : List ℕ) → Beginning patterns u → is_hit (along cells root u) ≡ true
    pub exact : (i : ℕ) → i < length patterns → Exact entries (nth patterns i) (out_of (along cells root (nth patterns i).symbols))
    pub silent : (u : List ℕ) → Beginning patterns u → ((i : ℕ) → i < length patterns → (nth patterns i).symbols ≡ u → ⊥) → out_of (along cells root u) ≡ 0
    pub alike : (u : List ℕ) → (0 < length u → Beginning patterns u) → length u < pattern_limit → Alike patterns cells root u

  -- the same pattern by pattern, as the patterns' test asks it of each beginning
  abbrev Asks : Type 0
  Asks = (i : ℕ) → i < length patterns → (u : List ℕ) → begins u (nth patterns i).symbols ≡ true
      → Asked cells root (above [] patterns i) (nth patterns i).symbols (nth patterns (suc i)).symbols (length u) u

  module _ (asks : Asks) where
    asks_hit : (u : List ℕ) → Beginning patterns u → is_hit (along cells root u) ≡ true
    asks_hit u b = (asks b.at b.within u b.stands).reached b.some

    -- a string that is no pattern is shorter than the pattern where it is new, and its output is asked there
    asks_silent : (u : List ℕ) → Beginning patterns u → ((i : ℕ) → i < length patterns → (nth patterns i).symbols ≡ u → ⊥) → out_of (along cells root u) ≡ 0
    asks_silent u b none = go (new_at patterns u b.some b.at b.within b.stands)
      where
        go : (i : ℕ) × New patterns u i → out_of (along cells root u) ≡ 0
        go (i, n) = longer (dec_lt (length u) (length (nth patterns i).symbols))
          where
            longer : Dec (length u < length (nth patterns i).symbols) → out_of (along cells root u) ≡ 0
            longer (yes l) = (asks i n.within u n.stands).silent n.fresh l
            longer (no l) = absurd (none i n.within (begins_whole u (nth patterns i).symbols n.stands (omega arith)))

    asks_alike : Ended patterns cells root → (u : List ℕ) → (0 < length u → Beginning patterns u) → length u < pattern_limit → Alike patterns cells root u
    asks_alike ended u b l s h k =
        (passed_only patterns cells root ended u b (λ i m d. test_passed cells root u _ _ _ d ((asks i m u d).passed l)) s h k, asks_hit (u ++ (s ∷ [])))

  module _ (sorted : Sorted patterns) (shaped : (i : ℕ) → i < length patterns → Shaped (nth patterns i)) (k : Checked) where
    checked_asks : Asks
    checked_asks i h u b =
        record {
          reached = λ l. k.hit u (beginning l);
          silent = λ f l. k.silent u (beginning (omega arith)) (longer f l);
          passed = λ l. passed_test cells root u _ _ _ b
              (alike_passed patterns cells root sorted u (k.alike u beginning l) i h b (alphabet_most (nth patterns i).symbols (length u) (shaped i h).alphabet));
        }
      where
        beginning : 0 < length u → Beginning patterns u
        beginning l = record { some = l; at = i; within = h; stands = b }

        -- where the first pattern that has u is longer, none is u itself
        longer : common (above [] patterns i) (nth patterns i).symbols < length u → length u < length (nth patterns i).symbols → (j : ℕ) → j < length patterns → (nth patterns j).symbols ≡ u → ⊥
        longer f l j m e =
            let q : j ≡ i = whole_first patterns sorted u i j (record { within = h; stands = b; fresh = f }) m e in
            omega (arith, ap length (rw q at e))

  pub test_checked : paths_test patterns cells entries root ≡ true → Checked
  unfolding node_at
  test_checked t =
      let p = patterns_each cells entries root [] patterns t in
      let asks : Asks = λ i h. follow_asked cells entries root _ _ _ _ (p.0 i h) in
      record {
        hit = asks_hit asks;
        exact = λ i h. test_exact entries (nth patterns i) _ (follow_whole cells entries root _ _ _ _ (p.0 i h));
        silent = asks_silent asks;
        alike = asks_alike asks (none_each cells root [] _ _ p.1);
      }

  pub checked_test : Sorted patterns → ((i : ℕ) → i < length patterns → Shaped (nth patterns i)) → Checked → paths_test patterns cells entries root ≡ true
  unfolding node_at
  checked_test sorted shaped k =
      each_patterns cells entries root [] patterns
      (λ i h. asked_follow cells entries root _ _ _ _ (exact_test_lem entries (nth patterns i) _ (k.exact i h)) (checked_asks sorted shaped k i h) (shaped i h).short)
      (each_none cells root [] _ _ (alike_ended patterns cells root sorted (k.alike [] (λ l. absurd (omega arith)) (omega arith))))
