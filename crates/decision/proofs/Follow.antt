-- Following the patterns through the table asks something of each of their beginnings.
use Prim.Native.Nat.{ℕ, zero, suc, ◌+◌, ◌≤◌, ◌<◌}
use mathlib.Core.Bool.{Bool, true, false, ◌&&◌, ◌||◌}
use mathlib.Core.List.{List, [], ◌∷◌}
use mathlib.Core.Path.{◌≡◌, refl, sym, ◌∙◌, ap}
use native.Mathlib.Decide.{dec_lt}
use native.Mathlib.Numerals.{add-one}
use native.Mathlib.Omega.{arith}
use borrow.Author.Tests.{leb-false, lt-leb, eqb-true}
use lib.Dec.{leb, eqb}
use lib.ListN.{length, get_or, take, drop, get_or-eq_default}
use lib.Seq.{take-suc, drop-cons, take-length, drop-length, length-take-le}
use Rattle.base.specs.Limits.{symbol_limit, pattern_limit}
use Rattle.table.specs.Table.{Look}
use Rattle.std.specs.Prelude.{Some, None}
use Rattle.liang.specs.Patterns.{Pattern}
use Rattle.liang.specs.Levels.{begins}
use Rattle.patterns.specs.Common.{common}
use Rattle.trie.specs.Paths.{along}
use Rattle.patterns.specs.Strings.{nth}
use Rattle.rightness.specs.declared.Node.{Node}
use Rattle.rightness.specs.Test.{linked, root_at, is_hit, none_between, passed_over, besides, exact_test, follow_step, follow, first_symbols, patterns_right}
use Rattle.base.proofs.Lists.{both}
use Rattle.patterns.proofs.Strings.{begins_length, begins_take, take_begins}
use Rattle.patterns.proofs.Sorted.{above}
use Rattle.decision.proofs.Nodes.{behind, out_of, node_at, node_behind, child_along}

-- a step goes on where the look hits
step_hit : (go : Node → ℕ → Bool) (found : Look) → follow_step (λ link output. go (linked link) output) found ≡ (is_hit found && go (behind found) (out_of found))
unfolding follow_step
step_hit go None = refl
step_hit go (Some found) = refl

-- What is asked of a pattern's first m symbols u, between the patterns above (`top`) and below.
pub record Asked (cells : List ℕ) (root : ℕ) (top own below : List ℕ) (m : ℕ) (u : List ℕ) : Type 0 where
  pub reached : 0 < m → is_hit (along cells root u) ≡ true
  pub silent : common top own < m → m < length own → out_of (along cells root u) ≡ 0
  pub passed : m < pattern_limit → passed_over cells (besides top own below) (node_at cells root u) m (get_or own m 0) ≡ true

module _ (cells entries : List ℕ) (root : ℕ) (levels top own below : List ℕ) where
  abbrev output : List ℕ → ℕ
  output u = out_of (along cells root u)

  -- and, of the whole pattern, an exact output
  abbrev Whole : Type 0
  Whole = exact_test entries levels (length own) (out_of (along cells root own)) ≡ true

  abbrev passed_at : ℕ → Bool
  passed_at m = passed_over cells (besides top own below) (node_at cells root (take m own)) m (get_or own m 0)

  abbrev silent_at : ℕ → Bool
  silent_at m = leb m (common top own) || eqb (output (take m own)) 0

  -- the test from the first m symbols on
  abbrev from : ℕ → Bool
  from m = follow cells entries levels (besides top own below) (node_at cells root (take m own)) (output (take m own)) m (drop m own)

  abbrev hit_at : ℕ → Bool
  hit_at m = is_hit (along cells root (take m own))

  from_step : (m : ℕ) → m < length own → from m ≡ (silent_at m && (passed_at m && (hit_at (suc m) && from (suc m))))
  unfolding follow besides
  from_step m h =
      let l : 0 < length (take (suc m) own) = omega (arith, length-take-le (suc m) own h) in
      rw (drop-cons own m 0 h, child_along cells root (take m own) (get_or own m 0), ← take-suc own m 0 h, add-one, node_behind cells root (take (suc m) own) l)
      (ap (λ (z : Bool). silent_at m && (passed_at m && z))
      (step_hit (λ node out. follow cells entries levels (besides top own below) node out (suc m) (drop (suc m) own)) (along cells root (take (suc m) own))))

  from_end : (m : ℕ) → m ≡ length own → from m ≡ (exact_test entries levels (length own) (output own) && (leb pattern_limit m || passed_at m))
  unfolding follow
  from_end m e = let l : length own ≤ length own = omega arith in rw (e, drop-length own, take-length own, get_or-eq_default own 0 l)

  from_turn : (m : ℕ) → m < length own → from m ≡ true → (silent_at m ≡ true) × (passed_at m ≡ true) × (hit_at (suc m) ≡ true) × (from (suc m) ≡ true)
  from_turn m h t =
      let p = both (silent_at m) (passed_at m && (hit_at (suc m) && from (suc m))) (sym (from_step m h) ∙ t) in
      let q = both (passed_at m) (hit_at (suc m) && from (suc m)) p.1 in
      let r = both (hit_at (suc m)) (from (suc m)) q.1 in
      (p.0, q.0, r.0, r.1)

  -- so the test comes to each beginning
  from_each : from 0 ≡ true → (m : ℕ) → m ≤ length own → (0 < m → hit_at m ≡ true) × (from m ≡ true)
  from_each t zero h = (λ l. absurd (omega arith), t)
  from_each t (suc m) h = let p = from_turn m h (from_each t m (omega arith)).1 in (λ l. p.2, p.3)

  from_asked : (m : ℕ) → m ≤ length own → (0 < m → hit_at m ≡ true) → from m ≡ true → Asked cells root top own below m (take m own)
  from_asked m h r t = go (dec_lt m (length own))
    where
      go : Dec (m < length own) → Asked cells root top own below m (take m own)
      go (yes l) =
          let p = from_turn m l t in
          record { reached = r; silent = λ f k. eqb-true (output (take m own)) 0 (rw (lt-leb m (common top own) f) at p.0); passed = λ k. p.1 }
      go (no l) =
          let p = both (exact_test entries levels (length own) (output own)) (leb pattern_limit m || passed_at m) (sym (from_end m (omega arith)) ∙ t) in
          record { reached = r; silent = λ f k. absurd (omega arith); passed = λ k. rw (lt-leb pattern_limit m k) at p.1 }

  -- One pattern's test says this of each of its beginnings, and no more.
  pub follow_whole : follow cells entries levels (besides top own below) (root_at root) 0 0 own ≡ true → Whole
  unfolding node_at along
  follow_whole t =
      (both (exact_test entries levels (length own) (output own)) (leb pattern_limit (length own) || passed_at (length own))
      (sym (from_end (length own) refl) ∙ (from_each t (length own) (omega arith)).1)).0

  pub follow_asked : follow cells entries levels (besides top own below) (root_at root) 0 0 own ≡ true → (u : List ℕ) → begins u own ≡ true → Asked cells root top own below (length u) u
  unfolding node_at along
  follow_asked t u b =
      let h = begins_length u own b in
      let p = from_each t (length u) h in
      rw (take_begins u own b) at (from_asked (length u) h p.0 p.1)

  asked_from : Whole → ((m : ℕ) → m ≤ length own → Asked cells root top own below m (take m own)) → length own ≤ pattern_limit → (k m : ℕ) → m + k ≡ length own → from m ≡ true
  asked_from w a short zero m e = rw (from_end m (omega arith), w) (go (leb pattern_limit m) refl)
    where
      go : (z : Bool) → leb pattern_limit m ≡ z → (z || passed_at m) ≡ true
      go true q = refl
      go false q = (a m (omega arith)).passed (leb-false pattern_limit m q)
  asked_from w a short (suc k) m e =
      rw (from_step m (omega arith), go (leb m (common top own)) refl, (a m (omega arith)).passed (omega arith), (a (suc m) (omega arith)).reached (omega arith))
      (asked_from w a short k (suc m) (omega arith))
    where
      go : (z : Bool) → leb m (common top own) ≡ z → silent_at m ≡ true
      go true q = rw q
      go false q = rw (q, (a m (omega arith)).silent (leb-false m (common top own) q) (omega arith))

  pub asked_follow : Whole → ((u : List ℕ) → begins u own ≡ true → Asked cells root top own below (length u) u) → length own ≤ pattern_limit
      → follow cells entries levels (besides top own below) (root_at root) 0 0 own ≡ true
  unfolding node_at along
  asked_follow w a short = asked_from w (λ m h. rw (length-take-le m own h) at (a (take m own) (begins_take m own))) short (length own) 0 (omega arith)

-- The loop over the patterns asks it of each, and at its end of the root.
module _ (cells entries : List ℕ) (root : ℕ) where
  abbrev followed : List ℕ → List Pattern → ℕ → Bool
  followed top patterns i =
      follow cells entries (nth patterns i).levels (besides (above top patterns i) (nth patterns i).symbols (nth patterns (suc i)).symbols) (root_at root) 0 0 (nth patterns i).symbols

  abbrev ended : List ℕ → List Pattern → Bool
  ended top patterns = none_between cells (root_at root) (get_or (above top patterns (length patterns)) 0 0) (suc symbol_limit)

  above_next : (top : List ℕ) (p : Pattern) (rest : List Pattern) (i : ℕ) → above top (p ∷ rest) (suc i) ≡ above p.symbols rest i
  above_next top p rest zero = refl
  above_next top p rest (suc i) = refl

  first_nth : (rest : List Pattern) → first_symbols rest ≡ (nth rest 0).symbols
  first_nth [] = refl
  first_nth (p ∷ rest) = refl

  pub patterns_each : (top : List ℕ) (patterns : List Pattern) → patterns_right cells entries root top patterns ≡ true
      → ((i : ℕ) → i < length patterns → followed top patterns i ≡ true) × (ended top patterns ≡ true)
  unfolding patterns_right
  patterns_each top [] e = (λ i h. absurd (omega arith), e)
  patterns_each top (p ∷ rest) e =
      let t = both (followed top (p ∷ rest) 0) (patterns_right cells entries root p.symbols rest) (rw (first_nth rest) at e) in
      let next = patterns_each p.symbols rest t.1 in
      (each t.0 next.0, rw (above_next top p rest (length rest)) next.1)
    where
      each : followed top (p ∷ rest) 0 ≡ true → ((i : ℕ) → i < length rest → followed p.symbols rest i ≡ true) → (i : ℕ) → i < suc (length rest) → followed top (p ∷ rest) i ≡ true
      each t next zero h = t
      each t next (suc i) h = rw (above_next top p rest i) (next i (omega arith))

  pub each_patterns : (top : List ℕ) (patterns : List Pattern) → ((i : ℕ) → i < length patterns → followed top patterns i ≡ true) → ended top patterns ≡ true
      → patterns_right cells entries root top patterns ≡ true
  unfolding patterns_right
  each_patterns top [] h e = e
  each_patterns top (p ∷ rest) h e =
      rw (first_nth rest, h 0 (omega arith))
      (each_patterns p.symbols rest (λ i k. rw (← above_next top p rest i) (h (suc i) (omega arith))) (rw (above_next top p rest (length rest)) at e))
