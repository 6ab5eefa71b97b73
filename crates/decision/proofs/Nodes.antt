-- The node of a string, and how the table goes on behind it.
use Prim.Native.Nat.{ℕ, suc, ◌+◌, ◌-◌, ◌≤◌, ◌<◌}
use mathlib.Core.Bool.{Bool, true, false, cond, not, ◌||◌}
use mathlib.Core.List.{List, [], ◌∷◌, ◌++◌}
use mathlib.Core.Path.{◌≡◌, refl, sym, ◌∙◌, ap}
use native.Mathlib.Omega.{arith}
use borrow.Author.Tests.{ltb-true, ltb-false, le-leb, lt-leb, eqb-true, eqb-false, not-true}
use lib.Dec.{leb, ltb, eqb}
use lib.ListN.{length, get_or}
use Rattle.base.specs.Limits.{symbol_limit}
use Rattle.base.proofs.Lists.{never, both, untrue}
use Rattle.table.specs.Table.{look, Look}
use Rattle.std.specs.Prelude.{Some, None}
use Rattle.liang.specs.Levels.{begins}
use Rattle.patterns.specs.Common.{common}
use Rattle.trie.specs.Paths.{onward, along}
use Rattle.rightness.specs.declared.Node.{Node}
use Rattle.rightness.specs.Test.{linked, root_at, child_at, is_hit, none_between, passed_over, besides}
use Rattle.base.proofs.All.{each_all}
use Rattle.patterns.proofs.Strings.{begins_shared, begins_above, common_next}
use Rattle.decision.proofs.Loops.{all_each}

-- a string of two parts is followed part by part
pub along_append : (cells : List ℕ) (base : ℕ) (u : List ℕ) (x : ℕ) (w : List ℕ) → 0 < length u
    → along cells base (u ++ (x ∷ w)) ≡ onward (λ link. along cells link (x ∷ w)) (along cells base u)
unfolding along onward
along_append cells base [] x w h = absurd (omega arith)
along_append cells base (s ∷ []) x w h = refl
along_append cells base (s ∷ (t ∷ u)) x w h = go (look cells (base + s) s) (λ link. along_append cells link (t ∷ u) x w (omega arith))
  where
    tail : ℕ → Look
    tail link = along cells link (x ∷ w)

    go : (found : Look) → ((link : ℕ) → along cells link (t ∷ (u ++ (x ∷ w))) ≡ onward tail (along cells link (t ∷ u)))
        → onward (λ link. along cells link (t ∷ (u ++ (x ∷ w)))) found ≡ onward tail (onward (λ link. along cells link (t ∷ u)) found)
    go None next = refl
    go (Some found) next = leaf (eqb found.link 0)
      where
        leaf : (z : Bool) → cond z None (along cells found.link (t ∷ (u ++ (x ∷ w)))) ≡ onward tail (cond z None (along cells found.link (t ∷ u)))
        leaf true = refl
        leaf false = next found.link

-- where a look leads, and its output; from a miss nothing goes on
abbrev pub behind : Look → Node
behind None = record { leaf = true; base = 0 }
behind (Some found) = linked found.link

abbrev pub out_of : Look → ℕ
out_of None = 0
out_of (Some found) = found.output

module _ (cells : List ℕ) (root : ℕ) where
  -- the node of a string
  unfoldable pub node_at : List ℕ → Node
  node_at [] = root_at root
  node_at (x ∷ u) = behind (along cells root (x ∷ u))

  pub node_behind : (u : List ℕ) → 0 < length u → node_at u ≡ behind (along cells root u)
  unfolding node_at
  node_behind [] h = absurd (omega arith)
  node_behind (x ∷ u) h = refl

  -- a string's node goes on as the string does
  pub child_along : (u : List ℕ) (s : ℕ) → child_at cells (node_at u) s ≡ along cells root (u ++ (s ∷ []))
  unfolding node_at child_at along onward
  child_along [] s = refl
  child_along (x ∷ u) s = rw (along_append cells root (x ∷ u) s [] (omega arith)) (go (along cells root (x ∷ u)))
    where
      go : (found : Look) → child_at cells (behind found) s ≡ onward (λ link. along cells link (s ∷ [])) found
      go None = refl
      go (Some found) = refl

  -- behind a string the table goes on with no symbol between two others
  abbrev pub NoneOn : List ℕ → ℕ → ℕ → Type 0
  NoneOn u low high = (s : ℕ) → low < s → s < high → is_hit (along cells root (u ++ (s ∷ []))) ≡ true → ⊥

  misses : List ℕ → ℕ → Bool
  misses u s = not (is_hit (child_at cells (node_at u) s))

  pub none_each : (u : List ℕ) (low high : ℕ) → none_between cells (node_at u) low high ≡ true → NoneOn u low high
  unfolding none_between misses
  none_each u low high e s h k t =
      never (sym (not-true _ (all_each (misses u) (suc low) (high - suc low) e s h (omega arith))) ∙ ap is_hit (child_along u s) ∙ t)

  pub each_none : (u : List ℕ) (low high : ℕ) → NoneOn u low high → none_between cells (node_at u) low high ≡ true
  unfolding none_between misses
  each_none u low high n = each_all (misses u) (suc low) (high - suc low) (λ s h k. rw (child_along u s, untrue (is_hit (along cells root (u ++ (s ∷ [])))) (n s h (omega arith))))

-- the symbol with which a list goes on behind a string, 0 where it has not the string or ends there
abbrev pub next_of : List ℕ → List ℕ → ℕ
next_of u a = cond (begins u a) (get_or a (length u) 0) 0

-- The symbols that the list passes over behind a beginning u of a pattern: between those of the pattern above and its own, and over
-- its own where the pattern below has not u. The test asks for them by what the patterns have in common.
module _ (cells : List ℕ) (root : ℕ) (u above own below : List ℕ) where
  pub record Passed : Type 0 where
    pub under : NoneOn cells root u (next_of u above) (get_or own (length u) 0)
    pub over : begins u below ≡ false → NoneOn cells root u (get_or own (length u) 0) (suc symbol_limit)

  abbrev low : ℕ
  low = cond (eqb (length u) (common above own)) (get_or above (common above own) 0) 0

  abbrev low_test : Bool
  low_test = ltb (length u) (common above own) || none_between cells (node_at cells root u) low (get_or own (length u) 0)

  abbrev high_test : Bool
  high_test = leb (length u) (common own below) || none_between cells (node_at cells root u) (get_or own (length u) 0) (suc symbol_limit)

  module _ (stands : begins u own ≡ true) where
    -- the test's lower bound is the symbol of the pattern above
    low_next : common above own ≤ length u → low ≡ next_of u above
    low_next h = rw (begins_above u above own stands) (go (eqb (length u) (common above own)) refl)
      where
        go : (z : Bool) → eqb (length u) (common above own) ≡ z
            → cond z (get_or above (common above own) 0) 0 ≡ cond (leb (length u) (common above own)) (get_or above (length u) 0) 0
        go true e = let q = eqb-true (length u) (common above own) e in rw (le-leb (length u) (common above own) (omega arith), q)
        go false e = let q = eqb-false (length u) (common above own) e in rw (lt-leb (length u) (common above own) (omega arith))

    -- where the pattern above goes on alike, nothing is passed over
    alike_next : length u < common above own → next_of u above ≡ get_or own (length u) 0
    alike_next h = rw (begins_above u above own stands, le-leb (length u) (common above own) (omega arith)) (common_next above own (length u) h)

    pub test_passed : passed_over cells (besides above own below) (node_at cells root u) (length u) (get_or own (length u) 0) ≡ true → Passed
    unfolding passed_over besides
    test_passed t =
        let p = both low_test high_test t in
        record { under = go (ltb (length u) (common above own)) refl p.0; over = λ e. none_each cells root u _ _ (rw (sym (begins_shared u own below stands) ∙ e) at p.1) }
      where
        go : (z : Bool) → ltb (length u) (common above own) ≡ z → (z || none_between cells (node_at cells root u) low (get_or own (length u) 0)) ≡ true
            → NoneOn cells root u (next_of u above) (get_or own (length u) 0)
        go true e t = λ s h k. absurd (omega (arith, alike_next (ltb-true (length u) (common above own) e)))
        go false e t = rw (low_next (ltb-false (length u) (common above own) e)) at (none_each cells root u _ _ t)

    pub passed_test : Passed → passed_over cells (besides above own below) (node_at cells root u) (length u) (get_or own (length u) 0) ≡ true
    unfolding passed_over besides
    passed_test p = rw (under (ltb (length u) (common above own)) refl, ← begins_shared u own below stands) (over (begins u below) refl)
      where
        under : (z : Bool) → ltb (length u) (common above own) ≡ z → low_test ≡ true
        under true e = rw e
        under false e = rw (e, low_next (ltb-false (length u) (common above own) e)) (each_none cells root u _ _ p.under)

        over : (z : Bool) → begins u below ≡ z → (z || none_between cells (node_at cells root u) (get_or own (length u) 0) (suc symbol_limit)) ≡ true
        over true e = refl
        over false e = each_none cells root u _ _ (p.over e)
