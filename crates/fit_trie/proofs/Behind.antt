-- First fit over a whole list: every beginning of a pattern stands behind a node, and every pattern has its output.
use Prim.Native.Nat.{ℕ, ◌≤◌, ◌<◌}
use mathlib.Core.Bool.{true}
use mathlib.Core.List.{List, [], ◌∷◌}
use mathlib.Core.Path.{◌≡◌, refl, sym, ◌∙◌, ap, subst}
use native.Mathlib.Omega.{arith}
use lib.ListN.{length, get_or, replicate, length-replicate}
use Rattle.base.specs.Limits.{pattern_limit, level_limit}
use Rattle.lines.specs.Order.{before}
use Rattle.lines.proofs.Order.{before_self}
use Rattle.liang.specs.Patterns.{Pattern}
use Rattle.liang.specs.Levels.{begins}
use Rattle.table.specs.Table.{entry_room}
use Rattle.patterns.specs.Strings.{Beginning, nth, Shaped, Sorted}
use Rattle.patterns.proofs.Strings.{begins_self, begins_alphabet, ◌▸◌, Ended, ended, snoc_length, alphabet_last, begins_length, begins_init, take_begins}
use Rattle.fit.specs.Entries.{Out, outputs_of, empty_entries}
use Rattle.fit_trie.proofs.Nodes.{Node, node, Site, Behind}
use Rattle.fit_trie.proofs.Opened.{beginning_goes}
use Rattle.fit_trie.proofs.Passes.{Passing}
use Rattle.fit_trie.proofs.Chains.{Entered}
use Rattle.fit_trie.proofs.Outputs.{IssuedIn, Ready, outputs_from}

-- before the first pattern of all there is no entry
none_entered : (n : ℕ) → n ≡ entry_room → Entered (replicate n 0) 0
none_entered n e =
    record { size = length-replicate {A = ℕ} n 0 ∙ e; few = omega arith; kind = λ k h l. absurd (omega arith); lower = λ k h l. absurd (omega arith) }

pub empty_entered : Entered empty_entries 0
empty_entered = none_entered entry_room refl

-- The list is sorted and its patterns are those of good lines, with levels up to 9.
module _ (patterns : List Pattern) (sorted : Sorted patterns) (shaped : (i : ℕ) → i < length patterns → Shaped (nth patterns i))
    (low : (i : ℕ) → i < length patterns → (gap : ℕ) → get_or (nth patterns i).levels gap 0 ≤ level_limit) where
  module _ (site : Site) (nodes : List Node) (bytes taken : List ℕ) (placed : Passing site patterns pattern_limit 0 nodes bytes taken) where
    -- a beginning stands behind a node
    pub beginning_behind : (u : List ℕ) → Beginning patterns u → Behind nodes u
    beginning_behind [] b = absurd (omega (arith, b.some))
    beginning_behind (x ∷ w) b = go (ended x w)
      where
        own : List ℕ
        own = (nth patterns b.at).symbols

        go : Ended (x ∷ w) → Behind nodes (x ∷ w)
        go c =
            let whole : begins (c.front ▸ c.last) own ≡ true = subst (λ (u : List ℕ). begins u own ≡ true) c.same b.stands in
            let front = begins_init c.front (c.last ∷ []) own whole in
            let size : length c.front < length own = omega (arith, begins_length (c.front ▸ c.last) own whole, snoc_length c.front c.last) in
            let p = placed.shorter (length c.front) b.at (omega (arith, size, (shaped b.at b.within).short)) b.within size in
            let same = p.same ∙ take_begins c.front own front in
            let a = alphabet_last c.front c.last (begins_alphabet (c.front ▸ c.last) own whole (shaped b.at b.within).alphabet) in
            record {
              at = p.at;
              inside = p.inside;
              last = c.last;
              same = c.same ∙ ap (λ (u : List ℕ). u ▸ c.last) (sym same);
              goes = beginning_goes patterns (node nodes p.at) (placed.opened p.at p.inside) sorted c.last a.0 a.1
                  (record {
                    some = omega (arith, snoc_length (node nodes p.at).path c.last);
                    at = b.at;
                    within = b.within;
                    stands = subst (λ (u : List ℕ). begins (u ▸ c.last) own ≡ true) (sym same) whole;
                  });
            }

    pub pattern_behind : (i : ℕ) → i < length patterns → Behind nodes (nth patterns i).symbols
    pattern_behind i h =
        beginning_behind (nth patterns i).symbols (record { some = (shaped i h).some; at = i; within = h; stands = begins_self (nth patterns i).symbols })

    ready : Ready nodes patterns
    ready =
        record {
          behind = pattern_behind;
          differ = λ i j h l e. before_self (nth patterns j).symbols (subst (λ (u : List ℕ). before u (nth patterns j).symbols ≡ true) e (sorted i j h l));
          low = low;
        }

    -- the outputs of all patterns, behind the entries that are there
    pub all_issued : (made : List ℕ) (count : ℕ) → Entered made count → IssuedIn site nodes patterns bytes made count (outputs_of site.root patterns (Out bytes made count))
    all_issued made count entered = outputs_from site nodes placed.laid.tree patterns ready bytes made count placed.laid.owned placed.laid.links entered
