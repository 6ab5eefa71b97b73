-- The nodes that a list's patterns open, and their continuations: those of the list.
use Prim.Native.Nat.{ℕ, zero, suc, ◌+◌, ◌-◌, ◌≤◌, ◌<◌}
use mathlib.Core.Bool.{Bool, true, false, not, ◌&&◌}
use mathlib.Core.List.{List, [], ◌∷◌}
use mathlib.Core.Path.{◌≡◌, refl, sym, ◌∙◌, ap, subst}
use native.Mathlib.Decide.{ℕ_discrete, dec_lt}
use native.Mathlib.Omega.{arith}
use borrow.Author.Tests.{leb-true, ltb-true, le-leb, lt-ltb}
use lib.Dec.{leb, ltb}
use lib.ListN.{length, take, drop, length-drop}
use lib.Seq.{get_or-drop, length-take-le}
use Rattle.base.specs.Limits.{symbol_limit}
use Rattle.base.proofs.Lists.{never}
use Rattle.liang.specs.Patterns.{Pattern}
use Rattle.liang.specs.Levels.{begins}
use Rattle.patterns.specs.Common.{common}
use Rattle.patterns.specs.Strings.{nth, no_pattern, Beginning, Sorted}
use Rattle.patterns.specs.Next.{next_in, opens}
use Rattle.patterns.proofs.Strings.{◌▸◌, snoc_length, begins_shared, begins_take, begins_length, begins_init}
use Rattle.fit_trie.proofs.Nodes.{Node, Goes}
use Rattle.patterns.proofs.Sorted.{above, begins_between, goes_on_lem, next_sound, next_complete}

-- A node that a pattern opens: the first of the list that goes on behind the node's path.
pub record Opened (patterns : List Pattern) (n : Node) : Type 0 where
  pub within : n.opener < length patterns
  pub longer : length n.path < length (nth patterns n.opener).symbols
  pub stands : begins n.path (nth patterns n.opener).symbols ≡ true
  pub first : (k : ℕ) → k < n.opener → begins n.path (nth patterns k).symbols ≡ true → length (nth patterns k).symbols ≤ length n.path
  pub child : (s : ℕ) → n.child s ≡ next_in (length n.path) (nth patterns n.opener).symbols (drop n.opener patterns) s

module _ (patterns : List Pattern) (n : Node) (opened : Opened patterns n) where
  -- each continuation is a beginning
  pub goes_beginning : (s : ℕ) → Goes n s → Beginning patterns (n.path ▸ s)
  goes_beginning s g =
      let b = next_sound n.path (nth patterns n.opener).symbols s opened.stands g.low (drop n.opener patterns) (sym (opened.child s) ∙ g.goes) in
      record {
        some = b.some;
        at = n.opener + b.at;
        within = omega (arith, b.within, length-drop n.opener patterns);
        stands = ap (λ (p : Pattern). begins (n.path ▸ s) p.symbols) (sym (get_or-drop n.opener patterns b.at no_pattern)) ∙ b.stands;
      }

  -- and each beginning one symbol longer is a continuation
  pub beginning_goes : Sorted patterns → (s : ℕ) → 1 ≤ s → s ≤ symbol_limit → Beginning patterns (n.path ▸ s) → Goes n s
  beginning_goes sorted s h l b = go (dec_lt b.at n.opener)
    where
      front : begins n.path (nth patterns b.at).symbols ≡ true
      front = begins_init n.path (s ∷ []) (nth patterns b.at).symbols b.stands

      moved : (i : ℕ) → nth (drop n.opener patterns) i ≡ nth patterns (n.opener + i)
      moved i = get_or-drop n.opener patterns i no_pattern

      -- all patterns from the opening one to this one begin so
      all : (n.opener ≤ b.at) → (j : ℕ) → n.opener ≤ j → j ≤ b.at → begins n.path (nth patterns j).symbols ≡ true
      all k j x y = of (ℕ_discrete n.opener j) (ℕ_discrete j b.at)
        where
          of : Dec (n.opener ≡ j) → Dec (j ≡ b.at) → begins n.path (nth patterns j).symbols ≡ true
          of (yes e) d = subst (λ (i : ℕ). begins n.path (nth patterns i).symbols ≡ true) e opened.stands
          of (no d) (yes e) = subst (λ (i : ℕ). begins n.path (nth patterns i).symbols ≡ true) (sym e) front
          of (no d) (no e) =
              begins_between n.path (nth patterns n.opener).symbols (nth patterns j).symbols (nth patterns b.at).symbols
              (sorted n.opener j (omega arith) (omega (arith, b.within)))
              (sorted j b.at (omega arith) b.within) opened.stands front

      go : Dec (b.at < n.opener) → Goes n s
      go (yes k) = absurd (omega (arith, opened.first b.at k front, begins_length (n.path ▸ s) _ b.stands, snoc_length n.path s))
      go (no k) =
          let at : n.opener + (b.at - n.opener) ≡ b.at = omega arith in
          let here : begins (n.path ▸ s) (nth (drop n.opener patterns) (b.at - n.opener)).symbols ≡ true =
          ap (λ (p : Pattern). begins (n.path ▸ s) p.symbols) (moved (b.at - n.opener) ∙ ap (nth patterns) at) ∙ b.stands in
          record {
            low = h;
            high = l;
            goes = opened.child s
                ∙ next_complete n.path (nth patterns n.opener).symbols s opened.stands h (drop n.opener patterns) (b.at - n.opener)
                (omega (arith, b.within, length-drop n.opener patterns))
                (λ i x. ap (λ (p : Pattern). begins n.path p.symbols) (moved i) ∙ all (omega arith) (n.opener + i) (omega arith) (omega arith))
                here;
          }

-- A pattern that opens a path is the first to go on behind it.
pub opens_says : (m : ℕ) (a own : List ℕ) → opens m a own ≡ true → (m < length own) × (m ≤ common a own → m < length a → ⊥)
unfolding opens
opens_says m a own e = go (ltb m (length own)) refl (leb m (common a own)) refl (ltb m (length a)) refl e
  where
    go : (x : Bool) → ltb m (length own) ≡ x → (y : Bool) → leb m (common a own) ≡ y → (z : Bool) → ltb m (length a) ≡ z → (x && not (y && z)) ≡ true
        → (m < length own) × (m ≤ common a own → m < length a → ⊥)
    go true p true q true r f = never f
    go true p true q false r f = (ltb-true m (length own) p, λ h k. never (sym r ∙ lt-ltb m (length a) k))
    go true p false q z r f = (ltb-true m (length own) p, λ h k. never (sym q ∙ le-leb m (common a own) h))
    go false p y q z r f = never f

-- One that goes on and opens nothing stands right behind one that shares the path and goes on too.
pub opens_not : (m : ℕ) (a own : List ℕ) → opens m a own ≡ false → m < length own → (m ≤ common a own) × (m < length a)
unfolding opens
opens_not m a own e h = go (ltb m (length own)) refl (leb m (common a own)) refl (ltb m (length a)) refl e
  where
    go : (x : Bool) → ltb m (length own) ≡ x → (y : Bool) → leb m (common a own) ≡ y → (z : Bool) → ltb m (length a) ≡ z → (x && not (y && z)) ≡ false
        → (m ≤ common a own) × (m < length a)
    go true p true q true r f = (leb-true m (common a own) q, ltb-true m (length a) r)
    go true p true q false r f = never (sym f)
    go true p false q z r f = never (sym f)
    go false p y q z r f = never (sym p ∙ lt-ltb m (length own) h)

pub opens_first : (patterns : List Pattern) → Sorted patterns → (m k : ℕ) → k < length patterns → opens m (above [] patterns k) (nth patterns k).symbols ≡ true
    → (j : ℕ) → j < k → begins (take m (nth patterns k).symbols) (nth patterns j).symbols ≡ true → length (nth patterns j).symbols ≤ m
opens_first patterns sorted m zero h e j l b = absurd (omega arith)
opens_first patterns sorted m (suc k) h e j l b = go (dec_lt m (length (nth patterns j).symbols)) (ℕ_discrete j k)
  where
    own : List ℕ
    own = (nth patterns (suc k)).symbols

    size : length (take m own) ≡ m
    size = length-take-le m own (omega (arith, (opens_says m (nth patterns k).symbols own e).0))

    -- the pattern above would go on behind the path
    clash : begins (take m own) (nth patterns k).symbols ≡ true → m < length (nth patterns k).symbols → ⊥
    clash c f = (opens_says m (nth patterns k).symbols own e).1 shared f
      where
        shared : m ≤ common (nth patterns k).symbols own
        shared = omega (arith, size, leb-true (length (take m own)) (common (nth patterns k).symbols own) (sym (begins_shared (take m own) (nth patterns k).symbols own c) ∙ begins_take m own))

    go : Dec (m < length (nth patterns j).symbols) → Dec (j ≡ k) → length (nth patterns j).symbols ≤ m
    go (no d) q = omega arith
    go (yes d) (yes q) =
        absurd (clash (subst (λ (i : ℕ). begins (take m own) (nth patterns i).symbols ≡ true) q b) (subst (λ (i : ℕ). m < length (nth patterns i).symbols) q d))
    go (yes d) (no q) =
        let c = begins_between (take m own) (nth patterns j).symbols (nth patterns k).symbols own
        (sorted j k (omega arith) (omega arith)) (sorted k (suc k) (omega arith) h) b (begins_take m own) in
        let f = goes_on_lem (take m own) (nth patterns j).symbols (nth patterns k).symbols b c (sorted j k (omega arith) (omega arith)) (omega (arith, size)) in
        absurd (clash c (omega (arith, f, size)))
