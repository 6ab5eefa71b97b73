-- Two tables, cells and entries, that have the same bytes wherever one of them reaches: a walk does the same over both, and where
-- one is right for a list, the other is.
use Prim.Native.Nat.{ℕ, zero, suc, ◌+◌, ◌*◌, ◌-◌, ◌≤◌, ◌<◌}
use mathlib.Core.Bool.{Bool, true, false, cond, ◌&&◌}
use mathlib.Core.List.{List, [], ◌∷◌, ◌++◌}
use mathlib.Core.Logic.{◌⊎◌, inl, inr}
use mathlib.Core.Path.{◌≡◌, refl, sym, ◌∙◌, ap}
use native.Mathlib.Omega.{arith}
use borrow.Author.Tests.{eqb-true, eqb-false, ltb-true}
use lib.Dec.{leb, ltb, eqb}
use lib.ListN.{length, get_or}
use Rattle.base.specs.Limits.{symbol_limit, pattern_limit, level_limit}
use Rattle.base.proofs.Lists.{clash, never, both, and_cond}
use Rattle.liang.specs.Patterns.{Pattern}
use Rattle.table.specs.declared.Entry.{Entry}
use Rattle.table.specs.Table.{cell_kind, cell_size, entry_size, number_at, look, entry_at, Look, hit, has}
use Rattle.std.specs.Prelude.{Some, None, Option}
use Rattle.walk.specs.Chain.{Setting, setting, chain_step, chain_from, chain}
use Rattle.walk.specs.Walk.{set_step, set_from, look_step, looks_from, settings, looks}
use Rattle.walk.specs.Raise.{highest_set}
use Rattle.trie.specs.Paths.{onward, along, Path}
use Rattle.patterns.specs.Strings.{all_symbols, nth}
use Rattle.trie.specs.Sound.{sound_step, sound_from, sound}
use Rattle.rightness.specs.Right.{Exact, PathsRight}
use Rattle.trie.specs.Reached.{link_of, end_cell, CellReached, OnChain, here, later, EntryReached, SameBytes}
use Rattle.patterns.proofs.Strings.{begins_self, alphabet_rest}
use Rattle.matching.proofs.Matches.{along_cons}

-- one byte of those that agree
byte_at : (size at : ℕ) (bytes other : List ℕ) → SameBytes size at bytes other → (i : ℕ) → i < size → (k : ℕ) → k ≡ at + i → get_or bytes k 0 ≡ get_or other k 0
byte_at size at bytes other h i l k e = rw e (h i l)

-- a cell with the same bytes is looked at alike
look_same : (cells other : List ℕ) → length cells ≡ length other → (n s : ℕ) → SameBytes cell_size (cell_size * n) cells other → look cells n s ≡ look other n s
unfolding look number_at
look_same cells other l n s h =
    let byte = byte_at cell_size (cell_size * n) cells other h in
    rw (
      l,
      byte 0 (omega arith) (cell_size * n) (omega arith),
      byte 1 (omega arith) (cell_size * n + 1) (omega arith),
      byte 2 (omega arith) (cell_size * n + 2) (omega arith),
      byte 3 (omega arith) (cell_size * n + 2 + 1) (omega arith),
      byte 4 (omega arith) (cell_size * n + 4) (omega arith),
      byte 5 (omega arith) (cell_size * n + 4 + 1) (omega arith),
    )

-- an entry with the same bytes is read alike
entry_same : (entries other : List ℕ) → length entries ≡ length other → (k : ℕ) → SameBytes entry_size (entry_size * k - entry_size) entries other → entry_at entries k ≡ entry_at other k
unfolding entry_at number_at
entry_same entries other l zero h = refl
entry_same entries other l (suc k) h =
    let byte = byte_at entry_size (entry_size * suc k - entry_size) entries other h in
    rw (
      l,
      byte 0 (omega arith) (entry_size * suc k - 5) (omega arith),
      byte 1 (omega arith) (entry_size * suc k - 4) (omega arith),
      byte 2 (omega arith) (entry_size * suc k - 3) (omega arith),
      byte 3 (omega arith) (entry_size * suc k - 2) (omega arith),
      byte 4 (omega arith) (entry_size * suc k - 2 + 1) (omega arith),
    )

-- a string that is followed to its end has a symbol
along_some : (cells : List ℕ) (base : ℕ) (u : List ℕ) {link output : ℕ} → along cells base u ≡ hit link output → 0 < length u
unfolding along
along_some cells base [] e = clash cc
along_some cells base (s ∷ u) e = omega arith

abbrev Symbol : ℕ → Type 0
Symbol s = (leb 1 s && leb s symbol_limit) ≡ true

first_symbol : (s : ℕ) (row : List ℕ) → all_symbols (s ∷ row) ≡ true → Symbol s
unfolding all_symbols
first_symbol s row a = (both (leb 1 s && leb s symbol_limit) (all_symbols row) a).0

-- a cell that matches holds the symbol
look_symbol : (cells : List ℕ) (n s : ℕ) {link output : ℕ} → look cells n s ≡ hit link output → get_or cells (cell_size * n + 1) 0 ≡ s
unfolding look
look_symbol cells n s {link} {output} e =
    go (leb (cell_size * n + cell_size) (length cells)) (eqb (get_or cells (cell_size * n) 0) cell_kind) (eqb (get_or cells (cell_size * n + 1) 0) s) refl e
  where
    go : (x y z : Bool) → eqb (get_or cells (cell_size * n + 1) 0) s ≡ z
        → cond (x && (y && z)) (hit (number_at cells (cell_size * n + 2)) (number_at cells (cell_size * n + 4))) None ≡ hit link output → get_or cells (cell_size * n + 1) 0 ≡ s
    go true true true p q = eqb-true (get_or cells (cell_size * n + 1) 0) s p
    go true true false p q = clash cc
    go true false z p q = clash cc
    go false y z p q = clash cc

-- so does the cell that a string of symbols ends in
end_symbol : (cells : List ℕ) (base : ℕ) (u : List ℕ) {link output : ℕ} → all_symbols u ≡ true → along cells base u ≡ hit link output
    → Symbol (get_or cells (cell_size * end_cell cells base u + 1) 0)
unfolding along end_cell
end_symbol cells base [] a m = clash cc
end_symbol cells base (s ∷ []) a m = rw (look_symbol cells (base + s) s m) (first_symbol s [] a)
end_symbol cells base (s ∷ (x ∷ u)) {link} {output} a m = go (look cells (base + s) s) refl m (λ l. end_symbol cells l (x ∷ u) (alphabet_rest s (x ∷ u) a))
  where
    Ends : ℕ → Type 0
    Ends l = along cells l (x ∷ u) ≡ hit link output → Symbol (get_or cells (cell_size * end_cell cells l (x ∷ u) + 1) 0)

    pick : (l : ℕ) (z : Bool) → cond z None (along cells l (x ∷ u)) ≡ hit link output → Ends l → Symbol (get_or cells (cell_size * end_cell cells l (x ∷ u) + 1) 0)
    pick l true q next = clash cc
    pick l false q next = next q

    go : (found : Look) → look cells (base + s) s ≡ found → onward (λ l. along cells l (x ∷ u)) found ≡ hit link output → ((l : ℕ) → Ends l)
        → Symbol (get_or cells (cell_size * end_cell cells (link_of (look cells (base + s) s)) (x ∷ u) + 1) 0)
    go None e q next = unfold onward in clash cc
    go (Some found) e q next = unfold onward in rw e (pick found.link (eqb found.link 0) q (next found.link))

-- A cell that holds no symbol, as a free one does, is reached by no path, whatever its link and output.
pub blank_unreached : (cells : List ℕ) (root n : ℕ) → (leb 1 (get_or cells (cell_size * n + 1) 0) && leb (get_or cells (cell_size * n + 1) 0) symbol_limit) ≡ false → CellReached cells root n → ⊥
blank_unreached cells root n e r =
    let symbol = rw r.ends at (end_symbol cells root r.string r.path.alphabet r.path.matches) in
    never (sym e ∙ symbol)

-- what holds of the cells and entries that strings of at most `left` symbols reach from a base on
module _ (cells entries : List ℕ) (OfCell OfEntry : ℕ → Type 0) where
  abbrev Held : ℕ → ℕ → Type 0
  Held base left = (u : List ℕ) (link output : ℕ) → length u ≤ left → all_symbols u ≡ true → along cells base u ≡ hit link output
      → OfCell (end_cell cells base u) × ((k : ℕ) → OnChain entries output k → OfEntry k)

  module _ (base left s link output : ℕ) (h : Held base (suc left)) (a : Symbol s) (e : look cells (base + s) s ≡ hit link output) where
    -- holds of the first cell and of its output's chain
    held_here : OfCell (base + s) × ((k : ℕ) → OnChain entries output k → OfEntry k)
    unfolding along end_cell all_symbols
    held_here = h (s ∷ []) link output (omega arith) (rw a) e

    -- and from its link on
    held_on : (link ≡ 0 → ⊥) → Held link left
    unfolding along end_cell all_symbols
    held_on z [] l o short alphabet m = clash cc
    held_on z (x ∷ u) l o short alphabet m =
        rw e at (h (s ∷ (x ∷ u)) l o (omega arith) (rw (a, alphabet)) (along_cons cells base s link output l o (x ∷ u) e z m))

module _ (cells other entries others : List ℕ) (size_cells : length cells ≡ length other) (size_entries : length entries ≡ length others) where
  abbrev SameCell : ℕ → Type 0
  SameCell n = SameBytes cell_size (cell_size * n) cells other

  abbrev SameEntry : ℕ → Type 0
  SameEntry k = SameBytes entry_size (entry_size * k - entry_size) entries others

  -- the same bytes in all that strings reach from a base on, in one of them or in the other
  abbrev Both : ℕ → ℕ → Type 0
  Both base left = Held cells entries SameCell SameEntry base left × Held other others SameCell SameEntry base left

  -- the same bytes in all entries of a chain, in one of them or in the other
  abbrev Chains : ℕ → Type 0
  Chains k = ((n : ℕ) → OnChain entries k n → SameEntry n) × ((n : ℕ) → OnChain others k n → SameEntry n)

  -- a cell that one of them matches is looked at alike, and so is one that neither matches
  looks_alike : (base left s : ℕ) → Both base (suc left) → Symbol s → look cells (base + s) s ≡ look other (base + s) s
  looks_alike base left s h a = go (look cells (base + s) s) refl (look other (base + s) s) refl
    where
      go : (x : Look) → look cells (base + s) s ≡ x → (y : Look) → look other (base + s) s ≡ y → look cells (base + s) s ≡ look other (base + s) s
      go (Some found) e y f = look_same cells other size_cells (base + s) s (held_here cells entries SameCell SameEntry base left s found.link found.output h.0 a e).0
      go None e (Some found) f = look_same cells other size_cells (base + s) s (held_here other others SameCell SameEntry base left s found.link found.output h.1 a f).0
      go None e None f = e ∙ sym f

  module _ (base left s : ℕ) (h : Both base (suc left)) (a : Symbol s) {link output : ℕ} (e : look cells (base + s) s ≡ hit link output) where
    both_here : Chains output
    both_here = (
      (held_here cells entries SameCell SameEntry base left s link output h.0 a e).1,
      (held_here other others SameCell SameEntry base left s link output h.1 a (sym (looks_alike base left s h a) ∙ e)).1,
    )

    -- how a walk goes on behind a match: not at all where the link is 0, else alike
    both_on : {A : Type 0} (none : A) (f g : ℕ → A) → ((l : ℕ) → Both l left → f l ≡ g l) → cond (eqb link 0) none (f link) ≡ cond (eqb link 0) none (g link)
    both_on {A} none f g next = go (eqb link 0) refl
      where
        go : (z : Bool) → eqb link 0 ≡ z → cond z none (f link) ≡ cond z none (g link)
        go true p = refl
        go false p =
            next link (
              held_on cells entries SameCell SameEntry base left s link output h.0 a e (eqb-false link 0 p),
              held_on other others SameCell SameEntry base left s link output h.1 a (sym (looks_alike base left s h a) ∙ e) (eqb-false link 0 p),
            )

  -- so a string ends alike in both
  along_alike : (u : List ℕ) (base left : ℕ) → Both base left → length u ≤ left → all_symbols u ≡ true → along cells base u ≡ along other base u
  unfolding along
  along_alike [] base left h short a = refl
  along_alike (s ∷ u) base zero h short a = absurd (omega arith)
  along_alike (s ∷ []) base (suc left) h short a = looks_alike base left s h (first_symbol s [] a)
  along_alike (s ∷ (x ∷ u)) base (suc left) h short a =
      rw (← (looks_alike base left s h symbol))
      (go (look cells (base + s) s) refl (λ l k. along_alike (x ∷ u) l left k (omega arith) (alphabet_rest s (x ∷ u) a)))
    where
      symbol : Symbol s
      symbol = first_symbol s (x ∷ u) a

      go : (found : Look) → look cells (base + s) s ≡ found → ((l : ℕ) → Both l left → along cells l (x ∷ u) ≡ along other l (x ∷ u))
          → onward (λ l. along cells l (x ∷ u)) found ≡ onward (λ l. along other l (x ∷ u)) found
      go None e next = unfold onward in refl
      go (Some found) e next = unfold onward in both_on base left s h symbol e None _ _ next

  -- an entry of a chain is read alike
  entries_alike : (k : ℕ) → Chains k → entry_at entries k ≡ entry_at others k
  entries_alike k c = go (entry_at entries k) refl (entry_at others k) refl
    where
      go : (x : Option Entry) → entry_at entries k ≡ x → (y : Option Entry) → entry_at others k ≡ y → entry_at entries k ≡ entry_at others k
      go (Some entry) e y f = entry_same entries others size_entries k (c.0 k (here e))
      go None e (Some entry) f = entry_same entries others size_entries k (c.1 k (here f))
      go None e None f = e ∙ sym f

  -- how a chain goes on behind an entry: not at all where its next is not lower, else alike
  chains_on : {A : Type 0} (none : A) (f g : ℕ → A) → ((n : ℕ) → Chains n → f n ≡ g n) → (k : ℕ) → Chains k → {distance level next : ℕ} → entry_at entries k ≡ has distance level next
      → cond (ltb next k) (f next) none ≡ cond (ltb next k) (g next) none
  chains_on {A} none f g rest k c {distance} {level} {next} e = go (ltb next k) refl
    where
      go : (z : Bool) → ltb next k ≡ z → cond z (f next) none ≡ cond z (g next) none
      go true p =
          let l = ltb-true next k p in
          rest next (λ n o. c.0 n (later e l o), λ n o. c.1 n (later (sym (entries_alike k c) ∙ e) l o))
      go false p = refl

  -- so a chain sets the same,
  chain_from_lem : (m end bound k : ℕ) → Chains k → chain_from entries m end bound k ≡ chain_from others m end bound k
  unfolding chain_from
  chain_from_lem m end zero k c = refl
  chain_from_lem m end (suc bound) k c = rw (← (entries_alike k c)) (go (entry_at entries k) refl (λ n d. chain_from_lem m end bound n d))
    where
      go : (x : Option Entry) → entry_at entries k ≡ x → ((n : ℕ) → Chains n → chain_from entries m end bound n ≡ chain_from others m end bound n)
          → chain_step (λ n. chain_from entries m end bound n) m end k x ≡ chain_step (λ n. chain_from others m end bound n) m end k x
      go None e rest = unfold chain_step in refl
      go (Some entry) e rest =
          unfold chain_step in ap (λ (l : List Setting). setting m end entry.distance entry.level ++ l) (chains_on [] _ _ rest k c e)

  chain_alike : (m end k : ℕ) → Chains k → chain entries m end k ≡ chain others m end k
  unfolding chain
  chain_alike m end k c = chain_from_lem m end k k c

  -- and has the same faults
  sound_from_lem : (m bound k : ℕ) → Chains k → sound_from entries m bound k ≡ sound_from others m bound k
  unfolding sound_from
  sound_from_lem m zero k c = refl
  sound_from_lem m (suc bound) k c =
      rw (← (entries_alike k c)) (ap (λ (z : Bool). cond (eqb k 0) true z) (go (entry_at entries k) refl (λ n d. sound_from_lem m bound n d)))
    where
      go : (x : Option Entry) → entry_at entries k ≡ x → ((n : ℕ) → Chains n → sound_from entries m bound n ≡ sound_from others m bound n)
          → sound_step (λ n. sound_from entries m bound n) m k x ≡ sound_step (λ n. sound_from others m bound n) m k x
      go None e rest = unfold sound_step in refl
      go (Some entry) e rest =
          unfold sound_step in ap (λ (z : Bool). (leb 1 entry.level && leb entry.level level_limit) && (leb entry.distance m && z))
          (and_cond (ltb entry.next k) (sound_from entries m bound entry.next) ∙ chains_on false _ _ rest k c e ∙ sym (and_cond (ltb entry.next k) (sound_from others m bound entry.next)))

  sound_alike : (m k : ℕ) → Chains k → sound entries m k ≡ sound others m k
  unfolding sound
  sound_alike m k c = sound_from_lem m k k c

  -- a walk sets the same
  sets_alike : (left base m end : ℕ) (row : List ℕ) → Both base left → all_symbols row ≡ true → set_from cells entries left base m end row ≡ set_from other others left base m end row
  unfolding set_from
  sets_alike zero base m end row h a = refl
  sets_alike (suc left) base m end [] h a = refl
  sets_alike (suc left) base m end (s ∷ row) h a =
      rw (← (looks_alike base left s h symbol)) (go (look cells (base + s) s) refl (λ l k. sets_alike left l (m + 1) (end + 1) row k (alphabet_rest s row a)))
    where
      symbol : Symbol s
      symbol = first_symbol s row a

      go : (found : Look) → look cells (base + s) s ≡ found
          → ((l : ℕ) → Both l left → set_from cells entries left l (m + 1) (end + 1) row ≡ set_from other others left l (m + 1) (end + 1) row)
          → set_step (λ l. set_from cells entries left l (m + 1) (end + 1) row) entries (m + 1) (end + 1) found
          ≡ set_step (λ l. set_from other others left l (m + 1) (end + 1) row) others (m + 1) (end + 1) found
      go None e next = unfold set_step in refl
      go (Some found) e next =
          unfold set_step in rw (chain_alike (m + 1) (end + 1) found.output (both_here base left s h symbol e), both_on base left s h symbol e [] _ _ next)

  -- and looks at as many cells
  count_alike : (left base : ℕ) (row : List ℕ) → Both base left → all_symbols row ≡ true → looks_from cells left base row ≡ looks_from other left base row
  unfolding looks_from
  count_alike zero base row h a = refl
  count_alike (suc left) base [] h a = refl
  count_alike (suc left) base (s ∷ row) h a =
      rw (← (looks_alike base left s h symbol)) (go (look cells (base + s) s) refl (λ l k. count_alike left l row k (alphabet_rest s row a)))
    where
      symbol : Symbol s
      symbol = first_symbol s row a

      go : (found : Look) → look cells (base + s) s ≡ found → ((l : ℕ) → Both l left → looks_from cells left l row ≡ looks_from other left l row)
          → look_step (λ l. looks_from cells left l row) found ≡ look_step (λ l. looks_from other left l row) found
      go None e next = unfold look_step in refl
      go (Some found) e next = unfold look_step in ap (λ (n : ℕ). 1 + n) (both_on base left s h symbol e 0 _ _ next)

  -- what the paths of one of them or of the other reach has the same bytes in both
  module _ (root : ℕ) (of_cells : (n : ℕ) → CellReached cells root n ⊎ CellReached other root n → SameCell n)
      (of_entries : (k : ℕ) → EntryReached cells entries root k ⊎ EntryReached other others root k → SameEntry k) where
    all_reached : Both root pattern_limit
    all_reached = (
      λ u link output short alphabet m.
          let p : Path cells root u = record { short = short; alphabet = alphabet; link = link; output = output; matches = m } in
          (of_cells _ (inl (record { string = u; path = p; ends = refl })), λ k c. of_entries k (inl (record { string = u; path = p; chained = c }))),
      λ u link output short alphabet m.
          let p : Path other root u = record { short = short; alphabet = alphabet; link = link; output = output; matches = m } in
          (of_cells _ (inr (record { string = u; path = p; ends = refl })), λ k c. of_entries k (inr (record { string = u; path = p; chained = c }))),
    )

    -- The walks from every place of a row set the same,
    pub settings_alike : (place : ℕ) (row : List ℕ) → all_symbols row ≡ true → settings cells entries root place row ≡ settings other others root place row
    unfolding settings
    settings_alike place [] a = refl
    settings_alike place (s ∷ row) a = rw (sets_alike pattern_limit root 0 place (s ∷ row) all_reached a, settings_alike (place + 1) row (alphabet_rest s row a))

    -- and look at as many cells.
    pub counts_alike : (row : List ℕ) → all_symbols row ≡ true → looks cells root row ≡ looks other root row
    unfolding looks
    counts_alike [] a = refl
    counts_alike (s ∷ row) a = rw (count_alike pattern_limit root (s ∷ row) all_reached a, counts_alike row (alphabet_rest s row a))

    -- a path of one is a path of the other, with the same output
    path_of_lem : (u : List ℕ) → Path cells root u → Path other root u
    path_of_lem u p =
        record {
          short = p.short;
          alphabet = p.alphabet;
          link = p.link;
          output = p.output;
          matches = sym (along_alike u root pattern_limit all_reached p.short p.alphabet) ∙ p.matches;
        }

    path_from : (u : List ℕ) → Path other root u → Path cells root u
    path_from u p =
        record {
          short = p.short;
          alphabet = p.alphabet;
          link = p.link;
          output = p.output;
          matches = along_alike u root pattern_limit all_reached p.short p.alphabet ∙ p.matches;
        }

    -- Where the paths of one are right for a list, those of the other are.
    pub paths_right_of : (patterns : List Pattern) → PathsRight patterns cells entries root → PathsRight patterns other others root
    unfolding path_from
    paths_right_of patterns r =
        record {
          reached = λ u b. path_of_lem u (r.reached u b);
          only = λ u p. r.only u (path_from u p);
          exact = exact;
          silent = λ u p none. r.silent u (path_from u p) none;
        }
      where
        exact : (i : ℕ) → i < length patterns → (link output : ℕ) → along other root (nth patterns i).symbols ≡ hit link output → Exact others (nth patterns i) output
        exact i l link output m =
            let u = (nth patterns i).symbols in
            let p = r.reached u (record { some = along_some other root u m; at = i; within = l; stands = begins_self u }) in
            let e : along cells root u ≡ hit link output = along_alike u root pattern_limit all_reached p.short p.alphabet ∙ m in
            let x = r.exact i l link output e in
            let c : Chains output = ((all_reached.0 u link output p.short p.alphabet e).1, (all_reached.1 u link output p.short p.alphabet m).1) in
            record {
              faultless = sym (sound_alike (length u) output c) ∙ x.faultless;
              levels = λ gap k. ap (λ (s : List Setting). highest_set s gap) (sym (chain_alike (length u) (length u) output c)) ∙ x.levels gap k;
            }
