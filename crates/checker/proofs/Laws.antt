-- Laws about the checker's test: one for each way through the code.
use Prim.Native.Nat.{ℕ, zero, suc, ◌+◌, ◌*◌, ◌-◌, ◌≤◌, ◌<◌, min}
use mathlib.Core.Bool.{Bool, true, false, cond, not, ◌&&◌, ◌||◌, and-true}
use mathlib.Core.List.{List, [], ◌∷◌, ◌++◌, map}
use mathlib.Core.Path.{◌≡◌, refl, sym, ◌∙◌, ap, subst}
use native.Mathlib.Decide.{dec_lt}
use native.Mathlib.Nat.{mul-suc}
use native.Mathlib.Numerals.{add-one}
use native.Mathlib.Omega.{arith}
use borrow.Author.Tests.{lt-leb, le-leb, lt-ltb, le-ltb, eq-eqb, ne_eqb, ltb-true, leb-true}
use lib.Dec.{leb, ltb, eqb}
use lib.ListN.{length, get_or, take, drop, replicate, get_or-replicate, drop_of_length-le}
use lib.Seq.{take-nil}
use denote.Param.Members.{Mut}
use denote.Ref.{Bor}
use Rattle.std.specs.Fn.{CalledAt, ComputesKey}
use Rattle.std.specs.List.{IsFirstMatchOrLen}
use Rattle.std.specs.Option.{MatchOption, unwrap_or}
use Rattle.base.specs.Limits.{symbol_limit, pattern_limit, level_limit, room_size}
use Rattle.base.specs.Grounds.{refuse_if}
use Rattle.std.specs.Prelude.{Ok, Err, Some, None, Option, is_some}
use Rattle.base.specs.declared.Ground.TheVariants.{NotRight}
use Rattle.base.proofs.Lists.{cons_at, both}
use Rattle.words.specs.Symbols.{line_feed, small, digit, symbol_of, symbols_of}
use Rattle.words.specs.Words.{inner}
use Rattle.lines.specs.Lines.{cut, line_length, any_of, line_letter, pattern_form, pattern_bytes, good_pattern}
use Rattle.lines.proofs.Laws.{cut_line}
use Rattle.lines.proofs.Splits.{cut_split}
use Rattle.lists.specs.Lists.{good_line, first_bad, judge_lines}
use Rattle.lists.specs.declared.Form.TheVariants.{Patterns}
use Rattle.lists.proofs.Theorems.{Passed, passed}
use Rattle.liang.specs.Patterns.{levels_from, pattern_of, patterns_of}
use Rattle.patterns.specs.Common.{common}
use Rattle.patterns.specs.Post.{Parts}
use Rattle.patterns.proofs.Laws.{rest_skip, rest_keep, rest_end, levels_digit, levels_symbol, levels_other, levels_end, rest_digit, line_levels, common_none}
use Rattle.table.specs.declared.Entry.{Entry}
use Rattle.table.specs.Table.{Look, hit, root_base, cell_count, entry_count, cells_of, entries_of, entry_at, look, has}
use Rattle.walk.specs.Chain.{chain}
use Rattle.walk.specs.Raise.{highest_set, raise_all}
use Rattle.walk.proofs.Raised.{raised_at, chain_moved}
use Rattle.trie.specs.Sound.{sound_step, sound_from, sound}
use Rattle.base.specs.Tests.{all_from}
use Rattle.rightness.specs.declared.Node.{Node}
use Rattle.rightness.specs.declared.Beside.{Beside}
use Rattle.rightness.specs.Test.{kinds_from, kinds_test, exact_test, linked, root_at, child_at, is_hit, none_between, passed_over, follow_step, follow, first_symbols, besides, patterns_right, paths_test, right_test, right_for}
use Rattle.base.proofs.All.{all_same, each_all, all_pass, all_fail, all_end}
use Rattle.checker.specs.Post.{same_levels}

-- the kinds of records
module _ (size kind : ℕ) (bytes : List ℕ) (n count : ℕ) where
  kinds_turn : n < count → kinds_from size kind bytes (size * n) (count - n) ≡ (eqb (get_or bytes (size * n) 0) kind && kinds_from size kind bytes (size * (n + 1)) (count - (n + 1)))
  unfolding kinds_from
  kinds_turn h =
      let e : count - n ≡ suc (count - (n + 1)) = omega arith in
      let f : size * (n + 1) ≡ size * n + size = rw add-one (mul-suc size n) in
      rw (e, f)

  pub kinds_other : n < count → {b : ℕ} → (b ≡ kind → ⊥) → b ≡ get_or bytes (size * n) 0 → kinds_from size kind bytes (size * n) (count - n) ≡ false
  kinds_other h d p = kinds_turn h ∙ rw (← p, ne_eqb _ kind d)

  pub kinds_pass : n < count → get_or bytes (size * n) 0 ≡ kind → kinds_from size kind bytes (size * n) (count - n) ≡ kinds_from size kind bytes (size * (n + 1)) (count - (n + 1))
  kinds_pass h d = kinds_turn h ∙ rw (eq-eqb (get_or bytes (size * n) 0) kind d)

  pub kinds_end : count ≤ n → kinds_from size kind bytes (size * n) (count - n) ≡ true
  unfolding kinds_from
  kinds_end h = let e : count - n ≡ 0 = omega arith in rw e

pub kinds_start : (size kind : ℕ) (bytes : List ℕ) (count : ℕ) → kinds_from size kind bytes 0 count ≡ kinds_from size kind bytes (size * 0) (count - 0)
kinds_start size kind bytes count = let e : count - 0 ≡ count = omega arith in let f : size * 0 ≡ 0 = omega arith in rw (e, f)

pub ruleset kinds_turns = (kinds_start, kinds_pass, kinds_end)

-- a faultless chain's equation, whatever bound its numbers are given
step_agrees : (f g : ℕ → Bool) (m k : ℕ) → ((j : ℕ) → j < k → f j ≡ g j) → (e : Option Entry) → sound_step f m k e ≡ sound_step g m k e
unfolding sound_step
step_agrees f g m k h None = refl
step_agrees f g m k h (Some entry) = go (ltb entry.next k) refl
  where
    go : (z : Bool) → ltb entry.next k ≡ z
        → ((leb 1 entry.level && leb entry.level level_limit) && (leb entry.distance m && (z && f entry.next))) ≡ ((leb 1 entry.level && leb entry.level level_limit) && (leb entry.distance m && (z && g entry.next)))
    go true p = ap (λ (r : Bool). (leb 1 entry.level && leb entry.level level_limit) && (leb entry.distance m && (true && r))) (h entry.next (ltb-true entry.next k p))
    go false p = refl

none_sound : (entries : List ℕ) (m : ℕ) (onward : Bool) (k : ℕ) → k ≡ 0 → eqb k 0 ≡ cond (eqb k 0) true onward
none_sound entries m onward k h = rw (eq-eqb k 0 h)

sound_bound : (entries : List ℕ) (m a b k : ℕ) → k ≤ a → k ≤ b → sound_from entries m a k ≡ sound_from entries m b k
unfolding sound_from
sound_bound entries m zero zero k h l = refl
sound_bound entries m zero (suc b) k h l = none_sound entries m (sound_step (λ j. sound_from entries m b j) m k (entry_at entries k)) k (omega arith)
sound_bound entries m (suc a) zero k h l = sym (none_sound entries m (sound_step (λ j. sound_from entries m a j) m k (entry_at entries k)) k (omega arith))
sound_bound entries m (suc a) (suc b) k h l =
    ap (cond (eqb k 0) true)
    (step_agrees (λ j. sound_from entries m a j) (λ j. sound_from entries m b j) m k (λ j i. sound_bound entries m a b j (omega arith) (omega arith)) (entry_at entries k))

pub sound_none : (entries : List ℕ) (m k : ℕ) → k ≡ 0 → true ≡ sound entries m k
unfolding sound sound_from
sound_none entries m k e = rw e

pub sound_turn : (entries : List ℕ) (m k : ℕ) → (k ≡ 0 → ⊥) → sound entries m k ≡ sound_step (λ j. sound entries m j) m k (entry_at entries k)
unfolding sound sound_from
sound_turn entries m zero h = absurd (h refl)
sound_turn entries m (suc k) h =
    rw (ne_eqb (suc k) 0 h)
    (step_agrees (λ j. sound_from entries m k j) (λ j. sound_from entries m j j) m (suc k) (λ j i. sound_bound entries m k j j (omega arith) (omega arith)) (entry_at entries (suc k)))

module _ (entries : List ℕ) (m k : ℕ) (z : k ≡ 0 → ⊥) {e : Option Entry} (p : e ≡ entry_at entries k) where
  pub sound_stop : e ≡ None → false ≡ sound entries m k
  unfolding sound_step
  sound_stop q = sym (sound_turn entries m k z ∙ rw (← p, q))

  module _ {d l next : ℕ} (q : e ≡ has d l next) where
    pub sound_low : l < 1 → false ≡ sound entries m k
    unfolding sound_step
    sound_low h = sym (sound_turn entries m k z ∙ rw (← p, q, lt-leb 1 l h))

    pub sound_high : 1 ≤ l → level_limit < l → false ≡ sound entries m k
    unfolding sound_step
    sound_high h i = sym (sound_turn entries m k z ∙ rw (← p, q, le-leb 1 l h, lt-leb l level_limit i))

    pub sound_far : 1 ≤ l → l ≤ level_limit → m < d → false ≡ sound entries m k
    unfolding sound_step
    sound_far h i f = sym (sound_turn entries m k z ∙ rw (← p, q, le-leb 1 l h, le-leb l level_limit i, lt-leb d m f))

    pub sound_back : 1 ≤ l → l ≤ level_limit → d ≤ m → k ≤ next → false ≡ sound entries m k
    unfolding sound_step
    sound_back h i f b = sym (sound_turn entries m k z ∙ rw (← p, q, le-leb 1 l h, le-leb l level_limit i, le-leb d m f, le-ltb next k b))

    pub sound_on : 1 ≤ l → l ≤ level_limit → d ≤ m → next < k → {r : Bool} → r ≡ sound entries m next → r ≡ sound entries m k
    unfolding sound_step
    sound_on h i f b r = r ∙ sym (sound_turn entries m k z ∙ rw (← p, q, le-leb 1 l h, le-leb l level_limit i, le-leb d m f, lt-ltb next k b))

-- a line's levels, one after the other
same_all : (room levels : List ℕ) (k n : ℕ) → length levels ≡ k + n → same_levels room k (drop k levels) ≡ all_from (λ gap. eqb (get_or room (gap + 1) 0) (get_or levels gap 0)) k n
unfolding same_levels all_from
same_all room levels k zero e = let h : length levels ≤ k = omega arith in rw (drop_of_length-le levels h)
same_all room levels k (suc n) e =
    let h : k < length levels = omega arith in
    rw (cons_at levels k h) (ap (λ (r : Bool). eqb (get_or room (k + 1) 0) (get_or levels k 0) && r) (rw add-one (same_all room levels (suc k) n (omega arith))))

module _ (room line : List ℕ) (gap level i : ℕ) where
  pub same_last : length line ≤ i → same_levels room gap (levels_from level (drop i line)) ≡ eqb (get_or room (gap + 1) 0) level
  unfolding same_levels
  same_last h = rw (levels_end line i level h) (and-true (eqb (get_or room (gap + 1) 0) level))

  module _ (h : i < length line) where
    pub same_digit : digit (get_or line i 0) ≡ true → {v : ℕ} → v ≡ get_or line i 0 - 48 → same_levels room gap (levels_from level (drop i line)) ≡ same_levels room gap (levels_from v (drop (i + 1) line))
    same_digit d e = rw (levels_digit line i level h d, e)

    module _ (d : digit (get_or line i 0) ≡ false) {s : ℕ} (p : s ≡ symbol_of (get_or line i 0)) where
      pub same_other : s ≡ 0 → same_levels room gap (levels_from level (drop i line)) ≡ same_levels room gap (levels_from level (drop (i + 1) line))
      same_other e = rw (levels_other line i level h d p e)

      module _ (e : s ≡ 0 → ⊥) where
        pub same_differs : (get_or room (gap + 1) 0 ≡ level → ⊥) → same_levels room gap (levels_from level (drop i line)) ≡ false
        unfolding same_levels
        same_differs n = rw (levels_symbol line i level h d p e, ne_eqb (get_or room (gap + 1) 0) level n)

        pub same_agrees : get_or room (gap + 1) 0 ≡ level → same_levels room gap (levels_from level (drop i line)) ≡ same_levels room (gap + 1) (levels_from 0 (drop (i + 1) line))
        unfolding same_levels
        same_agrees n = rw (levels_symbol line i level h d p e, eq-eqb (get_or room (gap + 1) 0) level n)

pub ruleset level_turns = (rest_skip, rest_keep, rest_digit, same_digit, same_other, same_differs, same_agrees)

-- an output's levels, as a room has them
module _ (entries line : List ℕ) (m output : ℕ) (size : m ≡ length (symbols_of line)) (short : m ≤ pattern_limit) where
  level_byte : (gap : ℕ) → gap < suc m → get_or (raise_all (m + 2) (chain entries m (m + 2) output) (replicate room_size 0)) (gap + 1) 0 ≡ highest_set (chain entries m m output) gap
  unfolding inner
  level_byte gap h =
      let e : suc (gap + 1) ≡ gap + 2 = omega arith in
      raised_at (m + 2) (chain entries m (m + 2) output) (replicate room_size 0) (gap + 1) (omega arith)
      ∙ rw (get_or-replicate {A = ℕ} room_size (gap + 1) 0 0 (omega arith), le-leb 1 (gap + 1) (omega arith), lt-ltb (gap + 1) (m + 2) (omega arith), e, chain_moved entries m m 2 gap (omega arith) output) (omega arith)

  pub exact_levels : {room : List ℕ} {r : Bool} → room ≡ raise_all (m + 2) (chain entries m (m + 2) output) (replicate room_size 0)
      → r ≡ same_levels room 0 (levels_from 0 line) → sound entries m output ≡ true → r ≡ exact_test entries (levels_from 0 line) m output
  unfolding exact_test
  exact_levels {room} p q s =
      q
      ∙ same_all room (levels_from 0 line) 0 (suc m) (omega (arith, line_levels 0 line, size))
      ∙ all_same _ _ 0 (suc m) (λ gap a b. ap (λ (n : ℕ). eqb n (get_or (levels_from 0 line) gap 0)) (ap (λ (l : List ℕ). get_or l (gap + 1) 0) p ∙ level_byte gap (omega (arith, b))))
      ∙ rw s

  pub exact_faulty : sound entries m output ≡ false → false ≡ exact_test entries (levels_from 0 line) m output
  unfolding exact_test
  exact_faulty s = rw s

-- how the table goes on from a node
module _ (cells : List ℕ) (node : Node) (s : ℕ) where
  pub child_leaf : node.leaf ≡ true → None ≡ child_at cells node s
  unfolding child_at
  child_leaf e = rw e

  pub child_look : node.leaf ≡ false → {l : Look} → l ≡ look cells (node.base + s) s → l ≡ child_at cells node s
  unfolding child_at
  child_look e p = rw e p

module _ (cells : List ℕ) (node : Node) where
  abbrev pub free : ℕ → Bool
  free s = not (is_hit (child_at cells node s))

  pub none_leaf : (low high : ℕ) → node.leaf ≡ true → true ≡ none_between cells node low high
  unfolding none_between
  none_leaf low high e = sym (each_all free (suc low) (high - suc low) (λ s a b. ap (λ (l : Look). not (is_hit l)) (sym (child_leaf cells node s e))))

  pub none_start : (low high : ℕ) → none_between cells node low high ≡ all_from free (low + 1) (high - (low + 1))
  unfolding none_between
  none_start low high = rw add-one

  module _ (e : node.leaf ≡ false) (s : ℕ) {l : Look} (p : l ≡ look cells (node.base + s) s) where
    pub free_hit : is_some l ≡ true → free s ≡ false
    free_hit q = ap (λ (k : Look). not (is_hit k)) (sym (child_look cells node s e p)) ∙ ap not q

    pub free_miss : is_some l ≡ false → free s ≡ true
    free_miss q = ap (λ (k : Look). not (is_hit k)) (sym (child_look cells node s e p)) ∙ ap not q

pub ruleset none_turns = (none_leaf, none_start, all_pass, free_miss)

-- the symbols that the list passes over, below the line's own and above it
module _ (cells : List ℕ) (beside : Beside) (node : Node) (m s : ℕ) where
  pub over_parted : m ≡ beside.known → {a : Bool} → a ≡ none_between cells node beside.low s → a ≡ false → false ≡ passed_over cells beside node m s
  unfolding passed_over
  over_parted h p e = rw (le-ltb m beside.known (omega arith), eq-eqb m beside.known h, ← p, e)

  pub over_first : beside.known < m → {a : Bool} → a ≡ none_between cells node 0 s → a ≡ false → false ≡ passed_over cells beside node m s
  unfolding passed_over
  over_first h p e = rw (le-ltb m beside.known (omega arith), ne_eqb m beside.known (λ q. omega arith), ← p, e)

  module _ (parted : m ≡ beside.known → none_between cells node beside.low s ≡ true) (first : beside.known < m → none_between cells node 0 s ≡ true) where
    none_below : (ltb m beside.known || none_between cells node (cond (eqb m beside.known) beside.low 0) s) ≡ true
    none_below = go (dec_lt m beside.known) (dec_lt beside.known m)
      where
        go : Dec (m < beside.known) → Dec (beside.known < m) → (ltb m beside.known || none_between cells node (cond (eqb m beside.known) beside.low 0) s) ≡ true
        go (yes k) d = rw (lt-ltb m beside.known k)
        go (no k) (yes l) = rw (le-ltb m beside.known (omega arith), ne_eqb m beside.known (λ q. omega arith), first l)
        go (no k) (no l) = let q : m ≡ beside.known = omega arith in rw (le-ltb m beside.known (omega arith), eq-eqb m beside.known q, parted q)

    pub over_kept : m ≤ beside.kept → leb m beside.kept ≡ passed_over cells beside node m s
    unfolding passed_over
    over_kept h = rw (none_below, le-leb m beside.kept h)

    pub over_above : beside.kept < m → {r : Bool} → r ≡ none_between cells node s (suc symbol_limit) → r ≡ passed_over cells beside node m s
    unfolding passed_over
    over_above h q = rw (none_below, lt-leb m beside.kept h) q

-- The output of a beginning of m symbols passes: the line above has the beginning, or the output is 0.
pub record Quiet (known output m : ℕ) : Type 0 where
  pub passes : (leb m known || eqb output 0) ≡ true

-- one pattern line, followed symbol by symbol
module _ (cells entries levels : List ℕ) (beside : Beside) (node : Node) (output m : ℕ) where
  pub follow_inexact : {a : Bool} → a ≡ exact_test entries levels m output → a ≡ false → false ≡ follow cells entries levels beside node output m []
  unfolding follow
  follow_inexact p e = rw (← p, e)

  pub follow_longest : {a : Bool} → a ≡ exact_test entries levels m output → a ≡ true → pattern_limit ≤ m → true ≡ follow cells entries levels beside node output m []
  unfolding follow
  follow_longest p e h = rw (← p, e, le-leb pattern_limit m h)

  pub follow_last : {a r : Bool} → a ≡ exact_test entries levels m output → a ≡ true → m < pattern_limit → r ≡ passed_over cells beside node m 0
      → r ≡ follow cells entries levels beside node output m []
  unfolding follow
  follow_last p e h q = rw (← p, e, lt-leb pattern_limit m h) q

  module _ (own : List ℕ) (i : ℕ) where
    -- the symbols that are left, from a place of the line on
    abbrev pub left : Bool
    left = follow cells entries levels beside node output m (symbols_of (drop i own))

    pub follow_end : length own ≤ i → {r : Bool} → r ≡ follow cells entries levels beside node output m [] → r ≡ left
    follow_end h q = rw (rest_end own i h) q

    module _ (h : i < length own) {s : ℕ} (p : s ≡ symbol_of (get_or own i 0)) where
      pub follow_skip : s ≡ 0 → left ≡ follow cells entries levels beside node output m (symbols_of (drop (i + 1) own))
      follow_skip e = rw (rest_skip own i h p e)

      module _ (e : s ≡ 0 → ⊥) where
        follow_turn : left
            ≡ ((leb m beside.known || eqb output 0)
            && (passed_over cells beside node m s
            && follow_step (λ link out. follow cells entries levels beside (linked link) out (m + 1) (symbols_of (drop (i + 1) own))) (child_at cells node s)))
        unfolding follow
        follow_turn = rw (rest_keep own i h p e)

        pub follow_loud : beside.known < m → eqb output 0 ≡ false → left ≡ false
        follow_loud h z = follow_turn ∙ rw (lt-leb m beside.known h, z)

        module _ (x : Quiet beside.known output m) {b : Bool} (w : b ≡ passed_over cells beside node m s) where
          pub follow_crossed : b ≡ false → left ≡ false
          follow_crossed z = follow_turn ∙ rw (x.passes, ← w, z)

          module _ (v : b ≡ true) where
            pub follow_leaf : node.leaf ≡ true → left ≡ false
            unfolding follow_step
            follow_leaf l = follow_turn ∙ rw (x.passes, ← w, v, ← child_leaf cells node s l)

            module _ (l : node.leaf ≡ false) {found : Look} (q : found ≡ look cells (node.base + s) s) where
              pub follow_miss : found ≡ None → left ≡ false
              unfolding follow_step
              follow_miss z = follow_turn ∙ rw (x.passes, ← w, v, ← child_look cells node s l q, z)

              pub follow_on : {link out : ℕ} → found ≡ hit link out → left ≡ follow cells entries levels beside (linked link) out (m + 1) (symbols_of (drop (i + 1) own))
              unfolding follow_step
              follow_on z = follow_turn ∙ rw (x.passes, ← w, v, ← child_look cells node s l q, z)

-- What holds between two symbols of a line: how many are followed, and that the rest decides.
pub record Following (cells entries : List ℕ) (root : ℕ) (own : List ℕ) (beside : Beside) (node : Node) (output m i : ℕ) : Type 0 where
  pub short : length (symbols_of own) ≤ pattern_limit
  pub counted : m + length (symbols_of (drop i own)) ≡ length (symbols_of own)
  pub same : follow cells entries (levels_from 0 own) beside (root_at root) 0 0 (symbols_of own)
      ≡ follow cells entries (levels_from 0 own) beside node output m (symbols_of (drop i own))

pub following_start : (cells entries : List ℕ) (root : ℕ) (own : List ℕ) (beside : Beside) → length (symbols_of own) ≤ pattern_limit
    → Following cells entries root own beside (root_at root) 0 0 0
following_start cells entries root own beside h = record { short = h; counted = omega arith; same = refl }

module _ (cells entries : List ℕ) (root : ℕ) (own : List ℕ) (beside : Beside) (node : Node) (output m i : ℕ) (f : Following cells entries root own beside node output m i) where
  pub following_end : length own ≤ i → m ≡ length (symbols_of own)
  following_end h = omega (arith, f.counted, ap length (rest_end own i h))

  module _ (h : i < length own) {s : ℕ} (p : s ≡ symbol_of (get_or own i 0)) where
    pub following_skip : s ≡ 0 → Following cells entries root own beside node output m (i + 1)
    following_skip e =
        record {
          short = f.short;
          counted = omega (arith, f.counted, ap length (rest_skip own i h p e));
          same = f.same ∙ follow_skip cells entries (levels_from 0 own) beside node output m own i h p e;
        }

    module _ (e : s ≡ 0 → ⊥) where
      pub following_few : m < pattern_limit
      following_few = omega (arith, f.counted, f.short, ap length (rest_keep own i h p e))

      pub following_on : {link out : ℕ} → follow cells entries (levels_from 0 own) beside node output m (symbols_of (drop i own))
          ≡ follow cells entries (levels_from 0 own) beside (linked link) out (m + 1) (symbols_of (drop (i + 1) own))
          → Following cells entries root own beside (linked link) out (m + 1) (i + 1)
      following_on t = record { short = f.short; counted = omega (arith, f.counted, ap length (rest_keep own i h p e)); same = f.same ∙ t }

-- a good line has at most 16 symbols
good_short : (l : List ℕ) → good_line Patterns l ≡ true → length (symbols_of l) ≤ pattern_limit
unfolding good_line good_pattern pattern_bytes
good_short l e =
    let form = (both (pattern_form line_letter true false l) _ (both (pattern_bytes line_letter l) _ e).0).1 in
    let letters = (both (any_of small l) _ form).1 in
    leb-true (length (symbols_of l)) pattern_limit (both (any_of digit l) _ letters).1

-- the lines that are left, where the next one is in hand: `rest` is what is left of the text behind it
abbrev pub ahead : Option (Bor (List ℕ)) → List ℕ → List (List ℕ)
ahead None rest = []
ahead (Some line) rest = line.now ∷ cut rest

-- `next` of the lines of a text takes the first of them in hand. The closure tells line feeds.
pub ahead_next : {F : Type 0} (g : Mut F (Bor ℕ × Unit {0}) Bool) {f : F} (f' : F) (T : Type 0) (text rest : List ℕ) (next : Option (Bor (List ℕ)))
    → MatchOption next ((length text ≡ 0) × T)
    (λ x. (text ≡ x.now ++ rest) × ((i : ℕ) × (length x.now ≡ min (i + 1) (length text)) × ((p : ℕ → Bool) → ComputesKey g p f → ComputesKey g p f' × IsFirstMatchOrLen p text i)) × (0 < length text))
    → ((b : ℕ) (r : Bool) (q : F) → CalledAt g f b r q → (q ≡ f) × (r ≡ eqb b line_feed)) → cut text ≡ ahead next rest
unfolding cut
ahead_next g f' T [] rest None m tells = refl
ahead_next g f' T (b ∷ t) rest None m tells = absurd (omega (arith, m.0))
ahead_next g f' T text rest (Some x) m tells = cut_split g text x.now rest m tells

-- where a line parts from the line in hand, of which there is none at the end
pub ahead_parts : (next : Option (Bor (List ℕ))) (rest : List ℕ) (empty : Bor (List ℕ)) {own : List ℕ} {line : Bor (List ℕ)} {kept symbol : ℕ} → empty.now ≡ [] → line ≡ unwrap_or next empty
    → Parts own (symbols_of line.now) kept symbol → Parts own (first_symbols (map pattern_of (ahead next rest))) kept symbol
unfolding pattern_of symbols_of
ahead_parts next rest empty {own = own} {line = line} {kept = kept} {symbol = symbol} e p = subst (λ (l : List ℕ). Parts own l kept symbol) (go next p)
  where
    go : (next : Option (Bor (List ℕ))) → line ≡ unwrap_or next empty → symbols_of line.now ≡ first_symbols (map pattern_of (ahead next rest))
    go None p = rw (p, e)
    go (Some x) p = rw p

-- the first of the patterns from a place on
pub first_symbols_lem : (w : List ℕ) (i e : ℕ) → e ≡ i + line_length (drop i w) → first_symbols (map pattern_of (cut (drop i w))) ≡ symbols_of (take (e - i) (drop i w))
unfolding pattern_of cut symbols_of
first_symbols_lem w i e q = go (dec_lt i (length w))
  where
    go : Dec (i < length w) → first_symbols (map pattern_of (cut (drop i w))) ≡ symbols_of (take (e - i) (drop i w))
    go (yes k) = rw (cut_line w i e k q)
    go (no k) = let h : length w ≤ i = omega arith in rw (drop_of_length-le w h, take-nil {A = ℕ} (e - i))

-- What holds between two lines of a good text: what the line at hand shares with the one above it, and what is left to test.
pub record Lined (cells entries : List ℕ) (root : ℕ) (w : List ℕ) (known low : ℕ) (lines : List (List ℕ)) : Type 0 where
  pub above : List ℕ
  pub at : ℕ
  pub good : first_bad Patterns at above lines ≡ Ok tt
  pub shares : known ≡ common (symbols_of above) (first_symbols (map pattern_of lines))
  pub follows : low ≡ get_or (symbols_of above) (common (symbols_of above) (first_symbols (map pattern_of lines))) 0
  pub same : patterns_right cells entries root [] (patterns_of w) ≡ patterns_right cells entries root (symbols_of above) (map pattern_of lines)

module _ (cells entries : List ℕ) (root : ℕ) (w : List ℕ) where
  pub lined_start : (text : List ℕ) (lines : List (List ℕ)) → text ≡ w → cut text ≡ lines → judge_lines Patterns w ≡ Ok tt → Lined cells entries root w 0 0 lines
  unfolding judge_lines patterns_of symbols_of common
  lined_start text lines e f g =
      subst (Lined cells entries root w 0 0) (ap cut (sym e) ∙ f) (record { above = []; at = 0; good = g; shares = refl; follows = refl; same = refl })

  module _ (known low : ℕ) where
    pub lined_done : (next : Option (Bor (List ℕ))) (text : List ℕ) → ((line : Bor (List ℕ)) → next ≡ Some line → ⊥) → Lined cells entries root w known low (ahead next text)
        → {r : Bool} → r ≡ none_between cells (root_at root) low (suc symbol_limit) → r ≡ patterns_right cells entries root [] (patterns_of w)
    unfolding patterns_right
    lined_done None text none l q = q ∙ sym (l.same ∙ rw (l.follows, common_none (symbols_of l.above)))
    lined_done (Some x) text none l q = absurd (none x refl)

    -- with a line in hand, and the next one taken
    module _ (next below : Option (Bor (List ℕ))) (text rest : List ℕ) {own : Bor (List ℕ)} (e : next ≡ Some own) (f : cut text ≡ ahead below rest) (l : Lined cells entries root w known low (ahead next text)) where
      at_line : Lined cells entries root w known low (own.now ∷ ahead below rest)
      at_line = subst (λ (ls : List (List ℕ)). Lined cells entries root w known low (own.now ∷ ls)) f (subst (λ (o : Option (Bor (List ℕ))). Lined cells entries root w known low (ahead o text)) e l)

      passes : Passed Patterns at_line.at at_line.above own.now (ahead below rest)
      passes = passed Patterns at_line.at at_line.above own.now (ahead below rest) at_line.good

      pub fewer : length (ahead below rest) < length (ahead next text)
      fewer = omega (arith, ap (λ (o : Option (Bor (List ℕ))). length (ahead o text)) e, ap length f)

      pub line_short : length (symbols_of own.now) ≤ pattern_limit
      line_short = good_short own.now passes.good

      module _ {kept symbol : ℕ} (p : Parts (symbols_of own.now) (first_symbols (map pattern_of (ahead below rest))) kept symbol)
          {r : Bool} (q : r ≡ follow cells entries (levels_from 0 own.now) (record { known = known; low = low; kept = kept }) (root_at root) 0 0 (symbols_of own.now)) where
        turn : patterns_right cells entries root [] (patterns_of w) ≡ (r && patterns_right cells entries root (symbols_of own.now) (map pattern_of (ahead below rest)))
        unfolding patterns_right pattern_of besides
        turn = at_line.same ∙ rw (← at_line.follows, ← at_line.shares, ← p.count, ← q)

        pub lined_wrong : r ≡ false → patterns_right cells entries root [] (patterns_of w) ≡ false
        lined_wrong z = turn ∙ rw z

        pub lined_on : r ≡ true → Lined cells entries root w kept symbol (ahead below rest)
        lined_on z =
            record { above = own.now; at = at_line.at + length own.now; good = passes.onward; shares = p.count; follows = p.next; same = turn ∙ rw z }

-- the checker's last ground: the kinds, and then the list's paths
module _ (text table : List ℕ) {cells entries : List ℕ} {c e : ℕ} (p : cells ≡ cells_of table) (q : entries ≡ entries_of table) (n : c ≡ cell_count table) (k : e ≡ entry_count table)
    {a : Bool} (x : a ≡ kinds_test cells entries c e) where
  pub refused_kinds : a ≡ false → refuse_if (not (right_for text table)) NotRight ≡ Err NotRight
  unfolding right_test
  refused_kinds z = rw (← p, ← q, ← n, ← k, ← x, z)

  module _ (z : a ≡ true) {b : Bool} (y : b ≡ paths_test (patterns_of text) cells entries root_base) where
    pub refused_paths : b ≡ false → refuse_if (not (right_for text table)) NotRight ≡ Err NotRight
    unfolding right_test
    refused_paths w = rw (← p, ← q, ← n, ← k, ← x, z, ← y, w)

    pub accepted_right : b ≡ true → refuse_if (not (right_for text table)) NotRight ≡ Ok tt
    unfolding right_test
    accepted_right w = rw (← p, ← q, ← n, ← k, ← x, z, ← y, w)
