-- Entering a pattern's levels: earlier entries stay, and the chain made or found sets exactly the pattern's levels.
use Prim.Native.Nat.{ℕ, zero, suc, ◌+◌, ◌*◌, ◌-◌, ◌/◌, ◌%◌, ◌≤◌, ◌<◌, max}
use mathlib.Core.Bool.{Bool, true, false, cond}
use mathlib.Core.List.{List}
use mathlib.Core.Path.{◌≡◌, refl, sym, ◌∙◌, ap, subst}
use native.Mathlib.Decide.{ℕ_discrete, dec_lt}
use native.Mathlib.Omega.{arith}
use borrow.Author.Tests.{eqb-true, eqb-false, ltb-true, le-leb, lt-ltb, le-ltb, eq-eqb, ne_eqb}
use lib.Dec.{leb, ltb, eqb}
use lib.ListN.{length, get_or, set, length-set}
use lib.Seq.{get_or-set_same, get_or-set_other}
use Rattle.base.specs.Limits.{level_limit, entry_limit}
use Rattle.table.specs.Table.{entry_kind, entry_size, entry_room, number_at, entry_at, has}
use Rattle.table.proofs.Laws.{entry_has}
use Rattle.walk.specs.Chain.{Setting, setting, chain_step, chain_from, chain}
use Rattle.walk.specs.Raise.{highest_set}
use Rattle.walk.proofs.Laws.{chain_turn}
use Rattle.trie.specs.Sound.{sound_step, sound_from, sound}
use Rattle.base.proofs.Lists.{both}
use Rattle.fit.specs.Cells.{put_number}
use Rattle.fit.specs.Entries.{holds, find_entry, put_entry, Entries, TooMany, Made, enter_at, enter, enter_levels}
use Rattle.fit_trie.proofs.Bytes.{number_same, put_length, put_kept, put_high, put_low, put_read}

-- where entry k stands
abbrev place : ℕ → ℕ
place k = entry_size * (k - 1)

-- an entry of kind 3, read by its place
entry_read : (bytes : List ℕ) (k : ℕ) → 1 ≤ k → entry_size * k ≤ length bytes → get_or bytes (place k) 0 ≡ entry_kind
    → entry_at bytes k ≡ has (get_or bytes (place k + 1) 0) (get_or bytes (place k + 2) 0) (number_at bytes (place k + 3))
entry_read bytes k h l e =
    let a : entry_size * k - 5 ≡ place k = omega arith in
    let b : entry_size * k - 4 ≡ place k + 1 = omega arith in
    let c : entry_size * k - 3 ≡ place k + 2 = omega arith in
    let d : entry_size * k - 2 ≡ place k + 3 = omega arith in
    sym (entry_has bytes k h l (ap (λ (i : ℕ). get_or bytes i 0) a ∙ e) refl) ∙ rw (b, c, d)

-- the entries so far: all of kind 3, and each next lower than its own number
pub record Entered (bytes : List ℕ) (count : ℕ) : Type 0 where
  pub size : length bytes ≡ entry_room
  pub few : count ≤ entry_limit
  pub kind : (k : ℕ) → 1 ≤ k → k ≤ count → get_or bytes (place k) 0 ≡ entry_kind
  pub lower : (k : ℕ) → 1 ≤ k → k ≤ count → number_at bytes (place k + 3) < k

-- entries up to a number are as they were
abbrev pub Kept : List ℕ → List ℕ → ℕ → Type 0
Kept a b count = (j : ℕ) → j ≤ count → entry_at b j ≡ entry_at a j

-- an entry with these numbers on top of `next`
record Topped (bytes : List ℕ) (count distance level next : ℕ) (after : List ℕ) (total last : ℕ) : Type 0 where
  entered : Entered after total
  grown : count ≤ total
  kept : Kept bytes after count
  within : last ≤ total
  above : next < last
  has : entry_at after last ≡ has distance level next

abbrev ToppedIn : List ℕ → ℕ → ℕ → ℕ → ℕ → Entries → Type 0
ToppedIn bytes count distance level next TooMany = Unit
ToppedIn bytes count distance level next (Made after total last) = Topped bytes count distance level next after total last

-- what a byte-wise equal part says of an entry
pub entry_same : (a b : List ℕ) (k : ℕ) → (leb (entry_size * k) (length a) ≡ leb (entry_size * k) (length b)) → ((i : ℕ) → i < entry_size * k → get_or a i 0 ≡ get_or b i 0) → entry_at a k ≡ entry_at b k
unfolding entry_at
entry_same a b zero l h = refl
entry_same a b (suc k) l h =
    let p = h (entry_size * suc k - 5) (omega arith) in
    let q = h (entry_size * suc k - 4) (omega arith) in
    let r = h (entry_size * suc k - 3) (omega arith) in
    let n = number_same a b (entry_size * suc k - 2) (h (entry_size * suc k - 2) (omega arith)) (h (entry_size * suc k - 2 + 1) (omega arith)) in
    rw (l, p, q, r, n)

-- one entry put behind the others
module _ (bytes : List ℕ) (at distance level next : ℕ) (room : at + entry_size ≤ length bytes) where
  abbrev one : List ℕ
  one = set bytes at entry_kind

  abbrev two : List ℕ
  two = set one (at + 1) distance

  abbrev three : List ℕ
  three = set two (at + 2) level

  three_length : length three ≡ length bytes
  three_length = simp length-set

  pub entry_length : length (put_entry bytes at distance level next) ≡ length bytes
  unfolding put_entry
  entry_length = put_length (at + 3) next three ∙ three_length

  pub entry_kept : (i : ℕ) → i < at → get_or (put_entry bytes at distance level next) i 0 ≡ get_or bytes i 0
  unfolding put_entry
  entry_kept i h =
      put_kept (at + 3) next three i (λ e. omega (arith, e)) (λ e. omega (arith, e))
      ∙ get_or-set_other two (at + 2) i level 0 (λ e. omega (arith, e))
      ∙ get_or-set_other one (at + 1) i distance 0 (λ e. omega (arith, e))
      ∙ get_or-set_other bytes at i entry_kind 0 (λ e. omega (arith, e))

  pub entry_kind_lem : get_or (put_entry bytes at distance level next) at 0 ≡ entry_kind
  unfolding put_entry
  entry_kind_lem =
      put_kept (at + 3) next three at (λ e. omega (arith, e)) (λ e. omega (arith, e))
      ∙ get_or-set_other two (at + 2) at level 0 (λ e. omega (arith, e))
      ∙ get_or-set_other one (at + 1) at distance 0 (λ e. omega (arith, e))
      ∙ get_or-set_same bytes at entry_kind 0 (omega arith)

  pub entry_distance : get_or (put_entry bytes at distance level next) (at + 1) 0 ≡ distance
  unfolding put_entry
  entry_distance =
      put_kept (at + 3) next three (at + 1) (λ e. omega (arith, e)) (λ e. omega (arith, e))
      ∙ get_or-set_other two (at + 2) (at + 1) level 0 (λ e. omega (arith, e))
      ∙ get_or-set_same (set bytes at entry_kind) (at + 1) distance 0 (omega (arith, length-set bytes at entry_kind))

  pub entry_level : get_or (put_entry bytes at distance level next) (at + 2) 0 ≡ level
  unfolding put_entry
  entry_level =
      put_kept (at + 3) next three (at + 2) (λ e. omega (arith, e)) (λ e. omega (arith, e))
      ∙ get_or-set_same (set (set bytes at entry_kind) (at + 1) distance) (at + 2) level 0 (omega (arith, length-set bytes at entry_kind, length-set (set bytes at entry_kind) (at + 1) distance))

  pub entry_high : get_or (put_entry bytes at distance level next) (at + 3) 0 ≡ next / 256
  unfolding put_entry
  entry_high = put_high (at + 3) next three (omega (arith, three_length))

  pub entry_low : get_or (put_entry bytes at distance level next) (at + 4) 0 ≡ next % 256
  unfolding put_entry
  entry_low = let e : at + 4 ≡ at + 3 + 1 = omega arith in ap (λ (i : ℕ). get_or (put_number (at + 3) next three) i 0) e ∙ put_low (at + 3) next three (omega (arith, three_length))

  entry_next : number_at (put_entry bytes at distance level next) (at + 3) ≡ next
  unfolding put_entry
  entry_next = put_read (at + 3) next three (omega (arith, three_length))

module _ (bytes : List ℕ) (distance level next : ℕ) where
  holds_says : (at : ℕ) → holds bytes at distance level next ≡ true → (get_or bytes (at + 1) 0 ≡ distance) × (get_or bytes (at + 2) 0 ≡ level) × (number_at bytes (at + 3) ≡ next)
  unfolding holds
  holds_says at e =
      let p = both (eqb (get_or bytes (at + 1) 0) distance) _ e in
      let q = both (eqb (get_or bytes (at + 2) 0) level) _ p.1 in
      (eqb-true (get_or bytes (at + 1) 0) distance p.0, eqb-true (get_or bytes (at + 2) 0) level q.0, eqb-true (number_at bytes (at + 3)) next q.1)

  -- an entry found holds the three numbers
  find_says : (n k : ℕ) → (find_entry bytes distance level next k n ≡ 0 → ⊥)
      → (k ≤ find_entry bytes distance level next k n) × (find_entry bytes distance level next k n < k + n)
      × (holds bytes (place (find_entry bytes distance level next k n)) distance level next ≡ true)
  unfolding find_entry
  find_says zero k d = absurd (d refl)
  find_says (suc n) k d = go (holds bytes (place k) distance level next) refl (find_says n (suc k)) d
    where
      go : (z : Bool) → holds bytes (place k) distance level next ≡ z
          → ((find_entry bytes distance level next (suc k) n ≡ 0 → ⊥)
          → (suc k ≤ find_entry bytes distance level next (suc k) n) × (find_entry bytes distance level next (suc k) n < suc k + n)
          × (holds bytes (place (find_entry bytes distance level next (suc k) n)) distance level next ≡ true))
          → (cond z k (find_entry bytes distance level next (suc k) n) ≡ 0 → ⊥)
          → (k ≤ cond z k (find_entry bytes distance level next (suc k) n)) × (cond z k (find_entry bytes distance level next (suc k) n) < k + suc n)
          × (holds bytes (place (cond z k (find_entry bytes distance level next (suc k) n))) distance level next ≡ true)
      go true p rest d = (omega arith, omega arith, p)
      go false p rest d = let r = rest d in (omega (arith, r.0), omega (arith, r.1), r.2)

  module _ (count : ℕ) (entered : Entered bytes count) (low : next ≤ count) where
    -- an equal earlier entry is used again
    found_topped : (found : ℕ) → 1 ≤ found → found ≤ count → holds bytes (place found) distance level next ≡ true → Topped bytes count distance level next bytes count found
    found_topped found h l e =
        let s = holds_says (place found) e in
        let r = entry_read bytes found h (omega (arith, entered.size, entered.few)) (entered.kind found h l) in
        record {
          entered = entered;
          grown = omega arith;
          kept = λ j k. refl;
          within = l;
          above = omega (arith, entered.lower found h l, s.2);
          has = r ∙ rw (s.0, s.1, s.2);
        }

    -- else one more is made
    made_topped : count < entry_limit → Topped bytes count distance level next (put_entry bytes (entry_size * count) distance level next) (suc count) (suc count)
    made_topped h =
        record {
          entered = record { size = entry_length bytes at distance level next room ∙ entered.size; few = h; kind = kind; lower = lower };
          grown = omega arith;
          kept = λ j k. entry_same after bytes j (ap (leb (entry_size * j)) (entry_length bytes at distance level next room)) (λ i l. entry_kept bytes at distance level next room i (omega arith));
          within = omega arith;
          above = omega arith;
          has = top;
        }
      where
        at : ℕ
        at = entry_size * count

        after : List ℕ
        after = put_entry bytes (entry_size * count) distance level next

        room : entry_size * count + entry_size ≤ length bytes
        room = omega (arith, entered.size)

        here : place (suc count) ≡ entry_size * count
        here = omega arith

        kind : (k : ℕ) → 1 ≤ k → k ≤ suc count → get_or after (place k) 0 ≡ entry_kind
        kind k l r = of (ℕ_discrete (suc count) k)
          where
            of : Dec (suc count ≡ k) → get_or after (place k) 0 ≡ entry_kind
            of (yes e) = ap (λ (i : ℕ). get_or after (place i) 0) (sym e) ∙ ap (λ (i : ℕ). get_or after i 0) here ∙ entry_kind_lem bytes at distance level next room
            of (no d) = entry_kept bytes at distance level next room (place k) (omega arith) ∙ entered.kind k l (omega arith)

        lower : (k : ℕ) → 1 ≤ k → k ≤ suc count → number_at after (place k + 3) < k
        lower k l r = of (ℕ_discrete (suc count) k)
          where
            of : Dec (suc count ≡ k) → number_at after (place k + 3) < k
            of (yes e) =
                let n : number_at after (place k + 3) ≡ next =
                ap (λ (i : ℕ). number_at after (place i + 3)) (sym e) ∙ ap (λ (i : ℕ). number_at after (i + 3)) here ∙ entry_next bytes at distance level next room in
                omega arith
            of (no d) =
                let n = number_same after bytes (place k + 3) (entry_kept bytes at distance level next room (place k + 3) (omega arith))
                (entry_kept bytes at distance level next room (place k + 3 + 1) (omega arith)) in
                omega (arith, n, entered.lower k l (omega arith))

        top : entry_at after (suc count) ≡ has distance level next
        top =
            entry_read after (suc count) (omega arith) (omega (arith, entry_length bytes at distance level next room, entered.size)) (kind (suc count) (omega arith) (omega arith))
            ∙ rw (here, entry_distance bytes at distance level next room, entry_level bytes at distance level next room, entry_next bytes at distance level next room)

    enter_topped : ToppedIn bytes count distance level next (enter distance level (Made bytes count next))
    unfolding enter enter_at
    enter_topped = go (find_entry bytes distance level next 1 count) (λ d. find_says count 1 d) (ℕ_discrete (find_entry bytes distance level next 1 count) 0) (ltb count entry_limit) refl
      where
        go : (found : ℕ) → ((found ≡ 0 → ⊥) → (1 ≤ found) × (found < 1 + count) × (holds bytes (place found) distance level next ≡ true)) → Dec (found ≡ 0) → (z : Bool) → ltb count entry_limit ≡ z
            → ToppedIn bytes count distance level next (cond (eqb found 0) (cond z (Made (put_entry bytes (entry_size * count) distance level next) (suc count) (suc count)) TooMany) (Made bytes count found))
        go found says (yes e) true p = rw (eq-eqb found 0 e) (made_topped (ltb-true count entry_limit p))
        go found says (yes e) false p = rw (eq-eqb found 0 e) tt
        go found says (no d) z p = let s = says d in rw (ne_eqb found 0 d) (found_topped found s.0 (omega (arith, s.1)) s.2)

-- A chain of a pattern's levels at the distances below d, up to number k. `m` is the pattern's length.
pub data Runs (bytes levels : List ℕ) (m : ℕ) : ℕ → ℕ → Type 0 where
  none : Runs bytes levels m 0 0
  skip : {d k : ℕ} → Runs bytes levels m d k → d ≤ m → get_or levels (m - d) 0 ≡ 0 → Runs bytes levels m (suc d) k
  more : {d k next : ℕ} → Runs bytes levels m d next → d ≤ m → 1 ≤ get_or levels (m - d) 0 → get_or levels (m - d) 0 ≤ level_limit → next < k
      → entry_at bytes k ≡ has d (get_or levels (m - d) 0) next → Runs bytes levels m (suc d) k

module _ (levels : List ℕ) (m : ℕ) where
  -- later entries change nothing of a chain
  pub runs_kept : {a : List ℕ} {d k : ℕ} → (b : List ℕ) (count : ℕ) → Kept a b count → k ≤ count → Runs a levels m d k → Runs b levels m d k
  runs_kept b count kept h none = none
  runs_kept b count kept h (skip r l e) = skip (runs_kept b count kept h r) l e
  runs_kept b count kept h (more {d} {k} {next} r l p q f e) = more (runs_kept b count kept (omega arith) r) l p q f (kept k h ∙ e)

  -- such a chain has no fault
  runs_sound : {bytes : List ℕ} {d k : ℕ} → (bound : ℕ) → k ≤ bound → Runs bytes levels m d k → sound_from bytes m bound k ≡ true
  unfolding sound_from sound_step
  runs_sound zero h none = refl
  runs_sound (suc bound) h none = refl
  runs_sound bound h (skip r l e) = runs_sound bound h r
  runs_sound zero h (more {d} {k} {next} r l p q f e) = absurd (omega arith)
  runs_sound (suc bound) h (more {d} {k} {next} r l p q f e) =
      rw (ne_eqb k 0 (λ z. omega (arith, z, f)), e, le-leb 1 (get_or levels (m - d) 0) p, le-leb (get_or levels (m - d) 0) level_limit q, le-leb d m l, lt-ltb next k f) (runs_sound bound (omega arith) r)

  -- an entry on top of a chain
  chain_on : (bytes : List ℕ) (d level next k gap : ℕ) → entry_at bytes k ≡ has d level next → 1 ≤ level → level ≤ level_limit → d ≤ m → next < k
      → highest_set (chain bytes m m k) gap ≡ max (cond (eqb (m - d) gap) level 0) (highest_set (chain bytes m m next) gap)
  unfolding chain_step setting highest_set
  chain_on bytes d level next k gap e p q l f =
      ap (λ (sets : List Setting). highest_set sets gap) (chain_turn bytes m m k) ∙ rw (e, le-leb 1 level p, le-leb level level_limit q, le-leb d m l, lt-ltb next k f)

  -- the gap of distance d, with those of smaller distances
  level_more : (d gap x : ℕ) → d ≤ m → gap ≤ m → x ≡ cond (ltb (m - gap) d) (get_or levels gap 0) 0
      → max (cond (eqb (m - d) gap) (get_or levels (m - d) 0) 0) x ≡ cond (ltb (m - gap) (suc d)) (get_or levels gap 0) 0
  level_more d gap x l h e = go (ℕ_discrete (m - d) gap) (dec_lt (m - gap) d)
    where
      go : Dec (m - d ≡ gap) → Dec (m - gap < d) → max (cond (eqb (m - d) gap) (get_or levels (m - d) 0) 0) x ≡ cond (ltb (m - gap) (suc d)) (get_or levels gap 0) 0
      go (yes q) c =
          let z : x ≡ 0 = e ∙ rw (le-ltb (m - gap) d (omega arith)) in
          rw (eq-eqb (m - d) gap q, lt-ltb (m - gap) (suc d) (omega arith)) (omega (arith, ap (λ (i : ℕ). get_or levels i 0) q))
      go (no q) (yes c) =
          let z : x ≡ get_or levels gap 0 = e ∙ rw (lt-ltb (m - gap) d c) in
          rw (ne_eqb (m - d) gap q, lt-ltb (m - gap) (suc d) (omega arith)) (omega arith)
      go (no q) (no c) =
          let z : x ≡ 0 = e ∙ rw (le-ltb (m - gap) d (omega arith)) in
          rw (ne_eqb (m - d) gap q, le-ltb (m - gap) (suc d) (omega arith)) (omega arith)

  -- and sets exactly the levels
  runs_sets : {bytes : List ℕ} {d k : ℕ} → (gap : ℕ) → gap ≤ m → Runs bytes levels m d k → highest_set (chain bytes m m k) gap ≡ cond (ltb (m - gap) d) (get_or levels gap 0) 0
  unfolding chain chain_from highest_set
  runs_sets gap h none = rw (le-ltb (m - gap) 0 (omega arith))
  runs_sets {bytes} gap h (skip {d} {k} r l e) = level_none (eqb (m - d) gap) (get_or levels (m - d) 0) _ e ∙ level_more d gap _ l h (runs_sets gap h r)
    where
      level_none : (z : Bool) (l x : ℕ) → l ≡ 0 → x ≡ max (cond z l 0) x
      level_none true l x e = omega arith
      level_none false l x e = omega arith
  runs_sets {bytes} gap h (more {d} {k} {next} r l p q f e) = chain_on bytes d _ next k gap e p q l f ∙ level_more d gap _ l h (runs_sets gap h r)

  -- a chain of all distances is exact
  pub runs_exact : {bytes : List ℕ} {k : ℕ} → Runs bytes levels m (suc m) k
      → (sound bytes m k ≡ true) × ((gap : ℕ) → gap ≤ m → highest_set (chain bytes m m k) gap ≡ get_or levels gap 0)
  unfolding sound
  runs_exact {bytes} {k} r = (runs_sound k (omega arith) r, λ gap h. runs_sets gap h r ∙ rw (lt-ltb (m - gap) (suc m) (omega arith)))

-- the entries after some of a pattern's levels, with the chain so far
pub record Chained (levels : List ℕ) (m : ℕ) (bytes : List ℕ) (count d : ℕ) (after : List ℕ) (total last : ℕ) : Type 0 where
  pub entered : Entered after total
  pub grown : count ≤ total
  pub kept : Kept bytes after count
  pub within : last ≤ total
  pub runs : Runs after levels m d last

abbrev pub ChainedIn : List ℕ → ℕ → List ℕ → ℕ → ℕ → Entries → Type 0
ChainedIn levels m bytes count d TooMany = Unit
ChainedIn levels m bytes count d (Made after total last) = Chained levels m bytes count d after total last

module _ (levels : List ℕ) (m : ℕ) (low : (gap : ℕ) → get_or levels gap 0 ≤ level_limit) (bytes : List ℕ) (count : ℕ) where
  enter_one : (d : ℕ) → d ≤ m → (made : Entries) → ChainedIn levels m bytes count d made
      → ChainedIn levels m bytes count (suc d) (cond (eqb (get_or levels (m - d) 0) 0) made (enter d (get_or levels (m - d) 0) made))
  enter_one d h made now = go (eqb (get_or levels (m - d) 0) 0) refl made now
    where
      topped : (after : List ℕ) (count₁ next : ℕ) → Chained levels m bytes count d after count₁ next → 1 ≤ get_or levels (m - d) 0
          → (made : Entries) → ToppedIn after count₁ d (get_or levels (m - d) 0) next made → ChainedIn levels m bytes count (suc d) made
      topped after count₁ next now l TooMany t = tt
      topped after count₁ next now l (Made last count₂ k) t =
          record {
            entered = t.entered;
            grown = omega (arith, now.grown, t.grown);
            kept = λ j i. t.kept j (omega (arith, now.grown)) ∙ now.kept j i;
            within = t.within;
            runs = more (runs_kept levels m last count₁ t.kept now.within now.runs) h l (low (m - d)) t.above t.has;
          }

      go : (z : Bool) → eqb (get_or levels (m - d) 0) 0 ≡ z → (made : Entries) → ChainedIn levels m bytes count d made
          → ChainedIn levels m bytes count (suc d) (cond z made (enter d (get_or levels (m - d) 0) made))
      go true p TooMany now = tt
      go true p (Made after count₁ next) now =
          record {
            entered = now.entered;
            grown = now.grown;
            kept = now.kept;
            within = now.within;
            runs = skip now.runs h (eqb-true (get_or levels (m - d) 0) 0 p);
          }
      go false p TooMany now = unfold enter in tt
      go false p (Made after count₁ next) now =
          let l : get_or levels (m - d) 0 ≡ 0 → ⊥ = eqb-false (get_or levels (m - d) 0) 0 p in
          topped after count₁ next now (omega arith) (enter d (get_or levels (m - d) 0) (Made after count₁ next))
          (enter_topped after d (get_or levels (m - d) 0) next count₁ now.entered now.within)

  enter_from : (n d : ℕ) → d + n ≡ suc m → (made : Entries) → ChainedIn levels m bytes count d made → ChainedIn levels m bytes count (suc m) (enter_levels levels m d n made)
  unfolding enter_levels
  enter_from zero d e made now = let z : d ≡ suc m = omega arith in subst (λ (i : ℕ). ChainedIn levels m bytes count i made) z now
  enter_from (suc n) d e made now = enter_from n (suc d) (omega arith) _ (enter_one d (omega arith) made now)

  -- A pattern's levels entered behind the entries so far.
  pub levels_entered : Entered bytes count → ChainedIn levels m bytes count (suc m) (enter_levels levels m 0 (suc m) (Made bytes count 0))
  levels_entered entered =
      enter_from (suc m) 0 (omega arith) (Made bytes count 0) (record { entered = entered; grown = omega arith; kept = λ j h. refl; within = omega arith; runs = none })
