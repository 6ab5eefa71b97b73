-- Laws about chains, walks and the room: one for each way through the code.
use Prim.Native.Nat.{ℕ, zero, suc, ◌+◌, ◌*◌, ◌-◌, ◌≤◌, ◌<◌, max}
use mathlib.Core.Bool.{Bool, true, false, cond, ◌&&◌}
use mathlib.Core.List.{List, [], ◌∷◌, ◌++◌, append-nil, append_assoc}
use mathlib.Core.Path.{◌≡◌, refl, sym, ◌∙◌, ap}
use native.Mathlib.Decide.{dec_lt}
use native.Mathlib.Numerals.{add-one}
use native.Mathlib.Omega.{arith}
use borrow.Author.Tests.{lt-leb, le-leb, lt-ltb, le-ltb, eq-eqb, ne_eqb, ltb-true}
use lib.Dec.{leb, ltb, eqb}
use lib.ListN.{length, get_or, take, drop, set, length-set, drop_of_length-le}
use lib.Seq.{set-get_or, take-suc, take-suc-set, take-length, length-take-le}
use Rattle.base.specs.Limits.{level_limit, pattern_limit, edge, word_limit, row_limit}
use Rattle.base.proofs.Lists.{cons_at}
use Rattle.words.specs.Symbols.{lower, symbol_of}
use Rattle.words.specs.Words.{word_symbols, row_of}
use Rattle.words.proofs.Laws.{symbols_append}
use Rattle.table.specs.declared.Entry.{Entry}
use Rattle.table.specs.Table.{look, entry_at, Look, hit, has}
use Rattle.std.specs.Prelude.{Some, None, Option}
use Rattle.table.proofs.Laws.{entry_none}
use Rattle.walk.specs.Chain.{Setting, setting, chain_step, chain_from, chain}
use Rattle.walk.specs.Walk.{set_step, set_from, look_step, looks_from, settings, looks}
use Rattle.walk.specs.Raise.{raise, raise_all}
use Rattle.walk.specs.Post.{Walked}

-- one level in the room
module _ (n before level : ℕ) (room : List ℕ) where
  pub raise_low : before < 2 → room ≡ raise n (record { before = before; level = level }) room
  unfolding raise
  raise_low h = rw (lt-leb 2 before h)

  pub raise_high : 2 ≤ before → n < before → room ≡ raise n (record { before = before; level = level }) room
  unfolding raise
  raise_high h k = rw (le-leb 2 before h, lt-leb before n k)

  -- the higher of both levels, stored where it is an inner gap
  pub raise_highest : 2 ≤ before → before ≤ n → {x : ℕ} → x ≡ max (get_or room (before - 1) 0) level → set room (before - 1) x ≡ raise n (record { before = before; level = level }) room
  unfolding raise
  raise_highest h k {x} e = rw (le-leb 2 before h, le-leb before n k) (go (dec_lt (get_or room (before - 1) 0) level))
    where
      go : Dec (get_or room (before - 1) 0 < level) → set room (before - 1) x ≡ cond (ltb (get_or room (before - 1) 0) level) (set room (before - 1) level) room
      go (yes l) = let m : x ≡ level = omega arith in rw (lt-ltb (get_or room (before - 1) 0) level l, m)
      go (no l) = let m : x ≡ get_or room (before - 1) 0 = omega arith in rw (le-ltb (get_or room (before - 1) 0) level (omega arith), m) (set-get_or room (before - 1) 0)

pub raise_append : (n : ℕ) (a b : List Setting) (room : List ℕ) → raise_all n (a ++ b) room ≡ raise_all n b (raise_all n a room)
unfolding raise_all
raise_append n [] b room = refl
raise_append n (s ∷ a) b room = raise_append n a b (raise n s room)

pub raise_length : (n : ℕ) (s : Setting) (room : List ℕ) → length (raise n s room) ≡ length room
unfolding raise
raise_length n s room = go (leb 2 s.before && (leb s.before n && ltb (get_or room (s.before - 1) 0) s.level))
  where
    go : (z : Bool) → length (cond z (set room (s.before - 1) s.level) room) ≡ length room
    go true = length-set room (s.before - 1) s.level
    go false = refl

pub raises_length : (n : ℕ) (a : List Setting) (room : List ℕ) → length (raise_all n a room) ≡ length room
unfolding raise_all
raises_length n [] room = refl
raises_length n (s ∷ a) room = raises_length n a (raise n s room) ∙ raise_length n s room

-- one entry
module _ (n m end distance level : ℕ) (room : List ℕ) where
  pub entry_low : level < 1 → room ≡ raise_all n (setting m end distance level) room
  unfolding setting raise_all
  entry_low h = rw (lt-leb 1 level h)

  pub entry_high : 1 ≤ level → level_limit < level → room ≡ raise_all n (setting m end distance level) room
  unfolding setting raise_all
  entry_high h k = rw (le-leb 1 level h, lt-leb level level_limit k)

  pub entry_far : 1 ≤ level → level ≤ level_limit → m < distance → room ≡ raise_all n (setting m end distance level) room
  unfolding setting raise_all
  entry_far h k d = rw (le-leb 1 level h, le-leb level level_limit k, lt-leb distance m d)

  pub entry_sets : 1 ≤ level → level ≤ level_limit → distance ≤ m → raise n (record { before = end - distance; level = level }) room ≡ raise_all n (setting m end distance level) room
  unfolding setting raise_all
  entry_sets h k d = rw (le-leb 1 level h, le-leb level level_limit k, le-leb distance m d)

-- a chain's equation, whatever bound its numbers are given
step_agrees : (f g : ℕ → List Setting) (m end k : ℕ) → ((j : ℕ) → j < k → f j ≡ g j) → (e : Option Entry) → chain_step f m end k e ≡ chain_step g m end k e
unfolding chain_step
step_agrees f g m end k h None = refl
step_agrees f g m end k h (Some entry) = go (ltb entry.next k) refl
  where
    go : (z : Bool) → ltb entry.next k ≡ z → setting m end entry.distance entry.level ++ cond z (f entry.next) [] ≡ setting m end entry.distance entry.level ++ cond z (g entry.next) []
    go true p = ap (λ (l : List Setting). setting m end entry.distance entry.level ++ l) (h entry.next (ltb-true entry.next k p))
    go false p = refl

chain_none : (entries : List ℕ) (f : ℕ → List Setting) (m end k : ℕ) → k < 1 → chain_step f m end k (entry_at entries k) ≡ []
unfolding chain_step
chain_none entries f m end k h = rw (← (entry_none entries k h))

chain_bound : (entries : List ℕ) (m end a b k : ℕ) → k ≤ a → k ≤ b → chain_from entries m end a k ≡ chain_from entries m end b k
unfolding chain_from
chain_bound entries m end zero zero k h l = refl
chain_bound entries m end zero (suc b) k h l = sym (chain_none entries (λ j. chain_from entries m end b j) m end k (omega arith))
chain_bound entries m end (suc a) zero k h l = chain_none entries (λ j. chain_from entries m end a j) m end k (omega arith)
chain_bound entries m end (suc a) (suc b) k h l =
    step_agrees (λ j. chain_from entries m end a j) (λ j. chain_from entries m end b j) m end k
    (λ j i. chain_bound entries m end a b j (omega arith) (omega arith)) (entry_at entries k)

pub chain_turn : (entries : List ℕ) (m end k : ℕ) → chain entries m end k ≡ chain_step (λ j. chain entries m end j) m end k (entry_at entries k)
unfolding chain chain_from
chain_turn entries m end zero = sym (chain_none entries (λ j. chain_from entries m end j j) m end zero (omega arith))
chain_turn entries m end (suc k) =
    step_agrees (λ j. chain_from entries m end k j) (λ j. chain_from entries m end j j) m end (suc k)
    (λ j i. chain_bound entries m end k j j (omega arith) (omega arith)) (entry_at entries (suc k))

module _ (entries : List ℕ) (n m end k : ℕ) (room : List ℕ) {e : Option Entry} (p : e ≡ entry_at entries k) where
  pub chain_stop : e ≡ None → room ≡ raise_all n (chain entries m end k) room
  unfolding chain_step raise_all
  chain_stop q = rw (chain_turn entries m end k, ← p, q)

  module _ {distance level next : ℕ} (q : e ≡ has distance level next) {after : List ℕ} (r : after ≡ raise_all n (setting m end distance level) room) where
    pub chain_ends : k ≤ next → after ≡ raise_all n (chain entries m end k) room
    unfolding chain_step
    chain_ends h = r ∙ rw (chain_turn entries m end k, ← p, q, le-ltb next k h, append-nil)

    pub chain_goes : next < k → {last : List ℕ} → last ≡ raise_all n (chain entries m end next) after → last ≡ raise_all n (chain entries m end k) room
    unfolding chain_step
    chain_goes h l =
        l ∙ rw (chain_turn entries m end k, ← p, q, lt-ltb next k h, raise_append n (setting m end distance level) (chain entries m end next) room, ← r)

-- the walk from one place: where the code stands inside it, and where it ends
module _ (cells entries : List ℕ) (root n place : ℕ) (row room₀ : List ℕ) where
  pub record Walking (base m end : ℕ) (room : List ℕ) : Type 0 where
    pub inside : end < length row
    pub behind : m ≤ end
    pub fewer : m < pattern_limit
    pub counted : looks_from cells pattern_limit root (drop place row) ≡ m + looks_from cells (pattern_limit - m) base (drop end row)
    pub raised : raise_all n (settings cells entries root place (drop place row)) room₀
        ≡ raise_all n (set_from cells entries (pattern_limit - m) base m end (drop end row) ++ settings cells entries root (place + 1) (drop (place + 1) row)) room
    pub kept : length room ≡ length room₀

  pub record Ended (walked : ℕ) (after : List ℕ) : Type 0 where
    pub counted : walked ≡ looks_from cells pattern_limit root (drop place row)
    pub few : walked ≤ pattern_limit
    pub raised : raise_all n (settings cells entries root place (drop place row)) room₀ ≡ raise_all n (settings cells entries root (place + 1) (drop (place + 1) row)) after
    pub kept : length after ≡ length room₀

  pub walking_start : place < length row → Walking root 0 place room₀
  unfolding settings
  walking_start h = record { inside = h; behind = omega arith; fewer = omega arith; counted = omega arith; raised = rw (cons_at row place h); kept = refl }

  module _ {base m end : ℕ} {room : List ℕ} (w : Walking base m end room) where
    turn_sets : set_from cells entries (pattern_limit - m) base m end (drop end row)
        ≡ set_step (λ link. set_from cells entries (pattern_limit - (m + 1)) link (m + 1) (end + 1) (drop (end + 1) row)) entries (m + 1) (end + 1)
        (look cells (base + get_or row end 0) (get_or row end 0))
    unfolding set_from
    turn_sets =
        let e : pattern_limit - m ≡ suc (pattern_limit - (m + 1)) = omega (arith, w.fewer) in
        rw (e, cons_at row end w.inside)

    turn_looks : looks_from cells (pattern_limit - m) base (drop end row)
        ≡ look_step (λ link. looks_from cells (pattern_limit - (m + 1)) link (drop (end + 1) row)) (look cells (base + get_or row end 0) (get_or row end 0))
    unfolding looks_from
    turn_looks =
        let e : pattern_limit - m ≡ suc (pattern_limit - (m + 1)) = omega (arith, w.fewer) in
        rw (e, cons_at row end w.inside)

    module _ {found : Look} (p : found ≡ look cells (base + get_or row end 0) (get_or row end 0)) where
      pub walking_miss : found ≡ None → Ended (m + 1) room
      unfolding set_step look_step
      walking_miss q =
          record {
            counted = sym (w.counted ∙ rw (turn_looks, ← p, q));
            few = omega (arith, w.fewer);
            raised = w.raised ∙ rw (turn_sets, ← p, q);
            kept = w.kept;
          }

      module _ {link output : ℕ} (q : found ≡ hit link output) {after : List ℕ} (r : after ≡ raise_all n (chain entries (m + 1) (end + 1) output) room) where
        tail : List Setting
        tail = set_from cells entries (pattern_limit - (m + 1)) link (m + 1) (end + 1) (drop (end + 1) row)

        hit_raised : raise_all n (settings cells entries root place (drop place row)) room₀
            ≡ raise_all n (cond (eqb link 0) [] tail ++ settings cells entries root (place + 1) (drop (place + 1) row)) after
        unfolding set_step tail
        hit_raised =
            w.raised
            ∙ rw (turn_sets, ← p, q, append_assoc, raise_append n (chain entries (m + 1) (end + 1) output), ← r)

        hit_counted : looks_from cells pattern_limit root (drop place row)
            ≡ m + (1 + cond (eqb link 0) 0 (looks_from cells (pattern_limit - (m + 1)) link (drop (end + 1) row)))
        unfolding look_step
        hit_counted = w.counted ∙ rw (turn_looks, ← p, q)

        hit_kept : length after ≡ length room₀
        hit_kept = ap length r ∙ raises_length n (chain entries (m + 1) (end + 1) output) room ∙ w.kept

        pub walking_leaf : link ≡ 0 → Ended (m + 1) after
        walking_leaf z =
            record {
              counted = sym (hit_counted ∙ rw (eq-eqb link 0 z));
              few = omega (arith, w.fewer);
              raised = hit_raised ∙ rw (eq-eqb link 0 z);
              kept = hit_kept;
            }

        -- nothing more may match: the row has ended, or sixteen symbols have matched
        spent : tail ≡ [] → looks_from cells (pattern_limit - (m + 1)) link (drop (end + 1) row) ≡ 0 → (link ≡ 0 → ⊥) → Ended (m + 1) after
        spent t l z =
            record {
              counted = sym (hit_counted ∙ rw (ne_eqb link 0 z, l));
              few = omega (arith, w.fewer);
              raised = hit_raised ∙ rw (ne_eqb link 0 z, t);
              kept = hit_kept;
            }

        pub walking_out : (link ≡ 0 → ⊥) → length row ≤ end + 1 → Ended (m + 1) after
        unfolding tail
        walking_out z h = spent (rw (drop_of_length-le row h) (no_row (pattern_limit - (m + 1)))) (rw (drop_of_length-le row h) (no_looks (pattern_limit - (m + 1)))) z
          where
            no_row : (k : ℕ) → set_from cells entries k link (m + 1) (end + 1) [] ≡ []
            no_row zero = unfold set_from in refl
            no_row (suc k) = unfold set_from in refl

            no_looks : (k : ℕ) → looks_from cells k link [] ≡ 0
            no_looks zero = unfold looks_from in refl
            no_looks (suc k) = unfold looks_from in refl

        pub walking_full : (link ≡ 0 → ⊥) → pattern_limit ≤ m + 1 → Ended (m + 1) after
        unfolding tail set_from looks_from
        walking_full z h = let e : pattern_limit - (m + 1) ≡ 0 = omega arith in spent (rw e) (rw e) z

        pub walking_on : (link ≡ 0 → ⊥) → end + 1 < length row → m + 1 < pattern_limit → Walking link (m + 1) (end + 1) after
        unfolding tail
        walking_on z h k =
            record {
              inside = h;
              behind = omega (arith, w.behind);
              fewer = k;
              counted = hit_counted ∙ rw (ne_eqb link 0 z) (omega arith);
              raised = hit_raised ∙ rw (ne_eqb link 0 z);
              kept = hit_kept;
            }

-- the loop over the places: what has been counted and raised, and what is left
pub record Going (cells entries : List ℕ) (root n : ℕ) (row room₀ : List ℕ) (place count : ℕ) (room : List ℕ) : Type 0 where
  pub counted : looks cells root row ≡ count + looks cells root (drop place row)
  pub few : count ≤ pattern_limit * place
  pub raised : raise_all n (settings cells entries root 0 row) room₀ ≡ raise_all n (settings cells entries root place (drop place row)) room
  pub kept : length room ≡ length room₀

pub going_start : (cells entries : List ℕ) (root n : ℕ) (row room : List ℕ) → Going cells entries root n row room 0 0 room
going_start cells entries root n row room = record { counted = omega arith; few = omega arith; raised = refl; kept = refl }

module _ (cells entries : List ℕ) (root n : ℕ) (row room₀ : List ℕ) where
  pub going_on : {place count walked : ℕ} {room after : List ℕ} → Going cells entries root n row room₀ place count room → place < length row
      → Ended cells entries root n place row room walked after → Going cells entries root n row room₀ (place + 1) (count + walked) after
  unfolding looks
  going_on {place} {count} {walked} {room} {after} g h e =
      let c : looks cells root (drop place row) ≡ walked + looks cells root (drop (place + 1) row) = rw (e.counted, cons_at row place h) in
      record {
        counted = omega (arith, g.counted, c);
        few = omega (arith, g.few, e.few);
        raised = g.raised ∙ e.raised;
        kept = e.kept ∙ g.kept;
      }

  pub going_end : {place count : ℕ} {room : List ℕ} → Going cells entries root n row room₀ place count room → length row ≤ place → Walked cells entries root n row room₀ count room
  unfolding looks settings raise_all
  going_end {place} {count} {room} g h =
      record {
        counted = sym (g.counted ∙ rw (drop_of_length-le row h) (omega arith));
        raised = sym (g.raised ∙ rw (drop_of_length-le row h));
      }

pub ended_at : {cells entries row room after a : List ℕ} {root n place walked w : ℕ} → walked ≡ w → after ≡ a → Ended cells entries root n place row room w a
    → Ended cells entries root n place row room walked after
ended_at p q e = record { counted = p ∙ e.counted; few = omega (arith, p, e.few); raised = e.raised ∙ rw (← q); kept = ap length q ∙ e.kept }

-- the row that the code fills
row_more : (word : List ℕ) (i : ℕ) → i < length word → word_symbols (take (i + 1) word) ≡ word_symbols (take i word) ++ (symbol_of (lower (get_or word i 0)) ∷ [])
row_more word i h = rw (add-one, take-suc word i 0) (symbols_append (take i word) (get_or word i 0 ∷ []) ∙ unfold word_symbols in refl)

pub row_start : (word row : List ℕ) → 0 < length row → take (0 + 1) (set row 0 edge) ≡ edge ∷ word_symbols (take 0 word)
unfolding word_symbols
row_start word [] h = absurd (omega arith)
row_start word (x ∷ row) h = refl

pub row_turn : (word row : List ℕ) (i : ℕ) {x : ℕ} → i < length word → i + 1 < length row → take (i + 1) row ≡ edge ∷ word_symbols (take i word)
    → x ≡ symbol_of (lower (get_or word i 0)) → take (i + 1 + 1) (set row (i + 1) x) ≡ edge ∷ word_symbols (take (i + 1) word)
row_turn word row i {x} h k e q = rw (add-one (i + 1), take-suc-set row (i + 1) x, e, row_more word i h, q)

pub row_end : (word row : List ℕ) (i : ℕ) → i ≡ length word → i + 1 < length row → take (i + 1) row ≡ edge ∷ word_symbols (take i word)
    → take (length word + 2) (set row (i + 1) edge) ≡ row_of word
unfolding row_of
row_end word row i h k e =
    let n : length word + 2 ≡ suc (i + 1) = omega arith in
    rw (n, take-suc-set row (i + 1) edge, e, h, take-length word)

pub row_kept : (row₀ row : List ℕ) (i x : ℕ) → length row ≡ length (set row₀ 0 edge) → length (set row i x) ≡ length row₀
row_kept row₀ row i x e = length-set row i x ∙ e ∙ length-set row₀ 0 edge

-- the row of a judged word
pub row_part : (row : List ℕ) (n : ℕ) → length row ≡ row_limit → n ≤ word_limit → n + 2 ≡ length (take (n + 2) row)
row_part row n h k = sym (length-take-le (n + 2) row (omega arith))

pub word_walked : (w row : List ℕ) {cells entries room after : List ℕ} {root count : ℕ} → take (length w + 2) row ≡ row_of w
    → Walked cells entries root (length w) (take (length w + 2) row) room count after → Walked cells entries root (length w) (row_of w) room count after
word_walked w row e x = rw (← e) x
