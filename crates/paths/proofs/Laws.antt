-- One law for each way through the code.
use Prim.Native.Nat.{ℕ, zero, suc, ◌+◌, ◌≤◌, ◌<◌}
use mathlib.Core.Bool.{Bool, true, false, cond, not, ◌||◌, ◌&&◌}
use mathlib.Core.List.{List, [], ◌∷◌, ◌++◌, map}
use mathlib.Core.Path.{◌≡◌, refl, sym, ◌∙◌, ap, subst}
use native.Mathlib.Omega.{arith}
use borrow.Author.Tests.{eq-eqb, ne_eqb, eqb-true, eqb-false, le-leb, lt-leb, lt-ltb, le-ltb}
use lib.Dec.{eqb, leb}
use lib.ListN.{length, get_or, take, drop, set, replicate, length-replicate, drop_of_length-le}
use lib.Seq.{sets, length-sets, length-take-le, get_or-set_same}
use Rattle.std.proofs.lemmas.List.{take_all, append-nil}
use Rattle.std.specs.List.{list_any, starts_with}
use Rattle.base.proofs.Lists.{both, test_iff}
use Rattle.io.specs.Counts.{IsPrefixLen}
use Rattle.writing.specs.Put.{Put}
use Rattle.paths.specs.Paths.{slash, path_limit, no_zero, is_path, last_slash, folder_size, link_start, name_end, name_room, ended_path, Ended, Named, fresh_mark, letter_by, fresh_name}

pub counts : (n : ℕ) (bytes : List ℕ) → n ≤ length bytes → IsPrefixLen n bytes
counts n bytes h = (h, sym (length-take-le n bytes h))

-- a path without a 0, byte by byte
pub path_long : (path : List ℕ) → path_limit ≤ length path → false ≡ is_path path
unfolding is_path
path_long path h = rw (le-ltb (length path) path_limit h)

-- a path of which it is known whether any byte is a 0
any_zero : (bytes : List ℕ) → not (list_any (λ y. eqb y 0) bytes) ≡ no_zero bytes
unfolding no_zero
any_zero [] = refl
any_zero (b ∷ bytes) = go (eqb b 0) (any_zero bytes)
  where
    go : (z : Bool) → not (list_any (λ y. eqb y 0) bytes) ≡ no_zero bytes → not (z || list_any (λ y. eqb y 0) bytes) ≡ cond z false (no_zero bytes)
    go true e = refl
    go false e = e

pub path_short : (path : List ℕ) → length path < path_limit → {r : Bool} → r ≡ list_any (λ y. eqb y 0) path → not r ≡ is_path path
unfolding is_path
path_short path h e = rw (lt-ltb (length path) path_limit h, ← any_zero path) (ap not e)

-- the folder, looked for from the path's end
last_at : (path : List ℕ) (n i : ℕ) → i < n → get_or path i 0 ≡ slash → ((k : ℕ) → i < k → k < n → get_or path k 0 ≡ slash → ⊥) → last_slash path n ≡ suc i
unfolding last_slash
last_at path zero i h e none = absurd (omega (arith, h))
last_at path (suc n) i h e none = go (eqb i n) refl (λ w. last_at path n i w e (λ k a b. none k a (omega (arith, b))))
  where
    go : (z : Bool) → eqb i n ≡ z → (i < n → last_slash path n ≡ suc i) → cond (eqb (get_or path n 0) slash) (suc n) (last_slash path n) ≡ suc i
    go true q next =
        let p : i ≡ n = eqb-true i n q in
        rw (eq-eqb (get_or path n 0) slash (ap (λ (k : ℕ). get_or path k 0) (sym p) ∙ e)) (ap suc (sym p))
    go false q next =
        let w : i < n = omega (arith, h, eqb-false i n q) in
        rw (ne_eqb (get_or path n 0) slash (none n w (omega arith))) (next w)

last_none : (path : List ℕ) (n : ℕ) → ((k : ℕ) → k < n → get_or path k 0 ≡ slash → ⊥) → last_slash path n ≡ 0
unfolding last_slash
last_none path zero none = refl
last_none path (suc n) none = rw (ne_eqb (get_or path n 0) slash (none n (omega arith))) (last_none path n (λ k h. none k (omega (arith, h))))

pub slash_at : (path : List ℕ) (i : ℕ) → i < length path → get_or path i 0 ≡ slash → ((k : ℕ) → i < k → k < length path → get_or path k 0 ≡ slash → ⊥) → i + 1 ≡ folder_size path
unfolding folder_size
slash_at path i h e none = sym (last_at path (length path) i h e none ∙ omega arith)

pub slash_nowhere : (path : List ℕ) → ((k : ℕ) → k < length path → get_or path k 0 ≡ slash → ⊥) → 0 ≡ folder_size path
unfolding folder_size
slash_nowhere path none = sym (last_none path (length path) none)

-- the text of a link that begins with a "/", and of one that doesn't
begins : (b : ℕ) → (eqb slash b && true) ≡ eqb b slash
begins b =
    test_iff (eqb slash b && true) (eqb b slash)
    (λ e. eq-eqb b slash (sym (eqb-true slash b (both (eqb slash b) true e).0)))
    (λ e. rw (eq-eqb slash b (sym (eqb-true b slash e))))

link_at : (path text : List ℕ) → cond (starts_with eqb text (slash ∷ [])) 0 (folder_size path) ≡ link_start path text
unfolding link_start
link_at path [] = refl
link_at path (b ∷ text) = ap (λ (z : Bool). cond z 0 (folder_size path)) (begins b)

module _ (path text : List ℕ) where
  pub link_alone : true ≡ starts_with eqb text (slash ∷ []) → 0 ≡ link_start path text
  link_alone e = ap (λ (z : Bool). cond z 0 (folder_size path)) e ∙ link_at path text

  pub link_behind : false ≡ starts_with eqb text (slash ∷ []) → {r : ℕ} → r ≡ folder_size path → r ≡ link_start path text
  link_behind e p = p ∙ ap (λ (z : Bool). cond z 0 (folder_size path)) e ∙ link_at path text

-- a name that fits into its room, and one that doesn't
module _ (at : ℕ) (name room : List ℕ) where
  pub name_fits : {end : ℕ} {after : List ℕ} → Put name at room end after → Named at name room end after
  unfolding name_end name_room
  name_fits p =
      let t : leb (at + length name) (length room) ≡ true = le-leb (at + length name) (length room) p.fits in
      record { ends = rw t p.ends; memory = rw t p.memory; within = counts _ _ (rw (p.memory, length-sets room at name, p.ends) p.fits) }

  pub name_long : length room < at + length name → Named at name room (length room) room
  unfolding name_end name_room
  name_long h =
      let t : leb (at + length name) (length room) ≡ false = lt-leb (at + length name) (length room) h in
      record { ends = rw t; memory = rw t; within = counts _ _ (omega arith) }

-- the same in a room that was filled before
pub name_behind : (at n : ℕ) (name bytes room : List ℕ) → at ≡ n → {mid : ℕ} {filled : List ℕ} → Named 0 (take at bytes) room mid filled → {end : ℕ} {after : List ℕ} → Named at name filled end after
    → Named n name (name_room 0 (take n bytes) room) end after
name_behind at n name bytes room e {mid} {filled} p {end} {after} q =
    subst (λ (k : ℕ). Named k name (name_room 0 (take k bytes) room) end after) e (subst (λ (l : List ℕ). Named at name l end after) p.memory q)

-- a path as C takes it
pub name_length : (at : ℕ) (name room : List ℕ) → length (name_room at name room) ≡ length room
unfolding name_room
name_length at name room = go (leb (at + length name) (length room))
  where
    go : (b : Bool) → length (cond b (sets room at name) room) ≡ length room
    go true = length-sets room at name
    go false = refl

pub ended_last : (path : List ℕ) {name : List ℕ} → name ≡ name_room 0 path (replicate path_limit 0) → Ended (set name 4095 0)
ended_last path {name} e =
    get_or-set_same name 4095 0 1 (omega (arith, ap length e ∙ name_length 0 path (replicate path_limit 0) ∙ length-replicate {A = ℕ} path_limit 0))

pub ended_whole : (path : List ℕ) {name : List ℕ} → name ≡ name_room 0 path (replicate path_limit 0) → set name 4095 0 ≡ ended_path path
unfolding ended_path
ended_whole path e = ap (λ (l : List ℕ). set l 4095 0) e

-- chance turned into letters, and the mark put over the first of them
pub letter_end : (chance : List ℕ) (i : ℕ) → length chance ≤ i → {name : List ℕ} → name ≡ map letter_by (take i chance) ++ drop i chance → {end : ℕ} {after : List ℕ} → Named 0 fresh_mark name end after → after ≡ fresh_name chance
unfolding fresh_name
letter_end chance i h e p =
    let whole : map letter_by (take i chance) ++ drop i chance ≡ map letter_by chance = rw (take_all i chance h, drop_of_length-le chance h) (append-nil (map letter_by chance)) in
    p.memory ∙ ap (λ (l : List ℕ). name_room 0 fresh_mark l) (e ∙ whole)
