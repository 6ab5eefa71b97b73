-- What follows for whoever names files: C reads the path that it is handed, and a fresh name put beside a path lies in the path's own folder.
use Prim.Native.Nat.{ℕ, zero, suc, ◌+◌, ◌-◌, ◌≤◌, ◌<◌}
use mathlib.Core.Bool.{Bool, true, false, cond}
use mathlib.Core.List.{List, [], ◌∷◌, ◌++◌, map}
use mathlib.Core.Path.{◌≡◌, refl, sym, ◌∙◌, ap}
use native.Mathlib.Omega.{arith}
use borrow.Author.Tests.{le-leb, eq-eqb, ne_eqb, ltb-true, leb-true, eqb-true}
use lib.Dec.{leb, ltb, eqb}
use lib.ListN.{length, get_or, take, drop, set, replicate, length-append, length-map, length-replicate, get_or-replicate, get_or-append}
use lib.Seq.{sets, length-sets, sets-eq, length-take-le, take-append_seam, take_at, get_or-append-add, get_or-drop, get_or-take, set-get_or}
use Rattle.base.proofs.Lists.{cons_at, never, both}
use Rattle.writing.proofs.Parts.{sets_append}
use Rattle.paths.specs.Paths.{slash, path_limit, no_zero, is_path, read, last_slash, folder_size, folder, name_end, name_room, ended_path, Named, fresh_mark, letter_by, fresh_name}
use Rattle.paths.proofs.Laws.{name_length}

-- C reads up to the first 0
read_whole : (path behind : List ℕ) → no_zero path ≡ true → read (path ++ (0 ∷ behind)) ≡ path
unfolding read no_zero
read_whole [] behind e = refl
read_whole (b ∷ path) behind e = go (eqb b 0) refl e (read_whole path behind)
  where
    go : (z : Bool) → eqb b 0 ≡ z → cond z false (no_zero path) ≡ true → (no_zero path ≡ true → read (path ++ (0 ∷ behind)) ≡ path) → cond (eqb b 0) [] (b ∷ read (path ++ (0 ∷ behind))) ≡ b ∷ path
    go true q h next = never h
    go false q h next = rw q (ap (λ (l : List ℕ). b ∷ l) (next h))

zeros : List ℕ
zeros = replicate path_limit 0

zeros_at : (i : ℕ) → i < path_limit → get_or zeros i 0 ≡ 0
unfolding zeros
zeros_at i h = get_or-replicate path_limit i 0 0 h

zeros_length : length zeros ≡ path_limit
unfolding zeros
zeros_length = length-replicate {A = ℕ} path_limit 0

ended_is : (path : List ℕ) → length path < path_limit → ended_path path ≡ path ++ drop (length path) zeros
unfolding ended_path name_room zeros
ended_is path h =
    let t : leb (0 + length path) (length zeros) ≡ true = le-leb (0 + length path) (length zeros) (omega (arith, h, zeros_length)) in
    let whole : sets zeros 0 path ≡ path ++ drop (0 + length path) zeros = sets-eq path zeros 0 (omega (arith, h, zeros_length)) in
    let start : 0 + length path ≡ length path = omega arith in
    let n : length path + (4095 - length path) ≡ 4095 = omega (arith, h) in
    let last : get_or (path ++ drop (length path) zeros) 4095 0 ≡ 0 =
    ap (λ (k : ℕ). get_or (path ++ drop (length path) zeros) k 0) (sym n)
    ∙ get_or-append-add path (drop (length path) zeros) (4095 - length path) 0
    ∙ get_or-drop (length path) zeros (4095 - length path) 0
    ∙ ap (λ (k : ℕ). get_or zeros k 0) n
    ∙ zeros_at 4095 (omega arith) in
    rw t (ap (λ (l : List ℕ). set l 4095 0) (whole ∙ ap (λ (k : ℕ). path ++ drop k zeros) start)
    ∙ ap (λ (b : ℕ). set (path ++ drop (length path) zeros) 4095 b) (sym last)
    ∙ set-get_or (path ++ drop (length path) zeros) 4095 0)

-- what C is handed is the path
pub ended_read : (path : List ℕ) → is_path path ≡ true → read (ended_path path) ≡ path
unfolding is_path
ended_read path e =
    let p : (ltb (length path) path_limit ≡ true) × (no_zero path ≡ true) = both (ltb (length path) path_limit) (no_zero path) e in
    let h : length path < path_limit = ltb-true (length path) path_limit p.0 in
    rw (ended_is path h, cons_at zeros (length path) (omega (arith, h, zeros_length)), zeros_at (length path) h) (read_whole path (drop (length path + 1) zeros) p.1)

-- a path's folder lies in the path, and ends with a "/"
last_within : (path : List ℕ) (n : ℕ) → last_slash path n ≤ n
unfolding last_slash
last_within path zero = omega arith
last_within path (suc n) = go (eqb (get_or path n 0) slash) (last_within path n)
  where
    go : (b : Bool) → last_slash path n ≤ n → cond b (suc n) (last_slash path n) ≤ suc n
    go true h = omega arith
    go false h = omega (arith, h)

pub folder_within : (path : List ℕ) → folder_size path ≤ length path
unfolding folder_size
folder_within path = last_within path (length path)

folder_of : (path : List ℕ) → folder_size path ≡ last_slash path (length path)
unfolding folder_size
folder_of path = refl

last_ends : (path : List ℕ) (n k : ℕ) → last_slash path n ≡ suc k → get_or path k 0 ≡ slash
unfolding last_slash
last_ends path zero k e = absurd (omega (arith, e))
last_ends path (suc n) k e = go (eqb (get_or path n 0) slash) refl e (last_ends path n k)
  where
    go : (z : Bool) → eqb (get_or path n 0) slash ≡ z → cond z (suc n) (last_slash path n) ≡ suc k → (last_slash path n ≡ suc k → get_or path k 0 ≡ slash) → get_or path k 0 ≡ slash
    go true q h next = let m : k ≡ n = omega (arith, h) in rw m (eqb-true (get_or path n 0) slash q)
    go false q h next = next h

folder_ends : (path : List ℕ) (k : ℕ) → folder_size path ≡ suc k → get_or path k 0 ≡ slash
unfolding folder_size
folder_ends path k e = last_ends path (length path) k e

-- bytes without a "/"
unfoldable pub flat : List ℕ → Bool
flat [] = true
flat (b ∷ bytes) = cond (eqb b slash) false (flat bytes)

flat_at : (bytes : List ℕ) (i : ℕ) → flat bytes ≡ true → eqb (get_or bytes i 0) slash ≡ false
unfolding flat
flat_at [] i e = refl
flat_at (b ∷ bytes) i e = go (eqb b slash) refl e i (flat_at bytes)
  where
    go : (z : Bool) → eqb b slash ≡ z → cond z false (flat bytes) ≡ true → (j : ℕ) → ((k : ℕ) → flat bytes ≡ true → eqb (get_or bytes k 0) slash ≡ false) → eqb (get_or (b ∷ bytes) j 0) slash ≡ false
    go true q h j next = never h
    go false q h zero next = q
    go false q h (suc j) next = next j h

flat_append : (a b : List ℕ) → flat a ≡ true → flat b ≡ true → flat (a ++ b) ≡ true
unfolding flat
flat_append [] b p q = q
flat_append (x ∷ a) b p q = go (eqb x slash) p (λ h. flat_append a b h q)
  where
    go : (z : Bool) → cond z false (flat a) ≡ true → (flat a ≡ true → flat (a ++ b) ≡ true) → cond z false (flat (a ++ b)) ≡ true
    go true h next = never h
    go false h next = next h

flat_letters : (chance : List ℕ) (n : ℕ) → flat (drop n (map letter_by chance)) ≡ true
unfolding flat
flat_letters [] zero = refl
flat_letters [] (suc n) = refl
flat_letters (b ∷ chance) zero = rw (ne_eqb (letter_by b) slash (λ e. omega (arith, e))) (flat_letters chance zero)
flat_letters (b ∷ chance) (suc n) = flat_letters chance n

flat_none : (xs bytes : List ℕ) (n : ℕ) → flat bytes ≡ true → last_slash (xs ++ bytes) (length xs + n) ≡ last_slash (xs ++ bytes) (length xs)
unfolding last_slash
flat_none xs bytes zero e = let m : length xs + 0 ≡ length xs = omega arith in rw m
flat_none xs bytes (suc n) e =
    let m : length xs + suc n ≡ suc (length xs + n) = omega arith in
    rw (m, get_or-append-add xs bytes n 0, flat_at bytes n e) (flat_none xs bytes n e)

-- a fresh name has no folder of its own
pub fresh_flat : (chance : List ℕ) → flat (fresh_name chance) ≡ true
unfolding fresh_name name_room flat
fresh_flat chance = go (leb 11 (length (map letter_by chance))) refl
  where
    go : (z : Bool) → leb 11 (length (map letter_by chance)) ≡ z → flat (cond z (sets (map letter_by chance) 0 fresh_mark) (map letter_by chance)) ≡ true
    go false q = flat_letters chance 0
    go true q = rw (sets-eq fresh_mark (map letter_by chance) 0 (leb-true 11 (length (map letter_by chance)) q)) (flat_append fresh_mark (drop 11 (map letter_by chance)) refl (flat_letters chance 11))

fresh_length : (chance : List ℕ) → length (fresh_name chance) ≡ length chance
unfolding fresh_name
fresh_length chance = name_length 0 fresh_mark (map letter_by chance) ∙ length-map chance letter_by

-- what is put behind a path's folder and has none of its own lies in this folder
slash_ends : (path name : List ℕ) (k : ℕ) → folder_size path ≡ k → last_slash (folder path ++ name) k ≡ k
unfolding last_slash
slash_ends path name zero q = refl
slash_ends path name (suc k) q =
    let size : length (folder path) ≡ folder_size path = length-take-le (folder_size path) path (folder_within path) in
    let ends : get_or (folder path ++ name) k 0 ≡ slash =
    get_or-append (folder path) name 0 k (omega (arith, size, q))
    ∙ get_or-take (folder_size path) path k 0 (omega (arith, q))
    ∙ folder_ends path k q in
    rw (eq-eqb (get_or (folder path ++ name) k 0) slash ends)

folder_kept : (path name : List ℕ) → flat name ≡ true → folder_size (folder path ++ name) ≡ folder_size path
folder_kept path name e =
    let size : length (folder path) ≡ folder_size path = length-take-le (folder_size path) path (folder_within path) in
    folder_of (folder path ++ name)
    ∙ ap (λ (n : ℕ). last_slash (folder path ++ name) n) (length-append (folder path) name)
    ∙ flat_none (folder path) name (length name) e
    ∙ ap (λ (n : ℕ). last_slash (folder path ++ name) n) size
    ∙ slash_ends path name (folder_size path) refl

-- bytes put at the beginning of a room are what it begins with
begins_with : (bytes room : List ℕ) → length bytes ≤ length room → take (length bytes) (sets room 0 bytes) ≡ bytes
begins_with bytes room h = rw (sets-eq bytes room 0 (omega (arith, h))) (take-append_seam bytes (drop (0 + length bytes) room))

-- the name that `put_beside` leaves: the folder's bytes, and the name behind them
pub beside_name : (path name room : List ℕ) (end : ℕ) (after : List ℕ) → folder_size path + length name ≤ length room
    → Named (folder_size path) name (name_room 0 (folder path) room) end after → take end after ≡ folder path ++ name
unfolding name_end name_room
beside_name path name room end after h b =
    let size : length (folder path) ≡ folder_size path = length-take-le (folder_size path) path (folder_within path) in
    let f : leb (0 + length (folder path)) (length room) ≡ true = le-leb (0 + length (folder path)) (length room) (omega (arith, h, size)) in
    let filled : List ℕ = sets room 0 (folder path) in
    let t : leb (folder_size path + length name) (length filled) ≡ true = le-leb (folder_size path + length name) (length filled) (omega (arith, h, length-sets room 0 (folder path))) in
    let ends : end ≡ length (folder path ++ name) = b.ends ∙ rw (f, t) (sym (length-append (folder path) name ∙ ap (λ (k : ℕ). k + length name) size)) in
    let start : 0 + length (folder path) ≡ folder_size path = omega (arith, size) in
    let whole : after ≡ sets room 0 (folder path ++ name) = b.memory ∙ rw (f, t) (sym (sets_append (folder path) name room 0 ∙ ap (λ (k : ℕ). sets filled k name) start)) in
    rw (ends, whole) (begins_with (folder path ++ name) room (omega (arith, h, length-append (folder path) name, size)))

-- "under a temporary name in the same folder": the folder of a fresh name that `put_beside` leaves is the path's
pub same_folder : (path chance room : List ℕ) (end : ℕ) (after : List ℕ) → folder_size path + length chance ≤ length room
    → Named (folder_size path) (fresh_name chance) (name_room 0 (folder path) room) end after → folder (take end after) ≡ folder path
same_folder path chance room end after h b =
    let size : length (folder path) ≡ folder_size path = length-take-le (folder_size path) path (folder_within path) in
    rw (beside_name path (fresh_name chance) room end after (omega (arith, h, fresh_length chance)) b, folder_kept path (fresh_name chance) (fresh_flat chance)) (take_at (folder path) (fresh_name chance) (folder_size path) size)
