-- Names of files.
use Rattle.std.specs.Prelude.{ℕ, zero, suc, ◌+◌, ◌-◌, ◌%◌, Bool, true, false, cond, ◌&&◌, List, [], ◌∷◌, map, ◌≡◌, eqb, leb, ltb, length, get_or, take, set, replicate}
use Rattle.std.proofs.lemmas.List.Edits.{sets}
use Rattle.io.specs.Counts.{IsPrefixLen}

-- "/"
abbrev pub slash : ℕ
slash = 47

-- The most bytes of a path for C, with the 0 that ends it.
abbrev pub path_limit : ℕ
path_limit = 4096

-- No byte is 0.
unfoldable pub no_zero : List ℕ → Bool
no_zero [] = true
no_zero (b ∷ bytes) = cond (eqb b 0) false (no_zero bytes)

-- C can be handed all of a path: there is room for the 0 that ends it, and no 0 ends it sooner.
unfoldable pub is_path : List ℕ → Bool
is_path path = ltb (length path) path_limit && no_zero path

-- The last byte is 0, so that C's read of a path ends inside of it.
abbrev pub Ended : List ℕ → Type 0
Ended bytes = get_or bytes (path_limit - 1) 1 ≡ 0

-- What C reads of some bytes: those before the first 0.
unfoldable pub read : List ℕ → List ℕ
read [] = []
read (b ∷ bytes) = cond (eqb b 0) [] (b ∷ read bytes)

-- Where the last "/" of a path's first n bytes ends, 0 where there is none.
unfoldable pub last_slash : List ℕ → ℕ → ℕ
last_slash path zero = 0
last_slash path (suc n) = cond (eqb (get_or path n 0) slash) (suc n) (last_slash path n)

-- How many bytes of a path name its folder, the "/" included, and these bytes.
unfoldable pub folder_size : List ℕ → ℕ
folder_size path = last_slash path (length path)

abbrev pub folder : List ℕ → List ℕ
folder path = take (folder_size path) path

-- Where a link's text begins in the path that it stands for: alone, or behind the folder of the link.
unfoldable pub link_start : List ℕ → List ℕ → ℕ
link_start path text = cond (eqb (get_or text 0 0) slash) 0 (folder_size path)

-- A name put behind the first bytes of a room: where it ends, and what the room holds. Where it doesn't fit, the end is the room's, and
-- nothing is put.
unfoldable pub name_end : ℕ → List ℕ → List ℕ → ℕ
name_end at name room = cond (leb (at + length name) (length room)) (at + length name) (length room)

unfoldable pub name_room : ℕ → List ℕ → List ℕ → List ℕ
name_room at name room = cond (leb (at + length name) (length room)) (sets room at name) room

-- A path as C takes it: the path, and zeros behind it. One that doesn't fit is cut to no bytes.
unfoldable pub ended_path : List ℕ → List ℕ
ended_path path = set (name_room 0 path (replicate path_limit 0)) (path_limit - 1) 0

-- What is put and returned for a name.
pub record Named (at : ℕ) (name room : List ℕ) (end : ℕ) (after : List ℕ) : Type 0 where
  pub ends : end ≡ name_end at name room
  pub memory : after ≡ name_room at name room
  pub within : IsPrefixLen end after

-- The name of a file that isn't whole yet: ".tteolmigu-", and a letter for each byte of chance behind.
abbrev pub fresh_mark : List ℕ
fresh_mark = 46 ∷ 116 ∷ 116 ∷ 101 ∷ 111 ∷ 108 ∷ 109 ∷ 105 ∷ 103 ∷ 117 ∷ 45 ∷ []

abbrev pub letter_by : ℕ → ℕ
letter_by b = 97 + b % 26

unfoldable pub fresh_name : List ℕ → List ℕ
fresh_name chance = name_room 0 fresh_mark (map letter_by chance)
