-- The texts and words of document 01's figures.
use Rattle.std.specs.Prelude.{ℕ, List, [], ◌∷◌, ◌++◌, replicate}
use Prim.Native.Char.{code}
use Prim.Native.String.{String, [] as «empty», ◌∷◌ as ◌then◌}
use Rattle.words.specs.Symbols.{line_feed}

abbrev pub bytes : String → List ℕ
bytes «empty» = []
bytes (c then s) = code c ∷ bytes s

abbrev pub line : String → List ℕ
line s = bytes s ++ (line_feed ∷ [])

-- "List: he2n, hena4, hen5at, hy3ph, 2io, 1na, n2at, o2n, 1tio." The patterns of Knuth's hyphenation example.
unfoldable pub nine : List ℕ
nine = line "he2n" ++ line "hena4" ++ line "hen5at" ++ line "hy3ph" ++ line "2io" ++ line "1na" ++ line "n2at" ++ line "o2n" ++ line "1tio"

-- a word of so many letters
abbrev pub letters : ℕ → List ℕ
letters n = replicate n 97

-- "Empty list: C 1, E 0, 12 bytes": a head and one free cell.
unfoldable pub empty_table : List ℕ
empty_table = 1 ∷ 1 ∷ 0 ∷ 1 ∷ 0 ∷ 0 ∷ 2 ∷ 0 ∷ 0 ∷ 0 ∷ 0 ∷ 0 ∷ []
