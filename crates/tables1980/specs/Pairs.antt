-- The consonant-pair table, row by row as 004's procedure initb enters it: "The thirty words of the consonant-pair table stay a table
-- too." Row c says behind which second letters no break comes. Rows 5, 9, 15, 21 and 25 stand for ch, gh, ph, sh and th.
use Rattle.std.specs.Prelude.{ℕ, ◌+◌, ◌*◌, ◌-◌, ◌/◌, ◌%◌, cond, List, [], ◌∷◌, ltb, get_or}
use Prim.Native.String.{String}
use Rattle.tables1980.specs.Words.{letters_at}

-- The pair field: the bit of each second letter stands one place before its code.
abbrev t : String → ℕ
t letters = letters_at (λ c. c - 1) letters

-- Rows 26 to 31: the letters of weak pairs, none for row 26, which is the row of z too.
abbrev weak_words : List ℕ
weak_words =
    0  -- 26, weak(0) and z
    ∷ t "t"  -- 27, weak(1), for f and s
    ∷ t "d"  -- 28, weak(2), for l
    ∷ t "p"  -- 29, weak(3), for m
    ∷ t "dgst"  -- 30, weak(4), for n
    ∷ t "gmnt"  -- 31, weak(5), for r
    ∷ []

-- The weak field, which names one of these rows, with the letters of that row: a weak pair is a pair.
abbrev weak : ℕ → ℕ
weak n = n * 8 + get_or weak_words n 0

-- Rows 2 to 31. The number added last is the h field.
unfoldable pub pair_words : List ℕ
pair_words =
    t "lr"  -- 2, b
    ∷ (t "lr" + 4)  -- 3, c
    ∷ t "gr"  -- 4, d
    ∷ t "lr"  -- 5, ch
    ∷ (t "lr" + weak 1)  -- 6, f
    ∷ (t "lr" + 4)  -- 7, g
    ∷ 0  -- 8, h
    ∷ t "t"  -- 9, gh
    ∷ 0  -- 10, j
    ∷ t "n"  -- 11, k
    ∷ (t "kq" + weak 2)  -- 12, l
    ∷ weak 3  -- 13, m
    ∷ (t "ekx" + weak 4)  -- 14, n
    ∷ t "r"  -- 15, ph
    ∷ (t "lr" + 1)  -- 16, p
    ∷ 0  -- 17, q
    ∷ (t "k" + weak 5)  -- 18, r
    ∷ (t "pq" + weak 1 + 4)  -- 19, s
    ∷ (t "er" + 7)  -- 20, t
    ∷ 0  -- 21, sh
    ∷ 0  -- 22, v
    ∷ t "hlnr"  -- 23, w
    ∷ 0  -- 24, x
    ∷ t "r"  -- 25, th
    ∷ weak_words

-- The word of a code, 0 where the table has none.
unfoldable pub btable : ℕ → ℕ
btable c = cond (ltb c 2) 0 (get_or pair_words (c - 2) 0)

-- The last three bits: what tells the row of this letter joined with h, 0 where the two aren't joined.
abbrev pub hchar : ℕ → ℕ
hchar w = w % 8

-- The three bits before them: which row has the weak letters.
abbrev pub weak_of : ℕ → ℕ
weak_of w = w / 8 % 8
