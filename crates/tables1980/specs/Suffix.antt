-- The suffix machine's table, row by row as 004's procedure initsuf enters it: "The 218 words of the two machines are kept as one table
-- each." A row is s opcode operand truex falsex; the letters behind its number are the ending that was matched before it.
use Rattle.std.specs.Prelude.{ℕ, ◌+◌, ◌*◌, ◌^◌, List, [], ◌∷◌, get_or}
use Prim.Native.Char.{code}
use Prim.Native.String.{String}
use Rattle.tables1980.specs.Words.{flag, letters_at, scan, double, table, check, success, fail, repeat, again, mark, efail}

-- An instruction.
abbrev s : ℕ → ℕ → ℕ → ℕ → ℕ
s opcode operand truex falsex = opcode * 2 ^ 27 + truex * 2 ^ 18 + falsex * 2 ^ 9 + operand

-- A letter mask: the bit of each letter stands at its code.
abbrev t : String → ℕ
t letters = letters_at (λ c. c) letters

unfoldable pub suffix_words : List ℕ
suffix_words =
    (flag + t "aeiouy")  -- 0, the vowels, the null code among them
    ∷ s fail 0 0 0  -- 1, a
    ∷ s fail 0 0 0  -- 2, b
    ∷ s scan (code "i") 34 1  -- 3, c
    ∷ s again 0 1 0  -- 4, d
    ∷ s mark 0 38 0  -- 5, e
    ∷ s fail 0 0 0  -- 6, f
    ∷ s scan (code "n") 60 1  -- 7, g
    ∷ s fail 0 0 0  -- 8, h
    ∷ s fail 0 0 0  -- 9, i
    ∷ s fail 0 0 0  -- 10, j
    ∷ s fail 0 0 0  -- 11, k
    ∷ s scan (code "a") 71 72  -- 12, l
    ∷ s fail 0 0 0  -- 13, m
    ∷ s scan (code "o") 77 1  -- 14, n
    ∷ s fail 0 0 0  -- 15, o
    ∷ s fail 0 0 0  -- 16, p
    ∷ s fail 0 0 0  -- 17, q
    ∷ s scan (code "e") 81 1  -- 18, r
    ∷ s mark 0 85 0  -- 19, s
    ∷ s scan (code "n") 94 1  -- 20, t
    ∷ s fail 0 0 0  -- 21, u
    ∷ s fail 0 0 0  -- 22, v
    ∷ s fail 0 0 0  -- 23, w
    ∷ s fail 0 0 0  -- 24, x
    ∷ s scan (code "l") 31 98  -- 25, y
    ∷ s efail 0 0 0  -- 26, z
    ∷ s success 0 0 0  -- 27
    ∷ s success 1 0 0  -- 28
    ∷ s success 2 0 0  -- 29
    ∷ s success 3 0 0  -- 30
    ∷ s repeat 0 0 0  -- 31
    ∷ s repeat 1 0 0  -- 32
    ∷ s repeat 2 0 0  -- 33
    ∷ s scan (code "p") 35 26  -- 34, e/ic
    ∷ s scan (code "o") 36 26  -- 35, pe/pic
    ∷ s scan (code "c") 37 26  -- 36, ope/opic
    ∷ s scan (code "s") 27 26  -- 37, cope/copic
    ∷ s scan (code "l") 39 40  -- 38, e
    ∷ s scan (code "b") 41 26  -- 39, le
    ∷ s scan (code "t") 42 43  -- 40, e
    ∷ s scan (code "a") 44 26  -- 41, ble
    ∷ s scan (code "a") 45 26  -- 42, te
    ∷ s scan (code "z") 46 47  -- 43, e
    ∷ s scan (code "t") 48 49  -- 44, able
    ∷ s table 50 108 26  -- 45, ate
    ∷ s scan (code "i") 51 26  -- 46, ze
    ∷ s scan (code "v") 52 53  -- 47, e
    ∷ s table 54 33 26  -- 48, table
    ∷ s table 107 32 26  -- 49, able
    ∷ t "cl"  -- 50
    ∷ s scan (code "l") 32 26  -- 51, ize
    ∷ s scan (code "i") 55 26  -- 52, ve
    ∷ s scan (code "r") 56 34  -- 53, e
    ∷ t "nr"  -- 54
    ∷ s scan (code "t") 27 26  -- 55, ive/ure
    ∷ s scan (code "u") 55 57  -- 56, re
    ∷ s scan (code "e") 58 26  -- 57, re
    ∷ s scan (code "h") 59 26  -- 58, ere
    ∷ s scan (code "p") 37 26  -- 59, here
    ∷ s scan (code "i") 61 1  -- 60, ng
    ∷ s check 0 62 1  -- 61, ing
    ∷ s scan (code "l") 63 64  -- 62, ing
    ∷ s table 65 27 66  -- 63, ling
    ∷ s table 67 28 68  -- 64, ing
    ∷ t "bcdfgptz"  -- 65
    ∷ s scan (code "k") 69 28  -- 66, ling
    ∷ t "fsz"  -- 67
    ∷ s table 0 28 70  -- 68, ing
    ∷ s scan (code "c") 29 27  -- 69, kling
    ∷ s double 0 27 27  -- 70, ing
    ∷ s scan (code "i") 73 74  -- 71, al
    ∷ s scan (code "u") 75 1  -- 72, l
    ∷ s scan (code "t") 27 76  -- 73, al/ial
    ∷ s scan (code "n") 14 73  -- 74, al
    ∷ s scan (code "f") 31 1  -- 75, ul
    ∷ s scan (code "c") 27 1  -- 76, al/ial/ient
    ∷ s scan (code "i") 78 1  -- 77, on/onal
    ∷ s table 79 80 1  -- 78, ion/ional
    ∷ t "st"  -- 79
    ∷ s mark 4 27 0  -- 80, sion/sional/tion/tional
    ∷ s scan (code "h") 82 1  -- 81, er/y
    ∷ s scan (code "p") 83 1  -- 82, her/hy
    ∷ s scan (code "a") 84 1  -- 83, pher/phy
    ∷ s scan (code "r") 27 1  -- 84, apher/aphy
    ∷ s scan (code "u") 86 87  -- 85, s
    ∷ s scan (code "o") 88 4  -- 86, us
    ∷ s scan (code "s") 89 4  -- 87, s
    ∷ s scan (code "i") 90 4  -- 88, ous
    ∷ s scan (code "e") 91 4  -- 89, ss
    ∷ s scan (code "c") 92 4  -- 90, ious
    ∷ s table 93 31 4  -- 91, ess
    ∷ s scan (code "s") 27 27  -- 92, cious
    ∷ t "ln"  -- 93
    ∷ s scan (code "e") 95 1  -- 94, nt
    ∷ s scan (code "m") 31 96  -- 95, ent
    ∷ s scan (code "d") 27 97  -- 96, ent
    ∷ s scan (code "i") 76 1  -- 97, ent
    ∷ s scan (code "g") 99 100  -- 98, y
    ∷ s scan (code "o") 27 1  -- 99, gy
    ∷ s scan (code "r") 101 81  -- 100, y
    ∷ s scan (code "a") 102 1  -- 101, ry
    ∷ s scan (code "n") 103 1  -- 102, ary
    ∷ s scan (code "o") 104 105  -- 103, nary
    ∷ s scan (code "i") 106 28  -- 104, onary
    ∷ s scan (code "e") 29 27  -- 105, nary
    ∷ s repeat 3 0 0  -- 106, ionary
    ∷ t "ehiklouvwxy"  -- 107
    ∷ s table 0 28 26  -- 108, cate/late
    ∷ []

-- The word of a row, 0 past the table.
unfoldable pub suffix : ℕ → ℕ
suffix k = get_or suffix_words k 0
