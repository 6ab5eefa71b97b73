-- The prefix machine's table, row by row as 004's procedure initpref enters it. A row is scan letter truex falsex, or another opcode with
-- its operand or letters; the letters behind its number are the beginning that was matched before it.
use Rattle.std.specs.Prelude.{ℕ, ◌+◌, ◌*◌, ◌^◌, List, [], ◌∷◌, get_or}
use Prim.Native.Char.{Char, code}
use Prim.Native.String.{String}
use Rattle.tables1980.specs.Words.{letters_at}
use Rattle.tables1980.specs.Words as words

abbrev scan : Char → ℕ → ℕ → ℕ
scan c truex falsex = words.scan * 2 ^ 27 + truex * 2 ^ 18 + falsex * 2 ^ 9 + code c

abbrev repeat : ℕ → ℕ
repeat t = words.repeat * 2 ^ 27 + t

abbrev mark : ℕ → ℕ
mark t = words.mark * 2 ^ 27 + t

-- The letters of a table stand behind its opcode, in the same word.
abbrev table : String → ℕ
table letters = words.table * 2 ^ 27 + letters_at (λ c. c + 9) letters

abbrev fail : ℕ
fail = words.fail * 2 ^ 27

abbrev vow : ℕ
vow = words.vow * 2 ^ 27

abbrev cons : ℕ
cons = words.cons * 2 ^ 27

-- Rows with a vow, a cons and a table without letters, to which many others go.
abbrev vs : ℕ
vs = 1

abbrev cs : ℕ
cs = 6

abbrev ts : ℕ
ts = 7

unfoldable pub prefix_words : List ℕ
prefix_words =
    fail  -- 0, where the suffix machine has cleared the first letter
    ∷ vow  -- 1, a
    ∷ scan "e" 34 cs  -- 2, b
    ∷ scan "o" 36 cs  -- 3, c
    ∷ scan "i" 38 cs  -- 4, d
    ∷ scan "q" 41 44  -- 5, e
    ∷ cons  -- 6, f
    ∷ table ""  -- 7, g
    ∷ scan "a" 45 47  -- 8, h
    ∷ scan "m" 27 55  -- 9, i
    ∷ cons  -- 10, j
    ∷ cons  -- 11, k
    ∷ scan "e" 61 cs  -- 12, l
    ∷ scan "a" 63 70  -- 13, m
    ∷ scan "o" 76 cs  -- 14, n
    ∷ scan "u" 77 78  -- 15, o
    ∷ scan "s" 81 cs  -- 16, p
    ∷ scan "u" 85 cs  -- 17, q
    ∷ cons  -- 18, r
    ∷ scan "e" 87 89  -- 19, s
    ∷ scan "h" 97 99  -- 20, t
    ∷ scan "n" 106 vs  -- 21, u
    ∷ cons  -- 22, v
    ∷ cons  -- 23, w
    ∷ cons  -- 24, x
    ∷ vow  -- 25, y
    ∷ cons  -- 26, z
    ∷ repeat 0  -- 27
    ∷ repeat 1  -- 28
    ∷ repeat 2  -- 29
    ∷ mark 0  -- 30
    ∷ mark 1  -- 31
    ∷ mark 2  -- 32
    ∷ mark 3  -- 33
    ∷ table "chsw"  -- 34, be
    ∷ scan "i" vs 27  -- 35, un
    ∷ scan "m" 30 37  -- 36, co
    ∷ scan "n" 30 vs  -- 37, co
    ∷ scan "s" 39 vs  -- 38, di
    ∷ scan "h" ts 40  -- 39, dis
    ∷ scan "y" vs 27  -- 40, dis
    ∷ scan "u" 42 cs  -- 41, eq
    ∷ scan "i" 43 cs  -- 42, equ
    ∷ scan "v" 30 30  -- 43, equi
    ∷ scan "x" 30 vs  -- 44, e
    ∷ scan "n" 46 vs  -- 45, ha
    ∷ scan "d" 30 ts  -- 46, han
    ∷ scan "o" 48 51  -- 47, h
    ∷ scan "r" 49 vs  -- 48, ho
    ∷ scan "s" 50 ts  -- 49, hor
    ∷ scan "e" 30 ts  -- 50, hors
    ∷ scan "y" 52 cs  -- 51, h
    ∷ scan "p" 53 vs  -- 52, hy
    ∷ scan "e" 54 ts  -- 53, hyp
    ∷ scan "r" 33 vs  -- 54, hype
    ∷ scan "n" 56 vs  -- 55, i
    ∷ scan "t" 57 27  -- 56, in
    ∷ scan "e" 58 59  -- 57, int
    ∷ scan "r" 33 29  -- 58, inte
    ∷ scan "r" 60 28  -- 59, int
    ∷ scan "o" 33 29  -- 60, intr
    ∷ scan "x" 62 vs  -- 61, le
    ∷ scan "i" 31 ts  -- 62, lex/max/min
    ∷ scan "c" 64 66  -- 63, ma
    ∷ scan "r" 65 ts  -- 64, mac
    ∷ scan "o" 32 ts  -- 65, macr
    ∷ scan "t" 67 69  -- 66, ma
    ∷ scan "h" 68 ts  -- 67, mat
    ∷ scan "e" 31 ts  -- 68, math
    ∷ scan "x" 62 vs  -- 69, ma
    ∷ scan "i" 71 72  -- 70, m
    ∷ scan "n" 62 vs  -- 71, mi
    ∷ scan "u" 73 cs  -- 72, m
    ∷ scan "l" 74 vs  -- 73, mu
    ∷ scan "t" 75 ts  -- 74, mul
    ∷ scan "i" 32 ts  -- 75, mult
    ∷ scan "n" 27 vs  -- 76, no
    ∷ scan "t" 30 vs  -- 77, ou
    ∷ scan "v" 79 vs  -- 78, o
    ∷ scan "e" 80 ts  -- 79, ov
    ∷ scan "r" 27 vs  -- 80, ove
    ∷ scan "e" 82 cs  -- 81, ps
    ∷ scan "u" 83 vs  -- 82, pse
    ∷ scan "d" 84 vs  -- 83, pseu
    ∷ scan "o" 32 ts  -- 84, pseud
    ∷ scan "a" 86 cs  -- 85, qu
    ∷ scan "d" 30 vs  -- 86, qua
    ∷ scan "m" 88 vs  -- 87, se
    ∷ scan "i" 30 ts  -- 88, sem
    ∷ scan "o" 90 92  -- 89, s
    ∷ scan "m" 91 vs  -- 90, so
    ∷ scan "e" 30 ts  -- 91, som/ther
    ∷ scan "u" 93 cs  -- 92, s
    ∷ scan "b" 30 94  -- 93, su
    ∷ scan "p" 95 vs  -- 94, su
    ∷ scan "e" 96 ts  -- 95, sup
    ∷ scan "r" 33 vs  -- 96, supe
    ∷ scan "e" 98 cs  -- 97, th
    ∷ scan "r" 91 vs  -- 98, the
    ∷ scan "r" 100 cs  -- 99, t
    ∷ scan "a" 101 104  -- 100, tr
    ∷ scan "n" 102 vs  -- 101, tra
    ∷ scan "s" 103 ts  -- 102, tran
    ∷ table "afglm"  -- 103, trans
    ∷ scan "i" 105 cs  -- 104, tr
    ∷ table "afu"  -- 105, tri
    ∷ scan "d" 107 35  -- 106, un
    ∷ scan "e" 108 28  -- 107, und
    ∷ scan "r" 33 29  -- 108, unde
    ∷ []

-- The word of a row, 0 past the table.
unfoldable pub prefix : ℕ → ℕ
prefix k = get_or prefix_words k 0
