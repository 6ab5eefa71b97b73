-- The words of 36 bits that 004's tables are made of, how they are built there and how they are read. Bit 0 is the leading one.
use Rattle.std.specs.Prelude.{ℕ, ◌+◌, ◌-◌, ◌/◌, ◌%◌, ◌^◌, Bool, ◌&&◌, ltb, eqb}
use Prim.Native.Char.{Char, code}
use Prim.Native.String.{String, [] as «empty», ◌∷◌ as ◌then◌}

-- 004's flag: the leading bit alone.
abbrev pub flag : ℕ
flag = 2 ^ 35

-- 004's o(c): a letter's code, the last five bits of its character.
abbrev pub o : Char → ℕ
o c = code c % 32

-- 004's t(c), added up over some letters: one bit for each, at the place that its code is given.
abbrev pub letters_at : (ℕ → ℕ) → String → ℕ
letters_at place «empty» = 0
letters_at place (c then s) = 2 ^ (35 - place (o c)) + letters_at place s

-- 004's xεy: shifted left by x bits, the word y has a leading 1. There is no bit past the last.
infixl 20 ◌ε◌
abbrev pub ◌ε◌ : ℕ → ℕ → Bool
x ε y = ltb x 36 && eqb (y / 2 ^ (35 - x) % 2) 1

-- The four fields of an instruction, nine bits each: opcode, truex, falsex, operand.
abbrev pub opcode : ℕ → ℕ
opcode w = w / 2 ^ 27

abbrev pub truex : ℕ → ℕ
truex w = w / 2 ^ 18 % 512

abbrev pub falsex : ℕ → ℕ
falsex w = w / 2 ^ 9 % 512

abbrev pub oprand : ℕ → ℕ
oprand w = w % 512

-- The opcodes by their numbers.
abbrev pub scan : ℕ
scan = 0

abbrev pub double : ℕ
double = 1

abbrev pub table : ℕ
table = 2

abbrev pub check : ℕ
check = 3

abbrev pub success : ℕ
success = 4

abbrev pub fail : ℕ
fail = 5

abbrev pub repeat : ℕ
repeat = 6

abbrev pub again : ℕ
again = 7

abbrev pub mark : ℕ
mark = 8

abbrev pub efail : ℕ
efail = 9

-- Two more for the prefix machine, which has no success and no again.
abbrev pub vow : ℕ
vow = success

abbrev pub cons : ℕ
cons = again
