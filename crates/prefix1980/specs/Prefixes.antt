-- Phase 3 of 004: the machine that removes prefixes. Labels, registers and opcodes have 004's names.
use Rattle.std.specs.Prelude.{ℕ, zero, suc, ◌+◌, ◌-◌, ◌%◌, cond, List, eqb}
use Rattle.tables1980.specs.Words.{◌ε◌, opcode, truex, falsex, oprand, scan, table, fail, repeat, mark, vow, cons}
use Rattle.tables1980.specs.Prefix.{prefix}
use Rattle.sheet1980.specs.Sheet.{u, mem, clear}
use Rattle.middle1980.specs.Middles.{Middle, Goto, Phase5}
use Rattle.middle1980.specs.declared.Label.TheVariants.{Marki, Phase4c, Vowelscan, Phase4v}
use Rattle.prefix1980.specs.declared.Instruction.{Instruction}
use Rattle.prefix1980.specs.declared.Instruction.TheVariants.{Scan, Repeat, Mark, Table, Fail, Vow, Cons, Confusion}

-- An instruction by its opcode, with the fields that it uses. A table's word holds its letters.
abbrev pub by_opcode : ℕ → ℕ → Instruction
by_opcode op w =
    cond (eqb op scan) (Scan (oprand w) (truex w) (falsex w))
    (cond (eqb op repeat) (Repeat (oprand w))
    (cond (eqb op mark) (Mark (oprand w))
    (cond (eqb op table) (Table w)
    (cond (eqb op fail) Fail
    (cond (eqb op vow) Vow
    (cond (eqb op cons) Cons Confusion))))))

unfoldable pub decode : ℕ → Instruction
decode w = by_opcode (opcode w) w

-- Where the machine stands: at interpp with i, pc, c, j and the sheet, or stopped, to go on in phase 4 or 5.
pub data Prefixes : Type 0 where
  Interpp : ℕ → ℕ → ℕ → ℕ → List ℕ → Prefixes
  Stops : Middle → Prefixes

-- restartp: c is the prefix's first letter and j its place.
abbrev pub restartp : ℕ → ℕ → List ℕ → Prefixes
restartp i pc sheet = Interpp i pc pc (i - 1) sheet

-- A prefix was removed: a hyphen before the letter in front of i, and again from there.
abbrev pub reenter : ℕ → List ℕ → Prefixes
reenter i sheet = restartp i (mem sheet (i - 1)) (clear sheet (i - 1))

-- interpp: one instruction, with the registers and the sheet. Phase 4's register b isn't in use yet.
unfoldable pub interpp : ℕ → ℕ → ℕ → List ℕ → Instruction → Prefixes
-- Is it this letter? Then i goes on by one and on to truex, else to falsex. Five bits are compared.
interpp i c j sheet (Scan t truex falsex) =
    cond (eqb (mem sheet i % 32) (t % 32)) (Interpp (i + 1) truex c j sheet) (Interpp i falsex c j sheet)
-- Again behind the prefix, which ends t letters back, unless no more than one letter is left there.
interpp i c j sheet (Repeat t) = cond (eqb (mem sheet (i - t + 1)) 0) (Stops (Phase5 sheet)) (reenter (i - t + 1) sheet)
-- Hyphens t letters back, where t isn't 0, and before the letter at i.
interpp i c j sheet (Mark t) = Stops (Goto Marki i 0 c (cond (eqb t 0) sheet (clear sheet (i - t))))
-- A hyphen before one of these letters; else phase 4 begins at the prefix's first letter.
interpp i c j sheet (Table letters) = Stops (cond ((mem sheet i + 9) ε letters) (Goto Marki i 0 c sheet) (Goto Vowelscan j 0 c sheet))
-- Without phase 4.
interpp i c j sheet Fail = Stops (Phase5 sheet)
-- Behind a vowel, and wherever.
interpp i c j sheet Vow = Stops (Goto Phase4v i 0 c sheet)
interpp i c j sheet Cons = Stops (Goto Phase4c i 0 c sheet)
-- "an unknown opcode stops its machine as "fail" does"
interpp i c j sheet Confusion = Stops (Phase5 sheet)

-- What the machine leaves: one instruction more is needed than there is budget for; or the rest of the budget and where to go on.
pub data Prefixed : Type 0 where
  RanOut : Prefixed
  Stopped : ℕ → Middle → Prefixed

-- Each word fetched takes one instruction of the budget.
unfoldable pub prefixes : ℕ → Prefixes → Prefixed
prefixes zero (Stops m) = Stopped 0 m
prefixes zero (Interpp i pc c j sheet) = RanOut
prefixes (suc budget) (Stops m) = Stopped (suc budget) m
prefixes (suc budget) (Interpp i pc c j sheet) = prefixes budget (interpp i c j sheet (decode (prefix pc)))

-- Phase 3 begins at the second letter, with the row of the first.
unfoldable pub phase3 : ℕ → List ℕ → Prefixed
phase3 budget sheet = prefixes budget (restartp (u + 2) (mem sheet (u + 1)) sheet)
