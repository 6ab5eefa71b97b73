-- Phase 2 of 004: the machine that removes suffixes. Labels, registers and opcodes have 004's names; where its comments and its code
-- differ, the code is followed.
use Rattle.std.specs.Prelude.{ℕ, zero, suc, ◌+◌, ◌-◌, ◌%◌, Bool, true, false, cond, not, ◌&&◌, ◌||◌, List, [], ◌∷◌, leb, eqb}
use Rattle.tables1980.specs.Words.{o, ◌ε◌, opcode, truex, falsex, oprand, scan, double, table, check, success, fail, repeat, again, mark, efail}
use Rattle.tables1980.specs.Suffix.{suffix}
use Rattle.tables1980.specs.Targets.{is_instruction}
use Rattle.sheet1980.specs.Sheet.{u, mem, clear}
use Rattle.suffix1980.specs.declared.Instruction.{Instruction}
use Rattle.suffix1980.specs.declared.Instruction.TheVariants.{Scan, Double, Table, Check, Success, Fail, Repeat, Again, Mark, Efail, Confusion}

-- finale is the place of a final "e", or infinity where there is none. While it is ed_removed, "ed" was just removed, and the next letter
-- decides where the final "e" stands.
abbrev pub infinity : ℕ
infinity = 1000000

abbrev pub ed_removed : ℕ
ed_removed = 999999

-- An instruction by its opcode, with the fields that it uses.
abbrev pub by_opcode : ℕ → ℕ → Instruction
by_opcode op w =
    cond (eqb op scan) (Scan (oprand w) (truex w) (falsex w))
    (cond (eqb op double) (Double (truex w) (falsex w))
    (cond (eqb op table) (Table (oprand w) (truex w) (falsex w))
    (cond (eqb op check) (Check (truex w) (falsex w))
    (cond (eqb op success) (Success (oprand w))
    (cond (eqb op fail) Fail
    (cond (eqb op repeat) (Repeat (oprand w))
    (cond (eqb op again) (Again (truex w))
    (cond (eqb op mark) (Mark (oprand w) (truex w))
    (cond (eqb op efail) Efail Confusion)))))))))

unfoldable pub decode : ℕ → Instruction
decode w = by_opcode (opcode w) w

-- Where the machine stands: at interps with i, pc, firsttime, finale and the sheet, or gone on to phase 3 with finale and the sheet.
pub data Suffixes : Type 0 where
  Interps : ℕ → ℕ → Bool → ℕ → List ℕ → Suffixes
  Phase3 : ℕ → List ℕ → Suffixes

-- finale at a re-entry whose first letter is pc: an "e" is final itself; behind a removed "ed" the removed "e" is; else none is.
unfoldable pub final_at : ℕ → ℕ → ℕ → ℕ
final_at i pc finale = cond (eqb pc (o "e")) (i + 1) (cond (eqb finale ed_removed) (i + 2) infinity)

-- sufbegin: the row to begin with is the code of the letter behind i.
abbrev pub sufbegin : ℕ → Bool → ℕ → List ℕ → Suffixes
sufbegin i firsttime finale sheet = Interps i (mem sheet (i + 1)) firsttime (final_at i (mem sheet (i + 1)) finale) sheet

-- restarts: the first time is over, and the machine is entered again only from i = u + 3 on.
abbrev pub restarts : ℕ → ℕ → List ℕ → Suffixes
restarts i finale sheet = cond (leb (u + 3) i) (sufbegin i false finale sheet) (Phase3 finale sheet)

-- marksuf: a hyphen before the suffix just removed.
abbrev pub marksuf : ℕ → ℕ → List ℕ → Suffixes
marksuf i finale sheet = restarts i finale (clear sheet (i + 2))

-- interps: one instruction for a word of n letters, with the registers and the sheet.
unfoldable pub interps : ℕ → ℕ → Bool → ℕ → List ℕ → Instruction → Suffixes
-- Is it this letter? Then i goes back by one and on to truex, else to falsex. Five bits are compared.
interps n i firsttime finale sheet (Scan t truex falsex) =
    cond (eqb (mem sheet i % 32) (t % 32)) (Interps (i - 1) truex firsttime finale sheet) (Interps i falsex firsttime finale sheet)
-- The same for a letter like the one before it.
interps n i firsttime finale sheet (Double truex falsex) =
    cond (eqb (mem sheet i) (mem sheet (i - 1))) (Interps (i - 1) truex firsttime finale sheet) (Interps i falsex firsttime finale sheet)
-- The same for a letter of the mask that the operand names.
interps n i firsttime finale sheet (Table t truex falsex) =
    cond (mem sheet i ε suffix t) (Interps (i - 1) truex firsttime finale sheet) (Interps i falsex firsttime finale sheet)
-- Are there enough letters left? i stays.
interps n i firsttime finale sheet (Check truex falsex) =
    cond (leb i (u + 3)) (Interps i falsex firsttime finale sheet) (Interps i truex firsttime finale sheet)
-- A hyphen before the letter t + 1 places behind i, and the end.
interps n i firsttime finale sheet (Success t) = Phase3 finale (clear sheet (i + t + 1))
interps n i firsttime finale sheet Fail = Phase3 finale sheet
-- The same hyphen, and again with the letters before it.
interps n i firsttime finale sheet (Repeat t) = marksuf (i + t - 1) finale sheet
-- Once only: again without the last letter. Else on to truex.
interps n i firsttime finale sheet (Again truex) =
    cond firsttime (restarts (u + n - 2) finale sheet) (Interps i truex firsttime finale sheet)
-- A hyphen as for success, but with t = 0 the first time only; on to truex.
interps n i firsttime finale sheet (Mark t truex) =
    Interps i truex firsttime finale (cond (not (eqb t 0) || firsttime) (clear sheet (i + t + 1)) sheet)
-- A word that ends in "ed": again without it. Else the end.
interps n i firsttime finale sheet Efail =
    cond (eqb (mem sheet (u + n)) (o "d") && eqb (mem sheet (u + n - 1)) (o "e")) (marksuf (u + n - 3) ed_removed sheet) (Phase3 finale sheet)
-- "an unknown opcode stops its machine as "fail" does"
interps n i firsttime finale sheet Confusion = Phase3 finale sheet

-- What the machine leaves: one instruction more is needed than there is budget for; or the rest of the budget, finale and the sheet.
pub data Suffixed : Type 0 where
  RanOut : Suffixed
  Stopped : ℕ → ℕ → List ℕ → Suffixed

-- "A call gets a budget of .. instructions and tells how many were executed": each word fetched takes one.
unfoldable pub suffixes : ℕ → ℕ → Suffixes → Suffixed
suffixes zero n (Phase3 finale sheet) = Stopped 0 finale sheet
suffixes zero n (Interps i pc firsttime finale sheet) = RanOut
suffixes (suc budget) n (Phase3 finale sheet) = Stopped (suc budget) finale sheet
suffixes (suc budget) n (Interps i pc firsttime finale sheet) =
    suffixes budget n (interps n i firsttime finale sheet (decode (suffix pc)))

-- Phase 2 begins at the last letter but one, with the row of the last letter.
unfoldable pub phase2 : ℕ → ℕ → List ℕ → Suffixed
phase2 budget n sheet = suffixes budget n (sufbegin (u + n - 1) true infinity sheet)

-- The rows fetched on the way, in order, and whether all of them are instructions: "Suffix words 0, 50, .. are letter masks".
unfoldable pub rows_fetched : ℕ → ℕ → Suffixes → List ℕ
rows_fetched zero n x = []
rows_fetched (suc budget) n (Phase3 finale sheet) = []
rows_fetched (suc budget) n (Interps i pc firsttime finale sheet) =
    pc ∷ rows_fetched budget n (interps n i firsttime finale sheet (decode (suffix pc)))

unfoldable pub all_instructions : List ℕ → Bool
all_instructions [] = true
all_instructions (k ∷ rows) = is_instruction k && all_instructions rows
