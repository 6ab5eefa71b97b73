-- The prefix machine stops, and phase 4 begins on the word.
use Prim.Native.Nat.{ℕ, zero, suc, ◌+◌, ◌*◌, ◌-◌, ◌%◌, ◌<◌, ◌≤◌}
use mathlib.Core.Bool.{true, false}
use mathlib.Core.List.{List}
use mathlib.Core.Path.{◌≡◌}
use native.Mathlib.Omega.{arith}
use borrow.Author.Tests.{eqb-true}
use lib.Dec.{eqb}
use Rattle.tables1980.specs.Words.{◌ε◌}
use Rattle.tables1980.specs.Prefix.{prefix}
use Rattle.sheet1980.specs.Sheet.{u, mem, clear, Sheet}
use Rattle.sheet1980.proofs.Sheets.{clear_sheet, either_way, lettered, some}
use Rattle.middle1980.specs.Middles.{Middle, Goto, Phase5}
use Rattle.middle1980.specs.Joined.{Place}
use Rattle.middle1980.specs.declared.Label.TheVariants.{Marki, Vowelscan}
use Rattle.prefix1980.specs.Prefixes.{Prefixes, Interpp, Stops, decode, restartp, reenter, interpp, Prefixed, RanOut, Stopped, prefixes, phase3}
use Rattle.prefix1980.specs.declared.Instruction.{Instruction}
use Rattle.prefix1980.specs.declared.Instruction.TheVariants.{Scan, Repeat, Mark, Table, Fail, Vow, Cons, Confusion}
use Rattle.prefix1980.proofs.Rows.{height, credit, Goes, Sound, row_sound_lem, row_low_lem, letter_row_lem}

-- A run of the machine that began with i = top, j being top - 1.
pub record Live (n top i pc c j : ℕ) (sheet : List ℕ) : Type 0 where
  pub row : 0 < height pc
  -- as many letters as the row claims were matched
  pub near : top + credit pc ≤ i
  pub begun : u + 2 ≤ top
  pub last : i ≤ u + n + 1
  pub before : j + 1 ≡ top
  pub kept : Sheet n sheet

-- at most so many instructions to come
pub cost : ℕ → ℕ → ℕ → ℕ
cost n top pc = height pc + 8 * (u + n + 2 - top)

-- where phase 4 may begin
abbrev pub Begins : ℕ → Middle → Type 0
Begins n (Goto label i b c sheet) = Sheet n sheet × Place n label i c
Begins n (Phase5 sheet) = Sheet n sheet

-- less than m to come, or stopped
abbrev pub Fine : ℕ → ℕ → Prefixes → Type 0
Fine n m (Interpp i pc c j sheet) = (top : ℕ) × Live n top i pc c j sheet × (cost n top pc < m)
Fine n m (Stops x) = Begins n x × (0 < m)

pub begin_fine : (n m i pc : ℕ) (sheet : List ℕ) → Sheet n sheet → pc ≤ 26 → u + 2 ≤ i → i ≤ u + n + 1 → 8 + 8 * (u + n + 2 - i) < m → Fine n m (restartp i pc sheet)
unfolding cost
begin_fine n m i pc sheet s p h l c =
    let r = letter_row_lem pc p in
    let w = row_low_lem pc r.0 in
    (i, record { row = r.0; near = omega (arith, r.1); begun = h; last = l; before = omega arith; kept = s }, omega (arith, w, c))

module _ (n top i pc c j : ℕ) (sheet : List ℕ) (l : Live n top i pc c j sheet) where
  costs : 0 < cost n top pc
  unfolding cost
  costs = omega (arith, l.row)

  stays : (x : ℕ) → Goes pc x 0 → Fine n (cost n top pc) (Interpp i x c j sheet)
  unfolding cost
  stays x g = (
    top,
    record { row = g.row; near = omega (arith, l.near, g.claims); begun = l.begun; last = l.last; before = l.before; kept = l.kept },
    omega (arith, g.lower),
  )

  -- a letter matched is one of the word's
  matched : (t : ℕ) → 0 < t % 32 → eqb (mem sheet i % 32) (t % 32) ≡ true → i ≤ u + n
  matched t h e = lettered i l.kept (omega (arith, eqb-true (mem sheet i % 32) (t % 32) e))

  moves : (x : ℕ) → i ≤ u + n → Goes pc x 1 → Fine n (cost n top pc) (Interpp (i + 1) x c j sheet)
  unfolding cost
  moves x h g = (
    top,
    record { row = g.row; near = omega (arith, l.near, g.claims); begun = l.begun; last = omega arith; before = l.before; kept = l.kept },
    omega (arith, g.lower),
  )

  repeated : (t : ℕ) → t ≤ credit pc → eqb (mem sheet (i - t + 1)) 0 ≡ false → Fine n (cost n top pc) (reenter (i - t + 1) sheet)
  unfolding cost
  repeated t h e =
      let k = lettered (i - t + 1) l.kept (some (mem sheet (i - t + 1)) e) in
      begin_fine n (cost n top pc) (i - t + 1) (mem sheet (i - t + 1 - 1)) (clear sheet (i - t + 1 - 1)) (clear_sheet (i - t + 1 - 1) l.kept) (l.kept.codes (i - t + 1 - 1))
      (omega (arith, l.near, l.begun)) (omega (arith, k)) (omega (arith, k, l.near, l.row))

  low : u + 1 ≤ i
  low = omega (arith, l.near, l.begun)

  first_letter : (u + 1 ≤ j) × (j ≤ u + n + 1) × (0 < c → j ≤ u + n)
  first_letter = (omega (arith, l.before, l.begun), omega (arith, l.before, l.near, l.last), λ z. omega (arith, l.before, l.near, l.last))

  pub step_fine : (x : Instruction) → Sound pc x → Fine n (cost n top pc) (interpp i c j sheet x)
  unfolding interpp
  step_fine (Scan t truex falsex) s =
      either_way (λ (x : Prefixes). Fine n (cost n top pc) x) (eqb (mem sheet i % 32) (t % 32)) (Interpp (i + 1) truex c j sheet) (Interpp i falsex c j sheet)
      (λ e. moves truex (matched t s.0 e) s.1) (λ e. stays falsex s.2)
  step_fine (Repeat t) s =
      either_way (λ (x : Prefixes). Fine n (cost n top pc) x) (eqb (mem sheet (i - t + 1)) 0) (Stops (Phase5 sheet)) (reenter (i - t + 1) sheet)
      (λ e. (l.kept, costs)) (λ e. repeated t s e)
  step_fine (Mark t) s = (
    (either_way (λ (x : List ℕ). Sheet n x) (eqb t 0) sheet (clear sheet (i - t)) (λ e. l.kept) (λ e. clear_sheet (i - t) l.kept), (low, l.last)),
    costs,
  )
  step_fine (Table letters) s = (
    either_way (λ (x : Middle). Begins n x) ((mem sheet i + 9) ε letters) (Goto Marki i 0 c sheet) (Goto Vowelscan j 0 c sheet)
        (λ e. (l.kept, (low, l.last))) (λ e. (l.kept, first_letter)),
    costs,
  )
  step_fine Fail s = (l.kept, costs)
  step_fine Vow s = ((l.kept, (low, l.last)), costs)
  step_fine Cons s = ((l.kept, (low, l.last)), costs)
  step_fine Confusion s = (l.kept, costs)

-- stopped, with less than m instructions executed
abbrev pub Ended : ℕ → ℕ → ℕ → Prefixed → Type 0
Ended n budget m RanOut = ⊥
Ended n budget m (Stopped left x) = Begins n x × (budget < left + m)

more : (n budget k m : ℕ) (x : Prefixed) → k < m → Ended n budget k x → Ended n (suc budget) m x
more n budget k m RanOut h e = e
more n budget k m (Stopped left x) h e = (e.0, omega (arith, e.1))

pub prefixes_end : (budget n m : ℕ) (x : Prefixes) → Fine n m x → m ≤ suc budget → Ended n budget m (prefixes budget x)
unfolding prefixes
prefixes_end zero n m (Stops x) f h = (f.0, omega (arith, f.1))
prefixes_end zero n m (Interpp i pc c j sheet) f h = absurd (omega (arith, f.2, costs n f.0 i pc c j sheet f.1))
prefixes_end (suc budget) n m (Stops x) f h = (f.0, omega (arith, f.1))
prefixes_end (suc budget) n m (Interpp i pc c j sheet) f h =
    let k = cost n f.0 pc in
    more n budget k m (prefixes budget (interpp i c j sheet (decode (prefix pc)))) f.2
    (prefixes_end budget n k (interpp i c j sheet (decode (prefix pc)))
    (step_fine n f.0 i pc c j sheet f.1 (decode (prefix pc)) (row_sound_lem pc f.1.row))
    (omega (arith, f.2)))

-- Phase 3 executes at most 8 n + 8 instructions.
pub phase3_ends : (budget n : ℕ) (sheet : List ℕ) → Sheet n sheet → 5 ≤ n → 8 * n + 8 ≤ budget → Ended n budget (8 * n + 9) (phase3 budget sheet)
unfolding phase3
phase3_ends budget n sheet s h b =
    prefixes_end budget n (8 * n + 9) (restartp (u + 2) (mem sheet (u + 1)) sheet)
    (begin_fine n (8 * n + 9) (u + 2) (mem sheet (u + 1)) sheet s (s.codes (u + 1)) (omega arith) (omega arith) (omega arith))
    (omega arith)
