-- The suffix machine stops: what a step costs falls with each instruction.
use Prim.Native.Nat.{ℕ, zero, suc, ◌+◌, ◌*◌, ◌-◌, ◌%◌, ◌<◌, ◌≤◌}
use mathlib.Core.Bool.{Bool, true, false, cond, not, ◌&&◌, ◌||◌}
use mathlib.Core.List.{List}
use mathlib.Core.Logic.{◌⊎◌, inl, inr}
use mathlib.Core.Path.{◌≡◌, sym, subst}
use native.Mathlib.Omega.{arith}
use borrow.Author.Tests.{leb-true}
use lib.Dec.{leb, eqb}
use Rattle.base.proofs.Lists.{never, both}
use Rattle.tables1980.specs.Words.{o, ◌ε◌}
use Rattle.tables1980.specs.Suffix.{suffix}
use Rattle.sheet1980.specs.Sheet.{u, mem, clear, Sheet}
use Rattle.suffix1980.specs.declared.Instruction.{Instruction}
use Rattle.suffix1980.specs.declared.Instruction.TheVariants.{Scan, Double, Table, Check, Success, Fail, Repeat, Again, Mark, Efail, Confusion}
use Rattle.suffix1980.specs.Suffixes.{decode}
use Rattle.suffix1980.specs.Suffixes.{Suffixes, Interps, Phase3, sufbegin, restarts, marksuf, interps, infinity, ed_removed, Suffixed, RanOut, Stopped, suffixes, phase2}
use Rattle.sheet1980.proofs.Sheets.{clear_either, clear_same, clear_sheet, either_way}
use Rattle.suffix1980.proofs.Rows.{height, credit, Goes, Sound, row_sound_lem, row_low_lem, letter_row_lem}

-- "ed" can still be removed: then as many runs as the word has letters may come once more
pub ed : ℕ → List ℕ → ℕ
ed n sheet = cond (eqb (mem sheet (u + n - 1)) (o "e")) n 0

ed_none : (n : ℕ) (sheet : List ℕ) → mem sheet (u + n - 1) ≡ 0 → ed n sheet ≡ 0
unfolding ed
ed_none n sheet e = rw e

ed_some : (n : ℕ) (sheet : List ℕ) → eqb (mem sheet (u + n - 1)) (o "e") ≡ true → ed n sheet ≡ n
unfolding ed
ed_some n sheet e = rw e

pub ed_small : (n : ℕ) (sheet : List ℕ) → ed n sheet ≤ n
unfolding ed
ed_small n sheet = either_way (λ k. k ≤ n) (eqb (mem sheet (u + n - 1)) (o "e")) n 0 (λ e. omega arith) (λ e. omega arith)

ed_same : (n : ℕ) (sheet : List ℕ) (j : ℕ) → mem (clear sheet j) (u + n - 1) ≡ mem sheet (u + n - 1) → ed n (clear sheet j) ≡ ed n sheet
unfolding ed
ed_same n sheet j e = rw e

ed_clear : (n : ℕ) (sheet : List ℕ) (j : ℕ) → ed n (clear sheet j) ≤ ed n sheet
ed_clear n sheet j = go (clear_either sheet j (u + n - 1))
  where
    go : (mem (clear sheet j) (u + n - 1) ≡ mem sheet (u + n - 1)) ⊎ (mem (clear sheet j) (u + n - 1) ≡ 0) → ed n (clear sheet j) ≤ ed n sheet
    go (inl e) = omega (arith, ed_same n sheet j e)
    go (inr e) = omega (arith, ed_none n (clear sheet j) e)

-- A run of the machine that began with i = top.
pub record Live (n top i pc : ℕ) (firsttime : Bool) (sheet : List ℕ) : Type 0 where
  pub row : 0 < height pc
  -- as many letters as the row claims were matched, and at most one with each instruction
  pub near : i + credit pc ≤ top
  pub far : top + height pc ≤ i + 12
  pub begun : u + 3 ≤ top
  pub last : top + 1 ≤ u + n
  pub first : firsttime ≡ true → top + 1 ≡ u + n
  pub kept : Sheet n sheet

-- No place below 0: i stays above u - 9.
pub place_stays : {n top i pc : ℕ} {firsttime : Bool} {sheet : List ℕ} → Live n top i pc firsttime sheet → u < i + 9
place_stays l = omega (arith, l.row, l.far, l.begun)

-- at most so many instructions to come
pub cost : ℕ → ℕ → ℕ → List ℕ → ℕ
cost n top pc sheet = height pc + 12 * (top - u + ed n sheet)

-- less than m to come, or stopped
abbrev pub Fine : ℕ → ℕ → Suffixes → Type 0
Fine n m (Interps i pc firsttime finale sheet) = (top : ℕ) × Live n top i pc firsttime sheet × (cost n top pc sheet < m)
Fine n m (Phase3 finale sheet) = Sheet n sheet × (0 < m)

pub begin_fine : (n m i : ℕ) (firsttime : Bool) (finale : ℕ) (sheet : List ℕ) → Sheet n sheet → u + 3 ≤ i → i + 1 ≤ u + n → (firsttime ≡ true → i + 1 ≡ u + n) → 12 + 12 * (i - u + ed n sheet) < m → Fine n m (sufbegin i firsttime finale sheet)
unfolding cost
begin_fine n m i firsttime finale sheet s h l f c =
    let r = letter_row_lem (mem sheet (i + 1)) (s.codes (i + 1)) in
    let w = row_low_lem (mem sheet (i + 1)) r.0 in
    (i, record { row = r.0; near = omega (arith, r.1); far = omega (arith, w); begun = h; last = l; first = f; kept = s }, omega (arith, w, c))

restart_fine : (n m i finale : ℕ) (sheet : List ℕ) → Sheet n sheet → i + 1 ≤ u + n → 12 + 12 * (i - u + ed n sheet) < m → Fine n m (restarts i finale sheet)
restart_fine n m i finale sheet s l c =
    either_way (λ (x : Suffixes). Fine n m x) (leb (u + 3) i) (sufbegin i false finale sheet) (Phase3 finale sheet)
    (λ e. begin_fine n m i false finale sheet s (leb-true (u + 3) i e) l (λ z. never z) c)
    (λ e. (s, omega (arith, c)))

marksuf_fine : (n m i finale : ℕ) (sheet : List ℕ) → Sheet n sheet → i + 1 ≤ u + n → 12 + 12 * (i - u + ed n (clear sheet (i + 2))) < m → Fine n m (marksuf i finale sheet)
marksuf_fine n m i finale sheet s l c = restart_fine n m i finale (clear sheet (i + 2)) (clear_sheet (i + 2) s) l c

module _ (n top i pc : ℕ) (firsttime : Bool) (finale : ℕ) (sheet : List ℕ) (l : Live n top i pc firsttime sheet) where
  stays : (x : ℕ) → Goes pc x 0 → Fine n (cost n top pc sheet) (Interps i x firsttime finale sheet)
  unfolding cost
  stays x g = (
    top,
    record { row = g.row; near = omega (arith, l.near, g.claims); far = omega (arith, l.far, g.lower); begun = l.begun; last = l.last; first = l.first; kept = l.kept },
    omega (arith, g.lower),
  )

  moves : (x : ℕ) → Goes pc x 1 → Fine n (cost n top pc sheet) (Interps (i - 1) x firsttime finale sheet)
  unfolding cost
  moves x g = (
    top,
    record { row = g.row; near = omega (arith, l.near, g.claims, place_stays l); far = omega (arith, l.far, g.lower, place_stays l); begun = l.begun; last = l.last; first = l.first; kept = l.kept },
    omega (arith, g.lower),
  )

  marked : (x t : ℕ) → Goes pc x 0 → Fine n (cost n top pc sheet) (Interps i x firsttime finale (clear sheet t))
  unfolding cost
  marked x t g = (
    top,
    record { row = g.row; near = omega (arith, l.near, g.claims); far = omega (arith, l.far, g.lower); begun = l.begun; last = l.last; first = l.first; kept = clear_sheet t l.kept },
    omega (arith, g.lower, ed_clear n sheet t),
  )

  costs : 0 < cost n top pc sheet
  unfolding cost
  costs = omega (arith, l.row)

  repeated : (t : ℕ) → t ≤ credit pc → Fine n (cost n top pc sheet) (marksuf (i + t - 1) finale sheet)
  unfolding cost
  repeated t h =
      marksuf_fine n (cost n top pc sheet) (i + t - 1) finale sheet l.kept (omega (arith, l.near, l.last, l.begun))
      (omega (arith, l.near, l.begun, l.row, ed_clear n sheet (i + t - 1 + 2)))

  renewed : firsttime ≡ true → Fine n (cost n top pc sheet) (restarts (u + n - 2) finale sheet)
  unfolding cost
  renewed e = restart_fine n (cost n top pc sheet) (u + n - 2) finale sheet l.kept (omega (arith, l.begun, l.last)) (omega (arith, l.first e, l.begun, l.row))

  ed_gone : u + 4 ≤ u + n → ed n (clear sheet (u + n - 3 + 2)) ≡ 0
  ed_gone h =
      let e : u + n - 3 + 2 ≡ u + n - 1 = omega arith in
      ed_none n (clear sheet (u + n - 3 + 2)) (subst (λ k. mem (clear sheet k) (u + n - 1) ≡ 0) (sym e) (clear_same sheet (u + n - 1)))

  removed : eqb (mem sheet (u + n - 1)) (o "e") ≡ true → Fine n (cost n top pc sheet) (marksuf (u + n - 3) ed_removed sheet)
  unfolding cost
  removed e =
      marksuf_fine n (cost n top pc sheet) (u + n - 3) ed_removed sheet l.kept (omega (arith, l.begun, l.last))
      (omega (arith, ed_gone (omega (arith, l.begun, l.last)), ed_some n sheet e, l.begun, l.last, l.row))

  pub step_fine : (x : Instruction) → Sound pc x → Fine n (cost n top pc sheet) (interps n i firsttime finale sheet x)
  unfolding interps
  step_fine (Scan t truex falsex) s =
      either_way (λ (x : Suffixes). Fine n (cost n top pc sheet) x) (eqb (mem sheet i % 32) (t % 32)) (Interps (i - 1) truex firsttime finale sheet) (Interps i falsex firsttime finale sheet)
      (λ e. moves truex s.0) (λ e. stays falsex s.1)
  step_fine (Double truex falsex) s =
      either_way (λ (x : Suffixes). Fine n (cost n top pc sheet) x) (eqb (mem sheet i) (mem sheet (i - 1))) (Interps (i - 1) truex firsttime finale sheet) (Interps i falsex firsttime finale sheet)
      (λ e. moves truex s.0) (λ e. stays falsex s.1)
  step_fine (Table t truex falsex) s =
      either_way (λ (x : Suffixes). Fine n (cost n top pc sheet) x) (mem sheet i ε suffix t) (Interps (i - 1) truex firsttime finale sheet) (Interps i falsex firsttime finale sheet)
      (λ e. moves truex s.0) (λ e. stays falsex s.1)
  step_fine (Check truex falsex) s =
      either_way (λ (x : Suffixes). Fine n (cost n top pc sheet) x) (leb i (u + 3)) (Interps i falsex firsttime finale sheet) (Interps i truex firsttime finale sheet)
      (λ e. stays falsex s.1) (λ e. stays truex s.0)
  step_fine (Success t) s = (clear_sheet (i + t + 1) l.kept, costs)
  step_fine Fail s = (l.kept, costs)
  step_fine (Repeat t) s = repeated t s
  step_fine (Again truex) s =
      either_way (λ (x : Suffixes). Fine n (cost n top pc sheet) x) firsttime (restarts (u + n - 2) finale sheet) (Interps i truex firsttime finale sheet)
      (λ e. renewed e) (λ e. stays truex s)
  step_fine (Mark t truex) s =
      either_way (λ (x : List ℕ). Fine n (cost n top pc sheet) (Interps i truex firsttime finale x)) (not (eqb t 0) || firsttime) (clear sheet (i + t + 1)) sheet
      (λ e. marked truex (i + t + 1) s) (λ e. stays truex s)
  step_fine Efail s =
      either_way (λ (x : Suffixes). Fine n (cost n top pc sheet) x) (eqb (mem sheet (u + n)) (o "d") && eqb (mem sheet (u + n - 1)) (o "e")) (marksuf (u + n - 3) ed_removed sheet) (Phase3 finale sheet)
      (λ e. removed (both (eqb (mem sheet (u + n)) (o "d")) (eqb (mem sheet (u + n - 1)) (o "e")) e).1) (λ e. (l.kept, costs))
  step_fine Confusion s = (l.kept, costs)

-- stopped, with less than m instructions executed
abbrev pub Ended : ℕ → ℕ → ℕ → Suffixed → Type 0
Ended n budget m RanOut = ⊥
Ended n budget m (Stopped left finale sheet) = Sheet n sheet × (budget < left + m)

more : (n budget k m : ℕ) (x : Suffixed) → k < m → Ended n budget k x → Ended n (suc budget) m x
more n budget k m RanOut h e = e
more n budget k m (Stopped left finale sheet) h e = (e.0, omega (arith, e.1))

pub suffixes_end : (budget n m : ℕ) (x : Suffixes) → Fine n m x → m ≤ suc budget → Ended n budget m (suffixes budget n x)
unfolding suffixes
suffixes_end zero n m (Phase3 finale sheet) f h = (f.0, omega (arith, f.1))
suffixes_end zero n m (Interps i pc firsttime finale sheet) f h = absurd (omega (arith, f.2, costs n f.0 i pc firsttime finale sheet f.1))
suffixes_end (suc budget) n m (Phase3 finale sheet) f h = (f.0, omega (arith, f.1))
suffixes_end (suc budget) n m (Interps i pc firsttime finale sheet) f h =
    let k = cost n f.0 pc sheet in
    more n budget k m (suffixes budget n (interps n i firsttime finale sheet (decode (suffix pc)))) f.2
    (suffixes_end budget n k (interps n i firsttime finale sheet (decode (suffix pc)))
    (step_fine n f.0 i pc firsttime finale sheet f.1 (decode (suffix pc)) (row_sound_lem pc f.1.row))
    (omega (arith, f.2)))

-- Phase 2 executes at most 24 n instructions.
pub phase2_ends : (budget n : ℕ) (sheet : List ℕ) → Sheet n sheet → 5 ≤ n → 24 * n ≤ budget → Ended n budget (24 * n + 1) (phase2 budget n sheet)
unfolding phase2
phase2_ends budget n sheet s h b =
    suffixes_end budget n (24 * n + 1) (sufbegin (u + n - 1) true infinity sheet)
    (begin_fine n (24 * n + 1) (u + n - 1) true infinity sheet s (omega arith) (omega arith) (λ e. omega arith) (omega (arith, ed_small n sheet)))
    (omega arith)
