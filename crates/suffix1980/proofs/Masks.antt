-- The suffix machine executes no letter mask in a word that has all of its letters. No target of an instruction is one, so only row 0 is to
-- be feared, at a re-entry that reads a cleared place. All re-entries but efail's go down and store behind them. Efail's goes up once, to
-- the letter before a final "ed": if places below it were cleared by then, the run from there ends at once.
use Prim.Native.Nat.{ℕ, zero, suc, ◌+◌, ◌-◌, ◌%◌, ◌<◌, ◌≤◌}
use Prim.Native.Char.{code}
use mathlib.Core.Bool.{Bool, true, false, cond, not, ◌&&◌, ◌||◌}
use mathlib.Core.List.{List, [], ◌∷◌}
use mathlib.Core.Logic.{◌⊎◌, inl, inr}
use mathlib.Core.Path.{◌≡◌, refl, sym, ◌∙◌, subst}
use native.Mathlib.Omega.{arith}
use borrow.Author.Tests.{ltb-true, leb-true, eqb-true, eqb-false, lt-ltb, le-leb, not-true}
use lib.Dec.{T, leb, ltb, eqb}
use Rattle.base.specs.Grounds.{one_of}
use Rattle.base.proofs.Lists.{never, both}
use Rattle.tables1980.specs.Words.{o, ◌ε◌}
use Rattle.tables1980.specs.Suffix.{suffix_words, suffix}
use Rattle.tables1980.specs.Targets.{is_mask, is_instruction}
use Rattle.tables1980.proofs.Table.{every, at}
use Rattle.tables1980.proofs.Targets.{suffix_rows}
use Rattle.sheet1980.specs.Sheet.{u, mem, clear, Sheet}
use Rattle.sheet1980.proofs.Sheets.{clear_either, clear_same, clear_other, clear_sheet, either_way}
use Rattle.suffix1980.specs.declared.Instruction.{Instruction}
use Rattle.suffix1980.specs.declared.Instruction.TheVariants.{Scan, Double, Table, Check, Success, Fail, Repeat, Again, Mark, Efail, Confusion}
use Rattle.suffix1980.specs.Suffixes.{decode, Suffixes, Interps, Phase3, final_at, sufbegin, restarts, marksuf, interps, infinity, ed_removed}
use Rattle.suffix1980.specs.Suffixes.{rows_fetched, all_instructions}
use Rattle.suffix1980.proofs.Rows.{credit, Goes, Sound, row_sound_lem, row_low_lem, letter_row_lem}
use Rattle.suffix1980.proofs.Ends.{Live, place_stays}

-- The rows of "e" and "s" mark the place behind the letter that a run begins with: no instruction goes to them.
begins : ℕ → Bool
begins k = eqb k 5 || eqb k 19

follows : ℕ → Bool
follows x = is_instruction x && not (begins x)

-- An instruction of row k goes to instructions. A mark is made behind the run, or else success comes next (row 27).
right : ℕ → Instruction → Bool
right k (Scan t truex falsex) = follows truex && follows falsex
right k (Double truex falsex) = follows truex && follows falsex
right k (Table t truex falsex) = follows truex && follows falsex
right k (Check truex falsex) = follows truex && follows falsex
right k (Success t) = true
right k Fail = true
right k (Repeat t) = true
right k (Again truex) = follows truex
right k (Mark t truex) = follows truex && ((begins k && eqb t 0) || eqb truex 27)
right k Efail = true
right k Confusion = true

-- Rows from which only efail can enter again, and nothing is stored before it: the ends, and all endings in "e" but -able, -ize.
quiet_rows : List ℕ
quiet_rows = 1 ∷ 26 ∷ 27 ∷ 28 ∷ 34 ∷ 35 ∷ 36 ∷ 37 ∷ 42 ∷ 45 ∷ 47 ∷ 52 ∷ 53 ∷ 55 ∷ 56 ∷ 57 ∷ 58 ∷ 59 ∷ 108 ∷ []

quiet : ℕ → Bool
quiet k = is_instruction k && one_of k quiet_rows

quietly : Instruction → Bool
quietly (Scan t truex falsex) = quiet truex && quiet falsex
quietly (Double truex falsex) = quiet truex && quiet falsex
quietly (Table t truex falsex) = quiet truex && quiet falsex
quietly (Check truex falsex) = false
quietly (Success t) = true
quietly Fail = true
quietly (Repeat t) = false
quietly (Again truex) = false
quietly (Mark t truex) = false
quietly Efail = true
quietly Confusion = false

-- the tests over the table
row_right : ℕ → ℕ → Bool
row_right k w = cond (is_instruction k) (right k (decode w)) true

row_quiet : ℕ → ℕ → Bool
row_quiet k w = cond (quiet k) (quietly (decode w)) true

letter_row : ℕ → ℕ → Bool
letter_row k w = cond (ltb 0 k && leb k 26) (is_instruction k) true

tested_right : T (every row_right 0 suffix_words)
unfolding suffix_words is_instruction is_mask one_of row_right right follows begins decode
tested_right = tt

tested_quiet : T (every row_quiet 0 suffix_words)
unfolding suffix_words is_instruction is_mask one_of row_quiet quietly quiet quiet_rows decode
tested_quiet = tt

tested_letters : T (every letter_row 0 suffix_words)
unfolding suffix_words is_instruction is_mask one_of letter_row
tested_letters = tt

cond_true : (test a : Bool) → T (cond test a true) → test ≡ true → a ≡ true
cond_true true true t e = refl
cond_true true false t e = absurd t
cond_true false a t e = never e

inside : (k : ℕ) → is_instruction k ≡ true → k < 109
unfolding is_instruction
inside k e = ltb-true k 109 (both (ltb k 109) (not (is_mask k)) e).0

row_right_lem : (k : ℕ) → is_instruction k ≡ true → right k (decode (suffix k)) ≡ true
unfolding suffix row_right
row_right_lem k e =
    cond_true (is_instruction k) (right k (decode (suffix k)))
    (at row_right suffix_words tested_right k (omega (arith, suffix_rows, inside k e))) e

quiet_instruction : (k : ℕ) → quiet k ≡ true → is_instruction k ≡ true
unfolding quiet
quiet_instruction k e = (both (is_instruction k) (one_of k quiet_rows) e).0

row_quiet_lem : (k : ℕ) → quiet k ≡ true → quietly (decode (suffix k)) ≡ true
unfolding suffix row_quiet
row_quiet_lem k e =
    cond_true (quiet k) (quietly (decode (suffix k)))
    (at row_quiet suffix_words tested_quiet k (omega (arith, suffix_rows, inside k (quiet_instruction k e)))) e

letter_instruction : (k : ℕ) → 0 < k → k ≤ 26 → is_instruction k ≡ true
unfolding letter_row
letter_instruction k h l =
    let b : (ltb 0 k && leb k 26) ≡ true = rw (lt-ltb 0 k h) (le-leb k 26 l) in
    cond_true (ltb 0 k && leb k 26) (is_instruction k) (at letter_row suffix_words tested_letters k (omega (arith, suffix_rows))) b

-- only instructions are fetched, with this budget or with any
abbrev Passes : ℕ → ℕ → Suffixes → Type 0
Passes budget n x = all_instructions (rows_fetched budget n x) ≡ true

abbrev Safe : ℕ → Suffixes → Type 0
Safe n x = (budget : ℕ) → Passes budget n x

nothing : (n : ℕ) (x : Suffixes) → Passes 0 n x
unfolding rows_fetched all_instructions
nothing n x = refl

stopped : (n finale : ℕ) (sheet : List ℕ) → Safe n (Phase3 finale sheet)
unfolding rows_fetched all_instructions
stopped n finale sheet zero = refl
stopped n finale sheet (suc budget) = refl

either : (a b : Bool) → (a || b) ≡ true → (a ≡ true) ⊎ (b ≡ true)
either true b e = inl refl
either false b e = inr e

-- "ed" can be removed.
abbrev Ed : ℕ → List ℕ → Type 0
Ed n sheet = (mem sheet (u + n) ≡ o "d") × (mem sheet (u + n - 1) ≡ o "e")

module _ (n : ℕ) (firsttime : Bool) (finale : ℕ) (sheet : List ℕ) where
  fetched : (budget i pc : ℕ) → is_instruction pc ≡ true → Passes budget n (interps n i firsttime finale sheet (decode (suffix pc)))
      → Passes (suc budget) n (Interps i pc firsttime finale sheet)
  unfolding rows_fetched all_instructions
  fetched budget i pc e p = rw e p

  -- A row whose instruction is known.
  goes_on_lem : (i pc : ℕ) (x : Instruction) → is_instruction pc ≡ true → decode (suffix pc) ≡ x → Safe n (interps n i firsttime finale sheet x)
      → Safe n (Interps i pc firsttime finale sheet)
  goes_on_lem i pc x e d p zero = nothing n (Interps i pc firsttime finale sheet)
  goes_on_lem i pc x e d p (suc budget) =
      fetched budget i pc e (subst (λ (y : Instruction). Passes budget n (interps n i firsttime finale sheet y)) (sym d) (p budget))

  scans : (i pc t truex falsex : ℕ) → is_instruction pc ≡ true → decode (suffix pc) ≡ Scan t truex falsex
      → (mem sheet i % 32 ≡ t % 32 → Safe n (Interps (i - 1) truex firsttime finale sheet)) → Safe n (Interps i falsex firsttime finale sheet)
      → Safe n (Interps i pc firsttime finale sheet)
  unfolding interps
  scans i pc t truex falsex e d met other =
      goes_on_lem i pc (Scan t truex falsex) e d
      (λ budget. either_way (λ (x : Suffixes). Passes budget n x) (eqb (mem sheet i % 32) (t % 32))
      (Interps (i - 1) truex firsttime finale sheet) (Interps i falsex firsttime finale sheet)
      (λ z. met (eqb-true (mem sheet i % 32) (t % 32) z) budget) (λ z. other budget))

  looks : (i pc t truex falsex : ℕ) → is_instruction pc ≡ true → decode (suffix pc) ≡ Table t truex falsex
      → Safe n (Interps (i - 1) truex firsttime finale sheet) → Safe n (Interps i falsex firsttime finale sheet)
      → Safe n (Interps i pc firsttime finale sheet)
  unfolding interps
  looks i pc t truex falsex e d met other =
      goes_on_lem i pc (Table t truex falsex) e d
      (λ budget. either_way (λ (x : Suffixes). Passes budget n x) (mem sheet i ε suffix t)
      (Interps (i - 1) truex firsttime finale sheet) (Interps i falsex firsttime finale sheet)
      (λ z. met budget) (λ z. other budget))

  succeeds : (i pc : ℕ) → pc ≡ 27 → Safe n (Interps i pc firsttime finale sheet)
  unfolding decode suffix suffix_words is_instruction is_mask one_of interps
  succeeds i pc e =
      subst (λ k. Safe n (Interps i k firsttime finale sheet)) (sym e)
      (goes_on_lem i 27 (Success 0) refl refl (stopped n finale (clear sheet (i + 0 + 1))))

  efail_passes : (budget i : ℕ) → (Ed n sheet → Passes budget n (marksuf (u + n - 3) ed_removed sheet))
      → Passes budget n (interps n i firsttime finale sheet Efail)
  unfolding interps
  efail_passes budget i p =
      let d = mem sheet (u + n) in
      let e = mem sheet (u + n - 1) in
      either_way (λ (x : Suffixes). Passes budget n x) (eqb d (o "d") && eqb e (o "e")) (marksuf (u + n - 3) ed_removed sheet) (Phase3 finale sheet)
      (λ z. let a = both (eqb d (o "d")) (eqb e (o "e")) z in p (eqb-true d (o "d") a.0, eqb-true e (o "e") a.1))
      (λ z. stopped n finale sheet budget)

  module _ (removes : Ed n sheet → Safe n (marksuf (u + n - 3) ed_removed sheet)) where
    abbrev Quiets : ℕ → Type 0
    Quiets budget = (i pc : ℕ) → quiet pc ≡ true → Passes budget n (Interps i pc firsttime finale sheet)

    quiet_ways : (budget i j truex falsex : ℕ) → (quiet truex && quiet falsex) ≡ true → Quiets budget → (test : Bool)
        → Passes budget n (cond test (Interps i truex firsttime finale sheet) (Interps j falsex firsttime finale sheet))
    quiet_ways budget i j truex falsex q next test =
        let a = both (quiet truex) (quiet falsex) q in
        either_way (λ (x : Suffixes). Passes budget n x) test (Interps i truex firsttime finale sheet) (Interps j falsex firsttime finale sheet)
        (λ e. next i truex a.0) (λ e. next j falsex a.1)

    quiet_step : (budget i : ℕ) (x : Instruction) → quietly x ≡ true → Quiets budget → Passes budget n (interps n i firsttime finale sheet x)
    unfolding interps quietly
    quiet_step budget i (Scan t truex falsex) q next = quiet_ways budget (i - 1) i truex falsex q next (eqb (mem sheet i % 32) (t % 32))
    quiet_step budget i (Double truex falsex) q next = quiet_ways budget (i - 1) i truex falsex q next (eqb (mem sheet i) (mem sheet (i - 1)))
    quiet_step budget i (Table t truex falsex) q next = quiet_ways budget (i - 1) i truex falsex q next (mem sheet i ε suffix t)
    quiet_step budget i (Check truex falsex) q next = never q
    quiet_step budget i (Success t) q next = stopped n finale (clear sheet (i + t + 1)) budget
    quiet_step budget i Fail q next = stopped n finale sheet budget
    quiet_step budget i (Repeat t) q next = never q
    quiet_step budget i (Again truex) q next = never q
    quiet_step budget i (Mark t truex) q next = never q
    quiet_step budget i Efail q next = efail_passes budget i (λ e. removes e budget)
    quiet_step budget i Confusion q next = never q

    quiet_safe : (i pc : ℕ) → quiet pc ≡ true → Safe n (Interps i pc firsttime finale sheet)
    quiet_safe i pc q zero = nothing n (Interps i pc firsttime finale sheet)
    quiet_safe i pc q (suc budget) =
        fetched budget i pc (quiet_instruction pc q)
        (quiet_step budget i (decode (suffix pc)) (row_quiet_lem pc q) (λ j x e. quiet_safe j x e budget))

-- the places from the word's first letter to this one all hold letters
abbrev Full : ℕ → List ℕ → Type 0
Full top sheet = (k : ℕ) → u < k → k ≤ top → 0 < mem sheet k

full_clear : (top : ℕ) (sheet : List ℕ) (j : ℕ) → Full top sheet → top < j → Full top (clear sheet j)
full_clear top sheet j f h k a b = let e = clear_other sheet j k (λ e. omega (arith, e, b, h)) in omega (arith, e, f k a b)

-- A run that began with i = top and with all letters up to there. What makes efail harmless is the parameter Shut; stores up to `bound`
-- leave it as it is.
record Run (n bound : ℕ) (Shut : List ℕ → Type 0) (top i pc : ℕ) (firsttime : Bool) (sheet : List ℕ) : Type 0 where
  live : Live n top i pc firsttime sheet
  instruction : is_instruction pc ≡ true
  start : begins pc ≡ true → i ≡ top
  edge : top + 1 ≤ bound
  full : Full top sheet
  shut : Shut sheet

module _ (n bound : ℕ) (Shut : List ℕ → Type 0)
    (shut-removes : (sheet : List ℕ) → Shut sheet → Ed n sheet → Safe n (marksuf (u + n - 3) ed_removed sheet))
    (shut-clear : (sheet : List ℕ) (j : ℕ) → j ≤ bound → Shut sheet → Shut (clear sheet j)) where
  -- what is shown of the rest of the budget
  abbrev Runs : ℕ → Type 0
  Runs budget =
      (top i pc : ℕ) (firsttime : Bool) (finale : ℕ) (sheet : List ℕ) → Run n bound Shut top i pc firsttime sheet
      → Passes budget n (Interps i pc firsttime finale sheet)

  begin_run : (i : ℕ) (firsttime : Bool) (sheet : List ℕ) → Sheet n sheet → Shut sheet → Full (i + 1) sheet
      → i + 1 ≤ bound → i + 1 ≤ u + n → u + 3 ≤ i → (firsttime ≡ true → i + 1 ≡ u + n) → Run n bound Shut i i (mem sheet (i + 1)) firsttime sheet
  begin_run i firsttime sheet s c f b l h e =
      let r = letter_row_lem (mem sheet (i + 1)) (s.codes (i + 1)) in
      let w = row_low_lem (mem sheet (i + 1)) r.0 in
      record {
        live = record { row = r.0; near = omega (arith, r.1); far = omega (arith, w); begun = h; last = l; first = e; kept = s };
        instruction = letter_instruction (mem sheet (i + 1)) (f (i + 1) (omega arith) (omega arith)) (s.codes (i + 1));
        start = λ z. refl;
        edge = b;
        full = λ k p q. f k p (omega arith);
        shut = c;
      }

  restart_passes : (budget : ℕ) → Runs budget → (i finale : ℕ) (sheet : List ℕ) → Sheet n sheet → Shut sheet → Full (i + 1) sheet
      → i + 1 ≤ bound → i + 1 ≤ u + n → Passes budget n (restarts i finale sheet)
  restart_passes budget next i finale sheet s c f b l =
      either_way (λ (x : Suffixes). Passes budget n x) (leb (u + 3) i) (sufbegin i false finale sheet) (Phase3 finale sheet)
      (λ e. next i i (mem sheet (i + 1)) false _ sheet (begin_run i false sheet s c f b l (leb-true (u + 3) i e) (λ z. never z)))
      (λ e. stopped n finale sheet budget)

  module _ (budget : ℕ) (next : Runs budget) (top i pc : ℕ) (firsttime : Bool) (finale : ℕ) (sheet : List ℕ)
      (r : Run n bound Shut top i pc firsttime sheet) where
    -- on to row x with j, and with what the sheet then is
    onward : (j x more : ℕ) (after : List ℕ) → Goes pc x more → follows x ≡ true → more ≤ 1 → j + more ≡ i
        → Sheet n after → Full top after → Shut after → Passes budget n (Interps j x firsttime finale after)
    unfolding follows
    onward j x more after g e one m s f c =
        let a = both (is_instruction x) (not (begins x)) e in
        let l = r.live in
        next top j x firsttime finale after (record {
          live = record {
            row = g.row;
            near = omega (arith, l.near, g.claims, m);
            far = omega (arith, l.far, g.lower, m);
            begun = l.begun;
            last = l.last;
            first = l.first;
            kept = s;
          };
          instruction = a.0;
          start = λ z. never (sym (not-true (begins x) a.1) ∙ z);
          edge = r.edge;
          full = f;
          shut = c;
        })

    stays : (x : ℕ) → Goes pc x 0 → follows x ≡ true → Passes budget n (Interps i x firsttime finale sheet)
    stays x g e = onward i x 0 sheet g e (omega arith) (omega arith) r.live.kept r.full r.shut

    moves : (x : ℕ) → Goes pc x 1 → follows x ≡ true → Passes budget n (Interps (i - 1) x firsttime finale sheet)
    moves x g e = onward (i - 1) x 1 sheet g e (omega arith) (omega (arith, place_stays r.live)) r.live.kept r.full r.shut

    branches : (truex falsex : ℕ) → Goes pc truex 1 × Goes pc falsex 0 → (follows truex && follows falsex) ≡ true → (test : Bool)
        → Passes budget n (cond test (Interps (i - 1) truex firsttime finale sheet) (Interps i falsex firsttime finale sheet))
    branches truex falsex g e test =
        let a = both (follows truex) (follows falsex) e in
        either_way (λ (x : Suffixes). Passes budget n x) test (Interps (i - 1) truex firsttime finale sheet) (Interps i falsex firsttime finale sheet)
        (λ z. moves truex g.0 a.0) (λ z. stays falsex g.1 a.1)

    -- The place read next was not cleared yet, and the store lies behind it.
    repeated : (t : ℕ) → t ≤ credit pc → Passes budget n (marksuf (i + t - 1) finale sheet)
    repeated t h =
        let l = r.live in
        restart_passes budget next (i + t - 1) finale (clear sheet (i + t - 1 + 2)) (clear_sheet (i + t - 1 + 2) l.kept)
        (shut-clear sheet (i + t - 1 + 2) (omega (arith, l.near, l.begun, r.edge)) r.shut)
        (full_clear (i + t - 1 + 1) sheet (i + t - 1 + 2) (λ k p q. r.full k p (omega (arith, q, l.near, h, p))) (omega arith))
        (omega (arith, l.near, l.begun, r.edge)) (omega (arith, l.near, l.begun, l.last))

    renewed : firsttime ≡ true → Passes budget n (restarts (u + n - 2) finale sheet)
    renewed e =
        let l = r.live in
        restart_passes budget next (u + n - 2) finale sheet l.kept r.shut
        (λ k p q. r.full k p (omega (arith, q, l.first e, l.begun)))
        (omega (arith, l.first e, r.edge)) (omega (arith, l.first e, l.begun))

    marked : (t x : ℕ) → Goes pc x 0 → follows x ≡ true → ((begins pc && eqb t 0) || eqb x 27) ≡ true
        → Passes budget n (Interps i x firsttime finale (clear sheet (i + t + 1)))
    marked t x g e m = go (either (begins pc && eqb t 0) (eqb x 27) m)
      where
        go : ((begins pc && eqb t 0) ≡ true) ⊎ (eqb x 27 ≡ true) → Passes budget n (Interps i x firsttime finale (clear sheet (i + t + 1)))
        go (inl z) =
            let b = both (begins pc) (eqb t 0) z in
            let p = r.start b.0 in
            let q = eqb-true t 0 b.1 in
            onward i x 0 (clear sheet (i + t + 1)) g e (omega arith) (omega arith) (clear_sheet (i + t + 1) r.live.kept)
            (full_clear top sheet (i + t + 1) r.full (omega (arith, p)))
            (shut-clear sheet (i + t + 1) (omega (arith, p, q, r.edge)) r.shut)
        go (inr z) = succeeds n firsttime finale (clear sheet (i + t + 1)) i x (eqb-true x 27 z) budget

    step_passes : (x : Instruction) → Sound pc x → right pc x ≡ true → Passes budget n (interps n i firsttime finale sheet x)
    unfolding interps right
    step_passes (Scan t truex falsex) s e = branches truex falsex s e (eqb (mem sheet i % 32) (t % 32))
    step_passes (Double truex falsex) s e = branches truex falsex s e (eqb (mem sheet i) (mem sheet (i - 1)))
    step_passes (Table t truex falsex) s e = branches truex falsex s e (mem sheet i ε suffix t)
    step_passes (Check truex falsex) s e =
        let a = both (follows truex) (follows falsex) e in
        either_way (λ (x : Suffixes). Passes budget n x) (leb i (u + 3))
        (Interps i falsex firsttime finale sheet) (Interps i truex firsttime finale sheet)
        (λ z. stays falsex s.1 a.1) (λ z. stays truex s.0 a.0)
    step_passes (Success t) s e = stopped n finale (clear sheet (i + t + 1)) budget
    step_passes Fail s e = stopped n finale sheet budget
    step_passes (Repeat t) s e = repeated t s
    step_passes (Again truex) s e =
        either_way (λ (x : Suffixes). Passes budget n x) firsttime (restarts (u + n - 2) finale sheet) (Interps i truex firsttime finale sheet)
        (λ z. renewed z) (λ z. stays truex s e)
    step_passes (Mark t truex) s e =
        let a = both (follows truex) ((begins pc && eqb t 0) || eqb truex 27) e in
        either_way (λ (x : List ℕ). Passes budget n (Interps i truex firsttime finale x)) (not (eqb t 0) || firsttime) (clear sheet (i + t + 1)) sheet
        (λ z. marked t truex s a.0 a.1) (λ z. stays truex s a.0)
    step_passes Efail s e = efail_passes n firsttime finale sheet budget i (λ d. shut-removes sheet r.shut d budget)
    step_passes Confusion s e = stopped n finale sheet budget

  run_passes : (budget : ℕ) → Runs budget
  run_passes zero top i pc firsttime finale sheet r = nothing n (Interps i pc firsttime finale sheet)
  run_passes (suc budget) top i pc firsttime finale sheet r =
      fetched n firsttime finale sheet budget i pc r.instruction
      (step_passes budget (run_passes budget) top i pc firsttime finale sheet r (decode (suffix pc))
      (row_sound_lem pc r.live.row) (row_right_lem pc r.instruction))

  restart_safe : (i finale : ℕ) (sheet : List ℕ) → Sheet n sheet → Shut sheet → Full (i + 1) sheet
      → i + 1 ≤ bound → i + 1 ≤ u + n → Safe n (restarts i finale sheet)
  restart_safe i finale sheet s c f b l budget = restart_passes budget (run_passes budget) i finale sheet s c f b l

-- Where the word doesn't end in "ed", it never will.
abbrev NotEd : ℕ → List ℕ → Type 0
NotEd n sheet = Ed n sheet → ⊥

not_clear : (n : ℕ) (sheet : List ℕ) (j : ℕ) → j ≤ u + n → NotEd n sheet → NotEd n (clear sheet j)
not_clear n sheet j b h d = go (clear_either sheet j (u + n)) (clear_either sheet j (u + n - 1))
  where
    go : (mem (clear sheet j) (u + n) ≡ mem sheet (u + n)) ⊎ (mem (clear sheet j) (u + n) ≡ 0)
        → (mem (clear sheet j) (u + n - 1) ≡ mem sheet (u + n - 1)) ⊎ (mem (clear sheet j) (u + n - 1) ≡ 0) → ⊥
    go (inl a) (inl b) = h (sym a ∙ d.0, sym b ∙ d.1)
    go (inr a) b = omega (arith, sym a ∙ d.0)
    go (inl a) (inr b) = omega (arith, sym b ∙ d.1)

module _ (n : ℕ) where
  not_removes : (sheet : List ℕ) → NotEd n sheet → Ed n sheet → Safe n (marksuf (u + n - 3) ed_removed sheet)
  not_removes sheet h d = absurd (h d)

  -- a word that doesn't end in "ed"
  begun_safe : (finale : ℕ) (sheet : List ℕ) → Sheet n sheet → 5 ≤ n → Full (u + n) sheet → NotEd n sheet
      → Safe n (sufbegin (u + n - 1) true finale sheet)
  begun_safe finale sheet s h f c budget =
      run_passes n (u + n) (NotEd n) not_removes (not_clear n) budget
      (u + n - 1) (u + n - 1) (mem sheet (u + n - 1 + 1)) true _ sheet
      (begin_run n (u + n) (NotEd n) not_removes (not_clear n) (u + n - 1) true sheet s c
      (λ k p q. f k p (omega (arith, q))) (omega arith) (omega arith) (omega arith) (λ e. omega arith))

  ed_gone : (sheet : List ℕ) → 5 ≤ n → NotEd n (clear sheet (u + n - 3 + 2))
  ed_gone sheet h d =
      let e : u + n - 3 + 2 ≡ u + n - 1 = omega arith in
      let z = subst (λ k. mem (clear sheet k) (u + n - 1) ≡ 0) (sym e) (clear_same sheet (u + n - 1)) in
      omega (arith, sym z ∙ d.1)

  -- one that did, with no letter cleared but the "e"
  left_safe : (sheet : List ℕ) → Sheet n sheet → 5 ≤ n → Full (u + n) sheet → Safe n (marksuf (u + n - 3) ed_removed sheet)
  left_safe sheet s h f =
      restart_safe n (u + n) (NotEd n) not_removes (not_clear n) (u + n - 3) ed_removed
      (clear sheet (u + n - 3 + 2)) (clear_sheet (u + n - 3 + 2) s) (ed_gone sheet h)
      (full_clear (u + n - 3 + 1) sheet (u + n - 3 + 2) (λ k p q. f k p (omega (arith, q))) (omega arith)) (omega arith) (omega arith)

-- The words that repeat before they lose their "ed" have "z" or "bl" before it, and a run from there ends at once: row 26 does nothing a
-- second time, and row 12 wants "al" or "ul". pc is the row of the letter before "ed".
abbrev Idle : ℕ → ℕ → List ℕ → Type 0
Idle n pc sheet = (pc ≡ o "z") ⊎ ((pc ≡ o "l") × (mem sheet (u + n - 3) ≡ o "b"))

abbrev Idles : ℕ → List ℕ → Type 0
Idles n sheet = Idle n (mem sheet (u + n - 2)) sheet

module _ (n : ℕ) (h : 5 ≤ n) where
  idle_clear : (sheet : List ℕ) (j : ℕ) → (j ≡ u + n - 2 → ⊥) → (j ≡ u + n - 3 → ⊥) → Idles n sheet → Idles n (clear sheet j)
  idle_clear sheet j a b (inl z) = inl (clear_other sheet j (u + n - 2) a ∙ z)
  idle_clear sheet j a b (inr z) = inr (clear_other sheet j (u + n - 2) a ∙ z.0, clear_other sheet j (u + n - 3) b ∙ z.1)

  idle_below : (sheet : List ℕ) (j : ℕ) → j ≤ u + n - 4 → Idles n sheet → Idles n (clear sheet j)
  idle_below sheet j b = idle_clear sheet j (λ e. omega (arith, e, b)) (λ e. omega (arith, e, b))

  -- the run before the removed "ed"
  idle_run : (finale pc : ℕ) (sheet : List ℕ) → NotEd n sheet → Idle n pc sheet → Safe n (Interps (u + n - 3) pc false finale sheet)
  unfolding decode suffix suffix_words is_instruction is_mask one_of quiet quiet_rows
  idle_run finale pc sheet c (inl z) =
      subst (λ k. Safe n (Interps (u + n - 3) k false finale sheet)) (sym z)
      (quiet_safe n false finale sheet (not_removes n sheet c) (u + n - 3) 26 refl)
  idle_run finale pc sheet c (inr z) =
      subst (λ k. Safe n (Interps (u + n - 3) k false finale sheet)) (sym z.0)
      (scans n false finale sheet (u + n - 3) 12 (code "a") 71 72 refl refl (λ e. absurd (omega (arith, e, z.1)))
      (scans n false finale sheet (u + n - 3) 72 (code "u") 75 1 refl refl (λ e. absurd (omega (arith, e, z.1)))
      (quiet_safe n false finale sheet (not_removes n sheet c) (u + n - 3) 1 refl)))

  idle_removes : (sheet : List ℕ) → Idles n sheet → Ed n sheet → Safe n (marksuf (u + n - 3) ed_removed sheet)
  idle_removes sheet c d budget =
      let p : u + n - 3 + 1 ≡ u + n - 2 = omega arith in
      let after = clear sheet (u + n - 3 + 2) in
      let q = idle_clear sheet (u + n - 3 + 2) (λ e. omega (arith, e)) (λ e. omega (arith, e)) c in
      either_way (λ (x : Suffixes). Passes budget n x) (leb (u + 3) (u + n - 3)) (sufbegin (u + n - 3) false ed_removed after) (Phase3 ed_removed after)
      (λ e. idle_run _ (mem after (u + n - 3 + 1)) after (ed_gone n sheet h) (subst (λ k. Idle n (mem after k) after) (sym p) q) budget)
      (λ e. stopped n ed_removed after budget)

-- The second run of a word that ends in "ed", from "e" on: its letters are all there yet.
module _ (n : ℕ) (h : 5 ≤ n) (finale : ℕ) (sheet : List ℕ) (s : Sheet n sheet) (f : Full (u + n) sheet) where
  calm : (i pc : ℕ) → quiet pc ≡ true → Safe n (Interps i pc false finale sheet)
  calm i pc q = quiet_safe n false finale sheet (λ d. left_safe n sheet s h f) i pc q

  letter : (i c : ℕ) → mem sheet i % 32 ≡ c % 32 → mem sheet i ≡ c % 32
  letter i c e = omega (arith, e, s.codes i)

  -- a repeat that leaves "z" or "bl" alone
  repeats : (i pc t : ℕ) → is_instruction pc ≡ true → decode (suffix pc) ≡ Repeat t → i + t ≤ u + n - 4
      → Idles n (clear sheet (i + t - 1 + 2)) → Safe n (Interps i pc false finale sheet)
  unfolding interps
  repeats i pc t e d b c =
      goes_on_lem n false finale sheet i pc (Repeat t) e d
      (restart_safe n (u + n - 4) (Idles n) (idle_removes n h) (idle_below n h) (i + t - 1) finale
      (clear sheet (i + t - 1 + 2)) (clear_sheet (i + t - 1 + 2) s) c
      (full_clear (i + t - 1 + 1) sheet (i + t - 1 + 2) (λ k p q. f k p (omega (arith, q, b))) (omega arith)) (omega arith) (omega arith))

  after_bl : (j : ℕ) → j ≤ u + n - 4 → mem sheet (u + n - 2) ≡ o "l" → mem sheet (u + n - 2 - 1) ≡ o "b" → Idles n (clear sheet j)
  after_bl j q l b =
      let e : u + n - 2 - 1 ≡ u + n - 3 = omega arith in
      idle_below n h sheet j q (inr (l, subst (λ k. mem sheet k ≡ o "b") e b))

  -- the rows by hand: "bl", "l", "z", then all from "e" on
  from_bl : (i : ℕ) → i + 4 ≡ u + n → mem sheet (u + n - 2) ≡ o "l" → mem sheet (u + n - 2 - 1) ≡ o "b"
      → Safe n (Interps i 41 false finale sheet)
  unfolding decode suffix suffix_words is_instruction is_mask one_of quiet quiet_rows
  from_bl i e l b =
      scans n false finale sheet i 41 (code "a") 44 26 refl refl (λ _.
      scans n false finale sheet (i - 1) 44 (code "t") 48 49 refl refl (λ _.
      looks n false finale sheet (i - 1 - 1) 48 54 33 26 refl refl
      (repeats (i - 1 - 1 - 1) 33 2 refl refl (omega arith) (after_bl (i - 1 - 1 - 1 + 2 - 1 + 2) (omega arith) l b))
      (calm (i - 1 - 1) 26 refl))
      (looks n false finale sheet (i - 1) 49 107 32 26 refl refl
      (repeats (i - 1 - 1) 32 1 refl refl (omega arith) (after_bl (i - 1 - 1 + 1 - 1 + 2) (omega arith) l b))
      (calm (i - 1) 26 refl)))
      (calm i 26 refl)

  from_l : mem sheet (u + n - 2) ≡ o "l" → Safe n (Interps (u + n - 2 - 1) 39 false finale sheet)
  unfolding decode suffix suffix_words is_instruction is_mask one_of quiet quiet_rows
  from_l l =
      scans n false finale sheet (u + n - 2 - 1) 39 (code "b") 41 26 refl refl
      (λ y. from_bl (u + n - 2 - 1 - 1) (omega arith) l (letter (u + n - 2 - 1) (code "b") y))
      (calm (u + n - 2 - 1) 26 refl)

  from_z : mem sheet (u + n - 2) ≡ o "z" → Safe n (Interps (u + n - 2 - 1) 46 false finale sheet)
  unfolding decode suffix suffix_words is_instruction is_mask one_of quiet quiet_rows
  from_z z =
      scans n false finale sheet (u + n - 2 - 1) 46 (code "i") 51 26 refl refl (λ _.
      scans n false finale sheet (u + n - 2 - 1 - 1) 51 (code "l") 32 26 refl refl (λ _.
      repeats (u + n - 2 - 1 - 1 - 1) 32 1 refl refl (omega arith)
      (inl (clear_other sheet (u + n - 2 - 1 - 1 - 1 + 1 - 1 + 2) (u + n - 2) (λ e. omega (arith, e)) ∙ z)))
      (calm (u + n - 2 - 1 - 1) 26 refl))
      (calm (u + n - 2 - 1) 26 refl)

  from_e : Safe n (Interps (u + n - 2) 5 false finale sheet)
  unfolding decode suffix suffix_words is_instruction is_mask one_of quiet quiet_rows interps
  from_e =
      goes_on_lem n false finale sheet (u + n - 2) 5 (Mark 0 38) refl refl
      (scans n false finale sheet (u + n - 2) 38 (code "l") 39 40 refl refl (λ y. from_l (letter (u + n - 2) (code "l") y))
      (scans n false finale sheet (u + n - 2) 40 (code "t") 42 43 refl refl (λ _. calm (u + n - 2 - 1) 42 refl)
      (scans n false finale sheet (u + n - 2) 43 (code "z") 46 47 refl refl (λ y. from_z (letter (u + n - 2) (code "z") y))
      (calm (u + n - 2) 47 refl))))

-- a run begins with the row of the letter behind it
begins_with : (n i k : ℕ) (firsttime : Bool) (finale : ℕ) (sheet : List ℕ) → mem sheet (i + 1) ≡ k
    → ((final : ℕ) → Safe n (Interps i k firsttime final sheet)) → Safe n (sufbegin i firsttime finale sheet)
begins_with n i k firsttime finale sheet e p =
    subst (λ c. Safe n (Interps i c firsttime (final_at i (mem sheet (i + 1)) finale) sheet)) (sym e) (p (final_at i (mem sheet (i + 1)) finale))

-- The row of "d" enters again without it; the row of "e" then marks nothing.
ed_safe : (n finale : ℕ) (sheet : List ℕ) → Sheet n sheet → 5 ≤ n → Full (u + n) sheet → Ed n sheet
    → Safe n (sufbegin (u + n - 1) true finale sheet)
unfolding decode suffix suffix_words is_instruction is_mask one_of interps
ed_safe n finale sheet s h f d =
    let p : u + n - 1 + 1 ≡ u + n = omega arith in
    let q : u + n - 2 + 1 ≡ u + n - 1 = omega arith in
    begins_with n (u + n - 1) 4 true finale sheet (subst (λ k. mem sheet k ≡ 4) (sym p) d.0) (λ final.
    goes_on_lem n true final sheet (u + n - 1) 4 (Again 1) refl refl (λ budget.
    either_way (λ (x : Suffixes). Passes budget n x) (leb (u + 3) (u + n - 2)) (sufbegin (u + n - 2) false final sheet) (Phase3 final sheet)
    (λ e. begins_with n (u + n - 2) 5 false final sheet (subst (λ k. mem sheet k ≡ 5) (sym q) d.1) (λ last. from_e n h last sheet s f) budget)
    (λ e. stopped n final sheet budget)))

-- The theorem: a word of which no letter is null makes the machine fetch no letter mask.
pub no_mask_fetched : (budget n : ℕ) (sheet : List ℕ) → Sheet n sheet → 5 ≤ n → ((k : ℕ) → u < k → k ≤ u + n → 0 < mem sheet k)
    → all_instructions (rows_fetched budget n (sufbegin (u + n - 1) true infinity sheet)) ≡ true
no_mask_fetched budget n sheet s h f = go (eqb d (o "d")) refl (eqb e (o "e")) refl
  where
    d : ℕ
    d = mem sheet (u + n)

    e : ℕ
    e = mem sheet (u + n - 1)

    go : (a : Bool) → eqb d (o "d") ≡ a → (b : Bool) → eqb e (o "e") ≡ b → Passes budget n (sufbegin (u + n - 1) true infinity sheet)
    go true p true q = ed_safe n infinity sheet s h f (eqb-true d (o "d") p, eqb-true e (o "e") q) budget
    go true p false q = begun_safe n infinity sheet s h f (λ z. eqb-false e (o "e") q z.1) budget
    go false p b q = begun_safe n infinity sheet s h f (λ z. eqb-false d (o "d") p z.0) budget
