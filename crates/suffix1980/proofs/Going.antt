-- The machine in turns: what it leaves is what the definition says, and it stays on the sheet.
use Prim.Native.Nat.{ℕ, zero, suc, ◌+◌, ◌*◌, ◌-◌, ◌<◌, ◌≤◌}
use mathlib.Core.Bool.{true}
use mathlib.Core.List.{List}
use mathlib.Core.Path.{◌≡◌, refl, sym, ◌∙◌, ap, subst}
use native.Mathlib.Omega.{arith}
use Rattle.std.proofs.Common.{Option, Some, None, Continue, Break}
use Rattle.sheet1980.specs.declared.Stopped as machine
use Rattle.tables1980.specs.Suffix.{suffix}
use Rattle.sheet1980.specs.Sheet.{u, mem, Sheet}
use Rattle.turns1980.specs.Turns.{Left, turns, Runs}
use Rattle.turns1980.proofs.Kept.{Kept, Stood, runs, stood}
use Rattle.suffix1980.specs.Suffixes.{infinity, Suffixes, Interps, Phase3, decode, final_at, sufbegin, interps, suffixes, phase2}
use Rattle.suffix1980.specs.Joined.{Turn, joined, apart, can_step, step_gives, told, Ready}
use Rattle.suffix1980.proofs.Rows.{row_sound_lem}
use Rattle.suffix1980.proofs.Ends.{Fine, cost, ed, step_fine, begin_fine, place_stays}

joins : (x : Suffixes) → joined (apart x).0 (apart x).1 ≡ x
joins (Interps i pc firsttime finale sheet) = refl
joins (Phase3 finale sheet) = refl

pub parts : (at : Turn) (sheet : List ℕ) {x : Suffixes} → joined at sheet ≡ x → (at, sheet) ≡ apart x
parts (Continue r) sheet p = ap apart p
parts (Break finale) sheet p = ap apart p

-- The definition in turns.
in_turns : (budget n : ℕ) (at : Turn) (sheet : List ℕ) → told (turns (step_gives n) budget at sheet).0 (turns (step_gives n) budget at sheet).1 ≡ suffixes budget n (joined at sheet)
unfolding turns suffixes
in_turns zero n (Break finale) sheet = refl
in_turns zero n (Continue r) sheet = refl
in_turns (suc budget) n (Break finale) sheet = refl
in_turns (suc budget) n (Continue r) sheet =
    in_turns budget n (step_gives n r sheet).0 (step_gives n r sheet).1
    ∙ ap (λ x. suffixes budget n x) (joins (interps n r.i r.firsttime r.finale sheet (decode (suffix r.pc))))

-- What every turn keeps.
abbrev Stands : ℕ → Turn → List ℕ → Type 0
Stands n at sheet = (m : ℕ) × Fine n m (joined at sheet)

kept : (n : ℕ) → 4 < n → n ≤ 63 → Kept (λ r sheet. can_step n r) (step_gives n) (Stands n)
kept n lo hi = record {
  allows = λ r sheet s. (lo, hi, omega (arith, place_stays s.1.1), omega (arith, s.1.1.near, s.1.1.last));
  keeps = λ r sheet s.
      let x = decode (suffix r.pc) in
      let less = cost n s.1.0 r.pc sheet in (
        less,
        subst (λ (y : Suffixes). Fine n less y) (sym (joins (interps n r.i r.firsttime r.finale sheet x)))
            (step_fine n s.1.0 r.i r.pc r.firsttime r.finale sheet s.1.1 x (row_sound_lem r.pc s.1.1.row)),
      );
}

module _ (budget n : ℕ) (s : List ℕ) {pc last : ℕ} (k : Sheet n s) (lo : 4 < n) (hi : n ≤ 63) (p : pc ≡ mem s (u + n - 1 + 1)) (q : last ≡ final_at (u + n - 1) pc infinity) where
  -- the row that the machine begins with
  abbrev pub first : Turn
  first = Continue (record { i = u + n - 1; pc = pc; firsttime = true; finale = last })

  same : sufbegin (u + n - 1) true infinity s ≡ joined first s
  same = rw (q, p)

  stands : Stands n first s
  stands =
      let m = suc (12 + 12 * (u + n - 1 - u + ed n s)) in
      (m, subst (λ x. Fine n m x) same (begin_fine n m (u + n - 1) true infinity s k (omega arith) (omega arith) (λ z. omega arith) (omega arith)))

  pub may_run : Runs (λ r sheet. can_step n r) (step_gives n) budget first s
  may_run = runs (kept n lo hi) budget first s stands

  module _ {r : Option (machine.Stopped ℕ)} {after : List ℕ} (e : (r, after) ≡ turns (step_gives n) budget first s) where
    pub told_all : told r after ≡ phase2 budget n s
    unfolding phase2
    told_all = ap (λ (x : Left (Option (machine.Stopped ℕ))). told x.0 x.1) e ∙ in_turns budget n first s ∙ ap (λ x. suffixes budget n x) (sym same)

    pub ready : Ready n r after
    ready = ends r (stood (kept n lo hi) budget first s stands e)
      where
        ends : (r : Option (machine.Stopped ℕ)) → Stood (Stands n) r after → Ready n r after
        ends None s = tt
        ends (Some stopped) s = s.1.0
