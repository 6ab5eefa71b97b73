-- The machine in turns: what it leaves is what the definition says, and it stays on the sheet.
use Prim.Native.Nat.{ℕ, zero, suc, ◌+◌, ◌*◌, ◌<◌, ◌≤◌}
use mathlib.Core.List.{List}
use mathlib.Core.Path.{◌≡◌, refl, sym, ◌∙◌, ap, subst}
use native.Mathlib.Omega.{arith}
use Rattle.std.proofs.Common.{Option, Some, None, Continue, Break}
use Rattle.sheet1980.specs.declared.Stopped as machine
use Rattle.tables1980.specs.Prefix.{prefix}
use Rattle.sheet1980.specs.Sheet.{u, mem, Sheet}
use Rattle.turns1980.specs.Turns.{Left, turns, Runs}
use Rattle.turns1980.proofs.Kept.{Kept, Stood, runs, stood}
use Rattle.middle1980.specs.Middles.{Goto, Phase5}
use Rattle.middle1980.specs.Joined.{Step, Placed}
use Rattle.middle1980.specs.Joined as middle
use Rattle.prefix1980.specs.Prefixes.{Prefixes, Interpp, Stops, decode, restartp, interpp, prefixes, phase3}
use Rattle.prefix1980.specs.Joined.{Turn, joined, apart, can_step, step_gives, told, Ready}
use Rattle.prefix1980.proofs.Rows.{row_sound_lem}
use Rattle.prefix1980.proofs.Ends.{Begins, Fine, cost, step_fine, begin_fine}

joins : (x : Prefixes) → joined (apart x).0 (apart x).1 ≡ x
joins (Interpp i pc c j sheet) = refl
joins (Stops (Goto label i b c sheet)) = refl
joins (Stops (Phase5 sheet)) = refl

pub parts : (at : Turn) (sheet : List ℕ) {x : Prefixes} → joined at sheet ≡ x → (at, sheet) ≡ apart x
parts (Continue r) sheet p = ap apart p
parts (Break (Some at)) sheet p = ap apart p
parts (Break None) sheet p = ap apart p

-- The definition in turns.
in_turns : (budget : ℕ) (at : Turn) (sheet : List ℕ) → told (turns step_gives budget at sheet).0 (turns step_gives budget at sheet).1 ≡ prefixes budget (joined at sheet)
unfolding turns prefixes
in_turns zero (Break on) sheet = refl
in_turns zero (Continue r) sheet = refl
in_turns (suc budget) (Break on) sheet = refl
in_turns (suc budget) (Continue r) sheet =
    in_turns budget (step_gives r sheet).0 (step_gives r sheet).1
    ∙ ap (λ (x : Prefixes). prefixes budget x) (joins (interpp r.i r.c r.j sheet (decode (prefix r.pc))))

-- What every turn keeps.
abbrev Stands : ℕ → Turn → List ℕ → Type 0
Stands n at sheet = (m : ℕ) × Fine n m (joined at sheet)

kept : (n : ℕ) → n ≤ 63 → Kept can_step step_gives (Stands n)
kept n hi = record {
  allows = λ r sheet s. (omega (arith, hi, s.1.1.last), s.1.1.kept.codes r.i);
  keeps = λ r sheet s.
      let x = decode (prefix r.pc) in
      let less = cost n s.1.0 r.pc in (
        less,
        subst (λ (y : Prefixes). Fine n less y) (sym (joins (interpp r.i r.c r.j sheet x)))
            (step_fine n s.1.0 r.i r.pc r.c r.j sheet s.1.1 x (row_sound_lem r.pc s.1.1.row)),
      );
}

module _ (budget n : ℕ) (s : List ℕ) {c : ℕ} (k : Sheet n s) (lo : 4 < n) (hi : n ≤ 63) (p : c ≡ mem s (u + 1)) where
  -- the row that the machine begins with
  abbrev pub first : Turn
  first = Continue (record { i = u + 2; pc = c; c = c; j = u + 1 })

  same : restartp (u + 2) (mem s (u + 1)) s ≡ joined first s
  same = rw p

  stands : Stands n first s
  stands =
      let m = 8 * n + 9 in
      (m, subst (λ (x : Prefixes). Fine n m x) same (begin_fine n m (u + 2) (mem s (u + 1)) s k (k.codes (u + 1)) (omega arith) (omega arith) (omega arith)))

  pub may_run : Runs can_step step_gives budget first s
  may_run = runs (kept n hi) budget first s stands

  module _ {r : Option (machine.Stopped Step)} {after : List ℕ} (e : (r, after) ≡ turns step_gives budget first s) where
    pub told_all : told r after ≡ phase3 budget s
    unfolding phase3
    told_all = ap (λ (x : Left (Option (machine.Stopped Step))). told x.0 x.1) e ∙ in_turns budget first s ∙ ap (λ (x : Prefixes). prefixes budget x) (sym same)

    pub ready : Ready n r after
    ready = ends r (stood (kept n hi) budget first s stands e)
      where
        split : (on : Step) → Begins n (middle.joined on after) → Sheet n after × Placed n on
        split (Some at) b = b
        split None b = (b, tt)

        ends : (r : Option (machine.Stopped Step)) → Stood (Stands n) r after → Ready n r after
        ends None s = tt
        ends (Some stopped) s = split stopped.next s.1.0
