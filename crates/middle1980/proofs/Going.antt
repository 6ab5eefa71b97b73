-- The loop over the labels: one law for each way through it.
use Prim.Native.Nat.{ℕ, zero, suc, ◌-◌, ◌<◌, ◌≤◌}
use mathlib.Core.List.{List}
use mathlib.Core.Path.{◌≡◌, refl, sym, ap, subst}
use native.Mathlib.Omega.{arith}
use Rattle.std.specs.Prelude.{Some, None}
use Rattle.sheet1980.specs.Sheet.{Sheet}
use Rattle.middle1980.specs.Middles.{Middle, Goto, Phase5, onward, middles, enough, sheet_in, phase4}
use Rattle.middle1980.specs.Joined.{Step, joined, Place, Placed}
use Rattle.middle1980.specs.declared.Label.{Label}
use Rattle.middle1980.specs.declared.Label.TheVariants.{Marki, Phase4c, Vowelscan, Checkc, Phase4v, Phase4vc, Ertest}
use Rattle.middle1980.specs.declared.Goto as registers
use Rattle.middle1980.proofs.Ends.{Fine, to_come, rank, onward_fine}

-- how many labels are to come at most
unfoldable pub steps_left : ℕ → Step → ℕ
steps_left n (Some r) = suc (to_come n r.label r.i)
steps_left n None = 0

-- phase 4 from here on, with labels enough, and why it stays on the sheet
pub record Going (finale n : ℕ) (whole : Middle) (at : Step) (sheet : List ℕ) : Type 0 where
  pub steps : ℕ
  pub rest : phase4 n finale whole ≡ sheet_in (middles steps finale (joined at sheet))
  pub fine : Fine n steps (joined at sheet)

few_come : (n : ℕ) (label : Label) (i c : ℕ) → Place n label i c → to_come n label i < enough n
unfolding to_come rank
few_come n Marki i c p = omega (arith, p.0)
few_come n Phase4c i c p = omega (arith, p.0)
few_come n Vowelscan i c p = omega (arith, p.0)
few_come n Checkc i c p = omega (arith, p.0)
few_come n Phase4v i c p = omega (arith, p.0)
few_come n Phase4vc i c p = omega (arith, p.0)
few_come n Ertest i c p = omega (arith, p.0)

start_fine : (n : ℕ) (at : Step) (sheet : List ℕ) → Sheet n sheet → Placed n at → Fine n (enough n) (joined at sheet)
start_fine n (Some r) sheet s p = record { kept = s; stands = (p, few_come n r.label r.i r.c p) }
start_fine n None sheet s p = record { kept = s; stands = tt }

pub start : (finale n : ℕ) (at : Step) (sheet : List ℕ) → Sheet n sheet → Placed n at → Going finale n (joined at sheet) at sheet
unfolding phase4
start finale n at sheet s p = record { steps = enough n; rest = refl; fine = start_fine n at sheet s p }

ended : (steps finale : ℕ) (sheet : List ℕ) → sheet_in (middles steps finale (Phase5 sheet)) ≡ sheet
unfolding middles
ended zero finale sheet = refl
ended (suc steps) finale sheet = refl

pub stopped : (finale n : ℕ) (whole : Middle) (sheet : List ℕ) {at : Step} → at ≡ None → Going finale n whole at sheet → sheet ≡ phase4 n finale whole
stopped finale n whole sheet e g = let h = ended g.steps finale sheet in cc

turn : (steps finale : ℕ) (label : Label) (i b c : ℕ) (sheet : List ℕ) → 0 < steps
    → middles steps finale (Goto label i b c sheet) ≡ middles (steps - 1) finale (onward finale label i b c sheet)
unfolding middles
turn zero finale label i b c sheet h = absurd (omega arith)
turn (suc steps) finale label i b c sheet h = let e : steps ≡ suc steps - 1 = omega arith in ap (λ k. middles k finale (onward finale label i b c sheet)) e

-- fewer labels may come
wider : (n m k : ℕ) (x : Middle) → m ≤ k → Fine n m x → Fine n k x
wider n m k (Goto label i b c sheet) h f = record { kept = f.kept; stands = (f.stands.0, omega (arith, f.stands.1)) }
wider n m k (Phase5 sheet) h f = record { kept = f.kept; stands = tt }

left_less : (n m : ℕ) (at : Step) (sheet : List ℕ) → Fine n m (joined at sheet) → steps_left n at ≤ m
unfolding steps_left
left_less n m (Some r) sheet f = omega (arith, f.stands.1)
left_less n m None sheet f = omega arith

module _ (finale n : ℕ) (whole : Middle) (r : registers.Goto) (sheet : List ℕ) (at : Step) (e : at ≡ Some r) (g : Going finale n whole at sheet) where
  here : Fine n g.steps (Goto r.label r.i r.b r.c sheet)
  here = subst (λ (x : Step). Fine n g.steps (joined x sheet)) e g.fine

  goal : (next : Step) (after : List ℕ) → joined next after ≡ onward finale r.label r.i r.b r.c sheet → Fine n (to_come n r.label r.i) (joined next after)
  goal next after k = subst (λ (x : Middle). Fine n (to_come n r.label r.i) x) (sym k) (onward_fine n finale r.i r.b r.c sheet here.kept r.label here.stands.0)

  pub turned : (next : Step) (after : List ℕ) → joined next after ≡ onward finale r.label r.i r.b r.c sheet → Going finale n whole next after
  turned next after k =
      record {
        steps = g.steps - 1;
        rest = let h = turn g.steps finale r.label r.i r.b r.c sheet (omega (arith, here.stands.1)) in cc;
        fine = wider n (to_come n r.label r.i) (g.steps - 1) (joined next after) (omega (arith, here.stands.1)) (goal next after k);
      }

  -- the number that falls
  pub less : (next : Step) (after : List ℕ) → joined next after ≡ onward finale r.label r.i r.b r.c sheet → steps_left n next < steps_left n at
  unfolding steps_left
  less next after k = omega (arith, ap (steps_left n) e, left_less n (to_come n r.label r.i) next after (goal next after k))
