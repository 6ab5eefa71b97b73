-- More budget than is needed is left over.
use Prim.Native.Nat.{ℕ, zero, suc, ◌+◌, ◌≤◌}
use mathlib.Core.Path.{◌≡◌, refl, sym, ◌∙◌, ap}
use native.Mathlib.Omega.{arith}
use Rattle.tables1980.specs.Suffix.{suffix}
use Rattle.suffix1980.specs.Suffixes.{Suffixes, Interps, Phase3, decode, interps, Suffixed, RanOut, Stopped, suffixes}

-- what is left of the budget
abbrev pub left_of : Suffixed → ℕ
left_of RanOut = 0
left_of (Stopped left finale sheet) = left

pub left_within : (budget n : ℕ) (x : Suffixes) → left_of (suffixes budget n x) ≤ budget
unfolding suffixes
left_within zero n (Phase3 finale sheet) = omega arith
left_within zero n (Interps i pc firsttime finale sheet) = omega arith
left_within (suc budget) n (Phase3 finale sheet) = omega arith
left_within (suc budget) n (Interps i pc firsttime finale sheet) = omega (arith, left_within budget n (interps n i firsttime finale sheet (decode (suffix pc))))

-- the same with more left
abbrev pub plus : ℕ → Suffixed → Suffixed
plus more RanOut = RanOut
plus more (Stopped left finale sheet) = Stopped (left + more) finale sheet

abbrev pub HasStopped : Suffixed → Type 0
HasStopped RanOut = ⊥
HasStopped (Stopped left finale sheet) = Unit {0}

pub left_over : (budget more n : ℕ) (x : Suffixes) → HasStopped (suffixes budget n x) → suffixes (budget + more) n x ≡ plus more (suffixes budget n x)
unfolding suffixes
left_over zero more n (Phase3 finale sheet) s = let e : 0 + more ≡ more = omega arith in ap (λ k. suffixes k n (Phase3 finale sheet)) e ∙ ended more ∙ ap (λ k. Stopped k finale sheet) (sym e)
  where
    ended : (k : ℕ) → suffixes k n (Phase3 finale sheet) ≡ Stopped k finale sheet
    ended zero = refl
    ended (suc k) = refl
left_over zero more n (Interps i pc firsttime finale sheet) s = absurd s
left_over (suc budget) more n (Phase3 finale sheet) s = let e : suc budget + more ≡ suc (budget + more) = omega arith in ap (λ k. suffixes k n (Phase3 finale sheet)) e ∙ ap (λ k. Stopped k finale sheet) (sym e)
left_over (suc budget) more n (Interps i pc firsttime finale sheet) s =
    let e : suc budget + more ≡ suc (budget + more) = omega arith in
    ap (λ k. suffixes k n (Interps i pc firsttime finale sheet)) e ∙ left_over budget more n (interps n i firsttime finale sheet (decode (suffix pc))) s
