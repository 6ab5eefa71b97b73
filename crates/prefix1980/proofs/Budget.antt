-- More budget than is needed is left over.
use Prim.Native.Nat.{ℕ, zero, suc, ◌+◌, ◌≤◌}
use mathlib.Core.Path.{◌≡◌, refl, sym, ◌∙◌, ap}
use native.Mathlib.Omega.{arith}
use Rattle.tables1980.specs.Prefix.{prefix}
use Rattle.prefix1980.specs.Prefixes.{Prefixes, Interpp, Stops, decode, interpp, Prefixed, RanOut, Stopped, prefixes}

-- what is left of the budget
abbrev pub left_of : Prefixed → ℕ
left_of RanOut = 0
left_of (Stopped left m) = left

pub left_within : (budget : ℕ) (x : Prefixes) → left_of (prefixes budget x) ≤ budget
unfolding prefixes
left_within zero (Stops m) = omega arith
left_within zero (Interpp i pc c j sheet) = omega arith
left_within (suc budget) (Stops m) = omega arith
left_within (suc budget) (Interpp i pc c j sheet) = omega (arith, left_within budget (interpp i c j sheet (decode (prefix pc))))

-- the same with more left
abbrev pub plus : ℕ → Prefixed → Prefixed
plus more RanOut = RanOut
plus more (Stopped left m) = Stopped (left + more) m

abbrev pub HasStopped : Prefixed → Type 0
HasStopped RanOut = ⊥
HasStopped (Stopped left m) = Unit {0}

pub left_over : (budget more : ℕ) (x : Prefixes) → HasStopped (prefixes budget x) → prefixes (budget + more) x ≡ plus more (prefixes budget x)
unfolding prefixes
left_over zero more (Stops m) s = let e : 0 + more ≡ more = omega arith in ap (λ k. prefixes k (Stops m)) e ∙ ended more ∙ ap (λ k. Stopped k m) (sym e)
  where
    ended : (k : ℕ) → prefixes k (Stops m) ≡ Stopped k m
    ended zero = refl
    ended (suc k) = refl
left_over zero more (Interpp i pc c j sheet) s = absurd s
left_over (suc budget) more (Stops m) s = let e : suc budget + more ≡ suc (budget + more) = omega arith in ap (λ k. prefixes k (Stops m)) e ∙ ap (λ k. Stopped k m) (sym e)
left_over (suc budget) more (Interpp i pc c j sheet) s =
    let e : suc budget + more ≡ suc (budget + more) = omega arith in
    ap (λ k. prefixes k (Interpp i pc c j sheet)) e ∙ left_over budget more (interpp i c j sheet (decode (prefix pc))) s
