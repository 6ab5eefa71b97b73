-- The library's digits are those of the definitions.
use Prim.Native.Nat.{ℕ, zero, suc, ◌+◌, ◌*◌, ◌/◌, ◌%◌, ◌≤◌, ◌<◌}
use mathlib.Core.Bool.{Bool, true, false, cond}
use mathlib.Core.List.{List, [], ◌∷◌, ◌++◌}
use mathlib.Core.Path.{◌≡◌, refl, ◌∙◌, ap}
use native.Mathlib.Omega.{arith}
use borrow.Author.Tests.{ltb-true, ltb-false}
use lib.Dec.{ltb}
use Rattle.std.specs.Prelude.{◌^◌}
use Rattle.std.specs.Fmt.{decimal as shown}
use Rattle.std.proofs.lemmas.Fmt.{decimal_step, decimal_digit}
use Rattle.writing.specs.Writing.{last_digit, digits, decimal}

one_digit : (n : ℕ) → n < 10 → shown n ≡ last_digit n
one_digit n h = let e : n ≡ n % 10 = omega (arith, h) in decimal_digit n h ∙ ap (λ (d : ℕ). (48 + d) ∷ []) e

-- a bound on a number of so many digits
most : ℕ → ℕ
most zero = 10
most (suc more) = 10 * most more

digits_shown : (more n : ℕ) → n < most more → n < 2 ^ 64 → shown n ≡ digits more n
unfolding digits most
digits_shown zero n h s = one_digit n h
digits_shown (suc more) n h s = go (ltb n 10) refl (λ ten. digits_shown more (n / 10) (omega (arith, h, ten)) (omega (arith, s)))
  where
    go : (z : Bool) → ltb n 10 ≡ z → (10 ≤ n → shown (n / 10) ≡ digits more (n / 10)) → shown n ≡ cond z (last_digit n) (digits more (n / 10) ++ last_digit n)
    go true e next = one_digit n (ltb-true n 10 e)
    go false e next = let ten : 10 ≤ n = ltb-false n 10 e in decimal_step n ten s ∙ ap (λ (l : List ℕ). l ++ last_digit n) (next ten)

pub decimal_shown : (n : ℕ) → n < 2 ^ 64 → shown n ≡ decimal n
unfolding most
decimal_shown n h = digits_shown 19 n (omega (arith, h)) h
