-- A state and its bytes: each gives the other back.
use Prim.Native.Nat.{ℕ, ◌+◌, ◌*◌, ◌/◌, ◌%◌, ◌<◌}
use mathlib.Core.Bool.{Bool, true, false, cond, ◌&&◌}
use mathlib.Core.List.{List, [], ◌∷◌}
use mathlib.Core.Path.{◌≡◌, ◌∙◌}
use native.Mathlib.Omega.{arith}
use borrow.Author.Tests.{eq-eqb}
use lib.Dec.{eqb}
use lib.ListN.{length, get_or, drop, length-drop}
use Rattle.base.specs.Limits.{held_limit}
use Rattle.states.specs.State.{new_text}
use Rattle.states.specs.Bytes.{head_size, state_size, state_bytes, total_of, of_bytes}
use Rattle.states.specs.declared.TextState.{TextState}
use Rattle.states.proofs.Theorems.{new_wide}

-- A state's bytes give it back.
pub bytes_state : (t : TextState) → t.total < 4294967296 → of_bytes (state_bytes t) ≡ t
unfolding of_bytes state_bytes total_of
bytes_state t h =
    let e : (t.total / 16777216 * 256 + t.total / 65536 % 256) * 65536 + (t.total / 256 % 256 * 256 + t.total % 256) ≡ t.total = omega arith in
    rw e

-- The bytes of a state that can be read otherwise than as a new text's are those of that state: nothing else stands in them.
pub state_bytes_lem : (bytes : List ℕ) → length bytes ≡ state_size → ((i : ℕ) → i < state_size → get_or bytes i 0 < 256) → get_or bytes 6 0 ≡ 0 → get_or bytes 7 0 ≡ 0 → state_bytes (of_bytes bytes) ≡ bytes
unfolding of_bytes state_bytes total_of
state_bytes_lem [] l f y z = absurd (omega (arith, l))
state_bytes_lem (b₀ ∷ []) l f y z = absurd (omega (arith, l))
state_bytes_lem (b₀ ∷ b₁ ∷ []) l f y z = absurd (omega (arith, l))
state_bytes_lem (b₀ ∷ b₁ ∷ b₂ ∷ []) l f y z = absurd (omega (arith, l))
state_bytes_lem (b₀ ∷ b₁ ∷ b₂ ∷ b₃ ∷ []) l f y z = absurd (omega (arith, l))
state_bytes_lem (b₀ ∷ b₁ ∷ b₂ ∷ b₃ ∷ b₄ ∷ []) l f y z = absurd (omega (arith, l))
state_bytes_lem (b₀ ∷ b₁ ∷ b₂ ∷ b₃ ∷ b₄ ∷ b₅ ∷ []) l f y z = absurd (omega (arith, l))
state_bytes_lem (b₀ ∷ b₁ ∷ b₂ ∷ b₃ ∷ b₄ ∷ b₅ ∷ b₆ ∷ []) l f y z = absurd (omega (arith, l))
state_bytes_lem (b₀ ∷ b₁ ∷ b₂ ∷ b₃ ∷ b₄ ∷ b₅ ∷ b₆ ∷ b₇ ∷ held) l f y z =
    let n₂ = f 2 (omega arith) in
    let n₃ = f 3 (omega arith) in
    let n₄ = f 4 (omega arith) in
    let n₅ = f 5 (omega arith) in
    let total = (b₂ * 256 + b₃) * 65536 + (b₄ * 256 + b₅) in
    let e₂ : ((b₂ * 256 + b₃) * 65536 + (b₄ * 256 + b₅)) / 16777216 ≡ b₂ = omega (arith, n₂, n₃, n₄, n₅) in
    let e₃ : ((b₂ * 256 + b₃) * 65536 + (b₄ * 256 + b₅)) / 65536 % 256 ≡ b₃ = omega (arith, n₂, n₃, n₄, n₅) in
    let e₄ : ((b₂ * 256 + b₃) * 65536 + (b₄ * 256 + b₅)) / 256 % 256 ≡ b₄ = omega (arith, n₂, n₃, n₄, n₅) in
    let e₅ : ((b₂ * 256 + b₃) * 65536 + (b₄ * 256 + b₅)) % 256 ≡ b₅ = omega (arith, n₂, n₃, n₄, n₅) in
    rw (eq-eqb b₆ 0 y, eq-eqb b₇ 0 z, e₂, e₃, e₄, e₅, y, z)

-- Whatever the bytes, the state that they tell has its array whole.
pub bytes_wide : (bytes : List ℕ) → length bytes ≡ state_size → length (of_bytes bytes).held ≡ held_limit
unfolding of_bytes
bytes_wide bytes l = go (eqb (get_or bytes 6 0) 0 && eqb (get_or bytes 7 0) 0)
  where
    go : (z : Bool) → length (cond z (record { held = drop head_size bytes; size = get_or bytes 0 0; run = get_or bytes 1 0; total = total_of bytes }) new_text).held ≡ held_limit
    go true = length-drop head_size bytes ∙ omega (arith, l)
    go false = new_wide
