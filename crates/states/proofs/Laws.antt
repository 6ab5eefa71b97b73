-- Bytes that are all 0, and words as they are judged.
use Prim.Native.Nat.{ℕ, zero, suc}
use mathlib.Core.Bool.{Bool, true}
use mathlib.Core.List.{List, [], ◌∷◌}
use mathlib.Core.Logic.{◌↔◌}
use mathlib.Core.Path.{◌≡◌, refl, ap}
use native.Mathlib.Omega.{arith}
use borrow.Author.Tests.{eqb-true, eq-eqb}
use lib.Dec.{eqb}
use Rattle.std.specs.Prelude.{IsTrue, EachIndex, slice_index, is_ok}
use Rattle.base.specs.Limits.{word_limit}
use Rattle.base.specs.Grounds.{Check}
use Rattle.base.proofs.Lists.{both, test_iff}
use Rattle.words.specs.Words.{judge_word}
use Rattle.runs.specs.Reached.{is_word}
use Rattle.states.specs.State.{all_zero}

-- bytes that are all 0
zeros_all : (l : List ℕ) → EachIndex l (λ k. slice_index l k ≡ 0) → all_zero l ≡ true
unfolding all_zero
zeros_all [] h = refl
zeros_all (b ∷ l) h = rw (eq-eqb b 0 (h 0 (omega arith))) (zeros_all l (λ k m. h (suc k) (omega arith)))

zeros_each : (l : List ℕ) → all_zero l ≡ true → EachIndex l (λ k. slice_index l k ≡ 0)
unfolding all_zero
zeros_each [] h k m = absurd (omega arith)
zeros_each (b ∷ l) h zero m = eqb-true b 0 (both (eqb b 0) (all_zero l) h).0
zeros_each (b ∷ l) h (suc k) m = zeros_each l (both (eqb b 0) (all_zero l) h).1 k (omega arith)

pub zeros_by : (bytes : List ℕ) {z : Bool} → (IsTrue z ↔ EachIndex bytes (λ k. slice_index bytes k ≡ 0)) → z ≡ all_zero bytes
zeros_by bytes {z = z} e = test_iff z (all_zero bytes) (λ t. zeros_all bytes (e.0 t)) (λ t. e.1 (zeros_each bytes t))

-- words
pub word_as_judged : (w : List ℕ) {c : Check} → c ≡ judge_word word_limit w → is_ok c ≡ is_word w
unfolding is_word
word_as_judged w e = ap is_ok e
