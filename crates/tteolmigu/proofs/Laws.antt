-- A number cut and shifted, the bits of an answer by its cases, and what a running text's call leaves of its state's bytes.
use Prim.Native.Nat.{ℕ, ◌+◌, ◌*◌, ◌%◌, ◌^◌, ◌<◌, ◌≤◌}
use mathlib.Core.List.{List}
use mathlib.Core.Path.{◌≡◌, ◌∙◌, ap, subst}
use native.Mathlib.Omega.{arith}
use lib.ListN.{length}
use lib.Pow.{shl_exact}
use Rattle.std.proofs.lemmas.Nat.{mod_below, pow_pos}
use Rattle.base.specs.declared.Ground.{Ground}
use Rattle.states.specs.Bytes.{of_bytes}
use Rattle.states.specs.State.{read_state}
use Rattle.states.specs.declared.TextState.{TextState}
use Rattle.running.specs.Calls.{total_now, Pieces, piece_answer, piece_next, piece_room, Ends, end_answer, end_next, end_room}
use Rattle.running.specs.declared.Taken.{Taken}
use Rattle.std.specs.Prelude.{Result, Ok, Err, MatchResult}
use Rattle.running.proofs.Order.{piece_ordered, end_ordered, computed}
use Rattle.tteolmigu.specs.Bits.{bits_at, text_bits, bytes_left}

-- Nothing is shifted out of the 64 bits.
pub cut_and_put : (low width n : ℕ) → width < 64 → low + width ≤ 64 → n % (1 * 2 ^ width % 18446744073709551616) * 2 ^ low % 18446744073709551616 ≡ bits_at low width n
cut_and_put low width n w b =
    let one : 1 * 2 ^ width % 18446744073709551616 ≡ 2 ^ width = omega (arith, shl_exact {a = 1} 1 width 64 (omega arith) (omega arith)) in
    rw one (shl_exact {a = n % 2 ^ width} width low 64 (mod_below n (2 ^ width) (pow_pos width)) (omega arith))

-- An answer has the bits of what it is: a finding, or a refusal.
pub by_cases : {T : Type 0} (bits_of : Result T Ground → ℕ) (answer : Result T Ground) {bits : ℕ} → MatchResult answer (λ found. bits ≡ bits_of (Ok found)) (λ ground. bits ≡ bits_of (Err ground)) → bits ≡ bits_of answer
by_cases bits_of (Ok found) e = e
by_cases bits_of (Err ground) e = e

-- what the two calls leave, over the state that the bytes tell
module _ (bytes : List ℕ) (left right : ℕ) (customer house table : List ℕ) {given : TextState} (g : given ≡ of_bytes bytes) where
  pub piece_left : (piece room : List ℕ) {taken : Taken} {after then : List ℕ} {bits : ℕ} → Pieces given left right customer house table piece room taken after
      → bits ≡ text_bits taken.answer → then ≡ bytes_left taken.answer bytes taken.state
      → (bits ≡ text_bits (piece_answer (of_bytes bytes) left right customer house table piece (length room)))
      × (then ≡ bytes_left (piece_answer (of_bytes bytes) left right customer house table piece (length room)) bytes (piece_next (of_bytes bytes) left right customer house table piece (length room)))
      × (after ≡ piece_room (of_bytes bytes) left right customer house table piece room)
  piece_left piece room {after = after} {then = then} {bits = bits} p b s =
      let c = computed (piece_ordered left right customer house table (total_now given) (read_state given).size (length piece) (length room)) p in
      subst (λ (t : TextState).
      (bits ≡ text_bits (piece_answer t left right customer house table piece (length room)))
      × (then ≡ bytes_left (piece_answer t left right customer house table piece (length room)) bytes (piece_next t left right customer house table piece (length room)))
      × (after ≡ piece_room t left right customer house table piece room)) g
      (b ∙ ap text_bits c.answered, s ∙ rw (c.answered, c.state), c.memory)

  pub end_left : (room : List ℕ) {taken : Taken} {after then : List ℕ} {bits : ℕ} → Ends given left right customer house table room taken after
      → bits ≡ text_bits taken.answer → then ≡ bytes_left taken.answer bytes taken.state
      → (bits ≡ text_bits (end_answer (of_bytes bytes) left right customer house table (length room)))
      × (then ≡ bytes_left (end_answer (of_bytes bytes) left right customer house table (length room)) bytes (end_next (of_bytes bytes) left right customer house table (length room)))
      × (after ≡ end_room (of_bytes bytes) left right customer house table room)
  end_left room {after = after} {then = then} {bits = bits} p b s =
      let c = computed (end_ordered left right customer house table (read_state given).size (length room)) p in
      subst (λ (t : TextState).
      (bits ≡ text_bits (end_answer t left right customer house table (length room)))
      × (then ≡ bytes_left (end_answer t left right customer house table (length room)) bytes (end_next t left right customer house table (length room)))
      × (after ≡ end_room t left right customer house table room)) g
      (b ∙ ap text_bits c.answered, s ∙ rw (c.answered, c.state), c.memory)
