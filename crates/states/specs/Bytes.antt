-- How a state stands in the bytes that a caller from C keeps: "byte 0 how many bytes are held, byte 1 the run .., bytes 2 to 5 the total, high
-- byte first, bytes 6 and 7 zero, then the held bytes .., zeros behind; all zero is a new text".
use Rattle.std.specs.Prelude.{ℕ, ◌+◌, ◌*◌, ◌/◌, ◌%◌, cond, ◌&&◌, List, [], ◌∷◌, ◌++◌, eqb, get_or, drop}
use Rattle.base.specs.Limits.{held_limit}
use Rattle.states.specs.State.{new_text}
use Rattle.states.specs.declared.TextState.{TextState}

abbrev pub head_size : ℕ
head_size = 8

abbrev pub state_size : ℕ
state_size = head_size + held_limit

abbrev pub head_bytes : TextState → List ℕ
head_bytes t = t.size ∷ t.run ∷ (t.total / 16777216) ∷ (t.total / 65536 % 256) ∷ (t.total / 256 % 256) ∷ (t.total % 256) ∷ 0 ∷ 0 ∷ []

unfoldable pub state_bytes : TextState → List ℕ
state_bytes t = head_bytes t ++ t.held

unfoldable pub total_of : List ℕ → ℕ
total_of bytes = (get_or bytes 2 0 * 256 + get_or bytes 3 0) * 65536 + (get_or bytes 4 0 * 256 + get_or bytes 5 0)

-- Where byte 6 or 7 isn't 0 the calls couldn't have left the state, and it is a new text's.
unfoldable pub of_bytes : List ℕ → TextState
of_bytes bytes =
    cond (eqb (get_or bytes 6 0) 0 && eqb (get_or bytes 7 0) 0)
    (record { held = drop head_size bytes; size = get_or bytes 0 0; run = get_or bytes 1 0; total = total_of bytes })
    new_text
