-- CR 6: the state of a running text, which a call gets and gives back.
use Rattle.std.specs.Prelude.{ℕ, zero, suc, ◌-◌, ◌≤◌, Bool, true, false, cond, ◌&&◌, List, [], ◌∷◌, ◌++◌, ◌≡◌, leb, eqb, length, take, drop, replicate}
use Rattle.base.specs.Limits.{held_limit, running_text}
use Rattle.runs.specs.Text.{Held, Holding, Gone, GoneMarked}
use Rattle.runs.specs.Held.{bytes_of}
use Rattle.runs.specs.Reached.{Reached, is_reached}
use Rattle.states.specs.declared.TextState.{TextState}

-- The run: "0 none or held, 1 let go, 2 let go with a trailing apostrophe".
abbrev pub run_of : Held → ℕ
run_of (Holding kept) = 0
run_of Gone = 1
run_of GoneMarked = 2

-- The bytes held, "zeros behind".
unfoldable pub padded : List ℕ → List ℕ
padded kept = kept ++ replicate (held_limit - length kept) 0

-- The state of a text of which this is held and which has so many bytes so far.
unfoldable pub state_of : Held → ℕ → TextState
state_of s total = record { held = padded (bytes_of s); size = length (bytes_of s); run = run_of s; total = total }

abbrev pub new_text : TextState
new_text = state_of (Holding []) 0

-- What is held by a run's number and some bytes, and by a state.
abbrev pub held_by : ℕ → List ℕ → Held
held_by zero kept = Holding kept
held_by (suc zero) kept = Gone
held_by (suc (suc n)) kept = GoneMarked

abbrev pub held_in : TextState → Held
held_in t = held_by t.run (take t.size t.held)

-- By declaration: some text leaves this state, of at most 1,048,576 bytes.
pub record Left (t : TextState) : Type 0 where
  pub held : Held
  pub reached : Reached held t.total
  pub short : t.total ≤ running_text
  pub is : t ≡ state_of held t.total

-- The same as it is tested.
unfoldable pub all_zero : List ℕ → Bool
all_zero [] = true
all_zero (b ∷ t) = eqb b 0 && all_zero t

-- A run that was let go, by its number, in a text of so many bytes; nothing is held of it.
unfoldable pub is_gone : ℕ → ℕ → Bool
is_gone run total = cond (eqb run 1) (is_reached Gone total) (cond (eqb run 2) (is_reached GoneMarked total) false)

unfoldable pub are_left : List ℕ → ℕ → ℕ → ℕ → Bool
are_left held size run total =
    leb total running_text
    && (leb size (length held)
    && (all_zero (drop size held)
    && cond (eqb run 0) (is_reached (Holding (take size held)) total) (eqb size 0 && is_gone run total)))

unfoldable pub is_left : TextState → Bool
is_left t = are_left t.held t.size t.run t.total

-- "A state these calls couldn't leave is read as a new text's."
unfoldable pub read_state : TextState → TextState
read_state t = cond (is_left t) t new_text

-- How a state is read: it is then one that a text leaves.
pub record Reads (t r : TextState) : Type 0 where
  pub is : r ≡ read_state t
  pub left : Left r
  pub wide : length r.held ≡ held_limit
