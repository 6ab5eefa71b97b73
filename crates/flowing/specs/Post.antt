-- What the parts ask for and leave, as one record each for their contracts.
use Rattle.std.specs.Prelude.{ℕ, ◌+◌, ◌*◌, ◌≤◌, true, List, [], ◌∷◌, ◌++◌, ◌≡◌, length, take}
use Rattle.base.specs.Limits.{word_limit, pattern_limit, held_limit, room_per_byte, running_text}
use Rattle.writing.specs.Written.{Writes}
use Rattle.writing.specs.declared.Writer.{Writer}
use Rattle.runs.specs.Text.{Held}
use Rattle.runs.specs.Held.{next, held_after}
use Rattle.runs.specs.Reached.{can_be_held, is_reached}
use Rattle.states.specs.State.{held_by}
use Rattle.flowing.specs.Output.{given_text, given_looks, piece_text, piece_looks}
use Rattle.flowing.specs.declared.Flow.{Flow}

-- A word's looks are at most so many.
abbrev pub look_limit : ℕ
look_limit = pattern_limit * (word_limit + 2)

-- What is held, by the flow's run and its bytes.
abbrev pub flow_held : Flow → Held
flow_held f = held_by f.run (take f.size f.held)

-- A word's output was put and its looks are told.
pub record Shows (text : List ℕ) (looks : ℕ) (out : Writer) (r : ℕ) (after : Writer) : Type 0 where
  pub put : Writes text out after
  pub looked : r ≡ looks

-- One byte more is held.
pub record Holds (b : ℕ) (f r : Flow) : Type 0 where
  pub size : r.size ≡ f.size + 1
  pub run : r.run ≡ f.run
  pub looks : r.looks ≡ f.looks
  pub wide : length r.held ≡ length f.held
  pub kept : take r.size r.held ≡ take f.size f.held ++ (b ∷ [])

-- A text was put, its looks are added, and so many bytes are held in such a run.
pub record Goes (text : List ℕ) (looks size run : ℕ) (f : Flow) (out : Writer) (r : Flow) (after : Writer) : Type 0 where
  pub put : Writes text out after
  pub looked : r.looks ≡ f.looks + looks
  pub sized : r.size ≡ size
  pub ran : r.run ≡ run
  pub held : r.held ≡ f.held

-- What is held can be finished, with one byte behind it.
pub record Finishes (f : Flow) (out : Writer) : Type 0 where
  pub within : f.size ≤ length f.held
  pub good : can_be_held (take f.size f.held) ≡ true
  pub fits : out.at + room_per_byte * (f.size + 1) ≤ length out.room.now
  pub few : f.looks + look_limit ≤ look_limit * running_text

-- The bytes held lie in their buffer, the run is one of the three, and one that was let go holds nothing.
pub record Shaped (f : Flow) : Type 0 where
  pub wide : length f.held ≡ held_limit
  pub within : f.size ≤ held_limit
  pub known : f.run ≤ 2
  pub quiet : (f.run ≡ 0 → ⊥) → f.size ≡ 0

-- `rest` bytes can be taken: some text left what is held, the output has room for them and for what is held, and the count does not
-- pass its bound.
pub record Ready (rest : ℕ) (f : Flow) (out : Writer) : Type 0 where
  pub shaped : Shaped f
  pub total : ℕ
  pub reached : is_reached (flow_held f) total ≡ true
  pub fits : out.at + room_per_byte * (f.size + rest) ≤ length out.room.now
  pub few : f.looks + look_limit * rest ≤ look_limit * running_text

-- One byte was taken.
pub record Steps (left right : ℕ) (customer house table : List ℕ) (b : ℕ) (f : Flow) (out : Writer) (r : Flow) (after : Writer) : Type 0 where
  pub put : Writes (given_text left right customer house table (flow_held f) b) out after
  pub looked : r.looks ≡ f.looks + given_looks customer house table (flow_held f) b
  pub holds : flow_held r ≡ next (flow_held f) b
  pub shaped : Shaped r

-- A piece was taken.
pub record Flows (left right : ℕ) (customer house table piece : List ℕ) (f : Flow) (out : Writer) (r : Flow) (after : Writer) : Type 0 where
  pub put : Writes (piece_text left right customer house table (flow_held f) piece) out after
  pub looked : r.looks ≡ f.looks + piece_looks customer house table (flow_held f) piece
  pub holds : flow_held r ≡ held_after (flow_held f) piece
  pub shaped : Shaped r
