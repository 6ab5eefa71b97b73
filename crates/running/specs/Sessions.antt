-- CR 6: "From a new text on, while they stay the same, and refused calls left out, the joined output and total count are those of one piece,
-- however the text is cut." Calls one behind the other, with the same margins, lists and table.
use Rattle.std.specs.Prelude.{ℕ, ◌+◌, cond, List, [], ◌∷◌, ◌++◌}
use Rattle.runs.specs.Reached.{is_fine}
use Rattle.states.specs.declared.TextState.{TextState}
use Rattle.flowing.specs.Output.{piece_text, piece_looks}
use Rattle.running.specs.Calls.{held_now, judged_piece, piece_next}

-- A piece, and the size of the room that is lent with it.
pub record Call : Type 0 where
  pub piece : List ℕ
  pub room : ℕ

-- What comes of calls: the pieces that were answered, their outputs joined, their counts added up, and the state behind them.
pub record Course : Type 0 where
  pub pieces : List (List ℕ)
  pub text : List ℕ
  pub looks : ℕ
  pub state : TextState

module _ (left right : ℕ) (customer house table : List ℕ) where
  -- a call that is answered, before the rest
  abbrev pub answered_first : TextState → List ℕ → Course → Course
  answered_first state piece rest =
      record {
        pieces = piece ∷ rest.pieces;
        text = piece_text left right customer house table (held_now state) piece ++ rest.text;
        looks = piece_looks customer house table (held_now state) piece + rest.looks;
        state = rest.state;
      }

  -- a refused call leaves its state to the next, and is left out
  unfoldable pub session : TextState → List Call → Course
  session state [] = record { pieces = []; text = []; looks = 0; state = state }
  session state (c ∷ calls) =
      let next = piece_next state left right customer house table c.piece c.room in
      cond (is_fine (judged_piece state left right customer house table c.piece c.room)) (answered_first state c.piece (session next calls)) (session next calls)
