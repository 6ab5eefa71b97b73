-- The judgement of the call gives the first of its grounds that holds.
use Prim.Native.Nat.{ℕ}
use mathlib.Core.List.{List, []}
use mathlib.Core.Path.{◌≡◌, sym, ◌∙◌, ap}
use lib.Dec.{ltb}
use lib.Ieee.{Float}
use lib.ListN.{length}
use Rattle.base.specs.Limits.{room_size, word_limit}
use Rattle.base.specs.Grounds.{Said, Finds, says, first_of, Check}
use Rattle.std.specs.Prelude.{Ok, Err, Result}
use Rattle.base.specs.declared.Ground.{Ground}
use Rattle.base.specs.declared.Ground.TheVariants.{RoomShort, BadWidth}
use Rattle.base.proofs.Grounds.{Ordered, ordered_first, ordered_if, said_found, said_refused_lem}
use Rattle.words.proofs.Order.{word_ordered}
use Rattle.gauge.specs.Widths.{any_bad}
use Rattle.gauge.specs.Fit.{given, fit_values, fit_grounds, fit_said, fit_answer, judge_fit}
use Rattle.gauge.specs.declared.Gauge.{Gauge}
use Rattle.gauge.specs.declared.Fitting.{Fitting}

pub fit_ordered : (g : Gauge) (widths : List Float) (word : List ℕ) (size : ℕ) → Ordered (judge_fit g widths word size) (fit_grounds g widths word size)
unfolding judge_fit fit_grounds
fit_ordered g widths word size =
    ordered_first (ordered_if (ltb size room_size) RoomShort) (ordered_first (word_ordered word_limit word) (ordered_if (any_bad (given g widths)) BadWidth))

-- the answer by its judgement: a refusal as it is judged, else what is found
module _ (g : Gauge) (widths : List Float) (word room : List ℕ) {judged : Check} (p : says judged ≡ first_of (Finds []) (fit_grounds g widths word (length room))) where
  judged_as : {c : Check} → judged ≡ c → Ordered c (fit_grounds g widths word (length room))
  judged_as e = record { same = ap says (sym e) ∙ p }

  pub answer_refused : {x : Ground} → judged ≡ Err x → {r : Result Fitting Ground} → r ≡ Err x → fit_said r ≡ fit_answer g widths word room
  unfolding fit_said fit_answer
  answer_refused e f = ap fit_said f ∙ sym (said_refused_lem (judged_as e) (fit_values g widths word room))

  pub answer_found : judged ≡ Ok tt → {said : Said} → said ≡ Finds (fit_values g widths word room) → said ≡ fit_answer g widths word room
  unfolding fit_answer
  answer_found e f = f ∙ sym (said_found (judged_as e) (fit_values g widths word room))
