use Rattle.std.proofs.Common.{◌∙◌, sym}
use Rattle.lines.proofs.Laws.{end_told, fit_none, fit_some}
use Rattle.lines.proofs.end_if_fit.Goals as goal
use Rattle.lines.proofs.end_if_fit.Goals.{then-not-apostrophes, else-not-apostrophes}

pub returns : goal.returns
returns c =
    end_told _ _ c.then_some.ensures
    (elim c.if-not-apostrophes.branch [
      | then-not-apostrophes w ↦ fit_none _ _ _ w.if-not-apostrophes.true-raw ∙ sym w.if-not-apostrophes.true-raw ∙ sym w.then_some-is
      | else-not-apostrophes w ↦ fit_some _ _ _ w.if-not-apostrophes.false-raw w.apostrophes_fit.ensures (sym w.then_some-is)
    ])
