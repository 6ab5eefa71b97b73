use Rattle.base.specs.declared.Ground.{Ground}
use Rattle.gauge.specs.Fit.{fit_said}
use Rattle.gauge.specs.declared.Fitting.{Fitting}
use Rattle.std.specs.Prelude.{Result}
use Rattle.tteolmigu.proofs.Laws.{by_cases}
use Rattle.tteolmigu.specs.Bits.{fit_bits}
use mathlib.Core.Path.{◌∙◌, ap}
use Rattle.tteolmigu.proofs.tteolmigu_fit.Goals as goal

pub returns : goal.returns
unfolding fit_said
returns c = by_cases (λ (f : Result Fitting Ground). fit_bits (fit_said f)) _ c.from.ensures ∙ ap fit_bits c.fit_word.ensures
