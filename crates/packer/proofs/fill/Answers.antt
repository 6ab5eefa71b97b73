use borrow.Author.Rules.{rules}
use Prim.Native.Nat.{◌≤◌}
use mathlib.Core.Path.{refl, ◌∙◌, ap, subst}
use Rattle.base.specs.Limits.{entry_limit}
use Rattle.liang.specs.Patterns.{patterns_of}
use Rattle.packer.specs.Post.{as_outputs, entries_in}
use Rattle.packer.proofs.Laws.{fit_full, fit_over, fit_laid}
use Rattle.packer.proofs.fill.Goals as goal

pub returns-then-not-place_all : goal.returns-then-not-place_all
returns-then-not-place_all c = record { text_value = fit_full (patterns_of c.args.list.now.text.now) c.requires.0 c.requires.1 refl (c.place_all.ensures.full c.if-not-place_all.true); bounded = search rules }

pub returns-in_err-entries-clause-text_value : goal.returns-in_err-entries-clause-text_value
returns-in_err-entries-clause-text_value c = rw c.from_residual.ensures (fit_over (patterns_of c.args.list.now.text.now) c.requires.0 c.requires.1 refl (c.place_all.ensures.fits c.if-not-place_all.false) c.used_cells-count.ensures.value (c.put_outputs.ensures.count_value ∙ ap (as_outputs _ _) c.in_err-entries.was))

pub returns : goal.returns
returns c = record { text_value = fit_laid (patterns_of c.args.list.now.text.now) c.requires.0 c.requires.1 refl (c.place_all.ensures.fits c.if-not-place_all.false) c.used_cells-count.ensures.value (c.put_outputs.ensures.count_value ∙ ap (as_outputs _ _) c.in_ok-entries.was) c.put_kinds.ensures; bounded = (c.used_cells-count.ensures.lower_bound.1, subst (λ e. entries_in e ≤ entry_limit) c.in_ok-entries.was c.put_outputs.ensures.result_bound) }
