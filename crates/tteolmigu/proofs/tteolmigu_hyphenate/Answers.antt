use Rattle.tteolmigu.proofs.Laws.{by_cases}
use Rattle.tteolmigu.specs.Bits.{answer_bits}
use mathlib.Core.Path.{◌∙◌, ap, refl}
use Rattle.hyphenation.proofs.Order.{hyphenate_ordered, computed}
use Rattle.tteolmigu.proofs.tteolmigu_hyphenate.Goals as goal

pub returns : goal.returns
returns c =
    let s = c.setting_of-setting.ensures in
    let x = computed (hyphenate_ordered _ _ _ _ _ _ _) c.hyphenate.ensures in
    record { bits = by_cases answer_bits _ c.from.ensures ∙ ap answer_bits x.answered ∙ rw s refl; memory = x.memory ∙ rw s refl }
