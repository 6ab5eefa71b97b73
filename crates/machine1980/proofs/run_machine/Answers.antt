use native.Mathlib.Omega.{arith}
use Rattle.machine1980.proofs.Laws.{suffix_left, prefix_left}
use Rattle.machine1980.proofs.run_machine.Goals as goal

pub overflow_sub-result : goal.overflow_sub-result
overflow_sub-result c =
    omega (arith, suffix_left _ _ _ _ c.remove_suffixes.ensures.answer c.in_ok-suffixed.was, prefix_left _ _ _ c.remove_prefixes.ensures.answer c.in_ok-prefixed.was)
