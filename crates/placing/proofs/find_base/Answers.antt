use borrow.Author.Rules.{rules}
use borrow.Author.Tests.{tests}
use Prim.Native.Nat.{◌-◌}
use mathlib.Core.Path.{◌≡◌, refl, ◌∙◌}
use mathlib.Core.Bool.{true, false}
use Rattle.std.proofs.lemmas.Iterator.{first_from_Range}
use Rattle.base.specs.Limits.{cell_limit}
use Rattle.fit.specs.Cells.{serves}
use Rattle.placing.specs.Post.{marked}
use Rattle.placing.proofs.Laws.{smallest_found}
use Rattle.placing.proofs.find_base.Goals as goal

pub returns : goal.returns
returns c =
    let test = serves c.args.s.now.cells.now c.args.s.now.taken.now (marked c.args.s.now.mask.now) in
    c.unwrap_or.ensures
    ∙ smallest_found test 1 (cell_limit - 1) cell_limit c.find.result refl
    (first_from_Range _ _ _ _ (λ k. test k ≡ true) (λ k. test k ≡ false) c.find.ensures.ran (λ x q k. search (rules, tests)) (λ x q k. search (rules, tests)))
