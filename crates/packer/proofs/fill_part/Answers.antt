use borrow.Author.Rules.{rules}
use mathlib.Core.Path.{◌≡◌, ◌∙◌}
use Rattle.packer.proofs.fill_part.Goals as goal

pub fill-requires : goal.fill-requires
fill-requires c =
    let e : c.unwrap-cells.result.now ≡ c.args.cells.now = search rules in
    (e ∙ c.requires.0, c.requires.1)
