use Rattle.std.proofs.Common.{rules, tests, ◌≡◌, ◌+◌, length, drop, sym, ◌∙◌, ap}
use Rattle.lines.specs.Lines.{line_length}
use Rattle.lines.proofs.Splits.{first_split, past_split}
use Rattle.lines.proofs.Symbols.{rest_whole}
use Rattle.lines.proofs.line_end.Goals as goal

pub returns-in_default : goal.returns-in_default
returns-in_default c = past_split _ _ c.in_default.ensures.lookup.0

pub returns : goal.returns
returns c =
    let s : c.split_inclusive.result.rest.now ≡ c.in-Some.rest.now = c.split_inclusive.ensures.rest in
    let e : c.in-Some.rest.now ≡ drop c.args.at c.args.text.now = c.in-Some.ensures.lookup.0.2 ∙ rest_whole c.args.text.now c.args.at in
    let u = first_split _ _ _ c.split_inclusive.result.rest.now _ _ c.next.ensures.steps (λ b r q k. search (rules, tests)) c.in-Some.rest (sym s) in
    ap (λ k. c.args.at + k) (ap (λ b. length b.now) c.unwrap_or-line.ensures ∙ u ∙ ap line_length (s ∙ e))
