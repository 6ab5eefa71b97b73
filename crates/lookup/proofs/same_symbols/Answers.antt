use Rattle.std.proofs.Common.{rules, tests, ◌∙◌, ap, not, eqb, refl, ◌≡◌, drop}
use Rattle.std.specs.Ordering.{nat_cmp}
use Rattle.std.proofs.lemmas.Iterator.{YieldsList-from_slice, YieldsList-from_map}
use Rattle.std.proofs.lemmas.Iterator.Consumers.{YieldsList-from_filter}
use Rattle.std.proofs.lemmas.Iterator.Search.{cmp_from_yields_List}
use Rattle.words.specs.Symbols.{lower, symbol_of}
use Rattle.lines.proofs.Symbols.{rest_whole}
use Rattle.lookup.proofs.Same.{is_same, same_filtered}
use Rattle.lookup.proofs.same_symbols.Goals as goal

pub returns : goal.returns
returns c =
    let a : c.map-letters.result.iter.rest.now ≡ drop c.args.from c.args.word.now = ap (λ i. i.rest.now) c.map-letters.ensures.source ∙ c.iter.ensures.rest ∙ rest_whole _ c.args.from in
    let b : c.filter-symbols.result.iter.iter.rest.now ≡ drop c.args.at c.args.line.now = ap (λ m. m.iter.rest.now) c.filter-symbols.ensures.source ∙ ap (λ i. i.rest.now) c.map.ensures.source ∙ c.iter-2.ensures.rest ∙ rest_whole _ c.args.at in
    c.is_eq.ensures
    ∙ is_same _ _ _
    (cmp_from_yields_List (λ x y. y ≡ x) _ nat_cmp _ c.cmp.ensures.ran
    (YieldsList-from_map _ (λ b. symbol_of (lower b)) (YieldsList-from_slice _ a) refl (λ x r q k. search rules))
    (λ it e. YieldsList-from_filter _ (λ s. not (eqb s 0)) (YieldsList-from_map _ symbol_of (YieldsList-from_slice _ (ap (λ t. t.iter.iter.rest.now) e ∙ b)) refl (λ x r q k. search rules)) refl (λ x b q k. search (rules, tests)))
    (λ x y. refl))
    ∙ same_filtered (drop c.args.from c.args.word.now) (drop c.args.at c.args.line.now)
