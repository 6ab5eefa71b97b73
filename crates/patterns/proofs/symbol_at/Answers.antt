use Rattle.std.proofs.Common.{rules, tests, eqb, not}
use Rattle.std.proofs.lemmas.Iterator.{YieldsList-from_slice, YieldsList-from_map}
use Rattle.std.proofs.lemmas.Iterator.Consumers.{YieldsList-at, YieldsList-from_filter, nth_from_yields_List}
use Rattle.words.specs.Symbols.{symbol_of}
use Rattle.patterns.proofs.Laws.{symbol_nth}
use Rattle.patterns.proofs.symbol_at.Goals as goal

pub returns : goal.returns
returns c =
    symbol_nth _ _ _ (nth_from_yields_List c.nth.result _ c.args.number c.nth.ensures.ran
    (YieldsList-from_filter _ (λ s. not (eqb s 0))
    (YieldsList-at c.filter.ensures.source (YieldsList-from_map _ symbol_of (YieldsList-from_slice c.args.line.now (cc)) c.map.ensures.closure (λ x r q k. search (rules, tests))))
    c.filter.ensures.closure (λ x r q k. search (rules, tests)))) (search rules)
