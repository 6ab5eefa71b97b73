use Rattle.std.proofs.Common.{◌≡◌, length, arith, rules}
use Rattle.words.specs.Symbols.{apostrophe}
use Rattle.runs.specs.Held.{last_of}
use Rattle.flowing.proofs.Laws.{held_good, before_good, none_shows, one_shows, mark_fits, two_shows}
use Rattle.flowing.proofs.put_held.Goals as goal

pub returns-in-empty : goal.returns-in-empty
returns-in-empty c = none_shows c.args.setting.now.left c.args.setting.now.right c.args.setting.now.customer.now c.args.setting.now.house.now c.args.setting.now.table.now c.args.held.now c.args.out.now (omega (arith, c.in-empty.len_below)) c.requires.1

pub invariant_of-put_word : goal.invariant_of-put_word
invariant_of-put_word c =
    let some : length c.args.held.now ≡ 0 → ⊥ = λ z. omega (arith, z, c.in-39.len_at_least) in
    let last : last_of c.args.held.now ≡ apostrophe = search rules in
    record { judged = before_good c.args.held.now c.requires.0 some last }

pub put_byte-requires : goal.put_byte-requires
put_byte-requires c =
    let some : length c.args.held.now ≡ 0 → ⊥ = λ z. omega (arith, z, c.in-39.len_at_least) in
    let last : last_of c.args.held.now ≡ apostrophe = search rules in
    mark_fits c.args.setting.now.left c.args.setting.now.right c.args.setting.now.customer.now c.args.setting.now.house.now c.args.setting.now.table.now c.args.held.now some last c.args.out.now c.requires.1 c.put_word-looks.ensures

pub returns-in-39 : goal.returns-in-39
returns-in-39 c =
    let some : length c.args.held.now ≡ 0 → ⊥ = λ z. omega (arith, z, c.in-39.len_at_least) in
    let last : last_of c.args.held.now ≡ apostrophe = search rules in
    two_shows c.args.setting.now.left c.args.setting.now.right c.args.setting.now.customer.now c.args.setting.now.house.now c.args.setting.now.table.now c.args.held.now some last c.args.out.now c.requires.1 c.put_word-looks.ensures c.put_byte.ensures

pub invariant_of-put_word-in_default : goal.invariant_of-put_word-in_default
invariant_of-put_word-in_default c =
    let some : length c.args.held.now ≡ 0 → ⊥ = λ z. omega (arith, z, c.in_default.len_at_least) in
    let last : last_of c.args.held.now ≡ apostrophe → ⊥ = search rules in
    record { judged = held_good c.args.held.now c.requires.0 some last }

pub returns-in_default : goal.returns-in_default
returns-in_default c =
    let some : length c.args.held.now ≡ 0 → ⊥ = λ z. omega (arith, z, c.in_default.len_at_least) in
    let last : last_of c.args.held.now ≡ apostrophe → ⊥ = search rules in
    one_shows c.args.setting.now.left c.args.setting.now.right c.args.setting.now.customer.now c.args.setting.now.house.now c.args.setting.now.table.now c.args.held.now some last c.put_word.ensures
