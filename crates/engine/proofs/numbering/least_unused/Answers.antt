use Rattle.std.proofs.Common.{◌≡◌, ◌<◌, [], length, true, false, sym, ◌∙◌, arith}
use Rattle.std.proofs.lemmas.List.{get_or_default, length-map}
use Rattle.collections.specs.declared.lookups.Name.{Name}
use Rattle.entry_model.specs.State.{empty_collection, uses}
use Rattle.engine.specs.Numbering.{numbered}
use Rattle.database_model.proofs.Numbers.{searched_all, searched_found, searched_none, searched_one}
use Rattle.engine.proofs.numbering.least_unused.Goals as goal

pub numbers-preserved : goal.numbers-preserved
numbers-preserved c =
    let items = c.in_ok-used.used.items in
    let n = c.numbers.number in
    let there = c.in_ok-used.ensures in
    let below : c.numbers.number < 1001 = omega (arith, c.numbers.invariant.number_is, c.numbers-test.true, c.requires) in
    let within : c.numbers.number < length c.in_ok-used.used.items = omega (arith, below, there.whole) in
    let used : uses (numbered c.args.names.now) c.numbers.number ≡ true =
    sym (there.marked n below) ∙ get_or_default items n false c.index.result.now within ∙ sym c.index.ensures ∙ c.if-not-index.false in
    searched_one (numbered c.args.names.now) (length c.args.names.now) c.numbers.counter n c.numbers.invariant c.numbers-test.true used

pub numbers-init : goal.numbers-init
numbers-init c =
    searched_none (numbered c.args.names.now) (length c.args.names.now) (sym (length-map c.args.names.now (λ (n : Name). empty_collection [] n.number)))

pub returns-then-not-index-clause-number : goal.returns-then-not-index-clause-number
returns-then-not-index-clause-number c =
    let items = c.in_ok-used.used.items in
    let n = c.numbers.number in
    let there = c.in_ok-used.ensures in
    let below : c.numbers.number < 1001 = omega (arith, c.numbers.invariant.number_is, c.numbers-test.true, c.requires) in
    let within : c.numbers.number < length c.in_ok-used.used.items = omega (arith, below, there.whole) in
    let free : uses (numbered c.args.names.now) c.numbers.number ≡ false =
    sym (there.marked n below) ∙ get_or_default items n false c.index.result.now within ∙ sym c.index.ensures ∙ c.if-not-index.true in
    searched_found (numbered c.args.names.now) (length c.args.names.now) c.numbers.counter n c.numbers.invariant free

pub returns-clause-number : goal.returns-clause-number
returns-clause-number c =
    searched_all (numbered c.args.names.now) (length c.args.names.now) c.numbers.counter c.numbers.number c.numbers.invariant
    (omega (arith, c.numbers-test.false))
