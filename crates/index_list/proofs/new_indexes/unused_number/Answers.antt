use Rattle.std.proofs.Common.{[], length, sym, ◌∙◌, arith}
use Rattle.std.proofs.lemmas.List.{length-map}
use Rattle.index.specs.Definition.{Definition}
use Rattle.entry_model.specs.State.{empty_collection}
use Rattle.database_model.specs.CreateIndexes.{numbered}
use Rattle.index_list.proofs.NewIndexLemmas.{has_number_is}
use Rattle.database_model.proofs.Numbers.{searched_all, searched_found, searched_none, searched_one}
use Rattle.index_list.proofs.new_indexes.unused_number.Goals as goal

pub numbers-init : goal.numbers-init
numbers-init c =
    searched_none (numbered c.args.indexes.now) (length c.args.indexes.now)
    (sym (length-map c.args.indexes.now (λ (i : Definition). empty_collection [] i.number)))

pub numbers-preserved : goal.numbers-preserved
numbers-preserved c =
    let is = c.args.indexes.now in
    let n = c.numbers.number in
    searched_one (numbered is) (length is) c.numbers.counter n c.numbers.invariant c.numbers-test.true
    (has_number_is is n ∙ sym c.has_number.ensures ∙ c.if-not-has_number.false)

pub returns-then-not-has_number-clause-number : goal.returns-then-not-has_number-clause-number
returns-then-not-has_number-clause-number c =
    let is = c.args.indexes.now in
    let n = c.numbers.number in
    searched_found (numbered is) (length is) c.numbers.counter n c.numbers.invariant (has_number_is is n ∙ sym c.has_number.ensures ∙ c.if-not-has_number.true)

pub returns-then-not-has_number-clause-within : goal.returns-then-not-has_number-clause-within
returns-then-not-has_number-clause-within c = (omega (arith, c.numbers.invariant.number_is), omega (arith, c.numbers.invariant.number_is, c.numbers-test.true))

pub returns-clause-number : goal.returns-clause-number
returns-clause-number c =
    searched_all (numbered c.args.indexes.now) (length c.args.indexes.now) c.numbers.counter c.numbers.number c.numbers.invariant
    (omega (arith, c.numbers-test.false))

pub returns-clause-within : goal.returns-clause-within
returns-clause-within c = (omega (arith, c.numbers.invariant.number_is), omega (arith, c.numbers.invariant.number_is, c.numbers.auto.counter-end))
