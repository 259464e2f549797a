use Rattle.std.proofs.Common.{List, take, sym, ap, ◌∙◌}
use Rattle.bson.specs.View.{names_of}
use Rattle.bson.specs.Lookup.{stands_in}
use Rattle.bson.specs.declared.value.Pair.{Pair}
use Rattle.bson.proofs.PushLaws.{names_pushed}
use Rattle.bson.proofs.BuildLaws.{one_more}
use Rattle.bson.proofs.names.Names.of_pairs.Goals as goal

pub pairs-preserved : goal.pairs-preserved
pairs-preserved c = λ other.
    let before = take c.pairs.pair-index c.args.pairs.now in
    let more = one_more c.args.pairs.now c.pairs.pair-index c.pair-item.result c.pairs-test.true c.pair-item.is in
    names_pushed before c.pair-item.result c.insert.new.self c.pairs.names c.as_str.result.now c.in_ok-_is_new.ensures.names c.pairs.invariant
    (sym c.as_str.ensures.value) other ∙ ap (λ (ps : List Pair). stands_in (names_of ps) other) (sym more)
