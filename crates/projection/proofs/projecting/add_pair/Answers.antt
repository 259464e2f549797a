use Rattle.std.proofs.Common.{sym, ap, ◌∙◌}
use Rattle.std.specs.Prelude.{option_map}
use Rattle.bson.specs.Tree.{no_pairs, append, pair}
use Rattle.bson.specs.View.{tree, pairs_of}
use Rattle.bson.specs.EditPlaces.{append-none}
use Rattle.bson.specs.EditsLaws.{pairs_of-push}
use Rattle.bson.specs.declared.value.Pair.{Pair}
use Rattle.projection.specs.Projection.{add_pair}
use Rattle.projection.proofs.projecting.add_pair.Goals as goal

pub returns-in_ok-push-in-Some : goal.returns-in_ok-push-in-Some
returns-in_ok-push-in-Some c =
    let made : Pair = record { name = c.in_ok-name-in-Some.name; value = c.in-Some.value } in
    ap pairs_of c.in_ok-push-in-Some.ensures.items
    ∙ pairs_of-push c.args.pairs.now.items made
    ∙ ap (λ n. append (pairs_of c.args.pairs.now.items) (pair n (tree c.in-Some.value) no_pairs)) c.in_ok-name-in-Some.ensures
    ∙ sym (ap (λ o. append (pairs_of c.args.pairs.now.items) (add_pair c.args.name.now (option_map tree o) no_pairs)) c.in-Some.is)

pub returns-in-None : goal.returns-in-None
returns-in-None c =
    sym (append-none (pairs_of c.args.pairs.now.items))
    ∙ sym (ap (λ o. append (pairs_of c.args.pairs.now.items) (add_pair c.args.name.now (option_map tree o) no_pairs)) c.in-None.is)
