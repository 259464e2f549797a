use Rattle.std.proofs.Common.{List, take, sym, ap, subst, ◌∙◌}
use Rattle.std.specs.Prelude.{All}
use Rattle.bson.specs.Tree.{Pairs}
use Rattle.database_model.specs.Lawful.{IsWithin}
use Rattle.sort.specs.Sort.{order}
use Rattle.asked_documents.proofs.AskingLemmas.{if_ok}
use Rattle.queries.proofs.ordering.first_found.Goals as goal

pub first_spelled-requires : goal.first_spelled-requires
first_spelled-requires c = subst (All IsWithin) (sym c.in_ok-built.ensures) c.requires

pub returns-clause-first : goal.returns-clause-first
returns-clause-first c =
    if_ok c.first_spelled.result (λ v is. is ∙ ap (λ (ds : List Pairs). take c.args.most (order c.args.sort.now ds)) c.in_ok-built.ensures)
    c.first_spelled.ensures.first
