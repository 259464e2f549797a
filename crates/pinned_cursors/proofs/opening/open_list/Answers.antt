use Rattle.std.proofs.Common.{List, All, Some, sym, subst}
use Rattle.std.proofs.lemmas.Result.{IfOk-equal}
use Rattle.bson.specs.Tree.{Pairs}
use Rattle.database_model.specs.Lawful.{IsWithin}
use Rattle.cursors.specs.Changes.{opened}
use Rattle.pinned_cursors.proofs.opening.open_list.Goals as goal

pub open_listed-requires-clause-within : goal.open_listed-requires-clause-within
open_listed-requires-clause-within c = subst (λ (ds : List Pairs). All IsWithin ds) (sym c.in_ok-list.ensures.gives) c.requires.within

pub returns-clause-ok : goal.returns-clause-ok
returns-clause-ok c =
    IfOk-equal c.open_listed.result c.open_listed.new.self _ _ c.open_listed.ensures.ok
    (λ i. opened c.args.cursors.now c.args.connection c.args.namespace.now (c.in_ok-list.ensures.gives i) (Some (c.in_ok-list.ensures.list i)))
