use Rattle.std.proofs.Common.{List, All, Some, sym, subst}
use Rattle.std.proofs.lemmas.Result.{IfOk-equal}
use Rattle.bson.specs.Tree.{Pairs}
use Rattle.database_model.specs.Lawful.{IsWithin}
use Rattle.cursors.specs.Changes.{opened}
use Rattle.pinned_cursors.proofs.opening.open_walk.Goals as goal

pub open_pinned-requires-clause-within : goal.open_pinned-requires-clause-within
open_pinned-requires-clause-within c = subst (λ (ds : List Pairs). All IsWithin ds) (sym c.in_ok-walk.ensures.gives) c.requires.within

pub returns-clause-ok : goal.returns-clause-ok
returns-clause-ok c =
    IfOk-equal c.open_pinned.result c.open_pinned.new.self _ _ c.open_pinned.ensures.ok
    (λ i. opened c.args.cursors.now c.args.connection c.args.namespace.now (c.in_ok-walk.ensures.gives i) (Some (c.in_ok-walk.ensures.walk i)))
