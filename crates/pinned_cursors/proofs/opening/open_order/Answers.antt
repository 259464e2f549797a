use Rattle.std.proofs.Common.{List, All, Some, sym, subst}
use Rattle.std.proofs.lemmas.Result.{IfOk-equal}
use Rattle.bson.specs.Tree.{Pairs}
use Rattle.database_model.specs.Lawful.{IsWithin}
use Rattle.cursors.specs.Changes.{opened}
use Rattle.pinned_cursors.proofs.opening.open_order.Goals as goal

pub open_ordered-requires-clause-within : goal.open_ordered-requires-clause-within
open_ordered-requires-clause-within c = subst (λ (ds : List Pairs). All IsWithin ds) (sym c.in_ok-order.ensures.gives) c.requires.within

pub returns-clause-ok : goal.returns-clause-ok
returns-clause-ok c =
    IfOk-equal c.open_ordered.result c.open_ordered.new.self _ _ c.open_ordered.ensures.ok
    (λ i. opened c.args.cursors.now c.args.connection c.args.namespace.now (c.in_ok-order.ensures.gives i) (Some (c.in_ok-order.ensures.order i)))
