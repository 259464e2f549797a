-- What walks, and what cursors go on by, stand for.
use Rattle.std.specs.Prelude.{List, Option, Some, None}
use Rattle.bson.specs.Tree.{Pairs}
use Rattle.cursors.specs.Held.{HeldWalk, through, listed, ordered}
use Rattle.cursors.specs.declared.list.PinnedList.{PinnedList}
use Rattle.cursors.specs.declared.order.PinnedOrder.{PinnedOrder}
use Rattle.cursors.specs.declared.walk.PinnedWalk.{PinnedWalk}
use Rattle.cursors.specs.declared.source.Source.{Source}
use Rattle.cursors.specs.declared.source.Source.TheVariants as sources

abbrev pub walk_of : PinnedWalk → HeldWalk
walk_of w = record {
  version = w.version;
  number = w.number;
  projection = w.projection;
  way = through w.filter w.limit w.from.items;
}

abbrev pub list_of : PinnedList → HeldWalk
list_of l = record {
  version = l.version;
  number = l.number;
  projection = l.projection;
  way = listed l.texts;
}

abbrev pub order_of : PinnedOrder → HeldWalk
order_of o = record {
  version = o.version;
  number = o.number;
  projection = o.projection;
  way = ordered o.filter o.index 0 o.limit o.from.items o.last.items;
}

-- the documents that are left
abbrev pub rest_in : Source → List Pairs
rest_in (sources.Kept rest) = rest
rest_in (sources.Pinned w) = w.rest.value
rest_in (sources.Listed l) = l.rest.value
rest_in (sources.Ordered o) = o.rest.value

abbrev pub walk_in : Source → Option HeldWalk
walk_in (sources.Kept rest) = None
walk_in (sources.Pinned w) = Some (walk_of w)
walk_in (sources.Listed l) = Some (list_of l)
walk_in (sources.Ordered o) = Some (order_of o)
