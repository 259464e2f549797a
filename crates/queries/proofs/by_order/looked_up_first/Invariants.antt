use Rattle.std.specs.Prelude.{All, List, drop}
use Rattle.database_model.specs.Lawful.{IsWithin}
use Rattle.sort.specs.Sort.{SortField}
use Rattle.index.specs.View.{texts_of}
use Rattle.queries.specs.ByOrder.{LeadInOrder}
use Rattle.queries.proofs.ByOrderLemmas.{AreInFront, told_in_order}
use Rattle.walks.proofs.LookingUpLemmas.{HasLookedUp}
use Rattle.queries.proofs.by_order.looked_up_first.Given as goal

abbrev pub invariant-ids : goal.invariant-ids
invariant-ids g l = record {
  come : (sort : List SortField)
      → HasLookedUp g.D.Disk.history l.number (LeadInOrder l.number l.filter sort l.read.are_all (texts_of l.read.ids.items)) (texts_of l.read.ids.items)
      (told_in_order l.number l.filter sort l.read.are_all (texts_of l.read.ids.items))
      (AreInFront l.filter sort l.read.are_all l.most l.found.items) l.fn.file l.file (texts_of (drop l.id-index l.id-items));
  within : All IsWithin l.found.items;
}
