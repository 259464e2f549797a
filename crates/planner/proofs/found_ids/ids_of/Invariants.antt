use Rattle.std.proofs.Common.{◌≡◌, ◌++◌}
use Rattle.index.specs.View.{texts_of}
use Rattle.planner.specs.FoundIds.{ids_of}
use Rattle.planner.proofs.found_ids.ids_of.Given as goal

abbrev pub invariant-texts : goal.invariant-texts
invariant-texts l =
    texts_of l.ids.items ++ ids_of l.index.fields (texts_of l.text-iterator.rest.items) ≡ ids_of l.index.fields (texts_of l.fn.texts.items)
