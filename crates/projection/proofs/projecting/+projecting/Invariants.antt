use Rattle.std.proofs.Common.{◌≡◌, ◌+◌, ◌*◌, drop, map}
use Rattle.bson.specs.Tree.{count, count_pairs, count_items, append, append_items}
use Rattle.bson.specs.View.{tree, pairs_of, items_of}
use Rattle.projection.specs.Projection.{of_pairs, of_items}
use Rattle.projection.proofs.projecting.+projecting.Given as goal

abbrev pub decreases-of_value : goal.decreases-of_value
decreases-of_value l = 2 * count (tree l.value.now)

abbrev pub decreases-of_document : goal.decreases-of_document
decreases-of_document l = 2 * count_pairs l.document.now + 1

abbrev pub decreases-of_array : goal.decreases-of_array
decreases-of_array l = 2 * count_items l.array.now + 1

abbrev pub invariant-of_document-pairs : goal.invariant-of_document-pairs
invariant-of_document-pairs l =
    append (pairs_of l.pairs.items) (of_pairs l.includes (map (λ p. p.now) l.paths) (pairs_of (drop l.pair-index l.pair-items)))
    ≡ of_pairs l.includes (map (λ p. p.now) l.paths) l.document

abbrev pub invariant-of_array-items : goal.invariant-of_array-items
invariant-of_array-items l =
    append_items (items_of l.items.items) (of_items l.includes (map (λ p. p.now) l.paths) (items_of (drop l.item-index l.item-items)))
    ≡ of_items l.includes (map (λ p. p.now) l.paths) l.array
