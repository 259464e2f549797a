use Rattle.std.proofs.Common.{◌≡◌, ℕ, List, ◌+◌, ◌*◌, length}
use Rattle.bson.specs.View.{pairs_of, items_of, names_of}
use Rattle.bson.specs.Lawful.{pairs_levels, items_levels}
use Rattle.bson.specs.Lookup.{stands_in}
use Rattle.bson_bytes.specs.Decoding.{pairs_in, items_in, value_at}
use Rattle.bson_bytes.specs.Checked.{PairsSoFar}
use Rattle.bson_bytes.proofs.ReadLoopLaws.{ItemsSoFar}
use Rattle.bson_bytes.proofs.decoding.+decoding.Given as goal

abbrev pub decreases-read_value : goal.decreases-read_value
decreases-read_value l = 3 * l.more

abbrev pub decreases-read_item : goal.decreases-read_item
decreases-read_item l = 3 * l.more + 1

abbrev pub decreases-read_pair : goal.decreases-read_pair
decreases-read_pair l = 3 * l.more + 1

abbrev pub decreases-read_items : goal.decreases-read_items
decreases-read_items l = 3 * l.more + 2

abbrev pub decreases-read_pairs : goal.decreases-read_pairs
decreases-read_pairs l = 3 * l.more + 2

abbrev pub invariant-read_pairs-pairs : goal.invariant-read_pairs-pairs
invariant-read_pairs-pairs l =
    PairsSoFar l.more (pairs_of l.pairs.items) (names_of l.pairs.items) l.rest (pairs_in (value_at l.more) l.content)
    × (l.levels ≡ pairs_levels (pairs_of l.pairs.items)) × ((name : List ℕ) → stands_in l.names name ≡ stands_in (names_of l.pairs.items) name)

abbrev pub decreases-read_pairs-pairs : goal.decreases-read_pairs-pairs
decreases-read_pairs-pairs l = length l.rest

abbrev pub invariant-read_items-items : goal.invariant-read_items-items
invariant-read_items-items l =
    ItemsSoFar l.more (items_of l.items.items) (length l.items.items) l.rest (items_in (value_at l.more) l.content)
    × (l.levels ≡ items_levels (items_of l.items.items))

abbrev pub decreases-read_items-items : goal.decreases-read_items-items
decreases-read_items-items l = length l.rest
