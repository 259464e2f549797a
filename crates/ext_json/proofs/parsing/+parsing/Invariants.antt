use Rattle.std.proofs.Common.{◌≡◌, ℕ, ◌+◌, ◌*◌, List}
use Rattle.std.specs.Prelude.{option_map}
use Rattle.bson.specs.View.{names_of}
use Rattle.bson.specs.Lookup.{stands_in}
use Rattle.ext_json.proofs.ParsingLemmas.{PairsSoFar, ItemsSoFar}
use Rattle.ext_json.proofs.parsing.+parsing.Given as goal

abbrev pub decreases-take_value : goal.decreases-take_value
decreases-take_value l = 4 * l.more + 3

abbrev pub decreases-take_object : goal.decreases-take_object
decreases-take_object l = 4 * l.more + 2

abbrev pub decreases-take_inner : goal.decreases-take_inner
decreases-take_inner l = 4 * l.more + 1

abbrev pub decreases-take_array : goal.decreases-take_array
decreases-take_array l = 4 * l.more + 1

abbrev pub decreases-take_pairs : goal.decreases-take_pairs
decreases-take_pairs l = 4 * l.more + 4

abbrev pub decreases-take_items : goal.decreases-take_items
decreases-take_items l = 4 * l.more + 4

abbrev pub invariant-take_pairs-pairs : goal.invariant-take_pairs-pairs
invariant-take_pairs-pairs l =
    PairsSoFar l.more (option_map (λ s. s.now) l.fn.first) l.fn.tokens l._turn l.pairs.items (option_map (λ s. s.now) l.next) l.tokens
    × ((other : List ℕ) → stands_in l.names other ≡ stands_in (names_of l.pairs.items) other)

abbrev pub invariant-take_items-items : goal.invariant-take_items-items
invariant-take_items-items l = ItemsSoFar l.more l.fn.tokens l._turn l.items.items l.tokens
