-- What accumulators have of the values so far.
use Rattle.std.specs.Prelude.{option_map}
use Rattle.bson.specs.View.{tree, items_of}
use Rattle.aggregate_model.specs.Accumulators.{State, total, least, greatest, first, last, pushed}
use Rattle.aggregate.specs.declared.accumulators.State.{State as Has}
use Rattle.aggregate.specs.declared.accumulators.State.TheVariants as states
use Rattle.aggregate.specs.declared.accumulators.Total.{Total}

abbrev pub total_of : Total → State
total_of t = total t.narrow t.sum

abbrev pub state_of : Has → State
state_of (states.Total t) = total_of t
state_of (states.Least o) = least (option_map tree o)
state_of (states.Greatest o) = greatest (option_map tree o)
state_of (states.First o) = first (option_map tree o)
state_of (states.Last o) = last (option_map tree o)
state_of (states.Push vs) = pushed (items_of vs.items)
