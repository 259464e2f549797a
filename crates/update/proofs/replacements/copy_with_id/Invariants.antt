use Rattle.std.proofs.Common.{◌≡◌, drop}
use Rattle.std.specs.Prelude.{option_map}
use Rattle.bson.specs.Tree.{append}
use Rattle.bson.specs.View.{tree, pairs_of}
use Rattle.update_model.specs.Stored.{id_name, without, first_pair}
use Rattle.update.proofs.replacements.copy_with_id.Given as goal

abbrev pub invariant-pairs : goal.invariant-pairs
invariant-pairs l =
    append (pairs_of l.pairs.items) (without (pairs_of (drop l.pair-index l.pair-items)) id_name)
    ≡ first_pair id_name (option_map (λ v. tree v.now) l.fn.id) (without l.new id_name)
