use Rattle.std.proofs.Common.{◌≡◌, drop}
use Rattle.std.specs.Option.{option_map}
use Rattle.bson.specs.Tree.{append_items}
use Rattle.bson.specs.View.{items_of}
use Rattle.driver_replies.specs.Cursors.{wide_ids}
use Rattle.driver_replies.proofs.kills.wide_ids.Given as goal

abbrev pub invariant-ids : goal.invariant-ids
invariant-ids l = option_map (append_items l.wide) (wide_ids (items_of (drop l.id-index l.ids))) ≡ wide_ids (items_of l.ids)
