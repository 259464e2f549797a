use Rattle.std.proofs.Common.{◌≡◌, drop}
use Rattle.bson.specs.Tree.{append_items}
use Rattle.database_model.specs.KillCursors.{id_items}
use Rattle.cursors.proofs.kills.id_array.Given as goal

abbrev pub invariant-ids : goal.invariant-ids
invariant-ids l = append_items l.array (id_items (drop l.id-index l.ids)) ≡ id_items l.ids
