use Rattle.std.proofs.Common.{◌≡◌, drop}
use Rattle.cursors.specs.Held.{cursors_of}
use Rattle.database_model.specs.KillCursors.{no_ids, told_apart, has_cursor}
use Rattle.cursors.proofs.kills.tell_apart.Given as goal

abbrev pub invariant-ids : goal.invariant-ids
invariant-ids l =
    told_apart (has_cursor l.connection l.namespace (cursors_of l.cursors)) l.told (drop l.id-index l.ids)
    ≡ told_apart (has_cursor l.connection l.namespace (cursors_of l.cursors)) no_ids l.ids
