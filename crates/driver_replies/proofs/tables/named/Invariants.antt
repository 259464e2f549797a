use Rattle.std.proofs.Common.{◌≡◌, drop}
use Rattle.driver_replies.specs.Tables.{named}
use Rattle.driver_replies.proofs.tables.named.Given as goal

abbrev pub invariant-rows : goal.invariant-rows
invariant-rows g l = named (drop l.word-index l.rows) l.name ≡ named l.rows l.name
