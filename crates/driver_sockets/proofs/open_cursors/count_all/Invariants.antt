use Rattle.std.proofs.Common.{◌≡◌, drop}
use Rattle.driver_sockets.specs.Cursors.{counts_from}
use Rattle.driver_sockets.proofs.open_cursors.count_all.Given as goal

abbrev pub invariant-cursors : goal.invariant-cursors
invariant-cursors l = counts_from l.initial.counts l.list ≡ counts_from l.counts (drop l.number l.list)
