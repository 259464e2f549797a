use Rattle.sockets.proofs.table.Table.read.Given as goal

abbrev pub invariant-loop : goal.invariant-loop
invariant-loop g l = g.S.Service.is_sound l.service
