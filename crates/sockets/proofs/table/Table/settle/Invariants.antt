use Rattle.sockets.proofs.table.Table.settle.Given as goal

abbrev pub invariant-loop : goal.invariant-loop
invariant-loop g l = g.S.Service.is_sound l.service
