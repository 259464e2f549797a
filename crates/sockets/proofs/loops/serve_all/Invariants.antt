use Rattle.sockets.proofs.loops.serve_all.Given as goal

abbrev pub invariant-loop : goal.invariant-loop
invariant-loop g l = g.S.Service.is_sound l.service
