use Rattle.std.proofs.Common.{◌≡◌, map, take, drop}
use Rattle.sockets.specs.Handing.{Hands}
use Rattle.front.specs.Fronting.{answers_from}
use Rattle.driver_sockets.specs.Serving.{answered}
use Rattle.front.proofs.front.give_answers.Given as goal

abbrev pub invariant-sockets : goal.invariant-sockets
invariant-sockets g l = record {
  done : take l.number l.sockets ≡ map answered (take l.number l.initial.sockets);
  left : drop l.number l.sockets ≡ drop l.number l.initial.sockets;
  hands : (last : g.row.O.Denot) → Hands g.O.Outlet.is_given (answers_from l.number (drop l.number l.initial.sockets)) l.outlet last
      → Hands g.O.Outlet.is_given (answers_from 0 l.initial.sockets) l.initial.outlet last;
}
