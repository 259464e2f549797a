use Rattle.std.proofs.Common.{drop}
use Rattle.sockets.specs.Handing.{Closes}
use Rattle.front.specs.Fronting.{closed_from}
use Rattle.front.proofs.front.close_sockets.Given as goal

abbrev pub invariant-sockets : goal.invariant-sockets
invariant-sockets g l =
    (last : g.row.O.Denot) → Closes g.O.Outlet.is_closed (closed_from l.number (drop l.number l.sockets)) l.outlet last
    → Closes g.O.Outlet.is_closed (closed_from 0 l.sockets) l.initial.outlet last
