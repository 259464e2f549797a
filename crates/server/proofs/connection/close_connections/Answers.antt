use Rattle.std.proofs.Common.{◌≡◌, ℕ, suc, ◌+◌, take, drop, set, get_or, ap, sym, ◌∙◌, arith}
use Rattle.server.specs.Taking.{closed_by, closed_connections, fault_beside}
use Rattle.server.specs.declared.connection.Connection.{Connection}
use Rattle.server.proofs.ConnectionsServed.{close_step}
use Rattle.server.proofs.connection.close_connections.Goals as goal

pub connections-preserved : goal.connections-preserved
connections-preserved c =
    let i = c.connections.i in
    let first = c.args.connections.now in
    let fs = c.args.faults.now in
    let x = get_or c.connections.connections i c.index-connections-i.result in
    let is : x ≡ get_or c.connections.connections i x = ap (λ (d : Connection). get_or c.connections.connections i d) c.index-connections-i.is in
    let new = c.close_connection.new.connection in
    let closed : new ≡ closed_by x (fault_beside fs i) = c.close_connection.ensures ∙ ap (closed_by x) c.fault_beside.ensures in
    let s = close_step c.connections.connections first fs i x new
    (omega (arith, c.connections-test.true, c.connections.auto.connections)) c.connections.invariant.done c.connections.invariant.left is closed in
    let next : i + 1 ≡ suc i = omega arith in
    record {
      done = ap (λ (m : ℕ). take m (set c.connections.connections i new)) next ∙ s.done ∙ ap (λ (m : ℕ). closed_connections (take m first) fs) (sym next);
      left = ap (λ (m : ℕ). drop m (set c.connections.connections i new)) next ∙ s.left ∙ ap (λ (m : ℕ). drop m first) (sym next);
    }
