use Rattle.std.proofs.Common.{ℕ, List, [], ◌∷◌, ◌++◌, take, sym, ap, ◌∙◌}
use Rattle.std.specs.Prelude.{Option}
use Rattle.path.specs.declared.refusal.Refusal.TheVariants.{OutOfMemory}
use Rattle.op_msg.specs.declared.fault.FrameFault.{FrameFault}
use Rattle.server.specs.Turn.{front_of, faults, fault_at, refused_frames}
use Rattle.server.specs.Taking.{refused_at, fault_in, faults_in}
use Rattle.server.specs.declared.connection.Connection.{Connection}
use Rattle.server.proofs.ConnectionsServed.{refused_more, faults_more, faults_in-more}
use Rattle.server.proofs.preparing.prepare.Goals as goal

pub connections-preserved : goal.connections-preserved
connections-preserved c =
    let i = c.connections.connection-index in
    let ls = c.args.connections.now in
    let d = c.connection-item.result in
    let call = c.in_ok-prepare_connection.ensures in
    let inv = c.connections.invariant in
    record {
      refusals = call.refusals ∙ ap (λ (fs : List (ℕ × List ℕ)). fs ++ refused_at OutOfMemory d (front_of d)) inv.refusals
          ∙ ap (λ (l : Connection). refused_frames OutOfMemory (take i ls) ++ refused_at OutOfMemory l (front_of l)) c.connection-item.is
          ∙ sym (refused_more OutOfMemory ls i d c.connections-test.true);
      closed = call.closed ∙ ap (λ (fs : List (ℕ × FrameFault)). fs ++ fault_at d (front_of d)) inv.closed
          ∙ ap (λ (l : Connection). faults (take i ls) ++ fault_at l (front_of l)) c.connection-item.is ∙ sym (faults_more ls i d c.connections-test.true);
      faults = call.faults ∙ ap (λ (fs : List (Option FrameFault)). fs ++ fault_in (front_of d) ∷ []) inv.faults
          ∙ ap (λ (l : Connection). faults_in (take i ls) ++ fault_in (front_of l) ∷ []) c.connection-item.is
          ∙ sym (faults_in-more ls i d c.connections-test.true);
    }
