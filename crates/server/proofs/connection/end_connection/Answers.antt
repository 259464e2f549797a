use Rattle.std.proofs.Common.{[], List, Ok, Err, sym, ap, ◌∙◌}
use Rattle.server.specs.ServerState.{new_connection, place_in}
use Rattle.server.specs.declared.connection.Connection.{Connection}
use Rattle.server.proofs.Places.{placed}
use Rattle.server.proofs.connection.end_connection.Goals as goal

pub returns-in-Ok : goal.returns-in-Ok
returns-in-Ok c =
    let p = placed c.args.connections.now.items c.args.id (new_connection 0 []) (Ok c.in-Ok.i)
    (c.in-Ok.ensures.place ∙ ap (λ (ls : List Connection). place_in ls c.args.id) c.deref.ensures.value) in
    c.remove-ended.ensures.items ∙ sym p.2

pub returns-in_default : goal.returns-in_default
returns-in_default c =
    let p = placed c.args.connections.now.items c.args.id (new_connection 0 []) (Err c.in_default.field-0)
    (c.in_default.ensures.place ∙ ap (λ (ls : List Connection). place_in ls c.args.id) c.deref.ensures.value) in
    sym p.2
