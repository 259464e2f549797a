use Rattle.std.proofs.Common.{◌≡◌, get_or, [], Ok, Err, true, false, refl, sym, ap, ◌∙◌}
use Rattle.std.specs.Prelude.{Option, Some, None, is_some, not}
use Rattle.std.proofs.lemmas.List.{get_or_default}
use Rattle.op_msg.specs.Frame.{front}
use Rattle.op_msg.specs.Request.{is_waiting}
use Rattle.op_msg.specs.declared.fault.FrameFault.{FrameFault}
use Rattle.server.specs.declared.connection.Connection.{Connection}
use Rattle.server.specs.ServerState.{new_connection}
use Rattle.server.specs.Turn.{is_waiting_in, front_if_open}
use Rattle.server.proofs.Places.{placed}
use Rattle.server.proofs.connection.waits.Goals as goal

pub returns-in-Err : goal.returns-in-Err
returns-in-Err c =
    let p = placed c.args.connections.now c.args.id (new_connection 0 []) (Err c.in-Err.field-0) c.in-Err.ensures.place in
    sym (ap is_waiting_in p.3)

-- what stands at the front of an open connection, and of one that a fault closed
open_waits : (l : Connection) (fault : Option FrameFault) → is_some fault ≡ false → is_waiting (front_if_open fault l.frames) ≡ is_waiting (front l.frames)
open_waits l None e = refl
open_waits l (Some fault) e = absurd cc

closed_waits : (l : Connection) (fault : Option FrameFault) → is_some fault ≡ true → is_waiting (front_if_open fault l.frames) ≡ false
closed_waits l None e = absurd cc
closed_waits l (Some fault) e = refl

pub returns-then-is_none : goal.returns-then-is_none
returns-then-is_none c =
    let ls = c.args.connections.now in
    let l = c.index-connections-i.result in
    let x : Connection = get_or ls c.in-Ok.i l in
    let p = placed ls c.args.id l (Ok c.in-Ok.i) c.in-Ok.ensures.place in
    let clear : is_some x.fault ≡ false = c.is_none.ensures ∙ ap not c.if-is_none.true in
    let same = get_or_default ls c.in-Ok.i c.index-connections-i-then-is_none.result l c.in-Ok.ensures.within in
    c.waiting.ensures ∙ ap (λ (y : Connection). is_waiting (front y.frames)) same ∙ sym (ap is_waiting_in p.3 ∙ open_waits x x.fault clear)

pub returns-else-is_none : goal.returns-else-is_none
returns-else-is_none c =
    let ls = c.args.connections.now in
    let l = c.index-connections-i.result in
    let x : Connection = get_or ls c.in-Ok.i l in
    let p = placed ls c.args.id l (Ok c.in-Ok.i) c.in-Ok.ensures.place in
    let shut : is_some x.fault ≡ true = c.is_none.ensures ∙ ap not c.if-is_none.false in
    c.if-is_none.false ∙ sym (ap is_waiting_in p.3 ∙ closed_waits x x.fault shut)
