use Rattle.std.proofs.Common.{◌≡◌, ℕ, ◌++◌, [], List, Ok, Err, refl, sym, ap, ◌∙◌, insert, set, rules, true, false, None, get_or, is_some}
use Rattle.std.specs.Prelude.{Option, Some}
use Rattle.op_msg.specs.declared.fault.FrameFault.{FrameFault}
use Rattle.server.specs.ServerState.{new_connection, add_bytes, place_in, is_closed_in}
use Rattle.server.specs.declared.connection.Connection.{Connection}
use Rattle.server.proofs.Places.{placed}
use Rattle.server.proofs.connection.feed_connection.Goals as goal

pub returns-else-is_err-2-clause-fed : goal.returns-else-is_err-2-clause-fed
returns-else-is_err-2-clause-fed c other =
    let ls = c.args.connections.now.items in
    let p = placed ls c.args.id (new_connection 0 []) (Err c.in-Err.i)
    (c.in-Err.ensures.place ∙ ap (λ (ks : List Connection). place_in ks c.args.id) c.deref.ensures.value) in
    let put : c.insert.new.self.items ≡ insert ls c.in-Err.i (record { id = c.args.id; frames = c.feed-in-Err.new.self; last_reply = 0; fault = None }) =
    search rules in
    let bytes : c.feed-in-Err.new.self ≡ c.args.bytes.now = search rules in
    put ∙ ap (λ (b : List ℕ). insert ls c.in-Err.i (new_connection c.args.id b)) bytes ∙ sym (p.1 c.args.bytes.now)

pub returns-then-is_some-clause-closed : goal.returns-then-is_some-clause-closed
returns-then-is_some-clause-closed c _ =
    let ls = c.args.connections.now.items in
    let p = placed ls c.args.id c.index_mut-connection.result.now (Ok c.in-Ok.i)
    (c.in-Ok.ensures.place ∙ ap (λ (ks : List Connection). place_in ks c.args.id) c.deref.ensures.value) in
    let here : get_or ls c.in-Ok.i c.index_mut-connection.result.now ≡ c.index_mut-connection.result.now = search rules in
    sym (ap is_closed_in p.3 ∙ ap (λ (l : Connection). is_some l.fault) here ∙ search rules)

pub returns-else-is_err-2-clause-closed : goal.returns-else-is_err-2-clause-closed
returns-else-is_err-2-clause-closed c _ =
    let p = placed c.args.connections.now.items c.args.id (new_connection 0 []) (Err c.in-Err.i)
    (c.in-Err.ensures.place ∙ ap (λ (ks : List Connection). place_in ks c.args.id) c.deref.ensures.value) in
    sym (ap is_closed_in p.3)

-- a connection that a fault closed takes no bytes, and an open one adds them
closed_same : (l : Connection) (fault : Option FrameFault) (bytes : List ℕ) → is_some fault ≡ true → add_bytes l fault bytes ≡ l
closed_same l None bytes e = absurd cc
closed_same l (Some fault) bytes e = refl

open_adds : (l : Connection) (fault : Option FrameFault) (bytes : List ℕ) → is_some fault ≡ false
    → add_bytes l fault bytes ≡ record l { frames = l.frames ++ bytes }
open_adds l None bytes e = refl
open_adds l (Some fault) bytes e = absurd cc

pub returns-then-is_some-clause-fed : goal.returns-then-is_some-clause-fed
returns-then-is_some-clause-fed c _ =
    let ls = c.args.connections.now.items in
    let l = c.index_mut-connection.result.now in
    let p = placed ls c.args.id l (Ok c.in-Ok.i) (c.in-Ok.ensures.place ∙ ap (λ (ks : List Connection). place_in ks c.args.id) c.deref.ensures.value) in
    let here : get_or ls c.in-Ok.i l ≡ l = search rules in
    let shut : is_some l.fault ≡ true = search rules in
    sym (p.1 c.args.bytes.now ∙ ap (λ (x : Connection). set ls c.in-Ok.i (add_bytes x x.fault c.args.bytes.now)) here
    ∙ ap (set ls c.in-Ok.i) (closed_same l l.fault c.args.bytes.now shut))

pub returns-in-Ok-feed-clause-fed : goal.returns-in-Ok-feed-clause-fed
returns-in-Ok-feed-clause-fed c _ =
    let ls = c.args.connections.now.items in
    let l = c.index_mut-connection.result.now in
    let p = placed ls c.args.id l (Ok c.in-Ok.i) (c.in-Ok.ensures.place ∙ ap (λ (ks : List Connection). place_in ks c.args.id) c.deref.ensures.value) in
    let here : get_or ls c.in-Ok.i l ≡ l = search rules in
    let clear : is_some l.fault ≡ false = search rules in
    let bytes : c.feed.new.self ≡ l.frames ++ c.args.bytes.now = search rules in
    ap (λ (b : List ℕ). set ls c.in-Ok.i (record l { frames = b })) bytes
    ∙ sym (p.1 c.args.bytes.now ∙ ap (λ (x : Connection). set ls c.in-Ok.i (add_bytes x x.fault c.args.bytes.now)) here
    ∙ ap (set ls c.in-Ok.i) (open_adds l l.fault c.args.bytes.now clear))

pub returns-in-Ok-feed-clause-closed : goal.returns-in-Ok-feed-clause-closed
returns-in-Ok-feed-clause-closed c _ =
    let ls = c.args.connections.now.items in
    let l = c.index_mut-connection.result.now in
    let p = placed ls c.args.id l (Ok c.in-Ok.i) (c.in-Ok.ensures.place ∙ ap (λ (ks : List Connection). place_in ks c.args.id) c.deref.ensures.value) in
    let here : get_or ls c.in-Ok.i l ≡ l = search rules in
    let clear : is_some l.fault ≡ false = search rules in
    sym (ap is_closed_in p.3 ∙ ap (λ (x : Connection). is_some x.fault) here ∙ clear)
