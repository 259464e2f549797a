use Rattle.std.proofs.Common.{◌≡◌, length, refl, sym, subst, ap, ◌∙◌, rules}
use Rattle.std.proofs.lemmas.List.{length-map}
use Rattle.std.specs.Prelude.{Result, Err}
use Rattle.roots.specs.declared.store.CommitFault.{CommitFault}
use Rattle.engine.specs.Committing.{CommitsTurn}
use Rattle.op_msg.specs.Request.{respelled}
use Rattle.server.specs.Turn.{connections_taken, refused_frames}
use Rattle.server.specs.Taking.{HaveRoom, full_body, respelled_frames}
use Rattle.server.specs.View.{frames_in}
use Rattle.path.specs.declared.refusal.Refusal.TheVariants.{OutOfMemory, Full}
use Rattle.server.proofs.Refusing.{refused_room, refused_respelled, whole}
use Rattle.server.proofs.TurnEnding.{Begins, Served, undone, done, no_memory, no_room, broken}
use Rattle.server.proofs.serving.run_messages.Goals as goal

pub say_full-requires : goal.say_full-requires
say_full-requires g c =
    let same : frames_in c.deref_mut-in-Err-Full.result.now ≡ refused_frames OutOfMemory c.args.connections.now.items =
    ap frames_in c.deref_mut-in-Err-Full.ensures.value ∙ c.requires.refusals in
    subst HaveRoom (sym same) (refused_room c.args.connections.now.items)

pub returns-then-not-serve_connections : goal.returns-then-not-serve_connections
returns-then-not-serve_connections g c =
    let ls = c.args.connections.now.items in
    let long : length c.serve_connections.new.connections ≡ c.args.connections.now.len = search rules in
    let took = whole c.serve_connections.new.connections _ c.args.connections.now.len long ∙ c.serve_connections.ensures.connections
    ∙ ap connections_taken c.deref_mut.ensures.value in
    let history = g.D.Disk.history in
    let e0 = c.args.engine.now in
    let e1 = c.serve_connections.new.engine in
    let serve = c.serve_connections.ensures in
    let begins : Begins history e0 =
    record { sound = c.requires.sound; running = c.requires.running; idle = c.requires.idle; clean = c.requires.clean } in
    let served : Served history e0 e1 c.serve_connections.result (frames_in c.new-replies.result.items) (frames_in c.serve_connections.new.frames.items) ls =
    subst (Served history e0 e1 c.serve_connections.result (frames_in c.new-replies.result.items) (frames_in c.serve_connections.new.frames.items))
    c.deref_mut.ensures.value
    (record {
      continues = serve.continues;
      sound = serve.sound;
      start = serve.turn_start;
      serves = serve.serves;
      reads = serve.reads;
      idle = serve.idle;
    }) in
    let undid = c.undo_turn.ensures in
    undone history e0 e1 c.undo_turn.new.self begins ls _ _ _ _ served took c.args.refusals c.requires.refusals undid.sound undid.disk
    undid.running undid.generation undid.takes undid.reads undid.world undid.turn_start undid.clean undid.rested

pub returns-in-Ok : goal.returns-in-Ok
returns-in-Ok g c =
    let ls = c.args.connections.now.items in
    let long : length c.serve_connections.new.connections ≡ c.args.connections.now.len = search rules in
    let took = whole c.serve_connections.new.connections _ c.args.connections.now.len long ∙ c.serve_connections.ensures.connections
    ∙ ap connections_taken c.deref_mut.ensures.value in
    let history = g.D.Disk.history in
    let e0 = c.args.engine.now in
    let e1 = c.serve_connections.new.engine in
    let serve = c.serve_connections.ensures in
    let begins : Begins history e0 =
    record { sound = c.requires.sound; running = c.requires.running; idle = c.requires.idle; clean = c.requires.clean } in
    let served : Served history e0 e1 c.serve_connections.result (frames_in c.new-replies.result.items) (frames_in c.serve_connections.new.frames.items) ls =
    subst (Served history e0 e1 c.serve_connections.result (frames_in c.new-replies.result.items) (frames_in c.serve_connections.new.frames.items))
    c.deref_mut.ensures.value
    (record {
      continues = serve.continues;
      sound = serve.sound;
      start = serve.turn_start;
      serves = serve.serves;
      reads = serve.reads;
      idle = serve.idle;
    }) in
    done history e0 e1 c.commit_turn.new.self begins ls _ _ _ _ served took c.serve_connections.new.frames (search rules)
    (ap frames_in c.new-replies.ensures.items) refl
    (subst (λ (r : Result (Unit {0}) CommitFault). CommitsTurn history r e1 c.commit_turn.new.self) c.in-Ok.is c.commit_turn.ensures)

pub returns-in-Err-Memory : goal.returns-in-Err-Memory
returns-in-Err-Memory g c =
    let ls = c.args.connections.now.items in
    let long : length c.serve_connections.new.connections ≡ c.args.connections.now.len = search rules in
    let took = whole c.serve_connections.new.connections _ c.args.connections.now.len long ∙ c.serve_connections.ensures.connections
    ∙ ap connections_taken c.deref_mut.ensures.value in
    let history = g.D.Disk.history in
    let e0 = c.args.engine.now in
    let e1 = c.serve_connections.new.engine in
    let serve = c.serve_connections.ensures in
    let begins : Begins history e0 =
    record { sound = c.requires.sound; running = c.requires.running; idle = c.requires.idle; clean = c.requires.clean } in
    let served : Served history e0 e1 c.serve_connections.result (frames_in c.new-replies.result.items) (frames_in c.serve_connections.new.frames.items) ls =
    subst (Served history e0 e1 c.serve_connections.result (frames_in c.new-replies.result.items) (frames_in c.serve_connections.new.frames.items))
    c.deref_mut.ensures.value
    (record {
      continues = serve.continues;
      sound = serve.sound;
      start = serve.turn_start;
      serves = serve.serves;
      reads = serve.reads;
      idle = serve.idle;
    }) in
    no_memory history e0 e1 c.commit_turn.new.self begins ls _ _ _ _ served took c.args.refusals c.requires.refusals
    (subst (λ (f : CommitFault). CommitsTurn history (Err f) e1 c.commit_turn.new.self) c.in-Err-Memory.field-0-is c.in-Err-Memory.ensures)

pub returns-in-Err-Full : goal.returns-in-Err-Full
returns-in-Err-Full g c =
    let ls = c.args.connections.now.items in
    let long : length c.serve_connections.new.connections ≡ c.args.connections.now.len = search rules in
    let history = g.D.Disk.history in
    let e0 = c.args.engine.now in
    let e1 = c.serve_connections.new.engine in
    let serve = c.serve_connections.ensures in
    let begins : Begins history e0 =
    record { sound = c.requires.sound; running = c.requires.running; idle = c.requires.idle; clean = c.requires.clean } in
    let served : Served history e0 e1 c.serve_connections.result (frames_in c.new-replies.result.items) (frames_in c.serve_connections.new.frames.items) ls =
    subst (Served history e0 e1 c.serve_connections.result (frames_in c.new-replies.result.items) (frames_in c.serve_connections.new.frames.items))
    c.deref_mut.ensures.value
    (record {
      continues = serve.continues;
      sound = serve.sound;
      start = serve.turn_start;
      serves = serve.serves;
      reads = serve.reads;
      idle = serve.idle;
    }) in
    let new = c.say_full.new.frames in
    let first = c.deref_mut-in-Err-Full.result.now in
    let same : frames_in first ≡ refused_frames OutOfMemory ls = ap frames_in c.deref_mut-in-Err-Full.ensures.value ∙ c.requires.refusals in
    let given : frames_in new ≡ refused_frames Full ls = c.say_full.ensures ∙ ap respelled_frames same ∙ refused_respelled ls in
    let counts : length new ≡ length first = sym (length-map new (λ f. (f.0, f.1.items))) ∙ ap length c.say_full.ensures
    ∙ length-map (frames_in first) (λ f. (f.0, respelled f.1 full_body)) ∙ length-map first (λ f. (f.0, f.1.items)) in
    let wide : length new ≡ c.args.refusals.len = search rules in
    let took = whole c.serve_connections.new.connections _ c.args.connections.now.len long ∙ c.serve_connections.ensures.connections
    ∙ ap connections_taken c.deref_mut.ensures.value in
    no_room history e0 e1 c.commit_turn.new.self begins ls _ _ _ _ served took _ (ap frames_in (whole new _ c.args.refusals.len wide) ∙ given)
    (subst (λ (f : CommitFault). CommitsTurn history (Err f) e1 c.commit_turn.new.self) c.in-Err-Full.field-0-is c.in-Err-Full.ensures)

pub returns-in-Err-Device : goal.returns-in-Err-Device
returns-in-Err-Device g c =
    let ls = c.args.connections.now.items in
    let long : length c.serve_connections.new.connections ≡ c.args.connections.now.len = search rules in
    let took = whole c.serve_connections.new.connections _ c.args.connections.now.len long ∙ c.serve_connections.ensures.connections
    ∙ ap connections_taken c.deref_mut.ensures.value in
    let history = g.D.Disk.history in
    let e0 = c.args.engine.now in
    let e1 = c.serve_connections.new.engine in
    let serve = c.serve_connections.ensures in
    let begins : Begins history e0 =
    record { sound = c.requires.sound; running = c.requires.running; idle = c.requires.idle; clean = c.requires.clean } in
    let served : Served history e0 e1 c.serve_connections.result (frames_in c.new-replies.result.items) (frames_in c.serve_connections.new.frames.items) ls =
    subst (Served history e0 e1 c.serve_connections.result (frames_in c.new-replies.result.items) (frames_in c.serve_connections.new.frames.items))
    c.deref_mut.ensures.value
    (record {
      continues = serve.continues;
      sound = serve.sound;
      start = serve.turn_start;
      serves = serve.serves;
      reads = serve.reads;
      idle = serve.idle;
    }) in
    broken history e0 e1 c.commit_turn.new.self begins ls _ _ _ _ served took
    (subst (λ (f : CommitFault). CommitsTurn history (Err f) e1 c.commit_turn.new.self) c.in-Err-Device.field-0-is c.in-Err-Device.ensures)
