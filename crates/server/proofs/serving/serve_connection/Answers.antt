use Rattle.std.proofs.Common.{◌≡◌, ℕ, List, [], ◌∷◌, ◌++◌, sym, ◌∙◌, ap, append-nil, refl, rules}
use Rattle.std.specs.Prelude.{Bool, true, false}
use Rattle.engine.specs.View.{world, reply_of}
use Rattle.page.specs.History.{KeepsWord}
use Rattle.engine.specs.Durable.{disk_history, has_changes}
use Rattle.engine.proofs.Continuing.{continues_itself}
use Rattle.server.specs.Causes.{IsCaused}
use Rattle.server.specs.Durable.{engine_moment}
use Rattle.server.specs.Turn.{front_of, frame_unless}
use Rattle.server.specs.View.{frames_in}
use Rattle.server.proofs.CauseLemmas.{rested_still}
use Rattle.server.proofs.Histories.{frames_append}
use Rattle.server.proofs.ConnectionServed.{one_served, one_reads, nothing_served, is_called, taken_link}
use Rattle.server.proofs.serving.serve_connection.Goals as goal

pub returns-then-request-clause-serves : goal.returns-then-request-clause-serves
returns-then-request-clause-serves g c =
    let given = frames_in c.args.frames.now.items in
    let connection = c.args.connection.now in
    let r = c.in-Call.request in
    one_served (KeepsWord (disk_history g.D.Disk.history c.answer-reply.new.engine))
    (IsCaused (engine_moment g.D.Disk.history c.args.engine.now) (engine_moment g.D.Disk.history c.answer-reply.new.engine))
    (has_changes c.answer-reply.new.engine ≡ has_changes c.args.engine.now) (has_changes c.answer-reply.new.engine ≡ false) connection
    c.take_call.new.connection (front_of connection) c.in-Call.number r (world c.args.engine.now) (world c.answer-reply.new.engine)
    (reply_of c.answer-reply.result) true given given c.in-Call.ensures.taken c.answer-reply.ensures.answer c.answer-reply.ensures.quiet
    c.answer-reply.ensures.anyhow
    (rested_still g.D.Disk.history c.args.engine.now c.answer-reply.new.engine c.requires.sound c.answer-reply.ensures.sound
    c.answer-reply.ensures.turn_start c.answer-reply.ensures.keeps)
    (λ e. sym (append-nil given)
    ∙ ap (λ (b : Bool). given ++ frame_unless b connection.id c.in-Call.number r.request_id (reply_of c.answer-reply.result)) (sym c.if-request.true))

pub returns-clause-serves : goal.returns-clause-serves
returns-clause-serves g c =
    let given = frames_in c.args.frames.now.items in
    let connection = c.args.connection.now in
    one_served (KeepsWord (disk_history g.D.Disk.history c.answer-reply.new.engine))
    (IsCaused (engine_moment g.D.Disk.history c.args.engine.now) (engine_moment g.D.Disk.history c.answer-reply.new.engine))
    (has_changes c.answer-reply.new.engine ≡ has_changes c.args.engine.now) (has_changes c.answer-reply.new.engine ≡ false) connection
    c.take_call.new.connection (front_of connection) c.in-Call.number c.in-Call.request (world c.args.engine.now) (world c.answer-reply.new.engine)
    (reply_of c.answer-reply.result) false given given c.in-Call.ensures.taken c.answer-reply.ensures.answer c.answer-reply.ensures.quiet
    c.answer-reply.ensures.anyhow
    (rested_still g.D.Disk.history c.args.engine.now c.answer-reply.new.engine c.requires.sound c.answer-reply.ensures.sound
    c.answer-reply.ensures.turn_start c.answer-reply.ensures.keeps)
    (λ e. absurd cc)

pub returns-in-Ok-clause-serves : goal.returns-in-Ok-clause-serves
returns-in-Ok-clause-serves g c =
    let given = frames_in c.args.frames.now.items in
    let connection = c.args.connection.now in
    let r = c.in-Call.request in
    let reply = reply_of c.answer-reply.result in
    one_served (KeepsWord (disk_history g.D.Disk.history c.answer-reply.new.engine))
    (IsCaused (engine_moment g.D.Disk.history c.args.engine.now) (engine_moment g.D.Disk.history c.answer-reply.new.engine))
    (has_changes c.answer-reply.new.engine ≡ has_changes c.args.engine.now) (has_changes c.answer-reply.new.engine ≡ false) connection
    c.take_call.new.connection (front_of connection) c.in-Call.number r (world c.args.engine.now) (world c.answer-reply.new.engine) reply c.is_ok.result given
    (frames_in c.push.new.self.items) c.in-Call.ensures.taken c.answer-reply.ensures.answer c.answer-reply.ensures.quiet
    c.answer-reply.ensures.anyhow
    (rested_still g.D.Disk.history c.args.engine.now c.answer-reply.new.engine c.requires.sound c.answer-reply.ensures.sound
    c.answer-reply.ensures.turn_start c.answer-reply.ensures.keeps)
    (λ e.
    let put : c.push.new.self.items ≡ c.args.frames.now.items ++ (connection.id, c.in-Ok.bytes) ∷ [] = search rules in
    ap frames_in put ∙ frames_append c.args.frames.now.items ((connection.id, c.in-Ok.bytes) ∷ [])
    ∙ ap (λ (b : List ℕ). given ++ (connection.id, b) ∷ []) c.in-Ok.ensures
    ∙ ap (λ (b : Bool). given ++ frame_unless b connection.id c.in-Call.number r.request_id reply) (sym c.if-request.false))

pub returns-in_default-clause-serves : goal.returns-in_default-clause-serves
returns-in_default-clause-serves g c =
    nothing_served (KeepsWord (disk_history g.D.Disk.history c.args.engine.now))
    (IsCaused (engine_moment g.D.Disk.history c.args.engine.now) (engine_moment g.D.Disk.history c.args.engine.now))
    (has_changes c.args.engine.now ≡ has_changes c.args.engine.now) (has_changes c.args.engine.now ≡ false) c.args.connection.now
    c.take_call.new.connection (front_of c.args.connection.now) c.take_call.result (world c.args.engine.now)
    (frames_in c.args.frames.now.items) refl c.take_call.ensures.taken c.in_default.not-Call

pub returns-in_default-clause-connection : goal.returns-in_default-clause-connection
returns-in_default-clause-connection g c =
    taken_link c.args.connection.now c.take_call.new.connection (front_of c.args.connection.now) c.take_call.result c.take_call.ensures.taken

pub returns-then-request-clause-connection : goal.returns-then-request-clause-connection
returns-then-request-clause-connection g c =
    taken_link c.args.connection.now c.take_call.new.connection (front_of c.args.connection.now) c.take_call.result c.take_call.ensures.taken

pub returns-in-Ok-clause-connection : goal.returns-in-Ok-clause-connection
returns-in-Ok-clause-connection g c =
    taken_link c.args.connection.now c.take_call.new.connection (front_of c.args.connection.now) c.take_call.result c.take_call.ensures.taken

pub returns-clause-connection : goal.returns-clause-connection
returns-clause-connection g c =
    taken_link c.args.connection.now c.take_call.new.connection (front_of c.args.connection.now) c.take_call.result c.take_call.ensures.taken

pub returns-then-request-clause-reads : goal.returns-then-request-clause-reads
returns-then-request-clause-reads g c =
    let connection = c.args.connection.now in
    one_reads (has_changes c.answer-reply.new.engine ≡ has_changes c.args.engine.now) connection c.take_call.new.connection (front_of connection)
    c.in-Call.number c.in-Call.request c.in-Call.ensures.taken c.answer-reply.ensures.reads

pub returns-in-Ok-clause-reads : goal.returns-in-Ok-clause-reads
returns-in-Ok-clause-reads g c =
    let connection = c.args.connection.now in
    one_reads (has_changes c.answer-reply.new.engine ≡ has_changes c.args.engine.now) connection c.take_call.new.connection (front_of connection)
    c.in-Call.number c.in-Call.request c.in-Call.ensures.taken c.answer-reply.ensures.reads

pub returns-clause-reads : goal.returns-clause-reads
returns-clause-reads g c =
    let connection = c.args.connection.now in
    one_reads (has_changes c.answer-reply.new.engine ≡ has_changes c.args.engine.now) connection c.take_call.new.connection (front_of connection)
    c.in-Call.number c.in-Call.request c.in-Call.ensures.taken c.answer-reply.ensures.reads

pub returns-in_default-clause-continues : goal.returns-in_default-clause-continues
returns-in_default-clause-continues g c = continues_itself g.D.Disk.history c.args.engine.now

pub returns-then-request-clause-idle : goal.returns-then-request-clause-idle
returns-then-request-clause-idle g c none =
    absurd (is_called c.args.connection.now c.take_call.new.connection
    (front_of c.args.connection.now) c.in-Call.number c.in-Call.request c.in-Call.ensures.taken none)

pub returns-in-Ok-clause-idle : goal.returns-in-Ok-clause-idle
returns-in-Ok-clause-idle g c none =
    absurd (is_called c.args.connection.now c.take_call.new.connection
    (front_of c.args.connection.now) c.in-Call.number c.in-Call.request c.in-Call.ensures.taken none)

pub returns-clause-idle : goal.returns-clause-idle
returns-clause-idle g c none =
    absurd (is_called c.args.connection.now c.take_call.new.connection
    (front_of c.args.connection.now) c.in-Call.number c.in-Call.request c.in-Call.ensures.taken none)
