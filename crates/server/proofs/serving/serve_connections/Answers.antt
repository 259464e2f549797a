use Rattle.std.proofs.Common.{◌≡◌, ℕ, suc, ◌+◌, List, ◌++◌, take, drop, set, get_or, false, ◌&&◌, refl, sym, ◌∙◌, ap, subst, arith}
use Rattle.engine.specs.View.{world}
use Rattle.page.specs.History.{KeepsWord}
use Rattle.engine.specs.Durable.{disk_history, has_changes}
use Rattle.engine.proofs.Continuing.{continues_further, continues_itself}
use Rattle.server.specs.Causes.{IsCaused}
use Rattle.server.specs.Durable.{engine_moment}
use Rattle.server.specs.Moment.{Moment, Follows}
use Rattle.server.proofs.CauseLemmas.{follows_itself, goes_follows, caused_wider, rested_before, serves_weaker}
use Rattle.server.specs.Turn.{Call, calls, call_at, front_of, connections_taken, AllRead}
use Rattle.server.specs.Taking.{Serves}
use Rattle.server.specs.View.{frames_in}
use Rattle.server.specs.declared.connection.Connection.{Connection}
use Rattle.server.proofs.ConnectionServed.{none_served}
use Rattle.server.proofs.ConnectionsServed.{serves_on, calls_more, none_next, none_more, links_step, read_at}
use Rattle.server.proofs.serving.serve_connections.Goals as goal

pub connections-init : goal.connections-init
connections-init g c =
    let history = g.D.Disk.history in
    let engine = c.args.engine.now in
    let moment = engine_moment history engine in
    record {
      sound = c.requires.sound;
      continues = continues_itself history engine;
      running = refl;
      serves = none_served (KeepsWord (disk_history history engine)) (IsCaused moment moment) (has_changes engine ≡ has_changes engine)
          (has_changes engine ≡ false) (world engine) (frames_in c.args.frames.now.items) refl;
      done = refl;
      left = refl;
      turn_start = refl;
      idle = λ none. refl;
      reads = λ only. refl;
    }

pub connections-preserved : goal.connections-preserved
connections-preserved g c =
    let i = c.connections.connection-index in
    let first = c.args.connections.now in
    let x = get_or c.connections.connections i c.connection-item.result in
    let is : x ≡ get_or c.connections.connections i x = ap (λ (d : Connection). get_or c.connections.connections i d) c.connection-item.is in
    let inv = c.connections.invariant in
    let call = c.serve_connection-found in
    let s = links_step c.connections.connections first i x call.new.connection
    (omega (arith, c.connections-test.true, c.connections.auto.connections)) inv.done inv.left is call.ensures.connection in
    let next : i + 1 ≡ suc i = omega arith in
    let history = g.D.Disk.history in
    let start : Moment = engine_moment history c.args.engine.now in
    let middle : Moment = engine_moment history c.connections.engine in
    let end : Moment = engine_moment history call.new.engine in
    let before : Follows start middle = goes_follows history c.args.engine.now c.connections.engine inv.continues in
    let after : Follows middle end = goes_follows history c.connections.engine call.new.engine call.ensures.continues in
    let word_before : Type 0 = KeepsWord (disk_history history c.connections.engine) in
    let changes_before : Type 0 = has_changes c.connections.engine ≡ has_changes c.args.engine.now in
    let changes_then : Type 0 = has_changes call.new.engine ≡ has_changes c.connections.engine in
    let changes : Type 0 = has_changes call.new.engine ≡ has_changes c.args.engine.now in
    let rests_before : Type 0 = has_changes c.connections.engine ≡ false in
    let clean : Type 0 = has_changes call.new.engine ≡ false in
    let word_after : Type 0 = KeepsWord (disk_history history call.new.engine) in
    let more : calls (take i first) ++ call_at x (front_of x) ≡ calls (take (i + 1) first) =
    ap (λ (y : Connection). calls (take i first) ++ call_at y (front_of y)) s.same ∙ sym (calls_more first i x s.within) in
    record {
      sound = call.ensures.sound;
      continues = continues_further history c.args.engine.now c.connections.engine call.new.engine inv.continues call.ensures.continues;
      running = call.ensures.running ∙ inv.running;
      serves = subst
          (λ (cs : List Call). Serves word_after (IsCaused start end) changes clean cs (world c.args.engine.now) (world call.new.engine)
          (c.connections.all && call.result) (frames_in c.args.frames.now.items) (frames_in call.new.frames.items)) more
          (serves_on word_after (IsCaused start end) changes_before changes_then changes (λ same then. then ∙ same) rests_before clean
          (rested_before (has_changes c.connections.engine) (has_changes call.new.engine) call.ensures.keeps)
          (calls (take i first)) (call_at x (front_of x)) (world c.args.engine.now) (world c.connections.engine)
          (world call.new.engine) c.connections.all call.result (frames_in c.args.frames.now.items) (frames_in c.connections.frames.items)
          (frames_in call.new.frames.items)
          (serves_weaker (IsCaused start middle) (IsCaused start end)
          (caused_wider start start middle end (follows_itself start) before after) word_after word_before call.ensures.continues.reads.extends.kept
          changes_before rests_before (calls (take i first)) (world c.args.engine.now) (world c.connections.engine) c.connections.all
          (frames_in c.args.frames.now.items)
          (frames_in c.connections.frames.items) inv.serves)
          (serves_weaker (IsCaused middle end) (IsCaused start end) (caused_wider start middle end end before after (follows_itself end)) word_after word_after
          (λ k. k) changes_then clean (call_at x (front_of x)) (world c.connections.engine) (world call.new.engine) call.result
          (frames_in c.connections.frames.items) (frames_in call.new.frames.items) call.ensures.serves));
      done = ap (λ (m : ℕ). take m (set c.connections.connections i call.new.connection)) next ∙ s.done
          ∙ ap (λ (m : ℕ). connections_taken (take m first)) (sym next);
      left = ap (λ (m : ℕ). drop m (set c.connections.connections i call.new.connection)) next ∙ s.left ∙ ap (λ (m : ℕ). drop m first) (sym next);
      turn_start = call.ensures.turn_start ∙ inv.turn_start;
      idle = λ none. call.ensures.idle (none_next (calls (take i first)) (call_at x (front_of x)) (none_more first (i + 1) none more)) ∙ inv.idle none;
      reads = λ only. call.ensures.reads (subst (λ (y : Connection). AllRead (call_at y (front_of y))) (sym s.same) (read_at first i x s.within only))
          ∙ inv.reads only;
    }
