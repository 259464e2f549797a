use Rattle.std.proofs.Common.{sym, ap, ◌∙◌}
use Rattle.engine.specs.View.{world}
use Rattle.database_model.specs.World.{World, forget}
use Rattle.server.proofs.ConnectionsServed.{forget_all_more}
use Rattle.server.proofs.Images.{still_moment}
use Rattle.server.proofs.serving.forget_closed.Goals as goal

pub closed-preserved : goal.closed-preserved
closed-preserved g c =
    let i = c.closed.id-index in
    let fs = c.args.closed.now in
    let d = c.closed-item.result in
    let inv = c.closed.invariant in
    let call = c.gone in
    record {
      sound = call.ensures.sound;
      disk = call.ensures.disk ∙ inv.disk;
      running = call.ensures.running ∙ inv.running;
      moment = still_moment g.D.Disk.history c.closed.engine call.new.self call.ensures.disk call.ensures.generation call.ensures.takes ∙ inv.moment;
      reads = call.ensures.reads ∙ inv.reads;
      world_is = call.ensures.world ∙ (λ k. forget (inv.world_is k) (c.closed-item.is k).0)
          ∙ sym (forget_all_more (world c.args.engine.now) fs i d c.closed-test.true);
      idle = call.ensures.turn_start ∙ inv.idle ∙ sym (ap (λ (w : World). w.collections) call.ensures.world);
      rested = call.ensures.rested inv.rested;
      has_changes = call.ensures.has_changes ∙ inv.has_changes;
    }
