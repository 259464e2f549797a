-- What is left of a server whose engine was only read.
use Rattle.std.proofs.Common.{◌≡◌, ap, subst, sym, true, ◌∙◌}
use Rattle.page.specs.History.{History}
use Rattle.trusted_disk.specs.Trusting.{trusted_history}
use Rattle.trusted_disk.specs.declared.disk.TrustedDisk.{TrustedDisk}
use Rattle.engine.specs.Looking.{LeavesAll}
use Rattle.engine.proofs.OnlyReading.{world_left}
use Rattle.opening.specs.TurnStates.{TurnStates}
use Rattle.database_model.specs.World.{World, are_untouched}
use Rattle.engine.specs.declared.engine.Engine.{Engine}
use Rattle.server.specs.Durable.{IsSound}
use Rattle.server.specs.ServerState.{ServerState}
use Rattle.server.specs.View.{state}
use Rattle.server.specs.declared.turn.Core.{Core}

module _ {D : Type 0} (history : D → History) (old : Core D) (engine : Engine (TrustedDisk D))
    (reads : LeavesAll (trusted_history history) old.engine engine) where
  pub sound_read : IsSound history old → IsSound history (record old { engine = engine })
  sound_read h = record {
    engine = reads.sound;
    idle = ap (λ (t : TurnStates). t.start) reads.told ∙ h.idle ∙ sym (ap (λ (t : TurnStates). t.now) reads.told);
    rested = subst (λ (w : World). are_untouched w.cursors ≡ true) (sym (world_left (trusted_history history) old.engine engine reads)) h.rested;
    clean = reads.changes ∙ h.clean;
    ascending = h.ascending;
  }

  pub state_read : state (record old { engine = engine }) ≡ state old
  state_read = let extends : World → ServerState = λ w. record { world = w; connections = old.connections.items } in
      ap extends (world_left (trusted_history history) old.engine engine reads)
