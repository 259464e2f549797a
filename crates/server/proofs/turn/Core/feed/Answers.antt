use Rattle.std.proofs.Common.{◌≡◌, ◌≢◌, ℕ, true, List, Ok, Err, ap, ◌∙◌}
use Rattle.std.specs.Prelude.{Result, OnErr}
use Rattle.server.specs.declared.connection.FeedFault.{FeedFault}
use Rattle.server.specs.declared.connection.FeedFault.TheVariants as faults
use Rattle.engine.specs.View.{world}
use Rattle.server.specs.ServerState.{ServerState, are_ascending, feed_connections}
use Rattle.server.proofs.Ascending.{feed_ascends}
use Rattle.server.specs.declared.connection.Connection.{Connection}
use Rattle.server.proofs.turn.Core.feed.Goals as goal

on_err : {X E P Q : Type 0} (r : Result X E) → (P → Q) → OnErr r P → OnErr r Q
on_err (Ok x) f h = h
on_err (Err e) f h = f h

pub returns-clause-fed : goal.returns-clause-fed
returns-clause-fed g c is =
    let with_links : List Connection → ServerState = λ ls. record { world = world c.args.self.now.engine; connections = ls } in
    ap with_links (c.feed_connection.ensures.fed is)

pub returns-clause-err : goal.returns-clause-err
returns-clause-err g c =
    let with_links : List Connection → ServerState = λ ls. record { world = world c.args.self.now.engine; connections = ls } in
    on_err c.feed_connection.result (λ same. ap with_links same) c.feed_connection.ensures.err

ascends_fed : (r : Result (Unit {0}) FeedFault) (old new : List Connection) (id : ℕ) (bytes : List ℕ) → are_ascending old ≡ true
    → (r ≢ Err faults.Memory → new ≡ feed_connections old id bytes) → OnErr r (new ≡ old) → are_ascending new ≡ true
ascends_fed (Ok x) old new id bytes h fed same = ap are_ascending (fed (λ e. absurd cc)) ∙ feed_ascends old id bytes h
ascends_fed (Err e) old new id bytes h fed same = ap are_ascending same ∙ h

pub returns-clause-sound : goal.returns-clause-sound
returns-clause-sound g c = record {
  engine = c.requires.sound.engine;
  idle = c.requires.sound.idle;
  rested = c.requires.sound.rested;
  clean = c.requires.sound.clean;
  ascending = ascends_fed c.feed_connection.result c.args.self.now.connections.items c.feed_connection.new.connections.items c.args.id c.args.bytes.now
      c.requires.sound.ascending c.feed_connection.ensures.fed c.feed_connection.ensures.err;
}
