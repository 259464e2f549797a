-- The names of the server's faults.
use Rattle.std.specs.Prelude.{ℕ, List, codes}
use Rattle.server.specs.declared.connection.FeedFault.{FeedFault}
use Rattle.server.specs.declared.connection.FeedFault.TheVariants as feeds
use Rattle.server.specs.declared.turn.TurnFault.{TurnFault}
use Rattle.server.specs.declared.turn.TurnFault.TheVariants as turns

abbrev pub feed_fault_name : FeedFault → List ℕ
feed_fault_name feeds.Memory = codes "Memory"
feed_fault_name feeds.Closed = codes "Closed"

abbrev pub turn_fault_name : TurnFault → List ℕ
turn_fault_name turns.Stopped = codes "Stopped"
turn_fault_name turns.Memory = codes "Memory"
