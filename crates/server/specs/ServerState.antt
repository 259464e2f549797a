-- The connections, and what they and the engine hold: for each open connection its bytes that no
-- message has taken yet, the number of its last reply, and the fault that closed it. Bytes open a
-- connection, and are passed over where a fault closed it; an end makes all of it forgotten.
use Rattle.std.specs.Prelude.{Bool, true, false, ◌&&◌, nat_lt, is_some, ℕ, List, [], ◌∷◌, ◌++◌}
use Rattle.std.specs.Prelude.{Option, Some, None, Result, Ok, Err, suc}
use Rattle.std.specs.Ordering.{nat_cmp}
use Rattle.database_model.specs.World.{World, forget}
use Rattle.entry_model.specs.State.{by_order}
use Rattle.op_msg.specs.declared.fault.FrameFault.{FrameFault}
use Rattle.server.specs.declared.connection.Connection.{Connection}

-- The connections stand in ascending order of their numbers (`are_ascending`, an invariant of the
-- server).
pub record ServerState : Type 0 where
  pub world : World
  pub connections : List Connection

-- the numbers ascend, and each is above this one
abbrev pub are_above : ℕ → List Connection → Bool
are_above low [] = true
are_above low (c ∷ cs) = nat_lt low c.id && are_above c.id cs

abbrev pub are_ascending : List Connection → Bool
are_ascending [] = true
are_ascending (c ∷ cs) = are_above c.id cs

abbrev pub new_connection : ℕ → List ℕ → Connection
new_connection id bytes = record { id = id; frames = bytes; last_reply = 0; fault = None }

-- a connection that a fault closed takes no bytes
abbrev pub add_bytes : Connection → Option FrameFault → List ℕ → Connection
add_bytes connection None bytes = record connection { frames = connection.frames ++ bytes }
add_bytes connection (Some fault) bytes = connection

abbrev pub feed_connections : List Connection → ℕ → List ℕ → List Connection
feed_connections [] id bytes = new_connection id bytes ∷ []
feed_connections (l ∷ ls) id bytes =
    by_order (nat_cmp id l.id) (new_connection id bytes ∷ l ∷ ls) (add_bytes l l.fault bytes ∷ ls)
    (l ∷ feed_connections ls id bytes)

-- Bytes came on a connection. The first ones open it.
abbrev pub fed : ServerState → ℕ → List ℕ → ServerState
fed state id bytes = record state { connections = feed_connections state.connections id bytes }

abbrev pub drop_connection : List Connection → ℕ → List Connection
drop_connection [] id = []
drop_connection (l ∷ ls) id = by_order (nat_cmp id l.id) (l ∷ ls) ls (l ∷ drop_connection ls id)

-- A connection ended: its cursors, its bytes and its count of replies are forgotten.
abbrev pub ended : ServerState → ℕ → ServerState
ended state id =
    record { world = forget state.world id; connections = drop_connection state.connections id }

abbrev pub find_connection : List Connection → ℕ → Option Connection
find_connection [] id = None
find_connection (l ∷ ls) id = by_order (nat_cmp id l.id) None (Some l) (find_connection ls id)

-- a fault closed the connection, and it has not ended
abbrev pub is_closed_in : Option Connection → Bool
is_closed_in None = false
is_closed_in (Some connection) = is_some connection.fault

-- where a connection stands, or would stand
abbrev pub shifted : Result ℕ ℕ → Result ℕ ℕ
shifted (Ok n) = Ok (suc n)
shifted (Err n) = Err (suc n)

abbrev pub place_in : List Connection → ℕ → Result ℕ ℕ
place_in [] id = Err 0
place_in (l ∷ ls) id = by_order (nat_cmp id l.id) (Err 0) (Ok 0) (shifted (place_in ls id))
