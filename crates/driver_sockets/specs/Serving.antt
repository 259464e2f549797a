-- What is done with one socket.
use Rattle.std.specs.Prelude.{◌≡◌, ◌≢◌, ℕ, Bool, false, not, ◌&&◌, ◌||◌, is_some, ◌++◌, List, []}
use Rattle.std.specs.Prelude.{length, replicate, slice_index_or, Option, Some, None}
use Rattle.driver_messages.specs.Incoming.{whole_at, is_waiting}
use Rattle.driver_sockets.specs.declared.socket.Socket.{Socket}

-- a socket of which nothing has come
abbrev pub fresh : Socket
fresh = record {
  incoming = [];
  job = None;
  answer = None;
  last_reply = 0;
  is_over = false;
}

abbrev pub fed : Socket → List ℕ → Socket
fed socket bytes = record socket { incoming = socket.incoming ++ bytes }

-- a socket whose answer was handed out
abbrev pub answered : Socket → Socket
answered s = record s { answer = None }

-- a turn would do something with it: a message is worked on, or stands at the front, or a fault
-- does
abbrev pub waits : Socket → Bool
waits socket = not socket.is_over && (is_some socket.job || is_waiting (whole_at socket.incoming))

-- Behind the sockets that there were stand some of which nothing has come.
pub record HaveGrown (old new : List Socket) : Type 0 where
  pub count : ℕ
  pub grown : new ≡ old ++ replicate count fresh

-- All sockets but this one are as they were.
pub record OthersStay (old : List Socket) (socket : Option ℕ) (new : List Socket) : Type 0 where
  pub length : length new ≡ length old
  pub others : (i : ℕ) (any : Socket) → Some i ≢ socket
      → slice_index_or new i any ≡ slice_index_or old i any
