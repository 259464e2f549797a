-- `hello` tells a client what it has to know of the server: the most bytes of a document and of a
-- message, the most statements of a command, and the number of its connection.
use Rattle.std.specs.Prelude.{ℕ, true, codes, Result, Ok}
use Rattle.bson.specs.Tree.{scalar, boolean, Pairs, no_pairs, pair}
use Rattle.path.specs.declared.refusal.Refusal.{Refusal}
use Rattle.database_model.specs.World.{World}
use Rattle.database_model.specs.Refusals.{int}

abbrev pub hello_reply : ℕ → Pairs
hello_reply connection =
    pair (codes "isWritablePrimary") (scalar (boolean true))
    (pair (codes "maxBsonObjectSize") (int 65535)
    (pair (codes "maxMessageSizeBytes") (int 1048576)
    (pair (codes "maxWriteBatchSize") (int 1000)
    (pair (codes "connectionId") (int connection) no_pairs))))

abbrev pub run_hello : World → ℕ → Result (World × Pairs) Refusal
run_hello world connection = Ok (world, hello_reply connection)
