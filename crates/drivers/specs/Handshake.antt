-- What a server answers to a driver's handshake (MongoDB manual, `hello`; mongodb/specifications,
-- mongodb-handshake), to `buildInfo` (MongoDB manual) and to the commands that end or keep sessions
-- (mongodb/specifications, sessions).
use Rattle.std.specs.Prelude.{ℕ, pos, true, false, Bool, List, codes}
use Rattle.bson.specs.Tree.{scalar, date, Pairs, pair}
use Rattle.driver_replies.specs.Fields.{truth, int, words, ok}
use Rattle.drivers.specs.declared.server_info.ServerInfo.{ServerInfo}

-- The name under which the handshake says that the server takes writes.
abbrev pub role : Bool → List ℕ
role true = codes "isWritablePrimary"
role false = codes "ismaster"

-- Wire versions 0 to 8: sessions are told of, streamed replies are not asked for, and counting is
-- by an aggregation.
abbrev pub handshake_reply : Bool → ServerInfo → Pairs
handshake_reply is_hello info =
    pair (codes "helloOk") (truth true)
    (pair (role is_hello) (truth true)
    (pair (codes "maxBsonObjectSize") (int info.most_document_bytes)
    (pair (codes "maxMessageSizeBytes") (int info.most_message_bytes)
    (pair (codes "maxWriteBatchSize") (int (pos 1000))
    (pair (codes "localTime") (scalar (date info.time))
    (pair (codes "connectionId") (int info.connection)
    (pair (codes "minWireVersion") (int (pos 0))
    (pair (codes "maxWireVersion") (int (pos 8))
    (pair (codes "logicalSessionTimeoutMinutes") (int (pos 30))
    (pair (codes "readOnly") (truth false) ok))))))))))

abbrev pub build_reply : Pairs
build_reply = pair (codes "version") (words (codes "4.2.0")) ok
