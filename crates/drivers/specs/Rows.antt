-- What is done first with commands, worked by hand.
use Rattle.std.specs.Prelude.{◌≡◌, ℕ, pos, true, false, List, [], ◌∷◌, codes}
use Rattle.bson.specs.Tree.{Tree, scalar, document, array, object_id, null, boolean, int64, Pairs}
use Rattle.bson.specs.Tree.{no_pairs, pair, Items, no_items, item}
use Rattle.driver_replies.specs.Fields.{int, words}
use Rattle.drivers.specs.Handshake.{handshake_reply}
use Rattle.driver_fields.specs.Reasons.{refusal_document}
use Rattle.drivers.specs.Laws.{done}
use Rattle.drivers.specs.declared.server_info.ServerInfo.{ServerInfo}
use Rattle.drivers.specs.declared.step.Step.TheVariants as steps

-- {command: 1, field, $db: "t"}
abbrev pub with : List ℕ → List ℕ → Tree → Pairs
with command name t =
    pair command (int (pos 1)) (pair name t (pair (codes "$db") (words (codes "t")) no_pairs))

abbrev pub without : List ℕ → Pairs
without command = pair command (int (pos 1)) (pair (codes "$db") (words (codes "t")) no_pairs)

abbrev pub one : List ℕ → Tree → Tree
one name t = document (pair name t no_pairs)

-- {explain: {find: "c", field}, verbosity: "queryPlanner", $db: "t"}
abbrev pub explains : List ℕ → Tree → Pairs
explains name t =
    pair (codes "explain")
    (document (pair (codes "find") (words (codes "c")) (pair name t no_pairs)))
    (pair (codes "verbosity") (words (codes "queryPlanner"))
    (pair (codes "$db") (words (codes "t")) no_pairs))

-- {distinct: "c", key, $db: "t"}
abbrev pub asks_distinct : List ℕ → Pairs
asks_distinct key =
    pair (codes "distinct") (words (codes "c"))
    (pair (codes "key") (words key) (pair (codes "$db") (words (codes "t")) no_pairs))

-- {insert: "c", documents, $db: "t"}
abbrev pub inserts : Items → Pairs
inserts documents =
    pair (codes "insert") (words (codes "c"))
    (pair (codes "documents") (array documents)
    (pair (codes "$db") (words (codes "t")) no_pairs))

-- {createIndexes: "c", indexes: [{key: {a: 1}, name: "a_1", more}], $db: "t"}
abbrev pub makes_index : Pairs → Pairs
makes_index more =
    pair (codes "createIndexes") (words (codes "c"))
    (pair (codes "indexes") (array (item
    (document (pair (codes "key") (one (codes "a") (int (pos 1)))
    (pair (codes "name") (words (codes "a_1")) more))) no_items))
    (pair (codes "$db") (words (codes "t")) no_pairs))

-- {update: "c", updates: [{q: {}, u: {}}, {q: {}, u: {}, more}], $db: "t"}
abbrev pub updates_with : Pairs → Pairs
updates_with more =
    pair (codes "update") (words (codes "c"))
    (pair (codes "updates") (array (item (statement no_pairs) (item (statement more) no_items)))
    (pair (codes "$db") (words (codes "t")) no_pairs))
  where
    statement : Pairs → Tree
    statement behind =
        document (pair (codes "q") (document no_pairs)
        (pair (codes "u") (document no_pairs) behind))

-- the object id of the second 5 with the number 256 n + k
abbrev pub id_of : ℕ → ℕ → Tree
id_of n k = scalar (object_id (0 ∷ 0 ∷ 0 ∷ 5 ∷ 0 ∷ 0 ∷ 0 ∷ 0 ∷ 0 ∷ 0 ∷ n ∷ k ∷ []))

-- {a: 1, _id: 0}
abbrev pub a_alone : Pairs
a_alone = pair (codes "a") (int (pos 1)) (pair (codes "_id") (int (pos 0)) no_pairs)

pub record StepRows : Type 0 where
  pub hello : (info : ServerInfo) → done info (without (codes "hello"))
      ≡ steps.Reply (handshake_reply true info)
  pub session : (info : ServerInfo)
      → done info (with (codes "ping") (codes "lsid") (document no_pairs))
      ≡ steps.Ask (without (codes "ping"))
  pub majority : (info : ServerInfo)
      → done info (with (codes "ping") (codes "writeConcern")
      (one (codes "w") (words (codes "majority"))))
      ≡ steps.Ask (without (codes "ping"))
  pub two_servers : (info : ServerInfo)
      → done info (with (codes "ping") (codes "writeConcern") (one (codes "w") (int (pos 2))))
      ≡ steps.Reply
      (refusal_document (pos 2) (codes "BadValue") (codes "docpage is one server: w is 0 or 1"))
  pub snapshot : (info : ServerInfo)
      → done info (with (codes "ping") (codes "readConcern")
      (one (codes "level") (words (codes "snapshot"))))
      ≡ steps.Reply (
      refusal_document (pos 72) (codes "InvalidOptions")
      (codes "field 'readConcern': not supported by docpage")
      )
  pub transaction : (info : ServerInfo)
      → done info (with (codes "insert") (codes "txnNumber") (scalar (int64 (pos 1))))
      ≡ steps.Reply (
      refusal_document (pos 20) (codes "IllegalOperation")
      (codes "docpage has no transactions over several commands and no retryable writes")
      )
  pub no_hint : (info : ServerInfo) → done info (with (codes "count") (codes "hint") (scalar null))
      ≡ steps.Ask (without (codes "count"))
  pub hint : (info : ServerInfo)
      → done info (with (codes "count") (codes "hint") (words (codes "a_1")))
      ≡ steps.Reply (
      refusal_document (pos 72) (codes "InvalidOptions")
      (codes "field 'hint': not supported by docpage")
      )
  pub unknown : (info : ServerInfo) → done info (without (codes "listDatabases"))
      ≡ steps.Reply (
      refusal_document (pos 59) (codes "CommandNotFound")
      (codes "docpage has no command 'listDatabases'")
      )
  pub explain : (info : ServerInfo)
      → done info (explains (codes "singleBatch") (scalar (boolean true)))
      ≡ steps.Ask (
      pair (codes "explain") (one (codes "find") (words (codes "c")))
      (pair (codes "$db") (words (codes "t")) no_pairs)
      )
  pub explain_hint : (info : ServerInfo)
      → done info (explains (codes "hint") (words (codes "a_1")))
      ≡ steps.Reply (
      refusal_document (pos 72) (codes "InvalidOptions")
      (codes "field 'hint': not supported by docpage")
      )
  pub distinct : (info : ServerInfo) → done info (asks_distinct (codes "a.b"))
      ≡ steps.Ask (
      pair (codes "find") (words (codes "c"))
      (pair (codes "filter") (document no_pairs)
      (pair (codes "projection") (document a_alone)
      (pair (codes "$db") (words (codes "t")) no_pairs)))
      )
  pub no_path : (info : ServerInfo) → done info (asks_distinct (codes "a..b"))
      ≡ steps.Reply
      (refusal_document (pos 2) (codes "BadValue") (codes "field 'key': no path"))
  pub insert : (info : ServerInfo)
      → done (record info { ids = record { seconds = 5; number = 255 } })
      (inserts (item (one (codes "a") (int (pos 1))) (item (document a_alone)
      (item (int (pos 3)) (item (document no_pairs) no_items)))))
      ≡ steps.Ask (inserts (
      item (document (pair (codes "_id") (id_of 0 255) (pair (codes "a") (int (pos 1)) no_pairs)))
      (item (document a_alone) (item (int (pos 3)) (item (one (codes "_id") (id_of 1 2)) no_items)))
      ))
  pub background : (info : ServerInfo)
      → done info (makes_index (pair (codes "v") (int (pos 2))
      (pair (codes "background") (scalar (boolean true))
      (pair (codes "sparse") (scalar (boolean false)) no_pairs))))
      ≡ steps.Ask (makes_index no_pairs)
  pub sparse : (info : ServerInfo)
      → done info (makes_index (pair (codes "sparse") (scalar (boolean true)) no_pairs))
      ≡ steps.Reply (
      refusal_document (pos 72) (codes "InvalidOptions")
      (codes "field 'sparse': not supported by docpage")
      )
  pub index_comment : (info : ServerInfo)
      → done info (makes_index (pair (codes "comment") (scalar null) no_pairs))
      ≡ steps.Ask (makes_index (pair (codes "comment") (scalar null) no_pairs))
  pub no_array_filters : (info : ServerInfo)
      → done info (updates_with (pair (codes "hint") (scalar null)
      (pair (codes "arrayFilters") (array no_items) no_pairs)))
      ≡ steps.Ask (updates_with no_pairs)
  pub statement_hint : (info : ServerInfo)
      → done info (updates_with (pair (codes "hint") (words (codes "a_1")) no_pairs))
      ≡ steps.Reply (
      refusal_document (pos 72) (codes "InvalidOptions")
      (codes "field 'hint': not supported by docpage")
      )
  pub get_more : (info : ServerInfo) → done info (without (codes "getMore"))
      ≡ steps.AskOwner (pos 1) (pair (codes "getMore") (scalar (int64 (pos 1)))
      (pair (codes "$db") (words (codes "t")) no_pairs))
