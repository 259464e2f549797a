-- The command that a body spells, or its first refusal. The body's first name says which command it
-- is: an unknown one goes first, then the value of that name, then the fields in the order written,
-- then a missing field, then the namespace.
use Rattle.std.specs.Prelude.{◌≤◌, if◌then◌else◌, All, codes, length, Result, Ok, Err}
use Rattle.std.specs.Str.{bytes_eq}
use Rattle.bson.specs.Tree.{Pairs, no_pairs, pair}
use Rattle.outcome.specs.Outcome.{◌>>=◌}
use Rattle.path.specs.declared.refusal.Refusal.{Refusal}
use Rattle.path.specs.declared.refusal.Refusal.TheVariants as refusals
use Rattle.command_model.specs.Ping.{read_ping}
use Rattle.command_model.specs.Hello.{read_hello}
use Rattle.command_model.specs.Insert.{Insert, read_insert}
use Rattle.command_model.specs.Find.{Find, read_find}
use Rattle.command_model.specs.GetMore.{GetMore, read_get_more}
use Rattle.command_model.specs.KillCursors.{KillCursors, read_kill_cursors}
use Rattle.command_model.specs.Count.{Count, read_count}
use Rattle.command_model.specs.Delete.{Delete, read_delete}
use Rattle.command_model.specs.Aggregate.{Aggregate, read_aggregate}
use Rattle.command_model.specs.Create.{Create, read_create}
use Rattle.command_model.specs.DropCollection.{DropCollection, read_drop}
use Rattle.command_model.specs.ListCollections.{ListCollections, read_list_collections}
use Rattle.command_model.specs.CreateIndexes.{CreateIndexes, read_create_indexes}
use Rattle.command_model.specs.NewIndex.{IsShortNewIndex}
use Rattle.command_model.specs.DropIndexes.{DropIndexes, read_drop_indexes}
use Rattle.command_model.specs.ListIndexes.{ListIndexes, read_list_indexes}
use Rattle.command_model.specs.Explain.{Explain, read_explain}
use Rattle.command_model.specs.Update.{UpdateStatement, Update, read_update_command, IsRead}

pub data Command : Type 0 where
  ping : Command
  hello : Command
  insert : Insert → Command
  find : Find → Command
  get_more : GetMore → Command
  kill_cursors : KillCursors → Command
  count : Count → Command
  delete : Delete → Command
  update : Update → Command
  aggregate : Aggregate → Command
  create : Create → Command
  drop : DropCollection → Command
  list_collections : ListCollections → Command
  create_indexes : CreateIndexes → Command
  drop_indexes : DropIndexes → Command
  list_indexes : ListIndexes → Command
  explain : Explain → Command

-- what was read, as a command
abbrev pub as_command : {X : Type 0} → (X → Command) → Result X Refusal → Result Command Refusal
as_command make read = read >>= (λ x. Ok (make x))

-- the table of commands
unfoldable pub command_of : Pairs → Result Command Refusal
command_of no_pairs = Err refusals.CommandNotFound
command_of (pair name t ps) =
    if bytes_eq name (codes "ping") then as_command (λ _. ping) (read_ping t ps) else
    if bytes_eq name (codes "hello") then as_command (λ _. hello) (read_hello t ps) else
    if bytes_eq name (codes "insert") then as_command insert (read_insert t ps) else
    if bytes_eq name (codes "find") then as_command find (read_find t ps) else
    if bytes_eq name (codes "getMore") then as_command get_more (read_get_more t ps) else
    if bytes_eq name (codes "killCursors")
    then as_command kill_cursors (read_kill_cursors t ps) else
    if bytes_eq name (codes "count") then as_command count (read_count t ps) else
    if bytes_eq name (codes "delete") then as_command delete (read_delete t ps) else
    if bytes_eq name (codes "update") then as_command update (read_update_command t ps) else
    if bytes_eq name (codes "aggregate") then as_command aggregate (read_aggregate t ps) else
    if bytes_eq name (codes "create") then as_command create (read_create t ps) else
    if bytes_eq name (codes "drop") then as_command drop (read_drop t ps) else
    if bytes_eq name (codes "listCollections")
    then as_command list_collections (read_list_collections t ps) else
    if bytes_eq name (codes "createIndexes")
    then as_command create_indexes (read_create_indexes t ps) else
    if bytes_eq name (codes "dropIndexes")
    then as_command drop_indexes (read_drop_indexes t ps) else
    if bytes_eq name (codes "listIndexes")
    then as_command list_indexes (read_list_indexes t ps) else
    if bytes_eq name (codes "explain") then as_command explain (read_explain t ps) else
    Err refusals.CommandNotFound

-- What a command that was read keeps: a namespace of at most 255 bytes, and from 1 to 1,000
-- documents, statements, cursors or indexes, of which each is within its limits.
abbrev pub IsBounded : Command → Type 0
IsBounded ping = Unit {0}
IsBounded hello = Unit {0}
IsBounded (insert c) =
    (length c.namespace ≤ 255) × (length c.documents ≤ 1000) × (1 ≤ length c.documents)
IsBounded (find c) = length c.namespace ≤ 255
IsBounded (get_more c) = length c.namespace ≤ 255
IsBounded (kill_cursors c) = length c.cursors ≤ 1000
IsBounded (count c) = Unit {0}
IsBounded (delete c) = Unit {0}
IsBounded (update c) =
    (length c.namespace ≤ 255) × (length c.statements ≤ 1000)
    × All (λ (s : UpdateStatement). IsRead s.change) c.statements
IsBounded (aggregate c) = length c.namespace ≤ 255
IsBounded (create c) = length c.namespace ≤ 255
IsBounded (drop c) = length c.namespace ≤ 255
IsBounded (list_collections c) = length c.database ≤ 63
IsBounded (create_indexes c) =
    (length c.namespace ≤ 255) × (1 ≤ length c.indexes) × All IsShortNewIndex c.indexes
IsBounded (drop_indexes c) = length c.namespace ≤ 255
IsBounded (list_indexes c) = length c.namespace ≤ 255
IsBounded (explain c) = Unit {0}
