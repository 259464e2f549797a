-- What the values of the crate stand for.
use Rattle.std.specs.Prelude.{string_bytes}
use Rattle.command_model.specs.Command as commands
use Rattle.command_model.specs.Insert as inserts
use Rattle.command_model.specs.Insert.{documents_at}
use Rattle.command_model.specs.Find as finds
use Rattle.command_model.specs.GetMore as mores
use Rattle.command_model.specs.KillCursors as kills
use Rattle.command_model.specs.Count as counts
use Rattle.command_model.specs.Delete as deletes
use Rattle.command_model.specs.Update as updates
use Rattle.command_model.specs.Aggregate as aggregates
use Rattle.command_model.specs.Create as creates
use Rattle.command_model.specs.DropCollection as drops
use Rattle.command_model.specs.ListCollections as lists
use Rattle.command_model.specs.CreateIndexes as index_creates
use Rattle.command_model.specs.DropIndexes as index_drops
use Rattle.command_model.specs.ListIndexes as index_lists
use Rattle.command_model.specs.Explain as explains
use Rattle.pipelines.specs.View.{pipeline_of}
use Rattle.commands.specs.declared.insert.Insert.{Insert}
use Rattle.commands.specs.declared.find.Find.{Find}
use Rattle.commands.specs.declared.get_more.GetMore.{GetMore}
use Rattle.commands.specs.declared.kill_cursors.KillCursors.{KillCursors}
use Rattle.commands.specs.declared.count.Count.{Count}
use Rattle.commands.specs.declared.delete.Delete.{Delete}
use Rattle.commands.specs.declared.updates.Update.{Update}
use Rattle.commands.specs.declared.aggregation.Aggregate.{Aggregate}
use Rattle.commands.specs.declared.create.Create.{Create}
use Rattle.commands.specs.declared.drop_collection.DropCollection.{DropCollection}
use Rattle.commands.specs.declared.list_collections.ListCollections.{ListCollections}
use Rattle.commands.specs.declared.create_indexes.CreateIndexes.{CreateIndexes}
use Rattle.commands.specs.declared.drop_indexes.DroppedIndexes.{DroppedIndexes}
use Rattle.commands.specs.declared.drop_indexes.DroppedIndexes.TheVariants as dropped
use Rattle.commands.specs.declared.drop_indexes.DropIndexes.{DropIndexes}
use Rattle.commands.specs.declared.list_indexes.ListIndexes.{ListIndexes}
use Rattle.commands.specs.declared.explain.Explain.{Explain}
use Rattle.commands.specs.declared.command.Command.{Command}
use Rattle.commands.specs.declared.command.Command.TheVariants as cases

abbrev pub insert_read : Insert → inserts.Insert
insert_read c =
    record { namespace = string_bytes c.namespace; documents = documents_at c.documents.items }

abbrev pub find_read : Find → finds.Find
find_read c =
    record { namespace = string_bytes c.namespace; query = c.query; batch_size = c.batch_size }

abbrev pub get_more_read : GetMore → mores.GetMore
get_more_read c =
    record { id = c.id; namespace = string_bytes c.namespace; batch_size = c.batch_size }

abbrev pub kill_cursors_read : KillCursors → kills.KillCursors
kill_cursors_read c =
    record { namespace = string_bytes c.namespace; cursors = c.cursors.items }

abbrev pub count_read : Count → counts.Count
count_read c = record {
  namespace = string_bytes c.namespace;
  filter = c.filter;
  skip = c.skip;
  limit = c.limit;
}

abbrev pub delete_read : Delete → deletes.Delete
delete_read c = record { namespace = string_bytes c.namespace; deletions = c.deletions.items }

abbrev pub update_read : Update → updates.Update
update_read c = record { namespace = string_bytes c.namespace; statements = c.statements.items }

abbrev pub aggregate_read : Aggregate → aggregates.Aggregate
aggregate_read c = record {
  namespace = string_bytes c.namespace;
  pipeline = pipeline_of c.pipeline;
  batch_size = c.batch_size;
}

abbrev pub create_read : Create → creates.Create
create_read c = record { namespace = string_bytes c.namespace }

abbrev pub drop_read : DropCollection → drops.DropCollection
drop_read c = record { namespace = string_bytes c.namespace }

abbrev pub list_collections_read : ListCollections → lists.ListCollections
list_collections_read c = record { database = c.database.now }

abbrev pub create_indexes_read : CreateIndexes → index_creates.CreateIndexes
create_indexes_read c =
    record { namespace = string_bytes c.namespace; indexes = c.indexes.items }

abbrev pub dropped_of : DroppedIndexes → index_drops.DroppedIndexes
dropped_of (dropped.Named name) = index_drops.named name.now
dropped_of dropped.All = index_drops.all

abbrev pub drop_indexes_read : DropIndexes → index_drops.DropIndexes
drop_indexes_read c =
    record { namespace = string_bytes c.namespace; indexes = dropped_of c.indexes }

abbrev pub list_indexes_read : ListIndexes → index_lists.ListIndexes
list_indexes_read c = record { namespace = string_bytes c.namespace }

abbrev pub explain_read : Explain → explains.Explain
explain_read c = record { namespace = string_bytes c.namespace; query = c.query }

abbrev pub command_read : Command → commands.Command
command_read cases.Ping = commands.ping
command_read cases.Hello = commands.hello
command_read (cases.Insert c) = commands.insert (insert_read c)
command_read (cases.Find c) = commands.find (find_read c)
command_read (cases.GetMore c) = commands.get_more (get_more_read c)
command_read (cases.KillCursors c) = commands.kill_cursors (kill_cursors_read c)
command_read (cases.Count c) = commands.count (count_read c)
command_read (cases.Delete c) = commands.delete (delete_read c)
command_read (cases.Update c) = commands.update (update_read c)
command_read (cases.Aggregate c) = commands.aggregate (aggregate_read c)
command_read (cases.Create c) = commands.create (create_read c)
command_read (cases.Drop c) = commands.drop (drop_read c)
command_read (cases.ListCollections c) = commands.list_collections (list_collections_read c)
command_read (cases.CreateIndexes c) = commands.create_indexes (create_indexes_read c)
command_read (cases.DropIndexes c) = commands.drop_indexes (drop_indexes_read c)
command_read (cases.ListIndexes c) = commands.list_indexes (list_indexes_read c)
command_read (cases.Explain c) = commands.explain (explain_read c)
