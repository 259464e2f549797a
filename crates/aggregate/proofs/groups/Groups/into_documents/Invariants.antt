use Rattle.std.proofs.Common.{◌≡◌, map}
use Rattle.aggregate_model.specs.Each.{behind}
use Rattle.pipelines.specs.GroupView.{group_field_of}
use Rattle.aggregate.specs.Groups.{entry_of, entries_of}
use Rattle.aggregate.specs.Table.{entry_documents}
use Rattle.aggregate.proofs.groups.Groups.into_documents.Given as goal

abbrev pub invariant-groups : goal.invariant-groups
invariant-groups l =
    behind l.given.items (entry_documents (map group_field_of l.fields) (map entry_of l.group-iterator.rest.items))
    ≡ entry_documents (map group_field_of l.fields) (entries_of l.fn.self)
