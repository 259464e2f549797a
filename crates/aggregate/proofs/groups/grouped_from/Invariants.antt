use Rattle.std.proofs.Common.{◌≡◌, [], drop}
use Rattle.pipelines.specs.GroupView.{grouping_of}
use Rattle.aggregate.specs.Groups.{entries_of, IsIndexed}
use Rattle.aggregate.specs.Table.{grouped_from}
use Rattle.aggregate.proofs.groups.grouped_from.Given as goal

abbrev pub invariant-documents : goal.invariant-documents
invariant-documents l = record {
  indexed : IsIndexed l.groups;
  same : grouped_from (grouping_of l.grouping) (drop l.document-index l.documents) (entries_of l.groups) ≡ grouped_from (grouping_of l.grouping) l.documents [];
}
