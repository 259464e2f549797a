use Rattle.std.proofs.Common.{◌≡◌, drop}
use Rattle.aggregate_model.specs.Each.{behind}
use Rattle.aggregate_model.specs.Project.{all_projected}
use Rattle.pipelines.specs.View.{projecting_of}
use Rattle.aggregate.proofs.projecting.all_projected.Given as goal

abbrev pub invariant-documents : goal.invariant-documents
invariant-documents l =
    behind l.given.items (all_projected (projecting_of l.projecting) (drop l.document-index l.documents))
    ≡ all_projected (projecting_of l.projecting) l.documents
