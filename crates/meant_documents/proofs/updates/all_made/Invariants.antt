use Rattle.std.proofs.Common.{◌≡◌, ◌++◌, drop}
use Rattle.database_model.specs.Merging.{made_by}
use Rattle.meant_documents.proofs.updates.all_made.Given as goal

abbrev pub invariant-statements : goal.invariant-statements
invariant-statements l = l.made.items ++ made_by (drop l.statement-index l.statements) ≡ made_by l.statements
