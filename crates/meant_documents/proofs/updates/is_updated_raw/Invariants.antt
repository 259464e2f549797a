use Rattle.std.proofs.Common.{◌≡◌, drop}
use Rattle.database_model.specs.Merging.{is_updated}
use Rattle.meant_documents.proofs.updates.is_updated_raw.Given as goal

abbrev pub invariant-statements : goal.invariant-statements
invariant-statements l = is_updated (drop l.statement-index l.statements) l.document ≡ is_updated l.statements l.document
