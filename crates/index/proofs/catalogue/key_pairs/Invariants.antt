use Rattle.std.proofs.Common.{◌≡◌, drop}
use Rattle.bson.specs.Tree.{append}
use Rattle.bson.specs.View.{pairs_of}
use Rattle.index.specs.Definition.{key_document}
use Rattle.index.proofs.catalogue.key_pairs.Given as goal

abbrev pub invariant-fields : goal.invariant-fields
invariant-fields l = append (pairs_of l.pairs.items) (key_document (drop l.field-index l.fields)) ≡ key_document l.fields
