use Rattle.std.proofs.Common.{ap, arith}
use Rattle.bson.specs.Lawful.{pairs_levels}
use Rattle.index.proofs.CatalogueLemmas.{key_levels}
use Rattle.index.proofs.definition.IndexSpec.document.Goals as goal

pub put_field-requires-3-clause-flat : goal.put_field-requires-3-clause-flat
put_field-requires-3-clause-flat c = omega (arith, key_levels c.args.self.now.fields, ap pairs_levels c.in_ok-key.ensures)
