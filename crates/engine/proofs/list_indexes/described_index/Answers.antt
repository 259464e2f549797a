use Rattle.std.proofs.Common.{ap, arith}
use Rattle.bson.specs.Lawful.{pairs_levels}
use Rattle.index.proofs.CatalogueLemmas.{key_levels}
use Rattle.engine.proofs.list_indexes.described_index.Goals as goal

pub described_document-requires : goal.described_document-requires
described_document-requires c = omega (arith, ap pairs_levels c.in_ok-key.ensures, key_levels c.args.index.now.fields)
