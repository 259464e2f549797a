use Rattle.std.proofs.Common.{subst, sym, ap, ◌∙◌}
use Rattle.bson.specs.Tree.{Pairs}
use Rattle.bson.specs.Lawful.{IsDocument}
use Rattle.index.specs.Definition.{key_document}
use Rattle.index.proofs.CatalogueLemmas.{key_is_document}
use Rattle.index.proofs.definition.IndexSpec.key.Goals as goal

pub from_pairs-requires : goal.from_pairs-requires
from_pairs-requires c =
    subst (λ (ps : Pairs). IsDocument ps) (sym (c.in_ok-key_pairs.ensures ∙ ap key_document c.fields.ensures.fields))
    (key_is_document c.args.self.now.fields c.fields.ensures.lawful.fields)
