use Rattle.std.proofs.Common.{◌∙◌, sym, ap, List}
use Rattle.std.proofs.lemmas.List.{drop_all}
use Rattle.bson.specs.Tree.{append}
use Rattle.bson.specs.EditPlaces.{append-none}
use Rattle.bson.specs.View.{pairs_of}
use Rattle.index.specs.Definition.{Field, direction_value, key_document}
use Rattle.index.proofs.CatalogueLemmas.{pair_more}
use Rattle.index.proofs.catalogue.key_pairs.Goals as goal

pub fields-preserved : goal.fields-preserved
fields-preserved c =
    pair_more c.args.fields.now c.fields.field-index c.field-item.result c.fields.pairs.items c.push.new.self.items _
    (key_document c.args.fields.now) c.fields-test.true c.field-item.is c.in_ok-push.ensures.items
    (c.in_ok-from_str.ensures ∙ c.text.ensures.text) (c.direction_value.ensures ∙ ap direction_value c.direction.ensures) c.fields.invariant

pub returns : goal.returns
returns c =
    sym (append-none (pairs_of c.fields.pairs.items))
    ∙ ap (λ (fs : List Field). append (pairs_of c.fields.pairs.items) (key_document fs))
    (sym (drop_all c.fields.field-index c.args.fields.now c.fields-test.false))
    ∙ c.fields.invariant
