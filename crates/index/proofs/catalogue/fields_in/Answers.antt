use Rattle.std.proofs.Common.{sym, ◌∙◌}
use Rattle.index.proofs.CatalogueLemmas.{key_field_more}
use Rattle.index.proofs.catalogue.fields_in.Goals as goal

pub pairs-preserved : goal.pairs-preserved
pairs-preserved c =
    key_field_more c.args.pairs.now c.pairs.pair-index c.pair-item.result c.pairs.fields.items c.push.new.self.items c.in-Some.field _ c.pairs-test.true
    c.pair-item.is (sym c.in_ok-field.ensures ∙ c.in-Some.is) c.in_ok-push-in-Some.ensures.items c.pairs.invariant
