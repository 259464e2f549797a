use Rattle.std.proofs.Common.{◌∙◌, Some, ap, sym, codes}
use Rattle.bson.specs.View.{tree}
use Rattle.bson.specs.declared.value.Value.{Value}
use Rattle.driver_replies.specs.LevelLaws.{inner-levels}
use Rattle.driver_replies.proofs.upserts.add_id.Goals as goal

pub put_filter-requires : goal.put_filter-requires
put_filter-requires c = record {
  flat =
      inner-levels c.args.statement.now _ (codes "q") c.levels-levels.ensures.lawful
      (sym c.in-Some-Document.ensures.value ∙ ap (λ (v : Value). Some (tree v)) c.in-Some-Document.field-0-is);
}
