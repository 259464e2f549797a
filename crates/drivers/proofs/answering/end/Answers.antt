use Rattle.std.proofs.Common.{◌∙◌, Some, ap, sym, codes}
use Rattle.bson.specs.View.{tree}
use Rattle.bson.specs.declared.value.Value.{Value}
use Rattle.driver_replies.specs.LevelLaws.{inner-levels, cut_is}
use Rattle.drivers.proofs.answering.end.Goals as goal

pub put_cursor-requires-clause-new : goal.put_cursor-requires-clause-new
put_cursor-requires-clause-new c = cut_is c.args.reply.now _ (codes "cursor") c.levels-levels.ensures.lawful c.remove.ensures.rest

pub put_cursor-requires-clause-flat : goal.put_cursor-requires-clause-flat
put_cursor-requires-clause-flat c =
    inner-levels c.args.reply.now _ (codes "cursor") c.levels-levels.ensures.lawful
    (sym c.in-Some-Document.ensures.value ∙ ap (λ (v : Value). Some (tree v)) c.in-Some-Document.field-0-is)
