use Rattle.std.proofs.Common.{ap, ◌∙◌}
use Rattle.bson.specs.View.{tree}
use Rattle.value_order.specs.Classes.{kind_class}
use Rattle.value_order.proofs.ClassLaws.{class-kind}
use Rattle.value_order.proofs.classes.class.Goals as goal

pub returns : goal.returns
returns c = c.class_of.ensures ∙ ap kind_class c.kind.ensures ∙ class-kind (tree c.args.value.now)
