use Rattle.std.proofs.Common.{ap, ◌∙◌}
use Rattle.bson.specs.Lent.{scalar_of}
use Rattle.value_order.specs.Classes.{kind_class}
use Rattle.value_order.proofs.ClassLaws.{scalar_class-kind}
use Rattle.value_order.proofs.classes.class_of_scalar.Goals as goal

pub returns : goal.returns
returns c = c.class_of.ensures ∙ ap kind_class c.kind.ensures ∙ scalar_class-kind (scalar_of c.args.scalar.now)
