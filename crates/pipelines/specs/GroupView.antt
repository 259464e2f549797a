-- What the types of `$group` as it was read stand for.
use Rattle.std.specs.Prelude.{map, option_map}
use Rattle.bson.specs.View.{tree}
use Rattle.aggregate_model.specs.Expression.{Expression, constant, source}
use Rattle.aggregate_model.specs.Group.{IdField, GroupId, one_value, id_document, GroupField}
use Rattle.aggregate_model.specs.Group.{Grouping, Parts}
use Rattle.pipelines.specs.declared.expression.Expression.{Expression as Made}
use Rattle.pipelines.specs.declared.expression.Expression.TheVariants as expressions
use Rattle.pipelines.specs.declared.grouping.GroupField.{GroupField as MadeField}
use Rattle.pipelines.specs.declared.grouping.GroupId.{GroupId as MadeId}
use Rattle.pipelines.specs.declared.grouping.GroupId.TheVariants as ids
use Rattle.pipelines.specs.declared.grouping.Grouping.{Grouping as Held}
use Rattle.pipelines.specs.declared.grouping.IdField.{IdField as MadeIdField}
use Rattle.pipelines.specs.declared.grouping.Parts.{Parts as Read}

abbrev pub expression_of : Made → Expression
expression_of (expressions.Constant v) = constant (tree v)
expression_of (expressions.Source path) = source path

abbrev pub id_field_of : MadeIdField → IdField
id_field_of f = record { name = f.name; expression = expression_of f.expression }

abbrev pub id_of : MadeId → GroupId
id_of (ids.One e) = one_value (expression_of e)
id_of (ids.Fields fs) = id_document (map id_field_of fs.items)

abbrev pub group_field_of : MadeField → GroupField
group_field_of f = record {
  name = f.name;
  accumulator = f.accumulator;
  expression = expression_of f.expression;
}

abbrev pub grouping_of : Held → Grouping
grouping_of g = record { id = id_of g.id; fields = map group_field_of g.fields.items }

abbrev pub parts_of : Read → Parts
parts_of p = record { id = option_map id_of p.id; fields = map group_field_of p.fields.items }
