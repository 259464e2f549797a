use Rattle.std.proofs.Common.{sym, subst, ◌∙◌}
use Rattle.bson.specs.Lawful.{IsName}
use Rattle.pipelines.proofs.NameLemmas.{fit_no_zero}
use Rattle.pipelines.proofs.names.FieldName.read.Goals as goal

pub invariant_of-result : goal.invariant_of-result
invariant_of-result c =
    subst IsName (sym c.in_ok-from_str.ensures) (record {
      is_text = c.utf8.name;
      no_zero = fit_no_zero c.args.name.now (sym c.is_unfit.ensures ∙ c.if-is_unfit.false);
    })
