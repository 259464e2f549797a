use Rattle.std.proofs.Common.{◌≡◌, Some, ap, arith, codes, sym, ◌∙◌}
use Rattle.bson.specs.Lawful.{pairs_levels}
use Rattle.bson.specs.Lookup.{lookup}
use Rattle.bson.specs.Tree.{document}
use Rattle.bson.specs.View.{tree}
use Rattle.bson.specs.declared.value.Value.{Value}
use Rattle.driver_fields.specs.declared.cleaning.Whose.TheVariants as whoses
use Rattle.driver_fields.specs.declared.command.Asked.TheVariants as askeds
use Rattle.driver_fields.proofs.CleaningLemmas.{own-levels}
use Rattle.driver_replies.specs.LevelLaws.{inner-levels}
use Rattle.drivers.proofs.starting.ask_explain.Goals as goal

pub set-requires-clause-flat : goal.set-requires-clause-flat
set-requires-clause-flat c =
    let find = c.in-Some-Document.find in
    let there : lookup c.args.body (codes "explain") ≡ Some (document find) =
    sym c.in-Some-Document.ensures ∙ ap (λ (v : Value). Some (tree v)) c.in-Some-Document.field-0-is in
    omega (
      arith,
      ap pairs_levels c.kept-find.ensures,
      ap pairs_levels c.in_ok-copy.ensures,
      own-levels (whoses.Command askeds.Find) c.in_ok-copy.field-0,
      inner-levels c.args.body find (codes "explain") c.levels-levels.ensures.lawful there,
    )
