use Rattle.std.proofs.Common.{ℕ, List, subst, sym, ap, ◌∙◌}
use Rattle.std.specs.Option.{option_map}
use Rattle.bson.specs.View.{tree}
use Rattle.index.specs.Definition.{IsDefinition}
use Rattle.index.specs.Naming.{definition_of}
use Rattle.index.proofs.CatalogueLemmas.{lawful_parts}
use Rattle.index.proofs.catalogue.of_values.Goals as goal

pub of_parts-requires : goal.of_parts-requires
of_parts-requires c =
    subst (λ (s : List ℕ). IsDefinition (definition_of c.in-Some.number s c.in-Some-2.fields.items c.in-Some-truth_in.is_unique c.in-Some-truth_in-2.is_multi))
    (sym c.in_ok-name.ensures)
    (lawful_parts c.in-Some.number c.in-Some-name_in.name.now c.in-Some-2.fields.items c.in-Some-truth_in.is_unique c.in-Some-truth_in-2.is_multi
    (tree c.args.number.now) (tree c.args.name.now) (tree c.args.key.now) (sym c.in-Some.ensures) (sym c.in-Some-name_in.ensures)
    (sym (ap (option_map (λ v. v.items)) (sym c.in-Some-2.is) ∙ c.in_ok-fields.ensures)) c.requires.named c.requires.keyed)
