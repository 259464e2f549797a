use Rattle.std.proofs.Common.{List, ℕ, ap, ◌∙◌}
use Rattle.bson.specs.Lookup.{stands_in}
use Rattle.bson_bytes.proofs.DistinctLaws.{names_spelled}
use Rattle.bson_bytes.proofs.elements.has_element.Goals as goal

pub returns : goal.returns
returns c =
    c.has_name_in.ensures ∙ ap (λ (ns : List (List ℕ)). stands_in ns c.args.name.now) (names_spelled c.args.elements.now c.requires)
