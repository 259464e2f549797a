-- That indexes to be made are told apart by lists of numbers.
use Rattle.std.specs.Prelude.{ℕ, Bool, List, refl}
use Rattle.std.specs.Coded.{Coded, code_by, coded×, coded_ℕ, coded_bool, coded_list}
use Rattle.index.specs.Definition.{Field}
use Rattle.index.specs.DefinitionCode.{field_code}
use Rattle.command_model.specs.NewIndex.{NewIndex}

abbrev pub new_index_code : Coded NewIndex
new_index_code =
    code_by (List ℕ × (List Field × Bool))
    (coded× (coded_list coded_ℕ) (coded× (coded_list field_code) coded_bool))
    (λ i. (i.name, (i.fields, i.is_unique)))
    (λ p. record { name = p.0; fields = p.1.0; is_unique = p.1.1 })
    (λ _. refl)
