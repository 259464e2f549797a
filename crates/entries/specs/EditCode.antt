-- That edits are told apart by lists of numbers.
use Rattle.std.specs.Prelude.{ℕ, List, Option, refl}
use Rattle.std.specs.Coded.{Coded, code_by, coded×, coded_ℕ, coded_list, coded_option}
use Rattle.tree_model.specs.Keys.{Edit}

abbrev pub edit_code : Coded Edit
edit_code =
    code_by (List ℕ × Option (List ℕ))
    (coded× (coded_list coded_ℕ) (coded_option (coded_list coded_ℕ))) (λ e. (e.key, e.value))
    (λ p. record { key = p.0; value = p.1 }) (λ _. refl)
