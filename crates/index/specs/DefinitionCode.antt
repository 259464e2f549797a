-- That definitions are told apart by lists of numbers.
use Rattle.std.specs.Prelude.{◌≡◌, ℕ, Bool, true, false, List, refl}
use Rattle.std.specs.Coded.{Coded, code_by, coded×, coded_ℕ, coded_bool, coded_list}
use Rattle.value_order.specs.declared.texts.Direction.{Direction}
use Rattle.value_order.specs.declared.texts.Direction.TheVariants as directions
use Rattle.index.specs.Definition.{Field, Definition}

abbrev is_descending : Direction → Bool
is_descending directions.Ascending = false
is_descending directions.Descending = true

abbrev direction_by : Bool → Direction
direction_by false = directions.Ascending
direction_by true = directions.Descending

pub back : (d : Direction) → direction_by (is_descending d) ≡ d
back directions.Ascending = refl
back directions.Descending = refl

abbrev pub direction_code : Coded Direction
direction_code = code_by Bool coded_bool is_descending direction_by back

abbrev pub field_code : Coded Field
field_code =
    code_by (List ℕ × Direction) (coded× (coded_list coded_ℕ) direction_code)
    (λ f. (f.path, f.direction))
    (λ p. record { path = p.0; direction = p.1 }) (λ _. refl)

abbrev pub definition_code : Coded Definition
definition_code =
    code_by (ℕ × (List ℕ × (List Field × (Bool × Bool))))
    (coded× coded_ℕ
    (coded× (coded_list coded_ℕ) (coded× (coded_list field_code) (coded× coded_bool coded_bool))))
    (λ d. (d.number, (d.name, (d.fields, (d.is_unique, d.is_multi)))))
    (λ p. record
    { number = p.0; name = p.1.0; fields = p.1.1.0; is_unique = p.1.1.1.0; is_multi = p.1.1.1.1 })
    (λ _. refl)
