-- What a new field and a new definition are.
use Rattle.std.specs.Prelude.{ℕ, Bool, false, List, Result, Ok}
use Rattle.outcome.specs.Outcome.{◌>>=◌}
use Rattle.path.specs.Parts.{path_of}
use Rattle.path.specs.declared.fault.PathFault.{PathFault}
use Rattle.value_order.specs.declared.texts.Direction.{Direction}
use Rattle.index.specs.Definition.{Field, Definition}

abbrev pub field_named : List ℕ → Direction → Result Field PathFault
field_named text way = path_of text >>= λ _. Ok (record { path = text; direction = way })

abbrev pub definition_of : ℕ → List ℕ → List Field → Bool → Bool → Definition
definition_of n text fs unique multi =
    record { number = n; name = text; fields = fs; is_unique = unique; is_multi = multi }

-- no document was stored yet
abbrev pub new_definition : ℕ → List ℕ → List Field → Bool → Definition
new_definition n text fs unique = definition_of n text fs unique false
