-- The numbers of a command that are its own and no part of a document that is kept, sought or
-- answered (MongoDB manual, database commands). They are told by the place of the document that
-- holds them, and by their name there.
use Rattle.std.specs.Prelude.{Bool, false, not, ◌&&◌, ◌||◌, if◌then◌else◌, ℕ, List, [], ◌∷◌, codes}
use Rattle.std.specs.Str.{bytes_eq}
use Rattle.driver_messages.specs.Seeking.{Place}

-- Directly in the command: how many documents it passes over, takes or answers at once, how long it
-- may take, what stands beside the name of a `ping`. But a cursor's number, beside the name of a
-- `getMore`, was answered as an int64, and is taken as that alone.
abbrev pub is_number_of_command : List ℕ → Bool
is_number_of_command name = not (bytes_eq name (codes "getMore"))

-- In the document of this field: a direction of a sort, what a projection says of a field, the
-- batch of an aggregate's cursor, how many servers are to have a write.
abbrev pub is_number_in : List ℕ → List ℕ → Bool
is_number_in field name =
    bytes_eq field (codes "writeConcern")
    || bytes_eq field (codes "sort") || bytes_eq field (codes "projection")
    || bytes_eq field (codes "cursor") && bytes_eq name (codes "batchSize")

-- in an item of this array: a statement of a delete, a stage of a pipeline
abbrev pub is_number_of_item : List ℕ → List ℕ → Bool
is_number_of_item list name =
    bytes_eq list (codes "deletes") && bytes_eq name (codes "limit")
    || bytes_eq list (codes "pipeline")
    && (bytes_eq name (codes "$skip") || bytes_eq name (codes "$limit"))

-- in the document of this field of an item: the key of an index, a sort or a projection as a stage
abbrev pub is_number_in_item : List ℕ → List ℕ → Bool
is_number_in_item list field =
    bytes_eq list (codes "indexes") && bytes_eq field (codes "key")
    || bytes_eq list (codes "pipeline")
    && (bytes_eq field (codes "$sort") || bytes_eq field (codes "$project"))

abbrev pub is_number_at : Place → List ℕ → Bool
is_number_at [] name = is_number_of_command name
is_number_at (field ∷ []) name = is_number_in field name
is_number_at (list ∷ item ∷ []) name = is_number_of_item list name
is_number_at (list ∷ item ∷ field ∷ []) name = is_number_in_item list field
is_number_at (list ∷ item ∷ field ∷ inner ∷ others) name = false

-- the place in the command that an `explain` holds
abbrev pub explained : Place → Place
explained [] = []
explained (field ∷ names) =
    if bytes_eq field (codes "explain") then names else field ∷ names

unfoldable pub is_own_number : Place → List ℕ → Bool
is_own_number place name = is_number_at (explained place) name
