-- A definition as the catalogue keeps it: a document of its number, its name, its key, and whether
-- it is unique and multikey.
use Rattle.std.specs.Prelude.{ℕ, pos, negsuc, zero, suc, nat_lt, ◌||◌, ◌&&◌, Bool, Option, Some}
use Rattle.std.specs.Prelude.{None, List, [], ◌∷◌, length, codes, if◌then◌else◌, Ok, Err, Result}
use Rattle.std.specs.Option.{option_and_then, option_map}
use Rattle.std.specs.Str.{bytes_eq}
use Rattle.bson.specs.Tree.{Tree, scalar, int32, text, boolean, document, Pairs, no_pairs, pair}
use Rattle.value_order.specs.declared.texts.Direction.{Direction}
use Rattle.value_order.specs.declared.texts.Direction.TheVariants as directions
use Rattle.path.specs.declared.fault.PathFault.{PathFault}
use Rattle.index.specs.Definition.{Field, Definition, key_document}
use Rattle.index.specs.Naming.{field_named}

abbrev pub spelled : Definition → Pairs
spelled d =
    pair (codes "i") (scalar (int32 (pos d.number)))
    (pair (codes "name") (scalar (text d.name))
    (pair (codes "key") (document (key_document d.fields))
    (pair (codes "unique") (scalar (boolean d.is_unique))
    (pair (codes "multi") (scalar (boolean d.is_multi)) no_pairs))))

-- ---- the way back

-- a number that an index may have
abbrev pub index_number : ℕ → Option ℕ
index_number n = if nat_lt n 1 || nat_lt 16 n then None else Some n

abbrev pub number_in : Tree → Option ℕ
number_in (scalar (int32 (pos n))) = index_number n
number_in t = None

-- a name that an index may have
abbrev pub name_in : Tree → Option (List ℕ)
name_in (scalar (text s)) = if nat_lt (length s) 1 || nat_lt 127 (length s) then None else Some s
name_in t = None

abbrev pub truth_in : Tree → Option Bool
truth_in (scalar (boolean b)) = Some b
truth_in t = None

abbrev pub direction_in : Tree → Option Direction
direction_in (scalar (int32 (pos (suc zero)))) = Some directions.Ascending
direction_in (scalar (int32 (negsuc zero))) = Some directions.Descending
direction_in t = None

abbrev pub if_named : Result Field PathFault → Option Field
if_named (Ok f) = Some f
if_named (Err fault) = None

abbrev pub field_in : List ℕ → Tree → Option Field
field_in name t = option_and_then (λ way. if_named (field_named name way)) (direction_in t)

abbrev pub fields_in : Pairs → Option (List Field)
fields_in no_pairs = Some []
fields_in (pair name t ps) =
    option_and_then (λ f. option_map (λ fs. f ∷ fs) (fields_in ps)) (field_in name t)

-- one to four fields
abbrev pub counted : List Field → Option (List Field)
counted fs = if nat_lt (length fs) 1 || nat_lt 4 (length fs) then None else Some fs

abbrev pub key_in : Tree → Option (List Field)
key_in (document ps) = option_and_then counted (fields_in ps)
key_in t = None

abbrev pub all_of : Option ℕ → Option (List ℕ) → Option (List Field) → Option Bool → Option Bool
    → Option Definition
all_of (Some n) (Some s) (Some fs) (Some u) (Some m) =
    Some (record { number = n; name = s; fields = fs; is_unique = u; is_multi = m })
all_of n s fs u m = None

abbrev pub are_names : List ℕ → List ℕ → List ℕ → List ℕ → List ℕ → Bool
are_names i n k u m =
    bytes_eq i (codes "i")
    && (bytes_eq n (codes "name")
    && (bytes_eq k (codes "key") && (bytes_eq u (codes "unique") && bytes_eq m (codes "multi"))))

-- the definition that a document spells, if it spells one
abbrev pub definition_in : Pairs → Option Definition
definition_in (pair i t (pair n v (pair k w (pair u x (pair m y no_pairs))))) =
    if are_names i n k u m
    then all_of (number_in t) (name_in v) (key_in w) (truth_in x) (truth_in y) else None
definition_in ps = None
