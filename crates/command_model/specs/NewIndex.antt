-- An index to be made: what a document of `createIndexes` spells (MongoDB manual, "createIndexes").
use Rattle.std.specs.Prelude.{ℕ, zero, suc, ℤ, pos, negsuc, ◌==◌, ◌||◌, ◌≤◌, nat_lt, Bool, false}
use Rattle.std.specs.Prelude.{if◌then◌else◌, List, [], ◌∷◌, ◌++◌, length, codes, IsUtf8, Option}
use Rattle.std.specs.Prelude.{Some, None, IfSome, Result, Ok, Err}
use Rattle.std.specs.List.{AllByRecursion, list_any}
use Rattle.std.specs.Str.{bytes_eq}
use Rattle.bson.specs.Tree.{Tree, scalar, int32, int64, Pairs}
use Rattle.bson.specs.Lawful.{IsPairs}
use Rattle.outcome.specs.Outcome.{◌>>=◌, unless, or_refused}
use Rattle.path.specs.declared.refusal.Refusal.{Refusal}
use Rattle.path.specs.declared.refusal.Refusal.TheVariants as refusals
use Rattle.filter.specs.Parsing.{path_in}
use Rattle.value_order.specs.declared.texts.Direction.{Direction}
use Rattle.value_order.specs.declared.texts.Direction.TheVariants as directions
use Rattle.index.specs.Definition.{Field, Definition, key_document, IsPath, AreFields}
use Rattle.index.specs.Naming.{new_definition}
use Rattle.command_model.specs.Values.{text_in, bool_in, spelled_in}
use Rattle.command_model.specs.Fields.{read_fields}

-- its name, its paths with their directions, and whether no two documents may have one key in it
pub record NewIndex : Type 0 where
  pub name : List ℕ
  pub fields : List Field
  pub is_unique : Bool

-- the definition of the index that it becomes, by its number
abbrev pub defined : ℕ → NewIndex → Definition
defined number i = new_definition number i.name i.fields i.is_unique

pub record IsIndexName (name : List ℕ) : Type 0 where
  pub is_text : IsUtf8 name
  pub some : 1 ≤ length name
  pub most : length name ≤ 127

-- with a number from 1 to 16 it becomes what an index may be
pub record IsNewIndex (i : NewIndex) : Type 0 where
  pub named : IsIndexName i.name
  pub fields : AreFields i.fields

-- the limits of that, whether its bytes are texts or not
pub record IsShortNewIndex (i : NewIndex) : Type 0 where
  pub short : length i.name ≤ 127
  pub few : length i.fields ≤ 4
  pub paths : AllByRecursion (λ f. length f.path ≤ 255) i.fields

-- ---- its key: one to four paths, none of them twice, with 1 or -1

abbrev pub direction_of : ℤ → Result Direction Refusal
direction_of (pos n) = if n == 1 then Ok directions.Ascending else Err refusals.BadValue
direction_of (negsuc zero) = Ok directions.Descending
direction_of (negsuc (suc n)) = Err refusals.BadValue

abbrev pub direction_in : Tree → Result Direction Refusal
direction_in (scalar (int32 z)) = direction_of z
direction_in (scalar (int64 z)) = direction_of z
direction_in other = Err refusals.TypeMismatch

-- the path that a name writes, in this direction
abbrev pub field_to : List ℕ → Direction → Result Field Refusal
field_to name direction = do
  parts ← path_in name
  Ok (record { path = name; direction = direction })

-- the path is judged before its direction
abbrev pub field_in : List ℕ → Tree → Result Field Refusal
field_in name t = do
  parts ← path_in name
  direction ← direction_in t
  Ok (record { path = name; direction = direction })

abbrev pub is_among : List Field → List ℕ → Bool
is_among fields name = list_any (λ f. bytes_eq f.path name) fields

-- of a fifth pair nothing is looked at
abbrev pub key_field : List Field → List ℕ → Tree → Result (List Field) Refusal
key_field found name t =
    unless (length found == 4 || is_among found name) refusals.BadValue (do
      field ← field_in name t
      Ok (found ++ field ∷ []))

-- what the pairs met so far keep: no more than four paths, none of them twice
pub record AreKeyFields (fields : List Field) : Type 0 where
  pub most : length fields ≤ 4
  pub paths : AllByRecursion (λ f. IsPath f.path) fields
  pub distinct : IsPairs (key_document fields)

abbrev pub read_key : Pairs → Result (List Field) Refusal
read_key ps = do
  fields ← read_fields key_field [] ps
  unless (length fields == 0) refusals.BadValue (Ok fields)

-- ---- its name

-- 1 to 127 bytes, none of them zero
abbrev pub is_bad_index_name : List ℕ → Bool
is_bad_index_name name = length name == 0 || nat_lt 127 (length name) || list_any (λ b. b == 0) name

abbrev pub index_name_in : Tree → Result (List ℕ) Refusal
index_name_in t = do
  name ← text_in t
  unless (is_bad_index_name name) refusals.BadValue (Ok name)

-- ---- the document

pub record NewIndexFields : Type 0 where
  pub key : Option (List Field)
  pub name : Option (List ℕ)
  pub is_unique : Bool

abbrev pub no_index_fields : NewIndexFields
no_index_fields = record { key = None; name = None; is_unique = false }

-- what the fields met so far keep
pub record AreNewIndexFields (found : NewIndexFields) : Type 0 where
  pub keyed : IfSome found.key AreFields
  pub named : IfSome found.name IsIndexName

abbrev pub new_index_field : NewIndexFields → List ℕ → Tree → Result NewIndexFields Refusal
new_index_field found name t =
    if bytes_eq name (codes "key") then (do
      fields ← spelled_in read_key t
      Ok (record found { key = Some fields })) else
    if bytes_eq name (codes "name") then (do
      text ← index_name_in t
      Ok (record found { name = Some text })) else
    if bytes_eq name (codes "unique") then (do
      unique ← bool_in t
      Ok (record found { is_unique = unique })) else
    Err refusals.FailedToParse

-- the key and the name may not be missing
abbrev pub read_new_index : Pairs → Result NewIndex Refusal
read_new_index ps = do
  found ← read_fields new_index_field no_index_fields ps
  fields ← or_refused found.key refusals.FailedToParse
  name ← or_refused found.name refusals.FailedToParse
  Ok (record { name = name; fields = fields; is_unique = found.is_unique })
