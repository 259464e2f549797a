-- `$project` is a projection, of which undotted fields may be computed: `{name: "$path"}` (MongoDB
-- manual, "$project"). A computed field isn't taken from the document. It stands behind the others,
-- in the order written, and is left out where its path gives nothing.
use Rattle.std.specs.Prelude.{ℕ, ◌++◌, Bool, true, false, Option, Some, None, Result, Ok, Err, List}
use Rattle.std.specs.Prelude.{[], ◌∷◌}
use Rattle.bson.specs.Tree.{Tree, scalar, text, document, Pairs, no_pairs, pair}
use Rattle.path.specs.Edits.{set_at, cut_at}
use Rattle.outcome.specs.Outcome.{◌>>=◌, unless}
use Rattle.path.specs.declared.refusal.Refusal.{Refusal}
use Rattle.path.specs.declared.refusal.Refusal.TheVariants as refusals
use Rattle.projection.specs.Projection.{Projection, project}
use Rattle.projection.specs.ProjectionReading.{Seen, nothing_seen, read_field, with_computed}
use Rattle.projection.specs.ProjectionReading.{projection_seen}
use Rattle.filter.specs.Parsing.{path_in}
use Rattle.aggregate_model.specs.Each.{just, each}
use Rattle.aggregate_model.specs.Operands.{dollar_path, source_path}
use Rattle.aggregate_model.specs.PathValue.{path_value}

abbrev pub Path : Type 0
Path = List (List ℕ)

-- the path of a field, and of what it is to be
pub record Computed : Type 0 where
  pub name : Path
  pub source : Path

-- what is taken from the document, and what is computed
pub record Projecting : Type 0 where
  pub taken : Projection
  pub computed : List Computed

-- ---- reading

-- what was read so far
pub record Fields : Type 0 where
  pub seen : Seen
  pub computed : List Computed

abbrev pub no_fields : Fields
no_fields = record { seen = nothing_seen; computed = [] }

abbrev pub is_dotted : Path → Bool
is_dotted (name ∷ []) = false
is_dotted path = true

abbrev pub source_in : Option (List ℕ) → Result Path Refusal
source_in None = Err refusals.TypeMismatch
source_in (Some name) = source_path name

abbrev pub add_computed : Path → Path → Fields → Result Fields Refusal
add_computed name source fields = with_computed name fields.seen >>= (λ seen. Ok (record {
  seen = seen;
  computed = fields.computed ++ record { name = name; source = source } ∷ [];
}))

abbrev pub read_computed : List ℕ → List ℕ → Fields → Result Fields Refusal
read_computed name s fields = path_in name
    >>= (λ path. unless (is_dotted path) refusals.TypeMismatch (source_in (dollar_path s))
    >>= (λ source. add_computed path source fields))

abbrev pub add_taken : List ℕ → Tree → Fields → Result Fields Refusal
add_taken name t fields = read_field name t fields.seen
    >>= (λ seen. Ok (record { seen = seen; computed = fields.computed }))

abbrev pub read_pair : List ℕ → Tree → Fields → Result Fields Refusal
read_pair name (scalar (text s)) fields = read_computed name s fields
read_pair name t fields = add_taken name t fields

abbrev pub read_pairs : Pairs → Fields → Result Fields Refusal
read_pairs no_pairs fields = Ok fields
read_pairs (pair name t ps) fields = read_pair name t fields >>= read_pairs ps

abbrev pub projecting : Fields → Projecting
projecting fields = record { taken = projection_seen fields.seen; computed = fields.computed }

-- the projection that a document spells, or the first misuse from the left
abbrev pub read_projecting : Pairs → Result Projecting Refusal
read_projecting ps = read_pairs ps no_fields >>= (λ fields. Ok (projecting fields))

-- ---- what it gives

abbrev pub put_last : Path → Option Tree → Pairs → Result Pairs Refusal
put_last path None ps = Ok (cut_at path ps)
put_last path (Some t) ps = set_at path t (cut_at path ps)

-- the computed fields of a whole document put behind what was taken of it
abbrev pub with_all_computed : List Computed → Pairs → Pairs → Result Pairs Refusal
with_all_computed [] whole ps = Ok ps
with_all_computed (c ∷ cs) whole ps =
    put_last c.name (path_value c.source (document whole)) ps >>= with_all_computed cs whole

abbrev pub projected : Projecting → Pairs → Result Pairs Refusal
projected p ps = with_all_computed p.computed ps (project p.taken ps)

abbrev pub all_projected : Projecting → List Pairs → Result (List Pairs) Refusal
all_projected p documents = each (λ ps. just (projected p ps)) documents
