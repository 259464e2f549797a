-- `$group` splits the documents by the order's equality of a value, `_id`, and gives a document for
-- each group, in the order of first appearance (MongoDB manual, "$group").
use Rattle.std.specs.Prelude.{ℕ, ◌++◌, not, Bool, if◌then◌else◌, Option, Some, None, Result, Ok}
use Rattle.std.specs.Prelude.{List, [], ◌∷◌, map, codes}
use Rattle.std.specs.List.{filter}
use Rattle.std.specs.Str.{bytes_eq}
use Rattle.bson.specs.Tree.{Tree, scalar, document, array, Pairs, no_pairs, pair}
use Rattle.value_order.specs.Order.{compare}
use Rattle.outcome.specs.Outcome.{◌>>=◌, or_refused}
use Rattle.path.specs.declared.refusal.Refusal.{Refusal}
use Rattle.path.specs.declared.refusal.Refusal.TheVariants as refusals
use Rattle.filter.specs.Matches.{is_equal}
use Rattle.aggregate_model.specs.Accumulators.{accumulator_named, accumulated}
use Rattle.aggregate_model.specs.Each.{just, each}
use Rattle.aggregate_model.specs.Expression.{Expression, read_expression, expression_value, or_null}
use Rattle.aggregate_model.specs.Fields.{set_field}
use Rattle.aggregate_model.specs.Names.{field_name}
use Rattle.aggregate_model.specs.Operands.{only_pair_in}
use Rattle.aggregate_model.specs.declared.accumulators.Accumulator.{Accumulator}

-- a field of an `_id` that is a document
pub record IdField : Type 0 where
  pub name : List ℕ
  pub expression : Expression

pub data GroupId : Type 0 where
  one_value : Expression → GroupId
  id_document : List IdField → GroupId

pub record GroupField : Type 0 where
  pub name : List ℕ
  pub accumulator : Accumulator
  pub expression : Expression

pub record Grouping : Type 0 where
  pub id : GroupId
  pub fields : List GroupField

-- ---- reading

abbrev pub read_id_fields : Pairs → List IdField → Result (List IdField) Refusal
read_id_fields no_pairs earlier = Ok earlier
read_id_fields (pair name t ps) earlier = field_name name
    >>= (λ n. read_expression t
    >>= (λ e. read_id_fields ps (earlier ++ record { name = n; expression = e } ∷ [])))

abbrev pub read_id : Tree → Result GroupId Refusal
read_id (document ps) = read_id_fields ps [] >>= (λ fields. Ok (id_document fields))
read_id (array ts) = read_expression (array ts) >>= (λ e. Ok (one_value e))
read_id (scalar s) = read_expression (scalar s) >>= (λ e. Ok (one_value e))

-- `{accumulator: expression}`
abbrev pub read_group_field : List ℕ → Tree → Result GroupField Refusal
read_group_field name t = field_name name
    >>= (λ n. only_pair_in t
    >>= (λ p. or_refused (accumulator_named p.0) refusals.FailedToParse
    >>= (λ a. read_expression p.1
    >>= (λ e. Ok (record { name = n; accumulator = a; expression = e })))))

-- what was read so far
pub record Parts : Type 0 where
  pub id : Option GroupId
  pub fields : List GroupField

abbrev pub no_parts : Parts
no_parts = record { id = None; fields = [] }

abbrev pub read_part : List ℕ → Tree → Parts → Result Parts Refusal
read_part name t parts =
    if bytes_eq name (codes "_id")
    then read_id t >>= (λ id. Ok (record { id = Some id; fields = parts.fields }))
    else read_group_field name t
    >>= (λ field. Ok (record { id = parts.id; fields = parts.fields ++ field ∷ [] }))

abbrev pub read_parts : Pairs → Parts → Result Parts Refusal
read_parts no_pairs parts = Ok parts
read_parts (pair name t ps) parts = read_part name t parts >>= read_parts ps

-- the grouping that a document spells, or the first misuse from the left; without `_id` there is
-- none
abbrev pub read_grouping : Pairs → Result Grouping Refusal
read_grouping ps = read_parts ps no_parts
    >>= (λ parts. or_refused parts.id refusals.FailedToParse
    >>= (λ id. Ok (record { id = id; fields = parts.fields })))

-- ---- the value by which documents are split

abbrev pub with_id_field : List ℕ → Option Tree → Pairs → Result Pairs Refusal
with_id_field name None ps = Ok ps
with_id_field name (Some t) ps = set_field name t ps

-- fields whose path gives nothing are left out
abbrev pub with_id_fields : List IdField → Pairs → Pairs → Result Pairs Refusal
with_id_fields [] whole ps = Ok ps
with_id_fields (f ∷ fs) whole ps =
    with_id_field f.name (expression_value f.expression whole) ps >>= with_id_fields fs whole

abbrev pub id_value : GroupId → Pairs → Result Tree Refusal
id_value (one_value e) ps = Ok (or_null (expression_value e ps))
id_value (id_document fields) ps = with_id_fields fields ps no_pairs >>= (λ qs. Ok (document qs))

abbrev pub Identified : Type 0
Identified = Tree × Pairs

abbrev pub identify : GroupId → Pairs → Result Identified Refusal
identify g ps = id_value g ps >>= (λ id. Ok (id, ps))

-- ---- groups

abbrev pub same : Tree → Tree → Bool
same a b = is_equal (compare a b)

-- each value once, where it stands first
abbrev pub first_of_each : List Tree → List Tree
first_of_each [] = []
first_of_each (id ∷ ids) = id ∷ filter (λ other. not (same id other)) (first_of_each ids)

abbrev pub members : List Identified → Tree → List Pairs
members documents id = map (λ p. p.1) (filter (λ p. same id p.0) documents)

-- the `_id` of a group, and its documents
abbrev pub groups : List Identified → List (Tree × List Pairs)
groups documents =
    map (λ id. (id, members documents id)) (first_of_each (map (λ p. p.0) documents))

-- ---- what is given of a group

abbrev pub field_value : GroupField → List Pairs → Result Tree Refusal
field_value f documents =
    accumulated f.accumulator (map (λ ps. expression_value f.expression ps) documents)

abbrev pub with_fields : List GroupField → List Pairs → Pairs → Result Pairs Refusal
with_fields [] documents ps = Ok ps
with_fields (f ∷ fs) documents ps = field_value f documents
    >>= (λ t. set_field f.name t ps >>= with_fields fs documents)

abbrev pub group_document : List GroupField → Tree × List Pairs → Result Pairs Refusal
group_document fields g = set_field (codes "_id") g.0 no_pairs >>= with_fields fields g.1

abbrev pub grouped : Grouping → List Pairs → Result (List Pairs) Refusal
grouped g documents = each (λ ps. just (identify g.id ps)) documents
    >>= (λ identified. each (λ group. just (group_document g.fields group)) (groups identified))
