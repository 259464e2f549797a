-- Documents that may be stored: their size, their levels, their names and their `_id`, which stands
-- first.
use Rattle.std.specs.Prelude.{ℕ, suc, Bool, ◌==◌, nat_lt, if◌then◌else◌, List, [], ◌∷◌, length}
use Rattle.std.specs.Prelude.{codes, Result, Option, Some, None, option_and_then}
use Rattle.outcome.specs.Outcome.{fault_or}
use Rattle.std.specs.Str.{bytes_eq}
use Rattle.std.specs.List.{list_any}
use Rattle.bson.specs.Tree.{Tree, scalar, document, array, Pairs, no_pairs, pair, Items, no_items}
use Rattle.bson.specs.Tree.{item}
use Rattle.bson.specs.Lookup.{lookup}
use Rattle.bson.specs.Lawful.{pairs_levels}
use Rattle.bson.specs.Spelling.{frame_of, pairs_bytes}
use Rattle.path.specs.declared.refusal.Refusal.{Refusal}
use Rattle.path.specs.declared.refusal.Refusal.TheVariants as refusals

abbrev pub or_else : Option Refusal → Option Refusal → Option Refusal
or_else (Some r) later = Some r
or_else None later = later

-- ---- names

-- a name that is not stored, and why: it is empty, begins with `$` or has a dot
abbrev pub name_fault : List ℕ → Option Refusal
name_fault [] = Some refusals.EmptyFieldName
name_fault (b ∷ bs) =
    if b == 36 then Some refusals.DollarPrefixedFieldName else
    if list_any (λ x. x == 46) (b ∷ bs) then Some refusals.DottedFieldName else
    None

-- the first name from the left that is not stored
abbrev mutual
  pub tree_fault : Tree → Option Refusal
  tree_fault (scalar s) = None
  tree_fault (document ps) = pairs_fault ps
  tree_fault (array ts) = items_fault ts

  pub pairs_fault : Pairs → Option Refusal
  pairs_fault no_pairs = None
  pairs_fault (pair name t ps) = or_else (name_fault name) (or_else (tree_fault t) (pairs_fault ps))

  pub items_fault : Items → Option Refusal
  items_fault no_items = None
  items_fault (item t ts) = or_else (tree_fault t) (items_fault ts)

-- ---- `_id`

abbrev pub id_name : List ℕ
id_name = codes "_id"

-- a value that may be an `_id`
abbrev pub no_array : Tree → Option Tree
no_array (array ts) = None
no_array other = Some other

-- the `_id` of a document, where it has one that may be stored
abbrev pub id_of : Pairs → Option Tree
id_of ps = option_and_then no_array (lookup ps id_name)

abbrev pub id_fault : Option Tree → Option Refusal
id_fault (Some id) = None
id_fault None = Some refusals.BadValue

-- the pairs of other names
abbrev pub without : Pairs → List ℕ → Pairs
without no_pairs name = no_pairs
without (pair other t ps) name =
    if bytes_eq name other then without ps name else pair other t (without ps name)

abbrev pub first_pair : List ℕ → Option Tree → Pairs → Pairs
first_pair name None ps = ps
first_pair name (Some t) ps = pair name t ps

-- the document as it is stored: `_id` first
abbrev pub id_first : Pairs → Pairs
id_first ps = first_pair id_name (lookup ps id_name) (without ps id_name)

-- ---- the judgement

abbrev pub fault_if : Bool → Refusal → Option Refusal
fault_if test refusal = if test then Some refusal else None

-- over so many bytes, or over 90 levels, the document itself among them
abbrev pub limits_fault : ℕ → Pairs → Option Refusal
limits_fault limit ps =
    or_else (fault_if (nat_lt limit
    (length (frame_of (pairs_bytes ps)))) refusals.BSONObjectTooLarge)
    (fault_if (nat_lt 90 (suc (pairs_levels ps))) refusals.BadValue)

-- why a document may not be stored, if it may not: the first of these
unfoldable pub stored_fault : ℕ → Pairs → Option Refusal
stored_fault limit ps =
    or_else (limits_fault limit ps) (or_else (pairs_fault ps) (id_fault (id_of ps)))

-- the document with its `_id` first, where it may be stored so
abbrev pub judged : ℕ → Pairs → Result Pairs Refusal
judged limit ps = fault_or (stored_fault limit (id_first ps)) (id_first ps)
