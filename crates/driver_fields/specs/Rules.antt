-- Fields that drivers send with any command and that the database doesn't have (MongoDB manual,
-- database commands; mongodb/specifications: sessions, transactions, retryable writes, read and
-- write concern, versioned API), and what is done with each.
use Rattle.std.specs.Prelude.{ℕ, ℤ, pos, negsuc, Bool, true, false, not, ◌&&◌, ◌||◌, ◌==◌, nat_lt}
use Rattle.std.specs.Prelude.{if◌then◌else◌, List, [], ◌∷◌, ◌++◌, codes, Option, Some, None}
use Rattle.std.specs.Option.{option_or, option_map_or}
use Rattle.std.specs.Str.{bytes_eq}
use Rattle.std.specs.List.{list_any}
use Rattle.bson.specs.Tree.{Tree, scalar, document, array, text, boolean, null, int32, int64, Pairs}
use Rattle.bson.specs.Tree.{no_pairs, pair}
use Rattle.bson.specs.Edits.{pairs_len, items_len}
use Rattle.bson.specs.Lookup.{lookup}
use Rattle.driver_replies.specs.Tables.{each, beside}
use Rattle.driver_fields.specs.declared.rules.Rule.{Rule}
use Rattle.driver_fields.specs.declared.rules.Rule.TheVariants as rules
use Rattle.driver_fields.specs.declared.reason.Reason.{Reason}
use Rattle.driver_fields.specs.declared.reason.Reason.TheVariants as reasons

abbrev pub rules_by_name : List (List ℕ × Rule)
rules_by_name =
    each rules.ReadOver
    (codes "lsid" ∷ codes "$clusterTime" ∷ codes "$readPreference" ∷ codes "comment"
    ∷ codes "maxTimeMS" ∷ codes "allowDiskUse" ∷ codes "bypassDocumentValidation"
    ∷ codes "noCursorTimeout" ∷ codes "allowPartialResults" ∷ codes "apiStrict"
    ∷ codes "apiDeprecationErrors" ∷ codes "commitQuorum" ∷ codes "authorizedCollections" ∷ [])
    ++ each rules.Transaction
    (codes "txnNumber" ∷ codes "startTransaction" ∷ codes "autocommit" ∷ [])
    ++ each rules.Unsupported (codes "expireAfterSeconds" ∷ codes "size" ∷ [])
    ++ each rules.UnlessEmpty
    (codes "hint" ∷ codes "let" ∷ codes "min" ∷ codes "max" ∷ codes "arrayFilters"
    ∷ codes "tailable" ∷ codes "awaitData" ∷ codes "returnKey" ∷ codes "showRecordId"
    ∷ codes "capped" ∷ codes "sparse" ∷ codes "hidden" ∷ codes "partialFilterExpression"
    ∷ codes "validator" ∷ [])
    ++ each rules.WriteConcern (codes "writeConcern" ∷ [])
    ++ each rules.ReadConcern (codes "readConcern" ∷ [])
    ++ each rules.Collation (codes "collation" ∷ [])
    ++ each rules.ApiVersion (codes "apiVersion" ∷ [])

-- what is done with a field of this name; nothing where the database has to say
unfoldable pub rule_of : List ℕ → Option Rule
rule_of name = beside rules_by_name name

-- ---- values by which a field says nothing

abbrev pub is_zero : ℤ → Bool
is_zero (pos n) = n == 0
is_zero (negsuc n) = false

-- false, 0, null, and a document or an array that holds nothing
abbrev pub is_nothing : Tree → Bool
is_nothing (scalar (boolean b)) = not b
is_nothing (scalar (int32 z)) = is_zero z
is_nothing (scalar (int64 z)) = is_zero z
is_nothing (scalar null) = true
is_nothing (document ps) = pairs_len ps == 0
is_nothing (array ts) = items_len ts == 0
is_nothing other = false

abbrev pub is_one_of : List (List ℕ) → List ℕ → Bool
is_one_of words s = list_any (bytes_eq s) words

-- one of these words
abbrev pub is_word : List (List ℕ) → Tree → Bool
is_word words (scalar (text s)) = is_one_of words s
is_word words other = false

-- ---- write concern (mongodb/specifications, read-write-concern)

-- One server has what was written before it answers, so a write concern asks for no more than that.
abbrev pub servers_fault : ℤ → Option Reason
servers_fault (pos n) = if nat_lt 1 n then Some reasons.TooManyServers else None
servers_fault (negsuc n) = Some reasons.TooManyServers

abbrev pub w_fault : Tree → Option Reason
w_fault (scalar (int32 z)) = servers_fault z
w_fault (scalar (int64 z)) = servers_fault z
w_fault (scalar (text s)) =
    if bytes_eq s (codes "majority") then None else Some reasons.UnknownWriteConcern
w_fault other = Some reasons.FieldType

abbrev pub write_option_fault : List ℕ → Tree → Option Reason
write_option_fault name t =
    if bytes_eq name (codes "w") then w_fault t else
    if is_one_of (codes "j" ∷ codes "fsync" ∷ codes "wtimeout" ∷ []) name then None else
    Some reasons.UnsupportedField

-- ---- read concern (mongodb/specifications, read-write-concern)

-- What is read was committed, so a read concern asks for no more than that.
abbrev pub read_levels : List (List ℕ)
read_levels =
    codes "local" ∷ codes "available" ∷ codes "majority" ∷ codes "linearizable" ∷ []

abbrev pub read_option_fault : List ℕ → Tree → Option Reason
read_option_fault name t =
    if bytes_eq name (codes "level") && is_word read_levels t then None else
    Some reasons.UnsupportedField

-- ---- a field by its rule

-- the first fault of a document's fields
abbrev pub first_in : (List ℕ → Tree → Option Reason) → Pairs → Option Reason
first_in fault no_pairs = None
first_in fault (pair name t ps) = option_or (fault name t) (first_in fault ps)

abbrev pub options_fault : (List ℕ → Tree → Option Reason) → Tree → Option Reason
options_fault fault (document ps) = first_in fault ps
options_fault fault other = Some reasons.FieldType

abbrev pub unless_said : Bool → Option Reason
unless_said said = if said then None else Some reasons.UnsupportedField

-- `{locale: "simple"}`: texts are compared by their bytes.
abbrev pub is_simple : Tree → Bool
is_simple (document ps) =
    pairs_len ps == 1
    && option_map_or (is_word (codes "simple" ∷ [])) (lookup ps (codes "locale")) false
is_simple other = false

-- Indexes of a MongoDB server are of version 1 or 2, and drivers see no difference between these.
abbrev pub is_version_number : ℤ → Bool
is_version_number (pos n) = n == 1 || n == 2
is_version_number (negsuc n) = false

abbrev pub is_index_version : Tree → Bool
is_index_version (scalar (int32 z)) = is_version_number z
is_index_version (scalar (int64 z)) = is_version_number z
is_index_version other = false

abbrev pub truth_fault : Tree → Option Reason
truth_fault (scalar (boolean b)) = None
truth_fault other = Some reasons.FieldType

-- ---- which collections are listed (mongodb/specifications, enumerate collections)

-- the expressions by which drivers leave out the system's collections, of which there are none here
abbrev pub no_system : List (List ℕ)
no_system = codes "^(?!system\\.)" ∷ codes "^(?!system\\\\.)" ∷ []

-- a name, or none of the system's
abbrev pub is_name_asked : Tree → Bool
is_name_asked (scalar (text s)) = true
is_name_asked (document ps) =
    pairs_len ps == 1
    && option_map_or (is_word no_system) (lookup ps (codes "$regex")) false
is_name_asked other = false

-- all, or by a name
abbrev pub is_name_filter : Tree → Bool
is_name_filter (document ps) =
    pairs_len ps == 0
    || (pairs_len ps == 1 && option_map_or is_name_asked (lookup ps (codes "name")) false)
is_name_filter other = false

-- why a field with this rule is refused, if it is
abbrev pub fault_of : Rule → Tree → Option Reason
fault_of rules.ReadOver t = None
fault_of rules.Transaction t = Some reasons.NoTransactions
fault_of rules.Unsupported t = Some reasons.UnsupportedField
fault_of rules.UnlessEmpty t = unless_said (is_nothing t)
fault_of rules.WriteConcern t = options_fault write_option_fault t
fault_of rules.ReadConcern t = options_fault read_option_fault t
fault_of rules.Collation t = unless_said (is_simple t)
fault_of rules.ApiVersion t = unless_said (is_word (codes "1" ∷ []) t)
fault_of rules.IndexVersion t = unless_said (is_index_version t)
fault_of rules.Truth t = truth_fault t
fault_of rules.NameFilter t = unless_said (is_name_filter t)
