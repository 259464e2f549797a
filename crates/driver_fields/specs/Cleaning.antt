-- A command without the fields that the database doesn't have, or the first of its fields by which
-- it is refused. A field without a rule is left to the database. The indexes of a createIndexes and
-- the statements of an update or a delete have fields as a command has (MongoDB manual, database
-- commands), and these are cleaned by the same rules.
use Rattle.std.specs.Prelude.{ℕ, Bool, true, false, if◌then◌else◌, List, [], ◌∷◌, codes, Option}
use Rattle.std.specs.Prelude.{Some, None, is_none}
use Rattle.std.specs.Option.{option_or, option_map, option_and_then}
use Rattle.std.specs.Str.{bytes_eq}
use Rattle.bson.specs.Tree.{Tree, document, array, Pairs, no_pairs, pair, Items, no_items, item}
use Rattle.bson.specs.Edits.{put}
use Rattle.bson.specs.Lookup.{lookup}
use Rattle.driver_fields.specs.Rules.{rule_of, fault_of, is_one_of}
use Rattle.driver_fields.specs.declared.command.Asked.{Asked}
use Rattle.driver_fields.specs.declared.command.Asked.TheVariants as askeds
use Rattle.driver_fields.specs.declared.cleaning.Whose.{Whose}
use Rattle.driver_fields.specs.declared.cleaning.Whose.TheVariants as whoses
use Rattle.driver_fields.specs.declared.rules.Rule.{Rule}
use Rattle.driver_fields.specs.declared.rules.Rule.TheVariants as rules
use Rattle.driver_fields.specs.declared.reason.Reason.{Reason}

-- a field of this name is true or false, and not the database's
abbrev pub truth : List ℕ → List ℕ → Option Rule
truth word name = if bytes_eq name word then Some rules.Truth else None

-- a field of one of these names is read over
abbrev pub read_over : List (List ℕ) → List ℕ → Option Rule
read_over words name = if is_one_of words name then Some rules.ReadOver else None

-- Lists are given in one batch, with all that is known of each entry.
abbrev pub listing_rule : List ℕ → Option Rule
listing_rule name =
    if bytes_eq name (codes "filter") then Some rules.NameFilter else
    read_over (codes "cursor" ∷ codes "nameOnly" ∷ []) name

-- A command that is asked as other commands: a field of it that has no rule and isn't one of these
-- would be lost.
abbrev pub lost_unless : List (List ℕ) → List ℕ → Option Rule
lost_unless words name =
    if is_one_of words name then None else
    if is_none (rule_of name) then Some rules.Unsupported else None

abbrev pub modify_fields : List (List ℕ)
modify_fields =
    codes "findAndModify" ∷ codes "findandmodify" ∷ codes "query" ∷ codes "sort" ∷ codes "update"
    ∷ codes "remove" ∷ codes "new" ∷ codes "upsert" ∷ codes "$db" ∷ []

abbrev pub distinct_fields : List (List ℕ)
distinct_fields = codes "distinct" ∷ codes "key" ∷ codes "query" ∷ codes "$db" ∷ []

-- The rule of a field that this command alone has. A write is done as a whole or refused as a
-- whole, so the order of its statements makes no difference. How many batches a find gives, its
-- plan sees to.
abbrev pub own_rule : Asked → List ℕ → Option Rule
own_rule askeds.Plain name = None
own_rule askeds.CreateIndexes name = None
own_rule askeds.Write name = truth (codes "ordered") name
own_rule askeds.Find name = truth (codes "singleBatch") name
own_rule askeds.GetMore name = None
own_rule askeds.KillCursors name = None
own_rule askeds.ListCollections name = listing_rule name
own_rule askeds.ListIndexes name = read_over (codes "cursor" ∷ []) name
own_rule askeds.DropDatabase name = None
own_rule askeds.Explain name = read_over (codes "verbosity" ∷ []) name
own_rule askeds.Modify name = lost_unless modify_fields name
own_rule askeds.Distinct name = lost_unless distinct_fields name

-- A field of an index. An index that is made in the background is one that is made.
abbrev pub index_rule : List ℕ → Option Rule
index_rule name =
    if bytes_eq name (codes "v") then Some rules.IndexVersion else
    read_over (codes "ns" ∷ codes "background" ∷ []) name

-- a rule of what is asked for, not of the command as a whole
abbrev pub is_inner : Rule → Bool
is_inner rules.Unsupported = true
is_inner rules.UnlessEmpty = true
is_inner rules.Collation = true
is_inner other = false

abbrev pub inner_rule : Option Rule → Option Rule
inner_rule None = None
inner_rule (Some rule) = if is_inner rule then Some rule else None

-- what is done with a field of a command, of an index or of a statement
abbrev pub rule_in : Whose → List ℕ → Option Rule
rule_in (whoses.Command asked) name = option_or (own_rule asked name) (rule_of name)
rule_in whoses.Index name = option_or (index_rule name) (inner_rule (rule_of name))
rule_in whoses.Statement name = inner_rule (rule_of name)

-- ---- a command, an index or a statement by itself

-- the field is the database's own
abbrev pub is_kept : Whose → List ℕ → Bool
is_kept whose name = is_none (rule_in whose name)

-- why a field is refused, if it is
abbrev pub field_fault : Whose → List ℕ → Tree → Option Reason
field_fault whose name t = option_and_then (λ rule. fault_of rule t) (rule_in whose name)

-- the first of these fields that is refused, and why
abbrev pub fields_fault : Whose → Pairs → Option (List ℕ × Reason)
fields_fault whose no_pairs = None
fields_fault whose (pair name t ps) =
    option_or (option_map (λ reason. (name, reason)) (field_fault whose name t))
    (fields_fault whose ps)

-- those of these fields that are the database's own
abbrev pub own_fields : Whose → Pairs → Pairs
own_fields whose no_pairs = no_pairs
own_fields whose (pair name t ps) =
    if is_kept whose name then pair name t (own_fields whose ps) else own_fields whose ps

-- ---- the entries of an array. What is none, or no document in one, is left to the database.

abbrev pub entry_fault : Whose → Tree → Option (List ℕ × Reason)
entry_fault whose (document ps) = fields_fault whose ps
entry_fault whose other = None

abbrev pub entries_fault : Whose → Items → Option (List ℕ × Reason)
entries_fault whose no_items = None
entries_fault whose (item t ts) = option_or (entry_fault whose t) (entries_fault whose ts)

abbrev pub array_fault : Whose → Option Tree → Option (List ℕ × Reason)
array_fault whose (Some (array ts)) = entries_fault whose ts
array_fault whose other = None

abbrev pub kept_entry : Whose → Tree → Tree
kept_entry whose (document ps) = document (own_fields whose ps)
kept_entry whose other = other

abbrev pub kept_entries : Whose → Items → Items
kept_entries whose no_items = no_items
kept_entries whose (item t ts) = item (kept_entry whose t) (kept_entries whose ts)

abbrev pub kept_array : Whose → Tree → Tree
kept_array whose (array ts) = array (kept_entries whose ts)
kept_array whose other = other

abbrev pub with_kept : Whose → List ℕ → Option Tree → Pairs → Pairs
with_kept whose field None body = body
with_kept whose field (Some t) body = put body field (kept_array whose t)

-- a command whose field of this name holds such entries
abbrev pub kept_under : Whose → List ℕ → Pairs → Pairs
kept_under whose field body = with_kept whose field (lookup body field) body

-- ---- a whole command

abbrev pub inner_fault : Asked → Pairs → Option (List ℕ × Reason)
inner_fault askeds.CreateIndexes body =
    array_fault whoses.Index (lookup body (codes "indexes"))
inner_fault askeds.Write body =
    option_or (array_fault whoses.Statement (lookup body (codes "updates")))
    (array_fault whoses.Statement (lookup body (codes "deletes")))
inner_fault other body = None

-- the first field that is refused, and why: of the command, then of its indexes or statements
abbrev pub first_refused : Asked → Pairs → Option (List ℕ × Reason)
first_refused asked body =
    option_or (fields_fault (whoses.Command asked) body) (inner_fault asked body)

abbrev pub kept_inner : Asked → Pairs → Pairs
kept_inner askeds.CreateIndexes body = kept_under whoses.Index (codes "indexes") body
kept_inner askeds.Write body =
    kept_under whoses.Statement (codes "deletes")
    (kept_under whoses.Statement (codes "updates") body)
kept_inner other body = body

-- the fields that are the database's own, of the command and of its indexes or statements
abbrev pub kept : Asked → Pairs → Pairs
kept asked body = kept_inner asked (own_fields (whoses.Command asked) body)
