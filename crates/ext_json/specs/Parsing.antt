-- Reading documents from tokens, from the left up to the first fault.
use Rattle.std.specs.Prelude.{◌≡◌, ℕ, zero, suc, ◌-◌, ◌^◌, ◌==◌, ◌||◌, Bool, true, false}
use Rattle.std.specs.Prelude.{if◌then◌else◌, Option, Some, None, List, [], ◌∷◌, Result, Ok, Err}
use Rattle.std.specs.List.{list_any}
use Rattle.std.specs.Str.{bytes_eq}
use Rattle.json.specs.Token as json
use Rattle.json.specs.Token.{Token}
use Rattle.json.specs.Lex.{tokens}
use Rattle.outcome.specs.Outcome.{◌>>=◌, unless, Fails}
use Rattle.bson.specs.Tree.{text, boolean, null, Tree, scalar, document, array, Pairs, no_pairs}
use Rattle.bson.specs.Tree.{pair, append, Items, no_items, item, append_items}
use Rattle.ext_json.specs.Tokens.{Parse, first, rest, key_at}
use Rattle.ext_json.specs.Numbers.{number_tree}
use Rattle.ext_json.specs.Wrappers.{wrapper_in}
use Rattle.ext_json.specs.Wrapped.{wrapped_at}
use Rattle.ext_json.specs.declared.wrapper.Wrapper.{Wrapper}
use Rattle.ext_json.specs.declared.fault.FaultAt.{FaultAt}
use Rattle.ext_json.specs.declared.fault.ExtJsonFault.{ExtJsonFault}
use Rattle.ext_json.specs.declared.fault.ExtJsonFault.TheVariants as faults

-- a value, of which the first token was taken
abbrev pub ParseValue : Type 0
ParseValue = Token → Parse Tree

-- ---- documents and arrays, by how a value is read

abbrev pub has_name : Pairs → List ℕ → Bool
has_name no_pairs name = false
has_name (pair other t ps) name = bytes_eq name other || has_name ps name

-- a name that may stand where some do already
abbrev pub new_name : (List ℕ → Bool) → List ℕ → Result (Unit {0}) ExtJsonFault
new_name stood name =
    unless (list_any (λ b. b == 0) name) faults.Name (unless (stood name) faults.Repeated (Ok tt))

-- the value of a name, and the name behind it or the end of the document
abbrev pub pair_by : ParseValue → Pairs → List ℕ → Parse Tree
pair_by value done name ts = new_name (has_name done) name >>= λ _. value (first ts) (rest ts)

-- The pairs from this name on, or the end of the document, behind those that are done. The number
-- bounds the turns.
unfoldable pub pairs_by : ParseValue → ℕ → Pairs → Option (List ℕ) → Parse Pairs
pairs_by value zero done name ts = Err faults.Syntax
pairs_by value (suc turns) done None ts = Ok (done, ts)
pairs_by value (suc turns) done (Some name) ts =
    pair_by value done name ts >>= λ p. key_at p.1 >>= λ next.
    pairs_by value turns (append done (pair name p.0 no_pairs)) next.0 next.1

abbrev pub is_end : Token → Bool
is_end json.begin_object = false
is_end json.end_object = false
is_end json.begin_array = false
is_end json.end_array = true
is_end (json.key s) = false
is_end (json.string s) = false
is_end (json.number s) = false
is_end (json.boolean b) = false
is_end json.null = false
is_end json.bad = false

-- the items behind those that are done
unfoldable pub items_by : ParseValue → ℕ → Items → Parse Items
items_by value zero done ts = Err faults.Syntax
items_by value (suc turns) done ts =
    if is_end (first ts) then Ok (done, rest ts)
    else value (first ts) (rest ts) >>= λ v. items_by value turns
    (append_items done (item v.0 no_items)) v.1

-- more turns than a text has tokens
unfoldable pub most_turns : ℕ
most_turns = 2 ^ 64 - 1

-- ---- values

-- a document whose first name this is, as a value
abbrev pub ParsePairs : Type 0
ParsePairs = Option (List ℕ) → Parse Tree

abbrev pub object_from : ParsePairs → Option Wrapper → ParsePairs
object_from pairs (Some w) name ts = wrapped_at w ts
object_from pairs None name ts = pairs name ts

-- an object, behind its brace: a wrapper where its first name begins one
abbrev pub object_by : ParsePairs → Parse Tree
object_by pairs ts = key_at ts >>= λ name. object_from pairs (wrapper_in name.0) name.0 name.1

abbrev pub value_by : ParsePairs → Parse Tree → ParseValue
value_by pairs items json.begin_object ts = object_by pairs ts
value_by pairs items json.end_object ts = Err faults.Syntax
value_by pairs items json.begin_array ts = items ts
value_by pairs items json.end_array ts = Err faults.Syntax
value_by pairs items (json.key s) ts = Err faults.Syntax
value_by pairs items (json.string s) ts = Ok (scalar (text s), ts)
value_by pairs items (json.number s) ts = number_tree s >>= λ t. Ok (t, ts)
value_by pairs items (json.boolean b) ts = Ok (scalar (boolean b), ts)
value_by pairs items json.null ts = Ok (scalar null, ts)
value_by pairs items json.bad ts = Err faults.Syntax

abbrev pub as_document : Result (Pairs × List Token) ExtJsonFault
    → Result (Tree × List Token) ExtJsonFault
as_document read = read >>= λ p. Ok (document p.0, p.1)

abbrev pub as_array : Result (Items × List Token) ExtJsonFault
    → Result (Tree × List Token) ExtJsonFault
as_array read = read >>= λ p. Ok (array p.0, p.1)

-- a value where this many more levels are allowed
unfoldable pub value_at : ℕ → ParseValue
value_at zero = value_by (λ name ts. Err faults.Deep) (λ ts. Err faults.Deep)
value_at (suc more) =
    value_by (λ name ts. as_document (pairs_by (value_at more) most_turns no_pairs name ts))
    (λ ts. as_array (items_by (value_at more) most_turns no_items ts))

-- the same by its parts: a document, behind its first name, and an array
unfoldable pub pairs_within : ℕ → ParsePairs
pairs_within zero name ts = Err faults.Deep
pairs_within (suc more) name ts = as_document (pairs_by (value_at more) most_turns no_pairs name ts)

unfoldable pub items_within : ℕ → Parse Tree
items_within zero ts = Err faults.Deep
items_within (suc more) ts = as_array (items_by (value_at more) most_turns no_items ts)

-- ---- texts

-- the first token of a document
abbrev pub top_in : Token → Result (Unit {0}) ExtJsonFault
top_in json.begin_object = Ok tt
top_in json.end_object = Err faults.Syntax
top_in json.begin_array = Err faults.NotDocument
top_in json.end_array = Err faults.Syntax
top_in (json.key s) = Err faults.Syntax
top_in (json.string s) = Err faults.NotDocument
top_in (json.number s) = Err faults.NotDocument
top_in (json.boolean b) = Err faults.NotDocument
top_in json.null = Err faults.NotDocument
top_in json.bad = Err faults.Syntax

abbrev pub top_at : List Token → Result (List Token) ExtJsonFault
top_at ts = top_in (first ts) >>= λ _. Ok (rest ts)

-- nothing may stand behind a document
abbrev pub at_end : Pairs → List Token → Result Pairs ExtJsonFault
at_end ps [] = Ok ps
at_end ps (t ∷ ts) = Err faults.Syntax

abbrev pub document_in : List Token → Result Pairs ExtJsonFault
document_in ts =
    top_at ts >>= λ us. key_at us >>= λ name.
    pairs_by (value_at 99) most_turns no_pairs name.0 name.1 >>= λ p. at_end p.0 p.1

-- the document that a text is, or the first fault
unfoldable pub document_at : List ℕ → Result Pairs ExtJsonFault
document_at s = document_in (tokens s)

-- ---- for the prover

-- what reading gave, but for want of memory
abbrev pub Reads : {X : Type 0} → Result X FaultAt → Result X ExtJsonFault → Type 0
Reads (Ok x) planned = planned ≡ Ok x
Reads (Err e) planned = Fails faults.Memory e.fault planned
