-- No bytes are the reason that memory runs out: reading, as it is defined, never gives that fault.
use Rattle.std.proofs.Common.{◌≡◌, ◌≢◌, ℕ, zero, suc, ◌+◌, ◌-◌, Bool, true, false, cond, eqb, List, [], ◌∷◌, ◌++◌, length, drop, Result, Ok, Err, ap, ◌∙◌}
use Rattle.bson_bytes.specs.declared.fault.BsonFault.{BsonFault}
use Rattle.bson_bytes.specs.declared.fault.BsonFault.TheVariants as faults
use Rattle.bson.specs.declared.kind.Kind.{Kind}
use Rattle.bson.specs.declared.kind.Kind.TheVariants as kinds
use Rattle.bson.specs.Tree.{Tree}
use Rattle.outcome.specs.Outcome.{◌>>=◌, unless}
use Rattle.bson_bytes.specs.Decoding.{Read, fixed_at, count_at, ended_at, text_at, content_at, name_at, kind_of, string_at, binary_of, binary_at, object_id_at}
use Rattle.bson.specs.Lookup.{stands_in}
use Rattle.bson_bytes.specs.Decoding.{boolean_at, date_at, int32_at, timestamp_at, int64_at, leaf, scalar_at, element_by, item_by, is_no_index, pairs_by}
use Rattle.bson_bytes.specs.Decoding.{items_by, pairs_in, items_in, value_at, length_at, document_at}

pub record IsNoMemory {Y : Type 0} (read : Result Y BsonFault) : Type 0 where
  pub never : read ≢ Err faults.Memory

ok_no : {Y : Type 0} (x : Y) → IsNoMemory {Y = Y} (Ok x)
ok_no x = record { never = λ e. absurd cc }

err_no : {Y : Type 0} (fault : BsonFault) → fault ≢ faults.Memory → IsNoMemory {Y = Y} (Err fault)
err_no fault other = record { never = λ e. other (let same : fault ≡ faults.Memory = cc in same) }

then_no : {A B : Type 0} (r : Result A BsonFault) (f : A → Result B BsonFault) → IsNoMemory r → ((x : A) → IsNoMemory (f x)) → IsNoMemory (r >>= f)
then_no (Ok x) f first later = later x
then_no (Err e) f first later = record { never = λ same. first.never (let fault : e ≡ faults.Memory = cc in ap (λ (d : BsonFault). Err d) fault) }

unless_no : {X : Type 0} (test : Bool) (fault : BsonFault) (read : Result X BsonFault) → fault ≢ faults.Memory → IsNoMemory read
    → IsNoMemory (unless test fault read)
unless_no true fault read other safe = err_no fault other
unless_no false fault read other safe = safe

either_no : {X : Type 0} (test : Bool) (r s : Result X BsonFault) → IsNoMemory r → IsNoMemory s → IsNoMemory (cond test r s)
either_no true r s first second = first
either_no false r s first second = second

length_no : faults.Length ≢ faults.Memory
length_no e = absurd cc

fixed_no : (len : ℕ) (bytes : List ℕ) → IsNoMemory (fixed_at len bytes)
unfolding fixed_at
fixed_no len bytes = unless_no _ faults.Length _ length_no (ok_no _)

count_no : (least : ℕ) (bytes : List ℕ) → IsNoMemory (count_at least bytes)
unfolding count_at
count_no least bytes = then_no (fixed_at 4 bytes) _ (fixed_no 4 bytes) (λ four. unless_no _ faults.Length _ length_no (ok_no _))

ended_no : (fault : BsonFault) (len : ℕ) (bytes : List ℕ) → fault ≢ faults.Memory → IsNoMemory (ended_at fault len bytes)
unfolding ended_at
ended_no fault len bytes other = unless_no _ faults.Length _ length_no (unless_no _ fault _ other (ok_no _))

text_no : (bytes : List ℕ) → IsNoMemory (text_at bytes)
unfolding text_at
text_no bytes =
    then_no (count_at 1 bytes) _ (count_no 1 bytes)
    (λ n. then_no (ended_at faults.Text (n.0 - 1) n.1) _ (ended_no faults.Text (n.0 - 1) n.1 (λ e. absurd cc))
    (λ s. unless_no _ faults.Text _ (λ e. absurd cc) (ok_no _)))

content_no : (bytes : List ℕ) → IsNoMemory (content_at bytes)
unfolding content_at
content_no bytes = then_no (count_at 5 bytes) _ (count_no 5 bytes) (λ n. ended_no faults.Length (n.0 - 5) n.1 length_no)

name_no : (bytes : List ℕ) → IsNoMemory (name_at bytes)
unfolding name_at
name_no bytes = unless_no _ faults.Name _ (λ e. absurd cc) (unless_no _ faults.Name _ (λ e. absurd cc) (ok_no _))

chosen_no : (b n : ℕ) (k : Kind) (others : Result Kind BsonFault) → IsNoMemory others → IsNoMemory (cond (eqb b n) (Ok k) others)
chosen_no b n k others safe = either_no (eqb b n) (Ok k) others (ok_no k) safe

kind_no : (b : ℕ) → IsNoMemory (kind_of b)
unfolding kind_of
kind_no b =
    chosen_no b 0x02 kinds.String _
    (chosen_no b 0x03 kinds.Document _
    (chosen_no b 0x04 kinds.Array _
    (chosen_no b 0x05 kinds.Binary _
    (chosen_no b 0x07 kinds.ObjectId _
    (chosen_no b 0x08 kinds.Bool _
    (chosen_no b 0x09 kinds.Date _
    (chosen_no b 0x0a kinds.Null _
    (chosen_no b 0x10 kinds.Int32 _
    (chosen_no b 0x11 kinds.Timestamp _
    (chosen_no b 0x12 kinds.Int64 _
    (chosen_no b 0xff kinds.MinKey _
    (chosen_no b 0x7f kinds.MaxKey _ (err_no faults.TypeByte (λ e. absurd cc))))))))))))))

-- ---- scalars

string_no : (bytes : List ℕ) → IsNoMemory (string_at bytes)
unfolding string_at
string_no bytes = then_no (text_at bytes) _ (text_no bytes) (λ s. (ok_no _))

body_no : (body rest : List ℕ) → IsNoMemory (binary_of body rest)
body_no [] rest = err_no faults.Length length_no
body_no (subtype ∷ bytes) rest = unless_no _ faults.Subtype _ (λ e. absurd cc) (ok_no _)

binary_no : (bytes : List ℕ) → IsNoMemory (binary_at bytes)
unfolding binary_at
binary_no bytes =
    then_no (count_at 0 bytes) _ (count_no 0 bytes) (λ n. then_no (fixed_at (n.0 + 1) n.1) _ (fixed_no (n.0 + 1) n.1) (λ body. body_no body.0 body.1))

object_id_no : (bytes : List ℕ) → IsNoMemory (object_id_at bytes)
unfolding object_id_at
object_id_no bytes = then_no (fixed_at 12 bytes) _ (fixed_no 12 bytes) (λ twelve. (ok_no _))

boolean_no : (bytes : List ℕ) → IsNoMemory (boolean_at bytes)
unfolding boolean_at
boolean_no [] = err_no faults.Length length_no
boolean_no (zero ∷ rest) = ok_no _
boolean_no (suc zero ∷ rest) = ok_no _
boolean_no (suc (suc b) ∷ rest) = err_no _ (λ e. absurd cc)

date_no : (bytes : List ℕ) → IsNoMemory (date_at bytes)
unfolding date_at
date_no bytes = then_no (fixed_at 8 bytes) _ (fixed_no 8 bytes) (λ eight. (ok_no _))

int32_no : (bytes : List ℕ) → IsNoMemory (int32_at bytes)
unfolding int32_at
int32_no bytes = then_no (fixed_at 4 bytes) _ (fixed_no 4 bytes) (λ four. (ok_no _))

timestamp_no : (bytes : List ℕ) → IsNoMemory (timestamp_at bytes)
unfolding timestamp_at
timestamp_no bytes = then_no (fixed_at 8 bytes) _ (fixed_no 8 bytes) (λ eight. (ok_no _))

int64_no : (bytes : List ℕ) → IsNoMemory (int64_at bytes)
unfolding int64_at
int64_no bytes = then_no (fixed_at 8 bytes) _ (fixed_no 8 bytes) (λ eight. (ok_no _))

scalar_no : (k : Kind) (bytes : List ℕ) → IsNoMemory (scalar_at k bytes)
unfolding scalar_at
scalar_no kinds.String bytes = string_no bytes
scalar_no kinds.Document bytes = err_no _ (λ e. absurd cc)
scalar_no kinds.Array bytes = err_no _ (λ e. absurd cc)
scalar_no kinds.Binary bytes = binary_no bytes
scalar_no kinds.ObjectId bytes = object_id_no bytes
scalar_no kinds.Bool bytes = boolean_no bytes
scalar_no kinds.Date bytes = date_no bytes
scalar_no kinds.Null bytes = ok_no _
scalar_no kinds.Int32 bytes = int32_no bytes
scalar_no kinds.Timestamp bytes = timestamp_no bytes
scalar_no kinds.Int64 bytes = int64_no bytes
scalar_no kinds.MinKey bytes = ok_no _
scalar_no kinds.MaxKey bytes = ok_no _

-- ---- documents and arrays

abbrev Reader : Type 0
Reader = Kind → List ℕ → Read Tree

element_no : (read : Reader) → ((k : Kind) (bytes : List ℕ) → IsNoMemory (read k bytes))
    → (wrong : List ℕ → Bool) (fault : BsonFault) (type : ℕ) (bytes : List ℕ) → fault ≢ faults.Memory
    → IsNoMemory (element_by read wrong fault type bytes)
unfolding element_by
element_no read inner wrong fault type bytes other =
    then_no (kind_of type) _ (kind_no type)
    (λ k. then_no (name_at bytes) _ (name_no bytes)
    (λ name. then_no (unless (wrong name.0) fault (read k name.1)) _ (unless_no (wrong name.0) fault (read k name.1) other (inner k name.1))
    (λ value. (ok_no _))))

item_no : (read : Reader) → ((k : Kind) (bytes : List ℕ) → IsNoMemory (read k bytes)) → (i type : ℕ) (bytes : List ℕ) → IsNoMemory (item_by read i type bytes)
unfolding item_by
item_no read inner i type bytes =
    then_no (element_by read (is_no_index i) faults.ArrayName type bytes) _
    (element_no read inner (is_no_index i) faults.ArrayName type bytes (λ e. absurd cc)) (λ first. (ok_no _))

pairs_no : (read : Reader) → ((k : Kind) (bytes : List ℕ) → IsNoMemory (read k bytes)) → (most : ℕ) (earlier : List (List ℕ)) (bytes : List ℕ)
    → IsNoMemory (pairs_by read most earlier bytes)
unfolding pairs_by
pairs_no read inner zero earlier [] = ok_no _
pairs_no read inner (suc most) earlier [] = ok_no _
pairs_no read inner zero earlier (type ∷ bytes) = err_no _ (λ e. absurd cc)
pairs_no read inner (suc most) earlier (type ∷ bytes) =
    then_no (element_by read (stands_in earlier) faults.Repeated type bytes) _
    (element_no read inner (stands_in earlier) faults.Repeated type bytes (λ e. absurd cc))
    (λ first. then_no (pairs_by read most (earlier ++ first.0.0 ∷ []) first.1) _ (pairs_no read inner most (earlier ++ first.0.0 ∷ []) first.1)
    (λ others. (ok_no _)))

items_no : (read : Reader) → ((k : Kind) (bytes : List ℕ) → IsNoMemory (read k bytes)) → (most i : ℕ) (bytes : List ℕ) → IsNoMemory (items_by read most i bytes)
unfolding items_by
items_no read inner zero i [] = ok_no _
items_no read inner (suc most) i [] = ok_no _
items_no read inner zero i (type ∷ bytes) = err_no _ (λ e. absurd cc)
items_no read inner (suc most) i (type ∷ bytes) =
    then_no (item_by read i type bytes) _ (item_no read inner i type bytes)
    (λ first. then_no (items_by read most (i + 1) first.1) _ (items_no read inner most (i + 1) first.1) (λ others. (ok_no _)))

leaf_no : (k : Kind) (bytes : List ℕ) → IsNoMemory (leaf (scalar_at k bytes))
leaf_no k bytes = then_no (scalar_at k bytes) _ (scalar_no k bytes) (λ s. (ok_no _))

value_no : (more : ℕ) (k : Kind) (bytes : List ℕ) → IsNoMemory (value_at more k bytes)
unfolding value_at
value_no zero kinds.Document bytes = err_no _ (λ e. absurd cc)
value_no (suc more) kinds.Document bytes =
    then_no (content_at bytes) _ (content_no bytes)
    (λ content. then_no (pairs_in (value_at more) content.0) _ (pairs_no (value_at more) (value_no more) (length content.0) [] content.0) (λ ps. (ok_no _)))
value_no zero kinds.Array bytes = err_no _ (λ e. absurd cc)
value_no (suc more) kinds.Array bytes =
    then_no (content_at bytes) _ (content_no bytes)
    (λ content. then_no (items_in (value_at more) content.0) _ (items_no (value_at more) (value_no more) (length content.0) 0 content.0) (λ ts. (ok_no _)))
value_no zero kinds.String bytes = leaf_no kinds.String bytes
value_no (suc more) kinds.String bytes = leaf_no kinds.String bytes
value_no zero kinds.Binary bytes = leaf_no kinds.Binary bytes
value_no (suc more) kinds.Binary bytes = leaf_no kinds.Binary bytes
value_no zero kinds.ObjectId bytes = leaf_no kinds.ObjectId bytes
value_no (suc more) kinds.ObjectId bytes = leaf_no kinds.ObjectId bytes
value_no zero kinds.Bool bytes = leaf_no kinds.Bool bytes
value_no (suc more) kinds.Bool bytes = leaf_no kinds.Bool bytes
value_no zero kinds.Date bytes = leaf_no kinds.Date bytes
value_no (suc more) kinds.Date bytes = leaf_no kinds.Date bytes
value_no zero kinds.Null bytes = leaf_no kinds.Null bytes
value_no (suc more) kinds.Null bytes = leaf_no kinds.Null bytes
value_no zero kinds.Int32 bytes = leaf_no kinds.Int32 bytes
value_no (suc more) kinds.Int32 bytes = leaf_no kinds.Int32 bytes
value_no zero kinds.Timestamp bytes = leaf_no kinds.Timestamp bytes
value_no (suc more) kinds.Timestamp bytes = leaf_no kinds.Timestamp bytes
value_no zero kinds.Int64 bytes = leaf_no kinds.Int64 bytes
value_no (suc more) kinds.Int64 bytes = leaf_no kinds.Int64 bytes
value_no zero kinds.MinKey bytes = leaf_no kinds.MinKey bytes
value_no (suc more) kinds.MinKey bytes = leaf_no kinds.MinKey bytes
value_no zero kinds.MaxKey bytes = leaf_no kinds.MaxKey bytes
value_no (suc more) kinds.MaxKey bytes = leaf_no kinds.MaxKey bytes

pub document_no : (bytes : List ℕ) → IsNoMemory (document_at bytes)
unfolding document_at length_at
document_no bytes =
    then_no (length_at bytes) _
    (unless_no _ faults.Truncated _ (λ e. absurd cc)
    (unless_no _ faults.Length _ length_no (unless_no _ faults.TooLarge _ (λ e. absurd cc) (unless_no _ faults.Truncated _ (λ e. absurd cc) (ok_no _)))))
    (λ len. then_no (ended_at faults.Length (len - 5) (drop 4 bytes)) _ (ended_no faults.Length (len - 5) (drop 4 bytes) length_no)
    (λ content. then_no (pairs_in (value_at 99) content.0) _ (pairs_no (value_at 99) (value_no 99) (length content.0) [] content.0) (λ ps. (ok_no _))))

-- a fault that reading gives is of the bytes
pub fault_no : (bytes : List ℕ) (e : BsonFault) → document_at bytes ≡ Err e → e ≢ faults.Memory
fault_no bytes e failed memory = (document_no bytes).never (failed ∙ ap (λ (d : BsonFault). Err d) memory)
