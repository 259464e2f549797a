-- The catalogue's document of a collection is one that BSON can spell, and tells its number and its indexes.
use Rattle.std.proofs.Common.{◌≡◌, ℕ, zero, suc, ◌+◌, ◌*◌, ◌<◌, ◌≤◌, Bool, true, false, ◌&&◌, nat_lt, List, [], ◌∷◌, ◌++◌, length, Option, Some, None, Ok, refl}
use Rattle.std.proofs.Common.{sym, ap, ◌∙◌, arith, codes, length-append}
use Rattle.std.specs.Prelude.{pos, slice_index, if◌then◌else◌}
use Rattle.std.specs.List.{AllByRecursion, list_any}
use Rattle.std.proofs.lemmas.Fmt.{length-decimal-le}
use Rattle.std.proofs.lemmas.Str.{IsUtf8-from_ascii}
use Rattle.std.proofs.lemmas.Int.{ints}
use Rattle.std.proofs.lemmas.Bool.Decides.{nat_tests}
use Rattle.outcome.specs.Outcome.{fault_or}
use Rattle.bson.specs.Tree.{scalar, int32, text, boolean, document, array, Pairs, no_pairs, pair, Items, no_items, item}
use Rattle.bson.specs.Lawful.{items_levels, NoZero, IsName, IsPairs, IsItems, IsDocument}
use Rattle.bson.specs.Spelling.{tree_bytes, pairs_bytes, items_bytes, frame_of, Spells as SpellsDocument}
use Rattle.bson.specs.SizingLaws.{frame_of-length, pairs_size-pair, items_size-item}
use Rattle.bson_bytes.proofs.TreeLaws.{one_spelling}
use Rattle.path.specs.Parts.{is_empty, begins_with_dollar, path_fault, parts_of}
use Rattle.path.specs.declared.fault.PathFault.{PathFault}
use Rattle.path.specs.declared.fault.PathFault.TheVariants as faults
use Rattle.value_order.specs.declared.texts.Direction.{Direction}
use Rattle.value_order.specs.declared.texts.Direction.TheVariants as directions
use Rattle.index.specs.Definition.{Field, Definition, direction_value, key_document, IsPath, IsDefinition}
use Rattle.index.specs.Catalogue.{spelled, definition_in}
use Rattle.entry_model.specs.State.{int}
use Rattle.entry_model.specs.StateEntries.{definition_items, catalogue_value}
use Rattle.index.proofs.CatalogueLemmas.{differ, key_levels}
use Rattle.index.proofs.CatalogueLaws.{reads_back}

-- ---- names

abbrev is_plain : List ℕ → Bool
is_plain [] = true
is_plain (b ∷ bs) = (nat_lt 0 b && nat_lt b 128) && is_plain bs

and_both : (a b : Bool) → (a && b) ≡ true → (a ≡ true) × (b ≡ true)
and_both true b e = (refl, e)
and_both false b e = absurd cc

plain_ascii : (bs : List ℕ) → is_plain bs ≡ true → (i : ℕ) → slice_index bs i < 128
plain_ascii [] e i = omega arith
plain_ascii (b ∷ bs) e zero =
    let low = (and_both (nat_lt 0 b) (nat_lt b 128) (and_both (nat_lt 0 b && nat_lt b 128) (is_plain bs) e).0).1 in grind (arith, nat_tests, low)
plain_ascii (b ∷ bs) e (suc i) = plain_ascii bs (and_both (nat_lt 0 b && nat_lt b 128) (is_plain bs) e).1 i

plain_zero : (bs : List ℕ) → is_plain bs ≡ true → NoZero bs
plain_zero [] e = tt
plain_zero (b ∷ bs) e =
    let parts = and_both (nat_lt 0 b && nat_lt b 128) (is_plain bs) e in
    let high = (and_both (nat_lt 0 b) (nat_lt b 128) parts.0).0 in
    let some : 0 < b = grind (arith, nat_tests, high) in
    (λ f. omega (arith, some, f), plain_zero bs parts.1)

pub plain_name : (bs : List ℕ) → is_plain bs ≡ true → IsName bs
plain_name bs e = record { is_text = IsUtf8-from_ascii bs (plain_ascii bs e); no_zero = plain_zero bs e }

-- ---- lawful

spelled_pairs : (d : Definition) → IsDefinition d → IsPairs (spelled d)
spelled_pairs d h = (
  plain_name (codes "i") refl,
  omega (arith, ints, h.most),
  (
    differ (codes "i") (codes "name") refl,
    (differ (codes "i") (codes "key") refl, (differ (codes "i") (codes "unique") refl, (differ (codes "i") (codes "multi") refl, tt))),
  ),
  (
    plain_name (codes "name") refl,
    h.is_text,
    (differ (codes "name") (codes "key") refl, (differ (codes "name") (codes "unique") refl, (differ (codes "name") (codes "multi") refl, tt))),
    (
      plain_name (codes "key") refl,
      h.fields.distinct,
      (differ (codes "key") (codes "unique") refl, (differ (codes "key") (codes "multi") refl, tt)),
      (plain_name (codes "unique") refl, tt, (differ (codes "unique") (codes "multi") refl, tt), (plain_name (codes "multi") refl, tt, tt, tt)),
    ),
  ),
)

pub items_lawful : (ds : List Definition) → AllByRecursion IsDefinition ds → IsItems (definition_items ds)
items_lawful [] h = tt
items_lawful (d ∷ ds) h = (spelled_pairs d h.0, items_lawful ds h.1)

pub items_flat : (ds : List Definition) → items_levels (definition_items ds) ≤ 2
items_flat [] = omega arith
items_flat (d ∷ ds) = omega (arith, items_flat ds, key_levels d.fields)

value_lawful : (n : ℕ) (ds : List Definition) → n ≤ 1000 → AllByRecursion IsDefinition ds → IsDocument (catalogue_value n ds)
value_lawful n ds most h = record {
  lawful = (
    plain_name (codes "n") refl,
    omega (arith, ints, most),
    (differ (codes "n") (codes "x") refl, tt),
    (plain_name (codes "x") refl, items_lawful ds h, tt, tt),
  );
  depth = omega (arith, items_flat ds);
}

-- ---- short

faultless : {X E : Type 0} (o : Option E) (x : X) → fault_or o x ≡ Ok x → o ≡ None
faultless None x e = refl
faultless (Some fault) x e = absurd cc

no_fault : (b : Bool) (e : PathFault) (o : Option PathFault) → (if b then Some e else o) ≡ None → (b ≡ false) × (o ≡ None)
no_fault true e o is = absurd cc
no_fault false e o is = (refl, is)

path_short : (path : List ℕ) → IsPath path → length path ≤ 255
path_short path h =
    let parts = parts_of path in
    let a = no_fault (is_empty path) faults.Empty _ (faultless (path_fault path parts) parts h) in
    let b = no_fault (list_any is_empty parts) faults.EmptyPart _ a.1 in
    let c = no_fault (list_any begins_with_dollar parts) faults.Dollar _ b.1 in
    let d = no_fault (nat_lt 255 (length path)) faults.TooLong _ c.1 in
    let small = d.0 in
    grind (arith, nat_tests, small)

way_size : (way : Direction) → length (tree_bytes (direction_value way)) ≡ 4
unfolding tree_bytes
way_size directions.Ascending = refl
way_size directions.Descending = refl

key_size : (fs : List Field) → AllByRecursion (λ f. IsPath f.path) fs → length (pairs_bytes (key_document fs)) ≤ 261 * length fs
unfolding pairs_bytes
key_size [] h = omega arith
key_size (f ∷ fs) h =
    omega (arith, pairs_size-pair f.path (direction_value f.direction) (key_document fs), way_size f.direction, path_short f.path h.0, key_size fs h.1)

int_size : (n : ℕ) → length (tree_bytes (int n)) ≡ 4
unfolding tree_bytes
int_size n = refl

pub text_size : (s : List ℕ) → length (tree_bytes (scalar (text s))) ≡ length s + 5
unfolding tree_bytes
text_size s = omega (arith, length-append s (0 ∷ []))

truth_size : (b : Bool) → length (tree_bytes (scalar (boolean b))) ≡ 1
unfolding tree_bytes
truth_size b = refl

document_size : (ps : Pairs) → length (tree_bytes (document ps)) ≡ length (pairs_bytes ps) + 5
unfolding tree_bytes
document_size ps = frame_of-length (pairs_bytes ps)

array_size : (ts : Items) → length (tree_bytes (array ts)) ≡ length (items_bytes 0 ts) + 5
unfolding tree_bytes
array_size ts = frame_of-length (items_bytes 0 ts)

none_size : length (pairs_bytes no_pairs) ≡ 0
unfolding pairs_bytes
none_size = refl

no_items_size : (i : ℕ) → length (items_bytes i no_items) ≡ 0
unfolding items_bytes
no_items_size i = refl

definition_size : (d : Definition) → IsDefinition d → length (tree_bytes (document (spelled d))) ≤ 1300
definition_size d h =
    let last = pair (codes "multi") (scalar (boolean d.is_multi)) no_pairs in
    let fourth = pair (codes "unique") (scalar (boolean d.is_unique)) last in
    let third = pair (codes "key") (document (key_document d.fields)) fourth in
    let second = pair (codes "name") (scalar (text d.name)) third in
    let a = pairs_size-pair (codes "multi") (scalar (boolean d.is_multi)) no_pairs in
    let b = pairs_size-pair (codes "unique") (scalar (boolean d.is_unique)) last in
    let c = pairs_size-pair (codes "key") (document (key_document d.fields)) fourth in
    let e = pairs_size-pair (codes "name") (scalar (text d.name)) third in
    let f = pairs_size-pair (codes "i") (int d.number) second in
    let key : length (pairs_bytes (key_document d.fields)) ≤ 1044 = omega (arith, key_size d.fields h.fields.paths, h.fields.most) in
    let tail : length (pairs_bytes fourth) ≤ 20 = omega (arith, a, b, truth_size d.is_multi, truth_size d.is_unique, none_size) in
    let middle : length (pairs_bytes third) ≤ 1080 = omega (arith, c, tail, key, document_size (key_document d.fields)) in
    omega (arith, document_size (spelled d), f, int_size d.number, e, text_size d.name, h.short, middle)

items_size : (i : ℕ) (ds : List Definition) → i + length ds ≤ 99 → AllByRecursion IsDefinition ds
    → length (items_bytes i (definition_items ds)) ≤ 1310 * length ds
items_size i [] few h = omega (arith, no_items_size i)
items_size i (d ∷ ds) few h =
    omega (
      arith,
      items_size-item i (document (spelled d)) (definition_items ds),
      definition_size d h.0,
      length-decimal-le 2 i (omega arith) (omega (arith, few)) (omega (arith, few)),
      items_size (i + 1) ds (omega (arith, few)) h.1,
    )

pub value_size : (n : ℕ) (ds : List Definition) → length ds ≤ 16 → AllByRecursion IsDefinition ds
    → length (frame_of (pairs_bytes (catalogue_value n ds))) ≤ 65535
value_size n ds few h =
    let last = pair (codes "x") (array (definition_items ds)) no_pairs in
    let a = pairs_size-pair (codes "x") (array (definition_items ds)) no_pairs in
    let b = pairs_size-pair (codes "n") (int n) last in
    let all : length (items_bytes 0 (definition_items ds)) ≤ 20960 = omega (arith, items_size 0 ds (omega (arith, few)) h, few) in
    omega (arith, frame_of-length (pairs_bytes (catalogue_value n ds)), b, int_size n, a, array_size (definition_items ds), all, none_size)

pub value_spells : (n : ℕ) (ds : List Definition) → n ≤ 1000 → length ds ≤ 16 → AllByRecursion IsDefinition ds
    → SpellsDocument (frame_of (pairs_bytes (catalogue_value n ds))) (catalogue_value n ds)
value_spells n ds most few h = record { lawful = value_lawful n ds most h; spelled = refl; size = omega (arith, value_size n ds few h) }

-- ---- what it tells

number_in : Pairs → ℕ
number_in (pair name (scalar (int32 (pos n))) ps) = n
number_in other = 0

items_in : Pairs → Items
items_in (pair name t (pair other (array ts) ps)) = ts
items_in other = no_items

first_pairs : Items → Pairs
first_pairs (item (document ps) ts) = ps
first_pairs other = no_pairs

later_items : Items → Items
later_items (item t ts) = ts
later_items no_items = no_items

definition_or : Definition → Option Definition → Definition
definition_or d None = d
definition_or d (Some e) = e

same_definition : (d e : Definition) → IsDefinition d → IsDefinition e → spelled d ≡ spelled e → d ≡ e
unfolding definition_or
same_definition d e h g same = ap (definition_or d) (sym (reads_back d h) ∙ ap definition_in same ∙ reads_back e g)

same_items : (is js : List Definition) → AllByRecursion IsDefinition is → AllByRecursion IsDefinition js → definition_items is ≡ definition_items js → is ≡ js
unfolding first_pairs later_items
same_items [] [] h g e = refl
same_items [] (j ∷ js) h g e = absurd cc
same_items (i ∷ is) [] h g e = absurd cc
same_items (i ∷ is) (j ∷ js) h g e = λ t. same_definition i j h.0 g.0 (ap first_pairs e) t ∷ same_items is js h.1 g.1 (ap later_items e) t

same_parts : (m n : ℕ) (is js : List Definition) → AllByRecursion IsDefinition is → AllByRecursion IsDefinition js
    → catalogue_value m is ≡ catalogue_value n js → (m ≡ n) × (is ≡ js)
unfolding number_in items_in
same_parts m n is js h g e = (ap number_in e, same_items is js h g (ap items_in e))

-- two collections of which the catalogue says the same have one number and the same indexes
pub same_value : (m n : ℕ) (is js : List Definition) → m ≤ 1000 → n ≤ 1000 → length is ≤ 16 → length js ≤ 16 → AllByRecursion IsDefinition is
    → AllByRecursion IsDefinition js
    → frame_of (pairs_bytes (catalogue_value m is)) ≡ frame_of (pairs_bytes (catalogue_value n js)) → (m ≡ n) × (is ≡ js)
same_value m n is js low high few short h g e =
    same_parts m n is js h g
    (one_spelling (frame_of (pairs_bytes (catalogue_value m is))) (frame_of (pairs_bytes (catalogue_value n js))) [] [] (catalogue_value m is)
    (catalogue_value n js)
    (value_spells m is low few h) (value_spells n js high short g) (ap (λ (xs : List ℕ). xs ++ []) e)).0
