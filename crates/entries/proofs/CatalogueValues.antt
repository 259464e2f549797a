-- The catalogue's value of a collection with indexes, item by item.
use Rattle.std.proofs.Common.{◌≡◌, ℕ, ◌+◌, ◌<◌, ◌≤◌, List, [], ◌∷◌, ◌++◌, length, get_or, drop, Some, Result, Ok, Err, refl, sym, ap, subst, ◌∙◌, arith}
use Rattle.std.specs.Prelude.{IfOk}
use Rattle.std.specs.Global.{Vec}
use Rattle.std.specs.List.{AllByRecursion}
use Rattle.std.proofs.lemmas.List.{at_drop_more, drop_all}
use Rattle.bson.specs.Tree.{Pairs, document, Items, no_items, item, append_items}
use Rattle.bson.specs.Lawful.{IsArray}
use Rattle.bson.specs.Spelling.{frame_of, pairs_bytes, Spells as SpellsDocument}
use Rattle.bson.specs.View.{tree, items_of}
use Rattle.bson.specs.declared.value.Value.{Value}
use Rattle.index.specs.Definition.{Definition, IsDefinition}
use Rattle.index.specs.Catalogue.{spelled}
use Rattle.tree_model.specs.Keys.{Edit}
use Rattle.entries.specs.EditList.{with_edit, LeadsWith}
use Rattle.entries.specs.Indexed.{catalogue_put, NotesIndexesOf}
use Rattle.entry_model.specs.State.{Collection, put_collection}
use Rattle.entry_model.specs.StateEntries.{definition_items, Leads}
use Rattle.entries.proofs.IndexSteps.{notes_indexes}
use Rattle.entries.proofs.CatalogueEntries.{items_lawful, items_flat}

items_after : (vs : List Value) (v : Value) (us : Items) → append_items (items_of (vs ++ v ∷ [])) us ≡ append_items (items_of vs) (item (tree v) us)
items_after [] v us = refl
items_after (w ∷ vs) v us = ap (item (tree w)) (items_after vs v us)

behind_none : (ts : Items) → append_items ts no_items ≡ ts
behind_none no_items = refl
behind_none (item t ts) = ap (item t) (behind_none ts)

-- the list from a place on
pub from_there : {X : Type 0} (xs : List X) (i : ℕ) (x : X) → i < length xs → x ≡ get_or xs i x → drop i xs ≡ x ∷ drop (i + 1) xs
from_there xs i x below is = at_drop_more (λ ys. ys) xs i x below ∙ ap (λ y. y ∷ drop (i + 1) xs) (sym is)

pub item_more : (ds : List Definition) (i : ℕ) (d : Definition) (vs new : List Value) (v : Value) (whole : Items) → i < length ds → d ≡ get_or ds i d
    → new ≡ vs ++ v ∷ [] → tree v ≡ document (spelled d)
    → append_items (items_of vs) (definition_items (drop i ds)) ≡ whole → append_items (items_of new) (definition_items (drop (i + 1) ds)) ≡ whole
item_more ds i d vs new v whole below is grown spells so_far =
    let rest = definition_items (drop (i + 1) ds) in
    ap (λ (ws : List Value). append_items (items_of ws) rest) grown ∙ items_after vs v rest ∙ ap (λ t. append_items (items_of vs) (item t rest)) spells
    ∙ sym (ap (λ (es : List Definition). append_items (items_of vs) (definition_items es)) (from_there ds i d below is)) ∙ so_far

pub items_end : (ds : List Definition) (i : ℕ) (vs : List Value) (whole : Items) → length ds ≤ i
    → append_items (items_of vs) (definition_items (drop i ds)) ≡ whole → items_of vs ≡ whole
items_end ds i vs whole past so_far =
    sym (behind_none (items_of vs)) ∙ sym (ap (λ (es : List Definition). append_items (items_of vs) (definition_items es)) (drop_all i ds past)) ∙ so_far

pub lawful_more : (ds : List Definition) (i : ℕ) (d : Definition) → i < length ds → d ≡ get_or ds i d → IsDefinition d
    → (AllByRecursion IsDefinition (drop i ds) → AllByRecursion IsDefinition ds) → AllByRecursion IsDefinition (drop (i + 1) ds)
    → AllByRecursion IsDefinition ds
lawful_more ds i d below is lawful so_far later =
    so_far (subst (λ (es : List Definition). AllByRecursion IsDefinition es) (sym (from_there ds i d below is)) (lawful, later))

pub lawful_end : (ds : List Definition) (i : ℕ) → length ds ≤ i → (AllByRecursion IsDefinition (drop i ds) → AllByRecursion IsDefinition ds)
    → AllByRecursion IsDefinition ds
lawful_end ds i past so_far = so_far (subst (λ (es : List Definition). AllByRecursion IsDefinition es) (sym (drop_all i ds past)) tt)

pub definitions_array : (ds : List Definition) → AllByRecursion IsDefinition ds → IsArray (definition_items ds)
definitions_array ds h = record { lawful = items_lawful ds h; depth = omega (arith, items_flat ds) }

-- ---- its bytes

pub short_bytes : {E : Type 0} (r : Result (Vec ℕ) E) (d : Pairs) → length (frame_of (pairs_bytes d)) ≤ 65535 → IfOk r (λ b. SpellsDocument b.items d)
    → IfOk r (λ b. length b.items ≤ 65535)
short_bytes (Ok b) d small h = let e : length b.items ≡ length (frame_of (pairs_bytes d)) = ap length h.spelled in omega (arith, e, small)
short_bytes (Err e) d small h = h

pub some_short : (bytes x : List ℕ) → length bytes ≤ 65535 → Some bytes ≡ Some x → length x ≤ 65535
some_short bytes x short e = let same : bytes ≡ x = cc in subst (λ (ys : List ℕ). length ys ≤ 65535) same short

-- ---- its put

pub edit_is : (old new : List Edit) (k l v w : List ℕ) → k ≡ l → v ≡ w → new ≡ with_edit (record { key = k; value = Some v }) old
    → new ≡ with_edit (record { key = l; value = Some w }) old
edit_is old new k l v w keys values made = made ∙ (λ t. with_edit (record { key = keys t; value = Some (values t) }) old)

pub notes_of : (old new : List Edit) (name : List ℕ) (number : ℕ) (is : List Definition) → LeadsWith old (catalogue_put name number is) new
    → NotesIndexesOf old new name number is
notes_of old new name number is leads a b c lead named num alike may =
    let now : Collection = record c { indexes = is } in
    leads a b (put_collection now b) lead
    (subst (λ (e : Edit). Leads (e ∷ []) b (put_collection now b)) (λ t. catalogue_put (named t) (num t) is) (notes_indexes c is alike b may))
