-- Documents of an insert that get an `_id`, one after the other.
use Rattle.std.proofs.Common.{◌≡◌, ℕ, suc, ◌+◌, ◌<◌, ◌≤◌, Bool, true, false, List, [], ◌∷◌, ◌++◌, length, drop, slice_index_or, Option, Some, None, refl}
use Rattle.std.proofs.Common.{ap, sym, ◌∙◌, codes, arith}
use Rattle.std.specs.Option.{option_map}
use Rattle.std.specs.Prelude.{◌||◌, is_none, is_some, if◌then◌else◌}
use Rattle.std.specs.Str.{bytes_eq}
use Rattle.std.proofs.lemmas.List.{drop_all}
use Rattle.bson.specs.Edits.{put}
use Rattle.bson.specs.EditPlaces.{append_items-one, append_items-none}
use Rattle.bson.specs.EditsLaws.{IsDocument-pair}
use Rattle.bson.specs.Lawful.{levels, pairs_levels, IsDocument}
use Rattle.bson.specs.Lookup.{lookup}
use Rattle.bson.specs.Tree.{Tree, scalar, document, array, object_id, Pairs, no_pairs, pair, append, Items, no_items, item, append_items}
use Rattle.bson.specs.View.{tree, pairs_of, items_of}
use Rattle.bson.specs.declared.value.Pair.{Pair}
use Rattle.bson.specs.declared.value.Value.{Value}
use Rattle.driver_replies.specs.NewIds.{document_with_id, value_with_id, with_ids, insert_with_ids, lack_ids}
use Rattle.driver_replies.specs.Writes.{fresh_id, next_ids}
use Rattle.driver_replies.specs.declared.fresh_ids.FreshIds.{FreshIds}
use Rattle.driver_replies.proofs.FieldLemmas.{lacks}
use Rattle.driver_replies.proofs.ListingLemmas.{next}

-- ---- a document that gets one

pub none_found : {X Y : Type 0} (f : X → Y) (found : Option X) (o : Option Y) → option_map f found ≡ o → is_some found ≡ false → o ≡ None
none_found f None o e n = sym e
none_found f (Some x) o e n = absurd cc

pairs_of-append : (xs ys : List Pair) → pairs_of (xs ++ ys) ≡ append (pairs_of xs) (pairs_of ys)
pairs_of-append [] ys = refl
pairs_of-append (x ∷ xs) ys = ap (pair x.name (tree x.value)) (pairs_of-append xs ys)

-- one pair, and the others behind it
pub in_front : (name : List ℕ) (t : Tree) (ps : Pairs) (front others all : List Pair) → pairs_of front ≡ pair name t no_pairs → pairs_of others ≡ ps
    → all ≡ front ++ others → pairs_of all ≡ pair name t ps
in_front name t ps front others all one rest is =
    ap pairs_of is
    ∙ pairs_of-append front others
    ∙ ap (λ (qs : Pairs). append qs (pairs_of others)) one
    ∙ ap (pair name t) rest

pub front_lawful : (name : List ℕ) (t : Tree) (ps : Pairs) → IsDocument (pair name t no_pairs) → IsDocument ps → lookup ps name ≡ None
    → IsDocument (pair name t ps)
front_lawful name t ps front others new =
    IsDocument-pair name t ps front.lawful.0 front.lawful.1 (omega (arith, front.depth)) (lacks ps name new) others

id_levels : (id : List ℕ) (ps : Pairs) → pairs_levels (document_with_id id ps) ≤ pairs_levels ps
id_levels id ps = at (is_none (lookup ps (codes "_id")))
  where
    at : (b : Bool) → pairs_levels (if b then pair (codes "_id") (scalar (object_id id)) ps else ps) ≤ pairs_levels ps
    at true = omega arith
    at false = omega arith

pub id_is_flat : (id : List ℕ) (ps made : Pairs) → levels (document ps) ≤ 98 → made ≡ document_with_id id ps → suc (pairs_levels made) ≤ 98
id_is_flat id ps made short is =
    let as_deep : pairs_levels made ≡ pairs_levels (document_with_id id ps) = ap pairs_levels is in
    omega (arith, as_deep, id_levels id ps, short)

-- ---- one after the other

pub given_one : (made grown all : Items) (ids later : FreshIds) (vs : List Value) (i : ℕ) (v : Value) → i < length vs
    → grown ≡ append_items made (item (value_with_id (fresh_id ids) (tree (slice_index_or vs i v))) no_items) → later ≡ next_ids ids
    → append_items made (with_ids ids (items_of (drop i vs))) ≡ all → append_items grown (with_ids later (items_of (drop (i + 1) vs))) ≡ all
given_one made grown all ids later vs i v h is on left =
    let rest = with_ids (next_ids ids) (items_of (drop (i + 1) vs)) in
    ap (λ (x : FreshIds). append_items grown (with_ids x (items_of (drop (i + 1) vs)))) on
    ∙ ap (λ (ts : Items). append_items ts rest) is
    ∙ append_items-one made (value_with_id (fresh_id ids) (tree (slice_index_or vs i v))) rest
    ∙ sym (ap (λ (ts : Items). append_items made (with_ids ids ts)) (next vs i v h))
    ∙ left

pub given_all : (made all : Items) (ids : FreshIds) (vs : List Value) (i : ℕ) → length vs ≤ i
    → append_items made (with_ids ids (items_of (drop i vs))) ≡ all → made ≡ all
given_all made all ids vs i h left =
    sym (append_items-none made)
    ∙ sym (ap (λ (ws : List Value). append_items made (with_ids ids (items_of ws))) (drop_all i vs h))
    ∙ left

-- ---- where all have one, nothing is changed

all_there : (ids : FreshIds) (ts : Items) → lack_ids ts ≡ false → with_ids ids ts ≡ ts
all_there ids no_items e = refl
all_there ids (item (scalar s) ts) e = ap (item (scalar s)) (all_there (next_ids ids) ts e)
all_there ids (item (array us) ts) e = ap (item (array us)) (all_there (next_ids ids) ts e)
all_there ids (item (document ps) ts) e = at (is_none (lookup ps (codes "_id"))) e (all_there (next_ids ids) ts)
  where
    at : (b : Bool) → (b || lack_ids ts) ≡ false → (lack_ids ts ≡ false → with_ids (next_ids ids) ts ≡ ts)
        → item (document (if b then pair (codes "_id") (scalar (object_id (fresh_id ids))) ps else ps)) (with_ids (next_ids ids) ts) ≡ item (document ps) ts
    at true e later = absurd cc
    at false e later = ap (item (document ps)) (later e)

put_same : (ps : Pairs) (name : List ℕ) (t : Tree) → lookup ps name ≡ Some t → put ps name t ≡ ps
put_same no_pairs name t e = absurd cc
put_same (pair other u ps) name t e = at (bytes_eq name other) e (put_same ps name t)
  where
    at : (b : Bool) → (if b then Some u else lookup ps name) ≡ Some t → (lookup ps name ≡ Some t → put ps name t ≡ ps)
        → (if b then pair other t ps else pair other u (put ps name t)) ≡ pair other u ps
    at true e later = let same : t ≡ u = cc in ap (λ (v : Tree). pair other v ps) same
    at false e later = ap (pair other u) (later e)

pub stays : (ids : FreshIds) (body : Pairs) (ts : Items) → lookup body (codes "documents") ≡ Some (array ts) → lack_ids ts ≡ false
    → body ≡ insert_with_ids ids (lookup body (codes "documents")) body
stays ids body ts there none =
    sym (ap (λ (x : Option Tree). insert_with_ids ids x body) there
    ∙ ap (λ (us : Items). put body (codes "documents") (array us)) (all_there ids ts none)
    ∙ put_same body (codes "documents") (array ts) there)
