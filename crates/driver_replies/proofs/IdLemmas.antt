-- Numbers of cursors that are taken one after the other.
use Rattle.std.proofs.Common.{◌≡◌, ℕ, ◌+◌, ◌<◌, ◌≤◌, List, ◌∷◌, length, drop, slice_index_or, Option, Some, None, refl, ap, sym, ◌∙◌, add-one, drop-cons}
use Rattle.std.specs.Prelude.{ℤ}
use Rattle.std.specs.Option.{option_map}
use Rattle.std.proofs.lemmas.List.{drop_all}
use Rattle.bson.specs.Tree.{Tree, Items, no_items, item, append_items}
use Rattle.bson.specs.EditPlaces.{append_items-one, append_items-none}
use Rattle.bson.specs.View.{tree, items_of}
use Rattle.bson.specs.declared.value.Value.{Value}
use Rattle.driver_replies.specs.Cursors.{number_of, with_id, wide_ids}
use Rattle.driver_replies.specs.Fields.{long}

one_more : (made : Items) (t : Tree) (others : Option Items)
    → option_map (append_items (append_items made (item t no_items))) others ≡ option_map (append_items made) (option_map (item t) others)
one_more made t None = refl
one_more made t (Some us) = ap Some (append_items-one made t us)

next : (vs : List Value) (i : ℕ) (v : Value) → i < length vs → items_of (drop i vs) ≡ item (tree (slice_index_or vs i v)) (items_of (drop (i + 1) vs))
next vs i v h =
    let parts : drop i vs ≡ slice_index_or vs i v ∷ drop (i + 1) vs = rw (add-one, drop-cons vs i v) refl in
    ap items_of parts

-- what is left, behind one number more
pub ids_step : (made grown : Items) (vs : List Value) (i : ℕ) (v : Value) (z : ℤ) (all : Option Items) → i < length vs
    → number_of (tree (slice_index_or vs i v)) ≡ Some z → grown ≡ append_items made (item (long z) no_items)
    → option_map (append_items made) (wide_ids (items_of (drop i vs))) ≡ all → option_map (append_items grown) (wide_ids (items_of (drop (i + 1) vs))) ≡ all
ids_step made grown vs i v z all h is made_is left =
    let others = wide_ids (items_of (drop (i + 1) vs)) in
    ap (λ (us : Items). option_map (append_items us) others) made_is
    ∙ one_more made (long z) others
    ∙ sym (ap (λ (x : Option ℤ). option_map (append_items made) (with_id x others)) is)
    ∙ sym (ap (λ (us : Items). option_map (append_items made) (wide_ids us)) (next vs i v h))
    ∙ left

-- one that is no number
pub ids_none : (made : Items) (vs : List Value) (i : ℕ) (v : Value) (all : Option Items) → i < length vs → number_of (tree (slice_index_or vs i v)) ≡ None
    → option_map (append_items made) (wide_ids (items_of (drop i vs))) ≡ all → None ≡ all
ids_none made vs i v all h is left =
    let others = wide_ids (items_of (drop (i + 1) vs)) in
    sym (ap (λ (x : Option ℤ). option_map (append_items made) (with_id x others)) is)
    ∙ sym (ap (λ (us : Items). option_map (append_items made) (wide_ids us)) (next vs i v h))
    ∙ left

pub ids_done : (made : Items) (vs : List Value) (i : ℕ) (all : Option Items) → length vs ≤ i
    → option_map (append_items made) (wide_ids (items_of (drop i vs))) ≡ all → Some made ≡ all
ids_done made vs i all h left =
    ap Some (sym (append_items-none made))
    ∙ sym (ap (λ (ws : List Value). option_map (append_items made) (wide_ids (items_of ws))) (drop_all i vs h))
    ∙ left
