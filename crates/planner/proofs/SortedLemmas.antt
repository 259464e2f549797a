-- An index that has the fields of a sort, and of each document one key, stands in the order of the sort.
use Rattle.std.proofs.Common.{◌≡◌, ℕ, Bool, true, false, List, [], ◌∷◌, ◌++◌, map, Some, None, inl, inr, refl, sym, ap, subst, ◌∙◌}
use Rattle.std.specs.Prelude.{◌&&◌, ◌||◌, not}
use Rattle.std.specs.List.{AllByRecursion, flat_map}
use Rattle.std.specs.Ordering.{ordering_then, ordering_reverse}
use Rattle.std.specs.declared.cmp.Ordering.{Ordering}
use Rattle.std.specs.declared.cmp.Ordering.TheVariants.{Less, Equal, Greater}
use Rattle.bson.specs.Tree.{scalar, document, array, no_items, item, Pairs}
use Rattle.path.specs.Parts.{parts_of}
use Rattle.path.specs.Reach.{Reached, reach}
use Rattle.value_order.specs.Order.{Key, compare, key_cmp}
use Rattle.value_order.specs.KeyText.{directed_cmp}
use Rattle.value_order.specs.declared.texts.Direction.{Direction}
use Rattle.value_order.specs.declared.texts.Direction.TheVariants.{Ascending, Descending}
use Rattle.sort.specs.Sort.{SortField, keys_of as sort_keys_of, key_among, sort_key, in_direction, compare_by}
use Rattle.index.specs.Definition.{Field}
use Rattle.index.specs.IndexKeys.{keys_of, or_missing, field_keys, index_keys, field_meets_array, is_multikey}
use Rattle.index.specs.Laws.{IsIndexKey, index_key_cmp}
use Rattle.entry_model.specs.LawfulState.{IsStorable}
use Rattle.entry_model.specs.State.{key_of}
use Rattle.entry_model.proofs.LawfulParts.{id_is_key}
use Rattle.entry_model.proofs.MemberLemmas.{Among, among_of, among_flat, among_map, of_all}
use Rattle.index.proofs.OrderLaws.{entries_order}
use Rattle.index.proofs.SpellableLaws.{keys_spellable}
use Rattle.planner.specs.AnswerLaws.{WalksInOrder}
use Rattle.plan_model.specs.Plan.{is_direction, is_sorted_at, sorts_as}
use Rattle.plan_model.specs.Usable.{is_path}
use Rattle.planner.proofs.AnswerLemmas.{document_is_key}
use Rattle.planner.proofs.KeyRangeLemmas.{one_of}
use Rattle.planner.proofs.UsableLemmas.{and_first, and_second, one_path}

-- ---- one field

same_keys : (r : Reached) → sort_keys_of r ≡ keys_of r
same_keys None = refl
same_keys (Some (array no_items)) = refl
same_keys (Some (array (item t ts))) = refl
same_keys (Some (scalar s)) = refl
same_keys (Some (document ps)) = refl

all_same : (rs : List Reached) → flat_map sort_keys_of rs ≡ flat_map keys_of rs
all_same [] = refl
all_same (r ∷ rs) = λ i. same_keys r i ++ all_same rs i

key_alone : (descending : Bool) (rs : List Reached) (k : Key) → flat_map keys_of (or_missing rs) ≡ k ∷ [] → key_among descending (flat_map sort_keys_of rs) ≡ k
key_alone descending [] k e = cc
key_alone descending (r ∷ rs) k e = ap (key_among descending) (all_same (r ∷ rs) ∙ e)

-- the one key of a document at a field is its sort key
sort_key_is : (s : SortField) (f : Field) (d : Pairs) (k : Key) → is_path (parts_of f.path) s.0 ≡ true → field_keys f.path d ≡ k ∷ [] → sort_key s d ≡ k
sort_key_is s f d k there alone =
    ap (λ (path : List (List ℕ)). key_among s.1 (flat_map sort_keys_of (reach path (document d)))) (sym (one_path (parts_of f.path) s.0 there))
    ∙ key_alone s.1 (reach (parts_of f.path) (document d)) k alone

turned : (o : Ordering) → ordering_reverse o ≡ in_direction true o
turned Less = refl
turned Equal = refl
turned Greater = refl

same_direction : (descending : Bool) (way : Direction) (a b : Key) → is_direction descending way ≡ true
    → directed_cmp way a b ≡ in_direction descending (key_cmp a b)
same_direction true Ascending a b e = absurd cc
same_direction false Ascending a b e = refl
same_direction true Descending a b e = turned (key_cmp a b)
same_direction false Descending a b e = absurd cc

-- ---- all fields

either_array : (a b : Bool) → (a || b) ≡ false → (a ≡ false) × (b ≡ false)
either_array true b e = absurd cc
either_array false b e = (refl, e)

abbrev Begins : Field → List Field → Pairs → List Key → Type 0
Begins f fs d ks = (k : Key) × (rest : List Key) × (ks ≡ k ∷ rest) × (field_keys f.path d ≡ k ∷ []) × Among rest (index_keys fs d)

first_of : (f : Field) (fs : List Field) (d : Pairs) (ks : List Key) → field_meets_array d f ≡ false → Among ks (index_keys (f ∷ fs) d) → Begins f fs d ks
first_of f fs d ks single g =
    let alone = one_of f d single in
    let x = among_flat (λ k. map (λ rest. k ∷ rest) (index_keys fs d)) ks (field_keys f.path d) g in
    let y = among_map (λ rest. x.0 ∷ rest) ks (index_keys fs d) x.2 in
    let same : x.0 ≡ alone.0 = only x.0 alone.0 (subst (Among x.0) alone.1 x.1) in
    (x.0, y.0, y.2, alone.1 ∙ ap (λ (k : Key). k ∷ []) (sym same), y.1)
  where
    only : (a b : Key) → Among a (b ∷ []) → a ≡ b
    only a b (inl e) = e
    only a b (inr h) = absurd h

keys_sort : (sort : List SortField) (fs : List Field) (d e : Pairs) (ks ls : List Key) → sorts_as sort fs ≡ true → is_multikey fs d ≡ false
    → is_multikey fs e ≡ false
    → Among ks (index_keys fs d) → Among ls (index_keys fs e) → index_key_cmp fs ks ls ≡ compare_by sort d e
keys_sort [] [] d e ks ls same sd se gd ge = refl
keys_sort [] (f ∷ fs) d e ks ls same sd se gd ge = absurd cc
keys_sort (s ∷ sort) [] d e ks ls same sd se gd ge = absurd cc
keys_sort (s ∷ sort) (f ∷ fs) d e ks ls same sd se gd ge =
    let here = and_first (is_sorted_at s f) (sorts_as sort fs) same in
    let there = and_first (is_path (parts_of f.path) s.0) (is_direction s.1 f.direction) here in
    let way = and_second (is_path (parts_of f.path) s.0) (is_direction s.1 f.direction) here in
    let ad = either_array (field_meets_array d f) (is_multikey fs d) sd in
    let ae = either_array (field_meets_array e f) (is_multikey fs e) se in
    let k = first_of f fs d ks ad.0 gd in
    let l = first_of f fs e ls ae.0 ge in
    let later : index_key_cmp fs k.1 l.1 ≡ compare_by sort d e =
    keys_sort sort fs d e k.1 l.1 (and_second (is_sorted_at s f) (sorts_as sort fs) same) ad.1 ae.1 k.4 l.4 in
    (λ i. index_key_cmp (f ∷ fs) (k.2 i) (l.2 i))
    ∙ ap (λ (o : Ordering). ordering_then o (index_key_cmp fs k.1 l.1)) (same_direction s.1 f.direction k.0 l.0 way)
    ∙ (λ i. ordering_then (in_direction s.1 (key_cmp (sym (sort_key_is s f d k.0 there k.3) i) (sym (sort_key_is s f e l.0 there l.3) i))) (later i))

-- ---- entries

not_multi : (a b : Bool) → (not a && b) ≡ true → a ≡ false
not_multi true b e = absurd cc
not_multi false b e = refl

single_of : (a m : Bool) → (a ≡ true → m ≡ true) → m ≡ false → a ≡ false
single_of true m tells e = absurd (let f = tells refl in cc)
single_of false m tells e = refl

each_among : {X : Type 0} (P : X → Type 0) (xs : List X) (x : X) → AllByRecursion P xs → Among x xs → P x
each_among P [] x h g = absurd g
each_among P (y ∷ ys) x h (inl e) = subst P (sym e) h.0
each_among P (y ∷ ys) x h (inr g) = each_among P ys x h.1 g

pub walks_in_order : WalksInOrder
walks_in_order rs sort i ds d e ks ls collection sorted noted storable gd ge hk hl =
    let stored_d = of_all IsStorable ds d storable (among_of ds d gd) in
    let stored_e = of_all IsStorable ds e storable (among_of ds e ge) in
    let one_array = not_multi i.is_multi (sorts_as sort i.fields) sorted in
    let single_d =
    single_of (is_multikey i.fields d) i.is_multi (of_all (λ x. is_multikey i.fields x ≡ true → i.is_multi ≡ true) ds d noted (among_of ds d gd)) one_array in
    let single_e =
    single_of (is_multikey i.fields e) i.is_multi (of_all (λ x. is_multikey i.fields x ≡ true → i.is_multi ≡ true) ds e noted (among_of ds e ge)) one_array in
    let ak = among_of (index_keys i.fields d) ks hk in
    let al = among_of (index_keys i.fields e) ls hl in
    entries_order collection i.number i.fields ks ls (key_of d) (key_of e)
    (each_among (IsIndexKey i.fields) (index_keys i.fields d) ks (keys_spellable i.fields d (document_is_key d stored_d)) ak)
    (each_among (IsIndexKey i.fields) (index_keys i.fields e) ls (keys_spellable i.fields e (document_is_key e stored_e)) al)
    (id_is_key d stored_d) (id_is_key e stored_e)
    ∙ ap (λ (o : Ordering). ordering_then o (compare (key_of d) (key_of e)))
    (keys_sort sort i.fields d e ks ls (and_second (not i.is_multi) (sorts_as sort i.fields) sorted) single_d single_e ak al)
