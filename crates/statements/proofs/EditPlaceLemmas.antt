-- Documents in rising order: what putting one and taking one away by its `_id` are at its place.
use Rattle.std.proofs.Common.{◌≡◌, ℕ, zero, suc, ◌+◌, ◌<◌, ◌≤◌, List, [], ◌∷◌, length, get_or, set, insert, remove, Option, Some, None, refl, sym, ap, ◌∙◌}
use Rattle.std.proofs.Common.{arith}
use Rattle.std.specs.Prelude.{if◌then◌else◌, option_and_then, option_map}
use Rattle.std.specs.Cmp.{IsTotalOrder}
use Rattle.std.specs.Ordering.{is_eq}
use Rattle.std.specs.declared.cmp.Ordering.{Ordering}
use Rattle.std.specs.declared.cmp.Ordering.TheVariants as orders
use Rattle.std.proofs.lemmas.Cmp.{tied_itself}
use Rattle.std.proofs.lemmas.List.{get_or_default}
use Rattle.std.proofs.lemmas.List.Edits.{length-remove, get_or-remove_below, get_or-remove_above}
use Rattle.bson.specs.Lawful.{IsDocument}
use Rattle.bson.specs.Lookup.{lookup}
use Rattle.bson.specs.Tree.{Tree, scalar, document, array, Pairs, no_pairs}
use Rattle.value_order.specs.Order.{compare}
use Rattle.value_order.specs.TotalLaws.{compare_total}
use Rattle.update_model.specs.Stored.{id_name, no_array}
use Rattle.entry_model.specs.Documents.{put_document, without_document}
use Rattle.entry_model.specs.LawfulState.{IsRising, IsStorable}
use Rattle.entry_model.specs.State.{by_order}
use Rattle.database_model.specs.Documents.{key_of, place}
use Rattle.database_model.specs.Lawful.{IsStored}
use Rattle.database_model.specs.Places.{IsGap, by_key}
use Rattle.database_model.proofs.Ordered.{Rises, flipped, rises_tail}

-- ---- a stored document may be put

lookup_of : (o : Option Tree) (t : Tree) → option_and_then no_array o ≡ Some t → o ≡ Some t
lookup_of None t e = absurd cc
lookup_of (Some (scalar s)) t e = e
lookup_of (Some (document ps)) t e = e
lookup_of (Some (array ts)) t e = absurd cc

pub storable : (ps : Pairs) → IsStored ps → IsDocument ps → IsStorable ps
storable ps stored readable = record {
  lawful = readable;
  size = stored.size;
  depth = stored.depth;
  key = lookup_of (lookup ps id_name) (key_of ps) stored.key;
  short = stored.short;
}

-- ---- edits of lists

pub insert-remove : {X : Type 0} (xs : List X) (i : ℕ) (d : X) → i < length xs → insert (remove xs i) i (get_or xs i d) ≡ xs
insert-remove [] i d h = absurd (omega arith)
insert-remove (x ∷ xs) zero d h = refl
insert-remove {X} (x ∷ xs) (suc i) d h = ap (λ (ys : List X). x ∷ ys) (insert-remove xs i d (omega arith))

pub remove-set : {X : Type 0} (xs : List X) (i : ℕ) (x : X) → remove (set xs i x) i ≡ remove xs i
remove-set [] i x = refl
remove-set (y ∷ ys) zero x = refl
remove-set {X} (y ∷ ys) (suc i) x = ap (λ (zs : List X). y ∷ zs) (remove-set ys i x)

-- what is taken away from its place leaves a gap there
pub gap_left : {X K : Type 0} {R : K → K → Ordering} (o : IsTotalOrder R) (key : X → K) (xs : List X) (i : ℕ) (e : X) → Rises R key xs → i < length xs
    → IsGap (λ y. R (key y) (key (get_or xs i e))) (remove xs i) i
gap_left {X} {K} {R} o key xs i e up within = record {
  within = omega (arith, length-remove xs i within);
  before = λ k d from below. before k d below;
  after = after;
}
  where
    before : (k : ℕ) (d : X) → k < i → R (key (get_or (remove xs i) k d)) (key (get_or xs i e)) ≡ orders.Less
    before k d below =
        ap (λ (x : X). R (key x) (key (get_or xs i e))) (get_or-remove_below xs i d k below within)
        ∙ ap (λ (x : X). R (key (get_or xs k d)) (key x)) (sym (get_or_default xs i d e within)) ∙ up k i d below within

    after : (k : ℕ) (d : X) → i ≤ k → k < length (remove xs i) → R (key (get_or (remove xs i) k d)) (key (get_or xs i e)) ≡ orders.Greater
    after k d from below =
        let less : R (key (get_or xs i e)) (key (get_or xs (k + 1) d)) ≡ orders.Less =
        ap (λ (x : X). R (key x) (key (get_or xs (k + 1) d))) (sym (get_or_default xs i d e within))
        ∙ up i (k + 1) d (omega (arith, from)) (omega (arith, below, length-remove xs i within)) in
        ap (λ (x : X). R (key x) (key (get_or xs i e))) (get_or-remove_above xs i d k from within)
        ∙ flipped o (key (get_or xs i e)) (key (get_or xs (k + 1) d)) orders.Less less

-- ---- documents by their `_id`

gap_tail : (f : Pairs → Ordering) (x : Pairs) (xs : List Pairs) (i : ℕ) → IsGap f (x ∷ xs) (suc i) → IsGap f xs i
gap_tail f x xs i gap = record {
  within = omega (arith, gap.within);
  before = λ k d low high. gap.before (suc k) d (omega arith) (omega arith);
  after = λ k d low high. gap.after (suc k) d (omega arith) (omega arith);
}

pub put_gap : (ds : List Pairs) (i : ℕ) (new : Pairs) → IsGap (by_key (key_of new)) ds i → put_document new ds ≡ insert ds i new
put_gap [] zero new gap = refl
put_gap [] (suc i) new gap = absurd (omega (arith, gap.within))
put_gap (d ∷ ds) zero new gap =
    ap (λ (r : Ordering). by_order r (new ∷ d ∷ ds) (new ∷ ds) (d ∷ put_document new ds))
    (flipped compare_total (key_of d) (key_of new) orders.Greater (gap.after 0 d (omega arith) (omega arith)))
put_gap (d ∷ ds) (suc i) new gap =
    ap (λ (r : Ordering). by_order r (new ∷ d ∷ ds) (new ∷ ds) (d ∷ put_document new ds))
    (flipped compare_total (key_of d) (key_of new) orders.Less (gap.before 0 d (omega arith) (omega arith)))
    ∙ ap (λ (later : List Pairs). d ∷ later) (put_gap ds i new (gap_tail (by_key (key_of new)) d ds i gap))

-- the document of a place is put back there
pub put_back : (ds : List Pairs) (i : ℕ) → IsRising ds → i < length ds → put_document (get_or ds i no_pairs) (remove ds i) ≡ ds
put_back ds i up within =
    put_gap (remove ds i) i (get_or ds i no_pairs) (gap_left compare_total key_of ds i no_pairs up within) ∙ insert-remove ds i no_pairs within

-- another `_id` than the first
pub passes_by : (id : Tree) (d : Pairs) (ds : List Pairs) → compare (key_of d) id ≡ orders.Less → without_document id (d ∷ ds) ≡ d ∷ without_document id ds
passes_by id d ds less = ap (λ (r : Ordering). if is_eq r then ds else d ∷ without_document id ds) (flipped compare_total (key_of d) id orders.Less less)

pub goes_first : (d : Pairs) (ds : List Pairs) → without_document (key_of d) (d ∷ ds) ≡ ds
goes_first d ds = ap (λ (r : Ordering). if is_eq r then ds else d ∷ without_document (key_of d) ds) (tied_itself compare_total (key_of d))

-- the document of a place is taken away there
pub without_place : (ds : List Pairs) (i : ℕ) → IsRising ds → i < length ds → without_document (key_of (get_or ds i no_pairs)) ds ≡ remove ds i
without_place [] i up within = absurd (omega arith)
without_place (d ∷ ds) zero up within = goes_first d ds
without_place (d ∷ ds) (suc i) up within =
    passes_by (key_of (get_or ds i no_pairs)) d ds (up 0 (suc i) no_pairs (omega arith) within)
    ∙ ap (λ (later : List Pairs). d ∷ later) (without_place ds i (rises_tail compare key_of d ds up) (omega arith))

-- a document that was placed was put
pub put_where_placed : (new : Pairs) (ds next : List Pairs) → place (key_of new) new ds ≡ Some next → put_document new ds ≡ next
put_where_placed new [] next e = cc
put_where_placed new (d ∷ ds) next e = by (compare (key_of new) (key_of d)) (place (key_of new) new ds) (put_where_placed new ds) e
  where
    by : (o : Ordering) (later : Option (List Pairs)) → ((xs : List Pairs) → later ≡ Some xs → put_document new ds ≡ xs)
        → by_order o (Some (new ∷ d ∷ ds)) None (option_map (λ xs. d ∷ xs) later) ≡ Some next
        → by_order o (new ∷ d ∷ ds) (new ∷ ds) (d ∷ put_document new ds) ≡ next
    by orders.Less later h f = cc
    by orders.Equal later h f = absurd cc
    by orders.Greater None h f = absurd cc
    by orders.Greater (Some xs) h f = let same : d ∷ xs ≡ next = cc in ap (λ (ys : List Pairs). d ∷ ys) (h xs refl) ∙ same
