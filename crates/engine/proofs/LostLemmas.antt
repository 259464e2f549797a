-- Documents that a delete takes away: without them, by their `_id`s, the documents before are those that are left.
use Rattle.std.proofs.Common.{◌≡◌, ℕ, zero, suc, ◌<◌, Bool, true, false, List, [], ◌∷◌, ◌++◌, length, get_or, Option, Some, None, refl, sym, ap, subst, ◌∙◌}
use Rattle.std.proofs.Common.{arith}
use Rattle.std.specs.Prelude.{not, if◌then◌else◌, All}
use Rattle.std.specs.List.{filter, position}
use Rattle.std.specs.Ordering.{is_eq}
use Rattle.std.specs.declared.cmp.Ordering.{Ordering}
use Rattle.std.specs.declared.cmp.Ordering.TheVariants as orders
use Rattle.std.proofs.lemmas.List.Elements.{All-append, All-cons, All-filter, All-head, All-tail}
use Rattle.std.proofs.lemmas.List.Quantifiers.{position-Some}
use Rattle.bson.specs.Tree.{Pairs, no_pairs}
use Rattle.filter.specs.Matches.{matches}
use Rattle.value_order.specs.Order.{compare}
use Rattle.value_order.specs.TotalLaws.{compare_total}
use Rattle.command_model.specs.Delete.{Deletion}
use Rattle.entry_model.specs.Documents.{without_document}
use Rattle.entry_model.specs.LawfulState.{IsRising, IsStorable}
use Rattle.entry_model.specs.State.{Collection}
use Rattle.entry_model.specs.StateReads.{find_document}
use Rattle.database_model.specs.Delete.{without_at, after_deletion, after_deletions}
use Rattle.database_model.specs.Documents.{key_of}
use Rattle.database_model.specs.Lawful.{IsHeld}
use Rattle.statements.specs.Redoing.{without_each, taken_at, taken, all_taken}
use Rattle.engine.specs.TakingOut.{AreThere}
use Rattle.engine.proofs.Deleting.{left_apart, left_kept}
use Rattle.statements.proofs.EditPlaceLemmas.{goes_first, passes_by, storable, without_place}
use Rattle.database_model.proofs.Ordered.{flipped, rises_tail}
use Rattle.engine.proofs.TakingOutLemmas.{first_there}

pub without_more : (xs ys ds : List Pairs) → without_each (xs ++ ys) ds ≡ without_each ys (without_each xs ds)
without_more [] ys ds = refl
without_more (x ∷ xs) ys ds = without_more xs ys (without_document (key_of x) ds)

-- all of them
pub without_all : (ds : List Pairs) → without_each ds ds ≡ []
without_all [] = refl
without_all (d ∷ ds) = ap (without_each ds) (goes_first d ds) ∙ without_all ds

-- ---- what is taken away leaves the rest

taken_place : (o : Option ℕ) (ds : List Pairs) → ((i : ℕ) → o ≡ Some i → i < length ds) → IsRising ds → without_each (taken_at o ds) ds ≡ without_at o ds
taken_place None ds within up = refl
taken_place (Some i) ds within up = without_place ds i up (within i refl)

abbrev Above : Pairs → Pairs → Type 0
Above d x = compare (key_of d) (key_of x) ≡ orders.Less

-- those of greater `_id`s aren't the first
passes_each : (gone : List Pairs) (d : Pairs) (ds : List Pairs) → All (Above d) gone → without_each gone (d ∷ ds) ≡ d ∷ without_each gone ds
passes_each [] d ds above = refl
passes_each (x ∷ gone) d ds above =
    ap (without_each gone) (passes_by (key_of x) d ds (All-head (Above d) x gone above))
    ∙ passes_each gone d (without_document (key_of x) ds) (All-tail (Above d) x gone above)

taken_filter : (p : Pairs → Bool) (ds : List Pairs) → IsRising ds → without_each (filter p ds) ds ≡ filter (λ d. not (p d)) ds
taken_filter p [] up = refl
taken_filter p (d ∷ ds) up = at (p d) refl (taken_filter p ds (rises_tail compare key_of d ds up))
  where
    above : All (Above d) ds
    above k x below = up 0 (suc k) x (omega arith) (omega (arith, below))

    at : (b : Bool) → p d ≡ b → without_each (filter p ds) ds ≡ filter (λ x. not (p x)) ds
        → without_each (filter p (d ∷ ds)) (d ∷ ds) ≡ filter (λ x. not (p x)) (d ∷ ds)
    at true e later = rw e (ap (without_each (filter p ds)) (goes_first d ds) ∙ later)
    at false e later =
        rw e (passes_each (filter p ds) d ds (All-filter p (Above d) ds above) ∙ ap (λ (xs : List Pairs). d ∷ xs) later)

by_taken : (d : Deletion) (ds : List Pairs) → IsRising ds → without_each (taken d ds) ds ≡ after_deletion d ds
by_taken d ds up = at d.only_first
  where
    at : (b : Bool) → without_each (if b then taken_at (position (matches d.filter) ds) ds else filter (matches d.filter) ds) ds
        ≡ (if b then without_at (position (matches d.filter) ds) ds else filter (λ x. not (matches d.filter x)) ds)
    at true = taken_place (position (matches d.filter) ds) ds (λ i e. (position-Some (matches d.filter) ds i no_pairs e).0) up
    at false = taken_filter (matches d.filter) ds up

pub all_lost : (deletions : List Deletion) (ds : List Pairs) → IsRising ds → without_each (all_taken deletions ds) ds ≡ after_deletions deletions ds
all_lost [] ds up = refl
all_lost (d ∷ rest) ds up =
    without_more (taken d ds) (all_taken rest (after_deletion d ds)) ds
    ∙ ap (without_each (all_taken rest (after_deletion d ds))) (by_taken d ds up)
    ∙ all_lost rest (after_deletion d ds) (left_apart (λ x y. compare (key_of x) (key_of y) ≡ orders.Less) (d ∷ []) ds up)

-- ---- what is taken away is there

there_more : (xs ys ds : List Pairs) → AreThere xs ds → AreThere ys (without_each xs ds) → AreThere (xs ++ ys) ds
there_more [] ys ds first later = later
there_more (x ∷ xs) ys ds first later = (first.0, there_more xs ys (without_document (key_of x) ds) first.1 later)

-- those of greater `_id`s are behind the first
found_behind : (x d : Pairs) (ds : List Pairs) → Above d x → find_document (d ∷ ds) (key_of x) ≡ find_document ds (key_of x)
found_behind x d ds above =
    ap (λ (o : Ordering). if is_eq o then Some d else find_document ds (key_of x)) (flipped compare_total (key_of d) (key_of x) orders.Less above)

there_behind : (gone : List Pairs) (d : Pairs) (ds : List Pairs) → All (Above d) gone → AreThere gone ds → AreThere gone (d ∷ ds)
there_behind [] d ds above there = tt
there_behind (x ∷ gone) d ds above there =
    let here = All-head (Above d) x gone above in (
      found_behind x d ds here ∙ there.0,
      subst (AreThere gone) (sym (passes_by (key_of x) d ds here))
          (there_behind gone d (without_document (key_of x) ds) (All-tail (Above d) x gone above) there.1),
    )

-- each document of a list in order is found by its `_id`
pub each_found : (ds : List Pairs) → IsRising ds → All (λ d. find_document ds (key_of d) ≡ Some d) ds
each_found [] up = λ k d below. absurd (omega (arith, below))
each_found (x ∷ xs) up = stands (each_found xs (rises_tail compare key_of x xs up))
  where
    stands : All (λ d. find_document xs (key_of d) ≡ Some d) xs → (k : ℕ) (d : Pairs) → k < length (x ∷ xs)
        → find_document (x ∷ xs) (key_of (get_or (x ∷ xs) k d)) ≡ Some (get_or (x ∷ xs) k d)
    stands later zero d below = first_there x xs
    stands later (suc k) d below = found_behind (get_or xs k d) x xs (up 0 (suc k) d (omega arith) below) ∙ later k d (omega (arith, below))

place_there : (o : Option ℕ) (ds : List Pairs) → ((i : ℕ) → o ≡ Some i → i < length ds) → IsRising ds → AreThere (taken_at o ds) ds
place_there None ds within up = tt
place_there (Some i) ds within up = (each_found ds up i no_pairs (within i refl), tt)

filter_there : (p : Pairs → Bool) (ds : List Pairs) → IsRising ds → AreThere (filter p ds) ds
filter_there p [] up = tt
filter_there p (d ∷ ds) up = at (p d) refl (filter_there p ds (rises_tail compare key_of d ds up))
  where
    above : All (Above d) ds
    above k x below = up 0 (suc k) x (omega arith) (omega (arith, below))

    at : (b : Bool) → p d ≡ b → AreThere (filter p ds) ds → AreThere (filter p (d ∷ ds)) (d ∷ ds)
    at true e later = rw e (first_there d ds, subst (AreThere (filter p ds)) (sym (goes_first d ds)) later)
    at false e later = rw e (there_behind (filter p ds) d ds (All-filter p (Above d) ds above) later)

by_there : (d : Deletion) (ds : List Pairs) → IsRising ds → AreThere (taken d ds) ds
by_there d ds up = at d.only_first
  where
    at : (b : Bool) → AreThere (if b then taken_at (position (matches d.filter) ds) ds else filter (matches d.filter) ds) ds
    at true = place_there (position (matches d.filter) ds) ds (λ i e. (position-Some (matches d.filter) ds i no_pairs e).0) up
    at false = filter_there (matches d.filter) ds up

pub all_there : (deletions : List Deletion) (ds : List Pairs) → IsRising ds → AreThere (all_taken deletions ds) ds
all_there [] ds up = tt
all_there (d ∷ rest) ds up =
    there_more (taken d ds) (all_taken rest (after_deletion d ds)) ds (by_there d ds up)
    (subst (AreThere (all_taken rest (after_deletion d ds))) (sym (by_taken d ds up))
    (all_there rest (after_deletion d ds) (left_apart (λ x y. compare (key_of x) (key_of y) ≡ orders.Less) (d ∷ []) ds up)))

-- ---- what holds of each document holds of those that are taken away

place_kept : (P : Pairs → Type 0) (o : Option ℕ) (ds : List Pairs) → ((i : ℕ) → o ≡ Some i → i < length ds) → All P ds → All P (taken_at o ds)
place_kept P None ds within h = λ k d below. absurd (omega (arith, below))
place_kept P (Some i) ds within h = All-cons P (get_or ds i no_pairs) [] (h i no_pairs (within i refl)) (λ k d below. absurd (omega (arith, below)))

by_all : (P : Pairs → Type 0) (d : Deletion) (ds : List Pairs) → All P ds → All P (taken d ds)
by_all P d ds h = at d.only_first
  where
    at : (b : Bool) → All P (if b then taken_at (position (matches d.filter) ds) ds else filter (matches d.filter) ds)
    at true = place_kept P (position (matches d.filter) ds) ds (λ i e. (position-Some (matches d.filter) ds i no_pairs e).0) h
    at false = All-filter (matches d.filter) P ds h

left_all : (P : Pairs → Type 0) (d : Deletion) (ds : List Pairs) → All P ds → All P (after_deletion d ds)
left_all P d ds h = left_kept P (d ∷ []) ds h

pub taken_kept : (P : Pairs → Type 0) (deletions : List Deletion) (ds : List Pairs) → All P ds → All P (all_taken deletions ds)
taken_kept P [] ds h = λ k d below. absurd (omega (arith, below))
taken_kept P (d ∷ rest) ds h =
    All-append P (taken d ds) (all_taken rest (after_deletion d ds)) (by_all P d ds h) (taken_kept P rest (after_deletion d ds) (left_all P d ds h))

-- ---- a delete

pub are_storable : (c : Collection) → IsHeld c → All IsStorable c.documents
are_storable c held k d below = storable (get_or c.documents k d) (held.lawful.stored k d below) (held.readable.documents k d below)
