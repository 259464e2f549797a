-- What a find chooses keeps what was kept of the documents.
use Rattle.std.proofs.Common.{◌≡◌, ◌≢◌, ℕ, zero, suc, min, ◌+◌, ◌-◌, ◌<◌, ◌≤◌, Bool, true, false, List, [], ◌∷◌, ◌++◌, length, get_or, take, drop, map, refl}
use Rattle.std.proofs.Common.{sym, ap, ◌∙◌, append_assoc, arith}
use Rattle.std.specs.Prelude.{◌^◌, nat_le, All}
use Rattle.std.specs.List.{filter}
use Rattle.std.proofs.lemmas.List.Elements.{All-filter, All-take, All-drop, All-map}
use Rattle.std.proofs.lemmas.List.{append-nil, drop_all, length-take, length-drop, take-map, drop-map, take_all, drop-take}
use Rattle.std.proofs.Math.Seq.{take-append_seam}
use Rattle.std.proofs.lemmas.Bool.Decides.{nat_tests}
use Rattle.bson.specs.Tree.{Pairs}
use Rattle.bson.specs.Spelling.{pairs_bytes}
use Rattle.bson.specs.SizingLaws.{frame_of-length}
use Rattle.filter.specs.Matches.{matches}
use Rattle.projection.specs.Projection.{Projection, project}
use Rattle.projection.specs.ProjectionLaws.{project_no_larger}
use Rattle.database_model.specs.Lawful.{IsStored, IsWithin}
use Rattle.sort.specs.Sort.{order}
use Rattle.replies.proofs.Steps.{drop_step}
use Rattle.queries.proofs.OrderingLemmas.{sorted_kept}
use Rattle.command_model.specs.Find.{Query}
use Rattle.database_model.specs.Find.{matching, limited, window, selection, query_result, given, FirstAreEnough}

limited_kept : {X : Type 0} (P : X → Type 0) (limit : ℕ) (xs : List X) → All P xs → All P (limited limit xs)
limited_kept P zero xs h = h
limited_kept P (suc n) xs h = All-take P (suc n) xs h

pub window_kept : {X : Type 0} (P : X → Type 0) (skip limit : ℕ) (xs : List X) → All P xs → All P (window skip limit xs)
window_kept P skip limit xs h = limited_kept P limit (drop skip xs) (All-drop P skip xs h)

pub chosen_kept : (P : Pairs → Type 0) (q : Query) (ds : List Pairs) → All P ds → All P (selection q ds)
chosen_kept P q ds h =
    window_kept P q.skip q.limit (order q.sort (matching q.filter ds)) (sorted_kept P _ (matching q.filter ds) (All-filter (matches q.filter) P ds h))

-- Of no documents none are given.
pub given_of_none : (q : Query) → given q [] ≡ []
given_of_none q = ap (map (project q.projection)) (at q.limit)
  where
    none : {X : Type 0} (skip : ℕ) → (let xs : List X = [] in drop skip xs) ≡ []
    none skip = drop_all skip [] (omega arith)

    at : (limit : ℕ) → (let ds : List Pairs = [] in limited limit (drop q.skip ds)) ≡ []
    at zero = none q.skip
    at (suc n) = ap (take (suc n)) (none q.skip)

-- ---- what is given is within the limits

pub stored_within : (ps : Pairs) → IsStored ps → IsWithin ps
stored_within ps h = record { size = h.size; depth = h.depth }

projected_within : (p : Projection) (ps : Pairs) → IsWithin ps → IsWithin (project p ps)
projected_within p ps h =
    let less = project_no_larger p ps in
    record {
      size = omega (arith, frame_of-length (pairs_bytes (project p ps)), frame_of-length (pairs_bytes ps), less.0, h.size);
      depth = omega (arith, less.1, h.depth);
    }

pub given_within : (p : Projection) (ds : List Pairs) → All IsWithin ds → All IsWithin (map (project p) ds)
given_within p ds h = All-map IsWithin (project p) ds (λ k d below. projected_within p (get_or ds k d) (h k d below))

pub found_within : (q : Query) (ds : List Pairs) → All IsStored ds → All IsWithin (query_result q ds)
found_within q ds h = given_within q.projection (selection q ds) (chosen_kept IsWithin q ds (λ k d below. stored_within (get_or ds k d) (h k d below)))

-- ---- a window

limited-map : {X Y : Type 0} (f : X → Y) (limit : ℕ) (xs : List X) → map f (limited limit xs) ≡ limited limit (map f xs)
limited-map f zero xs = refl
limited-map f (suc n) xs = sym (take-map f (suc n) xs)

pub window-map : {X Y : Type 0} (f : X → Y) (skip limit : ℕ) (xs : List X) → map f (window skip limit xs) ≡ window skip limit (map f xs)
window-map {X} {Y} f skip limit xs = limited-map f limit (drop skip xs) ∙ ap (λ (ys : List Y). limited limit ys) (sym (drop-map f skip xs))

pub window-length : {X : Type 0} (skip limit : ℕ) (xs : List X) → limit ≢ 0 → length (window skip limit xs) ≡ min limit (length xs - skip)
window-length skip zero xs some = absurd (some refl)
window-length skip (suc n) xs some = length-take (suc n) (drop skip xs) ∙ ap (λ (m : ℕ). min (suc n) m) (length-drop skip xs)

pub map-map : {X Y Z : Type 0} (g : Y → Z) (f : X → Y) (xs : List X) → map (λ x. g (f x)) xs ≡ map g (map f xs)
map-map g f [] = refl
map-map {X} {Y} {Z} g f (x ∷ xs) = ap (λ (zs : List Z). g (f x) ∷ zs) (map-map g f xs)

-- ---- loops

-- what f makes of the elements up to an index
abbrev pub IsMade : {X Y : Type 0} → (X → Y) → List X → ℕ → List Y → Type 0
IsMade f all i made = made ++ map f (drop i all) ≡ map f all

pub made_one : {X Y : Type 0} (f : X → Y) (all : List X) (i : ℕ) (x : X) (made next : List Y) → i < length all → x ≡ get_or all i x → next ≡ made ++ f x ∷ []
    → IsMade f all i made → IsMade f all (i + 1) next
made_one {X} {Y} f all i x made next within is pushed h =
    ap (λ (ys : List Y). ys ++ map f (drop (i + 1) all)) pushed ∙ append_assoc made (f x ∷ []) (map f (drop (i + 1) all))
    ∙ ap (λ (ys : List X). made ++ map f ys) (sym (drop_step all i x within is)) ∙ h

pub made_all : {X Y : Type 0} (f : X → Y) (all : List X) (i : ℕ) (made : List Y) → length all ≤ i → IsMade f all i made → made ≡ map f all
made_all {X} f all i made whole h = sym (append-nil made) ∙ ap (λ (ys : List X). made ++ map f ys) (sym (drop_all i all whole)) ∙ h

-- the elements up to an index that pass
abbrev pub ArePassed : {X : Type 0} → (X → Bool) → List X → ℕ → List X → Type 0
ArePassed p all i passed = passed ++ filter p (drop i all) ≡ filter p all

pub passed_one : {X : Type 0} (p : X → Bool) (all : List X) (i : ℕ) (x : X) (passed next : List X) → i < length all → x ≡ get_or all i x → p x ≡ true
    → next ≡ passed ++ x ∷ [] → ArePassed p all i passed → ArePassed p all (i + 1) next
passed_one {X} p all i x passed next within is holds pushed h =
    let rest = filter p (drop (i + 1) all) in
    let step : filter p (x ∷ drop (i + 1) all) ≡ x ∷ rest = rw holds refl in
    ap (λ (ys : List X). ys ++ rest) pushed ∙ append_assoc passed (x ∷ []) rest
    ∙ ap (λ (ys : List X). passed ++ ys) (sym step ∙ ap (filter p) (sym (drop_step all i x within is))) ∙ h

pub passed_none : {X : Type 0} (p : X → Bool) (all : List X) (i : ℕ) (x : X) (passed : List X) → i < length all → x ≡ get_or all i x → p x ≡ false
    → ArePassed p all i passed → ArePassed p all (i + 1) passed
passed_none {X} p all i x passed within is fails h =
    let step : filter p (x ∷ drop (i + 1) all) ≡ filter p (drop (i + 1) all) = rw fails refl in
    ap (λ (ys : List X). passed ++ ys) (sym step ∙ ap (filter p) (sym (drop_step all i x within is))) ∙ h

pub passed_all : {X : Type 0} (p : X → Bool) (all : List X) (i : ℕ) (passed : List X) → length all ≤ i → ArePassed p all i passed → passed ≡ filter p all
passed_all {X} p all i passed whole h = sym (append-nil passed) ∙ ap (λ (ys : List X). passed ++ filter p ys) (sym (drop_all i all whole)) ∙ h

-- ---- the front of a list

-- a window doesn't reach past its limit
window-front : {X : Type 0} (skip limit : ℕ) (xs : List X) → limit ≢ 0 → window skip limit (take (skip + limit) xs) ≡ window skip limit xs
window-front skip zero xs some = absurd (some refl)
window-front {X} skip (suc n) xs some =
    ap (λ (ys : List X). take (suc n) ys) (drop-take skip (suc n) xs)
    ∙ take_all (suc n) (take (suc n) (drop skip xs)) (omega (arith, length-take (suc n) (drop skip xs)))

all_taken : (q : Query) (most : ℕ) (ds : List Pairs) → length ds ≤ most → window q.skip q.limit (take most ds) ≡ window q.skip q.limit ds
all_taken q most ds few = ap (λ (es : List Pairs). window q.skip q.limit es) (take_all most ds few)

-- a list of which fewer than so many were taken has no more
taken_fewer : (most : ℕ) (ds : List Pairs) → length (take most ds) < most → length ds ≤ most
taken_fewer most ds few = omega (arith, length-take most ds, few)

pub all_suffice : (q : Query) → FirstAreEnough q (2 ^ 64 - 1)
all_suffice q ds few = all_taken q (2 ^ 64 - 1) ds (taken_fewer (2 ^ 64 - 1) ds few)

pub front_suffices : (q : Query) (most : ℕ) → q.limit ≢ 0 → most ≡ min (q.skip + q.limit) (2 ^ 64 - 1) → FirstAreEnough q most
front_suffices q most some is ds few = at (nat_le (q.skip + q.limit) (2 ^ 64 - 1)) refl
  where
    at : (b : Bool) → nat_le (q.skip + q.limit) (2 ^ 64 - 1) ≡ b → window q.skip q.limit (take most ds) ≡ window q.skip q.limit ds
    at true e =
        let fits : q.skip + q.limit ≤ 2 ^ 64 - 1 = grind (arith, nat_tests) in
        let same : most ≡ q.skip + q.limit = omega (arith, is, fits) in
        ap (λ (n : ℕ). window q.skip q.limit (take n ds)) same ∙ window-front q.skip q.limit ds some
    at false e =
        let over : 2 ^ 64 - 1 < q.skip + q.limit = grind (arith, nat_tests) in
        let greatest : most ≡ 2 ^ 64 - 1 = omega (arith, is, over) in
        all_taken q most ds (taken_fewer most ds (omega (arith, few, greatest)))

-- what was found is enough
pub given_enough : (q : Query) (most : ℕ) (ds found_so : List Pairs) → FirstAreEnough q most → found_so ≡ take most (order q.sort (matching q.filter ds))
    → length found_so < 2 ^ 64 - 1 → given q found_so ≡ query_result q ds
given_enough q most ds found_so suffices is few =
    ap (map (project q.projection))
    (ap (λ (es : List Pairs). window q.skip q.limit es) is ∙ suffices (order q.sort (matching q.filter ds)) (omega (arith, ap length is, few)))

-- and within the limits
pub given_within_limits : (q : Query) (found_so : List Pairs) → All IsWithin found_so → All IsWithin (given q found_so)
given_within_limits q found_so h = given_within q.projection (window q.skip q.limit found_so) (window_kept IsWithin q.skip q.limit found_so h)

-- the first that pass, up to so many
pub passed_front : {X : Type 0} (p : X → Bool) (all : List X) (i : ℕ) (passed : List X) → ArePassed p all i passed
    → passed ≡ take (length passed) (filter p all)
passed_front {X} p all i passed h = sym (take-append_seam passed (filter p (drop i all))) ∙ ap (λ (ys : List X). take (length passed) ys) h
