-- The first documents in an order, of those that have come so far.
use Rattle.std.proofs.Common.{◌≡◌, ℕ, zero, suc, ◌<◌, List, [], ◌∷◌, ◌++◌, length, min, take, refl, sym, ap, subst, ◌∙◌, arith, append_assoc}
use Rattle.std.specs.Prelude.{◌==◌, true, All, IfSome, Option}
use Rattle.std.specs.List.{filter}
use Rattle.std.specs.declared.cmp.Ordering.{Ordering}
use Rattle.std.specs.declared.cmp.Ordering.TheVariants.{Less, Equal, Greater}
use Rattle.std.proofs.lemmas.List.{append-nil, length-take, take_all}
use Rattle.std.proofs.lemmas.List.Elements.{All-append, All-cons, All-take, filter-append}
use Rattle.std.proofs.lemmas.Bool.{eqb-true}
use Rattle.bson.specs.Tree.{Pairs}
use Rattle.database_model.specs.Find.{matching}
use Rattle.database_model.specs.Lawful.{IsWithin}
use Rattle.filter.specs.Condition.{Conditions}
use Rattle.filter.specs.Matches.{matches}
use Rattle.planner.specs.IdLaws.{with_found}
use Rattle.queries.specs.Folding.{Sorts, TellFirst}
use Rattle.queries.specs.declared.ordering.Sorting.{Sorting}
use Rattle.walks.proofs.SelectLemmas.{found_are_within}
use Rattle.sort.specs.Sort.{SortField, compare_by, insert_in_order, order, put_before, sorted}

-- ---- what holds of each holds of each in order

module _ (P : Pairs → Type 0) (cmp : Pairs → Pairs → Ordering) where
  head_of : (x : Pairs) (xs : List Pairs) → All P (x ∷ xs) → P x
  head_of x xs h = h 0 x (omega arith)

  tail_of : (x : Pairs) (xs : List Pairs) → All P (x ∷ xs) → All P xs
  tail_of x xs h = λ k d below. h (suc k) d (omega arith)

  inserted_kept : (x : Pairs) (ys : List Pairs) → P x → All P ys → All P (insert_in_order cmp x ys)
  inserted_kept x [] one h = All-cons P x [] one h
  inserted_kept x (y ∷ ys) one h = at (cmp x y) (inserted_kept x ys one (tail_of y ys h))
    where
      at : (o : Ordering) → All P (insert_in_order cmp x ys) → All P (put_before o x y (insert_in_order cmp x ys) ys)
      at Greater later = All-cons P y (insert_in_order cmp x ys) (head_of y ys h) later
      at Less later = All-cons P x (y ∷ ys) one h
      at Equal later = All-cons P x (y ∷ ys) one h

  pub sorted_kept : (xs : List Pairs) → All P xs → All P (sorted cmp xs)
  sorted_kept [] h = h
  sorted_kept (x ∷ xs) h = inserted_kept x (sorted cmp xs) (head_of x xs h) (sorted_kept xs (tail_of x xs h))

pub first_kept : (P : Pairs → Type 0) (fields : List SortField) (most : ℕ) (ds : List Pairs) → All P ds → All P (take most (order fields ds))
first_kept P fields most ds h = All-take P most (order fields ds) (sorted_kept P (compare_by fields) ds h)

-- ---- a sort by nothing

by_nothing : (x : Pairs) (xs : List Pairs) → insert_in_order (compare_by []) x xs ≡ x ∷ xs
by_nothing x [] = refl
by_nothing x (y ∷ ys) = refl

pub unsorted : (ds : List Pairs) → order [] ds ≡ ds
unsorted [] = refl
unsorted (d ∷ ds) = ap (insert_in_order (compare_by []) d) (unsorted ds) ∙ by_nothing d ds

pub no_sort : (sort : List SortField) (ds : List Pairs) → (length sort == 0) ≡ true → order sort ds ≡ ds
no_sort [] ds e = unsorted ds
no_sort (field ∷ fields) ds e = absurd (omega (arith, eqb-true (length (field ∷ fields)) 0 e))

-- ---- a part of a list that is all of it

pub take_short : {X : Type 0} (most : ℕ) (xs : List X) → take (min most (length xs)) xs ≡ take most xs
take_short {X} zero xs = let none : min 0 (length xs) ≡ 0 = omega arith in ap (λ (n : ℕ). take n xs) none
take_short {X} (suc n) [] = let none : min (suc n) 0 ≡ 0 = omega arith in let nothing : List X = [] in ap (λ (m : ℕ). take m nothing) none
take_short {X} (suc n) (x ∷ xs) =
    let more : min (suc n) (suc (length xs)) ≡ suc (min n (length xs)) = omega arith in
    ap (λ (m : ℕ). take m (x ∷ xs)) more ∙ ap (λ (ys : List X). x ∷ ys) (take_short n xs)

pub take_whole : {X : Type 0} (most : ℕ) (xs : List X) → length (take most xs) < most → take most xs ≡ xs
take_whole most xs few = take_all most xs (omega (arith, length-take most xs, few))

-- ---- documents that are lent

pub none_sorted : (start : Sorting) → Sorts start [] start
none_sorted start = record {
  filter = refl;
  sort = refl;
  most = refl;
  first = λ others. ap (λ (ys : List Pairs). take start.most (order start.sort.now (ys ++ others))) (sym (append-nil start.found.items));
  within = λ h. h;
}

module _ (start now : Sorting) (all : List Pairs) where
  abbrev rules : Conditions
  rules = start.filter.now

  abbrev before : List Pairs
  before = start.found.items ++ matching rules all

  -- one more was asked, and put behind those that are kept, if the filter matches it
  pub one_sorted : (d : Pairs) (o : Option Pairs) (kept : List Pairs) (next : Sorting) → with_found o [] ≡ filter (matches now.filter.now) (d ∷ [])
      → IfSome o (λ d. IsWithin d) → TellFirst now.sort.now now.most kept now.found.items → (All IsWithin now.found.items → All IsWithin kept)
      → next.filter.now ≡ now.filter.now → next.sort.now ≡ now.sort.now → next.most ≡ now.most → next.found.items ≡ kept ++ with_found o []
      → Sorts start all now → Sorts start (all ++ d ∷ []) next
  one_sorted d o kept next is within tell kept_within same_filter same_sort same_most put h = record {
    filter = same_filter ∙ h.filter;
    sort = same_sort ∙ h.sort;
    most = same_most ∙ h.most;
    first = λ others.
        ap (λ (ys : List Pairs). take start.most (order start.sort.now (ys ++ others))) put
        ∙ ap (λ (ys : List Pairs). take start.most (order start.sort.now ys)) (append_assoc kept one others)
        ∙ subst (λ m. take m (order start.sort.now (kept ++ (one ++ others))) ≡ take m (order start.sort.now (now.found.items ++ (one ++ others)))) h.most
        (subst (λ fs. take now.most (order fs (kept ++ (one ++ others))) ≡ take now.most (order fs (now.found.items ++ (one ++ others)))) h.sort
        (tell (one ++ others)))
        ∙ h.first (one ++ others)
        ∙ ap (λ (ys : List Pairs). take start.most (order start.sort.now ys)) (sym (append_assoc before one others))
        ∙ ap (λ (ys : List Pairs). take start.most (order start.sort.now (ys ++ others))) wanted;
    within = λ all_within. subst (All IsWithin) (sym put) (All-append IsWithin kept one (kept_within (h.within all_within)) (found_are_within o within));
  }
    where
      one : List Pairs
      one = with_found o []

      wanted : before ++ one ≡ start.found.items ++ matching rules (all ++ d ∷ [])
      wanted =
          ap (λ (ys : List Pairs). before ++ ys) (is ∙ ap (λ rs. filter (matches rs) (d ∷ [])) h.filter)
          ∙ append_assoc start.found.items (matching rules all) (matching rules (d ∷ []))
          ∙ ap (λ (ys : List Pairs). start.found.items ++ ys) (sym (filter-append (matches rules) all (d ∷ [])))

  pub all_sorted : (found : List Pairs) → start.found.items ≡ [] → found ≡ take start.most (order start.sort.now now.found.items) → Sorts start all now
      → found ≡ take start.most (order start.sort.now (matching rules all))
  all_sorted found none is h =
      is ∙ ap (λ (ys : List Pairs). take start.most (order start.sort.now ys)) (sym (append-nil now.found.items)) ∙ h.first []
      ∙ ap (λ (ys : List Pairs). take start.most (order start.sort.now ys))
      (append-nil before ∙ ap (λ (ys : List Pairs). ys ++ matching rules all) none)
