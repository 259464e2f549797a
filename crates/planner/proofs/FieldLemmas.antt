-- The fields of an index one after the other, and those of a sort beside them.
use Rattle.std.proofs.Common.{◌≡◌, ℕ, zero, suc, ◌<◌, ◌≤◌, Bool, true, false, List, [], ◌∷◌, length, get_or, drop, map, Option, Some, None, refl, sym, ap, ◌∙◌}
use Rattle.std.proofs.Common.{arith}
use Rattle.std.specs.Prelude.{◌==◌, ◌&&◌, not, is_some, option_map, slice_get}
use Rattle.std.specs.List.{filter, count_by}
use Rattle.std.specs.Option.{option_and}
use Rattle.std.specs.Borrow.{Bor}
use Rattle.std.proofs.lemmas.List.Sums.{length-filter}
use Rattle.std.specs.Str.{bytes_eq}
use Rattle.bson.specs.Tree.{Tree}
use Rattle.bson.specs.declared.value.Value.{Value}
use Rattle.filter.specs.Condition.{Conditions}
use Rattle.sort.specs.Sort.{SortField}
use Rattle.index.specs.Definition.{Field}
use Rattle.plan_model.specs.Usable.{nothing, is_path}
use Rattle.plan_model.specs.Plan.{asked_of, and_then, leading, asked_next, is_sorted_at, sorts_as}
use Rattle.planner.specs.View.{value_in, values_of}

-- a path of two parts or more isn't one of one part
pub not_alone : (n m : List ℕ) (rest : List (List ℕ)) → (length rest == 0) ≡ false → is_path (n ∷ []) (m ∷ rest) ≡ false
not_alone n m [] e = absurd cc
not_alone n m (x ∷ rest) e = by (bytes_eq n m) (bytes_eq m n)
  where
    by : (a b : Bool) → ((a && true) && (b && false)) ≡ false
    by true true = refl
    by true false = refl
    by false b = refl

-- ---- the field at a place

pub asked_here : (rs : Conditions) (fs : List Field) (i : ℕ) (f : Field) → Some f ≡ slice_get fs i → asked_of f rs ≡ asked_next rs (drop i fs)
asked_here rs [] zero f e = absurd cc
asked_here rs [] (suc i) f e = absurd cc
asked_here rs (g ∷ fs) zero f e = let same : f ≡ g = cc in ap (λ (x : Field). asked_of x rs) same
asked_here rs (g ∷ fs) (suc i) f e = asked_here rs fs i f e

pub asked_nowhere : (rs : Conditions) (fs : List Field) (i : ℕ) → None ≡ slice_get fs i → nothing ≡ asked_next rs (drop i fs)
asked_nowhere rs [] zero e = refl
asked_nowhere rs [] (suc i) e = refl
asked_nowhere rs (g ∷ fs) zero e = absurd cc
asked_nowhere rs (g ∷ fs) (suc i) e = asked_nowhere rs fs i e

-- ---- a sort beside an index

pub sorts_on : {X : Type 0} (of : X → SortField) (items : List X) (fs : List Field) (i : ℕ) (s : X) (f : Field) → i < length items → s ≡ get_or items i s
    → Some f ≡ slice_get fs i
    → sorts_as (map of (drop i items)) (drop i fs) ≡ (is_sorted_at (of s) f && sorts_as (map of (drop (suc i) items)) (drop (suc i) fs))
sorts_on of [] fs i s f within there e = absurd (omega (arith, within))
sorts_on of (x ∷ items) [] zero s f within there e = absurd cc
sorts_on of (x ∷ items) [] (suc i) s f within there e = absurd cc
sorts_on {X = X} of (x ∷ items) (g ∷ fs) zero s f within there e =
    let same : f ≡ g = cc in
    (λ i. is_sorted_at (of (sym there i)) (sym same i) && sorts_as (map of items) fs)
sorts_on of (x ∷ items) (g ∷ fs) (suc i) s f within there e = sorts_on of items fs i s f (omega (arith, within)) there e

nothing_beside : {X : Type 0} (of : X → SortField) (items : List X) (i : ℕ) → i < length items → sorts_as (map of (drop i items)) [] ≡ false
nothing_beside of [] i within = absurd (omega (arith, within))
nothing_beside of (x ∷ items) zero within = refl
nothing_beside of (x ∷ items) (suc i) within = nothing_beside of items i (omega (arith, within))

pub sorts_past : {X : Type 0} (of : X → SortField) (items : List X) (fs : List Field) (i : ℕ) → i < length items → None ≡ slice_get fs i
    → sorts_as (map of (drop i items)) (drop i fs) ≡ false
sorts_past of [] fs i within e = absurd (omega (arith, within))
sorts_past of (x ∷ items) [] zero within e = refl
sorts_past of (x ∷ items) [] (suc i) within e = nothing_beside of items i (omega (arith, within))
sorts_past of (x ∷ items) (g ∷ fs) zero within e = absurd cc
sorts_past of (x ∷ items) (g ∷ fs) (suc i) within e = sorts_past of items fs i (omega (arith, within)) e

nothing_past : {X : Type 0} (of : X → SortField) (items : List X) (i : ℕ) → length items ≤ i → sorts_as (map of (drop i items)) [] ≡ true
nothing_past of [] zero h = refl
nothing_past of [] (suc i) h = refl
nothing_past of (x ∷ items) zero h = absurd (omega (arith, h))
nothing_past of (x ∷ items) (suc i) h = nothing_past of items i (omega (arith, h))

all_of : (fs : List Field) (i : ℕ) → sorts_as [] (drop i fs) ≡ not (is_some (slice_get fs i))
all_of [] zero = refl
all_of [] (suc i) = refl
all_of (g ∷ fs) zero = refl
all_of (g ∷ fs) (suc i) = all_of fs i

sorts_end : {X : Type 0} (of : X → SortField) (items : List X) (fs : List Field) (i : ℕ) → length items ≤ i
    → sorts_as (map of (drop i items)) (drop i fs) ≡ not (is_some (slice_get fs i))
sorts_end of [] fs zero past = all_of fs zero
sorts_end of [] fs (suc i) past = all_of fs (suc i)
sorts_end of (x ∷ items) [] zero past = absurd (omega (arith, past))
sorts_end of (x ∷ items) (g ∷ fs) zero past = absurd (omega (arith, past))
sorts_end of (x ∷ items) [] (suc i) past = nothing_past of items i (omega (arith, past))
sorts_end of (x ∷ items) (g ∷ fs) (suc i) past = sorts_end of items fs i (omega (arith, past))

not_twice : (b : Bool) → not (not b) ≡ b
not_twice true = refl
not_twice false = refl

some_image : {X Y : Type 0} (f : X → Y) (o : Option X) → is_some (option_map f o) ≡ is_some o
some_image f None = refl
some_image f (Some x) = refl

-- whether a field is left behind those of the sort
pub sorts_all : {X Y : Type 0} (of : X → SortField) (field : Y → Field) (items : List X) (fs : List Field) (i : ℕ) (o : Option Y) (r : Bool) → length items ≤ i
    → i ≤ length items
    → option_map field o ≡ slice_get fs (length items) → is_some o ≡ not r → r ≡ sorts_as (map of (drop i items)) (drop i fs)
sorts_all of field items fs i o r past within at_end none =
    let same : length items ≡ i = omega (arith, past, within) in
    sym (not_twice r) ∙ ap not (sym none ∙ sym (some_image field o) ∙ ap is_some at_end ∙ ap (λ (n : ℕ). is_some (slice_get fs n)) same)
    ∙ sym (sorts_end of items fs i past)

-- ---- the values of the leading fields

by_first : (rs : Conditions) (fs : List Field) (o : Option (Bor Value)) (rest : List Tree) → value_in o ≡ (asked_next rs fs).equal
    → rest ≡ leading rs (drop 1 fs) → and_then (value_in o) rest ≡ leading rs fs
by_first rs [] o rest e more = ap (λ (p : Option Tree). and_then p rest) e
by_first rs (f ∷ fs) o rest e more = λ i. and_then (e i) (more i)

drop_more : (fs : List Field) (i : ℕ) → drop 1 (drop i fs) ≡ drop (suc i) fs
drop_more [] zero = refl
drop_more [] (suc i) = refl
drop_more (f ∷ fs) zero = refl
drop_more (f ∷ fs) (suc i) = drop_more fs i

none_past : (rs : Conditions) (fs : List Field) (i : ℕ) → length fs ≤ i → [] ≡ leading rs (drop i fs)
none_past rs [] zero few = refl
none_past rs [] (suc i) few = refl
none_past rs (f ∷ fs) zero few = absurd (omega (arith, few))
none_past rs (f ∷ fs) (suc i) few = none_past rs fs i (omega (arith, few))

on : (rs : Conditions) (fs : List Field) (i : ℕ) (o : Option (Bor Value)) (rest : List Tree) → value_in o ≡ (asked_next rs (drop i fs)).equal
    → rest ≡ leading rs (drop (suc i) fs) → and_then (value_in o) rest ≡ leading rs (drop i fs)
on rs fs i o rest e more = by_first rs (drop i fs) o rest e (more ∙ ap (leading rs) (sym (drop_more fs i)))

first_value : (a b c d : Option (Bor Value))
    → values_of (a ∷ option_and a b ∷ option_and (option_and a b) c ∷ option_and (option_and (option_and a b) c) d ∷ [])
    ≡ and_then (value_in a) (values_of (b ∷ option_and b c ∷ option_and (option_and b c) d ∷ []))
first_value None b c d = refl
first_value (Some v) b c d = refl

second_value : (b c d : Option (Bor Value))
    → values_of (b ∷ option_and b c ∷ option_and (option_and b c) d ∷ []) ≡ and_then (value_in b) (values_of (c ∷ option_and c d ∷ []))
second_value None c d = refl
second_value (Some v) c d = refl

third_value : (c d : Option (Bor Value)) → values_of (c ∷ option_and c d ∷ []) ≡ and_then (value_in c) (values_of (d ∷ []))
third_value None d = refl
third_value (Some v) d = refl

fourth_value : (d : Option (Bor Value)) → values_of (d ∷ []) ≡ and_then (value_in d) []
fourth_value None = refl
fourth_value (Some v) = refl

-- each as far as those before it are there
pub four_values : (rs : Conditions) (fs : List Field) (a b c d : Option (Bor Value)) → length fs ≤ 4
    → value_in a ≡ (asked_next rs (drop 0 fs)).equal → value_in b ≡ (asked_next rs (drop 1 fs)).equal → value_in c ≡ (asked_next rs (drop 2 fs)).equal
    → value_in d ≡ (asked_next rs (drop 3 fs)).equal
    → values_of (a ∷ option_and a b ∷ option_and (option_and a b) c ∷ option_and (option_and (option_and a b) c) d ∷ []) ≡ leading rs fs
four_values rs fs a b c d few ea eb ec ed =
    let e3 = fourth_value d ∙ on rs fs 3 d [] ed (none_past rs fs 4 few) in
    let e2 = third_value c d ∙ on rs fs 2 c (values_of (d ∷ [])) ec e3 in
    let e1 = second_value b c d ∙ on rs fs 1 b (values_of (c ∷ option_and c d ∷ [])) eb e2 in
    first_value a b c d ∙ on rs fs 0 a (values_of (b ∷ option_and b c ∷ option_and (option_and b c) d ∷ [])) ea e1

-- how many are there
kept_values : (os : List (Option (Bor Value))) → length (filter (λ o. is_some o) os) ≡ length (values_of os)
kept_values [] = refl
kept_values (None ∷ os) = kept_values os
kept_values (Some v ∷ os) = ap suc (kept_values os)

pub count_values : (os : List (Option (Bor Value))) → count_by (λ o. is_some o) os ≡ length (values_of os)
count_values os = sym (length-filter (λ o. is_some o) os) ∙ kept_values os
