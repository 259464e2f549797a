-- What a filter asks of a path is met by the keys that a document has there, if the filter holds of it.
use Rattle.std.proofs.Common.{◌≡◌, ℕ, Bool, true, false, List, [], ◌∷◌, ◌++◌, Option, Some, None, refl, sym, ap, subst, ◌∙◌}
use Rattle.std.specs.Prelude.{IfSome, ◌==◌, ◌&&◌, ◌||◌, if◌then◌else◌, map}
use Rattle.std.specs.Option.{option_or}
use Rattle.std.specs.List.{list_any, flat_map}
use Rattle.std.specs.Str.{bytes_eq}
use Rattle.std.proofs.lemmas.List.Folds.{list_any-append}
use Rattle.std.proofs.lemmas.Slice.Eq.{bytes_eq-Decides}
use Rattle.bson.specs.Tree.{Tree, scalar, text, binary, object_id, boolean, date, null, int32, timestamp, int64, min_key, max_key, document, array, Pairs}
use Rattle.bson.specs.Tree.{Items, no_items, item}
use Rattle.path.specs.Parts.{is_front}
use Rattle.path.specs.Reach.{Reached, reach, items_list, candidates}
use Rattle.value_order.specs.Order.{Key, empty_array, value, class, compare}
use Rattle.filter.specs.Condition.{equal, ordered, there, of_kinds, size, Condition, all, any, not_all, not_any, at, is, element, element_document, Conditions}
use Rattle.filter.specs.Condition.{no_conditions, condition}
use Rattle.filter.specs.Matches.{is_equal, allows, is_null, candidate_passes, passes, whole, along, holds, all_hold, matches}
use Rattle.filter.specs.declared.condition.Comparison.{Comparison}
use Rattle.filter.specs.declared.condition.Comparison.TheVariants.{Below, AtMost, Above, AtLeast}
use Rattle.index.specs.IndexKeys.{keys_of, or_missing}
use Rattle.plan_model.specs.Usable.{Usable, nothing, or, no_array, bound_at, range_of, usable_in, all_usable, is_path, usable_there, usable}
use Rattle.planner.specs.KeyRange.{is_equal_to, lies_by}

-- ---- tests

pub and_first : (a b : Bool) → (a && b) ≡ true → a ≡ true
and_first true b e = refl
and_first false b e = absurd cc

pub and_second : (a b : Bool) → (a && b) ≡ true → b ≡ true
and_second true b e = e
and_second false b e = absurd cc

pub and_both : (a b : Bool) → a ≡ true → b ≡ true → (a && b) ≡ true
and_both true b e f = f
and_both false b e f = absurd cc

or_second : (a b : Bool) → a ≡ false → (a || b) ≡ true → b ≡ true
or_second true b e h = absurd cc
or_second false b e h = h

pub or_none : (b : Bool) → (b || false) ≡ true → b ≡ true
or_none true e = refl
or_none false e = absurd cc

pub or_last : (a b : Bool) → b ≡ true → (a || b) ≡ true
or_last true b e = refl
or_last false b e = e

pub any_more : {X : Type 0} (p q : X → Bool) → ((x : X) → p x ≡ true → q x ≡ true) → (xs : List X) → list_any p xs ≡ true → list_any q xs ≡ true
any_more p q h [] e = absurd cc
any_more {X} p q h (x ∷ xs) e = by (p x) refl (any_more p q h xs) e
  where
    by : (b : Bool) → p x ≡ b → (list_any p xs ≡ true → list_any q xs ≡ true) → (b || list_any p xs) ≡ true → (q x || list_any q xs) ≡ true
    by true so later f = ap (λ (c : Bool). c || list_any q xs) (h x so)
    by false not_so later f = or_last (q x) (list_any q xs) (later f)

-- ---- from what is reached to keys

-- a test of values, asked of a key
abbrev on_key : (Tree → Bool) → Key → Bool
on_key p empty_array = false
on_key p (value t) = p t

on_keys : (p : Tree → Bool) (ts : List Tree) → list_any p ts ≡ true → list_any (on_key p) (map value ts) ≡ true
on_keys p [] e = e
on_keys p (t ∷ ts) e = by (p t) (on_keys p ts) e
  where
    by : (b : Bool) → (list_any p ts ≡ true → list_any (on_key p) (map value ts) ≡ true) → (b || list_any p ts) ≡ true
        → (b || list_any (on_key p) (map value ts)) ≡ true
    by true later f = refl
    by false later f = later f

-- what one of the candidates passes, and no array, one of the keys passes
key_of_candidate : (p : Tree → Bool) → ((ts : Items) → p (array ts) ≡ false) → (r : Reached) → list_any p (candidates r) ≡ true
    → list_any (on_key p) (keys_of r) ≡ true
key_of_candidate p none None e = absurd cc
key_of_candidate p none (Some (array no_items)) e = absurd (let f = or_second (p (array no_items)) false (none no_items) e in cc)
key_of_candidate p none (Some (array (item t ts))) e =
    on_keys p (items_list (item t ts)) (or_second (p (array (item t ts))) (list_any p (items_list (item t ts))) (none (item t ts)) e)
key_of_candidate p none (Some (scalar s)) e = e
key_of_candidate p none (Some (document ps)) e = e

pub any_append : {X : Type 0} (p : X → Bool) (xs ys : List X) → list_any p xs ≡ true → list_any p (xs ++ ys) ≡ true
any_append p xs ys e = list_any-append p xs ys ∙ ap (λ (b : Bool). b || list_any p ys) e

pub append_any : {X : Type 0} (p : X → Bool) (xs ys : List X) → list_any p ys ≡ true → list_any p (xs ++ ys) ≡ true
append_any p xs ys e = list_any-append p xs ys ∙ or_last (list_any p xs) (list_any p ys) e

each_reached : (q : Reached → Bool) (p : Key → Bool) → ((r : Reached) → q r ≡ true → list_any p (keys_of r) ≡ true) → (rs : List Reached)
    → list_any q rs ≡ true → list_any p (flat_map keys_of rs) ≡ true
each_reached q p h [] e = absurd cc
each_reached q p h (r ∷ rs) e = by (q r) refl (each_reached q p h rs) e
  where
    by : (b : Bool) → q r ≡ b → (list_any q rs ≡ true → list_any p (flat_map keys_of rs) ≡ true) → (b || list_any q rs) ≡ true
        → list_any p (keys_of r ++ flat_map keys_of rs) ≡ true
    by true so later f = any_append p (keys_of r) (flat_map keys_of rs) (h r so)
    by false not_so later f = append_any p (keys_of r) (flat_map keys_of rs) (later f)

any_key : (q : Reached → Bool) (p : Key → Bool) → ((r : Reached) → q r ≡ true → list_any p (keys_of r) ≡ true) → (rs : List Reached) → list_any q rs ≡ true
    → list_any p (flat_map keys_of (or_missing rs)) ≡ true
any_key q p h [] e = absurd cc
any_key q p h (r ∷ rs) e = each_reached q p h (r ∷ rs) e

-- ---- operator by operator

-- no array is equal to what isn't one, nor of its class
not_equal : (v t : Tree) → no_array v ≡ Some t → (ts : Items) → is_equal (compare (array ts) v) ≡ false
not_equal (array us) t e ts = absurd cc
not_equal (document ps) t e ts = refl
not_equal (scalar (text s)) t e ts = refl
not_equal (scalar (binary k s)) t e ts = refl
not_equal (scalar (object_id s)) t e ts = refl
not_equal (scalar (boolean b)) t e ts = refl
not_equal (scalar (date z)) t e ts = refl
not_equal (scalar null) t e ts = refl
not_equal (scalar (int32 z)) t e ts = refl
not_equal (scalar (timestamp n)) t e ts = refl
not_equal (scalar (int64 z)) t e ts = refl
not_equal (scalar min_key) t e ts = refl
not_equal (scalar max_key) t e ts = refl

other_class : (v t : Tree) → no_array v ≡ Some t → (ts : Items) → (class (array ts) == class v) ≡ false
other_class (array us) t e ts = absurd cc
other_class (document ps) t e ts = refl
other_class (scalar (text s)) t e ts = refl
other_class (scalar (binary k s)) t e ts = refl
other_class (scalar (object_id s)) t e ts = refl
other_class (scalar (boolean b)) t e ts = refl
other_class (scalar (date z)) t e ts = refl
other_class (scalar null) t e ts = refl
other_class (scalar (int32 z)) t e ts = refl
other_class (scalar (timestamp n)) t e ts = refl
other_class (scalar (int64 z)) t e ts = refl
other_class (scalar min_key) t e ts = refl
other_class (scalar max_key) t e ts = refl

as_it_is : (v t : Tree) → no_array v ≡ Some t → v ≡ t
as_it_is (array us) t e = absurd cc
as_it_is (document ps) t e = cc
as_it_is (scalar s) t e = cc

null_is : (v : Tree) → is_null v ≡ true → list_any (is_equal_to v) (keys_of None) ≡ true
null_is (scalar null) e = refl
null_is (array us) e = absurd cc
null_is (document ps) e = absurd cc
null_is (scalar (text s)) e = absurd cc
null_is (scalar (binary k s)) e = absurd cc
null_is (scalar (object_id s)) e = absurd cc
null_is (scalar (boolean b)) e = absurd cc
null_is (scalar (date z)) e = absurd cc
null_is (scalar (int32 z)) e = absurd cc
null_is (scalar (timestamp n)) e = absurd cc
null_is (scalar (int64 z)) e = absurd cc
null_is (scalar min_key) e = absurd cc
null_is (scalar max_key) e = absurd cc

equal_key : (v t : Tree) → no_array v ≡ Some t → (r : Reached) → passes (equal v) false r ≡ true → list_any (is_equal_to v) (keys_of r) ≡ true
equal_key v t e None h = null_is v (and_first (is_null v) true h)
equal_key v t e (Some u) h = any_more (on_key (λ x. is_equal (compare x v))) (is_equal_to v) same (keys_of (Some u)) keyed
  where
    found : list_any (candidate_passes (equal v)) (candidates (Some u)) ≡ true
    found = either (list_any (candidate_passes (equal v)) (candidates (Some u))) (is_null v) h
      where
        either : (a b : Bool) → (a || (b && false)) ≡ true → a ≡ true
        either true b f = refl
        either false true f = absurd cc
        either false false f = absurd cc

    keyed : list_any (on_key (λ x. is_equal (compare x v))) (keys_of (Some u)) ≡ true
    keyed = key_of_candidate (λ x. is_equal (compare x v)) (not_equal v t e) (Some u) found

    same : (k : Key) → on_key (λ x. is_equal (compare x v)) k ≡ true → is_equal_to v k ≡ true
    same empty_array f = absurd cc
    same (value x) f = f

ordered_key : (c : Comparison) (v t : Tree) → no_array v ≡ Some t → (r : Reached) → passes (ordered c v) false r ≡ true
    → list_any (lies_by (record { comparison = c; operand = v })) (keys_of r) ≡ true
ordered_key c v t e r h = any_more (on_key (candidate_passes (ordered c v))) (lies_by (record { comparison = c; operand = v })) same (keys_of r) keyed
  where
    no_array_passes : (ts : Items) → candidate_passes (ordered c v) (array ts) ≡ false
    no_array_passes ts = ap (λ (b : Bool). b && allows c (compare (array ts) v)) (other_class v t e ts)

    keyed : list_any (on_key (candidate_passes (ordered c v))) (keys_of r) ≡ true
    keyed = key_of_candidate (candidate_passes (ordered c v)) no_array_passes r (or_none (list_any (candidate_passes (ordered c v)) (candidates r)) h)

    same : (k : Key) → on_key (candidate_passes (ordered c v)) k ≡ true → lies_by (record { comparison = c; operand = v }) k ≡ true
    same empty_array f = absurd cc
    same (value x) f = f

-- ---- what is asked is met

pub record Meets (keys : List Key) (u : Usable) : Type 0 where
  pub equal_met : IfSome u.equal (λ t. list_any (is_equal_to t) keys ≡ true)
  pub low_met : IfSome u.low (λ b. list_any (lies_by b) keys ≡ true)
  pub high_met : IfSome u.high (λ b. list_any (lies_by b) keys ≡ true)

if_or : {X : Type 0} (P : X → Type 0) (o p : Option X) → IfSome o P → IfSome p P → IfSome (option_or o p) P
if_or P None p f g = g
if_or P (Some x) p f g = f

meets_nothing : (keys : List Key) → Meets keys nothing
meets_nothing keys = record { equal_met = tt; low_met = tt; high_met = tt }

meets_or : (keys : List Key) (u v : Usable) → Meets keys u → Meets keys v → Meets keys (or u v)
meets_or keys u v f g = record {
  equal_met = if_or (λ t. list_any (is_equal_to t) keys ≡ true) u.equal v.equal f.equal_met g.equal_met;
  low_met = if_or (λ b. list_any (lies_by b) keys ≡ true) u.low v.low f.low_met g.low_met;
  high_met = if_or (λ b. list_any (lies_by b) keys ≡ true) u.high v.high f.high_met g.high_met;
}

abbrev pub keys_in : List Reached → List Key
keys_in reached = flat_map keys_of (or_missing reached)

meets_equal : (v : Tree) (reached : List Reached) → list_any (passes (equal v) false) reached ≡ true
    → IfSome (no_array v) (λ t. list_any (is_equal_to t) (keys_in reached) ≡ true)
meets_equal v reached h = by (no_array v) refl
  where
    by : (o : Option Tree) → no_array v ≡ o → IfSome o (λ t. list_any (is_equal_to t) (keys_in reached) ≡ true)
    by None e = tt
    by (Some t) e =
        subst (λ (x : Tree). list_any (is_equal_to x) (keys_in reached) ≡ true) (as_it_is v t e)
        (any_key (passes (equal v) false) (is_equal_to v) (equal_key v t e) reached h)

meets_bound : (c : Comparison) (v : Tree) (reached : List Reached) → list_any (passes (ordered c v) false) reached ≡ true
    → IfSome (bound_at c v) (λ b. list_any (lies_by b) (keys_in reached) ≡ true)
meets_bound c (array us) reached h = tt
meets_bound c (scalar s) reached h =
    any_key (passes (ordered c (scalar s)) false) (lies_by (record { comparison = c; operand = scalar s })) (ordered_key c (scalar s) (scalar s) refl) reached h
meets_bound c (document ps) reached h =
    any_key (passes (ordered c (document ps)) false) (lies_by (record { comparison = c; operand = document ps }))
    (ordered_key c (document ps) (document ps) refl) reached h

meets_range : (c : Comparison) (v : Tree) (reached : List Reached) → list_any (passes (ordered c v) false) reached ≡ true
    → Meets (keys_in reached) (range_of c v)
meets_range Above v reached h = record { equal_met = tt; low_met = meets_bound Above v reached h; high_met = tt }
meets_range AtLeast v reached h = record { equal_met = tt; low_met = meets_bound AtLeast v reached h; high_met = tt }
meets_range Below v reached h = record { equal_met = tt; low_met = tt; high_met = meets_bound Below v reached h }
meets_range AtMost v reached h = record { equal_met = tt; low_met = tt; high_met = meets_bound AtMost v reached h }

meets_in : (r : Condition) (reached : List Reached) → holds r (along reached) ≡ true → Meets (keys_in reached) (usable_in r)
meets_in (is (equal v)) reached h = record { equal_met = meets_equal v reached h; low_met = tt; high_met = tt }
meets_in (is (ordered c v)) reached h = meets_range c v reached h
meets_in (is there) reached h = meets_nothing (keys_in reached)
meets_in (is (of_kinds ks)) reached h = meets_nothing (keys_in reached)
meets_in (is (size n)) reached h = meets_nothing (keys_in reached)
meets_in (all rs) reached h = meets_nothing (keys_in reached)
meets_in (any rs) reached h = meets_nothing (keys_in reached)
meets_in (not_all rs) reached h = meets_nothing (keys_in reached)
meets_in (not_any rs) reached h = meets_nothing (keys_in reached)
meets_in (at parts rs) reached h = meets_nothing (keys_in reached)
meets_in (element rs) reached h = meets_nothing (keys_in reached)
meets_in (element_document rs) reached h = meets_nothing (keys_in reached)

meets_all : (rs : Conditions) (reached : List Reached) → all_hold rs (along reached) ≡ true → Meets (keys_in reached) (all_usable rs)
meets_all no_conditions reached h = meets_nothing (keys_in reached)
meets_all (condition r rs) reached h =
    meets_or (keys_in reached) (usable_in r) (all_usable rs)
    (meets_in r reached (and_first (holds r (along reached)) (all_hold rs (along reached)) h))
    (meets_all rs reached (and_second (holds r (along reached)) (all_hold rs (along reached)) h))

-- ---- at a path

pub one_path : (a b : List (List ℕ)) → is_path a b ≡ true → a ≡ b
one_path [] [] e = refl
one_path [] (n ∷ b) e = absurd cc
one_path (m ∷ a) [] e = absurd cc
one_path (m ∷ a) (n ∷ b) e = λ i. name i ∷ one_path a b rest i
  where
    to : (bytes_eq m n && is_front a b) ≡ true
    to = and_first (bytes_eq m n && is_front a b) (bytes_eq n m && is_front b a) e

    from : (bytes_eq n m && is_front b a) ≡ true
    from = and_second (bytes_eq m n && is_front a b) (bytes_eq n m && is_front b a) e

    name : m ≡ n
    name = (bytes_eq-Decides m n).0 (and_first (bytes_eq m n) (is_front a b) to)

    rest : (is_front a b && is_front b a) ≡ true
    rest = and_both (is_front a b) (is_front b a) (and_second (bytes_eq m n) (is_front a b) to) (and_second (bytes_eq n m) (is_front b a) from)

abbrev pub keys_at : List (List ℕ) → Pairs → List Key
keys_at path ps = keys_in (reach path (document ps))

meets_there : (path : List (List ℕ)) (r : Condition) (ps : Pairs) → holds r (whole ps) ≡ true → Meets (keys_at path ps) (usable_there path r)
meets_there path (at parts rs) ps h = by (is_path path parts) refl
  where
    by : (b : Bool) → is_path path parts ≡ b → Meets (keys_at path ps) (if b then all_usable rs else nothing)
    by false e = meets_nothing (keys_at path ps)
    by true e =
        subst (λ (q : List (List ℕ)). Meets (keys_at q ps) (all_usable rs)) (sym (one_path path parts e))
        (meets_all rs (reach parts (document ps)) h)
meets_there path (is p) ps h = meets_nothing (keys_at path ps)
meets_there path (all rs) ps h = meets_nothing (keys_at path ps)
meets_there path (any rs) ps h = meets_nothing (keys_at path ps)
meets_there path (not_all rs) ps h = meets_nothing (keys_at path ps)
meets_there path (not_any rs) ps h = meets_nothing (keys_at path ps)
meets_there path (element rs) ps h = meets_nothing (keys_at path ps)
meets_there path (element_document rs) ps h = meets_nothing (keys_at path ps)

pub meets_usable : (path : List (List ℕ)) (rs : Conditions) (ps : Pairs) → matches rs ps ≡ true → Meets (keys_at path ps) (usable path rs)
meets_usable path no_conditions ps h = meets_nothing (keys_at path ps)
meets_usable path (condition r rs) ps h =
    meets_or (keys_at path ps) (usable_there path r) (usable path rs)
    (meets_there path r ps (and_first (holds r (whole ps)) (all_hold rs (whole ps)) h))
    (meets_usable path rs ps (and_second (holds r (whole ps)) (all_hold rs (whole ps)) h))
