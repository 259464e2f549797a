-- What a value that is put among others keeps of them: that they rise, that each has a property, and that an equal one is there.
use Rattle.std.proofs.Common.{◌≡◌, Bool, true, false, ◌||◌, List, [], ◌∷◌, ◌++◌, refl, sym, ap, ◌∙◌}
use Rattle.std.proofs.lemmas.List.Elements.{All-contains_itself, recursion_from_All}
use Rattle.std.specs.BTreeSet.{insert_key}
use Rattle.std.specs.Cmp.{IsTotalOrder, tied_itself}
use Rattle.std.specs.List.{AllByRecursion, Contains, list_any}
use Rattle.std.specs.List.Sorted.{IsStrictlySortedBy}
use Rattle.std.specs.Ordering.{is_eq, match_ordering, ordering_reverse}
use Rattle.std.specs.declared.cmp.Ordering.{Ordering}
use Rattle.std.specs.declared.cmp.Ordering.TheVariants.{Less, Equal, Greater}
use Rattle.bson.specs.Tree.{Tree}
use Rattle.value_order.specs.Order.{compare}
use Rattle.value_order.specs.TotalLaws.{compare_total}
use Rattle.distinct_values.specs.DistinctValues.{with_value, with_values}
use Rattle.distinct_values.specs.Laws.{has_equal, AreDistinctOf}

-- ---- what each has

each_with : (P : Tree → Type 0) (ts : List Tree) (t : Tree) → AllByRecursion P ts → P t → AllByRecursion P (with_value ts t)
each_with P [] t h k = (k, tt)
each_with P (u ∷ us) t h k = by (compare t u) (each_with P us t h.1 k)
  where
    by : (o : Ordering) → AllByRecursion P (with_value us t) → AllByRecursion P (match_ordering o (t ∷ u ∷ us) (u ∷ us) (u ∷ with_value us t))
    by Less later = (k, h)
    by Equal later = h
    by Greater later = (h.0, later)

each_with_all : (P : Tree → Type 0) (values ts : List Tree) → AllByRecursion P values → AllByRecursion P ts → AllByRecursion P (with_values values ts)
each_with_all P values [] h k = h
each_with_all P values (t ∷ ts) h k = each_with_all P (with_value values t) ts (each_with P values t h k.0) k.1

-- ---- that they rise

less_still : (t u : Tree) (us : List Tree) → compare t u ≡ Less → AllByRecursion (λ v. compare u v ≡ Less) us → AllByRecursion (λ v. compare t v ≡ Less) us
less_still t u [] e h = tt
less_still t u (v ∷ vs) e h = (compare_total.trans t u v e h.0, less_still t u vs e h.1)

rises_with : (ts : List Tree) (t : Tree) → IsStrictlySortedBy compare ts → IsStrictlySortedBy compare (with_value ts t)
unfolding IsStrictlySortedBy
rises_with [] t h = (tt, tt)
rises_with (u ∷ us) t h = by (compare t u) refl (rises_with us t h.1)
  where
    by : (o : Ordering) → compare t u ≡ o → IsStrictlySortedBy compare (with_value us t)
        → IsStrictlySortedBy compare (match_ordering o (t ∷ u ∷ us) (u ∷ us) (u ∷ with_value us t))
    by Less is later = ((is, less_still t u us is h.0), h)
    by Equal is later = h
    by Greater is later =
        let turned : compare u t ≡ Less = compare_total.antisymm u t ∙ ap ordering_reverse is in
        (each_with (λ v. compare u v ≡ Less) us t h.0 turned, later)

rises_with_all : (values ts : List Tree) → IsStrictlySortedBy compare values → IsStrictlySortedBy compare (with_values values ts)
rises_with_all values [] h = h
rises_with_all values (t ∷ ts) h = rises_with_all (with_value values t) ts (rises_with values t h)

-- ---- that an equal one is there

or_true : (a : Bool) {b : Bool} → b ≡ true → (a || b) ≡ true
or_true true e = refl
or_true false e = e

true_or : {a : Bool} (b : Bool) → a ≡ true → (a || b) ≡ true
true_or b e = ap (λ (a : Bool). a || b) e

is_with : (ts : List Tree) (t : Tree) → has_equal (with_value ts t) t ≡ true
is_with [] t = true_or false (ap is_eq (tied_itself compare_total t))
is_with (u ∷ us) t = by (compare t u) refl (is_with us t)
  where
    by : (o : Ordering) → compare t u ≡ o → has_equal (with_value us t) t ≡ true
        → has_equal (match_ordering o (t ∷ u ∷ us) (u ∷ us) (u ∷ with_value us t)) t ≡ true
    by Less is later = true_or (has_equal (u ∷ us) t) (ap is_eq (tied_itself compare_total t))
    by Equal is later = true_or (has_equal us t) (ap is_eq is)
    by Greater is later = or_true (is_eq (compare t u)) later

stays_with : (ts : List Tree) (s t : Tree) → has_equal ts s ≡ true → has_equal (with_value ts t) s ≡ true
stays_with [] s t h = absurd cc
stays_with (u ∷ us) s t h = by (compare t u) (stays_with us s t)
  where
    later : (b : Bool) → (has_equal us s ≡ true → has_equal (with_value us t) s ≡ true) → (b || has_equal us s) ≡ true
        → (b || has_equal (with_value us t) s) ≡ true
    later true on e = refl
    later false on e = on e

    by : (o : Ordering) → (has_equal us s ≡ true → has_equal (with_value us t) s ≡ true)
        → has_equal (match_ordering o (t ∷ u ∷ us) (u ∷ us) (u ∷ with_value us t)) s ≡ true
    by Less on = or_true (is_eq (compare s t)) h
    by Equal on = h
    by Greater on = later (is_eq (compare s u)) on h

stays_with_all : (values ts : List Tree) (s : Tree) → has_equal values s ≡ true → has_equal (with_values values ts) s ≡ true
stays_with_all values [] s h = h
stays_with_all values (t ∷ ts) s h = stays_with_all (with_value values t) ts s (stays_with values s t h)

all_with : (values ts : List Tree) → AllByRecursion (λ t. has_equal (with_values values ts) t ≡ true) ts
all_with values [] = tt
all_with values (t ∷ ts) = (stays_with_all (with_value values t) ts t (is_with values t), all_with (with_value values t) ts)

pub each_once : (found : List Tree) → AreDistinctOf found (with_values [] found)
unfolding IsStrictlySortedBy
each_once found = record {
  rising = rises_with_all [] found tt;
  only = each_with_all (Contains found) [] found tt (recursion_from_All (Contains found) found (All-contains_itself found));
  all = all_with [] found;
}
