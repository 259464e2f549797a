-- A code for conditions, by which a proof tells two of them apart.
use Rattle.std.specs.Prelude.{◌≡◌, ℕ, List, refl}
use Rattle.std.proofs.Common.{ap, arith}
use Rattle.std.specs.Coded.{Coded, coded_ℕ, coded_list}
use base.Stored.{Gv, gnil, gnum, gcons}
use Rattle.bson.specs.TreeCode.{coded_tree}
use Rattle.filter.specs.declared.condition.Comparison.{Comparison}
use Rattle.filter.specs.declared.condition.Comparison.TheVariants as comparisons
use Rattle.filter.specs.Condition.{Predicate, equal, ordered, there, of_kinds, size, Condition, all}
use Rattle.filter.specs.Condition.{any, not_all, not_any, at, is, element, element_document}
use Rattle.filter.specs.Condition.{Conditions, no_conditions, condition}

abbrev head : Gv → Gv
head gnil = gnil
head (gnum n) = gnil
head (gcons a b) = a

abbrev tail : Gv → Gv
tail gnil = gnil
tail (gnum n) = gnil
tail (gcons a b) = b

abbrev value : Gv → ℕ
value gnil = 0
value (gnum n) = n
value (gcons a b) = 0

abbrev coded_bytes : Coded (List ℕ)
coded_bytes = coded_list coded_ℕ

abbrev coded_names : Coded (List (List ℕ))
coded_names = coded_list coded_bytes

abbrev comparison_number : Comparison → ℕ
comparison_number comparisons.Below = 0
comparison_number comparisons.AtMost = 1
comparison_number comparisons.Above = 2
comparison_number comparisons.AtLeast = 3

comparison_one : (x y : Comparison) → comparison_number x ≡ comparison_number y → x ≡ y
comparison_one comparisons.Below comparisons.Below e = refl
comparison_one comparisons.Below y e = absurd (omega arith)
comparison_one comparisons.AtMost comparisons.AtMost e = refl
comparison_one comparisons.AtMost y e = absurd (omega arith)
comparison_one comparisons.Above comparisons.Above e = refl
comparison_one comparisons.Above y e = absurd (omega arith)
comparison_one comparisons.AtLeast comparisons.AtLeast e = refl
comparison_one comparisons.AtLeast y e = absurd (omega arith)

abbrev predicate_number : Predicate → Gv
predicate_number (equal t) = gcons (gnum 0) (coded_tree.code t)
predicate_number (ordered c t) =
    gcons (gnum 1) (gcons (gnum (comparison_number c)) (coded_tree.code t))
predicate_number there = gcons (gnum 2) gnil
predicate_number (of_kinds ks) = gcons (gnum 3) (coded_bytes.code ks)
predicate_number (size n) = gcons (gnum 4) (gnum n)

predicate_one : (x y : Predicate) → predicate_number x ≡ predicate_number y → x ≡ y
predicate_one (equal t) (equal u) e = ap equal (coded_tree.inj t u (ap tail e))
predicate_one (equal t) y e = absurd cc
predicate_one (ordered c t) (ordered d u) e = λ i. ordered
    (comparison_one c d (ap (λ g. value (head (tail g))) e) i)
    (coded_tree.inj t u (ap (λ g. tail (tail g)) e) i)
predicate_one (ordered c t) y e = absurd cc
predicate_one there there e = refl
predicate_one there y e = absurd cc
predicate_one (of_kinds ks) (of_kinds ls) e = ap of_kinds (coded_bytes.inj ks ls (ap tail e))
predicate_one (of_kinds ks) y e = absurd cc
predicate_one (size n) (size m) e = ap size (ap (λ g. value (tail g)) e)
predicate_one (size n) y e = absurd cc

abbrev mutual
  pub condition_number : Condition → Gv
  condition_number (all rs) = gcons (gnum 0) (conditions_number rs)
  condition_number (any rs) = gcons (gnum 1) (conditions_number rs)
  condition_number (not_all rs) = gcons (gnum 2) (conditions_number rs)
  condition_number (not_any rs) = gcons (gnum 3) (conditions_number rs)
  condition_number (at parts rs) =
      gcons (gnum 4) (gcons (coded_names.code parts) (conditions_number rs))
  condition_number (is t) = gcons (gnum 5) (predicate_number t)
  condition_number (element rs) = gcons (gnum 6) (conditions_number rs)
  condition_number (element_document rs) = gcons (gnum 7) (conditions_number rs)

  pub conditions_number : Conditions → Gv
  conditions_number no_conditions = gnil
  conditions_number (condition r rs) = gcons (condition_number r) (conditions_number rs)

mutual
  pub condition_one : (x y : Condition) → condition_number x ≡ condition_number y → x ≡ y
  condition_one (all x) (all y) e = ap all (conditions_one x y (ap tail e))
  condition_one (all x) y e = absurd cc
  condition_one (any x) (any y) e = ap any (conditions_one x y (ap tail e))
  condition_one (any x) y e = absurd cc
  condition_one (not_all x) (not_all y) e = ap not_all (conditions_one x y (ap tail e))
  condition_one (not_all x) y e = absurd cc
  condition_one (not_any x) (not_any y) e = ap not_any (conditions_one x y (ap tail e))
  condition_one (not_any x) y e = absurd cc
  condition_one (at p x) (at q y) e = λ i. at (coded_names.inj p q (ap (λ g. head (tail g)) e) i)
      (conditions_one x y (ap (λ g. tail (tail g)) e) i)
  condition_one (at p x) y e = absurd cc
  condition_one (is t) (is u) e = ap is (predicate_one t u (ap tail e))
  condition_one (is t) y e = absurd cc
  condition_one (element x) (element y) e = ap element (conditions_one x y (ap tail e))
  condition_one (element x) y e = absurd cc
  condition_one (element_document x) (element_document y) e =
      ap element_document (conditions_one x y (ap tail e))
  condition_one (element_document x) y e = absurd cc

  pub conditions_one : (x y : Conditions) → conditions_number x ≡ conditions_number y → x ≡ y
  conditions_one no_conditions no_conditions e = refl
  conditions_one no_conditions (condition r rs) e = absurd cc
  conditions_one (condition r rs) no_conditions e = absurd cc
  conditions_one (condition r rs) (condition q qs) e =
      λ i. condition (condition_one r q (ap head e) i) (conditions_one rs qs (ap tail e) i)

abbrev pub coded_conditions : Coded Conditions
coded_conditions = record { code = conditions_number; inj = conditions_one }
