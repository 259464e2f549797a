-- Steps of the walk.
use Rattle.std.proofs.Common.{◌≡◌, ℕ, zero, suc, ◌-◌, ◌<◌, ◌≤◌, Bool, true, false, List, [], ◌∷◌, length, take, drop, get_or, Some, None}
use Rattle.std.proofs.Common.{refl, sym, ap, ◌∙◌, arith}
use Rattle.std.specs.Prelude.{◌==◌, ◌||◌}
use Rattle.std.specs.List.{list_any}
use Rattle.std.proofs.lemmas.List.{take_all}
use Rattle.std.proofs.lemmas.List.Folds.{list_any-append}
use Rattle.bson.specs.Tree.{Scalar, Tree, scalar, array, Items, no_items, item}
use Rattle.bson.specs.Edits.{items_len}
use Rattle.path.specs.Reach.{Reached, reach, in_elements, in_place, items_list}
use Rattle.filter.specs.Condition.{size, weight, weights}
use Rattle.filter.specs.View.{condition_of, conditions_of}
use Rattle.filter.specs.Matches.{candidate_passes, passes}
use Rattle.filter.specs.declared.condition.Condition.{Condition}

-- a list and its first element
pub first_and_rest : {X : Type 0} (xs : List X) (x : X) → 1 ≤ length xs → x ≡ get_or xs 0 x → xs ≡ x ∷ take (length xs - 1) (drop 1 xs)
first_and_rest [] x le is = absurd (omega arith)
first_and_rest (y ∷ ys) x le is =
    let n : suc (length ys) - 1 ≡ length ys = omega arith in
    let all : take (length ys) ys ≡ ys = take_all (length ys) ys (omega arith) in
    λ i. sym is i ∷ sym (ap (λ (k : ℕ). take k ys) n ∙ all) i

pub condition_weight : (rs : List Condition) (i : ℕ) (r : Condition) → i < length rs → r ≡ get_or rs i r → weight (condition_of r) ≤ weights (conditions_of rs)
condition_weight [] i r lt is = absurd (omega arith)
condition_weight (q ∷ qs) zero r lt is = omega (arith, ap (λ (x : Condition). weight (condition_of x)) is)
condition_weight (q ∷ qs) (suc i) r lt is = omega (arith, condition_weight qs i r (omega arith) is)

-- a size is no question for a candidate
sizes : (n : ℕ) (ts : Items) → list_any (candidate_passes (size n)) (items_list ts) ≡ false
sizes n no_items = refl
sizes n (item t ts) = sizes n ts

pub passes-size : (n : ℕ) (one : Bool) (ts : Items) → passes (size n) one (Some (array ts)) ≡ (items_len ts == n)
passes-size n true ts = refl
passes-size n false ts = ap (λ (b : Bool). b || (items_len ts == n)) (sizes n ts)

pub reach-array : (pass : Reached → Bool) (parts rest : List (List ℕ)) (name : List ℕ) (t : Tree) (ts : Items) → parts ≡ name ∷ rest → t ≡ array ts
    → (list_any pass (in_elements (reach rest) name ts) || list_any pass (in_place (reach rest) name ts)) ≡ list_any pass (reach parts t)
reach-array pass parts rest name t ts p is =
    sym (list_any-append pass (in_elements (reach rest) name ts) (in_place (reach rest) name ts)) ∙ (λ i. list_any pass (reach (sym p i) (sym is i)))

-- a scalar has no fields
pub reach-scalar : (parts : List (List ℕ)) (s : Scalar) → false ≡ (length parts == 0) → None ∷ [] ≡ reach parts (scalar s)
reach-scalar [] s some = absurd cc
reach-scalar (name ∷ rest) s some = refl
