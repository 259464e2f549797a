-- A code for updates, by which a proof tells two of them apart.
use Rattle.std.specs.Prelude.{◌≡◌, ◌⊎◌, ℕ, ℤ, List, refl}
use Rattle.std.proofs.Common.{inl, inr}
use Rattle.std.specs.Coded.{Coded, code_by, coded×, coded⊎, coded_ℕ, coded_ℤ, coded_list}
use Rattle.bson.specs.Tree.{Tree, Pairs, Items}
use Rattle.bson.specs.TreeCode.{coded_tree, coded_items, coded_pairs}
use Rattle.filter.specs.Condition.{Condition, all, Conditions, no_conditions, condition}
use Rattle.filter.specs.ConditionCode.{coded_conditions}
use Rattle.update_model.specs.Update.{Path, Number, int32, int64, Action, set, unset, increment}
use Rattle.update_model.specs.Update.{at_most, at_least, push, pull, rename, Edit, Update}
use Rattle.update_model.specs.Update.{replacement, edits}

abbrev NumberSum : Type 0
NumberSum = ℤ ⊎ ℤ

abbrev number_sum : Number → NumberSum
number_sum (int32 z) = inl z
number_sum (int64 z) = inr z

abbrev sum_number : NumberSum → Number
sum_number (inl z) = int32 z
sum_number (inr z) = int64 z

pub sum_number-number_sum : (n : Number) → sum_number (number_sum n) ≡ n
sum_number-number_sum (int32 z) = refl
sum_number-number_sum (int64 z) = refl

abbrev coded_number : Coded Number
coded_number =
    code_by NumberSum (coded⊎ coded_ℤ coded_ℤ) number_sum sum_number sum_number-number_sum

abbrev coded_path : Coded Path
coded_path = coded_list (coded_list coded_ℕ)

abbrev first_condition : Conditions → Condition
first_condition no_conditions = all no_conditions
first_condition (condition c cs) = c

abbrev coded_condition : Coded Condition
coded_condition =
    code_by Conditions coded_conditions (λ c. condition c no_conditions) first_condition (λ _. refl)

abbrev ActionSum : Type 0
ActionSum = Tree ⊎ (ℕ ⊎ (Number ⊎ (Tree ⊎ (Tree ⊎ (Items ⊎ (Condition ⊎ Path))))))

abbrev coded_action_sum : Coded ActionSum
coded_action_sum =
    coded⊎ coded_tree (coded⊎ coded_ℕ (coded⊎ coded_number (coded⊎ coded_tree (coded⊎ coded_tree
    (coded⊎ coded_items (coded⊎ coded_condition coded_path))))))

abbrev action_sum : Action → ActionSum
action_sum (set t) = inl t
action_sum unset = inr (inl 0)
action_sum (increment n) = inr (inr (inl n))
action_sum (at_most t) = inr (inr (inr (inl t)))
action_sum (at_least t) = inr (inr (inr (inr (inl t))))
action_sum (push ts) = inr (inr (inr (inr (inr (inl ts)))))
action_sum (pull c) = inr (inr (inr (inr (inr (inr (inl c))))))
action_sum (rename path) = inr (inr (inr (inr (inr (inr (inr path))))))

abbrev sum_action : ActionSum → Action
sum_action (inl t) = set t
sum_action (inr (inl n)) = unset
sum_action (inr (inr (inl n))) = increment n
sum_action (inr (inr (inr (inl t)))) = at_most t
sum_action (inr (inr (inr (inr (inl t))))) = at_least t
sum_action (inr (inr (inr (inr (inr (inl ts)))))) = push ts
sum_action (inr (inr (inr (inr (inr (inr (inl c))))))) = pull c
sum_action (inr (inr (inr (inr (inr (inr (inr path))))))) = rename path

pub sum_action-action_sum : (a : Action) → sum_action (action_sum a) ≡ a
sum_action-action_sum (set t) = refl
sum_action-action_sum unset = refl
sum_action-action_sum (increment n) = refl
sum_action-action_sum (at_most t) = refl
sum_action-action_sum (at_least t) = refl
sum_action-action_sum (push ts) = refl
sum_action-action_sum (pull c) = refl
sum_action-action_sum (rename path) = refl

abbrev coded_action : Coded Action
coded_action = code_by ActionSum coded_action_sum action_sum sum_action sum_action-action_sum

abbrev pub coded_edit : Coded Edit
coded_edit = code_by (Path × Action) (coded× coded_path coded_action) (λ e. (e.path, e.action))
    (λ x. record { path = x.0; action = x.1 }) (λ _. refl)

abbrev UpdateSum : Type 0
UpdateSum = Pairs ⊎ List Edit

abbrev update_sum : Update → UpdateSum
update_sum (replacement ps) = inl ps
update_sum (edits es) = inr es

abbrev sum_update : UpdateSum → Update
sum_update (inl ps) = replacement ps
sum_update (inr es) = edits es

pub sum_update-update_sum : (u : Update) → sum_update (update_sum u) ≡ u
sum_update-update_sum (replacement ps) = refl
sum_update-update_sum (edits es) = refl

abbrev pub coded_update : Coded Update
coded_update =
    code_by UpdateSum
    (coded⊎ coded_pairs (coded_list coded_edit)) update_sum sum_update sum_update-update_sum
