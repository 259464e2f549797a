-- A code for stages, by which a proof tells two of them apart.
use Rattle.std.specs.Prelude.{◌≡◌, ◌⊎◌, ℕ, zero, suc, Bool, List, refl}
use Rattle.std.proofs.Common.{inl, inr}
use Rattle.std.specs.Coded.{Coded, code_by, coded×, coded⊎, coded_ℕ, coded_bool, coded_list}
use Rattle.filter.specs.Condition.{Conditions}
use Rattle.filter.specs.ConditionCode.{coded_conditions}
use Rattle.sort.specs.Sort.{SortField}
use Rattle.aggregate_model.specs.Project.{Path, Computed, Projecting}
use Rattle.bson.specs.Tree.{Tree}
use Rattle.bson.specs.TreeCode.{coded_tree}
use Rattle.aggregate_model.specs.Expression.{Expression, constant, source}
use Rattle.aggregate_model.specs.Group.{IdField, GroupId, one_value, id_document, GroupField}
use Rattle.aggregate_model.specs.Group.{Grouping}
use Rattle.aggregate_model.specs.declared.accumulators.Accumulator.{Accumulator}
use Rattle.aggregate_model.specs.declared.accumulators.Accumulator.TheVariants as accumulators
use Rattle.aggregate_model.specs.Stage.{Stage, match_stage, project_stage, unwind_stage}
use Rattle.aggregate_model.specs.Stage.{group_stage, sort_stage, skip_stage, limit_stage}
use Rattle.aggregate_model.specs.Stage.{count_stage}

abbrev coded_path : Coded Path
coded_path = coded_list (coded_list coded_ℕ)

abbrev coded_computed : Coded Computed
coded_computed = code_by (Path × Path) (coded× coded_path coded_path) (λ c. (c.name, c.source))
    (λ x. record { name = x.0; source = x.1 }) (λ _. refl)

abbrev coded_projecting : Coded Projecting
coded_projecting =
    code_by ((Bool × List Path) × List Computed)
    (coded× (coded× coded_bool (coded_list coded_path)) (coded_list coded_computed))
    (λ p. (p.taken, p.computed)) (λ x. record { taken = x.0; computed = x.1 }) (λ _. refl)

abbrev coded_sort : Coded (List SortField)
coded_sort = coded_list (coded× coded_path coded_bool)

-- ---- groups

abbrev accumulator_number : Accumulator → ℕ
accumulator_number accumulators.Sum = 0
accumulator_number accumulators.Least = 1
accumulator_number accumulators.Greatest = 2
accumulator_number accumulators.First = 3
accumulator_number accumulators.Last = 4
accumulator_number accumulators.Push = 5

abbrev number_accumulator : ℕ → Accumulator
number_accumulator zero = accumulators.Sum
number_accumulator (suc zero) = accumulators.Least
number_accumulator (suc (suc zero)) = accumulators.Greatest
number_accumulator (suc (suc (suc zero))) = accumulators.First
number_accumulator (suc (suc (suc (suc zero)))) = accumulators.Last
number_accumulator (suc (suc (suc (suc (suc n))))) = accumulators.Push

pub number_accumulator-accumulator_number : (a : Accumulator)
    → number_accumulator (accumulator_number a) ≡ a
number_accumulator-accumulator_number accumulators.Sum = refl
number_accumulator-accumulator_number accumulators.Least = refl
number_accumulator-accumulator_number accumulators.Greatest = refl
number_accumulator-accumulator_number accumulators.First = refl
number_accumulator-accumulator_number accumulators.Last = refl
number_accumulator-accumulator_number accumulators.Push = refl

abbrev coded_accumulator : Coded Accumulator
coded_accumulator =
    code_by ℕ coded_ℕ accumulator_number number_accumulator number_accumulator-accumulator_number

abbrev expression_sum : Expression → Tree ⊎ Path
expression_sum (constant t) = inl t
expression_sum (source path) = inr path

abbrev sum_expression : Tree ⊎ Path → Expression
sum_expression (inl t) = constant t
sum_expression (inr path) = source path

pub sum_expression-expression_sum : (e : Expression) → sum_expression (expression_sum e) ≡ e
sum_expression-expression_sum (constant t) = refl
sum_expression-expression_sum (source path) = refl

abbrev coded_expression : Coded Expression
coded_expression =
    code_by (Tree ⊎ Path) (coded⊎ coded_tree coded_path) expression_sum sum_expression
    sum_expression-expression_sum

abbrev coded_id_field : Coded IdField
coded_id_field =
    code_by (List ℕ × Expression) (coded× (coded_list coded_ℕ) coded_expression)
    (λ f. (f.name, f.expression)) (λ x. record { name = x.0; expression = x.1 }) (λ _. refl)

abbrev id_sum : GroupId → Expression ⊎ List IdField
id_sum (one_value e) = inl e
id_sum (id_document fields) = inr fields

abbrev sum_id : Expression ⊎ List IdField → GroupId
sum_id (inl e) = one_value e
sum_id (inr fields) = id_document fields

pub sum_id-id_sum : (id : GroupId) → sum_id (id_sum id) ≡ id
sum_id-id_sum (one_value e) = refl
sum_id-id_sum (id_document fields) = refl

abbrev coded_id : Coded GroupId
coded_id =
    code_by (Expression ⊎ List IdField) (coded⊎ coded_expression (coded_list coded_id_field))
    id_sum sum_id sum_id-id_sum

abbrev coded_group_field : Coded GroupField
coded_group_field =
    code_by ((List ℕ × Accumulator) × Expression)
    (coded× (coded× (coded_list coded_ℕ) coded_accumulator) coded_expression)
    (λ f. ((f.name, f.accumulator), f.expression))
    (λ x. record { name = x.0.0; accumulator = x.0.1; expression = x.1 }) (λ _. refl)

abbrev coded_grouping : Coded Grouping
coded_grouping =
    code_by (GroupId × List GroupField) (coded× coded_id (coded_list coded_group_field))
    (λ g. (g.id, g.fields)) (λ x. record { id = x.0; fields = x.1 }) (λ _. refl)

-- ---- stages

abbrev StageSum : Type 0
StageSum = Conditions ⊎ (Projecting ⊎ (Path ⊎ (Grouping ⊎ (List SortField ⊎ (ℕ ⊎ (ℕ ⊎ List ℕ))))))

abbrev coded_stage_sum : Coded StageSum
coded_stage_sum =
    coded⊎ coded_conditions (coded⊎ coded_projecting (coded⊎ coded_path (coded⊎ coded_grouping
    (coded⊎ coded_sort (coded⊎ coded_ℕ (coded⊎ coded_ℕ (coded_list coded_ℕ)))))))

abbrev stage_sum : Stage → StageSum
stage_sum (match_stage rules) = inl rules
stage_sum (project_stage p) = inr (inl p)
stage_sum (unwind_stage path) = inr (inr (inl path))
stage_sum (group_stage g) = inr (inr (inr (inl g)))
stage_sum (sort_stage fields) = inr (inr (inr (inr (inl fields))))
stage_sum (skip_stage n) = inr (inr (inr (inr (inr (inl n)))))
stage_sum (limit_stage n) = inr (inr (inr (inr (inr (inr (inl n))))))
stage_sum (count_stage name) = inr (inr (inr (inr (inr (inr (inr name))))))

abbrev sum_stage : StageSum → Stage
sum_stage (inl rules) = match_stage rules
sum_stage (inr (inl p)) = project_stage p
sum_stage (inr (inr (inl path))) = unwind_stage path
sum_stage (inr (inr (inr (inl g)))) = group_stage g
sum_stage (inr (inr (inr (inr (inl fields))))) = sort_stage fields
sum_stage (inr (inr (inr (inr (inr (inl n)))))) = skip_stage n
sum_stage (inr (inr (inr (inr (inr (inr (inl n))))))) = limit_stage n
sum_stage (inr (inr (inr (inr (inr (inr (inr name))))))) = count_stage name

pub sum_stage-stage_sum : (s : Stage) → sum_stage (stage_sum s) ≡ s
sum_stage-stage_sum (match_stage rules) = refl
sum_stage-stage_sum (project_stage p) = refl
sum_stage-stage_sum (unwind_stage path) = refl
sum_stage-stage_sum (group_stage g) = refl
sum_stage-stage_sum (sort_stage fields) = refl
sum_stage-stage_sum (skip_stage n) = refl
sum_stage-stage_sum (limit_stage n) = refl
sum_stage-stage_sum (count_stage name) = refl

abbrev pub coded_stage : Coded Stage
coded_stage = code_by StageSum coded_stage_sum stage_sum sum_stage sum_stage-stage_sum
