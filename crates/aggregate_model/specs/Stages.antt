-- The table of the stages: of each its name, how its operand is read, and what it makes of a list
-- of documents.
use Rattle.std.specs.Prelude.{ℕ, if◌then◌else◌, Option, Some, None, Result, Ok, List, codes}
use Rattle.std.specs.Str.{bytes_eq}
use Rattle.bson.specs.Tree.{Tree, Pairs}
use Rattle.outcome.specs.Outcome.{◌>>=◌}
use Rattle.path.specs.declared.refusal.Refusal.{Refusal}
use Rattle.filter.specs.Parsing.{read_filter}
use Rattle.sort.specs.Sort.{order}
use Rattle.sort.specs.SortReading.{read_sort}
use Rattle.aggregate_model.specs.Operands.{document_in, text_in, number_in, dollar_path_in}
use Rattle.aggregate_model.specs.Names.{field_name}
use Rattle.aggregate_model.specs.Stage.{Stage, match_stage, project_stage, unwind_stage}
use Rattle.aggregate_model.specs.Stage.{group_stage, sort_stage, skip_stage, limit_stage}
use Rattle.aggregate_model.specs.Stage.{count_stage}
use Rattle.aggregate_model.specs.Match.{matching}
use Rattle.aggregate_model.specs.Group.{read_grouping, grouped}
use Rattle.aggregate_model.specs.Project.{read_projecting, all_projected}
use Rattle.aggregate_model.specs.Unwind.{unwound}
use Rattle.aggregate_model.specs.Windows.{skipped, limited}
use Rattle.aggregate_model.specs.Count.{counted}
use Rattle.aggregate_model.specs.declared.stages.StageName.{StageName}
use Rattle.aggregate_model.specs.declared.stages.StageName.TheVariants as names

abbrev pub stage_named : List ℕ → Option StageName
stage_named name =
    if bytes_eq name (codes "$match") then Some names.Match else
    if bytes_eq name (codes "$project") then Some names.Project else
    if bytes_eq name (codes "$unwind") then Some names.Unwind else
    if bytes_eq name (codes "$group") then Some names.Group else
    if bytes_eq name (codes "$sort") then Some names.Sort else
    if bytes_eq name (codes "$skip") then Some names.Skip else
    if bytes_eq name (codes "$limit") then Some names.Limit else
    if bytes_eq name (codes "$count") then Some names.Count else
    None

abbrev pub read_operand : StageName → Tree → Result Stage Refusal
read_operand names.Match t = document_in t >>= (λ ps. read_filter ps >>= (λ f. Ok (match_stage f)))
read_operand names.Project t =
    document_in t >>= (λ ps. read_projecting ps >>= (λ p. Ok (project_stage p)))
read_operand names.Unwind t = dollar_path_in t >>= (λ path. Ok (unwind_stage path))
read_operand names.Group t =
    document_in t >>= (λ ps. read_grouping ps >>= (λ g. Ok (group_stage g)))
read_operand names.Sort t = document_in t >>= (λ ps. read_sort ps >>= (λ s. Ok (sort_stage s)))
read_operand names.Skip t = number_in 0 t >>= (λ n. Ok (skip_stage n))
read_operand names.Limit t = number_in 1 t >>= (λ n. Ok (limit_stage n))
read_operand names.Count t =
    text_in t >>= (λ s. field_name s >>= (λ name. Ok (count_stage name)))

-- the documents that match; those documents in order; and so on
abbrev pub apply_stage : Stage → List Pairs → Result (List Pairs) Refusal
apply_stage (match_stage rules) documents = Ok (matching rules documents)
apply_stage (project_stage p) documents = all_projected p documents
apply_stage (unwind_stage path) documents = unwound path documents
apply_stage (group_stage g) documents = grouped g documents
apply_stage (sort_stage fields) documents = Ok (order fields documents)
apply_stage (skip_stage n) documents = Ok (skipped n documents)
apply_stage (limit_stage n) documents = Ok (limited n documents)
apply_stage (count_stage name) documents = counted name documents
