-- A pipeline: one function on lists of documents after the other, each of which gives a list or is
-- refused. What a stage gives is judged before the next one.
use Rattle.std.specs.Prelude.{ℕ, ◌==◌, ◌++◌, Result, Ok, List, [], ◌∷◌, length}
use Rattle.bson.specs.Tree.{Tree, Pairs}
use Rattle.outcome.specs.Outcome.{◌>>=◌, unless, or_refused}
use Rattle.path.specs.declared.refusal.Refusal.{Refusal}
use Rattle.path.specs.declared.refusal.Refusal.TheVariants as refusals
use Rattle.aggregate_model.specs.Operands.{only_pair_in}
use Rattle.aggregate_model.specs.Stage.{Stage}
use Rattle.aggregate_model.specs.Stages.{stage_named, read_operand, apply_stage}
use Rattle.aggregate_model.specs.Limits.{within_limits}

-- ---- reading

-- a document of one pair: the stage's name and its operand
abbrev pub read_stage : Tree → Result Stage Refusal
read_stage t = only_pair_in t >>= (λ p. or_refused (stage_named p.0) refusals.FailedToParse
    >>= (λ name. read_operand name p.1))

-- the stages before, and these; of the 101st nothing is looked at
abbrev pub read_stages : List Tree → List Stage → Result (List Stage) Refusal
read_stages [] earlier = Ok earlier
read_stages (t ∷ ts) earlier = unless (length earlier == 100) refusals.FailedToParse
    (read_stage t >>= (λ s. read_stages ts (earlier ++ s ∷ [])))

-- the pipeline that values spell, or the first misuse from the left
abbrev pub read_pipeline : List Tree → Result (List Stage) Refusal
read_pipeline ts = read_stages ts []

-- ---- running

abbrev pub after_stage : Stage → ℕ → List Pairs → Result (List Pairs) Refusal
after_stage s limit documents = apply_stage s documents >>= within_limits limit

abbrev pub run : List Stage → ℕ → List Pairs → Result (List Pairs) Refusal
run [] limit documents = Ok documents
run (s ∷ stages) limit documents = after_stage s limit documents >>= run stages limit
