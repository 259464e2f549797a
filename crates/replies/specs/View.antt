-- What replies stand for.
use Rattle.std.specs.Prelude.{◌≡◌, ◌≤◌, ℕ, List, length, map, codes, Result, Ok, Err}
use Rattle.bson.specs.Tree.{Pairs}
use Rattle.bson.specs.Spelling.{frame_of, pairs_bytes}
use Rattle.projection.specs.Projection.{Projection, project}
use Rattle.database_model.specs.World.{World}
use Rattle.database_model.specs.Refusals.{ok_reply}
use Rattle.outcome.specs.Outcome.{Fails}
use Rattle.path.specs.declared.refusal.Refusal.{Refusal}
use Rattle.path.specs.declared.refusal.Refusal.TheVariants as refusals
use Rattle.replies.specs.declared.reply.Answer.{Answer}
use Rattle.replies.specs.declared.reply.Answer.TheVariants as answers
use Rattle.replies.specs.declared.batch_spelling.BatchKind.{BatchKind}
use Rattle.replies.specs.declared.batch_spelling.BatchKind.TheVariants as batches

-- the reply that says that a command was done
abbrev pub answer_of : Answer → Pairs
answer_of (answers.Built ps) = ps
answer_of (answers.Spelled ps) = ps

-- what running a command returned: the reply, or the refusal
abbrev pub outcome_of : Result Answer Refusal → Result Pairs Refusal
outcome_of (Ok a) = Ok (answer_of a)
outcome_of (Err r) = Err r

-- what a projection leaves of each of these documents
abbrev pub projected : Projection → List Pairs → List Pairs
projected p ds = map (project p) ds

abbrev pub batch_name : BatchKind → List ℕ
batch_name batches.First = codes "firstBatch"
batch_name batches.Next = codes "nextBatch"

-- the reply is within the limit of replies: a message without its frame
abbrev pub IsSendable : Pairs → Type 0
IsSendable ps = length (frame_of (pairs_bytes ps)) ≤ 1048555

-- what is planned, with the end of its reply
abbrev pub with_ok : Result (World × Pairs) Refusal → Result (World × Pairs) Refusal
with_ok (Ok x) = Ok (x.0, ok_reply x.1)
with_ok (Err e) = Err e

-- What running a command made of a world: what was planned, or a refusal, which leaves the world as
-- it was.
abbrev pub Runs : World → Result (World × Pairs) Refusal → World → Result Pairs Refusal → Type 0
Runs old planned new (Ok reply) = with_ok planned ≡ Ok (new, reply)
Runs old planned new (Err e) = (new ≡ old) × Fails refusals.OutOfMemory e planned
