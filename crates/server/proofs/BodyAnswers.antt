-- What a body that is no document is answered.
use Rattle.std.proofs.Common.{◌≡◌, inl, inr, ℕ, refl, sym, subst}
use Rattle.std.specs.Prelude.{◌≢◌, Result, Ok, Err}
use Rattle.bson.specs.Tree.{Pairs}
use Rattle.outcome.specs.Outcome.{Fails}
use Rattle.bson_bytes.specs.declared.fault.BsonFault.{BsonFault}
use Rattle.bson_bytes.specs.declared.fault.BsonFault.TheVariants as faults
use Rattle.database_model.specs.World.{World}
use Rattle.database_model.specs.Refusals.{refusal_reply}
use Rattle.database_model.specs.Step.{Answers}
use Rattle.path.specs.declared.refusal.Refusal.{Refusal}
use Rattle.path.specs.declared.refusal.Refusal.TheVariants as refusals
use Rattle.replies.specs.View.{answer_of}
use Rattle.engine.specs.Laws.{BodyNeedsNoDisk, ForMemory}
use Rattle.engine.specs.View.{IsRefusal, reply_of}
use Rattle.engine.specs.declared.engine.Reply.{Reply}
use Rattle.engine.specs.declared.engine.Reply.TheVariants as replies
use Rattle.server.specs.Turn.{AnswersOnAnyDisk}

module _ (beside : World → Refusal → Type 0) (memory_may : (planned : World) → beside planned refusals.OutOfMemory) (w : World) (id : ℕ) (fault : BsonFault)
    (refusal : Refusal) (read : Result Pairs BsonFault) where
  no_memory : refusal ≡ refusals.OutOfMemory → Answers beside w id read w (refusal_reply refusal)
  no_memory is = inr (record { refusal = refusal; cause = subst (beside _) (sym is) (memory_may _); same = refl; says = refl })

  no_document : read ≡ Err fault → refusal ≡ refusals.InvalidBSON → Answers beside w id read w (refusal_reply refusal)
  no_document e is =
      subst (λ (r : Result Pairs BsonFault). Answers beside w id r w (refusal_reply refusal)) (sym e) (inl (λ i. (w, refusal_reply (is i))))

pub refused_body : (beside : World → Refusal → Type 0) (memory_may : (planned : World) → beside planned refusals.OutOfMemory) (w : World) (id : ℕ)
    (fault : BsonFault) (refusal : Refusal) (read : Result Pairs BsonFault) → (fault ≡ faults.Memory → refusal ≡ refusals.OutOfMemory)
    → (fault ≢ faults.Memory → refusal ≡ refusals.InvalidBSON) → Fails faults.Memory fault read → Answers beside w id read w (refusal_reply refusal)
refused_body beside memory_may w id faults.Memory refusal read memory other fails = no_memory beside memory_may w id faults.Memory refusal read (memory refl)
refused_body beside memory_may w id faults.Truncated refusal read memory other fails =
    no_document beside memory_may w id faults.Truncated refusal read (fails (λ e. absurd cc)) (other (λ e. absurd cc))
refused_body beside memory_may w id faults.Length refusal read memory other fails =
    no_document beside memory_may w id faults.Length refusal read (fails (λ e. absurd cc)) (other (λ e. absurd cc))
refused_body beside memory_may w id faults.TypeByte refusal read memory other fails =
    no_document beside memory_may w id faults.TypeByte refusal read (fails (λ e. absurd cc)) (other (λ e. absurd cc))
refused_body beside memory_may w id faults.Text refusal read memory other fails =
    no_document beside memory_may w id faults.Text refusal read (fails (λ e. absurd cc)) (other (λ e. absurd cc))
refused_body beside memory_may w id faults.Name refusal read memory other fails =
    no_document beside memory_may w id faults.Name refusal read (fails (λ e. absurd cc)) (other (λ e. absurd cc))
refused_body beside memory_may w id faults.Repeated refusal read memory other fails =
    no_document beside memory_may w id faults.Repeated refusal read (fails (λ e. absurd cc)) (other (λ e. absurd cc))
refused_body beside memory_may w id faults.ArrayName refusal read memory other fails =
    no_document beside memory_may w id faults.ArrayName refusal read (fails (λ e. absurd cc)) (other (λ e. absurd cc))
refused_body beside memory_may w id faults.Bool refusal read memory other fails =
    no_document beside memory_may w id faults.Bool refusal read (fails (λ e. absurd cc)) (other (λ e. absurd cc))
refused_body beside memory_may w id faults.Subtype refusal read memory other fails =
    no_document beside memory_may w id faults.Subtype refusal read (fails (λ e. absurd cc)) (other (λ e. absurd cc))
refused_body beside memory_may w id faults.Deep refusal read memory other fails =
    no_document beside memory_may w id faults.Deep refusal read (fails (λ e. absurd cc)) (other (λ e. absurd cc))
refused_body beside memory_may w id faults.TooLarge refusal read memory other fails =
    no_document beside memory_may w id faults.TooLarge refusal read (fails (λ e. absurd cc)) (other (λ e. absurd cc))

-- ---- what is answered on any disk

pub answered_anyhow : (w new : World) (id : ℕ) (read : Result Pairs BsonFault) (reply : Reply) → (IsRefusal reply → new ≡ w)
    → (BodyNeedsNoDisk read → Answers ForMemory w id read new (reply_of reply)) → AnswersOnAnyDisk w id read new (reply_of reply)
answered_anyhow w new id read (replies.Done a) left sure = record { outcome = Ok (answer_of a); says = refl; refused = tt; sure = sure }
answered_anyhow w new id read (replies.Refused e) left sure = record { outcome = Err e; says = refl; refused = left tt; sure = sure }
