-- What a link's part of a turn is.
use Rattle.std.proofs.Common.{◌≡◌, ℕ, List, [], ◌∷◌, ◌++◌, refl, sym, ◌∙◌, ap, append-nil}
use Rattle.std.specs.Prelude.{Bool, true, Result, Ok, Err, Option, Some, None}
use Rattle.bson.specs.Tree.{Pairs}
use Rattle.op_msg.specs.Frame.{Frame}
use Rattle.op_msg.specs.Request.{body_of}
use Rattle.op_msg.specs.declared.fault.FrameFault.{FrameFault}
use Rattle.op_msg.specs.declared.request.Request.{Request}
use Rattle.database_model.specs.World.{World}
use Rattle.path.specs.declared.refusal.Refusal.{Refusal}
use Rattle.database_model.specs.Step.{WroteNothing}
use Rattle.engine.specs.Laws.{BodyOnlyReads}
use Rattle.outcome.specs.Outcome.{Gives}
use Rattle.bson_bytes.specs.declared.fault.BsonFault.{BsonFault}
use Rattle.bson_bytes.specs.declared.fault.BsonFault.TheVariants as bson_faults
use Rattle.server.specs.Turn.{frame_unless, frame_for, call_at, taken_at, AllRead, AnswersOnAnyDisk}
use Rattle.server.specs.Taking.{IsTaken, IsAnswer, Serves}
use Rattle.server.specs.declared.connection.Connection.{Connection}
use Rattle.server.specs.declared.connection.Taken.{Taken}
use Rattle.server.specs.declared.connection.Taken.TheVariants as takes

abbrev Front : Type 0
Front = Result (Option (Frame × List ℕ)) FrameFault

pub taken_link : (old new : Connection) (front : Front) (t : Taken) → IsTaken old front t new → new ≡ taken_at old front
taken_link old new (Ok None) takes.Nothing h = h
taken_link old new (Ok None) (takes.Call n r) h = absurd h
taken_link old new (Ok (Some x)) takes.Nothing h = absurd h
taken_link old new (Ok (Some x)) (takes.Call n r) h = h.2
taken_link old new (Err e) takes.Nothing h = h
taken_link old new (Err e) (takes.Call n r) h = absurd h

-- where a message is taken, there is a call
pub is_called : (old new : Connection) (front : Front) (n : ℕ) (r : Request) → IsTaken old front (takes.Call n r) new → call_at old front ≡ [] → ⊥
is_called old new (Ok None) n r h none = absurd h
is_called old new (Err e) n r h none = absurd h
is_called old new (Ok (Some x)) n r h none = absurd cc

-- no message was answered
pub none_served : (word : Type 0) (beside : World → Refusal → Type 0) (same clean : Type 0) (w : World) (given : List (ℕ × List ℕ)) → same
    → Serves word beside same clean [] w w true given given
none_served word beside same clean w given stays = record {
  replies = [];
  one_each = refl;
  runs = λ k. refl;
  wrote = λ k n. stays;
  frames = λ e. sym (append-nil given);
  anyhow = refl;
  wrote_none = λ k n. stays;
  left = λ r. tt;
  left_all = λ k r. tt;
}

module _ (word : Type 0) (beside : World → Refusal → Type 0) (same clean : Type 0) (old new : Connection) where
  pub nothing_served : (front : Front) (t : Taken) (w : World) (given : List (ℕ × List ℕ)) → same → IsTaken old front t new
      → ((n : ℕ) (r : Request) → t ≡ takes.Call n r → ⊥) → Serves word beside same clean (call_at old front) w w true given given
  nothing_served (Ok None) t w given stays h none = none_served word beside same clean w given stays
  nothing_served (Err e) t w given stays h none = none_served word beside same clean w given stays
  nothing_served (Ok (Some x)) takes.Nothing w given stays h none = absurd h
  nothing_served (Ok (Some x)) (takes.Call n r) w given stays h none = absurd (none n r refl)

  pub one_served : (front : Front) (n : ℕ) (r : Request) (w w' : World) (reply : Pairs) (ok : Bool) (given now : List (ℕ × List ℕ))
      → IsTaken old front (takes.Call n r) new
      → (word → IsAnswer beside w old.id r w' reply)
      → (word → (read : Result Pairs BsonFault) → Gives bson_faults.Memory (λ d. d) r.body read → WroteNothing w read w' → same)
      → ((read : Result Pairs BsonFault) → Gives bson_faults.Memory (λ d. d) r.body read → AnswersOnAnyDisk w old.id read w' reply)
      → (clean → w'.collections ≡ w.collections)
      → (ok ≡ true → now ≡ given ++ frame_unless r.more_to_come old.id n r.request_id reply)
      → Serves word beside same clean (call_at old front) w w' ok given now
  one_served (Ok None) n r w w' reply ok given now h a q any still f = absurd h
  one_served (Err e) n r w w' reply ok given now h a q any still f = absurd h
  one_served (Ok (Some x)) n r w w' reply ok given now h a q any still f = record {
    replies = reply ∷ [];
    one_each = refl;
    runs = λ k. (w', a k (body_of x.0) h.1.body, refl);
    wrote = λ k none. q k (body_of x.0) h.1.body none.0;
    anyhow = (w', any (body_of x.0) h.1.body, refl);
    wrote_none = λ k none. q k (body_of x.0) h.1.body none.0;
    left = λ r. (still r, tt);
    left_all = λ k r. (still r, tt);
    frames = λ e. f e ∙ ap (λ (fs : List (ℕ × List ℕ)). given ++ fs) (so ∙ sym (append-nil (frame_for (record { connection = old; frame = x.0 }) reply)));
  }
    where
      so : frame_unless r.more_to_come old.id n r.request_id reply ≡ frame_for (record { connection = old; frame = x.0 }) reply
      so = λ i. frame_unless (h.1.more i) old.id (h.0 i) (h.1.number i) reply

-- a message that only reads
pub one_reads : (P : Type 0) (old new : Connection) (front : Front) (n : ℕ) (r : Request) → IsTaken old front (takes.Call n r) new
    → ((read : Result Pairs BsonFault) → Gives bson_faults.Memory (λ d. d) r.body read → BodyOnlyReads read → P)
    → AllRead (call_at old front) → P
one_reads P old new (Ok None) n r h use_it only = absurd h
one_reads P old new (Err e) n r h use_it only = absurd h
one_reads P old new (Ok (Some x)) n r h use_it only = use_it (body_of x.0) h.1.body only.0
