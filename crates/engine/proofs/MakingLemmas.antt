-- Commands that change the collections.
use Rattle.std.proofs.Common.{◌≡◌, ◌⊎◌, inl, inr, List, Result, Ok, Err, refl, sym, ap, subst, ◌∙◌}
use Rattle.bson.specs.Tree.{Pairs}
use Rattle.page.specs.History.{History, KeepsWord}
use Rattle.path.specs.declared.refusal.Refusal.{Refusal}
use Rattle.path.specs.declared.refusal.Refusal.TheVariants as refusals
use Rattle.outcome.specs.Outcome.{◌>>=◌}
use Rattle.tree_model.specs.Keys.{Edit}
use Rattle.entry_model.specs.LawfulState.{IsLawfulState}
use Rattle.entry_model.specs.State.{Collection}
use Rattle.entry_model.specs.StateEntries.{Leads}
use Rattle.collections.specs.Calls.{HasReadCause, HasWriteCause, IsOfFile}
use Rattle.collections.proofs.CauseLemmas.{any_cause, write_cause_from}
use Rattle.collections.proofs.LawLemmas as laws
use Rattle.engine.specs.Durable.{disk_history, file_of, IsRunning, IsSound}
use Rattle.opening.specs.TurnStates.{TurnStates}
use Rattle.engine.specs.Looking.{OnlyReads}
use Rattle.engine.specs.Performing.{RunsCommand}
use Rattle.cursors.specs.Held.{cursors_of}
use Rattle.database_model.specs.Refusals.{ok_reply}
use Rattle.database_model.specs.Step.{answered}
use Rattle.replies.specs.View.{with_ok}
use Rattle.engine.specs.View.{world}
use Rattle.database_model.specs.World.{World}
use Rattle.engine.specs.Writing.{FileCause, ChangesCollections, planned_or, Writes}
use Rattle.engine.specs.declared.engine.Engine.{Engine}
use Rattle.engine.proofs.Continuing.{continues_itself, continues_of}
use Rattle.engine.proofs.OnlyReading.{now_same, word_before}

-- what is refused by the file is one of its refusals
of_cause : {D : Type 0} (history : D → History) (after : List Collection) (old new : Engine D) (e : Refusal)
    → HasWriteCause history after (file_of old) (file_of new) e → IsOfFile e
of_cause history after old new e (inl (inl memory)) = inl memory
of_cause history after old new e (inl (inr (inl (is, failed)))) = inr (inl is)
of_cause history after old new e (inl (inr (inr (is, full)))) = inr (inr is)
of_cause history after old new e (inr (is, large)) = inr (inr is)

-- where there is a plan, it is what is planned
pub planned_is : (cs next : List Collection) (planned : Result (List Collection) Refusal) → planned ≡ Ok next → planned ≡ Ok (planned_or cs planned)
planned_is cs next planned is = is ∙ ap (λ (p : Result (List Collection) Refusal). Ok (planned_or cs p)) (sym is)

-- edits that lead to what is planned
pub leads_planned : (edits : List Edit) (cs next : List Collection) (planned : Result (List Collection) Refusal) → planned ≡ Ok next
    → Leads edits cs next × IsLawfulState next
    → Leads edits cs (planned_or cs planned) × IsLawfulState (planned_or cs planned)
leads_planned edits cs next planned is led = subst (λ (s : List Collection). Leads edits cs s × IsLawfulState s) (sym (ap (planned_or cs) is)) led

module _ {D : Type 0} (history : D → History) where
  -- while an engine runs, its collections are lawful
  pub lawful_now : (engine : Engine D) → IsSound history engine → KeepsWord (disk_history history engine) → IsRunning engine
      → IsLawfulState (world engine).collections
  lawful_now engine h k running = (h.file running k).now_state

  -- it was refused before anything was written
  pub makes_none : (planned : Result (List Collection) Refusal) (old new : Engine D) (e : Refusal) → OnlyReads history old new
      → (KeepsWord (disk_history history new) → (planned ≡ Err e) ⊎ HasReadCause history (file_of old) (file_of new) e)
      → ChangesCollections history planned (Err e) old new
  makes_none planned old new e reads why = record {
    sound = reads.sound;
    continues = reads.continues;
    start = ap (λ (k : TurnStates). k.start) reads.told;
    cursors = reads.cursors;
    as_planned = λ k. (now_same history old new reads, elim (why k) [ inl is ↦ inl is | inr cause ↦ inr (inl (any_cause history old.file new.file e cause)) ]);
    left = now_same history old new reads;
    refused = reads.changes;
    keeps = λ t. reads.changes ∙ t;
  }

  -- what was read was followed by a write
  module _ (plan : List Collection → Result (List Collection) Refusal) (old mid new : Engine D) (reads : OnlyReads history old mid) where
    abbrev after : List Collection
    after = planned_or (world mid).collections (plan (world mid).collections)

    pub makes_written : (r : Result (Unit {0}) Refusal) → (KeepsWord (disk_history history mid) → plan (world mid).collections ≡ Ok after)
        → Writes history after r mid new → ChangesCollections history (plan (world old).collections) r old new
    makes_written (Ok tt) plans w = record {
      sound = w.sound;
      continues = laws.goes_further history old.file mid.file new.file reads.continues w.continues;
      start = w.start ∙ ap (λ (k : TurnStates). k.start) reads.told;
      cursors = w.cursors ∙ reads.cursors;
      as_planned = λ k. ap plan (sym (now_same history old mid reads)) ∙ plans (word_before history mid.file new.file w.continues k)
          ∙ ap (λ (cs : List Collection). Ok cs) (sym w.ok);
      left = tt;
      refused = tt;
      keeps = λ t. w.keeps (reads.changes ∙ t);
    }
    makes_written (Err e) plans w = record {
      sound = w.sound;
      continues = laws.goes_further history old.file mid.file new.file reads.continues w.continues;
      start = w.start ∙ ap (λ (k : TurnStates). k.start) reads.told;
      cursors = w.cursors ∙ reads.cursors;
      as_planned = λ k. (
        w.err.0 ∙ now_same history old mid reads,
        inr (write_cause_from history old.file mid.file new.file reads.continues (word_before history mid.file new.file w.continues k)
            (planned_or (world old).collections (plan (world old).collections)) e
            (subst (λ (cs : List Collection). HasWriteCause history (planned_or cs (plan cs)) mid.file new.file e) (now_same history old mid reads)
            (w.cause k))),
      );
      left = w.err.0 ∙ now_same history old mid reads;
      refused = w.err.1 ∙ reads.changes;
      keeps = λ t. w.keeps (reads.changes ∙ t);
    }

  -- what was made behind reads
  module _ (plan : List Collection → Result (List Collection) Refusal) (old mid new : Engine D) (reads : OnlyReads history old mid) where
    pub makes_behind : (r : Result (Unit {0}) Refusal) → ChangesCollections history (plan (world mid).collections) r mid new
        → ChangesCollections history (plan (world old).collections) r old new
    makes_behind (Ok tt) m = record {
      sound = m.sound;
      continues = laws.goes_further history old.file mid.file new.file reads.continues m.continues;
      start = m.start ∙ ap (λ (k : TurnStates). k.start) reads.told;
      cursors = m.cursors ∙ reads.cursors;
      as_planned = λ k. ap plan (sym (now_same history old mid reads)) ∙ m.as_planned k;
      left = tt;
      refused = tt;
      keeps = λ t. m.keeps (reads.changes ∙ t);
    }
    makes_behind (Err e) m = record {
      sound = m.sound;
      continues = laws.goes_further history old.file mid.file new.file reads.continues m.continues;
      start = m.start ∙ ap (λ (k : TurnStates). k.start) reads.told;
      cursors = m.cursors ∙ reads.cursors;
      as_planned = λ k.
          let d = m.as_planned k in
          let same = now_same history old mid reads in (
            d.0 ∙ same,
            elim d.1 [
              | inl is ↦ inl (ap plan (sym same) ∙ is)
              | inr cause ↦ inr
                  (write_cause_from history old.file mid.file new.file reads.continues (word_before history mid.file new.file m.continues k)
                  (planned_or (world old).collections (plan (world old).collections)) e
                  (subst (λ (cs : List Collection). HasWriteCause history (planned_or cs (plan cs)) mid.file new.file e) same cause))
            ],
          );
      left = m.left ∙ now_same history old mid reads;
      refused = m.refused ∙ reads.changes;
      keeps = λ t. m.keeps (reads.changes ∙ t);
    }

-- the collections that are planned, and this reply
abbrev pub with_reply : World → Pairs → Result (List Collection) Refusal → Result (World × Pairs) Refusal
with_reply w reply planned = planned >>= (λ cs. Ok (record w { collections = cs }, reply))

module _ {D : Type 0} (history : D → History) (reply : Pairs) (planned : Result (List Collection) Refusal) (run : Result (World × Pairs) Refusal)
    (old new : Engine D) where
  -- there was no memory for the reply
  pub performs_none : IsSound history old → RunsCommand history run (Err refusals.OutOfMemory) old old
  performs_none h = record {
    sound = h;
    continues = continues_itself history old;
    start = refl;
    as_planned = λ k. (refl, inr (inl refl, λ k. inl (inl refl)));
    left = refl;
    refused = refl;
    keeps = λ t. t;
  }

  module _ (is : run ≡ with_reply (world old) reply planned) where
    pub performs_done : (d : Pairs) → d ≡ ok_reply reply → ChangesCollections history planned (Ok tt) old new → RunsCommand history run (Ok d) old new
    performs_done d said makes = record {
      sound = makes.sound;
      continues = continues_of history old new makes.continues;
      start = makes.start;
      as_planned = λ k. ap with_ok (is ∙ ap (with_reply (world old) reply) (makes.as_planned k)) ∙ there;
      left = tt;
      refused = tt;
      keeps = makes.keeps;
    }
      where
        there : with_ok (Ok (record (world old) { collections = (world new).collections }, reply)) ≡ Ok (world new, d)
        there i = Ok (
          record { collections = (world new).collections; cursors = cursors_of (sym makes.cursors i); next = (sym makes.cursors i).next },
          sym
              said i,
        )

    refused_so : (p : Result (List Collection) Refusal)
        → (answered (world old) (with_reply (world old) reply p)).0.collections ≡ planned_or (world old).collections p
    refused_so (Ok cs) = refl
    refused_so (Err e) = refl

    pub performs_refused : (e : Refusal) → ChangesCollections history planned (Err e) old new → RunsCommand history run (Err e) old new
    performs_refused e makes = record {
      sound = makes.sound;
      continues = continues_of history old new makes.continues;
      start = makes.start;
      as_planned = λ k. let d = makes.as_planned k in (same d.0, why d.1);
      left = same makes.left;
      refused = makes.refused;
      keeps = makes.keeps;
    }
      where
        same : (world new).collections ≡ (world old).collections → world new ≡ world old
        same now i = record { collections = now i; cursors = cursors_of (makes.cursors i); next = (makes.cursors i).next }

        ends : (answered (world old) run).0.collections ≡ planned_or (world old).collections planned
        ends = ap (λ (r : Result (World × Pairs) Refusal). (answered (world old) r).0.collections) is ∙ refused_so planned

        why : (planned ≡ Err e) ⊎ HasWriteCause history (planned_or (world old).collections planned) (file_of old) (file_of new) e
            → (run ≡ Err e) ⊎ FileCause history (file_of old) (file_of new) (answered (world old) run).0 e
        why (inl refused) = inl (is ∙ ap (with_reply (world old) reply) refused)
        why (inr cause) =
            inr (
              of_cause history (planned_or (world old).collections planned) old new e cause,
              λ k. subst (λ (cs : List Collection). HasWriteCause history cs (file_of old) (file_of new) e) (sym ends) cause,
            )
