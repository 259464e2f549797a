-- What a command is answered that met more than want of memory.
use Rattle.std.proofs.Common.{◌≡◌, ◌⊎◌, ◌<◌, ◌≤◌, ◌+◌, ◌-◌, ◌^◌, ℕ, List, inl, inr, Result, Err, refl, ap, subst, sym, ◌∙◌, arith}
use Rattle.std.proofs.lemmas.Bool.{cases_lt}
use Rattle.bson.specs.Tree.{Pairs}
use Rattle.page.specs.History.{History, KeepsWord}
use Rattle.tree_model.specs.Store.{CountsReads}
use Rattle.collections.specs.Calls.{ExtendsTurn, HasReadCause}
use Rattle.collections.specs.Walk.{IsWalk}
use Rattle.collections.specs.declared.walk.Walk.{Walk}
use Rattle.collections.specs.View.{pages_of}
use Rattle.database_model.specs.Refusals.{refusal_reply}
use Rattle.database_model.specs.Step.{RefusedBeside, answered}
use Rattle.database_model.specs.World.{World}
use Rattle.path.specs.declared.refusal.Refusal.{Refusal}
use Rattle.path.specs.declared.refusal.Refusal.TheVariants as refusals
use Rattle.engine.specs.Continuing.{Continues}
use Rattle.engine.specs.Durable.{disk_history, failed_reads_of, file_of, failed_allocations_of}
use Rattle.engine.specs.Performing.{DoesPlanned, DoesReading}
use Rattle.engine.specs.Checking.{ChecksFile}
use Rattle.engine.specs.Dump.{BeginsDump, GoesOnDumping, HasFaultCause}
use Rattle.engine.specs.Troubles.{MetNoFailure, MetNoTrouble, Tells, TellsFault}
use Rattle.engine.specs.View.{world}
use Rattle.engine.specs.Writing.{FileCause}
use Rattle.engine.specs.declared.check_fault.CheckFault.{CheckFault}
use Rattle.engine.specs.declared.check_fault.CheckFault.TheVariants as faults
use Rattle.engine.specs.declared.engine.Engine.{Engine}
use Rattle.engine.specs.declared.troubles.Troubles.{Troubles}
use Rattle.engine.proofs.Continuing.{continues_of}
use Rattle.engine.proofs.Sound.{answers_read, answers_refused}

abbrev pub troubles_at : {D : Type 0} → (D → History) → Engine D → Troubles
troubles_at history engine = record { failed_reads = failed_reads_of history engine; failed_allocations = failed_allocations_of history engine }

-- where more reads were counted, the device has failed more often
failed_more : {D : Type 0} (history : D → History) (old new : Engine D) → CountsReads (pages_of history (file_of old)) (pages_of history (file_of new))
    → failed_reads_of history old < failed_reads_of history new → (disk_history history old).failures < (disk_history history new).failures
failed_more history old new counts more =
    let paced : failed_reads_of history new + (disk_history history old).failures ≤ failed_reads_of history old + (disk_history history new).failures
    = counts.paced in
    omega (arith, paced, more)

-- no read failed where no more were counted
pub met_no_failure : {D : Type 0} (history : D → History) (old new : Engine D) → Continues history old new → KeepsWord (disk_history history new)
    → failed_reads_of history new ≤ failed_reads_of history old → MetNoFailure history old new
met_no_failure history old new continues k as_many = elim (cases_lt (disk_history history old).failures (disk_history history new).failures) [
  | inl failed ↦ counted_then ((continues.counts k).counted failed)
  | inr as_before ↦ inl (omega (arith, as_before, continues.reads.extends.failures k))
]
  where
    counted_then : (failed_reads_of history old < failed_reads_of history new) ⊎ (failed_reads_of history new ≡ 18446744073709551615)
        → MetNoFailure history old new
    counted_then (inl more) = absurd (omega (arith, more, as_many))
    counted_then (inr most) = inr most

-- ---- commands

module _ {D : Type 0} (history : D → History) (old new : Engine D) (continues : Continues history old new) (met told : Refusal) where
  abbrev pub TellsHere : Type 0
  TellsHere = Tells met (troubles_at history old) (troubles_at history new) told

  -- by the counts that were read
  pub as_here : {before now : Troubles} → before ≡ troubles_at history old → now ≡ troubles_at history new → Tells met before now told → TellsHere
  as_here {before = before} is_before is_now tells =
      subst (λ (t : Troubles). Tells met t (troubles_at history new) told) is_before (subst (λ (t : Troubles). Tells met before t told) is_now tells)

  -- what may be answered with a refusal that may come beside the definition's answer
  abbrev IsAnswered : (World → Refusal → Type 0) → Result (World × Pairs) Refusal → Refusal → Type 0
  IsAnswered beside planned e =
      ((world new, refusal_reply e) ≡ answered (world old) planned)
      ⊎ RefusedBeside beside (world old) (answered (world old) planned).0 (world new) (refusal_reply e)

  module _ (k : KeepsWord (disk_history history new)) where
    counts : CountsReads (pages_of history (file_of old)) (pages_of history (file_of new))
    counts = continues.counts k

    pub answers_told : (planned : Result (World × Pairs) Refusal) → DoesPlanned history planned (Err met) old new → TellsHere
        → IsAnswered (FileCause history (file_of old) (file_of new)) planned told
    answers_told planned as_planned (inl (same, none)) =
        subst (IsAnswered (FileCause history (file_of old) (file_of new)) planned) (sym same) (answers_refused history old new planned met as_planned)
    answers_told planned as_planned (inr (inl (is, more))) =
        subst (IsAnswered (FileCause history (file_of old) (file_of new)) planned) (sym is)
        (inr (record {
          refusal = refusals.StorageFailed;
          cause = (inr (inl refl), λ word. inl (inr (inl (refl, inr (failed_more history old new counts more)))));
          same = as_planned.0;
          says = refl;
        }))
    answers_told planned as_planned (inr (inr (is, more))) =
        subst (IsAnswered (FileCause history (file_of old) (file_of new)) planned) (sym is)
        (inr (record {
          refusal = refusals.Full;
          cause = (inr (inr refl), λ word. inl (inr (inr (refl, inl more))));
          same = as_planned.0;
          says = refl;
        }))

    -- a command that only reads asks for no page
    pub answers_told_reading : (planned : Result (World × Pairs) Refusal) → DoesReading history planned (Err met) old new
        → failed_allocations_of history new ≡ failed_allocations_of history old → TellsHere
        → IsAnswered (λ w. HasReadCause history (file_of old) (file_of new)) planned told
    answers_told_reading planned as_planned takes (inl (same, none)) =
        subst (IsAnswered (λ w. HasReadCause history (file_of old) (file_of new)) planned) (sym same) (answers_read history old new planned met as_planned)
    answers_told_reading planned as_planned takes (inr (inl (is, more))) =
        subst (IsAnswered (λ w. HasReadCause history (file_of old) (file_of new)) planned) (sym is)
        (inr (record { refusal = refusals.StorageFailed; cause = inr (refl, inr (failed_more history old new counts more)); same = as_planned.0; says = refl }))
    answers_told_reading planned as_planned takes (inr (inr (is, more))) = absurd (omega (arith, more, takes))

    -- want of memory is told only where nothing else was met
    pub met_no_trouble : TellsHere → told ≡ refusals.OutOfMemory → MetNoTrouble history old new
    met_no_trouble (inl (same, none)) memory =
        let no_more = none (sym same ∙ memory) in
        record { reads = met_no_failure history old new continues k no_more.0; takes = omega (arith, no_more.1, continues.takes k) }
    met_no_trouble (inr (inl (is, more))) memory = let never : refusals.StorageFailed ≡ refusals.OutOfMemory = sym is ∙ memory in absurd cc
    met_no_trouble (inr (inr (is, more))) memory = let never : refusals.Full ≡ refusals.OutOfMemory = sym is ∙ memory in absurd cc

  -- where the file is as it was, nothing was met
  pub told_as_met : file_of new ≡ file_of old → TellsHere → told ≡ met
  told_as_met same (inl (is, none)) = is
  told_as_met same (inr (inl (is, more))) = absurd (omega (arith, more, ap (λ f. (pages_of history f).failed_reads) same))
  told_as_met same (inr (inr (is, more))) = absurd (omega (arith, more, ap (λ f. (pages_of history f).failed_allocations) same))

-- ---- looks through the file

module _ {D : Type 0} (history : D → History) (old new : Engine D) (continues : ExtendsTurn history (file_of old) (file_of new)) (met told : CheckFault) where
  abbrev pub TellsFaultHere : Type 0
  TellsFaultHere = TellsFault met (troubles_at history old) (troubles_at history new) told

  pub as_fault_here : {before now : Troubles} → before ≡ troubles_at history old → now ≡ troubles_at history new → TellsFault met before now told
      → TellsFaultHere
  as_fault_here {before = before} is_before is_now tells =
      subst (λ (t : Troubles). TellsFault met t (troubles_at history new) told) is_before (subst (λ (t : Troubles). TellsFault met before t told) is_now tells)

  cause_told : (IsMissing : Type 0) → KeepsWord (disk_history history new) → HasFaultCause history IsMissing old new met → TellsFaultHere
      → HasFaultCause history IsMissing old new told
  cause_told IsMissing k cause (inl (same, none)) = subst (HasFaultCause history IsMissing old new) (sym same) cause
  cause_told IsMissing k cause (inr (is, more)) =
      subst (HasFaultCause history IsMissing old new) (sym is) (inr (failed_more history old new (continues.frame k).counts more))

  pub memory_told : KeepsWord (disk_history history new) → TellsFaultHere → told ≡ faults.Memory → MetNoFailure history old new
  memory_told k (inl (same, none)) memory = met_no_failure history old new (continues_of history old new continues) k (none (sym same ∙ memory))
  memory_told k (inr (is, more)) memory = let never : faults.Device ≡ faults.Memory = sym is ∙ memory in absurd cc

  pub check_told : ChecksFile history (Err met) old new → TellsFaultHere → ChecksFile history (Err told) old new
  check_told checks tells = record { only = checks.only; answers = λ k. cause_told ⊥ k (checks.answers k) tells }

  pub dump_told : (name : List ℕ) → BeginsDump history name (Err met) old new → TellsFaultHere → BeginsDump history name (Err told) old new
  dump_told name begins tells = record { reads = begins.reads; answers = λ k. cause_told _ k (begins.answers k) tells }

  pub dump_goes_told : (walk after : Walk) → GoesOnDumping history walk after (Err met) old new → TellsFaultHere
      → GoesOnDumping history walk after (Err told) old new
  dump_goes_told walk after goes_on tells = record { reads = goes_on.reads; answers = λ k rest w. cause_told ⊥ k (goes_on.answers k rest w) tells }
