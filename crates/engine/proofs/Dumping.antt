-- What a dump is given, by what was read of the file.
use Rattle.std.proofs.Common.{◌≡◌, inl, inr, ℕ, true, false, List, Option, Some, None, Ok, Err, refl, sym, subst, ◌∙◌}
use Rattle.std.specs.Global.{Vec}
use Rattle.std.specs.Option.{option_map}
use Rattle.bson.specs.Tree.{Pairs}
use Rattle.page.specs.History.{History}
use Rattle.path.specs.declared.refusal.Refusal.{Refusal}
use Rattle.entry_model.specs.State.{Collection, find_collection}
use Rattle.collections.specs.Calls.{HasReadCause}
use Rattle.collections.specs.Standing.{HasState}
use Rattle.collections.specs.View.{is_stopped}
use Rattle.collections.specs.Walk.{BeginsWalk, IsWalk, StepsOn}
use Rattle.collections.specs.declared.walk.Walk.{Walk}
use Rattle.collections.proofs.StandingLemmas.{stopped_same}
use Rattle.engine.specs.CheckFaults.{check_fault}
use Rattle.engine.specs.Dump.{BeginsDump, GoesOnDumping, HasFaultCause}
use Rattle.engine.specs.Durable.{file_of}
use Rattle.engine.specs.Looking.{Looks, LooksOf}
use Rattle.engine.specs.View.{turn_start, world}
use Rattle.engine.specs.declared.check_fault.CheckFault.TheVariants as faults
use Rattle.engine.specs.declared.engine.Engine.{Engine}
use Rattle.engine.proofs.LookingLemmas.{collections_same}
use Rattle.engine.proofs.NamedLemmas.{IsFound, IsNumberOf, found_so}

-- a collection without a number is missing
missing_so : (o : Option Collection) → None ≡ option_map (λ (c : Collection). c.number) o → o ≡ None
missing_so None is = refl
missing_so (Some c) is = absurd cc

module _ {D : Type 0} (history : D → History) (old new : Engine D) where
  -- the cause of a refusal to read is one of its fault
  pub fault_cause : (IsMissing : Type 0) (e : Refusal) → HasReadCause history (file_of old) (file_of new) e
      → HasFaultCause history IsMissing old new (check_fault e)
  fault_cause IsMissing e (inl is) = subst (λ (e : Refusal). HasFaultCause history IsMissing old new (check_fault e)) (sym is) tt
  fault_cause IsMissing e (inr (is, failed)) = subst (λ (e : Refusal). HasFaultCause history IsMissing old new (check_fault e)) (sym is) failed

  -- ---- the next documents

  module _ (walk after : Walk) where
    pub batch_dumped : (batch : Vec Pairs)
        → LooksOf history (λ now rest. IsWalk now walk rest) (λ now rest (b : Vec Pairs). StepsOn 64 after now rest b.items) (Ok batch) old new
        → GoesOnDumping history walk after (Ok batch) old new
    batch_dumped batch looks = record { reads = looks.reads; answers = λ k rest w. looks.answers k rest w }

    pub batch_not_dumped : (e : Refusal)
        → LooksOf history (λ now rest. IsWalk now walk rest) (λ now rest (b : Vec Pairs). StepsOn 64 after now rest b.items) (Err e) old new
        → GoesOnDumping history walk after (Err (check_fault e)) old new
    batch_not_dumped e looks = record { reads = looks.reads; answers = λ k rest w. fault_cause ⊥ e (looks.answers k rest w) }

  -- ---- the beginning

  module _ (name : List ℕ) where
    pub dump_unread : (e : Refusal) → Looks history (IsNumberOf name) (Err e) old new → BeginsDump history name (Err (check_fault e)) old new
    dump_unread e looks = record {
      reads = looks.reads;
      answers = λ k. fault_cause (find_collection (world old).collections name ≡ None) e (looks.answers k);
    }

    module _ (found : Option ℕ) (looks : Looks history (IsNumberOf name) (Ok found) old new) where
      pub dump_missing : found ≡ None → BeginsDump history name (Err faults.NamespaceNotFound) old new
      dump_missing none = record {
        reads = looks.reads;
        answers = λ k. missing_so (find_collection (world old).collections name) (sym none ∙ looks.answers k);
      }

      pub dump_stopped : is_stopped (file_of new) ≡ true → BeginsDump history name (Err faults.Device) old new
      dump_stopped stopped = record {
        reads = looks.reads;
        answers = λ k. inl (sym (stopped_same history (file_of old).pager (file_of new).pager looks.reads.continues.stays) ∙ stopped);
      }

      pub dump_begun : (number : ℕ) (walk : Walk) → found ≡ Some number → is_stopped (file_of new) ≡ false → BeginsWalk history (file_of new) number walk
          → BeginsDump history name (Ok walk) old new
      dump_begun number walk is running begin = record {
        reads = looks.reads;
        answers = λ k.
            let now = (world old).collections in
            let f : IsFound now name number = found_so now name number (sym is ∙ looks.answers k) in
            let has : HasState history (file_of new) (turn_start new) now =
            subst (λ (cs : List Collection). HasState history (file_of new) (turn_start new) cs)
            (collections_same history old new looks.reads) looks.reads.sound.file in
            record { collection = f.c; found = f.found; all = begin running k (turn_start new) now f.c has f.numbered };
      }

      pub dump_memory : BeginsDump history name (Err faults.Memory) old new
      dump_memory = record { reads = looks.reads; answers = λ k. tt }
