-- What is planned of the collections is lawful, and commands reply by it.
use Rattle.std.proofs.Common.{◌≡◌, ◌<◌, ◌≤◌, ℕ, Bool, true, false, List, [], length, Option, Some, None, Result, Ok, Err, refl, sym, ap, ◌∙◌, arith}
use Rattle.std.specs.Prelude.{All, nat_le, is_some, codes}
use Rattle.std.proofs.lemmas.Bool.Decides.{nat_tests}
use Rattle.bson.specs.Tree.{Pairs, no_pairs, pair}
use Rattle.outcome.specs.Outcome.{unless}
use Rattle.path.specs.declared.refusal.Refusal.{Refusal}
use Rattle.path.specs.declared.refusal.Refusal.TheVariants as refusals
use Rattle.entry_model.specs.State.{Collection, find_collection, put_collection}
use Rattle.command_model.specs.NewIndex.{IsShortNewIndex, NewIndex}
use Rattle.database_model.specs.Create.{created, run_create}
use Rattle.command_model.specs.DropIndexes.{DroppedIndexes}
use Rattle.database_model.specs.CreateIndexes.{indexed}
use Rattle.database_model.specs.DropIndexes.{index_dropped}
use Rattle.database_model.specs.Insert.{inserted, run_insert}
use Rattle.database_model.specs.Lawful.{IsLawful, IsLawfulState}
use Rattle.database_model.specs.Refusals.{int}
use Rattle.engine.specs.Numbering.{IsTooMany}
use Rattle.database_model.specs.World.{World, with_documents}
use Rattle.engine.specs.Writing.{planned_or}
use Rattle.engine.proofs.Creating.{run_create-is}
use Rattle.engine.proofs.LawfulCollections.{index_dropped_lawful, indexed_lawful}
use Rattle.engine.proofs.LawfulSteps.{good_create, good_insert}
use Rattle.engine.proofs.MakingLemmas.{with_reply}
use Rattle.engine.proofs.Running.{run_insert-done, run_insert-refused}

-- a plan that is lawful where there is one
planned_lawful : (cs : List Collection) (planned : Result (List Collection) Refusal) → IsLawfulState cs
    → ((next : List Collection) → planned ≡ Ok next → IsLawfulState next) → IsLawfulState (planned_or cs planned)
planned_lawful cs (Ok next) h lawful = lawful next refl
planned_lawful cs (Err e) h lawful = h

abbrev world_of_these : List Collection → World
world_of_these cs = record { collections = cs; cursors = []; next = 0 }

lawful_world : (cs : List Collection) → IsLawfulState cs → IsLawful (world_of_these cs)
lawful_world cs h = record { collections = h; cursors = λ k d below. absurd (omega (arith, below)) }

pub inserted_lawful : (cs : List Collection) (name : List ℕ) (ds : List Pairs) → IsLawfulState cs → length name ≤ 255
    → IsLawfulState (planned_or cs (inserted cs name ds))
inserted_lawful cs name ds h short = planned_lawful cs (inserted cs name ds) h (λ next is.
    let w = world_of_these cs in
    (good_insert w name ds (lawful_world cs h) short (record w { collections = next }, pair (codes "n") (int (length ds)) no_pairs)
    (run_insert-done w name ds next is)).0.collections)

pub created_lawful : (cs : List Collection) (name : List ℕ) → IsLawfulState cs → length name ≤ 255 → IsLawfulState (planned_or cs (created cs name))
created_lawful cs name h short = planned_lawful cs (created cs name) h (λ next is.
    let w = world_of_these cs in
    (good_create w name (lawful_world cs h) short (record w { collections = next }, no_pairs) (run_create-is w name next is)).0.collections)

pub indexed_planned : (cs : List Collection) (name : List ℕ) (ns : List NewIndex) → IsLawfulState cs → length name ≤ 255 → All IsShortNewIndex ns
    → IsLawfulState (planned_or cs (indexed cs name ns))
indexed_planned cs name ns h short limits = planned_lawful cs (indexed cs name ns) h (λ next is. indexed_lawful cs name ns next h short limits is)

pub index_dropped_planned : (cs : List Collection) (name : List ℕ) (away : DroppedIndexes) → IsLawfulState cs → length name ≤ 255
    → IsLawfulState (planned_or cs (index_dropped cs name away))
index_dropped_planned cs name away h short = planned_lawful cs (index_dropped cs name away) h (λ next is. index_dropped_lawful cs name away next h short is)

-- ---- replies

module _ (w : World) (name : List ℕ) where
  pub run_inserts : (ds : List Pairs)
      → run_insert w (record { namespace = name; documents = ds }) ≡ with_reply w (pair (codes "n") (int (length ds)) no_pairs) (inserted w.collections name ds)
  run_inserts ds = by (inserted w.collections name ds) refl
    where
      by : (p : Result (List Collection) Refusal) → inserted w.collections name ds ≡ p
          → run_insert w (record { namespace = name; documents = ds })
          ≡ with_reply w (pair (codes "n") (int (length ds)) no_pairs) (inserted w.collections name ds)
      by (Ok next) is = run_insert-done w name ds next is ∙ ap (with_reply w (pair (codes "n") (int (length ds)) no_pairs)) (sym is)
      by (Err e) is = run_insert-refused w name ds e is ∙ ap (with_reply w (pair (codes "n") (int (length ds)) no_pairs)) (sym is)

  pub run_creates : run_create w (record { namespace = name }) ≡ with_reply w no_pairs (created w.collections name)
  unfolding run_create
  run_creates = refl

-- ---- what a create comes to

module _ (cs : List Collection) (name : List ℕ) where
  abbrev made : List Collection
  made = put_collection (with_documents cs name []) cs

  pub created_there : (c : Collection) → find_collection cs name ≡ Some c → created cs name ≡ Err refusals.NamespaceExists
  created_there c found =
      ap (λ (o : Option Collection). unless (is_some o) refusals.NamespaceExists (unless (nat_le 1000 (length cs)) refusals.TooMany (Ok made))) found

  module _ (none : find_collection cs name ≡ None) where
    created_none : created cs name ≡ unless (nat_le 1000 (length cs)) refusals.TooMany (Ok made)
    created_none =
        ap (λ (o : Option Collection). unless (is_some o) refusals.NamespaceExists (unless (nat_le 1000 (length cs)) refusals.TooMany (Ok made))) none

    pub created_full : (e : Refusal) → IsTooMany cs e → created cs name ≡ Err e
    created_full e (is, many) =
        let full : nat_le 1000 (length cs) ≡ true = grind (arith, nat_tests) in
        created_none ∙ ap (λ (b : Bool). unless b refusals.TooMany (Ok made)) full ∙ ap (λ (x : Refusal). Err x) (sym is)

    pub created_new : length cs < 1000 → created cs name ≡ Ok made
    created_new few =
        let room : nat_le 1000 (length cs) ≡ false = grind (arith, nat_tests) in
        created_none ∙ ap (λ (b : Bool). unless b refusals.TooMany (Ok made)) room
