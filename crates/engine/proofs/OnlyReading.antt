-- Steps that only read, one after the other.
use Rattle.std.proofs.Common.{◌≡◌, ◌⊎◌, inl, inr, ℕ, Bool, List, Result, Ok, Err, refl, sym, ap, ◌∙◌, arith}
use Rattle.std.specs.Prelude.{MatchResult}
use Rattle.page.specs.History.{History, KeepsWord}
use Rattle.path.specs.declared.refusal.Refusal.{Refusal}
use Rattle.entry_model.specs.State.{Collection}
use Rattle.collections.specs.Calls.{ExtendsTurn, HasFailed, HasReadCause, IsUnchanged}
use Rattle.collections.specs.Standing.{HasState}
use Rattle.collections.specs.State.{State}
use Rattle.collections.specs.View as views
use Rattle.collections.proofs.CauseLemmas.{any_cause}
use Rattle.collections.proofs.LawLemmas as laws
use Rattle.collections.proofs.StandingLemmas.{stopped_same}
use Rattle.engine.specs.Durable.{disk_history, file_of, IsSound}
use Rattle.opening.specs.TurnStates.{TurnStates}
use Rattle.cursors.specs.Held.{table_of}
use Rattle.pinned_cursors.proofs.TurnTied.{tied_on}
use Rattle.engine.specs.Looking.{LeavesAll, OnlyReads}
use Rattle.engine.specs.Performing.{DoesPlanned, DoesReading}
use Rattle.engine.specs.Trying.{MayRefuse}
use Rattle.engine.specs.View.{world, world_of}
use Rattle.engine.specs.declared.engine.Engine.{Engine}
use Rattle.bson.specs.Tree.{Pairs}
use Rattle.database_model.specs.World.{World}
use Rattle.asked_documents.proofs.ReadingLemmas.{of_file}

module _ {D : Type 0} (history : D → History) where
  -- ---- what was read

  -- nothing was
  pub reads_none : (old : Engine D) → IsSound history old → OnlyReads history old old
  reads_none old h = record { sound = h; continues = laws.goes_from_itself history old.file; told = refl; cursors = refl; changes = refl; takes = refl }

  -- the file went on with the same collections
  pub leaves_file : (old : Engine D) (file : State D) → IsSound history old → ExtendsTurn history old.file file
      → views.is_changed file ≡ views.is_changed old.file → ((start now : List Collection) → HasState history old.file start now → HasState history file
      start now)
      → LeavesAll history old (record old { file = file })
  leaves_file old file h continues unchanged same = record {
    sound = record {
      lawful = h.lawful;
      cursors = h.cursors;
      before = h.before;
      quiet = h.quiet;
      file = same old.told.value.start old.told.value.now h.file;
      unchanged = λ running clean. unchanged ∙ h.unchanged (sym (stopped_same history old.file.pager file.pager continues.stays) ∙ running) clean;
      tied = tied_on history old.file file old.cursors.list old.is_changed continues h.tied;
    };
    continues = continues;
    told = refl;
    cursors = refl;
    changes = refl;
  }

  pub leaves_on : (a b c : Engine D) → LeavesAll history a b → LeavesAll history b c → LeavesAll history a c
  leaves_on a b c first later = record {
    sound = later.sound;
    continues = laws.goes_further history a.file b.file c.file first.continues later.continues;
    told = later.told ∙ first.told;
    cursors = later.cursors ∙ first.cursors;
    changes = later.changes ∙ first.changes;
  }

  pub world_left : (old new : Engine D) → LeavesAll history old new → world new ≡ world old
  world_left old new leaves = λ i. world_of (leaves.told i) (table_of (leaves.cursors i))

  pub leaves_all : (old new : Engine D) → OnlyReads history old new → LeavesAll history old new
  leaves_all old new reads =
      record { sound = reads.sound; continues = reads.continues; told = reads.told; cursors = reads.cursors; changes = reads.changes }

  -- it was read
  pub reads_file : (old : Engine D) (file : State D) → IsSound history old → ExtendsTurn history old.file file → IsUnchanged history old.file file
      → ((start now : List Collection) → HasState history old.file start now → HasState history file start now)
      → OnlyReads history old (record old { file = file })
  reads_file old file h continues unchanged same =
      let leaves = leaves_file old file h continues (ap (λ (t : Bool × ℕ). t.0) unchanged) same in
      record {
        sound = leaves.sound;
        continues = continues;
        told = refl;
        cursors = refl;
        changes = refl;
        takes = ap (λ (t : Bool × ℕ). t.1) unchanged;
      }

  pub reads_on : (a b c : Engine D) → OnlyReads history a b → OnlyReads history b c → OnlyReads history a c
  reads_on a b c first later = record {
    sound = later.sound;
    continues = laws.goes_further history a.file b.file c.file first.continues later.continues;
    told = later.told ∙ first.told;
    cursors = later.cursors ∙ first.cursors;
    changes = later.changes ∙ first.changes;
    takes = later.takes ∙ first.takes;
  }

  -- the collections are those of before
  pub now_same : (a b : Engine D) → OnlyReads history a b → (world b).collections ≡ (world a).collections
  now_same a b reads = ap (λ (k : TurnStates). k.now) reads.told

  -- ---- causes between two moments are causes between earlier and later ones

  -- the disk kept its word before
  pub word_before : (a b : State D) → ExtendsTurn history a b → KeepsWord (views.disk_history history b) → KeepsWord (views.disk_history history a)
  word_before a b continues k = (continues.frame k).word

  module _ (a b c : State D) (continues : ExtendsTurn history a b) (k : KeepsWord (views.disk_history history b)) where
    pub failed_from : HasFailed history b c → HasFailed history a c
    failed_from (inl stopped) = inl (sym (stopped_same history a.pager b.pager continues.stays) ∙ stopped)
    failed_from (inr more) = inr (omega (arith, more, (continues.frame k).failures))

    pub cause_from : (e : Refusal) → HasReadCause history b c e → HasReadCause history a c e
    cause_from e (inl memory) = inl memory
    cause_from e (inr (is, failed)) = inr (is, failed_from failed)

  -- ---- what was tried after reads

  module _ {X : Type 0} (IsRight : X → Type 0) (IsRefused : Refusal → Type 0) (a b c : Engine D) (first : OnlyReads history a b) where
    pub tries_on : (r : Result X Refusal) → MayRefuse history IsRight IsRefused r b c → MayRefuse history IsRight IsRefused r a c
    tries_on r later = record { reads = reads_on a b c first later.reads; answers = answered r later.answers }
      where
        answered : (x : Result X Refusal)
            → (KeepsWord (disk_history history c) → MatchResult x IsRight (λ e. IsRefused e ⊎ HasReadCause history (file_of b) (file_of c) e))
            → KeepsWord (disk_history history c) → MatchResult x IsRight (λ e. IsRefused e ⊎ HasReadCause history (file_of a) (file_of c) e)
        answered (Ok x) right k = right k
        answered (Err e) right k = elim (right k) [
          | inl refused ↦ inl refused
          | inr cause ↦ inr (cause_from (file_of a) (file_of b) (file_of c) first.continues (word_before (file_of b) (file_of c) later.reads.continues k) e
              cause)
        ]

  -- ---- what a command does that only reads is what any does

  pub does_any : (old new : Engine D) (planned : Result (World × Pairs) Refusal) (r : Result Pairs Refusal) → DoesReading history planned r old new
      → DoesPlanned history planned r old new
  does_any old new planned (Ok reply) as_planned = as_planned
  does_any old new planned (Err e) (same, inl is) = (same, inl is)
  does_any old new planned (Err e) (same, inr cause) =
      (same, inr (of_file history old.file new.file e cause, λ k. inl (any_cause history old.file new.file e cause)))
