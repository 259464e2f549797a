-- Entries of a collection's documents are removed from an index, batch after batch.
use Rattle.std.proofs.Common.{◌≡◌, ◌≢◌, inl, inr, ◌+◌, ◌<◌, ℕ, zero, suc, Bool, true, false, List, [], ◌++◌, length, get_or, take, drop, Result, Ok, Err}
use Rattle.std.proofs.Common.{refl, sym, ap, subst, ◌∙◌, append_assoc, append-nil}
use Rattle.std.specs.Prelude.{All}
use Rattle.std.specs.Global.{Vec}
use Rattle.std.specs.List.{flat_map}
use Rattle.std.proofs.lemmas.List.{map-append}
use Rattle.std.proofs.lemmas.List.Concat.{flat_map-append}
use Rattle.std.proofs.lemmas.List.Elements.{All-drop, All-take}
use Rattle.bson.specs.Tree.{Pairs}
use Rattle.page.specs.History.{History, KeepsWord}
use Rattle.tree_model.specs.Keys.{Edit, Entry}
use Rattle.path.specs.declared.refusal.Refusal.{Refusal}
use Rattle.path.specs.declared.refusal.Refusal.TheVariants as refusals
use Rattle.collections.specs.Lookups.{ReadsOf}
use Rattle.collections.specs.State.{State}
use Rattle.collections.specs.Walk.{BeginsWalk, IsWalk, StepsOn}
use Rattle.collections.specs.declared.walk.Walk.{Walk}
use Rattle.collections.proofs.StandingLemmas.{stopped_same}
use Rattle.index.specs.Definition.{Definition}
use Rattle.entries.specs.IndexBuilding.{HasRemovedEntries}
use Rattle.index.specs.KeyTexts.{encoded_keys, keys_in}
use Rattle.entries.specs.Indexed.{GoesOnBy}
use Rattle.entry_model.specs.State.{Collection}
use Rattle.entry_model.specs.StateEntries.{index_entries, removal_of, removals}
use Rattle.entries.proofs.BuildingLaws.{removes_one_more}
use Rattle.entries.proofs.ManyEditsLaws.{goes_on}
use Rattle.engine.specs.Durable.{disk_history, IsRunning, IsSound}
use Rattle.engine.specs.Looking.{LooksOf, OnlyReads}
use Rattle.engine.specs.Unindexing.{HasKeysIn, HasUnindexed, IsIndexedBy, IsUnindexed, IsUnindexing}
use Rattle.engine.specs.View.{world}
use Rattle.engine.specs.declared.engine.Engine.{Engine}
use Rattle.engine.proofs.EnteringSteps.{memory_or}
use Rattle.engine.proofs.IndexingLemmas.{batch_cut, taken_next}
use Rattle.engine.proofs.OnlyReading.{cause_from, now_same, reads_file, reads_none, reads_on, word_before}

-- ---- removals, document after document

pub removed_none : (edits : List Edit) (number : ℕ) (i : Definition) → HasRemovedEntries edits edits number i []
removed_none edits number i = (removes_one_more edits number i).0

-- those of the next document too
pub removed_next : (old mid new : List Edit) (number : ℕ) (i : Definition) (ds : List Pairs) (k : ℕ) (d : Pairs) → k < length ds → d ≡ get_or ds k d
    → HasRemovedEntries old mid number i (take k ds)
    → GoesOnBy mid (removals (index_entries number d i)) new → HasRemovedEntries old new number i (take (k + 1) ds)
removed_next old mid new number i ds k d within is removed continues =
    subst (HasRemovedEntries old new number i) (sym (taken_next ds k d within is)) ((removes_one_more old number i).1 mid new (take k ds) d removed continues)

-- those of some documents, and of others behind them
pub removed_further : (old mid new : List Edit) (number : ℕ) (i : Definition) (ds es : List Pairs) → HasRemovedEntries old mid number i ds
    → HasRemovedEntries mid new number i es
    → HasRemovedEntries old new number i (ds ++ es)
removed_further old mid new number i ds es first later =
    let entries : Pairs → List Entry = λ d. index_entries number d i in
    let split : removals (flat_map entries (ds ++ es)) ≡ removals (flat_map entries ds) ++ removals (flat_map entries es) =
    ap removals (flat_map-append entries ds es) ∙ map-append removal_of (flat_map entries ds) (flat_map entries es) in
    subst (λ (xs : List Edit). GoesOnBy old xs new) (sym split)
    (goes_on old (removals (flat_map entries ds)) mid (removals (flat_map entries es)) new first later)

-- an index that doesn't refuse a document refuses it for want of memory alone
pub unkeyed_memory : (i : Definition) (d : Pairs) (e : Refusal) → HasKeysIn i d → (e ≢ refusals.OutOfMemory → keys_in i.fields d ≡ Err e)
    → e ≡ refusals.OutOfMemory
unkeyed_memory i d e has refused = elim (memory_or e refused) [
  | inl memory ↦ memory
  | inr is ↦ (let both : Ok (encoded_keys i.fields d) ≡ Err e = sym has.keyed ∙ is in absurd cc)
]

-- what asks something of each of a list asks it of each of an equal one
pub fits_these : {Y : Type 0} (P : Pairs → Type 0) (ds es : List Pairs) → ds ≡ es → (All P ds → Y) → All P es → Y
fits_these P ds es same asks all = asks (subst (All P) (sym same) all)

-- ---- a batch

module _ {D : Type 0} (history : D → History) (old : Engine D) (h : IsSound history old) (number : ℕ) (i : Definition) (before after : List Edit)
    (walk later : Walk) (file : State D) where
  abbrev new : Engine D
  new = record old { file = file }

  abbrev Reading : Result (Vec Pairs) Refusal → Type 0
  Reading r = ReadsOf history (λ now rest. IsWalk now walk rest) (λ now rest batch. StepsOn 64 later now rest batch.items) r old.file file

  abbrev Steps : Result Bool Refusal → Type 0
  Steps r = LooksOf history (IsUnindexing i walk) (HasUnindexed number i before after later) r old new

  pub batch_unread : (e : Refusal) → Reading (Err e) → Steps (Err e)
  batch_unread e read = record {
    reads = reads_file history old file h read.extends read.unchanged read.same;
    answers = λ k rest is. read.answers k old.told.value.start (world old).collections h.file rest is.walks;
  }

  module _ (batch : Vec Pairs) (read : Reading (Ok batch)) where
    pub batch_stays : (e : Refusal) → (All (HasKeysIn i) batch.items → e ≡ refusals.OutOfMemory) → Steps (Err e)
    batch_stays e refused = record {
      reads = reads_file history old file h read.extends read.unchanged read.same;
      answers = λ k rest is.
          let next = read.answers k old.told.value.start (world old).collections h.file rest is.walks in
          inl (refused (subst (All (HasKeysIn i)) (sym next.0.first) (All-take (HasKeysIn i) (length batch.items) rest is.keyed)));
    }

    pub batch_unindexed : (more : Bool) → HasRemovedEntries before after number i batch.items → (more ≡ false → batch.items ≡ []) → Steps (Ok more)
    batch_unindexed more removed empty = record {
      reads = reads_file history old file h read.extends read.unchanged read.same;
      answers = λ k rest is.
          let next = read.answers k old.told.value.start (world old).collections h.file rest is.walks in
          let n = length batch.items in
          record {
            batch = batch.items;
            left = drop n rest;
            all = batch_cut rest batch.items next.0.first;
            removed = removed;
            unindexing = record { walks = next.1; keyed = All-drop (HasKeysIn i) n rest is.keyed };
            none = λ no_more. let none : batch.items ≡ [] = empty no_more in ap (drop n) (next.0.none none) ∙ none_left n;
          };
    }
      where
        none_left : (m : ℕ) → drop {A = Pairs} m [] ≡ []
        none_left zero = refl
        none_left (suc m) = refl

-- ---- all batches

-- the entries of some documents were removed, and the others are still to come
pub record Unindexed (number : ℕ) (i : Definition) (before after : List Edit) (walk : Walk) (now : List Collection) (c : Collection) : Type 0 where
  pub done : List Pairs
  pub left : List Pairs
  pub all : c.documents ≡ done ++ left
  pub removed : HasRemovedEntries before after number i done
  pub unindexing : IsUnindexing i walk now left

-- so it is after some batches
pub record HasUnindexedTo {D : Type 0} (history : D → History) (number : ℕ) (i : Definition) (before after : List Edit) (walk : Walk)
    (old new : Engine D) : Type 0 where
  pub reads : OnlyReads history old new
  pub running : IsRunning new
  pub answers : KeepsWord (disk_history history new) → (c : Collection) → IsIndexedBy number i (world old).collections c
      → Unindexed number i before after walk (world old).collections c

module _ {D : Type 0} (history : D → History) (number : ℕ) (i : Definition) (before : List Edit) (old : Engine D) where
  abbrev Unindexes : List Edit → Result (Unit {0}) Refusal → Engine D → Type 0
  Unindexes after r new = LooksOf history (IsIndexedBy number i) (IsUnindexed number i before after) r old new

  pub unindexed_without_memory : IsSound history old → Unindexes before (Err refusals.OutOfMemory) old
  unindexed_without_memory h = record { reads = reads_none history old h; answers = λ k c is. inl refl }

  pub unindexed_none : (walk : Walk) → IsSound history old → IsRunning old → BeginsWalk history old.file number walk
      → HasUnindexedTo history number i before before walk old old
  unindexed_none walk h running begins = record {
    reads = reads_none history old h;
    running = running;
    answers = λ k c is. record {
      done = [];
      left = c.documents;
      all = refl;
      removed = removed_none before number i;
      unindexing = record { walks = begins running k old.told.value.start (world old).collections c h.file is.numbered; keyed = is.keyed };
    };
  }

  module _ (mid new : Engine D) (walk later : Walk) (edits after : List Edit) (far : HasUnindexedTo history number i before edits walk old mid) where
    abbrev Step : Result Bool Refusal → Type 0
    Step r = LooksOf history (IsUnindexing i walk) (HasUnindexed number i edits after later) r mid new

    same_now : (world mid).collections ≡ (world old).collections
    same_now = now_same history old mid far.reads

    left_now : OnlyReads history mid new → KeepsWord (disk_history history new) → (c : Collection) → IsIndexedBy number i (world old).collections c
        → Unindexed number i before edits walk (world mid).collections c
    left_now more k c is =
        subst (λ (cs : List Collection). Unindexed number i before edits walk cs c) (sym same_now)
        (far.answers (word_before history mid.file new.file more.continues k) c is)

    pub unindexed_refused : (last : List Edit) (e : Refusal) → Step (Err e) → Unindexes last (Err e) new
    unindexed_refused last e step = record {
      reads = reads_on history old mid new far.reads step.reads;
      answers = λ k c is.
          let l = left_now step.reads k c is in
          cause_from history old.file mid.file new.file far.reads.continues (word_before history mid.file new.file step.reads.continues k) e
          (step.answers k l.left l.unindexing);
    }

    pub unindexed_on : Step (Ok true) → HasUnindexedTo history number i before after later old new
    unindexed_on step = record {
      reads = reads_on history old mid new far.reads step.reads;
      running = stopped_same history mid.file.pager new.file.pager step.reads.continues.stays ∙ far.running;
      answers = λ k c is.
          let l = left_now step.reads k c is in
          let has = step.answers k l.left l.unindexing in
          subst (λ (cs : List Collection). Unindexed number i before after later cs c) same_now (record {
            done = l.done ++ has.batch;
            left = has.left;
            all = l.all ∙ ap (λ (ds : List Pairs). l.done ++ ds) has.all ∙ sym (append_assoc l.done has.batch has.left);
            removed = removed_further before edits after number i l.done has.batch l.removed has.removed;
            unindexing = has.unindexing;
          });
    }

    pub unindexed_all : Step (Ok false) → Unindexes after (Ok tt) new
    unindexed_all step = record {
      reads = reads_on history old mid new far.reads step.reads;
      answers = λ k c is.
          let l = left_now step.reads k c is in
          let has = step.answers k l.left l.unindexing in
          let all : c.documents ≡ l.done ++ has.batch =
          l.all ∙ ap (λ (ds : List Pairs). l.done ++ ds) (has.all ∙ ap (λ (ds : List Pairs). has.batch ++ ds) (has.none refl) ∙ append-nil has.batch) in
          subst (HasRemovedEntries before after number i) (sym all) (removed_further before edits after number i l.done has.batch l.removed has.removed);
    }
