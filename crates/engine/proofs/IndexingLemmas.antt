-- Documents of a collection enter a new index, batch after batch.
use Rattle.std.proofs.Common.{◌≡◌, ◌≢◌, ◌⊎◌, inl, inr, ◌+◌, ◌<◌, ℕ, zero, suc, Bool, true, false, List, [], ◌∷◌, ◌++◌, length, get_or, take, drop, Some, None}
use Rattle.std.proofs.Common.{Result, Ok, Err, refl, sym, ap, subst, ◌∙◌, append_assoc, append-nil}
use Rattle.std.specs.Global.{Vec}
use Rattle.std.proofs.lemmas.List.{take-append-drop, take_more}
use Rattle.bson.specs.Tree.{Pairs}
use Rattle.page.specs.History.{History, KeepsWord}
use Rattle.path.specs.declared.refusal.Refusal.{Refusal}
use Rattle.path.specs.declared.refusal.Refusal.TheVariants as refusals
use Rattle.collections.specs.Lookups.{IsNumbered, ReadsOf}
use Rattle.collections.specs.State.{State}
use Rattle.collections.specs.Walk.{BeginsWalk, IsWalk, StepsOn}
use Rattle.collections.specs.declared.walk.Walk.{Walk}
use Rattle.collections.proofs.StandingLemmas.{stopped_same}
use Rattle.entries.specs.IndexMaking.{HasEntries, RefusesNext, TakesNext}
use Rattle.entry_model.specs.WithIndex.{with_index}
use Rattle.entry_model.specs.LawfulState as states
use Rattle.entry_model.specs.LawfulState.{IsStorable}
use Rattle.entry_model.specs.State.{Collection, find_collection}
use Rattle.entries.specs.declared.making.NewEntries.{NewEntries}
use Rattle.entry_model.proofs.MemberLemmas.{Among, among_back, of_all}
use Rattle.entry_model.proofs.PlaceLemmas.{found_name}
use Rattle.engine.specs.Durable.{disk_history, IsRunning, IsSound}
use Rattle.engine.specs.Indexing.{HasIndexed, Indexed, IsIndexed, IsIndexing, IsUnbegun, IsUnindexable, RefusesOne, TakesEach}
use Rattle.engine.specs.Looking.{Looks, OnlyReads}
use Rattle.engine.specs.Trying.{MayRefuseOf}
use Rattle.engine.specs.View.{world}
use Rattle.database_model.specs.World.{documents_or_none}
use Rattle.engine.specs.declared.engine.Engine.{Engine}
use Rattle.engine.proofs.NewCollections.{IsNumberOf, none_of, there_of}
use Rattle.engine.proofs.OnlyReading.{cause_from, now_same, reads_file, reads_on, word_before}
use Rattle.replies.proofs.Steps.{drop_step}

-- ---- document after document

pub takes_none : (n : NewEntries) → TakesEach n n []
takes_none n c i done rest kept all has = subst (λ (ds : List Pairs). HasEntries c i ds n) (sym (append-nil done)) has

module _ (first mid : NewEntries) (ds : List Pairs) (d : Pairs) (far : TakesEach first mid ds) where
  -- the whole, cut behind these, and behind the next one
  cut_before : (done rest all : List Pairs) → all ≡ done ++ ((ds ++ d ∷ []) ++ rest) → all ≡ done ++ (ds ++ d ∷ rest)
  cut_before done rest all e = e ∙ ap (λ (xs : List Pairs). done ++ xs) (append_assoc ds (d ∷ []) rest)

  cut_behind : (done rest all : List Pairs) → all ≡ done ++ (ds ++ d ∷ rest) → all ≡ (done ++ ds) ++ d ∷ rest
  cut_behind done rest all e = e ∙ sym (append_assoc done ds (d ∷ rest))

  pub takes_more : (last : NewEntries) → TakesNext mid last d → TakesEach first last (ds ++ d ∷ [])
  takes_more last takes c i done rest kept all has =
      let before = cut_before done rest c.documents all in
      let reached = far c i done (d ∷ rest) kept before has in
      subst (λ (xs : List Pairs). HasEntries c i xs last) (append_assoc done ds (d ∷ []))
      (takes c i (done ++ ds) rest kept (cut_behind done rest c.documents before) reached)

  -- a document of the collection may be stored
  stored_there : (c : Collection) (done rest : List Pairs) → states.IsKept c → c.documents ≡ done ++ (ds ++ d ∷ rest) → IsStorable d
  stored_there c done rest kept all =
      of_all IsStorable c.documents d kept.storable
      (subst (λ (xs : List Pairs). Among d xs) (sym (cut_behind done rest c.documents all)) (among_back d (done ++ ds) (d ∷ rest) (inl refl)))

  module _ (later : List Pairs) (e : Refusal) where
    -- the whole of it
    cut_later : (done rest all : List Pairs) → all ≡ done ++ ((ds ++ d ∷ later) ++ rest) → all ≡ done ++ (ds ++ d ∷ (later ++ rest))
    cut_later done rest all f = f ∙ ap (λ (xs : List Pairs). done ++ xs) (append_assoc ds (d ∷ later) rest)

    pub refuses_untexted : (IsStorable d → e ≡ refusals.OutOfMemory) → RefusesOne first (ds ++ d ∷ later) e
    refuses_untexted is c i done rest kept all has = inr (is (stored_there c done (later ++ rest) kept (cut_later done rest c.documents all)))

    pub refuses_next : (e ≢ refusals.OutOfMemory → RefusesNext mid d e) → RefusesOne first (ds ++ d ∷ later) e
    refuses_next refuses c i done rest kept all has =
        let before = cut_later done rest c.documents all in
        let reached = far c i done (d ∷ (later ++ rest)) kept before has in
        by e (λ other. refuses other c i (done ++ ds) (later ++ rest) kept (cut_behind done (later ++ rest) c.documents before) reached)
      where
        by : (f : Refusal) → (f ≢ refusals.OutOfMemory → with_index c i ≡ Err f) → (with_index c i ≡ Err f) ⊎ (f ≡ refusals.OutOfMemory)
        by refusals.OutOfMemory h = inr refl
        by f h = inl (h (λ g. absurd cc))

-- ---- the documents of a batch

module _ (ds : List Pairs) (i : ℕ) (d : Pairs) (within : i < length ds) (is : d ≡ get_or ds i d) where
  pub taken_next : take (i + 1) ds ≡ take i ds ++ d ∷ []
  taken_next = take_more ds i d within ∙ ap (λ (x : Pairs). take i ds ++ x ∷ []) (sym is)

  pub around_it : take i ds ++ d ∷ drop (i + 1) ds ≡ ds
  around_it = ap (λ (xs : List Pairs). take i ds ++ xs) (sym (drop_step ds i d within is)) ∙ take-append-drop i ds

-- ---- a batch

pub batch_cut : (rest batch : List Pairs) → batch ≡ take (length batch) rest → rest ≡ batch ++ drop (length batch) rest
batch_cut rest batch first = sym (take-append-drop (length batch) rest) ∙ ap (λ (xs : List Pairs). xs ++ drop (length batch) rest) (sym first)

module _ {D : Type 0} (history : D → History) (old : Engine D) (h : IsSound history old) (made after : NewEntries) (walk later : Walk) (file : State D) where
  abbrev new : Engine D
  new = record old { file = file }

  abbrev Reading : Result (Vec Pairs) Refusal → Type 0
  Reading r = ReadsOf history (λ now rest. IsWalk now walk rest) (λ now rest batch. StepsOn 64 later now rest batch.items) r old.file file

  abbrev Steps : Result Bool Refusal → Type 0
  Steps r = MayRefuseOf history (IsIndexing walk made) (HasIndexed later after) IsUnindexable r old new

  pub batch_unread : (e : Refusal) → Reading (Err e) → Steps (Err e)
  batch_unread e read = record {
    reads = reads_file history old file h read.extends read.unchanged read.same;
    answers = λ k x is. inr (read.answers k old.told.value.start (world old).collections h.file x.rest is.walks);
  }

  module _ (batch : Vec Pairs) (read : Reading (Ok batch)) where
    -- the documents of the collection, with the batch among them
    split : (x : Indexed) → IsIndexing walk made (world old).collections x → batch.items ≡ take (length batch.items) x.rest
        → x.collection.documents ≡ x.done ++ (batch.items ++ drop (length batch.items) x.rest)
    split x is first = is.all ∙ ap (λ (xs : List Pairs). x.done ++ xs) (batch_cut x.rest batch.items first)

    pub batch_refused : (e : Refusal) → RefusesOne made batch.items e → Steps (Err e)
    batch_refused e refuses = record {
      reads = reads_file history old file h read.extends read.unchanged read.same;
      answers = λ k x is.
          let next = read.answers k old.told.value.start (world old).collections h.file x.rest is.walks in
          elim (refuses x.collection x.index x.done (drop (length batch.items) x.rest) is.kept (split x is next.0.first) is.has) [
            | inl refused ↦ inl refused
            | inr memory ↦ inr (inl memory)
          ];
    }

    pub batch_taken : (more : Bool) → TakesEach made after batch.items → (more ≡ false → batch.items ≡ []) → Steps (Ok more)
    batch_taken more takes empty = record {
      reads = reads_file history old file h read.extends read.unchanged read.same;
      answers = λ k x is.
          let next = read.answers k old.told.value.start (world old).collections h.file x.rest is.walks in
          let n = length batch.items in
          let all = split x is next.0.first in
          record {
            done = x.done ++ batch.items;
            rest = drop n x.rest;
            indexing = record {
              walks = next.1;
              all = all ∙ sym (append_assoc x.done batch.items (drop n x.rest));
              kept = is.kept;
              has = takes x.collection x.index x.done (drop n x.rest) is.kept all is.has;
            };
            none = λ no_more. let none : batch.items ≡ [] = empty no_more in ap (drop n) (next.0.none none) ∙ none_left n;
          };
    }
      where
        none_left : (m : ℕ) → drop {A = Pairs} m [] ≡ []
        none_left zero = refl
        none_left (suc m) = refl

-- ---- all batches

-- some documents have entered, and the others are still to come
pub record Entered (walk : Walk) (made : NewEntries) (now : List Collection) (x : Indexed) : Type 0 where
  pub done : List Pairs
  pub rest : List Pairs
  pub indexing : IsIndexing walk made now (record x { done = done; rest = rest })

-- so it is after some batches
pub record HasEnteredTo {D : Type 0} (history : D → History) (name : List ℕ) (before made : NewEntries) (walk : Walk) (old new : Engine D) : Type 0 where
  pub reads : OnlyReads history old new
  pub running : IsRunning new
  pub answers : KeepsWord (disk_history history new) → (x : Indexed) → IsUnbegun name before (world old).collections x
      → Entered walk made (world old).collections x

module _ {D : Type 0} (history : D → History) (name : List ℕ) (before : NewEntries) (old : Engine D) where
  abbrev Enters : NewEntries → Result (Unit {0}) Refusal → Engine D → Type 0
  Enters made r new = MayRefuseOf history (IsUnbegun name before) (IsIndexed made) IsUnindexable r old new

  module _ (mid : Engine D) where
    pub enters_unread : (e : Refusal) → Looks history (IsNumberOf name) (Err e) old mid → Enters before (Err e) mid
    enters_unread e looks = record { reads = looks.reads; answers = λ k x is. inr (looks.answers k) }

    -- a missing collection has no documents
    pub enters_none : Looks history (IsNumberOf name) (Ok None) old mid → Enters before (Ok tt) mid
    enters_none looks = record {
      reads = looks.reads;
      answers = λ k x is.
          let none = none_of (world old).collections name (looks.answers k) in
          let empty : x.collection.documents ≡ [] = is.documents ∙ ap documents_or_none none in
          subst (λ (ds : List Pairs). HasEntries x.collection x.index ds before) (sym empty) is.has;
    }

    pub enters_without_memory : OnlyReads history old mid → Enters before (Err refusals.OutOfMemory) mid
    enters_without_memory reads = record { reads = reads; answers = λ k x is. inr (inl refl) }

    pub entered_none : (number : ℕ) (walk : Walk) → IsRunning old → Looks history (IsNumberOf name) (Ok (Some number)) old mid
        → BeginsWalk history mid.file number walk
        → HasEnteredTo history name before before walk old mid
    entered_none number walk running looks begins = record {
      reads = looks.reads;
      running = runs;
      answers = λ k x is.
          let cs = (world old).collections in
          let t = there_of cs name number (looks.answers k) in
          let named = found_name cs name t.collection t.found in
          let numbered :
          IsNumbered cs t.collection number = record
          { found = subst (λ (m : List ℕ). find_collection cs m ≡ Some t.collection) named t.found; same = sym t.numbered } in
          let same = now_same history old mid looks.reads in
          let all : t.collection.documents ≡ x.collection.documents = sym (is.documents ∙ ap documents_or_none t.found) in
          let begun : IsWalk (world mid).collections walk t.collection.documents =
          begins runs k mid.told.value.start (world mid).collections t.collection looks.reads.sound.file
          (subst (λ (ds : List Collection). IsNumbered ds t.collection number) (sym same) numbered) in
          record {
            done = [];
            rest = x.collection.documents;
            indexing = record {
              walks = subst (λ (ds : List Pairs). IsWalk cs walk ds) all (subst (λ (ds : List Collection). IsWalk ds walk t.collection.documents) same begun);
              all = refl;
              kept = is.kept;
              has = is.has;
            };
          };
    }
      where
        runs : IsRunning mid
        runs = stopped_same history old.file.pager mid.file.pager looks.reads.continues.stays ∙ running

  module _ (mid new : Engine D) (made after : NewEntries) (walk later : Walk) (far : HasEnteredTo history name before made walk old mid) where
    abbrev Step : Result Bool Refusal → Type 0
    Step r = MayRefuseOf history (IsIndexing walk made) (HasIndexed later after) IsUnindexable r mid new

    same_now : (world mid).collections ≡ (world old).collections
    same_now = now_same history old mid far.reads

    entered_now : OnlyReads history mid new → KeepsWord (disk_history history new) → (x : Indexed) → IsUnbegun name before (world old).collections x
        → Entered walk made (world mid).collections x
    entered_now more k x is =
        subst (λ (cs : List Collection). Entered walk made cs x) (sym same_now) (far.answers (word_before history mid.file new.file more.continues k) x is)

    pub entered_refused : (last : NewEntries) (e : Refusal) → Step (Err e) → Enters last (Err e) new
    entered_refused last e step = record {
      reads = reads_on history old mid new far.reads step.reads;
      answers = λ k x is.
          let l = entered_now step.reads k x is in
          elim (step.answers k (record x { done = l.done; rest = l.rest }) l.indexing) [
            | inl refused ↦ inl refused
            | inr cause ↦ inr (cause_from history old.file mid.file new.file far.reads.continues
                (word_before history mid.file new.file step.reads.continues k) e cause)
          ];
    }

    pub entered_on : Step (Ok true) → HasEnteredTo history name before after later old new
    entered_on step = record {
      reads = reads_on history old mid new far.reads step.reads;
      running = stopped_same history mid.file.pager new.file.pager step.reads.continues.stays ∙ far.running;
      answers = λ k x is.
          let l = entered_now step.reads k x is in
          let has = step.answers k (record x { done = l.done; rest = l.rest }) l.indexing in
          subst (λ (cs : List Collection). Entered later after cs x) same_now (record { done = has.done; rest = has.rest; indexing = has.indexing });
    }

    pub entered_all : Step (Ok false) → Enters after (Ok tt) new
    entered_all step = record {
      reads = reads_on history old mid new far.reads step.reads;
      answers = λ k x is.
          let l = entered_now step.reads k x is in
          let has = step.answers k (record x { done = l.done; rest = l.rest }) l.indexing in
          let all : x.collection.documents ≡ has.done = has.indexing.all ∙ ap (λ (ds : List Pairs). has.done ++ ds) (has.none refl) ∙ append-nil has.done in
          subst (λ (ds : List Pairs). HasEntries x.collection x.index ds after) (sym all) has.indexing.has;
    }
