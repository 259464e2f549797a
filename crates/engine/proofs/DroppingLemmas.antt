-- A collection's documents are noted as removed, batch after batch.
use Rattle.std.proofs.Common.{◌≡◌, ◌⊎◌, ◌+◌, ◌<◌, inl, inr, ℕ, zero, suc, Bool, true, false, List, [], length, take, drop, Option, Some, None, Result, Ok, Err}
use Rattle.std.proofs.Common.{refl, sym, ap, subst, ◌∙◌, arith}
use Rattle.std.specs.Prelude.{◌==◌, not, is_some, All}
use Rattle.std.specs.Global.{Vec}
use Rattle.std.proofs.lemmas.Bool.Decides.{nat_tests}
use Rattle.std.proofs.lemmas.List.Elements.{All-drop, All-take}
use Rattle.bson.specs.Tree.{Pairs}
use Rattle.page.specs.History.{History, KeepsWord}
use Rattle.tree_model.specs.Keys.{Edit}
use Rattle.path.specs.declared.refusal.Refusal.{Refusal}
use Rattle.path.specs.declared.refusal.Refusal.TheVariants as refusals
use Rattle.collections.specs.Lookups.{ReadsOf}
use Rattle.collections.specs.State.{State}
use Rattle.collections.specs.Walk.{BeginsWalk, IsWalk, StepsOn}
use Rattle.collections.specs.declared.walk.Walk.{Walk}
use Rattle.collections.proofs.StandingLemmas.{stopped_same}
use Rattle.outcome.specs.Outcome.{unless}
use Rattle.index.specs.Definition.{Definition}
use Rattle.entry_model.specs.Documents.{RemovesCollection, with_documents}
use Rattle.entry_model.specs.LawfulState.{AreNamedApart, IsLawfulState}
use Rattle.entry_model.specs.State.{Collection, find_collection, without_collection}
use Rattle.entry_model.specs.StateEntries.{Leads}
use Rattle.entries.specs.declared.catalogue_reading.Catalogued.{Catalogued}
use Rattle.entry_model.proofs.FoundLawLemmas.{finds_put, put_twice, without_put}
use Rattle.entry_model.proofs.LawfulParts.{kept_of}
use Rattle.entry_model.proofs.PlaceLemmas.{found_in, found_name}
use Rattle.entries.proofs.StateEditLaws.{put_same}
use Rattle.database_model.specs.DropCollection.{drop_reply, dropped, index_count, run_drop}
use Rattle.engine.specs.Dropping.{HasStepped, IsEmptying, IsFilled, IsLeft}
use Rattle.engine.specs.Durable.{disk_history, is_stopped, IsRunning, IsSound}
use Rattle.engine.specs.Looking.{Looks, LooksOf, OnlyReads}
use Rattle.engine.specs.Performing.{RunsCommand}
use Rattle.statements.specs.Redoing.{without_each}
use Rattle.database_model.specs.Refusals.{ok_reply}
use Rattle.engine.specs.TakingOut.{AreThere, HasHome, IsHome, IsIndexable, TakesOut}
use Rattle.engine.specs.View.{world}
use Rattle.database_model.specs.World.{World, indexes_or_none}
use Rattle.engine.specs.Writing.{ChangesCollections, planned_or, Writes}
use Rattle.engine.specs.declared.engine.Engine.{Engine}
use Rattle.engine.proofs.CataloguedLemmas.{IsCatalogueOf, has_home, not_catalogued}
use Rattle.engine.proofs.Continuing.{continues_of}
use Rattle.engine.proofs.MakingLemmas.{lawful_now, leads_planned, makes_behind, makes_none, makes_written, performs_done, performs_refused, planned_is}
use Rattle.engine.proofs.MakingLemmas.{with_reply}
use Rattle.engine.proofs.OnlyReading.{cause_from, now_same, reads_file, reads_none, reads_on, word_before}
use Rattle.engine.proofs.TakingOutLemmas.{all_indexable, front_out, front_there}
use Rattle.asked_documents.proofs.AskingLemmas.{none_there}

-- ---- what a drop comes to

pub dropped_none : (cs : List Collection) (name : List ℕ) → find_collection cs name ≡ None → dropped cs name ≡ Err refusals.NamespaceNotFound
dropped_none cs name none = ap (λ (o : Option Collection). unless (not (is_some o)) refusals.NamespaceNotFound (Ok (without_collection name cs))) none

pub dropped_there : (cs : List Collection) (name : List ℕ) (c : Collection) → find_collection cs name ≡ Some c
    → dropped cs name ≡ Ok (without_collection name cs)
dropped_there cs name c found = ap (λ (o : Option Collection). unless (not (is_some o)) refusals.NamespaceNotFound (Ok (without_collection name cs))) found

pub run_drops : (w : World) (name : List ℕ)
    → run_drop w (record { namespace = name }) ≡ with_reply w (drop_reply (index_count w.collections name) name) (dropped w.collections name)
unfolding run_drop
run_drops w name = refl

-- ---- the collection that is emptied

module _ (now : List Collection) where
  pub left_all : (c : Collection) → AreNamedApart now → find_collection now c.name ≡ Some c → IsLeft now c [] c.documents
  left_all c apart found lawful =
      subst (λ (s : List Collection). Leads [] now s × IsLawfulState s) (sym (put_same c now apart found)) ((λ entries spells. spells), lawful)

  -- those of a batch were taken out
  pub left_on : (c : Collection) (home : Catalogued) (edits next : List Edit) → IsHome now c home → (rest batch : List Pairs) → IsLeft now c edits rest
      → batch ≡ take (length batch) rest
      → TakesOut edits next home.number home.indexes.items batch → IsLeft now c next (drop (length batch) rest)
  left_on c home edits next catalogued rest batch left first takes lawful =
      let led = left lawful in
      let b = with_documents c rest now in
      let d : Collection = record c { documents = rest } in
      let there : AreThere batch rest = subst (λ (xs : List Pairs). AreThere xs rest) (sym first) (front_there (length batch) rest) in
      let step = takes now b d led.0 led.1 (finds_put d now) catalogued.numbered.same catalogued.indexed there in
      let out : without_each batch rest ≡ drop (length batch) rest = ap (λ (ds : List Pairs). without_each ds rest) first ∙ front_out (length batch) rest in
      let arrives : with_documents d (without_each batch rest) b ≡ with_documents c (drop (length batch) rest) now =
      put_twice (record c { documents = without_each batch rest }) d now refl ∙ ap (λ (ds : List Pairs). with_documents c ds now) out in
      subst (λ (s : List Collection). Leads next now s × IsLawfulState s) arrives step

  -- ---- the collection itself

  pub removes_all : (c : Collection) (name : List ℕ) (edits next : List Edit) → find_collection now name ≡ Some c → IsLeft now c edits []
      → RemovesCollection edits next name
      → IsLawfulState now → Leads next now (without_collection name now) × IsLawfulState (without_collection name now)
  removes_all c name edits next found left removes lawful =
      let named : name ≡ c.name = found_name now name c found in
      let led = left lawful in
      let d : Collection = record c { documents = [] } in
      let b = with_documents c [] now in
      let there : find_collection b name ≡ Some d = ap (find_collection b) named ∙ finds_put d now in
      let gone : without_collection name b ≡ without_collection name now =
      ap (λ (n : List ℕ). without_collection n b) named ∙ without_put d now lawful ∙ ap (λ (n : List ℕ). without_collection n now) (sym named) in
      subst (λ (s : List Collection). Leads next now s × IsLawfulState s) gone (removes now b d led.0 led.1 there refl)

-- ---- the steps, over engines as values

All-prefix : (P : Pairs → Type 0) (n : ℕ) (ds batch : List Pairs) → All P ds → batch ≡ take n ds → All P batch
All-prefix P n ds batch all is = subst (All P) (sym is) (All-take P n ds all)

module _ {D : Type 0} (history : D → History) (old : Engine D) (h : IsSound history old) (running : IsRunning old) (home : Catalogued) (walk later : Walk)
    (before after : List Edit) (file : State D) where
  abbrev new : Engine D
  new = record old { file = file }

  abbrev Reading : Result (Vec Pairs) Refusal → Type 0
  Reading r = ReadsOf history (λ now rest. IsWalk now walk rest) (λ now rest batch. StepsOn 64 later now rest batch.items) r old.file file

  abbrev Steps : Result Bool Refusal → Type 0
  Steps r = LooksOf history (IsEmptying home walk before) (HasStepped home later after) r old new

  pub batch_unread : (e : Refusal) → Reading (Err e) → Steps (Err e)
  batch_unread e read = record {
    reads = reads_file history old file h read.extends read.unchanged read.same;
    answers = λ k x is. read.answers k old.told.value.start (world old).collections h.file x.rest is.walks;
  }

  module _ (batch : Vec Pairs) (read : Reading (Ok batch)) where
    pub batch_not_removed : (e : Refusal) → (All (IsIndexable home.indexes.items) batch.items → e ≡ refusals.OutOfMemory) → Steps (Err e)
    batch_not_removed e refused = record {
      reads = reads_file history old file h read.extends read.unchanged read.same;
      answers = λ k x is.
          let next = read.answers k old.told.value.start (world old).collections h.file x.rest is.walks in
          let state = lawful_now history old h (word_before history old.file file read.extends k) running in
          inl (refused (All-prefix (IsIndexable home.indexes.items) (length batch.items) x.rest batch.items (is.indexable state) next.0.first));
    }

    pub batch_removed : (more : Bool) → TakesOut before after home.number home.indexes.items batch.items → (more ≡ false → batch.items ≡ []) → Steps (Ok more)
    batch_removed more takes empty = record {
      reads = reads_file history old file h read.extends read.unchanged read.same;
      answers = λ k x is.
          let cs = (world old).collections in
          let next = read.answers k old.told.value.start cs h.file x.rest is.walks in
          let n = length batch.items in
          record {
            rest = drop n x.rest;
            emptying = record {
              catalogued = is.catalogued;
              walks = next.1;
              indexable = λ state. All-drop (IsIndexable home.indexes.items) n x.rest (is.indexable state);
              leads = left_on cs x.collection home before after is.catalogued x.rest batch.items is.leads next.0.first takes;
            };
            none = λ no_more. let none : batch.items ≡ [] = empty no_more in ap (drop n) (next.0.none none) ∙ none_left n;
          };
    }
      where
        none_left : (m : ℕ) → drop {A = Pairs} m [] ≡ []
        none_left zero = refl
        none_left (suc m) = refl

-- whether a batch has documents
pub none_more : (batch : Vec Pairs) (b : Bool) → b ≡ (batch.len == 0) → not b ≡ false → batch.items ≡ []
none_more batch true is no_more = none_there batch (sym is)
none_more batch false is no_more = absurd cc

pub fewer_left : (batch : Vec Pairs) (b : Bool) (now before : ℕ) → b ≡ (batch.len == 0) → (batch.items ≡ []) ⊎ (now < before) → not b ≡ true → now < before
fewer_left batch b now before is (inr fewer) more = fewer
fewer_left batch true now before is (inl none) more = absurd cc
fewer_left batch false now before is (inl none) more = absurd (grind (arith, nat_tests, is, batch.ok.0, ap length none))

-- the documents that are left
pub record Left (home : Catalogued) (walk : Walk) (edits : List Edit) (now : List Collection) (c : Collection) : Type 0 where
  pub rest : List Pairs
  pub emptying : IsEmptying home walk edits now (record { collection = c; rest = rest })

-- what is left after some batches
pub record IsEmptiedTo {D : Type 0} (history : D → History) (home : Catalogued) (before after : List Edit) (walk : Walk) (old new : Engine D) : Type 0 where
  pub reads : OnlyReads history old new
  pub running : IsRunning new
  pub answers : KeepsWord (disk_history history new) → (c : Collection) → IsFilled home before (world old).collections c
      → Left home walk after (world old).collections c

-- the indexes of the collection refuse none of its documents
indexable_there : (now : List Collection) (c : Collection) (home : Catalogued) → IsLawfulState now → IsHome now c home
    → All (IsIndexable home.indexes.items) c.documents
indexable_there now c home state catalogued =
    subst (λ (is : List Definition). All (IsIndexable is) c.documents) catalogued.indexed
    (all_indexable c (kept_of now c state (found_in now c.name c catalogued.numbered.found)))

module _ {D : Type 0} (history : D → History) (home : Catalogued) (before : List Edit) (old : Engine D) where
  abbrev Empties : List Edit → Result (Unit {0}) Refusal → Engine D → Type 0
  Empties after r new = LooksOf history (IsFilled home before) (λ now c _. IsLeft now c after []) r old new

  pub emptied_stopped : IsSound history old → is_stopped old ≡ true → Empties before (Err refusals.StorageFailed) old
  emptied_stopped h stopped = record { reads = reads_none history old h; answers = λ k c is. inr (refl, inl stopped) }

  pub emptied_without_memory : IsSound history old → Empties before (Err refusals.OutOfMemory) old
  emptied_without_memory h = record { reads = reads_none history old h; answers = λ k c is. inl refl }

  pub emptied_none : (walk : Walk) → IsSound history old → IsRunning old → BeginsWalk history old.file home.number walk
      → IsEmptiedTo history home before before walk old old
  emptied_none walk h running begins = record {
    reads = reads_none history old h;
    running = running;
    answers = λ k c is. record {
      rest = c.documents;
      emptying = record {
        catalogued = is.catalogued;
        walks = begins running k old.told.value.start (world old).collections c h.file is.catalogued.numbered;
        indexable = λ state. indexable_there (world old).collections c home state is.catalogued;
        leads = is.leads;
      };
    };
  }

  module _ (mid new : Engine D) (walk later : Walk) (edits after : List Edit) (far : IsEmptiedTo history home before edits walk old mid) where
    abbrev Step : Result Bool Refusal → Type 0
    Step r = LooksOf history (IsEmptying home walk edits) (HasStepped home later after) r mid new

    same_now : (world mid).collections ≡ (world old).collections
    same_now = now_same history old mid far.reads

    left_now : OnlyReads history mid new → KeepsWord (disk_history history new) → (c : Collection) → IsFilled home before (world old).collections c
        → Left home walk edits (world mid).collections c
    left_now more k c is =
        subst (λ (cs : List Collection). Left home walk edits cs c) (sym same_now) (far.answers (word_before history mid.file new.file more.continues k) c is)

    pub emptied_refused : (last : List Edit) (e : Refusal) → Step (Err e) → Empties last (Err e) new
    emptied_refused last e step = record {
      reads = reads_on history old mid new far.reads step.reads;
      answers = λ k c is.
          let l = left_now step.reads k c is in
          cause_from history old.file mid.file new.file far.reads.continues (word_before history mid.file new.file step.reads.continues k) e
          (step.answers k (record { collection = c; rest = l.rest }) l.emptying);
    }

    pub emptied_on : Step (Ok true) → IsEmptiedTo history home before after later old new
    emptied_on step = record {
      reads = reads_on history old mid new far.reads step.reads;
      running = stopped_same history mid.file.pager new.file.pager step.reads.continues.stays ∙ far.running;
      answers = λ k c is.
          let l = left_now step.reads k c is in
          let has = step.answers k (record { collection = c; rest = l.rest }) l.emptying in
          subst (λ (cs : List Collection). Left home later after cs c) same_now (record { rest = has.rest; emptying = has.emptying });
    }

    pub emptied_all : Step (Ok false) → Empties after (Ok tt) new
    emptied_all step = record {
      reads = reads_on history old mid new far.reads step.reads;
      answers = λ k c is.
          let l = left_now step.reads k c is in
          let has = step.answers k (record { collection = c; rest = l.rest }) l.emptying in
          subst (λ (cs : List Collection). IsLeft cs c after []) same_now (subst (IsLeft (world mid).collections c after) (has.none refl) has.emptying.leads);
    }

-- ---- a drop

module _ {D : Type 0} (history : D → History) (name : List ℕ) (home : Catalogued) (old : Engine D) (h : IsSound history old)
    (there : KeepsWord (disk_history history old) → HasHome (world old).collections name home) where
  abbrev Plan : List Collection → Result (List Collection) Refusal
  Plan cs = dropped cs name

  abbrev Drops : Result (Unit {0}) Refusal → Engine D → Type 0
  Drops r new = ChangesCollections history (Plan (world old).collections) r old new

  module _ (last : Engine D) (before edits : List Edit) (none : before ≡ []) where
    abbrev Emptying : Result (Unit {0}) Refusal → Type 0
    Emptying r = LooksOf history (IsFilled home before) (λ now c _. IsLeft now c edits []) r old last

    filled : (t : HasHome (world old).collections name home) → IsFilled home before (world old).collections t.collection
    filled t = record {
      catalogued = t.catalogued;
      leads = subst (λ (es : List Edit). IsLeft (world old).collections t.collection es t.collection.documents) (sym none)
          (left_all (world old).collections t.collection h.lawful.apart t.catalogued.numbered.found);
    }

    pub drop_refused : (e : Refusal) → Emptying (Err e) → Drops (Err e) last
    drop_refused e emptying = makes_none history (Plan (world old).collections) old last e emptying.reads (λ k.
        let t = there (word_before history old.file last.file emptying.reads.continues k) in
        inr (emptying.answers k t.collection (filled t)))

    module _ (emptied : Emptying (Ok tt)) where
      pub drop_without_memory : Drops (Err refusals.OutOfMemory) last
      drop_without_memory = makes_none history (Plan (world old).collections) old last refusals.OutOfMemory emptied.reads (λ k. inr (inl refl))

      -- the collections of the last moment are those of the first
      same_last : (world last).collections ≡ (world old).collections
      same_last = now_same history old last emptied.reads

      there_last : KeepsWord (disk_history history last) → HasHome (world last).collections name home
      there_last k =
          subst (λ (cs : List Collection). HasHome cs name home) (sym same_last) (there (word_before history old.file last.file emptied.reads.continues k))

      pub drop_leads : (next : List Edit) → RemovesCollection edits next name → KeepsWord (disk_history history last) → IsRunning last
          → Leads next (world last).collections (planned_or (world last).collections (Plan (world last).collections))
          × IsLawfulState (planned_or (world last).collections (Plan (world last).collections))
      drop_leads next removes k running =
          let cs = (world last).collections in
          let t = there (word_before history old.file last.file emptied.reads.continues k) in
          let left : IsLeft cs t.collection edits [] =
          subst (λ (ds : List Collection). IsLeft ds t.collection edits []) (sym same_last) (emptied.answers k t.collection (filled t)) in
          let found : find_collection cs name ≡ Some t.collection = ap (λ (ds : List Collection). find_collection ds name) same_last ∙ t.found in
          leads_planned next cs (without_collection name cs) (Plan cs) (dropped_there cs name t.collection found)
          (removes_all cs t.collection name edits next found left removes (lawful_now history last emptied.reads.sound k running))

      pub drop_written : (r : Result (Unit {0}) Refusal) (new : Engine D)
          → Writes history (planned_or (world last).collections (Plan (world last).collections)) r last new → Drops r new
      drop_written r new writes =
          makes_written history Plan old last new emptied.reads r
          (λ k. let t = there_last k in
          planned_is (world last).collections (without_collection name (world last).collections) (Plan (world last).collections)
          (dropped_there (world last).collections name t.collection t.found)) writes

-- ---- the command

module _ {D : Type 0} (history : D → History) (name : List ℕ) (old mid : Engine D) where
  abbrev run : Result (World × Pairs) Refusal
  run = run_drop (world old) (record { namespace = name })

  abbrev told : ℕ
  told = index_count (world old).collections name

  -- it is missing
  pub drop_missing : Looks history (IsCatalogueOf name) (Ok None) old mid → RunsCommand history run (Err refusals.NamespaceNotFound) old mid
  drop_missing first =
      performs_refused history (drop_reply told name) (dropped (world old).collections name) run old mid (run_drops (world old) name) refusals.NamespaceNotFound
      (makes_none history (dropped (world old).collections name) old mid refusals.NamespaceNotFound first.reads
      (λ k. inl (dropped_none (world old).collections name (not_catalogued (world old).collections name (first.answers k)))))

  module _ (home : Catalogued) (first : Looks history (IsCatalogueOf name) (Ok (Some home)) old mid) where
    home_of : KeepsWord (disk_history history mid) → HasHome (world old).collections name home
    home_of k = has_home (world old).collections name home (first.answers k)

    -- it is there
    pub drop_home : KeepsWord (disk_history history mid) → HasHome (world mid).collections name home
    drop_home k = subst (λ (cs : List Collection). HasHome cs name home) (sym (now_same history old mid first.reads)) (home_of k)

    module _ (new : Engine D) where
      abbrev Behind : Result (Unit {0}) Refusal → Type 0
      Behind r = ChangesCollections history (dropped (world mid).collections name) r mid new

      pub drop_behind : (r : Result (Unit {0}) Refusal) → Behind r → ChangesCollections history (dropped (world old).collections name) r old new
      drop_behind r m = makes_behind history (λ cs. dropped cs name) old mid new first.reads r m

      pub drop_undone : (e : Refusal) → Behind (Err e) → RunsCommand history run (Err e) old new
      drop_undone e m =
          performs_refused history (drop_reply told name) (dropped (world old).collections name) run old new (run_drops (world old) name) e
          (drop_behind (Err e) m)

      -- the reply was made of what the catalogue has
      pub drop_done : (n : ℕ) (d : Pairs) → d ≡ ok_reply (drop_reply n name) → n ≡ 1 + length home.indexes.items → Behind (Ok tt)
          → RunsCommand history run (Ok d) old new
      drop_done n d said many m =
          let makes = drop_behind (Ok tt) m in
          record {
            sound = makes.sound;
            continues = continues_of history old new makes.continues;
            start = makes.start;
            as_planned = λ k.
                let t = home_of (word_before history mid.file new.file m.continues k) in
                let counted : n ≡ told = many ∙ ap (λ (is : List Definition). 1 + length is) (sym t.catalogued.indexed)
                ∙ ap (λ (o : Option Collection). 1 + length (indexes_or_none o)) (sym t.found) in
                (performs_done history (drop_reply told name) (dropped (world old).collections name) run old new (run_drops (world old) name) d
                (said ∙ ap (λ (x : ℕ). ok_reply (drop_reply x name)) counted) makes).as_planned k;
            left = tt;
            refused = tt;
            keeps = makes.keeps;
          }
