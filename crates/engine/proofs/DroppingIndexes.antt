-- The steps of a dropIndexes, over engines as values.
use Rattle.std.proofs.Common.{◌≡◌, inl, inr, ◌+◌, ◌<◌, ◌≤◌, ℕ, Bool, true, false, ◌&&◌, List, [], ◌∷◌, length, get_or, take, Option, Some, None, Result, Ok}
use Rattle.std.proofs.Common.{Err, refl, sym, ap, subst, ◌∙◌, arith}
use Rattle.std.specs.Prelude.{All, is_some, nat_le, not}
use Rattle.std.specs.List.{position, remove}
use Rattle.std.proofs.lemmas.List.Edits.{length-remove}
use Rattle.bson.specs.Tree.{Pairs}
use Rattle.page.specs.History.{History, KeepsWord}
use Rattle.tree_model.specs.Keys.{Edit}
use Rattle.path.specs.declared.refusal.Refusal.{Refusal}
use Rattle.path.specs.declared.refusal.Refusal.TheVariants as refusals
use Rattle.collections.specs.Lookups.{IsWithinLimits}
use Rattle.collections.proofs.LawLemmas as laws
use Rattle.command_model.specs.DropIndexes.{DroppedIndexes}
use Rattle.index.specs.Definition.{Definition}
use Rattle.entries.specs.IndexBuilding.{HasRemovedEntries}
use Rattle.entries.specs.IndexMaking.{DropsIndexAt}
use Rattle.entry_model.specs.WithIndex.{without_index_at}
use Rattle.index.specs.KeyTexts.{encoded_keys, keys_in}
use Rattle.entry_model.specs.LawfulState as states
use Rattle.entry_model.specs.State.{Collection, find_collection, put_collection}
use Rattle.entry_model.specs.StateEntries.{Leads}
use Rattle.entries.specs.declared.catalogue_reading.Catalogued.{Catalogued}
use Rattle.entry_model.proofs.FoundLawLemmas.{finds_put, put_twice}
use Rattle.entry_model.proofs.LawfulParts.{kept_of, listed_of, storable_of}
use Rattle.entry_model.proofs.KeptSteps.{cut_at}
use Rattle.entry_model.proofs.LawfulLaws.{all_of}
use Rattle.entry_model.proofs.MemberLemmas.{Among, among_back, of_all}
use Rattle.entry_model.proofs.PlaceLemmas.{found_in, found_name}
use Rattle.entries.proofs.StateEditLaws.{put_same}
use Rattle.database_model.specs.DropCollection.{index_count}
use Rattle.database_model.specs.DropIndexes.{dropped_in, drop_indexes_reply, index_dropped, is_dropped, left_by, remaining, run_drop_indexes}
use Rattle.engine.specs.Durable.{disk_history, has_changes, is_stopped, IsRunning, IsSound}
use Rattle.engine.specs.Looking.{Looks, LooksOf, OnlyReads}
use Rattle.engine.specs.Performing.{RunsCommand}
use Rattle.database_model.specs.Refusals.{ok_reply}
use Rattle.engine.specs.Storing.{AreNoted, HasNoted, Notes}
use Rattle.engine.specs.TakingOut.{HasHome}
use Rattle.engine.specs.Unindexing.{HasKeysIn, HasOtherIndexes, IsIndexedBy, IsUnindexed, drop_at, drop_each}
use Rattle.engine.specs.View.{world}
use Rattle.database_model.specs.World.{World, indexes_or_none}
use Rattle.engine.specs.Writing.{ChangesCollections, planned_or, Writes}
use Rattle.engine.specs.declared.engine.Engine.{Engine}
use Rattle.engine.proofs.CataloguedLemmas.{IsCatalogueOf, has_home, not_catalogued, some_same}
use Rattle.index_list.proofs.DroppedIndexLemmas.{all_remain, dropped_there, fewer_remain, remain_without}
use Rattle.engine.proofs.Continuing.{continues_of}
use Rattle.engine.proofs.LookingLemmas.{performs_memory}
use Rattle.engine.proofs.MakingLemmas.{lawful_now, leads_planned, makes_behind, makes_none, makes_written, performs_done, performs_refused, planned_is}
use Rattle.engine.proofs.MakingLemmas.{with_reply}
use Rattle.engine.proofs.OnlyReading.{cause_from, now_same, reads_none, reads_on, word_before}

-- ---- the index at a place

-- no document of a lawful collection is refused by one of its indexes
all_keyed_in : (c : Collection) (i : Definition) → states.IsKept c → Among i c.indexes → All (HasKeysIn i) c.documents
all_keyed_in c i kept listed = all_of (HasKeysIn i) c.documents (λ d stands. record {
  storable = storable_of c d kept stands;
  keyed = of_all (λ e. keys_in i.fields e ≡ Ok (encoded_keys i.fields e)) c.documents d (listed_of c i kept listed).keys stands;
})

pub fewer_by_one : (home after : Catalogued) (at : ℕ) → at < length home.indexes.items → after.indexes.items ≡ remove home.indexes.items at
    → length after.indexes.items < length home.indexes.items
fewer_by_one home after at within is = omega (arith, ap length is, length-remove home.indexes.items at within)

pub limits_by_one : (home after : Catalogued) (at : ℕ) → IsWithinLimits home → at < length home.indexes.items → after.number ≡ home.number
    → after.indexes.items ≡ remove home.indexes.items at → IsWithinLimits after
limits_by_one home after at limits within number is = (omega (arith, limits.0, number), omega (arith, limits.1, fewer_by_one home after at within is))

module _ {D : Type 0} (history : D → History) (old : Engine D) (h : IsSound history old) (name : List ℕ) (home : Catalogued) (before : List Edit) (at : ℕ) where
  abbrev cs : List Collection
  cs = (world old).collections

  abbrev NotesAt : Catalogued → List Edit → Result (Unit {0}) Refusal → Engine D → Type 0
  NotesAt home_after after r new = Notes history name (HasOtherIndexes (world old).collections name) (drop_at at) home home_after before after r old new

  pub at_stopped : is_stopped old ≡ true → NotesAt home before (Err refusals.StorageFailed) old
  at_stopped stopped = record { reads = reads_none history old h; answers = λ k c noted so. inr (inr (refl, inl stopped)) }

  module _ (running : IsRunning old) (i : Definition) (within : at < length home.indexes.items) (here : i ≡ get_or home.indexes.items at i) (mid : List Edit)
      (last : Engine D) where
    abbrev Unindexes : Result (Unit {0}) Refusal → Type 0
    Unindexes r = LooksOf history (IsIndexedBy home.number i) (IsUnindexed home.number i before mid) r old last

    lawful_then : OnlyReads history old last → KeepsWord (disk_history history last) → states.IsLawfulState cs
    lawful_then reads k = lawful_now history old h (word_before history old.file last.file reads.continues k) running

    listed_there : (c : Collection) → AreNoted cs name home before c → Among i c.indexes
    listed_there c noted =
        let long = ap length noted.indexed in
        let cut = cut_at c.indexes at i (omega (arith, within, long)) (here ∙ ap (λ (js : List Definition). get_or js at i) (sym noted.indexed)) in
        subst (Among i) (sym cut) (among_back i (take at c.indexes) (i ∷ _) (inl refl))

    indexed_by : states.IsLawfulState cs → (c : Collection) → AreNoted cs name home before c → (so : HasOtherIndexes cs name c)
        → IsIndexedBy home.number i cs so.whole
    indexed_by lawful c noted so =
        let kept = kept_of (put_collection c cs) c (noted.leads lawful).1 (found_in (put_collection c cs) c.name c (finds_put c cs)) in
        record {
          numbered = record {
            found = subst (λ (m : List ℕ). find_collection cs m ≡ Some so.whole) (found_name cs name so.whole so.found) so.found;
            same = sym (ap (λ (x : Collection). x.number) so.same) ∙ noted.numbered;
          };
          keyed = subst (All (HasKeysIn i)) (ap (λ (x : Collection). x.documents) so.same) (all_keyed_in c i kept (listed_there c noted));
        }

    pub at_refused : (home_after : Catalogued) (after : List Edit) (e : Refusal) → Unindexes (Err e) → NotesAt home_after after (Err e) last
    at_refused home_after after e unindexes = record {
      reads = unindexes.reads;
      answers = λ k c noted so. inr (unindexes.answers k so.whole (indexed_by (lawful_then unindexes.reads k) c noted so));
    }

    module _ (unindexes : Unindexes (Ok tt)) (home_after : Catalogued) (after : List Edit) where
      pub at_kept : (e : Refusal) → e ≡ refusals.OutOfMemory → NotesAt home_after after (Err e) last
      at_kept e memory = record { reads = unindexes.reads; answers = λ k c noted so. inr (inl memory) }

      pub at_dropped : home_after.number ≡ home.number → home_after.indexes.items ≡ remove home.indexes.items at
          → DropsIndexAt mid after name home.number home.indexes.items at → NotesAt home_after after (Ok tt) last
      at_dropped number_is indexes_are drops = record {
        reads = unindexes.reads;
        answers = λ k c noted so.
            let lawful = lawful_then unindexes.reads k in
            let removed = unindexes.answers k so.whole (indexed_by lawful c noted so) in
            let same = subst (HasRemovedEntries before mid home.number i) (sym (ap (λ (x : Collection). x.documents) so.same)) removed in
            let led = noted.leads lawful in
            let found = subst (λ (m : List ℕ). find_collection (put_collection c cs) m ≡ Some c) noted.named (finds_put c cs) in
            let next = without_index_at c at in
            let gone = drops before cs (put_collection c cs) c i led.0 led.1 found noted.numbered noted.indexed here same in
            record {
              next = next;
              is = refl;
              noted = record {
                named = noted.named;
                numbered = noted.numbered ∙ sym number_is;
                indexed = ap (λ (js : List Definition). remove js at) noted.indexed ∙ sym indexes_are;
                room = noted.room;
                leads = λ state. subst (λ (s : List Collection). Leads after cs s × states.IsLawfulState s) (put_twice next c cs refl) gone;
              };
            };
      }

-- ---- one index after the other

-- what is noted, and the indexes that are still to go
pub record HasLeft (now : List Collection) (name : List ℕ) (away : DroppedIndexes) (home : Catalogued) (edits : List Edit) (first : Collection) : Type 0 where
  pub reached : Collection
  pub noted : AreNoted now name home edits reached
  pub so : HasOtherIndexes now name reached
  pub same : drop_each away first ≡ drop_each away reached

-- so it is after some of them
pub record DropsTo {D : Type 0} (history : D → History) (name : List ℕ) (away : DroppedIndexes) (home_before home : Catalogued) (before after : List Edit)
    (old new : Engine D) : Type 0 where
  pub reads : OnlyReads history old new
  pub limits : IsWithinLimits home
  pub answers : KeepsWord (disk_history history new) → (first : Collection) → AreNoted (world old).collections name home_before before first
      → HasOtherIndexes (world old).collections name first
      → HasLeft (world old).collections name away home after first

module _ {D : Type 0} (history : D → History) (name : List ℕ) (away : DroppedIndexes) (home_before : Catalogued) (before : List Edit) (old : Engine D) where
  abbrev NotesAll : Catalogued → List Edit → Result (Unit {0}) Refusal → Engine D → Type 0
  NotesAll home after r new = Notes history name (HasOtherIndexes (world old).collections name) (drop_each away) home_before home before after r old new

  pub drops_none : IsSound history old → IsWithinLimits home_before → DropsTo history name away home_before home_before before before old old
  drops_none h limits = record {
    reads = reads_none history old h;
    limits = limits;
    answers = λ k first noted so. record { reached = first; noted = noted; so = so; same = refl };
  }

  module _ (mid new : Engine D) (home home_after : Catalogued) (edits after : List Edit)
      (far : DropsTo history name away home_before home before edits old mid) (at : ℕ) where
    abbrev Step : Result (Unit {0}) Refusal → Type 0
    Step r = Notes history name (HasOtherIndexes (world mid).collections name) (drop_at at) home home_after edits after r mid new

    same_now : (world mid).collections ≡ (world old).collections
    same_now = now_same history old mid far.reads

    reached_so : OnlyReads history mid new → KeepsWord (disk_history history new) → (first : Collection)
        → AreNoted (world old).collections name home_before before first → HasOtherIndexes (world old).collections name first
        → HasLeft (world old).collections name away home edits first
    reached_so later k first noted so = far.answers (word_before history mid.file new.file later.continues k) first noted so

    now_noted : (first : Collection) (f : HasLeft (world old).collections name away home edits first)
        → AreNoted (world mid).collections name home edits f.reached × HasOtherIndexes (world mid).collections name f.reached
    now_noted first f =
        subst (λ (ds : List Collection). AreNoted ds name home edits f.reached × HasOtherIndexes ds name f.reached) (sym same_now) (f.noted, f.so)

    pub drops_refused : (e : Refusal) → Step (Err e) → NotesAll home_after after (Err e) new
    drops_refused e step = record {
      reads = reads_on history old mid new far.reads step.reads;
      answers = λ k first noted so.
          let f = reached_so step.reads k first noted so in
          let now = now_noted first f in
          elim (step.answers k f.reached now.0 now.1) [
            | inl refused ↦ absurd cc
            | inr cause ↦ inr (cause_from history old.file mid.file new.file far.reads.continues
                (word_before history mid.file new.file step.reads.continues k) e cause)
          ];
    }

    pub drops_on : position (is_dropped away) home.indexes.items ≡ Some at → Step (Ok tt) → IsWithinLimits home_after
        → DropsTo history name away home_before home_after before after old new
    drops_on found step limits = record {
      reads = reads_on history old mid new far.reads step.reads;
      limits = limits;
      answers = λ k first noted so.
          let f = reached_so step.reads k first noted so in
          let now = now_noted first f in
          let has = subst (λ (ds : List Collection). HasNoted ds name home_after after (drop_at at f.reached)) same_now
          (step.answers k f.reached now.0 now.1) in
          let c = f.reached in
          let next = without_index_at c at in
          let is : next ≡ has.next = ap (λ (r : Result Collection Refusal). elim r [ Ok z ↦ z | Err f ↦ next ]) has.is in
          let there = ap (position (is_dropped away)) f.noted.indexed ∙ found in
          let less : remaining away (remove c.indexes at) ≡ remaining away c.indexes = remain_without away c.indexes at there in
          record {
            reached = next;
            noted = subst (AreNoted (world old).collections name home_after after) (sym is) has.noted;
            so = record { whole = f.so.whole; found = f.so.found; same = ap (λ (x : Collection). record x { indexes = remove c.indexes at }) f.so.same };
            same = f.same ∙ ap (λ (js : List Definition). let r : Result Collection Refusal = Ok (record c { indexes = js }) in r) (sym less);
          };
    }

  pub drops_all : (new : Engine D) (home : Catalogued) (edits : List Edit) → position (is_dropped away) home.indexes.items ≡ None
      → DropsTo history name away home_before home before edits old new → NotesAll home edits (Ok tt) new
  drops_all new home edits none far = record {
    reads = far.reads;
    answers = λ k first noted so.
        let f = far.answers k first noted so in
        let c = f.reached in
        let stay : remaining away c.indexes ≡ c.indexes = all_remain away c.indexes (ap (position (is_dropped away)) f.noted.indexed ∙ none) in
        record {
          next = c;
          is = f.same ∙ ap (λ (js : List Definition). let r : Result Collection Refusal = Ok (record c { indexes = js }) in r) stay;
          noted = f.noted;
        };
  }

-- ---- the indexes of a collection that is there

module _ {D : Type 0} (history : D → History) (name : List ℕ) (away : DroppedIndexes) (home : Catalogued) (old : Engine D) (h : IsSound history old)
    (may : left_by away home.indexes.items ≡ Ok (remaining away home.indexes.items)) (there : KeepsWord (disk_history history old)
    → HasHome (world old).collections name home) where
  abbrev Plan : List Collection → Result (List Collection) Refusal
  Plan ds = index_dropped ds name away

  -- the collection with those that stay
  abbrev left_of : Collection → Collection
  left_of c = record c { indexes = remaining away c.indexes }

  planned_left : (ds : List Collection) (t : HasHome ds name home) → Plan ds ≡ Ok (put_collection (left_of t.collection) ds)
  planned_left ds t =
      let is = t.catalogued.indexed in
      dropped_there ds name away t.collection t.found (Ok (remaining away t.collection.indexes))
      (ap (left_by away) is ∙ may ∙ ap (λ (js : List Definition). let r : Result (List Definition) Refusal = Ok (remaining away js) in r) (sym is))

  found_as : (ds : List Collection) (t : HasHome ds name home) → find_collection ds t.collection.name ≡ Some t.collection
  found_as ds t = subst (λ (m : List ℕ). find_collection ds m ≡ Some t.collection) (found_name ds name t.collection t.found) t.found

  pub removes_none : position (is_dropped away) home.indexes.items ≡ None → ChangesCollections history (Plan (world old).collections) (Ok tt) old old
  removes_none none = record {
    sound = h;
    continues = laws.goes_from_itself history old.file;
    start = refl;
    cursors = refl;
    as_planned = λ k.
        let ds = (world old).collections in
        let t = there k in
        let c = t.collection in
        let stay : remaining away c.indexes ≡ c.indexes = all_remain away c.indexes (ap (position (is_dropped away)) t.catalogued.indexed ∙ none) in
        let same : put_collection (left_of c) ds ≡ ds =
        ap (λ (js : List Definition). put_collection (record c { indexes = js }) ds) stay ∙ put_same c ds h.lawful.apart (found_as ds t) in
        planned_left ds t ∙ ap (λ (es : List Collection). Ok es) same;
    left = tt;
    refused = tt;
    keeps = λ t. t;
  }

  module _ (last : Engine D) (before : List Edit) (none : before ≡ []) (home_after : Catalogued) (after : List Edit) where
    abbrev NotesThem : Result (Unit {0}) Refusal → Type 0
    NotesThem r = Notes history name (HasOtherIndexes (world old).collections name) (drop_each away) home home_after before after r old last

    noted_first : (t : HasHome (world old).collections name home) → AreNoted (world old).collections name home before t.collection
    noted_first t =
        let ds = (world old).collections in
        let c = t.collection in
        record {
          named = sym (found_name ds name c t.found);
          numbered = t.catalogued.numbered.same;
          indexed = t.catalogued.indexed;
          room = ap (λ (o : Option Collection). nat_le 1000 (length ds) && not (is_some o)) t.found ∙ and_false (nat_le 1000 (length ds));
          leads = λ lawful. subst (λ (es : List Edit). Leads es ds (put_collection c ds) × states.IsLawfulState (put_collection c ds)) (sym none)
              (subst (λ (s : List Collection). Leads [] ds s × states.IsLawfulState s) (sym (put_same c ds lawful.apart (found_as ds t)))
              ((λ entries spells. spells), lawful));
        }
      where
        and_false : (b : Bool) → (b && false) ≡ false
        and_false true = refl
        and_false false = refl

    other_first : (t : HasHome (world old).collections name home) → HasOtherIndexes (world old).collections name t.collection
    other_first t = record { whole = t.collection; found = t.found; same = refl }

    pub removes_refused : (e : Refusal) → NotesThem (Err e) → ChangesCollections history (Plan (world old).collections) (Err e) old last
    removes_refused e notes = makes_none history (Plan (world old).collections) old last e notes.reads (λ k.
        let t = there (word_before history old.file last.file notes.reads.continues k) in
        elim (notes.answers k t.collection (noted_first t) (other_first t)) [
          | inl refused ↦ absurd cc
          | inr cause ↦ inr cause
        ])

    module _ (notes : NotesThem (Ok tt)) where
      same_last : (world last).collections ≡ (world old).collections
      same_last = now_same history old last notes.reads

      home_last : KeepsWord (disk_history history last) → HasHome (world last).collections name home
      home_last k = subst (λ (ds : List Collection). HasHome ds name home) (sym same_last)
          (there (word_before history old.file last.file notes.reads.continues k))

      pub removes_leads : KeepsWord (disk_history history last) → IsRunning last
          → Leads after (world last).collections (planned_or (world last).collections (Plan (world last).collections))
          × states.IsLawfulState (planned_or (world last).collections (Plan (world last).collections))
      removes_leads k running =
          let ds = (world old).collections in
          let t = there (word_before history old.file last.file notes.reads.continues k) in
          let has = notes.answers k t.collection (noted_first t) (other_first t) in
          let is : left_of t.collection ≡ has.next = ap (λ (r : Result Collection Refusal). elim r [ Ok z ↦ z | Err f ↦ left_of t.collection ]) has.is in
          let lawful : states.IsLawfulState ds = subst states.IsLawfulState same_last (lawful_now history last notes.reads.sound k running) in
          let led : Leads after ds (put_collection (left_of t.collection) ds) × states.IsLawfulState (put_collection (left_of t.collection) ds) =
          subst (λ (c : Collection). Leads after ds (put_collection c ds) × states.IsLawfulState (put_collection c ds)) (sym is) (has.noted.leads lawful) in
          subst (λ (es : List Collection). Leads after es (planned_or es (Plan es)) × states.IsLawfulState (planned_or es (Plan es))) (sym same_last)
          (leads_planned after ds (put_collection (left_of t.collection) ds) (Plan ds) (planned_left ds t) led)

      pub removes_written : (r : Result (Unit {0}) Refusal) (new : Engine D)
          → Writes history (planned_or (world last).collections (Plan (world last).collections)) r last new
          → ChangesCollections history (Plan (world old).collections) r old new
      removes_written r new writes =
          makes_written history Plan old last new notes.reads r
          (λ k. let t = home_last k in
          planned_is (world last).collections (put_collection (left_of t.collection) (world last).collections) (Plan (world last).collections)
          (planned_left (world last).collections t)) writes

-- there is a place, or none
pub no_place : (o : Option ℕ) → is_some o ≡ false → o ≡ None
no_place None e = refl
no_place (Some n) e = absurd cc

pub some_place : (o : Option ℕ) → is_some o ≡ true → (n : ℕ) × (o ≡ Some n)
some_place None e = absurd cc
some_place (Some n) e = (n, refl)

-- where one is dropped, fewer stay
pub some_go : {X : Type 0} (away : DroppedIndexes) (is : List Definition) (at : ℕ) → position (is_dropped away) is ≡ Some at
    → length is ≤ length (remaining away is) → X
some_go away is at found long = absurd (omega (arith, long, fewer_remain away is at found))

-- they may be dropped from a list, so from an equal one
pub may_be_left : (away : DroppedIndexes) (is js : List Definition) → is ≡ js → left_by away is ≡ Ok (remaining away is)
    → left_by away js ≡ Ok (remaining away js)
may_be_left away is js same may = subst (λ (ks : List Definition). left_by away ks ≡ Ok (remaining away ks)) same may

-- ---- the command

run_drops : (w : World) (name : List ℕ) (away : DroppedIndexes)
    → run_drop_indexes w (record { namespace = name; indexes = away })
    ≡ with_reply w (drop_indexes_reply (index_count w.collections name)) (index_dropped w.collections name away)
unfolding run_drop_indexes
run_drops w name away = refl

module _ {D : Type 0} (history : D → History) (name : List ℕ) (away : DroppedIndexes) (old mid : Engine D) where
  abbrev run : Result (World × Pairs) Refusal
  run = run_drop_indexes (world old) (record { namespace = name; indexes = away })

  abbrev planned : Result (List Collection) Refusal
  planned = index_dropped (world old).collections name away

  abbrev told : ℕ
  told = index_count (world old).collections name

  pub unlisted_missing : Looks history (IsCatalogueOf name) (Ok None) old mid → RunsCommand history run (Err refusals.NamespaceNotFound) old mid
  unlisted_missing first =
      performs_refused history (drop_indexes_reply told) planned run old mid (run_drops (world old) name away) refusals.NamespaceNotFound
      (makes_none history planned old mid refusals.NamespaceNotFound first.reads
      (λ k. inl (ap (dropped_in away (world old).collections) (not_catalogued (world old).collections name (first.answers k)))))

  module _ (home : Catalogued) (first : Looks history (IsCatalogueOf name) (Ok (Some home)) old mid) where
    home_of : KeepsWord (disk_history history mid) → HasHome (world old).collections name home
    home_of k = has_home (world old).collections name home (first.answers k)

    pub unlisted_home : KeepsWord (disk_history history mid) → HasHome (world mid).collections name home
    unlisted_home k = subst (λ (ds : List Collection). HasHome ds name home) (sym (now_same history old mid first.reads)) (home_of k)

    -- they may not be dropped
    pub unlisted_refused : (e : Refusal) → left_by away home.indexes.items ≡ Err e → RunsCommand history run (Err e) old mid
    unlisted_refused e refused =
        performs_refused history (drop_indexes_reply told) planned run old mid (run_drops (world old) name away) e
        (makes_none history planned old mid e first.reads (λ k.
        let t = home_of k in
        inl (dropped_there (world old).collections name away t.collection t.found (Err e) (ap (left_by away) t.catalogued.indexed ∙ refused))))

    pub unlisted_without_memory : (e : Refusal) → e ≡ refusals.OutOfMemory → RunsCommand history run (Err e) old mid
    unlisted_without_memory e is = (performs_memory history old mid run e is first.reads).performs

    module _ (new : Engine D) where
      abbrev Behind : Result (Unit {0}) Refusal → Type 0
      Behind r = ChangesCollections history (index_dropped (world mid).collections name away) r mid new

      unlisted_behind : (r : Result (Unit {0}) Refusal) → Behind r → ChangesCollections history planned r old new
      unlisted_behind r m = makes_behind history (λ ds. index_dropped ds name away) old mid new first.reads r m

      pub unlisted_undone : (e : Refusal) → Behind (Err e) → RunsCommand history run (Err e) old new
      unlisted_undone e m =
          performs_refused history (drop_indexes_reply told) planned run old new (run_drops (world old) name away) e (unlisted_behind (Err e) m)

      pub unlisted_done : (n : ℕ) (d : Pairs) → d ≡ ok_reply (drop_indexes_reply n) → n ≡ 1 + length home.indexes.items → Behind (Ok tt)
          → RunsCommand history run (Ok d) old new
      unlisted_done n d said many m =
          let makes = unlisted_behind (Ok tt) m in
          record {
            sound = makes.sound;
            continues = continues_of history old new makes.continues;
            start = makes.start;
            as_planned = λ k.
                let t = home_of (word_before history mid.file new.file m.continues k) in
                let counted : n ≡ told = many ∙ ap (λ (is : List Definition). 1 + length is) (sym t.catalogued.indexed)
                ∙ ap (λ (o : Option Collection). 1 + length (indexes_or_none o)) (sym t.found) in
                (performs_done history (drop_indexes_reply told) planned run old new (run_drops (world old) name away) d
                (said ∙ ap (λ (x : ℕ). ok_reply (drop_indexes_reply x)) counted) makes).as_planned k;
            left = tt;
            refused = tt;
            keeps = makes.keeps;
          }

      -- where the collections stay, none was dropped
      pub unlisted_changes : left_by away home.indexes.items ≡ Ok (remaining away home.indexes.items) → Behind (Ok tt)
          → (length home.indexes.items ≤ length (remaining away home.indexes.items) → has_changes new ≡ has_changes mid)
          → KeepsWord (disk_history history new) → (world new).collections ≡ (world old).collections → has_changes new ≡ has_changes old
      unlisted_changes may m quiet k same =
          let ds = (world old).collections in
          let t = home_of (word_before history mid.file new.file m.continues k) in
          let c = t.collection in
          let is = t.catalogued.indexed in
          let next : Collection = record c { indexes = remaining away c.indexes } in
          let plan : planned ≡ Ok (put_collection next ds) =
          dropped_there ds name away c t.found (Ok (remaining away c.indexes))
          (ap (left_by away) is ∙ may ∙ ap (λ (js : List Definition). let r : Result (List Definition) Refusal = Ok (remaining away js) in r) (sym is)) in
          let stays : put_collection next ds ≡ ds = ap (planned_or ds) (sym plan ∙ (unlisted_behind (Ok tt) m).as_planned k) ∙ same in
          let named = found_name ds name c t.found in
          let found : find_collection ds c.name ≡ Some c = subst (λ (n : List ℕ). find_collection ds n ≡ Some c) named t.found in
          let both : Some next ≡ Some c = sym (finds_put next ds) ∙ ap (λ (es : List Collection). find_collection es c.name) stays ∙ found in
          let all : remaining away c.indexes ≡ c.indexes = ap (λ (x : Collection). x.indexes) (some_same both) in
          let long = ap length (sym is) ∙ ap length (sym all) ∙ ap (λ (js : List Definition). length (remaining away js)) is in
          quiet (omega (arith, long)) ∙ first.reads.changes
