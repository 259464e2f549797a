-- The steps of an insert, over engines as values.
use Rattle.std.proofs.Common.{◌≡◌, ◌≢◌, ◌⊎◌, ◌<◌, ◌≤◌, ◌+◌, inl, inr, ℕ, List, [], ◌∷◌, length, drop, get_or, Bor, Option, Some, None, Result, Ok, Err, refl}
use Rattle.std.proofs.Common.{sym, ap, subst, ◌∙◌}
use Rattle.std.specs.Prelude.{MatchResult}
use Rattle.std.specs.Option.{option_map}
use Rattle.std.proofs.lemmas.List.{drop_all}
use Rattle.bson.specs.Tree.{Pairs}
use Rattle.page.specs.History.{History, KeepsWord}
use Rattle.tree_model.specs.Keys.{Edit}
use Rattle.path.specs.declared.refusal.Refusal.{Refusal}
use Rattle.path.specs.declared.refusal.Refusal.TheVariants as refusals
use Rattle.command_model.specs.Insert.{documents_at}
use Rattle.collections.specs.Calls.{HasReadCause}
use Rattle.collections.specs.Lookups.{IsWithinLimits, catalogued_in, catalogued_of}
use Rattle.update_model.specs.Stored.{id_first}
use Rattle.entry_model.specs.Documents.{AddsCollection}
use Rattle.entry_model.specs.LawfulState as states
use Rattle.entry_model.specs.LawfulState.{IsStorable}
use Rattle.entry_model.specs.State.{Collection, find_collection, put_collection}
use Rattle.entry_model.specs.StateEntries.{Leads}
use Rattle.entries.specs.declared.catalogue_reading.Catalogued.{Catalogued}
use Rattle.database_model.specs.Documents.{checked, insert_all, insert_one, key_of}
use Rattle.engine.specs.Durable.{disk_history, file_of, IsRunning}
use Rattle.database_model.specs.Insert.{inserted}
use Rattle.engine.specs.Looking.{Looks, OnlyReads}
use Rattle.engine.specs.Numbering.{IsNewNumber, IsTooMany}
use Rattle.engine.specs.Storing.{AreNoted, HasNoted, IsAny, IsFull, MayEnter, Notes, entering}
use Rattle.engine.specs.Trying.{MayRefuse}
use Rattle.engine.specs.View.{world}
use Rattle.database_model.specs.World.{collection_of}
use Rattle.engine.specs.Writing.{ChangesCollections, planned_or, Writes}
use Rattle.engine.specs.declared.engine.Engine.{Engine}
use Rattle.engine.proofs.EnteringSteps.{memory_or}
use Rattle.engine.proofs.MakingLemmas.{lawful_now, leads_planned, makes_none, makes_written, planned_is}
use Rattle.engine.proofs.NewCollections.{IsNumberOf, new_for, not_new}
use Rattle.engine.proofs.OnlyReading.{cause_from, now_same, reads_on, word_before}
use Rattle.replies.proofs.Steps.{drop_step}
use Rattle.engine.proofs.StoringLemmas.{enters_checked, full_of, inserted_full, inserted_there, IsSoFar, noted_new, noted_there, refused_unchecked, so_far_all}
use Rattle.engine.proofs.StoringLemmas.{so_far_none, so_far_one, so_far_refused}

-- ---- the collection

-- the catalogue tells this of the collection of a name
abbrev pub IsCatalogued : List ℕ → List Collection → Option Catalogued → Type 0
IsCatalogued name now found = option_map catalogued_of found ≡ option_map catalogued_in (find_collection now name)

-- a collection that is found, and what is told of it
record IsHere (cs : List Collection) (name : List ℕ) (home : Catalogued) : Type 0 where
  collection : Collection
  found : find_collection cs name ≡ Some collection
  told : catalogued_of home ≡ catalogued_in collection

here_of : (cs : List Collection) (name : List ℕ) (home : Catalogued) → IsCatalogued name cs (Some home) → IsHere cs name home
here_of cs name home is = by (find_collection cs name) refl is
  where
    by : (o : Option Collection) → find_collection cs name ≡ o → Some (catalogued_of home) ≡ option_map catalogued_in o → IsHere cs name home
    by None e f = absurd cc
    by (Some c) e f = record { collection = c; found = e; told = cc }

none_numbered : (cs : List Collection) (name : List ℕ) → IsCatalogued name cs None → IsNumberOf name cs None
none_numbered cs name is = by (find_collection cs name) refl is
  where
    by : (o : Option Collection) → find_collection cs name ≡ o → None ≡ option_map catalogued_in o → IsNumberOf name cs None
    by None e f = ap (option_map (λ c. c.number)) (sym e)
    by (Some c) e f = absurd cc

module _ {D : Type 0} (history : D → History) (name : List ℕ) (old mid : Engine D) where
  abbrev Targets : List Edit → Result Catalogued Refusal → Engine D → Type 0
  Targets edits r new =
      MayRefuse history (λ home. AreNoted (world old).collections name home edits (collection_of (world old).collections name))
      (IsFull (world old).collections name) r old new

  pub target_there : (edits : List Edit) (home : Catalogued) → edits ≡ [] → Looks history (IsCatalogued name) (Ok (Some home)) old mid
      → Targets edits (Ok home) mid
  target_there edits home none first = record {
    reads = first.reads;
    answers = λ k.
        let cs = (world old).collections in
        let here = here_of cs name home (first.answers k) in
        subst (λ (es : List Edit). AreNoted cs name home es (collection_of cs name)) (sym none) (noted_there cs name here.collection here.found home here.told);
  }

  pub target_unread : (edits : List Edit) (e : Refusal) → Looks history (IsCatalogued name) (Err e) old mid → Targets edits (Err e) mid
  target_unread edits e first = record { reads = first.reads; answers = λ k. inr (first.answers k) }

  module _ (first : Looks history (IsCatalogued name) (Ok None) old mid) (last : Engine D) where
    as_numbered : Looks history (IsNumberOf name) (Ok None) old mid
    as_numbered = record { reads = first.reads; answers = λ k. none_numbered (world old).collections name (first.answers k) }

    abbrev NewNumber : Result ℕ Refusal → Type 0
    NewNumber r = MayRefuse history (IsNewNumber (world mid).collections) (IsTooMany (world mid).collections) r mid last

    pub target_refused : (edits : List Edit) (e : Refusal) → NewNumber (Err e) → Targets edits (Err e) last
    target_refused edits e second = record {
      reads = reads_on history old mid last first.reads second.reads;
      answers = λ k. elim (not_new history name old mid as_numbered last e second k) [
        | inl x ↦ inl (x.1.0, full_of (world old).collections name x.0 x.1.1)
        | inr cause ↦ inr cause
      ];
    }

    pub target_new : (home : Catalogued) → NewNumber (Ok home.number) → home.indexes.items ≡ [] → (edits : List Edit)
        → AddsCollection [] edits name home.number → Targets edits (Ok home) last
    target_new home second plain edits adds = record {
      reads = reads_on history old mid last first.reads second.reads;
      answers = λ k.
          let new = new_for history name old mid as_numbered last home.number second k in
          noted_new (world old).collections name new.missing new.few home new.number edits plain adds;
    }

  pub target_without_memory : (edits : List Edit) (e : Refusal) (new : Engine D) → OnlyReads history old new → e ≡ refusals.OutOfMemory
      → Targets edits (Err e) new
  target_without_memory edits e new reads is = record { reads = reads; answers = λ k. inr (inl is) }

-- ---- one document

module _ {D : Type 0} (history : D → History) (name : List ℕ) (home : Catalogued) (before : List Edit) (ps : Pairs) (old : Engine D) where
  abbrev NotesOne : Catalogued → List Edit → Result (Unit {0}) Refusal → Engine D → Type 0
  NotesOne home_after after r new = Notes history name IsAny (λ c. insert_one c ps) home home_after before after r old new

  pub note_unchecked : (e : Refusal) → OnlyReads history old old → (e ≢ refusals.OutOfMemory → checked ps ≡ Err e) → NotesOne home before (Err e) old
  note_unchecked e reads refused = record {
    reads = reads;
    answers = λ k c noted any. elim (memory_or e refused) [
      | inl memory ↦ inr (inl memory)
      | inr is ↦ inl (refused_unchecked c ps e is)
    ];
  }

  -- what is stored of it enters
  pub note_entered : (d : Pairs) → IsStorable d → checked ps ≡ Ok (key_of ps) → d ≡ id_first ps
      → (home_after : Catalogued) (after : List Edit) (r : Result (Unit {0}) Refusal) (new : Engine D)
      → Notes history name (MayEnter None d) (entering None d) home home_after before after r old new → NotesOne home_after after r new
  note_entered d good passed is home_after after r new notes = record {
    reads = notes.reads;
    answers = λ k c noted any. told r c (notes.answers k c noted (good, tt));
  }
    where
      told : (q : Result (Unit {0}) Refusal) (c : Collection)
          → MatchResult q (λ _. HasNoted (world old).collections name home_after after (entering None d c))
          (λ e. (entering None d c ≡ Err e) ⊎ HasReadCause history (file_of old) (file_of new) e)
          → MatchResult q (λ _. HasNoted (world old).collections name home_after after (insert_one c ps))
          (λ e. (insert_one c ps ≡ Err e) ⊎ HasReadCause history (file_of old) (file_of new) e)
      told (Ok u) c has = subst (HasNoted (world old).collections name home_after after) (enters_checked c ps d passed is) has
      told (Err e) c (inl refused) = inl (sym (enters_checked c ps d passed is) ∙ refused)
      told (Err e) c (inr cause) = inr cause

-- ---- document after document

pub left_step : (ds : List (Bor Pairs)) (i : ℕ) (d : Bor Pairs) → i < length ds → d ≡ get_or ds i d
    → documents_at (drop i ds) ≡ d.now ∷ documents_at (drop (i + 1) ds)
left_step ds i d within is = ap documents_at (drop_step ds i d within is)

pub left_none : (ds : List (Bor Pairs)) (i : ℕ) → length ds ≤ i → documents_at (drop i ds) ≡ []
left_none ds i whole = ap documents_at (drop_all i ds whole)

-- the documents that are left, and what the others made of the edits
pub record NotesSoFar {D : Type 0} (history : D → History) (name : List ℕ) (all left : List Pairs) (home_before home : Catalogued) (before after : List Edit)
    (old new : Engine D) : Type 0 where
  pub reads : OnlyReads history old new
  pub limits : IsWithinLimits home
  pub answers : KeepsWord (disk_history history new) → (first : Collection) → AreNoted (world old).collections name home_before before first
      → IsSoFar (world old).collections name home after all left first

module _ {D : Type 0} (history : D → History) (name : List ℕ) (all : List Pairs) (home_before : Catalogued) (before : List Edit) (old : Engine D) where
  abbrev NotesAll : Catalogued → List Edit → Result (Unit {0}) Refusal → Engine D → Type 0
  NotesAll home after r new = Notes history name IsAny (λ c. insert_all c all) home_before home before after r old new

  pub notes_none : OnlyReads history old old → IsWithinLimits home_before → NotesSoFar history name all all home_before home_before before before old old
  notes_none reads limits = record
      { reads = reads; limits = limits; answers = λ k first noted. so_far_none (world old).collections name all first home_before before noted }

  module _ (mid new : Engine D) (ps : Pairs) (left : List Pairs) (home home_after : Catalogued) (edits after : List Edit)
      (far : NotesSoFar history name all (ps ∷ left) home_before home before edits old mid) where
    abbrev Step : Result (Unit {0}) Refusal → Type 0
    Step r = Notes history name IsAny (λ c. insert_one c ps) home home_after edits after r mid new

    same_now : (world mid).collections ≡ (world old).collections
    same_now = now_same history old mid far.reads

    so_far : {first : Collection} → OnlyReads history mid new → KeepsWord (disk_history history new)
        → AreNoted (world old).collections name home_before before first
        → IsSoFar (world old).collections name home edits all (ps ∷ left) first
    so_far {first} later k noted = far.answers (word_before history mid.file new.file later.continues k) first noted

    noted_now : {first : Collection} (f : IsSoFar (world old).collections name home edits all (ps ∷ left) first)
        → AreNoted (world mid).collections name home edits f.reached
    noted_now f = subst (λ (cs : List Collection). AreNoted cs name home edits f.reached) (sym same_now) f.noted

    pub notes_on : Step (Ok tt) → IsWithinLimits home_after → NotesSoFar history name all left home_before home_after before after old new
    notes_on step limits = record {
      reads = reads_on history old mid new far.reads step.reads;
      limits = limits;
      answers = λ k first noted.
          let f = so_far step.reads k noted in
          let has = step.answers k f.reached (noted_now f) tt in
          so_far_one (world old).collections name all first home edits ps left f home_after after
          (subst (λ (cs : List Collection). HasNoted cs name home_after after (insert_one f.reached ps)) same_now has);
    }

    pub notes_refused : (e : Refusal) → Step (Err e) → NotesAll home_after after (Err e) new
    notes_refused e step = record {
      reads = reads_on history old mid new far.reads step.reads;
      answers = λ k first noted any.
          let f = so_far step.reads k noted in
          elim (step.answers k f.reached (noted_now f) tt) [
            | inl refused ↦ inl (so_far_refused (world old).collections name all first home edits ps left f e refused)
            | inr cause ↦ inr (cause_from history old.file mid.file new.file far.reads.continues
                (word_before history mid.file new.file step.reads.continues k) e cause)
          ];
    }

  pub notes_all : (new : Engine D) (home : Catalogued) (edits : List Edit) → NotesSoFar history name all [] home_before home before edits old new
      → NotesAll home edits (Ok tt) new
  notes_all new home edits far = record
      { reads = far.reads; answers = λ k first noted any. so_far_all (world old).collections name all first home edits (far.answers k first noted) }

-- ---- all of it

-- the edits lead to what is planned of these collections
record IsPlanned (edits : List Edit) (cs : List Collection) (planned : Result (List Collection) Refusal) : Type 0 where
  next : List Collection
  is : planned ≡ Ok next
  leads : states.IsLawfulState cs → Leads edits cs next × states.IsLawfulState next

module _ {D : Type 0} (history : D → History) (name : List ℕ) (all : List Pairs) (old mid : Engine D) (before : List Edit) where
  abbrev Plan : List Collection → Result (List Collection) Refusal
  Plan cs = inserted cs name all

  abbrev Stores : Result (Unit {0}) Refusal → Engine D → Type 0
  Stores r new = ChangesCollections history (Plan (world old).collections) r old new

  abbrev Target_of : Result Catalogued Refusal → Type 0
  Target_of r =
      MayRefuse history (λ home. AreNoted (world old).collections name home before (collection_of (world old).collections name))
      (IsFull (world old).collections name) r old mid

  pub stores_untargeted : (e : Refusal) → Target_of (Err e) → Stores (Err e) mid
  stores_untargeted e target = makes_none history (Plan (world old).collections) old mid e target.reads (λ k. elim (target.answers k) [
    | inl full ↦ inl (inserted_full (world old).collections name all e full)
    | inr cause ↦ inr cause
  ])

  module _ (home : Catalogued) (target : Target_of (Ok home)) (last : Engine D) (home_after : Catalogued) (edits : List Edit) where
    abbrev Noted : Result (Unit {0}) Refusal → Type 0
    Noted r = Notes history name IsAny (λ c. insert_all c all) home home_after before edits r mid last

    same_there : (world mid).collections ≡ (world old).collections
    same_there = now_same history old mid target.reads

    noted_first : OnlyReads history mid last → KeepsWord (disk_history history last)
        → AreNoted (world mid).collections name home before (collection_of (world mid).collections name)
    noted_first later k =
        subst (λ (cs : List Collection). AreNoted cs name home before (collection_of cs name)) (sym same_there)
        (target.answers (word_before history mid.file last.file later.continues k))

    pub stores_refused : (e : Refusal) → Noted (Err e) → Stores (Err e) last
    stores_refused e notes = makes_none history (Plan (world old).collections) old last e (reads_on history old mid last target.reads notes.reads) (λ k.
        let noted = noted_first notes.reads k in
        let cs = (world mid).collections in
        elim (notes.answers k (collection_of cs name) noted tt) [
          | inl refused ↦ inl (ap Plan (sym same_there) ∙ inserted_there cs name all (Err e) noted.room refused)
          | inr cause ↦ inr
              (cause_from history old.file mid.file last.file target.reads.continues (word_before history mid.file last.file notes.reads.continues k) e cause)
        ])

    module _ (notes : Noted (Ok tt)) where
      planned_there : KeepsWord (disk_history history last) → IsPlanned edits (world last).collections (Plan (world last).collections)
      planned_there k =
          let cs = (world mid).collections in
          let noted = noted_first notes.reads k in
          let has = notes.answers k (collection_of cs name) noted tt in
          let same : (world last).collections ≡ cs = now_same history mid last notes.reads in
          record {
            next = put_collection has.next cs;
            is = ap Plan same ∙ inserted_there cs name all (Ok has.next) noted.room has.is;
            leads = λ state.
                subst (λ (s : List Collection). Leads edits s (put_collection has.next cs) × states.IsLawfulState (put_collection has.next cs)) (sym same)
                (has.noted.leads (subst states.IsLawfulState same state));
          }

      pub stores_leads : KeepsWord (disk_history history last) → IsRunning last
          → Leads edits (world last).collections (planned_or (world last).collections (Plan (world last).collections))
          × states.IsLawfulState (planned_or (world last).collections (Plan (world last).collections))
      stores_leads k running =
          let p = planned_there k in
          leads_planned edits (world last).collections p.next (Plan (world last).collections) p.is
          (p.leads (lawful_now history last notes.reads.sound k running))

      pub stores_written : (r : Result (Unit {0}) Refusal) (new : Engine D)
          → Writes history (planned_or (world last).collections (Plan (world last).collections)) r last new → Stores r new
      stores_written r new writes =
          makes_written history Plan old last new (reads_on history old mid last target.reads notes.reads) r
          (λ k. let p = planned_there k in planned_is (world last).collections p.next (Plan (world last).collections) p.is) writes
