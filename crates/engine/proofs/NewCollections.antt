-- A collection of a name is looked up, and made in the file where it is missing.
use Rattle.std.proofs.Common.{◌≡◌, ◌⊎◌, ◌<◌, inl, inr, ℕ, true, false, List, [], length, Option, Some, None, Result, Ok, Err, refl, sym, ap, subst, ◌∙◌}
use Rattle.std.specs.Prelude.{is_some}
use Rattle.std.specs.Option.{option_map}
use Rattle.page.specs.History.{History, KeepsWord}
use Rattle.path.specs.declared.refusal.Refusal.{Refusal}
use Rattle.path.specs.declared.refusal.Refusal.TheVariants as refusals
use Rattle.tree_model.specs.Keys.{Edit}
use Rattle.collections.specs.Calls.{HasReadCause}
use Rattle.entry_model.specs.Documents.{AddsCollection}
use Rattle.entry_model.specs.LawfulState.{IsLawfulState}
use Rattle.entry_model.specs.State.{Collection, empty_collection, find_collection, put_collection, uses}
use Rattle.entry_model.specs.StateEntries.{Leads}
use Rattle.database_model.specs.Create.{created}
use Rattle.engine.specs.Durable.{disk_history, file_of, IsRunning}
use Rattle.engine.specs.Looking.{Looks, OnlyReads}
use Rattle.engine.specs.Numbering.{IsNewNumber, IsTooMany}
use Rattle.engine.specs.Trying.{MayRefuse}
use Rattle.engine.specs.View.{world}
use Rattle.database_model.specs.World.{indexes_or_none, number_or, unused, with_documents}
use Rattle.engine.specs.Writing.{ChangesCollections, planned_or, Writes}
use Rattle.engine.specs.declared.engine.Engine.{Engine}
use Rattle.engine.proofs.MakingLemmas.{lawful_now, leads_planned, makes_none, makes_written, planned_is}
use Rattle.database_model.proofs.Numbers.{unused_unused}
use Rattle.engine.proofs.OnlyReading.{cause_from, now_same, reads_on, word_before}
use Rattle.engine.proofs.PlannedLemmas.{created_full, created_new, created_there}

-- the number of the collection of a name is right
abbrev pub IsNumberOf : List ℕ → List Collection → Option ℕ → Type 0
IsNumberOf name now found = found ≡ option_map (λ c. c.number) (find_collection now name)

-- a collection that is found, and its number
pub record IsThere (cs : List Collection) (name : List ℕ) (n : ℕ) : Type 0 where
  pub collection : Collection
  pub found : find_collection cs name ≡ Some collection
  pub numbered : n ≡ collection.number

pub there_of : (cs : List Collection) (name : List ℕ) (n : ℕ) → IsNumberOf name cs (Some n) → IsThere cs name n
there_of cs name n is = by (find_collection cs name) refl is
  where
    by : (o : Option Collection) → find_collection cs name ≡ o → Some n ≡ option_map (λ c. c.number) o → IsThere cs name n
    by None e f = absurd cc
    by (Some c) e f = record { collection = c; found = e; numbered = cc }

pub none_of : (cs : List Collection) (name : List ℕ) → IsNumberOf name cs None → find_collection cs name ≡ None
none_of cs name is = by (find_collection cs name) refl is
  where
    by : (o : Option Collection) → find_collection cs name ≡ o → None ≡ option_map (λ c. c.number) o → find_collection cs name ≡ None
    by None e f = e
    by (Some c) e f = absurd cc

-- it is missing, and this is its new number
pub record IsNewFor (cs : List Collection) (name : List ℕ) (n : ℕ) : Type 0 where
  pub missing : find_collection cs name ≡ None
  pub few : length cs < 1000
  pub number : n ≡ unused cs

module _ {D : Type 0} (history : D → History) (name : List ℕ) (old mid : Engine D) where
  module _ (n : ℕ) (first : Looks history (IsNumberOf name) (Ok (Some n)) old mid) where
    pub found_there : KeepsWord (disk_history history mid) → IsThere (world old).collections name n
    found_there k = there_of (world old).collections name n (first.answers k)

    pub exists_there : ChangesCollections history (created (world old).collections name) (Err refusals.NamespaceExists) old mid
    exists_there =
        makes_none history (created (world old).collections name) old mid refusals.NamespaceExists first.reads
        (λ k. let t = found_there k in inl (created_there (world old).collections name t.collection t.found))

  pub exists_some : (found : Option ℕ) → is_some found ≡ true → Looks history (IsNumberOf name) (Ok found) old mid
      → ChangesCollections history (created (world old).collections name) (Err refusals.NamespaceExists) old mid
  exists_some None e first = absurd cc
  exists_some (Some n) e first = exists_there n first

  pub created_unread : (e : Refusal) → Looks history (IsNumberOf name) (Err e) old mid → ChangesCollections history (created (world old).collections name)
      (Err e) old mid
  created_unread e first = makes_none history (created (world old).collections name) old mid e first.reads (λ k. inr (first.answers k))

  module _ (first : Looks history (IsNumberOf name) (Ok None) old mid) (last : Engine D) where
    abbrev NewTries : Result ℕ Refusal → Type 0
    NewTries r = MayRefuse history (IsNewNumber (world mid).collections) (IsTooMany (world mid).collections) r mid last

    -- the collections of the last moment are those of the first
    all_same : OnlyReads history mid last → (world last).collections ≡ (world old).collections
    all_same later = now_same history mid last later ∙ now_same history old mid first.reads

    is_missing : OnlyReads history mid last → KeepsWord (disk_history history last) → find_collection (world old).collections name ≡ None
    is_missing later k = none_of (world old).collections name (first.answers (word_before history mid.file last.file later.continues k))

    pub new_for : (n : ℕ) → NewTries (Ok n) → KeepsWord (disk_history history last) → IsNewFor (world old).collections name n
    new_for n second k =
        let told = subst (λ (cs : List Collection). IsNewNumber cs n) (now_same history old mid first.reads) (second.answers k) in
        record { missing = is_missing second.reads k; few = told.0; number = told.1 }

    -- there are too many, or the file gave no number
    pub not_new : (e : Refusal) → NewTries (Err e) → KeepsWord (disk_history history last)
        → ((find_collection (world old).collections name ≡ None) × IsTooMany (world old).collections e) ⊎ HasReadCause history (file_of old) (file_of last) e
    not_new e second k = elim (second.answers k) [
      | inl many ↦ inl (is_missing second.reads k, subst (λ (cs : List Collection). IsTooMany cs e) (now_same history old mid first.reads) many)
      | inr cause ↦ inr (cause_from history old.file mid.file last.file first.reads.continues
          (word_before history mid.file last.file second.reads.continues k) e cause)
    ]

    pub created_refused : (e : Refusal) → NewTries (Err e) → ChangesCollections history (created (world old).collections name) (Err e) old last
    created_refused e second =
        makes_none history (created (world old).collections name) old last e (reads_on history old mid last first.reads second.reads)
        (λ k. elim (not_new e second k) [
          | inl x ↦ inl (created_full (world old).collections name x.0 e x.1)
          | inr cause ↦ inr cause
        ])

-- ---- the collection that is made

module _ (cs : List Collection) (name : List ℕ) (n : ℕ) (new : IsNewFor cs name n) where
  pub empty_made : empty_collection name n ≡ with_documents cs name []
  empty_made i = record
      { name = name; number = (new.number ∙ ap (number_or (unused cs)) (sym new.missing)) i; documents = []; indexes = indexes_or_none (sym new.missing i) }

  pub created_next : created cs name ≡ Ok (put_collection (empty_collection name n) cs)
  created_next = created_new cs name new.missing new.few ∙ ap (λ (c : Collection). Ok (put_collection c cs)) (sym empty_made)

  pub created_leads : (edits : List Edit) → AddsCollection [] edits name n → IsLawfulState cs
      → Leads edits cs (planned_or cs (created cs name)) × IsLawfulState (planned_or cs (created cs name))
  created_leads edits adds lawful =
      let fresh : uses cs n ≡ false = ap (uses cs) new.number ∙ unused_unused cs in
      leads_planned edits cs (put_collection (empty_collection name n) cs) (created cs name) created_next
      (adds cs cs (λ entries spells. spells) lawful new.missing fresh new.few)

module _ {D : Type 0} (history : D → History) (name : List ℕ) (old mid : Engine D) where
  -- none was found
  pub no_number : (found : Option ℕ) → is_some found ≡ false → Looks history (IsNumberOf name) (Ok found) old mid
      → Looks history (IsNumberOf name) (Ok None) old mid
  no_number None e first = first
  no_number (Some n) e first = absurd cc

  module _ (first : Looks history (IsNumberOf name) (Ok None) old mid) (last : Engine D) (n : ℕ)
      (second : MayRefuse history (IsNewNumber (world mid).collections) (IsTooMany (world mid).collections) (Ok n) mid last) where
    new_last : KeepsWord (disk_history history last) → IsNewFor (world last).collections name n
    new_last k =
        subst (λ (cs : List Collection). IsNewFor cs name n) (sym (now_same history mid last second.reads ∙ now_same history old mid first.reads))
        (new_for history name old mid first last n second k)

    pub made_leads : (edits : List Edit) → AddsCollection [] edits name n → KeepsWord (disk_history history last) → IsRunning last
        → Leads edits (world last).collections (planned_or (world last).collections (created (world last).collections name))
        × IsLawfulState (planned_or (world last).collections (created (world last).collections name))
    made_leads edits adds k running =
        created_leads (world last).collections name n (new_last k) edits adds (lawful_now history last second.reads.sound k running)

    pub made_written : (r : Result (Unit {0}) Refusal) (new : Engine D)
        → Writes history (planned_or (world last).collections (created (world last).collections name)) r last new
        → ChangesCollections history (created (world old).collections name) r old new
    made_written r new writes =
        makes_written history (λ cs. created cs name) old last new (reads_on history old mid last first.reads second.reads) r
        (λ k. planned_is (world last).collections (put_collection (empty_collection name n) (world last).collections) (created (world last).collections name)
        (created_next (world last).collections name n (new_last k))) writes
