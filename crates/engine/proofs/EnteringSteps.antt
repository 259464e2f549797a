-- The steps by which a document enters its collection, over engines as values.
use Rattle.std.proofs.Common.{◌≡◌, ◌≢◌, ◌⊎◌, inl, inr, ℕ, Bool, true, false, ◌||◌, List, map, Option, Some, None, Result, Ok, Err, refl, sym, ap, subst, ◌∙◌}
use Rattle.std.specs.Prelude.{MatchResult, is_some, not, option_map}
use Rattle.std.specs.List.{list_any}
use Rattle.bson.specs.Tree.{Pairs}
use Rattle.page.specs.History.{History, KeepsWord}
use Rattle.value_order.specs.KeyText.{tree_text}
use Rattle.tree_model.specs.Keys.{Edit, change, value_at}
use Rattle.path.specs.declared.refusal.Refusal.{Refusal}
use Rattle.path.specs.declared.refusal.Refusal.TheVariants as refusals
use Rattle.collections.specs.Calls.{HasReadCause, Reads}
use Rattle.collections.specs.OtherKeys.{TellsDocument, TellsOf, is_taken}
use Rattle.collections.specs.State.{State}
use Rattle.index.specs.Definition.{Definition}
use Rattle.entry_model.specs.Entering.{Enters, clashes, is_duplicate}
use Rattle.entries.specs.KeyedDocuments.{AreKeyed}
use Rattle.index.specs.IndexKeys.{noted}
use Rattle.index.specs.KeyTexts.{encoded_keys, keys_in_all}
use Rattle.entry_model.specs.LawfulState.{IsStorable}
use Rattle.entry_model.specs.State.{Collection}
use Rattle.entry_model.specs.StateEntries.{key_under}
use Rattle.entry_model.specs.StateReads.{find_document}
use Rattle.index.specs.View.{texts_of}
use Rattle.entries.specs.declared.catalogue_reading.Catalogued.{Catalogued}
use Rattle.entries.specs.declared.entering.Keyed.{Keyed}
use Rattle.database_model.specs.Documents.{key_of}
use Rattle.engine.specs.Durable.{disk_history, file_of, IsSound}
use Rattle.engine.specs.Looking.{LooksOf, OnlyReads}
use Rattle.engine.specs.Storing.{AreNoted, Beside, IsBeside, IsReplaced, MayEnter, Notes, TellsDuplicate, TellsTaken, entering, write_of}
use Rattle.engine.specs.View.{world}
use Rattle.engine.specs.declared.engine.Engine.{Engine}
use Rattle.engine.proofs.EnteringLemmas.{entering_done, entering_duplicate, entering_unkeyed, has_entered_noted, id_told, keys_told, stored_keyed}
use Rattle.engine.proofs.OnlyReading.{cause_from, reads_file, reads_none, reads_on, word_before}

-- ---- duplicates

module _ {D : Type 0} (history : D → History) (old : Engine D) (h : IsSound history old) (home : Catalogued) (edits : List Edit) (text : List ℕ)
    (keyed : Keyed) where
  abbrev cs : List Collection
  cs = (world old).collections

  abbrev d : Pairs
  d = keyed.document.now

  abbrev Asks : (List Collection → Beside → Bool → Type 0) → Result Bool Refusal → Engine D → Type 0
  Asks IsRight r new = LooksOf history (IsBeside home edits text keyed) IsRight r old new

  module _ (file : State D) where
    -- one of its keys is taken
    pub taken_read : (r : Result Bool Refusal)
        → Reads history (TellsOf (is_taken home.number text home.indexes.items (map (λ ks. texts_of ks.items) keyed.keys.items)) edits) r old.file file
        → Asks (TellsTaken keyed) r (record old { file = file })
    taken_read r read = record {
      reads = reads_file history old file h read.extends read.unchanged read.same;
      answers = λ k x is. told r x is (read.answers k old.told.value.start cs h.file);
    }
      where
        told : (q : Result Bool Refusal) (x : Beside) → IsBeside home edits text keyed cs x
            → MatchResult q (TellsOf (is_taken home.number text home.indexes.items (map (λ ks. texts_of ks.items) keyed.keys.items)) edits cs)
            (HasReadCause history old.file file)
            → MatchResult q (TellsTaken keyed cs x) (HasReadCause history old.file file)
        told (Ok b) x is p = record {
          told = p.right
              ∙ ap (λ (t : List ℕ). is_taken home.number t home.indexes.items (map (λ ks. texts_of ks.items) keyed.keys.items) (change edits p.entries))
              is.spelled
              ∙ keys_told cs x.name home edits x.collection is.noted p.state p.entries p.spells d keyed.keys.items is.storable is.keys;
          lawful = p.state;
        }
        told (Err e) x is cause = cause

    -- its `_id` is there
    id_read : (b : Bool) → TellsDocument edits home.number text cs b → (x : Beside) → IsBeside home edits text keyed cs x
        → b ≡ is_some (find_document x.collection.documents (key_of d))
    id_read b p x is =
        p.right
        ∙ ap (λ (t : List ℕ). is_some (value_at (key_under home.number 0 t) (change edits p.entries))) is.spelled
        ∙ id_told cs x.name home edits x.collection is.noted p.state p.entries p.spells d is.storable

    pub duplicate_unread : (e : Refusal) → Reads history (TellsDocument edits home.number text) (Err e) old.file file
        → Asks (TellsDuplicate true keyed) (Err e) (record old { file = file })
    duplicate_unread e read = record {
      reads = reads_file history old file h read.extends read.unchanged read.same;
      answers = λ k x is. read.answers k old.told.value.start cs h.file;
    }

    pub duplicate_there : Reads history (TellsDocument edits home.number text) (Ok true) old.file file
        → Asks (TellsDuplicate true keyed) (Ok true) (record old { file = file })
    duplicate_there read = record {
      reads = reads_file history old file h read.extends read.unchanged read.same;
      answers = λ k x is.
          let p = read.answers k old.told.value.start cs h.file in
          record { told = ap (λ (b : Bool). b || list_any (clashes x.collection.documents d) x.collection.indexes) (id_read true p x is); lawful = p.state };
    }

    module _ (read : Reads history (TellsDocument edits home.number text) (Ok false) old.file file) (new : Engine D) where
      abbrev mid : Engine D
      mid = record old { file = file }

      pub duplicate_by_keys : (r : Result Bool Refusal) → LooksOf history (IsBeside home edits text keyed) (TellsTaken keyed) r mid new
          → Asks (TellsDuplicate true keyed) r new
      duplicate_by_keys r looks = record {
        reads = reads_on history old mid new (reads_file history old file h read.extends read.unchanged read.same) looks.reads;
        answers = λ k x is. told r x is (word_before history file new.file looks.reads.continues k) (looks.answers k x is);
      }
        where
          told : (q : Result Bool Refusal) (x : Beside) → IsBeside home edits text keyed cs x → KeepsWord (disk_history history mid)
              → MatchResult q (TellsTaken keyed cs x) (HasReadCause history file new.file)
              → MatchResult q (TellsDuplicate true keyed cs x) (HasReadCause history old.file new.file)
          told (Ok b) x is k right =
              let missing = id_read false (read.answers k old.told.value.start cs h.file) x is in
              record {
                told = right.told ∙ ap (λ (t : Bool). t || list_any (clashes x.collection.documents d) x.collection.indexes) missing;
                lawful = right.lawful;
              }
          told (Err e) x is k cause = cause_from history old.file file new.file read.extends k e cause

  pub duplicate_of_keys : (r : Result Bool Refusal) (new : Engine D) → Asks (TellsTaken keyed) r new → Asks (TellsDuplicate false keyed) r new
  duplicate_of_keys r new looks = record { reads = looks.reads; answers = λ k x is. told r x (looks.answers k x is) }
    where
      told : (q : Result Bool Refusal) (x : Beside) → MatchResult q (TellsTaken keyed cs x) (HasReadCause history (file_of old) (file_of new))
          → MatchResult q (TellsDuplicate false keyed cs x) (HasReadCause history (file_of old) (file_of new))
      told (Ok b) x right = record { told = right.told; lawful = right.lawful }
      told (Err e) x cause = cause

-- ---- a document

-- either memory ran out, or it is so
pub memory_or : {P : Type 0} (e : Refusal) → (e ≢ refusals.OutOfMemory → P) → (e ≡ refusals.OutOfMemory) ⊎ P
memory_or refusals.OutOfMemory h = inl refl
memory_or e h = inr (h (λ f. absurd cc))

-- a document that is in place of none is new
pub is_new_where_none : {X Y : Type 0} (f : X → Y) (o : Option X) (b : Bool) → is_some o ≡ not b → b ≡ not (is_some (option_map f o))
is_new_where_none f None true e = refl
is_new_where_none f None false e = absurd cc
is_new_where_none f (Some x) true e = absurd cc
is_new_where_none f (Some x) false e = refl

module _ {D : Type 0} (history : D → History) (old : Engine D) (name : List ℕ) (home : Catalogued) (before : List Edit) (was : Option Pairs) (d : Pairs) where
  abbrev NotesIt : Catalogued → List Edit → Result (Unit {0}) Refusal → Engine D → Type 0
  NotesIt home_after after r new = Notes history name (MayEnter was d) (entering was d) home home_after before after r old new

  -- the document's `_id` has no short text, which no document has that may be stored
  pub enter_untexted : (e : Refusal) → OnlyReads history old old → (IsStorable d → e ≡ refusals.OutOfMemory) → NotesIt home before (Err e) old
  enter_untexted e reads is = record { reads = reads; answers = λ k c noted may. inr (inl (is may.0)) }

  pub enter_unkeyed : IsSound history old → (e : Refusal) → (e ≢ refusals.OutOfMemory → keys_in_all home.indexes.items d ≡ Err e)
      → NotesIt home before (Err e) old
  enter_unkeyed h e refused = record {
    reads = reads_none history old h;
    answers = λ k c noted replaced. elim (memory_or e refused) [
      | inl memory ↦ inr (inl memory)
      | inr is ↦ inl (entering_unkeyed was d c e (ap (λ (is : List Definition). keys_in_all is d) noted.indexed ∙ is))
    ];
  }

  module _ (good : IsStorable d) (text : List ℕ) (spelled : text ≡ tree_text (key_of d)) (keyed : Keyed) (this : keyed.document.now ≡ d)
      (keys : AreKeyed home.indexes.items keyed) (is_new : Bool) (new_is : is_new ≡ not (is_some was)) where
    beside : (c : Collection) → AreNoted (world old).collections name home before c
        → IsBeside home before text keyed (world old).collections (record { name = name; collection = c })
    beside c noted = record {
      noted = noted;
      storable = subst IsStorable (sym this) good;
      spelled = spelled ∙ ap (λ (x : Pairs). tree_text (key_of x)) (sym this);
      keys = keys;
    }

    module _ (r : Result Bool Refusal) (new : Engine D)
        (looks : LooksOf history (IsBeside home before text keyed) (TellsDuplicate is_new keyed) r old new) where
      abbrev Answered : Result Bool Refusal → Collection → Type 0
      Answered q c =
          MatchResult q (TellsDuplicate is_new keyed (world old).collections (record { name = name; collection = c }))
          (HasReadCause history (file_of old) (file_of new))

      answer : (q : Result Bool Refusal) → r ≡ q → KeepsWord (disk_history history new) → (c : Collection)
          → AreNoted (world old).collections name home before c → Answered q c
      answer q is k c noted = subst (λ (s : Result Bool Refusal). Answered s c) is (looks.answers k (record { name = name; collection = c }) (beside c noted))

      keyed_there : (c : Collection) → AreNoted (world old).collections name home before c
          → keys_in_all c.indexes d ≡ Ok (map (λ ks. texts_of ks.items) keyed.keys.items)
      keyed_there c noted = (λ i. keys_in_all (noted.indexed i) (sym this i)) ∙ keys

      told_of : (c : Collection) (b : Bool) → b ≡ is_duplicate c (record { is_new = is_new; document = keyed.document.now })
          → is_duplicate c (write_of was d) ≡ b
      told_of c b told = sym (told ∙ (λ i. is_duplicate c (record { is_new = new_is i; document = this i })))

      pub enter_undecided : (e : Refusal) → r ≡ Err e → NotesIt home before (Err e) new
      enter_undecided e is = record { reads = looks.reads; answers = λ k c noted replaced. inr (answer (Err e) is k c noted) }

      pub enter_refused : r ≡ Ok true → NotesIt home before (Err refusals.DuplicateKey) new
      enter_refused is = record {
        reads = looks.reads;
        answers = λ k c noted replaced. inl
            (entering_duplicate was d c (map (λ ks. texts_of ks.items) keyed.keys.items) (keyed_there c noted)
            (told_of c true (answer (Ok true) is k c noted).told));
      }

      module _ (is : r ≡ Ok false) where
        pub enter_done : (home_after : Catalogued) (after : List Edit) → home_after.number ≡ home.number
            → home_after.indexes.items ≡ map (noted d) home.indexes.items
            → Enters before after name home.number home.indexes.items was d → NotesIt home_after after (Ok tt) new
        enter_done home_after after numbered indexed enters = record {
          reads = looks.reads;
          answers = λ k c noted_so replaced.
              let clear = told_of c false (answer (Ok false) is k c noted_so).told in
              has_entered_noted (world old).collections name home home_after before after c was d noted_so replaced.1
              (entering_done was d c (map (λ ks. texts_of ks.items) keyed.keys.items) (keyed_there c noted_so) clear) numbered indexed enters;
        }

        -- the old one's keys were found before
        pub enter_old_unkeyed : (old_one : Pairs) (e : Refusal) → was ≡ Some old_one
            → (e ≢ refusals.OutOfMemory → keys_in_all home.indexes.items old_one ≡ Err e) → NotesIt home before (Err e) new
        enter_old_unkeyed old_one e replaced_is refused = record {
          reads = looks.reads;
          answers = λ k c noted_so replaced. elim (memory_or e refused) [
            | inl memory ↦ inr (inl memory)
            | inr is_refused ↦
                (let there : find_document c.documents (key_of d) ≡ Some old_one = subst (λ (o : Option Pairs). IsReplaced o d c) replaced_is replaced.1 in
                let state = (answer (Ok false) is k c noted_so).lawful in
                let both : Ok (map (λ i. encoded_keys i.fields old_one) c.indexes) ≡ Err e =
                sym (stored_keyed (world old).collections name home before c noted_so state (key_of d) old_one there)
                ∙ ap (λ (js : List Definition). keys_in_all js old_one) noted_so.indexed ∙ is_refused in
                absurd cc)
          ];
        }
