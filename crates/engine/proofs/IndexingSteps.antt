-- An index is noted, over engines as values.
use Rattle.std.proofs.Common.{◌≡◌, inl, inr, ◌<◌, ◌≤◌, ◌≢◌, ℕ, true, false, List, [], ◌∷◌, ◌++◌, length, Some, Result, Ok, Err, refl, sym, ap, subst, ◌∙◌}
use Rattle.std.proofs.Common.{arith}
use Rattle.std.specs.Prelude.{All}
use Rattle.page.specs.History.{History, KeepsWord}
use Rattle.tree_model.specs.Keys.{Edit}
use Rattle.path.specs.declared.refusal.Refusal.{Refusal}
use Rattle.path.specs.declared.refusal.Refusal.TheVariants as refusals
use Rattle.command_model.specs.NewIndex.{NewIndex, defined}
use Rattle.index.specs.Definition.{Definition, IsDefinition}
use Rattle.entries.specs.IndexMaking.{Begins, MakesIndexOf}
use Rattle.entry_model.specs.WithIndex.{with_index}
use Rattle.entry_model.specs.LawfulState as states
use Rattle.entry_model.specs.State.{Collection, find_collection, put_collection}
use Rattle.entry_model.specs.StateEntries.{Leads}
use Rattle.entries.specs.declared.catalogue_reading.Catalogued.{Catalogued}
use Rattle.entries.specs.declared.making.NewEntries.{NewEntries}
use Rattle.entry_model.proofs.FoundLawLemmas.{finds_put, put_twice}
use Rattle.entry_model.proofs.LawfulParts.{kept_of}
use Rattle.entry_model.proofs.PlaceLemmas.{found_in}
use Rattle.database_model.specs.CreateIndexes.{is_in_conflict, is_there, unused_index, with_new_index, with_new_indexes}
use Rattle.engine.specs.Durable.{disk_history, is_stopped, IsRunning, IsSound}
use Rattle.engine.specs.Indexing.{HasDocumentsOf, Indexed, IsIndexed, IsUnbegun, IsUnindexable}
use Rattle.engine.specs.Looking.{OnlyReads}
use Rattle.engine.specs.Storing.{AreNoted, Notes}
use Rattle.engine.specs.Trying.{MayRefuseOf}
use Rattle.engine.specs.View.{world}
use Rattle.engine.specs.declared.engine.Engine.{Engine}
use Rattle.engine.proofs.MakingLemmas.{lawful_now}
use Rattle.index_list.proofs.NewIndexLemmas.{fresh_number, planned_conflict, planned_full, planned_made, planned_there, with_new_index_more}
use Rattle.engine.proofs.NotingEach.{Plan}
use Rattle.engine.proofs.OnlyReading.{reads_none, word_before}

-- one index after the other
abbrev pub each_index : List ℕ → Plan NewIndex
each_index name = record {
  one = with_new_index;
  all = with_new_indexes;
  none = λ c. refl;
  more = λ c x xs. refl;
  Is = λ cs c. HasDocumentsOf cs name c;
  stays = λ cs c next n so e. (with_new_index_more c next n e).documents ∙ so;
}

-- ---- one index

module _ {D : Type 0} (history : D → History) (old : Engine D) (h : IsSound history old) (name : List ℕ) (home : Catalogued) (before : List Edit)
    (n : NewIndex) where
  abbrev NotesIt : Catalogued → List Edit → Result (Unit {0}) Refusal → Engine D → Type 0
  NotesIt home_after after r new =
      Notes history name (HasDocumentsOf (world old).collections name) (λ c. with_new_index c n) home home_after before after r old new

  pub index_stopped : is_stopped old ≡ true → NotesIt home before (Err refusals.StorageFailed) old
  index_stopped stopped = record { reads = reads_none history old h; answers = λ k c noted so. inr (inr (refl, inl stopped)) }

  pub index_there : is_there home.indexes.items n ≡ true → NotesIt home before (Ok tt) old
  index_there there = record {
    reads = reads_none history old h;
    answers = λ k c noted so. record { next = c; is = planned_there c n (ap (λ (is : List Definition). is_there is n) noted.indexed ∙ there); noted = noted };
  }

  module _ (new : is_there home.indexes.items n ≡ false) where
    new_in : (c : Collection) → AreNoted (world old).collections name home before c → is_there c.indexes n ≡ false
    new_in c noted = ap (λ (is : List Definition). is_there is n) noted.indexed ∙ new

    pub index_conflict : is_in_conflict home.indexes.items n ≡ true → NotesIt home before (Err refusals.IndexOptionsConflict) old
    index_conflict conflict = record {
      reads = reads_none history old h;
      answers = λ k c noted so. inl (planned_conflict c n (new_in c noted) (ap (λ (is : List Definition). is_in_conflict is n) noted.indexed ∙ conflict));
    }

    module _ (clear : is_in_conflict home.indexes.items n ≡ false) where
      clear_in : (c : Collection) → AreNoted (world old).collections name home before c → is_in_conflict c.indexes n ≡ false
      clear_in c noted = ap (λ (is : List Definition). is_in_conflict is n) noted.indexed ∙ clear

      pub index_full : 16 ≤ length home.indexes.items → NotesIt home before (Err refusals.TooMany) old
      index_full many = record {
        reads = reads_none history old h;
        answers = λ k c noted so. inl (planned_full c n (new_in c noted) (clear_in c noted) (omega (arith, many, ap length noted.indexed)));
      }

      pub index_without_memory : (e : Refusal) → e ≡ refusals.OutOfMemory → NotesIt home before (Err e) old
      index_without_memory e is = record { reads = reads_none history old h; answers = λ k c noted so. inr (inl is) }

      module _ (few : length home.indexes.items < 16) (spec : Definition) (is : spec ≡ defined (unused_index home.indexes.items) n) (begun : NewEntries)
          (begins : Begins home.number spec begun) (lawful_spec : IsDefinition spec)
          (running : IsRunning old) where
        abbrev cs : List Collection
        cs = (world old).collections

        planned_so : (c : Collection) → AreNoted cs name home before c → with_new_index c n ≡ with_index c spec
        planned_so c noted =
            planned_made c n (new_in c noted) (clear_in c noted) (omega (arith, few, ap length noted.indexed))
            ∙ ap (λ (js : List Definition). with_index c (defined (unused_index js) n)) noted.indexed ∙ ap (with_index c) (sym is)

        abbrev asked : Collection → Indexed
        asked c = record { collection = c; index = spec; done = []; rest = [] }

        kept_so : states.IsLawfulState cs → (c : Collection) → AreNoted cs name home before c → states.IsKept c
        kept_so lawful c noted = kept_of (put_collection c cs) c (noted.leads lawful).1 (found_in (put_collection c cs) c.name c (finds_put c cs))

        unbegun : states.IsLawfulState cs → (c : Collection) → AreNoted cs name home before c → HasDocumentsOf cs name c → IsUnbegun name begun cs (asked c)
        unbegun lawful c noted so = record { documents = so; kept = kept_so lawful c noted; has = begins c noted.numbered lawful_spec }

        module _ (made : NewEntries) (last : Engine D) where
          abbrev Takes : Result (Unit {0}) Refusal → Type 0
          Takes r = MayRefuseOf history (IsUnbegun name begun) (IsIndexed made) IsUnindexable r old last

          lawful_then : OnlyReads history old last → KeepsWord (disk_history history last) → states.IsLawfulState cs
          lawful_then reads k = lawful_now history old h (word_before history old.file last.file reads.continues k) running

          pub index_refused : (e : Refusal) → Takes (Err e) → NotesIt home before (Err e) last
          index_refused e takes = record {
            reads = takes.reads;
            answers = λ k c noted so. elim (takes.answers k (asked c) (unbegun (lawful_then takes.reads k) c noted so)) [
              | inl refused ↦ inl (planned_so c noted ∙ refused)
              | inr cause ↦ inr cause
            ];
          }

          module _ (takes : Takes (Ok tt)) (home_after : Catalogued) (after : List Edit) where
            pub index_unmade : (e : Refusal) → e ≡ refusals.OutOfMemory → NotesIt home_after after (Err e) last
            index_unmade e memory = record { reads = takes.reads; answers = λ k c noted so. inr (inl memory) }

            pub index_made : home_after.number ≡ home.number → home_after.indexes.items ≡ home.indexes.items ++ made.index ∷ []
                → MakesIndexOf before after name home.number home.indexes.items made
                → NotesIt home_after after (Ok tt) last
            index_made number_is indexes_are makes = record {
              reads = takes.reads;
              answers = λ k c noted so.
                  let lawful = lawful_then takes.reads k in
                  let has = takes.answers k (asked c) (unbegun lawful c noted so) in
                  let led = noted.leads lawful in
                  let found = subst (λ (m : List ℕ). find_collection (put_collection c cs) m ≡ Some c) noted.named (finds_put c cs) in
                  let fresh = subst (λ (m : ℕ). All (λ j. j.number ≢ m) home.indexes.items) (sym (ap (λ (d : Definition). d.number) is))
                  (fresh_number home.indexes.items) in
                  let next : Collection = record c { indexes = c.indexes ++ made.index ∷ [] } in
                  let made_so = makes cs (put_collection c cs) c spec led.0 led.1 found noted.numbered noted.indexed fresh has in
                  record {
                    next = next;
                    is = planned_so c noted ∙ made_so.0;
                    noted = record {
                      named = noted.named;
                      numbered = noted.numbered ∙ sym number_is;
                      indexed = ap (λ (js : List Definition). js ++ made.index ∷ []) noted.indexed ∙ sym indexes_are;
                      room = noted.room;
                      leads = λ state. subst (λ (s : List Collection). Leads after cs s × states.IsLawfulState s) (put_twice next c cs refl)
                          (made_so.1, made_so.2);
                    };
                  };
            }
