-- What a check of a file counts, by what was read of it.
use Rattle.std.proofs.Common.{◌≡◌, inl, ℕ, ◌+◌, true, false, List, [], ◌∷◌, length, map, Result, Ok, Err, refl, sym, ap, subst, ◌∙◌, arith}
use Rattle.std.specs.Prelude.{All}
use Rattle.std.proofs.lemmas.List.{length-map}
use Rattle.page.specs.History.{History, KeepsWord, now, reads}
use Rattle.roots.specs.declared.counting.PageCounts.{PageCounts}
use Rattle.roots.specs.declared.opening.OpenFault.{OpenFault}
use Rattle.roots.specs.declared.opening.OpenFault.TheVariants as opening
use Rattle.entry_model.specs.State.{Collection}
use Rattle.entries.proofs.OneStateLaws.{spells_one}
use Rattle.collections.specs.Counting.{CountsPages, HasCountCause, HasCounts}
use Rattle.collections.specs.Entries.{HasEntries}
use Rattle.collections.specs.Standing.{IsTurnOf}
use Rattle.collections.specs.State.{State}
use Rattle.collections.specs.View.{is_stopped}
use Rattle.collections.proofs.EntryLemmas.{tree_rises}
use Rattle.collections.proofs.StandingLemmas.{stopped_same}
use Rattle.engine.specs.CheckFaults.{reading_fault}
use Rattle.engine.specs.Checking.{ChecksFile}
use Rattle.opening.specs.Totals.{total_indexes}
use Rattle.opening.specs.Totals.{total_documents}
use Rattle.engine.specs.Dump.{HasFaultCause}
use Rattle.engine.specs.Durable.{disk_history, file_of, generation, IsSound}
use Rattle.opening.specs.FileOpening.{HasFault, LoadsFile}
use Rattle.opening.specs.Judging.{MakesNone, bare, listed_of}
use Rattle.database_model.specs.Lawful.{IsStored}
use Rattle.opening.specs.Loading.{named_as, progress_of}
use Rattle.engine.specs.Looking.{LeavesAll}
use Rattle.engine.specs.View.{turn_start, world}
use Rattle.engine.specs.declared.check_fault.CheckFault.TheVariants as faults
use Rattle.engine.specs.declared.checking.Counts.{Counts}
use Rattle.engine.specs.declared.engine.Engine.{Engine}
use Rattle.opening.specs.declared.loading.Loading.{Loading}
use Rattle.opening.proofs.FileEntries.{made_spell}
use Rattle.engine.proofs.OnlyReading.{failed_from, leaves_all, leaves_file, leaves_on, reads_none, word_before}
use Rattle.opening.proofs.RefusingLemmas.{none_unmade}

-- ---- what the catalogue tells

-- indexes are counted without the documents
bare_indexes : (cs : List Collection) → total_indexes (listed_of cs) ≡ total_indexes cs
bare_indexes [] = refl
bare_indexes (c ∷ cs) = ap (λ (n : ℕ). 1 + length c.indexes + n) (bare_indexes cs)

-- ---- the file

module _ {D : Type 0} (history : D → History) (old : Engine D) (sound : IsSound history old) where
  -- it had stopped
  pub check_stopped : is_stopped (file_of old) ≡ true → ChecksFile history (Err faults.Device) old old
  check_stopped stopped = record { only = leaves_all history old old (reads_none history old sound); answers = λ k. inl stopped }

  module _ (running : is_stopped (file_of old) ≡ false) (mid : State D) where
    -- its pages weren't counted
    count_cause : (fault : OpenFault) → HasCountCause history old.file mid fault → HasFaultCause history ⊥ old (record old { file = mid }) (reading_fault fault)
    count_cause opening.Device cause = cause
    count_cause opening.Memory cause = tt
    count_cause opening.Damaged cause = absurd cause
    count_cause opening.NotADatabase cause = absurd cause
    count_cause opening.NewerFormat cause = absurd cause

    pub check_uncounted : (fault : OpenFault) → CountsPages history (Err fault) old.file mid
        → ChecksFile history (Err (reading_fault fault)) old (record old { file = mid })
    check_uncounted fault counted = record {
      only = leaves_file history old mid sound counted.extends counted.unchanged counted.same;
      answers = λ k. count_cause fault (counted.answers k (turn_start old) (world old).collections sound.file);
    }

    module _ (pages : PageCounts) (counted : CountsPages history (Ok pages) old.file mid) (new : State D) where
      abbrev between : Engine D
      between = record old { file = mid }

      abbrev after : Engine D
      after = record old { file = new }

      first : LeavesAll history old between
      first = leaves_file history old mid sound counted.extends counted.unchanged counted.same

      -- what the tree has while the entries are read
      turn_there : KeepsWord (disk_history history between) → IsTurnOf history mid (turn_start old) (world old).collections
      turn_there k =
          counted.same (turn_start old) (world old).collections sound.file (stopped_same history old.file.pager mid.pager counted.extends.stays ∙ running) k

      has_these : (k : KeepsWord (disk_history history between)) → HasEntries history mid (turn_there k).after
      has_these k = record { pages = (turn_there k).pages; map = (turn_there k).turn.holds }

      stored : All (λ (c : Collection). All IsStored c.documents) (world old).collections
      stored = λ i c below. (sound.lawful.kept i c below).lawful.stored

      only_reads : (r : Result Loading OpenFault) (last : List Collection) → LoadsFile history r last mid new → LeavesAll history old after
      only_reads r last loads =
          leaves_on history old between after first (leaves_file history between new first.sound loads.judges.read.extends loads.judges.read.unchanged
          loads.judges.read.same)

      word_mid : (r : Result Loading OpenFault) (last : List Collection) → LoadsFile history r last mid new → KeepsWord (disk_history history after)
          → KeepsWord (disk_history history between)
      word_mid r last loads k = word_before history mid new loads.judges.read.extends k

      -- ---- its entries weren't read

      load_cause : (fault : OpenFault) (last : List Collection) (loads : LoadsFile history (Err fault) last mid new)
          (k : KeepsWord (disk_history history between)) → HasFault history (MakesNone (turn_there k).after) mid new fault
          → HasFaultCause history ⊥ old after (reading_fault fault)
      load_cause opening.Device last loads k cause = failed_from history old.file mid new counted.extends k (cause.device refl)
      load_cause opening.Memory last loads k cause = tt
      load_cause opening.Damaged last loads k cause =
          none_unmade (turn_there k).after (world old).collections (turn_there k).spells_now (turn_there k).now_state stored (cause.damaged (λ e. cc) (λ e. cc))
      load_cause opening.NotADatabase last loads k cause = loads.judges.kinds.0 refl
      load_cause opening.NewerFormat last loads k cause = loads.judges.kinds.1 refl

      pub check_unread : (fault : OpenFault) (last : List Collection) → LoadsFile history (Err fault) last mid new
          → ChecksFile history (Err (reading_fault fault)) old after
      check_unread fault last loads = record {
        only = only_reads (Err fault) last loads;
        answers = λ k. let m = word_mid (Err fault) last loads k in load_cause fault last loads m (loads.judges.answers k (turn_there m).after (has_these m));
      }

      -- ---- they were

      module _ (l : Loading) (last : List Collection) (loads : LoadsFile history (Ok l) last mid new) where
        pub check_without_memory : ChecksFile history (Err faults.Memory) old after
        check_without_memory = record { only = only_reads (Ok l) last loads; answers = λ k. tt }

        module _ (counts : Counts) (last_is : counts.generation ≡ generation old) (collections : counts.collections ≡ length l.names.items)
            (documents : counts.documents ≡ l.documents)
            (indexes : counts.indexes ≡ total_indexes (map named_as l.names.items))
            (pages_are : record { pages = counts.pages; free = counts.free } ≡ pages) where
          named : (now : List Collection) → last ≡ now → map named_as l.names.items ≡ listed_of now
          named now same = loads.loaded.named ∙ ap listed_of same

          many : (now : List Collection) → last ≡ now → counts.collections ≡ length now
          many now same =
              omega (arith, collections, length-map l.names.items named_as, ap (λ (cs : List Collection). length cs) (named now same), length-map now bare)

          pub check_done : ChecksFile history (Ok counts) old after
          check_done = record {
            only = only_reads (Ok l) last loads;
            answers = λ k.
                let m = word_mid (Ok l) last loads k in
                let t = turn_there m in
                let made = made_spell t.after (progress_of l last) (tree_rises history mid t.after (has_these m))
                (loads.judges.answers k t.after (has_these m)) in
                let same : last ≡ (world old).collections =
                spells_one t.after last (world old).collections loads.loaded.loaded.lawful t.now_state made.spells t.spells_now in
                record {
                  last_is = last_is;
                  held = record {
                    collections = many (world old).collections same;
                    documents = documents ∙ sym made.documents ∙ ap total_documents same;
                    indexes = indexes ∙ ap total_indexes (named (world old).collections same) ∙ bare_indexes (world old).collections;
                  };
                  pages = subst (HasCounts (reads (now (disk_history history old))) (turn_start old)) (sym pages_are)
                      (counted.answers m (turn_start old) (world old).collections sound.file);
                };
          }
