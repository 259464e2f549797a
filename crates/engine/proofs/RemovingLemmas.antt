-- A delete over the file: what it takes out of the collections of an engine.
use Rattle.std.proofs.Common.{◌≡◌, ◌≢◌, inr, ℕ, ◌-◌, Bool, true, false, List, [], ◌∷◌, ◌++◌, length, Option, Some, None, Result, Ok, Err, refl, sym, ap, subst}
use Rattle.std.proofs.Common.{◌∙◌, arith}
use Rattle.std.specs.Prelude.{All, not, if◌then◌else◌, codes}
use Rattle.std.specs.List.{filter}
use Rattle.bson.specs.Tree.{Pairs, pair, no_pairs}
use Rattle.filter.specs.Matches.{matches}
use Rattle.page.specs.History.{History, KeepsWord}
use Rattle.tree_model.specs.Keys.{Edit}
use Rattle.path.specs.declared.refusal.Refusal.{Refusal}
use Rattle.path.specs.declared.refusal.Refusal.TheVariants as refusals
use Rattle.command_model.specs.Delete.{Deletion}
use Rattle.collections.specs.Calls.{HasReadCause}
use Rattle.collections.proofs.LawLemmas as laws
use Rattle.index.specs.Definition.{Definition}
use Rattle.entry_model.specs.LawfulState.{AreNamedApart, IsKept, IsLawfulState}
use Rattle.entry_model.specs.State.{Collection, find_collection, put_collection}
use Rattle.entry_model.specs.StateEntries.{Leads}
use Rattle.entry_model.proofs.LawfulParts.{kept_of}
use Rattle.entry_model.proofs.PlaceLemmas.{found_in, found_name}
use Rattle.entries.proofs.StateEditLaws.{put_same}
use Rattle.database_model.specs.Delete.{after_deletion, after_deletions, deleted_in, run_delete}
use Rattle.engine.specs.Durable.{disk_history, file_of, IsSound}
use Rattle.engine.specs.Looking.{Looks, OnlyReads}
use Rattle.engine.specs.Performing.{RunsCommand}
use Rattle.statements.specs.Redoing.{without_each, taken, all_taken}
use Rattle.database_model.specs.Refusals.{total, ok_reply}
use Rattle.engine.specs.Removing.{IsTaken, deleted}
use Rattle.engine.specs.TakingOut.{AreThere, IsIndexable, TakesOut}
use Rattle.engine.specs.View.{world}
use Rattle.database_model.specs.World.{World, documents_or_none, documents_of}
use Rattle.engine.specs.Writing.{ChangesCollections, Writes}
use Rattle.engine.specs.declared.delete.Taken.{Taken}
use Rattle.engine.specs.declared.engine.Engine.{Engine}
use Rattle.engine.proofs.Continuing.{continues_of}
use Rattle.engine.proofs.Deleting.{left_same}
use Rattle.engine.proofs.LostLemmas.{all_lost, all_there, taken_kept}
use Rattle.engine.proofs.MakingLemmas.{makes_none, makes_written, performs_done, performs_refused, with_reply}
use Rattle.statements.proofs.MeantDeletions.{taken_count}
use Rattle.engine.proofs.OnlyReading.{cause_from, reads_none, reads_on, word_before}
use Rattle.engine.proofs.TakingOutLemmas.{all_indexable}

-- ---- where edits lead

one_empty : (d : Deletion) → (taken d [] ≡ []) × (after_deletion d [] ≡ [])
one_empty d = at d.only_first
  where
    at : (b : Bool) → ((if b then [] else filter (matches d.filter) []) ≡ []) × ((if b then [] else filter (λ ps. not (matches d.filter ps)) []) ≡ [])
    at true = (refl, refl)
    at false = (refl, refl)

pub all_empty : (deletions : List Deletion) → all_taken deletions [] ≡ []
all_empty [] = refl
all_empty (d ∷ rest) =
    let one = one_empty d in
    ap (λ (xs : List Pairs). xs ++ all_taken rest (after_deletion d [])) one.0 ∙ ap (all_taken rest) one.1 ∙ all_empty rest

module _ (now : List Collection) (name : List ℕ) (deletions : List Deletion) where
  -- of a missing collection nothing is taken
  pub taken_none : find_collection now name ≡ None → all_taken deletions (documents_of now name) ≡ []
  taken_none missing = ap (λ (o : Option Collection). all_taken deletions (documents_or_none o)) missing ∙ all_empty deletions

  module _ (t : Taken) (is : IsTaken now name deletions t) where
    module _ (c : Collection) (found : find_collection now name ≡ Some c) where
      removed_is : t.removed.items ≡ all_taken deletions c.documents
      removed_is = is.removed ∙ ap (λ (o : Option Collection). all_taken deletions (documents_or_none o)) found

      found_so : find_collection now c.name ≡ Some c
      found_so = ap (find_collection now) (sym (found_name now name c found)) ∙ found

      deleted_is : deleted now name deletions ≡ put_collection (record c { documents = after_deletions deletions c.documents }) now
      deleted_is = ap (λ (o : Option Collection). deleted_in o deletions now) found

      kept_there : IsLawfulState now → IsKept c
      kept_there lawful = kept_of now c lawful (found_in now c.name c found_so)

      indexed_there : c.indexes ≡ t.home.indexes.items
      indexed_there = (is.home c found).1

      indexable_there : IsLawfulState now → All (IsIndexable t.home.indexes.items) t.removed.items
      indexable_there lawful =
          subst (λ (is : List Definition). All (IsIndexable is) t.removed.items) indexed_there
          (subst (All (IsIndexable c.indexes)) (sym removed_is)
          (taken_kept (IsIndexable c.indexes) deletions c.documents (all_indexable c (kept_there lawful))))

      leads_there : (edits : List Edit) → IsLawfulState now → TakesOut [] edits t.home.number t.home.indexes.items t.removed.items
          → Leads edits now (deleted now name deletions) × IsLawfulState (deleted now name deletions)
      leads_there edits lawful takes =
          let kept = kept_there lawful in
          let left : without_each t.removed.items c.documents ≡ after_deletions deletions c.documents =
          ap (λ (xs : List Pairs). without_each xs c.documents) removed_is ∙ all_lost deletions c.documents kept.rising in
          let there : AreThere t.removed.items c.documents =
          subst (λ (xs : List Pairs). AreThere xs c.documents) (sym removed_is) (all_there deletions c.documents kept.rising) in
          let led = takes now now c (λ entries spells. spells) lawful found_so (is.home c found).0 indexed_there there in
          let arrives : put_collection (record c { documents = without_each t.removed.items c.documents }) now ≡ deleted now name deletions =
          ap (λ (ds : List Pairs). put_collection (record c { documents = ds }) now) left ∙ sym deleted_is in
          subst (λ (s : List Collection). Leads edits now s × IsLawfulState s) arrives led

      same_there : AreNamedApart now → t.removed.items ≡ [] → deleted now name deletions ≡ now
      same_there apart none =
          let count = taken_count deletions c.documents in
          let zero : length c.documents - length (after_deletions deletions c.documents) ≡ 0 = omega (arith, count, ap length (sym removed_is ∙ none)) in
          deleted_is ∙ ap (λ (ds : List Pairs). put_collection (record c { documents = ds }) now) (left_same deletions c.documents zero)
          ∙ put_same c now apart found_so

    -- what is taken may be stored, and the indexes refuse none of it
    pub taken_indexable : IsLawfulState now → All (IsIndexable t.home.indexes.items) t.removed.items
    taken_indexable lawful = at (find_collection now name) refl
      where
        at : (o : Option Collection) → find_collection now name ≡ o → All (IsIndexable t.home.indexes.items) t.removed.items
        at None missing = let none = is.removed ∙ taken_none missing in
            subst (All (IsIndexable t.home.indexes.items)) (sym none) (λ k d below. absurd (omega (arith, below)))
        at (Some c) found = indexable_there c found lawful

    -- The edits that take it out lead to what the delete leaves.
    pub removal_leads : (edits : List Edit) → t.removed.items ≢ [] → IsLawfulState now → TakesOut [] edits t.home.number t.home.indexes.items t.removed.items
        → Leads edits now (deleted now name deletions) × IsLawfulState (deleted now name deletions)
    removal_leads edits some lawful takes = at (find_collection now name) refl
      where
        at : (o : Option Collection) → find_collection now name ≡ o → Leads edits now (deleted now name deletions) × IsLawfulState (deleted now name deletions)
        at None missing = absurd (some (is.removed ∙ taken_none missing))
        at (Some c) found = leads_there c found edits lawful takes

    -- Where nothing is taken all is as it was.
    pub none_deleted : AreNamedApart now → t.removed.items ≡ [] → deleted now name deletions ≡ now
    none_deleted apart none = at (find_collection now name) refl
      where
        at : (o : Option Collection) → find_collection now name ≡ o → deleted now name deletions ≡ now
        at None missing = ap (λ (o : Option Collection). deleted_in o deletions now) missing
        at (Some c) found = same_there c found apart none

    -- as many are taken as the reply says
    pub count_taken : length t.removed.items ≡ length (documents_of now name) - length (after_deletions deletions (documents_of now name))
    count_taken = ap length is.removed ∙ taken_count deletions (documents_of now name)

-- ---- over engines as values

module _ {D : Type 0} (history : D → History) where
  -- a refusal of what was looked up before
  pub looks_refused : {X Y : Type 0} (P : List Collection → X → Type 0) (Q : List Collection → Y → Type 0) (a b : Engine D) (e : Refusal)
      → Looks history P (Err e) a b → Looks history Q (Err e) a b
  looks_refused P Q a b e looks = record { reads = looks.reads; answers = looks.answers }

  pub refused_later : {X Y : Type 0} (P : List Collection → X → Type 0) (Q : List Collection → Y → Type 0) (a b c : Engine D) (e : Refusal)
      → OnlyReads history a b → Looks history P (Err e) b c → Looks history Q (Err e) a c
  refused_later P Q a b c e first looks = record {
    reads = reads_on history a b c first looks.reads;
    answers = λ k. cause_from history (file_of a) (file_of b) (file_of c) first.continues
        (word_before history (file_of b) (file_of c) looks.reads.continues k) e
        (looks.answers k);
  }

  -- the device stopped before
  pub remove_stopped : (planned : Result (List Collection) Refusal) (old : Engine D) → IsSound history old
      → (KeepsWord (disk_history history old) → HasReadCause history (file_of old) (file_of old) refusals.StorageFailed)
      → ChangesCollections history planned (Err refusals.StorageFailed) old old
  remove_stopped planned old h cause = makes_none history planned old old refusals.StorageFailed (reads_none history old h) (λ k. inr (cause k))

  module _ (name : List ℕ) (deletions : List Deletion) (old : Engine D) where
    abbrev planned : Engine D → Result (List Collection) Refusal
    planned engine = Ok (deleted (world engine).collections name deletions)

    -- nothing is taken, and nothing written
    pub removes_nothing : (t : Taken) → IsSound history old → (KeepsWord (disk_history history old) → IsTaken (world old).collections name deletions t)
        → t.removed.items ≡ [] → ChangesCollections history (planned old) (Ok tt) old old
    removes_nothing t h is none = record {
      sound = h;
      continues = laws.goes_from_itself history old.file;
      start = refl;
      cursors = refl;
      as_planned = λ k. ap (λ (cs : List Collection). Ok cs) (none_deleted (world old).collections name deletions t (is k) h.lawful.apart none);
      left = tt;
      refused = tt;
      keeps = λ t. t;
    }

    -- what is taken was written
    pub removes_written : (new : Engine D) (r : Result (Unit {0}) Refusal) → IsSound history old
        → Writes history (deleted (world old).collections name deletions) r old new → ChangesCollections history (planned old) r old new
    removes_written new r h w = makes_written history (λ cs. Ok (deleted cs name deletions)) old old new (reads_none history old h) r (λ k. refl) w

    abbrev run : World → Result (World × Pairs) Refusal
    run w = run_delete w (record { namespace = name; deletions = deletions })

    abbrev count : ℕ
    count = length (documents_of (world old).collections name) - length (after_deletions deletions (documents_of (world old).collections name))

    runs : run (world old) ≡ with_reply (world old) (pair (codes "n") (total count) no_pairs) (planned old)
    unfolding run_delete
    runs = refl

    pub delete_refused : (new : Engine D) (e : Refusal) → ChangesCollections history (planned old) (Err e) old new
        → RunsCommand history (run (world old)) (Err e) old new
    delete_refused new e m = performs_refused history (pair (codes "n") (total count) no_pairs) (planned old) (run (world old)) old new runs e m

    -- the reply was made of what was taken
    pub delete_done : (new : Engine D) (n : ℕ) (d : Pairs) → d ≡ ok_reply (pair (codes "n") (total n) no_pairs)
        → (KeepsWord (disk_history history new) → n ≡ count) → ChangesCollections history (planned old) (Ok tt) old new
        → RunsCommand history (run (world old)) (Ok d) old new
    delete_done new n d said many m = record {
      sound = m.sound;
      continues = continues_of history old new m.continues;
      start = m.start;
      as_planned = λ k. (performs_done history (pair (codes "n") (total count) no_pairs) (planned old) (run (world old)) old new runs d
          (said ∙ ap (λ (x : ℕ). ok_reply (pair (codes "n") (total x) no_pairs)) (many k)) m).as_planned k;
      left = tt;
      refused = tt;
      keeps = m.keeps;
    }
