-- The steps of a createIndexes, over engines as values.
use Rattle.std.proofs.Common.{◌≡◌, inl, inr, ◌+◌, ◌≤◌, ℕ, Bool, true, false, List, length, Option, Some, None, Result, Ok, Err, refl, sym, ap, subst, ◌∙◌}
use Rattle.std.proofs.Common.{arith}
use Rattle.std.specs.Prelude.{is_some, not}
use Rattle.std.specs.Option.{option_map}
use Rattle.bson.specs.Tree.{Pairs}
use Rattle.page.specs.History.{History, KeepsWord}
use Rattle.tree_model.specs.Keys.{Edit}
use Rattle.outcome.specs.Outcome.{◌>>=◌, unless}
use Rattle.path.specs.declared.refusal.Refusal.{Refusal}
use Rattle.path.specs.declared.refusal.Refusal.TheVariants as refusals
use Rattle.command_model.specs.NewIndex.{NewIndex}
use Rattle.collections.proofs.LawLemmas as laws
use Rattle.entry_model.specs.LawfulState as states
use Rattle.entry_model.specs.State.{Collection, find_collection, put_collection}
use Rattle.entry_model.specs.StateEntries.{Leads}
use Rattle.entries.specs.declared.catalogue_reading.Catalogued.{Catalogued}
use Rattle.entry_model.proofs.FoundLawLemmas.{finds_put}
use Rattle.entry_model.proofs.PlaceLemmas.{found_name}
use Rattle.entries.proofs.StateEditLaws.{put_same}
use Rattle.database_model.specs.CreateIndexes.{create_indexes_reply, indexed, run_create_indexes, with_new_indexes}
use Rattle.database_model.specs.DropCollection.{index_count}
use Rattle.engine.specs.Durable.{disk_history, has_changes, is_stopped, IsRunning, IsSound}
use Rattle.engine.specs.Indexing.{ArePlanned, HasDocumentsOf}
use Rattle.database_model.specs.Insert.{is_full}
use Rattle.engine.specs.Looking.{Looks, OnlyReads}
use Rattle.engine.specs.Performing.{RunsCommand}
use Rattle.database_model.specs.Refusals.{ok_reply}
use Rattle.engine.specs.Storing.{AreNoted, IsFull, Notes}
use Rattle.engine.specs.Trying.{MayRefuse}
use Rattle.engine.specs.View.{world}
use Rattle.database_model.specs.World.{World, collection_of, indexes_or_none}
use Rattle.engine.specs.Writing.{ChangesCollections, planned_or, Writes}
use Rattle.engine.specs.declared.create_indexes.PlannedIndexes.{PlannedIndexes}
use Rattle.engine.specs.declared.engine.Engine.{Engine}
use Rattle.engine.proofs.Continuing.{continues_of}
use Rattle.engine.proofs.LookingLemmas.{performs_memory}
use Rattle.engine.proofs.MakingLemmas.{lawful_now, leads_planned, makes_behind, makes_none, makes_written, performs_done, performs_refused, planned_is}
use Rattle.engine.proofs.MakingLemmas.{with_reply}
use Rattle.engine.proofs.NewCollections.{IsNumberOf}
use Rattle.index_list.proofs.NewIndexLemmas.{with_new_indexes_more}
use Rattle.engine.proofs.OnlyReading.{cause_from, now_same, reads_none, reads_on, word_before}
use Rattle.engine.proofs.StoringLemmas.{it_is}

-- ---- what is planned

abbrev put_in : List Collection → Collection → Result (List Collection) Refusal
put_in cs c = Ok (put_collection c cs)

indexed_by : (cs : List Collection) (name : List ℕ) (ns : List NewIndex) (r : Result Collection Refusal) → is_full cs name ≡ false
    → with_new_indexes (collection_of cs name) ns ≡ r
    → indexed cs name ns ≡ (r >>= put_in cs)
indexed_by cs name ns r room is =
    ap (λ (b : Bool). unless b refusals.TooMany (with_new_indexes (collection_of cs name) ns >>= put_in cs)) room
    ∙ ap (λ (q : Result Collection Refusal). q >>= put_in cs) is

indexed_full : (cs : List Collection) (name : List ℕ) (ns : List NewIndex) (e : Refusal) → IsFull cs name e → indexed cs name ns ≡ Err e
indexed_full cs name ns e (is, full) =
    ap (λ (b : Bool). unless b refusals.TooMany (with_new_indexes (collection_of cs name) ns >>= put_in cs)) full
    ∙ ap (λ (x : Refusal). let r : Result (List Collection) Refusal = Err x in r) (sym is)

pub planned_next : (cs : List Collection) (name : List ℕ) (ns : List NewIndex) (p : PlannedIndexes) (a : ArePlanned cs name ns p)
    → indexed cs name ns ≡ Ok (put_collection a.next cs)
planned_next cs name ns p a = indexed_by cs name ns (Ok a.next) a.room a.is

some_number : (found : Option ℕ) (o : Option Collection) → found ≡ option_map (λ c. c.number) o → is_some found ≡ is_some o
some_number found None e = ap is_some e
some_number found (Some c) e = ap is_some e

turned : (a b : Bool) → b ≡ not a → a ≡ not b
turned true b e = ap not (sym e)
turned false b e = ap not (sym e)

-- ---- the plan is made

module _ {D : Type 0} (history : D → History) (name : List ℕ) (ns : List NewIndex) (old : Engine D) where
  abbrev Plans : Result PlannedIndexes Refusal → Engine D → Type 0
  Plans r new = MayRefuse history (ArePlanned (world old).collections name ns) (λ e. indexed (world old).collections name ns ≡ Err e) r old new

  module _ (mid : Engine D) where
    pub plan_unread : (e : Refusal) → Looks history (IsNumberOf name) (Err e) old mid → Plans (Err e) mid
    plan_unread e first = record { reads = first.reads; answers = λ k. inr (first.answers k) }

    module _ (found : Option ℕ) (first : Looks history (IsNumberOf name) (Ok found) old mid) (last : Engine D) where
      abbrev Targets : List Edit → Result Catalogued Refusal → Type 0
      Targets edits r =
          MayRefuse history (λ home. AreNoted (world mid).collections name home edits (collection_of (world mid).collections name))
          (IsFull (world mid).collections name) r mid last

      same_mid : (world mid).collections ≡ (world old).collections
      same_mid = now_same history old mid first.reads

      pub plan_untargeted : (edits : List Edit) (e : Refusal) → Targets edits (Err e) → Plans (Err e) last
      plan_untargeted edits e target = record {
        reads = reads_on history old mid last first.reads target.reads;
        answers = λ k. elim (target.answers k) [
          | inl full ↦ inl (indexed_full (world old).collections name ns e (subst (λ (cs : List Collection). IsFull cs name e) same_mid full))
          | inr cause ↦ inr
              (cause_from history old.file mid.file last.file first.reads.continues (word_before history mid.file last.file target.reads.continues k) e cause)
        ];
      }

      module _ (edits : List Edit) (home : Catalogued) (target : Targets edits (Ok home)) (new : Engine D) (home_after : Catalogued) (after : List Edit) where
        abbrev NotesAll : Result (Unit {0}) Refusal → Type 0
        NotesAll r = Notes history name (HasDocumentsOf (world last).collections name) (λ c. with_new_indexes c ns) home home_after edits after r last new

        same_last : (world last).collections ≡ (world mid).collections
        same_last = now_same history mid last target.reads

        all_reads : OnlyReads history last new → OnlyReads history old new
        all_reads later = reads_on history old last new (reads_on history old mid last first.reads target.reads) later

        abbrev start : List Collection → Collection
        start cs = collection_of cs name

        noted_first : KeepsWord (disk_history history last) → AreNoted (world last).collections name home edits (start (world last).collections)
        noted_first k = subst (λ (cs : List Collection). AreNoted cs name home edits (start cs)) (sym same_last) (target.answers k)

        pub plan_refused : (e : Refusal) → NotesAll (Err e) → Plans (Err e) new
        plan_refused e notes = record {
          reads = all_reads notes.reads;
          answers = λ k.
              let k_last = word_before history last.file new.file notes.reads.continues k in
              let noted = noted_first k_last in
              elim (notes.answers k (start (world last).collections) noted refl) [
                | inl refused ↦ inl
                    (subst (λ (cs : List Collection). indexed cs name ns ≡ Err e) (same_last ∙ same_mid)
                    (indexed_by (world last).collections name ns (Err e) noted.room refused))
                | inr cause ↦ inr (cause_from history old.file last.file new.file (reads_on history old mid last first.reads target.reads).continues k_last e
                    cause)
              ];
        }

        pub plan_made : NotesAll (Ok tt) → (p : PlannedIndexes) → p.edits ≡ after → p.before ≡ length home.indexes.items
            → p.after ≡ length home_after.indexes.items → is_some found ≡ not p.is_new → Plans (Ok p) new
        plan_made notes p edits_are before_is after_is new_is = record {
          reads = all_reads notes.reads;
          answers = λ k.
              let k_last = word_before history last.file new.file notes.reads.continues k in
              let k_mid = word_before history mid.file last.file target.reads.continues k_last in
              let noted = noted_first k_last in
              let cs = (world last).collections in
              let has = notes.answers k (start cs) noted refl in
              let there : ArePlanned cs name ns p = record {
                next = has.next;
                is = has.is;
                room = noted.room;
                before = before_is ∙ ap length (sym noted.indexed);
                after = after_is ∙ ap length (sym has.noted.indexed);
                is_new = turned p.is_new (is_some found) new_is
                    ∙ ap not (some_number found (find_collection (world old).collections name) (first.answers k_mid))
                    ∙ ap (λ (ds : List Collection). not (is_some (find_collection ds name))) (sym (same_last ∙ same_mid));
                leads = λ lawful. subst (λ (es : List Edit). Leads es cs (put_collection has.next cs) × states.IsLawfulState (put_collection has.next cs))
                    (sym edits_are) (has.noted.leads lawful);
              } in
              subst (λ (ds : List Collection). ArePlanned ds name ns p) (same_last ∙ same_mid) there;
        }

-- ---- it is put into the file

-- nothing new was planned
nothing_new : (cs : List Collection) (name : List ℕ) (ns : List NewIndex) (p : PlannedIndexes) (a : ArePlanned cs name ns p) → p.is_new ≡ false
    → p.after ≤ p.before → a.next ≡ collection_of cs name
nothing_new cs name ns p a old few = elim (with_new_indexes_more (collection_of cs name) a.next ns a.is).longer [
  | inl same ↦ same
  | inr longer ↦ absurd (omega (arith, longer, few, a.before, a.after))
]

found_there : (cs : List Collection) (name : List ℕ) (is_new : Bool) → is_new ≡ not (is_some (find_collection cs name)) → is_new ≡ false
    → (c : Collection) × (find_collection cs name ≡ Some c)
found_there cs name is_new told old = by (find_collection cs name) refl (sym told ∙ old)
  where
    by : (o : Option Collection) → find_collection cs name ≡ o → not (is_some o) ≡ false → (c : Collection) × (find_collection cs name ≡ Some c)
    by None found e = absurd cc
    by (Some c) found e = (c, found)

module _ {D : Type 0} (history : D → History) (name : List ℕ) (ns : List NewIndex) (old : Engine D) (h : IsSound history old) (p : PlannedIndexes)
    (there : KeepsWord (disk_history history old) → ArePlanned (world old).collections name ns p) where
  abbrev Plan : List Collection → Result (List Collection) Refusal
  Plan cs = indexed cs name ns

  pub put_stopped : is_stopped old ≡ true → ChangesCollections history (Plan (world old).collections) (Err refusals.StorageFailed) old old
  put_stopped stopped =
      makes_none history (Plan (world old).collections) old old refusals.StorageFailed (reads_none history old h) (λ k. inr (inr (refl, inl stopped)))

  pub put_nothing : p.is_new ≡ false → p.after ≤ p.before → ChangesCollections history (Plan (world old).collections) (Ok tt) old old
  put_nothing is_old few = record {
    sound = h;
    continues = laws.goes_from_itself history old.file;
    start = refl;
    cursors = refl;
    as_planned = λ k.
        let cs = (world old).collections in
        let a = there k in
        let t = found_there cs name p.is_new a.is_new is_old in
        let same : a.next ≡ t.0 = nothing_new cs name ns p a is_old few ∙ it_is cs name t.0 t.1 in
        let named = found_name cs name t.0 t.1 in
        let stays : put_collection a.next cs ≡ cs =
        ap (λ (c : Collection). put_collection c cs) same
        ∙ put_same t.0 cs h.lawful.apart (subst (λ (m : List ℕ). find_collection cs m ≡ Some t.0) named t.1) in
        planned_next cs name ns p a ∙ ap (λ (ds : List Collection). Ok ds) stays;
    left = tt;
    refused = tt;
    keeps = λ t. t;
  }

  pub put_leads : KeepsWord (disk_history history old) → IsRunning old
      → Leads p.edits (world old).collections (planned_or (world old).collections (Plan (world old).collections))
      × states.IsLawfulState (planned_or (world old).collections (Plan (world old).collections))
  put_leads k running =
      let cs = (world old).collections in
      let a = there k in
      leads_planned p.edits cs (put_collection a.next cs) (Plan cs) (planned_next cs name ns p a) (a.leads (lawful_now history old h k running))

  pub put_written : (r : Result (Unit {0}) Refusal) (new : Engine D)
      → Writes history (planned_or (world old).collections (Plan (world old).collections)) r old new
      → ChangesCollections history (Plan (world old).collections) r old new
  put_written r new writes =
      makes_written history Plan old old new (reads_none history old h) r
      (λ k. let a = there k in
      planned_is (world old).collections (put_collection a.next (world old).collections) (Plan (world old).collections)
      (planned_next (world old).collections name ns p a)) writes

-- ---- the command

abbrev reply_to : List Collection → List ℕ → Result (List Collection) Refusal → Pairs
reply_to cs name planned = create_indexes_reply (index_count cs name) (index_count (planned_or cs planned) name) (not (is_some (find_collection cs name)))

run_indexes : (w : World) (name : List ℕ) (ns : List NewIndex)
    → run_create_indexes w (record { namespace = name; indexes = ns })
    ≡ with_reply w (reply_to w.collections name (indexed w.collections name ns)) (indexed w.collections name ns)
unfolding run_create_indexes
run_indexes w name ns = by (indexed w.collections name ns)
  where
    cs : List Collection
    cs = w.collections

    by : (r : Result (List Collection) Refusal)
        → (r >>= (λ ds. let x : Result (World × Pairs) Refusal =
        Ok (record w { collections = ds }, create_indexes_reply (index_count cs name) (index_count ds name) (not (is_some (find_collection cs name)))) in x))
        ≡ with_reply w (reply_to cs name r) r
    by (Ok ds) = refl
    by (Err e) = refl

-- where nothing is changed, nothing was new
module _ (cs : List Collection) (name : List ℕ) (ns : List NewIndex) (p : PlannedIndexes) (a : ArePlanned cs name ns p) where
  next_named : a.next.name ≡ name
  next_named = (with_new_indexes_more (collection_of cs name) a.next ns a.is).named

  next_found : find_collection (put_collection a.next cs) name ≡ Some a.next
  next_found = subst (λ (m : List ℕ). find_collection (put_collection a.next cs) m ≡ Some a.next) next_named (finds_put a.next cs)

  pub nothing_changed : put_collection a.next cs ≡ cs → (p.is_new ≡ false) × (p.after ≤ p.before)
  nothing_changed same =
      let found : find_collection cs name ≡ Some a.next = ap (λ (ds : List Collection). find_collection ds name) (sym same) ∙ next_found in (
        a.is_new ∙ ap (λ (o : Option Collection). not (is_some o)) found,
        omega (arith, a.before, a.after, ap (λ (o : Option Collection). length (indexes_or_none o)) found),
      )

  pub counted : (1 + p.before ≡ index_count cs name) × (1 + p.after ≡ index_count (planned_or cs (indexed cs name ns)) name)
  counted = (
    ap (λ (n : ℕ). 1 + n) a.before,
    ap (λ (n : ℕ). 1 + n) a.after ∙ ap (λ (o : Option Collection). 1 + length (indexes_or_none o)) (sym next_found)
        ∙ ap (λ (r : Result (List Collection) Refusal). index_count (planned_or cs r) name) (sym (planned_next cs name ns p a)),
  )

module _ {D : Type 0} (history : D → History) (name : List ℕ) (ns : List NewIndex) (old mid : Engine D) where
  abbrev run : Result (World × Pairs) Refusal
  run = run_create_indexes (world old) (record { namespace = name; indexes = ns })

  abbrev Planned : List Collection → Result (List Collection) Refusal
  Planned cs = indexed cs name ns

  abbrev reply : Pairs
  reply = reply_to (world old).collections name (Planned (world old).collections)

  abbrev Tried : Result PlannedIndexes Refusal → Type 0
  Tried r = MayRefuse history (ArePlanned (world old).collections name ns) (λ e. Planned (world old).collections ≡ Err e) r old mid

  pub create_unplanned : (e : Refusal) → Tried (Err e) → RunsCommand history run (Err e) old mid
  create_unplanned e tried =
      performs_refused history reply (Planned (world old).collections) run old mid (run_indexes (world old) name ns) e
      (makes_none history (Planned (world old).collections) old mid e tried.reads tried.answers)

  module _ (p : PlannedIndexes) (tried : Tried (Ok p)) where
    pub create_without_memory : (e : Refusal) → e ≡ refusals.OutOfMemory → RunsCommand history run (Err e) old mid
    create_without_memory e is = (performs_memory history old mid run e is tried.reads).performs

    pub planned_mid : KeepsWord (disk_history history mid) → ArePlanned (world mid).collections name ns p
    planned_mid k = subst (λ (cs : List Collection). ArePlanned cs name ns p) (sym (now_same history old mid tried.reads)) (tried.answers k)

    module _ (new : Engine D) where
      abbrev Behind : Result (Unit {0}) Refusal → Type 0
      Behind r = ChangesCollections history (Planned (world mid).collections) r mid new

      create_behind : (r : Result (Unit {0}) Refusal) → Behind r → ChangesCollections history (Planned (world old).collections) r old new
      create_behind r m = makes_behind history Planned old mid new tried.reads r m

      pub create_undone : (e : Refusal) → Behind (Err e) → RunsCommand history run (Err e) old new
      create_undone e m =
          performs_refused history reply (Planned (world old).collections) run old new (run_indexes (world old) name ns) e (create_behind (Err e) m)

      pub create_done : (before after : ℕ) (d : Pairs) → before ≡ 1 + p.before → after ≡ 1 + p.after
          → d ≡ ok_reply (create_indexes_reply before after p.is_new) → Behind (Ok tt) → RunsCommand history run (Ok d) old new
      create_done before after d before_is after_is said m =
          let makes = create_behind (Ok tt) m in
          record {
            sound = makes.sound;
            continues = continues_of history old new makes.continues;
            start = makes.start;
            as_planned = λ k.
                let cs = (world old).collections in
                let a = tried.answers (word_before history mid.file new.file m.continues k) in
                let counts = counted cs name ns p a in
                let told : d ≡ ok_reply reply =
                said ∙ (λ i. ok_reply (create_indexes_reply ((before_is ∙ counts.0) i) ((after_is ∙ counts.1) i) (a.is_new i))) in
                (performs_done history reply (Planned cs) run old new (run_indexes (world old) name ns) d told makes).as_planned k;
            left = tt;
            refused = tt;
            keeps = makes.keeps;
          }

      -- where the collections stay, nothing was written
      pub create_changes : Behind (Ok tt) → (p.is_new ≡ false → p.after ≤ p.before → has_changes new ≡ has_changes mid) → KeepsWord (disk_history history new)
          → (world new).collections ≡ (world old).collections
          → has_changes new ≡ has_changes old
      create_changes m quiet k same =
          let cs = (world old).collections in
          let a = tried.answers (word_before history mid.file new.file m.continues k) in
          let as_planned = (create_behind (Ok tt) m).as_planned k in
          let stays : put_collection a.next cs ≡ cs =
          ap (planned_or cs) (sym (planned_next cs name ns p a) ∙ as_planned) ∙ same in
          let none = nothing_changed cs name ns p a stays in
          quiet none.0 none.1 ∙ tried.reads.changes
