-- What an update comes to.
use Rattle.std.proofs.Common.{◌≡◌, ◌≢◌, ◌⊎◌, inl, inr, ℕ, ◌<◌, ◌≤◌, Bool, true, false, List, [], ◌∷◌, length, map, Result, Ok, Err, refl, sym, ap, subst, ◌∙◌}
use Rattle.std.proofs.Common.{arith}
use Rattle.std.specs.Prelude.{All, nat_lt}
use Rattle.std.proofs.lemmas.Bool.Decides.{nat_tests}
use Rattle.bson.specs.Tree.{Pairs, no_pairs}
use Rattle.page.specs.History.{History, KeepsWord}
use Rattle.tree_model.specs.Keys.{Edit}
use Rattle.outcome.specs.Outcome.{◌>>=◌, unless}
use Rattle.path.specs.declared.refusal.Refusal.{Refusal}
use Rattle.path.specs.declared.refusal.Refusal.TheVariants as refusals
use Rattle.collections.specs.Calls.{HasReadCause}
use Rattle.command_model.specs.Command.{update}
use Rattle.command_model.specs.OutcomeLaws.{step_of}
use Rattle.command_model.specs.Update.{UpdateStatement, IsRead}
use Rattle.entry_model.specs.Entering.{DocumentWrite}
use Rattle.entry_model.specs.LawfulState as states
use Rattle.entry_model.specs.State.{Collection}
use Rattle.entry_model.specs.StateEntries.{Leads}
use Rattle.engine.specs.Durable.{disk_history, file_of, has_changes, IsRunning}
use Rattle.opening.specs.TurnStates.{TurnStates}
use Rattle.database_model.specs.Lawful.{IsLawfulState}
use Rattle.engine.specs.Looking.{OnlyReads}
use Rattle.engine.specs.Performing.{RunsCommand}
use Rattle.engine.specs.Putting.{ArePlanned, AreWritesOf, ComesTo, EndsIn, IsFullFor, IsUpdate, NotesWrites, RepliesTo}
use Rattle.database_model.specs.Refusals.{ok_reply}
use Rattle.database_model.specs.Step.{ChangesNone}
use Rattle.engine.specs.Trying.{MayRefuse}
use Rattle.database_model.specs.Update.{judged, not_updated, run_all, run_statements, spelled, Updated, update_reply}
use Rattle.database_model.specs.UpdateCommand.{entered_in, run_update, updated, writes_in, written_in}
use Rattle.statements.specs.Updating.{seen}
use Rattle.engine.specs.View.{world}
use Rattle.database_model.specs.World.{World, documents_of}
use Rattle.engine.specs.Writing.{ChangesCollections, planned_or, Writes}
use Rattle.engine.specs.declared.engine.Engine.{Engine}
use Rattle.statements.specs.declared.statements.Ran.{Ran}
use Rattle.statements.specs.declared.statements.Tally.{Tally}
use Rattle.statements.specs.declared.statements.Write.{Write}
use Rattle.engine.proofs.Continuing.{continues_of}
use Rattle.engine.proofs.LawfulSteps.{entered_lawful}
use Rattle.engine.proofs.MakingLemmas.{lawful_now, leads_planned, makes_none, makes_written, performs_done, performs_refused, planned_is, with_reply}
use Rattle.engine.proofs.OnlyReading.{cause_from, now_same, reads_on, word_before}
use Rattle.engine.proofs.PlannedUpdates.{full_refused}
use Rattle.engine.proofs.StoringLemmas.{full_of}
use Rattle.engine.proofs.UpdateSteps.{written_full}

-- ---- the reply

-- a reply that is no longer than it may be
is_judged : (u : Updated) → length (spelled (ok_reply (update_reply u))) ≤ 1048555 → judged u ≡ Ok u
is_judged u h =
    let short : nat_lt 1048555 (length (spelled (ok_reply (update_reply u)))) ≡ false = grind (arith, nat_tests, h) in
    ap (λ (b : Bool). unless b refusals.BSONObjectTooLarge (let r : Result Updated Refusal = Ok u in r)) short

too_long : (u : Updated) → 1048555 < length (spelled (ok_reply (update_reply u))) → judged u ≡ Err refusals.BSONObjectTooLarge
too_long u h =
    let long : nat_lt 1048555 (length (spelled (ok_reply (update_reply u)))) ≡ true = grind (arith, nat_tests, h) in
    ap (λ (b : Bool). unless b refusals.BSONObjectTooLarge (let r : Result Updated Refusal = Ok u in r)) long

-- the statements came to their end, and this is their reply
pub record IsReplied (now : List Collection) (name : List ℕ) (ss : List UpdateStatement) (d : Pairs) : Type 0 where
  pub after : Updated
  pub is : run_all name ss now ≡ Ok after
  pub replied : d ≡ ok_reply (update_reply after)

module _ (now : List Collection) (name : List ℕ) (ss : List UpdateStatement) (ws : List Write) where
  replied_done : (end : Result Tally Refusal) (d : Pairs) → EndsIn now name ss ws end → RepliesTo end (Ok d) → IsReplied now name ss d
  replied_done (Err e) d ends replies = absurd cc
  replied_done (Ok t) d ends replies =
      let said : d ≡ ok_reply (update_reply ends.after) = replies.0 ∙ ap ok_reply (sym ends.counts) in
      let short = subst (λ (x : Pairs). length (spelled x) ≤ 1048555) said replies.1 in
      record {
        after = ends.after;
        is = ap (λ (r : Result Updated Refusal). r >>= judged) ends.planned ∙ is_judged ends.after short;
        replied = said;
      }

  replied_refused : (end : Result Tally Refusal) (e : Refusal) → EndsIn now name ss ws end → RepliesTo end (Err e)
      → (run_all name ss now ≡ Err e) ⊎ (e ≡ refusals.OutOfMemory)
  replied_refused (Err f) e ends replies = let same : f ≡ e = cc in inl (ends ∙ ap (λ (x : Refusal). let r : Result Updated Refusal = Err x in r) same)
  replied_refused (Ok t) e ends (inl memory) = inr memory
  replied_refused (Ok t) e ends (inr (is, long)) =
      let long_so : 1048555 < length (spelled (ok_reply (update_reply ends.after))) =
      subst (λ (ps : Pairs). 1048555 < length (spelled (ok_reply ps))) (sym ends.counts) long in
      inl (ap (λ (r : Result Updated Refusal). r >>= judged) ends.planned ∙ too_long ends.after long_so
      ∙ ap (λ (x : Refusal). let r : Result Updated Refusal = Err x in r) (sym is))

-- ---- what is planned

module _ (name : List ℕ) (ss : List UpdateStatement) where
  abbrev pub plan : List Collection → Result (List Collection) Refusal
  plan cs = updated name ss cs

  abbrev then_all : List Collection → List Collection → Result (List Collection) Refusal
  then_all cs next = run_all name ss cs >>= (λ u. let q : Result (List Collection) Refusal = Ok next in q)

  module _ (cs : List Collection) where
    plan_entered : (r : Result (List Collection) Refusal) → entered_in name (writes_in name ss cs) cs ≡ r → plan cs ≡ (r >>= then_all cs)
    plan_entered r is = ap (λ (q : Result (List Collection) Refusal). q >>= then_all cs) is

    all_refused : (next : List Collection) (e : Refusal) → run_all name ss cs ≡ Err e → then_all cs next ≡ Err e
    all_refused next e is = ap (λ (r : Result Updated Refusal). r >>= (λ u. let q : Result (List Collection) Refusal = Ok next in q)) is

    all_done : (next : List Collection) (u : Updated) → run_all name ss cs ≡ Ok u → then_all cs next ≡ Ok next
    all_done next u is = ap (λ (r : Result Updated Refusal). r >>= (λ u. let q : Result (List Collection) Refusal = Ok next in q)) is

    -- no collection is made where there are as many as may be
    plan_full : (e : Refusal) → IsFullFor cs name ss e → plan cs ≡ Err e
    plan_full e (missing, (is_many, makes, many)) = at (writes_in name ss cs) refl
      where
        at : (ws : List DocumentWrite) → writes_in name ss cs ≡ ws → plan cs ≡ Err e
        at [] is = plan_entered (Ok cs) (ap (λ (v : List DocumentWrite). entered_in name v cs) is)
            ∙ all_refused cs e (full_refused cs name ss e (missing, (is_many, makes, many)))
        at (w ∷ ws) is =
            plan_entered (Err e)
            (ap (λ (v : List DocumentWrite). entered_in name v cs) is ∙ written_full cs name (w ∷ ws) e (is_many, full_of cs name missing many))

    module _ (x : Ran) (u : IsUpdate cs name ss x) where
      entered_seen : (ws : List Write) → x.writes.items ≡ ws → entered_in name (writes_in name ss cs) cs ≡ entered_in name (map seen ws) cs
      entered_seen ws is = ap (λ (v : List DocumentWrite). entered_in name v cs) (sym u.planned ∙ ap (map seen) is)

      -- nothing is written
      module _ (none : x.writes.items ≡ []) where
        nothing_refused : (e : Refusal) → run_all name ss cs ≡ Err e → plan cs ≡ Err e
        nothing_refused e is = plan_entered (Ok cs) (entered_seen [] none) ∙ all_refused cs e is

        nothing_done : (after : Updated) → run_all name ss cs ≡ Ok after → plan cs ≡ Ok cs
        nothing_done after is = plan_entered (Ok cs) (entered_seen [] none) ∙ all_done cs after is

      -- something is
      module _ (some : x.writes.items ≢ []) where
        entered_written : entered_in name (writes_in name ss cs) cs ≡ written_in name (map seen x.writes.items) cs
        entered_written = at x.writes.items refl
          where
            at : (ws : List Write) → x.writes.items ≡ ws → entered_in name (writes_in name ss cs) cs ≡ written_in name (map seen x.writes.items) cs
            at [] is = absurd (some is)
            at (w ∷ ws) is = entered_seen (w ∷ ws) is ∙ ap (λ (vs : List Write). written_in name (map seen vs) cs) (sym is)

        written_refused : (e : Refusal) → written_in name (map seen x.writes.items) cs ≡ Err e → plan cs ≡ Err e
        written_refused e is = plan_entered (Err e) (entered_written ∙ is)

        ran_refused : (next : List Collection) → written_in name (map seen x.writes.items) cs ≡ Ok next → (e : Refusal) → run_all name ss cs ≡ Err e
            → plan cs ≡ Err e
        ran_refused next is e refused = plan_entered (Ok next) (entered_written ∙ is) ∙ all_refused next e refused

        written_done : (next : List Collection) → written_in name (map seen x.writes.items) cs ≡ Ok next → (after : Updated) → run_all name ss cs ≡ Ok after
            → plan cs ≡ Ok next
        written_done next is after done = plan_entered (Ok next) (entered_written ∙ is) ∙ all_done next after done

      -- nothing is written where no statement changes a document or makes one
      nothing_written : (w : World) → w.collections ≡ cs → (t : Tally) → x.end ≡ Ok t → ChangesNone w (update (record { namespace = name; statements = ss }))
          → x.writes.items ≡ []
      nothing_written w same t is none =
          let c : ComesTo cs name ss x.writes.items t = subst (EndsIn cs name ss x.writes.items) is u.end in
          let counts = none c.after (ap (λ (ds : List Collection). run_statements name 0 ss (not_updated ds)) same ∙ c.planned) in
          c.quiet counts.0 counts.1

  pub updated_lawful : (now : List Collection) → IsLawfulState now → length name ≤ 255 → All (λ (s : UpdateStatement). IsRead s.change) ss
      → IsLawfulState (planned_or now (plan now))
  updated_lawful now h short read = at (plan now) refl
    where
      at : (p : Result (List Collection) Refusal) → plan now ≡ p → IsLawfulState (planned_or now p)
      at (Err e) is = h
      at (Ok next) is =
          let n = step_of (entered_in name (writes_in name ss now) now) (then_all now) next is in
          let u = step_of (run_all name ss now) (λ u. let q : Result (List Collection) Refusal = Ok n.0 in q) next n.2 in
          let same : n.0 ≡ next = cc in
          subst IsLawfulState same (entered_lawful now name ss n.0 h short read n.1)

-- ---- over engines as values

module _ {D : Type 0} (history : D → History) (name : List ℕ) (ss : List UpdateStatement) (old : Engine D) where
  abbrev run : World → Result (World × Pairs) Refusal
  run w = run_update w (record { namespace = name; statements = ss })

  abbrev now : List Collection
  now = (world old).collections

  -- the reply, where there is one
  abbrev reply_in : Result Updated Refusal → Pairs
  reply_in (Ok u) = update_reply u
  reply_in (Err e) = no_pairs

  runs : run (world old) ≡ with_reply (world old) (reply_in (run_all name ss now)) (plan name ss now)
  unfolding run_update
  runs = at (entered_in name (writes_in name ss now) now) (run_all name ss now)
    where
      at : (r : Result (List Collection) Refusal) (q : Result Updated Refusal)
          → (r >>= (λ next. q >>= (λ u. let x : Result (World × Pairs) Refusal = Ok (record (world old) { collections = next }, update_reply u) in x)))
          ≡ with_reply (world old) (reply_in q) (r >>= (λ next. q >>= (λ u. let x : Result (List Collection) Refusal = Ok next in x)))
      at (Ok next) (Ok u) = refl
      at (Ok next) (Err e) = refl
      at (Err e) (Ok u) = refl
      at (Err e) (Err f) = refl

  abbrev Runs : Result Pairs Refusal → Engine D → Type 0
  Runs r new = RunsCommand history (run (world old)) r old new

  refused_makes : (new : Engine D) (e : Refusal) → ChangesCollections history (plan name ss now) (Err e) old new → Runs (Err e) new
  refused_makes new e makes = performs_refused history (reply_in (run_all name ss now)) (plan name ss now) (run (world old)) old new runs e makes

  -- it was refused before anything was written
  unwritten : (mid : Engine D) (e : Refusal) → OnlyReads history old mid
      → (KeepsWord (disk_history history mid) → (plan name ss now ≡ Err e) ⊎ HasReadCause history (file_of old) (file_of mid) e) → Runs (Err e) mid
  unwritten mid e reads why = refused_makes mid e (makes_none history (plan name ss now) old mid e reads why)

  done_makes : (new : Engine D) (d : Pairs) → (KeepsWord (disk_history history new) → IsReplied now name ss d)
      → ChangesCollections history (plan name ss now) (Ok tt) old new → Runs (Ok d) new
  done_makes new d replied makes = record {
    sound = makes.sound;
    continues = continues_of history old new makes.continues;
    start = makes.start;
    as_planned = λ k.
        let x = replied k in
        let said = x.replied ∙ ap (λ (r : Result Updated Refusal). ok_reply (reply_in r)) (sym x.is) in
        (performs_done history (reply_in (run_all name ss now)) (plan name ss now) (run (world old)) old new runs d said makes).as_planned k;
    left = tt;
    refused = tt;
    keeps = makes.keeps;
  }

  abbrev Tried : Result Ran Refusal → Engine D → Type 0
  Tried r mid = MayRefuse history (IsUpdate now name ss) (IsFullFor now name ss) r old mid

  pub update_unmade : (mid : Engine D) (e : Refusal) → Tried (Err e) mid → Runs (Err e) mid
  update_unmade mid e tries = unwritten mid e tries.reads (λ k. elim (tries.answers k) [
    | inl full ↦ inl (plan_full name ss now e full)
    | inr cause ↦ inr cause
  ])

  module _ (mid : Engine D) (x : Ran) (tries : Tried (Ok x) mid) where
    -- ---- nothing is written

    module _ (none : x.writes.items ≡ []) where
      pub nothing_unsaid : (e : Refusal) → RepliesTo x.end (Err e) → Runs (Err e) mid
      nothing_unsaid e replies = unwritten mid e tries.reads (λ k.
          let u = tries.answers k in
          elim (replied_refused now name ss x.writes.items x.end e u.end replies) [
            | inl is ↦ inl (nothing_refused name ss now x u none e is)
            | inr memory ↦ inr (inl memory)
          ])

      pub nothing_said : (d : Pairs) → RepliesTo x.end (Ok d) → Runs (Ok d) mid
      nothing_said d replies = done_makes mid d (λ k. replied_done now name ss x.writes.items x.end d (tries.answers k).end replies) (record {
        sound = tries.reads.sound;
        continues = tries.reads.continues;
        start = ap (λ (k : TurnStates). k.start) tries.reads.told;
        cursors = tries.reads.cursors;
        as_planned = λ k.
            let u = tries.answers k in
            let r = replied_done now name ss x.writes.items x.end d u.end replies in
            nothing_done name ss now x u none r.after r.is
            ∙ ap (λ (cs : List Collection). let q : Result (List Collection) Refusal = Ok cs in q) (sym (now_same history old mid tries.reads));
        left = tt;
        refused = tt;
        keeps = λ t. tries.reads.changes ∙ t;
      })

      pub nothing_replied : (r : Result Pairs Refusal) → RepliesTo x.end r → Runs r mid
      nothing_replied (Ok d) replies = nothing_said d replies
      nothing_replied (Err e) replies = nothing_unsaid e replies

    -- ---- something is

    module _ (some : x.writes.items ≢ []) (last : Engine D) where
      abbrev Edits_of : Result (List Edit) Refusal → Type 0
      Edits_of r = NotesWrites history name x.writes.items r mid last

      same_mid : (world mid).collections ≡ now
      same_mid = now_same history old mid tries.reads

      its_update : OnlyReads history mid last → KeepsWord (disk_history history last) → IsUpdate now name ss x
      its_update later k = tries.answers (word_before history mid.file last.file later.continues k)

      its_writes : OnlyReads history mid last → KeepsWord (disk_history history last) → AreWritesOf (documents_of (world mid).collections name) x.writes.items
      its_writes later k = subst (λ (cs : List Collection). AreWritesOf (documents_of cs name) x.writes.items) (sym same_mid) (its_update later k).writes

      pub update_unnoted : (e : Refusal) → Edits_of (Err e) → Runs (Err e) last
      update_unnoted e notes = unwritten last e (reads_on history old mid last tries.reads notes.reads) (λ k.
          elim (notes.answers k (its_writes notes.reads k)) [
            | inl is ↦ inl
                (written_refused name ss now x (its_update notes.reads k) some e (ap (written_in name (map seen x.writes.items)) (sym same_mid) ∙ is))
            | inr cause ↦ inr
                (cause_from history old.file mid.file last.file tries.reads.continues (word_before history mid.file last.file notes.reads.continues k) e cause)
          ])

      module _ (edits : List Edit) (notes : Edits_of (Ok edits)) where
        noted_now : KeepsWord (disk_history history last) → ArePlanned edits now (written_in name (map seen x.writes.items) now)
        noted_now k =
            subst (λ (cs : List Collection). ArePlanned edits cs (written_in name (map seen x.writes.items) cs)) same_mid
            (notes.answers k (its_writes notes.reads k))

        all_reads : OnlyReads history old last
        all_reads = reads_on history old mid last tries.reads notes.reads

        same_last : (world last).collections ≡ now
        same_last = now_same history old last all_reads

        pub update_unsaid : (e : Refusal) → RepliesTo x.end (Err e) → Runs (Err e) last
        update_unsaid e replies = unwritten last e all_reads (λ k.
            let u = its_update notes.reads k in
            let p = noted_now k in
            elim (replied_refused now name ss x.writes.items x.end e u.end replies) [
              | inl is ↦ inl (ran_refused name ss now x u some p.next p.is e is)
              | inr memory ↦ inr (inl memory)
            ])

        module _ (d : Pairs) (replies : RepliesTo x.end (Ok d)) where
          planned_now : KeepsWord (disk_history history last) → ArePlanned edits (world last).collections (plan name ss (world last).collections)
          planned_now k =
              let u = its_update notes.reads k in
              let p = noted_now k in
              let r = replied_done now name ss x.writes.items x.end d u.end replies in
              let there : ArePlanned edits now
              (plan name ss now) = record { next = p.next; is = written_done name ss now x u some p.next p.is r.after r.is; leads = p.leads } in
              subst (λ (cs : List Collection). ArePlanned edits cs (plan name ss cs)) (sym same_last) there

          pub update_leads : KeepsWord (disk_history history last) → IsRunning last
              → Leads edits (world last).collections (planned_or (world last).collections (plan name ss (world last).collections))
              × states.IsLawfulState (planned_or (world last).collections (plan name ss (world last).collections))
          update_leads k running =
              let p = planned_now k in
              leads_planned edits (world last).collections p.next (plan name ss (world last).collections) p.is
              (p.leads (lawful_now history last notes.reads.sound k running))

          module _ (new : Engine D) where
            abbrev Written : Result (Unit {0}) Refusal → Type 0
            Written r = Writes history (planned_or (world last).collections (plan name ss (world last).collections)) r last new

            writes_made : (r : Result (Unit {0}) Refusal) → Written r → ChangesCollections history (plan name ss now) r old new
            writes_made r writes =
                makes_written history (plan name ss) old last new all_reads r
                (λ k. let p = planned_now k in planned_is (world last).collections p.next (plan name ss (world last).collections) p.is) writes

            pub update_unwritten : (e : Refusal) → Written (Err e) → Runs (Err e) new
            update_unwritten e writes = refused_makes new e (writes_made (Err e) writes)

            pub update_done : Written (Ok tt) → Runs (Ok d) new
            update_done writes =
                done_makes new d (λ k.
                let u = its_update notes.reads (word_before history last.file new.file writes.continues k) in
                replied_done now name ss x.writes.items x.end d u.end replies) (writes_made (Ok tt) writes)

            -- no document changed, so none was written
            pub nothing_changed : Written (Ok tt) → KeepsWord (disk_history history new)
                → ChangesNone (world old) (update (record { namespace = name; statements = ss })) → has_changes new ≡ has_changes old
            nothing_changed writes k none = at x.end refl replies
              where
                u : IsUpdate now name ss x
                u = its_update notes.reads (word_before history last.file new.file writes.continues k)

                at : (r : Result Tally Refusal) → x.end ≡ r → RepliesTo r (Ok d) → has_changes new ≡ has_changes old
                at (Ok t) is said = absurd (some (nothing_written name ss now x u (world old) refl t is none))
                at (Err e) is said = absurd cc
