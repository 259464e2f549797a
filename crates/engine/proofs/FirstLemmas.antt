-- A find that sorts gives a first batch of the documents that a list tells, or in the order of an index, and a cursor goes on by the others.
use Rattle.std.proofs.Common.{◌≡◌, ◌⊎◌, inl, inr, ℕ, ◌<◌, ◌≤◌, ◌^◌, ◌-◌, take, Bool, true, false, List, length, map, Option, Some, None, Result, Ok, Err}
use Rattle.std.proofs.Common.{refl, sym, ap, subst, ◌∙◌, arith}
use Rattle.std.specs.Prelude.{All, Contains, MatchResult, OnErr, nat_le}
use Rattle.std.specs.Global.{Vec}
use Rattle.std.proofs.lemmas.Bool.Decides.{nat_tests}
use Rattle.std.proofs.lemmas.List.{length-map}
use Rattle.bson.specs.Tree.{Pairs}
use Rattle.command_model.specs.Find.{Find, Query}
use Rattle.page.specs.History.{History, KeepsWord}
use Rattle.path.specs.declared.refusal.Refusal.{Refusal}
use Rattle.path.specs.declared.refusal.Refusal.TheVariants as refusals
use Rattle.projection.specs.Projection.{Projection, project}
use Rattle.collections.specs.Calls.{HasReadCause, IsUnchanged}
use Rattle.collections.specs.Standing.{HasState}
use Rattle.collections.specs.State.{State}
use Rattle.cursors.specs.Held.{Held, Way, cursors_of, listed, ordered, table_of}
use Rattle.database_model.specs.Cursors.{batch_of, first_batch}
use Rattle.database_model.specs.Find.{FirstAreEnough, matching, query_result, run_find, selection, window}
use Rattle.database_model.specs.Lawful.{AreLawfulCursors}
use Rattle.database_model.specs.World.{World, documents_of}
use Rattle.entry_model.specs.State.{key_of}
use Rattle.entry_model.specs.StateReads.{find_document}
use Rattle.entries.specs.declared.catalogue_reading.Catalogued.{Catalogued}
use Rattle.index.specs.Definition.{Definition}
use Rattle.index.specs.View.{texts_of}
use Rattle.entry_model.proofs.FoundLawLemmas.{found_collection}
use Rattle.planner.proofs.AnswerLemmas.{kept_are_noted}
use Rattle.pinned_cursors.specs.Batches.{ReadsThenPins}
use Rattle.pinned_cursors.specs.First.{GivesFirst, GivesNone, IsFirstGiven, OrNone}
use Rattle.pinned_cursors.specs.Opening.{IsLeftOf, that_keep, way_in_order}
use Rattle.pinned_cursors.specs.Turns.{OnlyPins}
use Rattle.queries.specs.IndexOrder.{IsOrderOf}
use Rattle.walks.specs.Listed.{id_text_of}
use Rattle.walks.specs.declared.in_order.OrderedWalk.{OrderedWalk}
use Rattle.queries.specs.declared.index_order.IndexOrder.{IndexOrder}
use Rattle.walks.proofs.InOrderLemmas.{whole_order}
use Rattle.replies.specs.FirstBatch.{IsFirstBatch, IsNoBatch}
use Rattle.replies.specs.View.{with_ok}
use Rattle.sort.specs.Sort.{order}
use Rattle.database_model.proofs.Numbers.{found_kept}
use Rattle.engine.specs.Durable.{IsSound, disk_history, is_stopped}
use Rattle.engine.specs.Continuing.{Continues}
use Rattle.engine.specs.Performing.{DoesReading, MayPerform, RunsReadingCommand, StaysAlike}
use Rattle.engine.specs.TakingOut.{HasHome}
use Rattle.engine.specs.View.{world, world_of}
use Rattle.engine.specs.Walking.{AreIdsAsked, IsWholeOrder}
use Rattle.engine.specs.declared.engine.Engine.{Engine}
use Rattle.engine.proofs.Continuing.{continues_further, continues_of, continues_still}
use Rattle.engine.proofs.Finding.{chosen_kept, window-map}
use Rattle.engine.proofs.LostLemmas.{each_found}
use Rattle.engine.proofs.NamedLemmas.{documents_found}
use Rattle.engine.proofs.Running.{given_none, given_opened, given_whole, run_find-is}
use Rattle.engine.proofs.Sound.{performs_tied}
use Rattle.engine.proofs.WalkingLemmas.{left_by_list, left_of_home}

-- A window of the texts of those that were found is that of what the query asks for.
pub ids_asked : (q : Query) (enough : ℕ) (ds : List Pairs) (ids asked : List (Vec ℕ)) → FirstAreEnough q enough
    → texts_of ids ≡ map id_text_of (take enough (order q.sort (matching q.filter ds))) → length ids < 2 ^ 64 - 1 → asked ≡ window q.skip q.limit ids
    → texts_of asked ≡ map id_text_of (selection q ds)
ids_asked q enough ds ids asked suffices told few is =
    let xs = order q.sort (matching q.filter ds) in
    let as_many : length (take enough xs) ≡ length ids =
    sym (length-map (take enough xs) id_text_of) ∙ ap length (sym told) ∙ length-map ids (λ (v : Vec ℕ). v.items) in
    ap texts_of is ∙ window-map (λ (v : Vec ℕ). v.items) q.skip q.limit ids ∙ ap (window q.skip q.limit) told
    ∙ sym (window-map id_text_of q.skip q.limit (take enough xs)) ∙ ap (map id_text_of) (suffices xs (omega (arith, as_many, few)))

module _ {D : Type 0} (history : D → History) (old : Engine D) (h : IsSound history old) (connection : ℕ) (name : List ℕ) (q : Query)
    (most : ℕ) where
  -- what the query asks for
  abbrev gs : List Pairs
  gs = query_result q (documents_of (world old).collections name)

  abbrev asked : Find
  asked = record { namespace = name; query = q; batch_size = Some most }

  abbrev planned : Result (World × Pairs) Refusal
  planned = run_find (world old) connection asked

  -- A list tells it.
  pub left_of_list : (home : Catalogued) (texts : List (List ℕ)) → AreIdsAsked (world old).collections name home q texts
      → IsLeftOf history old.file home.number q.projection (listed texts) gs
  left_of_list home texts a =
      let ds = a.at.collection.documents in
      let Found : Pairs → Type 0 = λ d. find_document ds (key_of d) ≡ Some d in
      let rising = (found_kept (world old).collections name a.at.collection h.lawful.kept a.at.found).lawful.rising in
      left_by_list history old h name home a.at q.projection texts (selection q ds) gs (chosen_kept Found q ds (each_found ds rising)) a.ids
      (ap (query_result q) (documents_found (world old).collections name a.at.collection a.at.found))

  -- So does an index in the order of the query's sort.
  pub left_in_order : (home : Catalogued) (o : IndexOrder) (walk : OrderedWalk) → is_stopped old ≡ false → KeepsWord (disk_history history old)
      → HasHome (world old).collections name home → IsOrderOf q.filter q.sort home.indexes.items o → IsWholeOrder q o walk
      → IsLeftOf history old.file home.number walk.projection.now (way_in_order walk) gs
  left_in_order home o walk running k at is whole =
      let c = at.collection in
      let i = o.index.now in
      let kept = (found_collection (world old).collections c.name c (h.file running k).now_state at.catalogued.numbered.found).0 in
      let there : Contains c.indexes i = subst (λ (ds : List Definition). Contains ds i) (sym at.catalogued.indexed) is.there in
      let base : IsLeftOf history old.file home.number q.projection (ordered q.filter i q.skip q.limit o.first.items o.last.items) gs =
      left_of_home history old h name home at q.projection (ordered q.filter i q.skip q.limit o.first.items o.last.items) gs
      (record {
        there = there;
        sort = q.sort;
        in_order = is.in_order;
        same = ap (query_result q) (documents_found (world old).collections name c at.found)
            ∙ sym (whole_order q.filter q.sort i o.last.items is.in_order c.documents (kept_are_noted c i kept there) kept.storable kept.rising
            o.first.items is.begins q.projection q.skip q.limit);
      }) in
      subst (λ (p : Projection). IsLeftOf history old.file home.number p (way_in_order walk) gs) (sym whole.projection)
      (subst (λ (way : Way). IsLeftOf history old.file home.number q.projection way gs)
      (λ j. ordered (sym whole.filter j) (sym whole.index j) (sym whole.skip j) (sym whole.limit j) (sym whole.from j) (sym whole.last j)) base)

  module _ (file : State D) (held : Held) where
    abbrev new : Engine D
    new = record old { file = file; cursors = held }

    abbrev w : World
    w = world old

    given_so : (reply : Pairs) → IsFirstGiven connection name gs most old.cursors held reply → with_ok planned ≡ Ok (world new, reply)
    given_so reply g =
        ap with_ok (sym (run_find-is w connection name q most gs refl)) ∙ at (nat_le (length gs) g.n) refl
      where
        at : (b : Bool) → nat_le (length gs) g.n ≡ b → with_ok (first_batch w connection name gs (batch_of most gs)) ≡ Ok (world new, reply)
        at true fits =
            let few : length gs ≤ g.n = grind (arith, nat_tests, fits) in
            given_whole w connection name gs most g.n reply g.batch few
            ∙ (λ i. let r : Result (World × Pairs) Refusal = Ok (world_of old.told.value (sym (g.whole few) i), reply) in r)
        at false others =
            let over : g.n < length gs = grind (arith, nat_tests, others) in
            given_opened w connection name gs most g.n reply (world new) g.batch over (ap (world_of old.told.value) (g.opened over))

    -- pins came and went around what was read
    module _ (pinned : State D) (first : OnlyPins history old.file pinned) (then : ReadsThenPins history pinned file) where
      goes_pinned : Continues history old new
      goes_pinned =
          let mid : Engine D = record old { file = pinned } in
          let read : Engine D = record old { file = then.read } in
          let pins = then.pins in
          continues_further history old read new
          (continues_further history old mid read
          (continues_still history old mid first.untouched.disk first.untouched.stopped first.untouched.version first.takes
          first.untouched.reads)
          (continues_of history mid read then.extends))
          (continues_still history read new pins.untouched.disk pins.untouched.stopped pins.untouched.version pins.takes pins.untouched.reads)

      state_pinned : HasState history file old.told.value.start old.told.value.now
      state_pinned =
          let start = old.told.value.start in
          let now = old.told.value.now in
          then.pins.state start now (then.same start now (first.state start now h.file))

      unchanged_pinned : IsUnchanged history old.file file
      unchanged_pinned = (λ i. (then.pins.unchanged i, then.pins.takes i)) ∙ then.unchanged ∙ (λ i. (first.unchanged i, first.takes i))

    -- Nothing was given.
    pub first_spared : GivesNone history old.file file old.cursors held → StaysAlike history old new
    first_spared none = record {
      sound = record {
        lawful = h.lawful;
        cursors = subst (λ (t : Held). AreLawfulCursors (cursors_of t)) (sym none.same) h.cursors;
        before = h.before;
        quiet = h.quiet;
        file = state_pinned none.pinned none.first none.continues;
        unchanged = λ running clean. ap (λ (t : Bool × ℕ). t.0) (unchanged_pinned none.pinned none.first none.continues)
            ∙ h.unchanged (sym (goes_pinned none.pinned none.first none.continues).running ∙ running) clean;
        tied = none.tied old.is_changed h.tied;
      };
      continues = goes_pinned none.pinned none.first none.continues;
      told = refl;
      cursors = none.same;
      changes = refl;
      takes = ap (λ (t : Bool × ℕ). t.1) (unchanged_pinned none.pinned none.first none.continues);
    }

    -- a refusal that memory ran out, or that no cursor may be opened, is as planned or has its cause
    as_planned : (r : Result Pairs Refusal) → OnErr r (held ≡ old.cursors)
        → MatchResult r (IsFirstGiven connection name gs most old.cursors held)
        (λ e. HasReadCause history old.file file e ⊎ IsNoBatch (table_of old.cursors) connection gs most e) → DoesReading history planned r old new
    as_planned (Ok reply) same given = given_so reply given
    as_planned (Err e) same (inl cause) =
        (ap (λ (t : Held). world_of old.told.value (table_of t)) same, inr cause)
    as_planned (Err e) same (inr (inl memory)) =
        (ap (λ (t : Held). world_of old.told.value (table_of t)) same, inr (inl memory))
    as_planned (Err e) same (inr (inr many)) = (
      ap (λ (t : Held). world_of old.told.value (table_of t)) same,
      inl (sym (run_find-is w connection name q most gs refl)
          ∙ given_none w connection name gs most e (inr many) (λ memory. absurd (no (sym memory ∙ many.0)))),
    )
      where
        no : refusals.OutOfMemory ≡ refusals.TooMany → ⊥
        no e = cc

    same_world : (r : Result Pairs Refusal) → OnErr r (held ≡ old.cursors) → OnErr r (world new ≡ world old)
    same_world (Ok reply) same = tt
    same_world (Err e) same = ap (λ (t : Held). world_of old.told.value (table_of t)) same

    module _ (number : ℕ) (p : Projection) (way : Way) (left : KeepsWord (disk_history history old) → IsLeftOf history old.file number p way gs) where
      pub performs_first : (r : Result Pairs Refusal) → GivesFirst history connection name number p way gs most r old.file file old.cursors held
          → (AreLawfulCursors (cursors_of old.cursors) → AreLawfulCursors (cursors_of held)) → RunsReadingCommand history planned r old new
      performs_first r gives lawful =
          let start = old.told.value.start in
          let now = old.told.value.now in
          performs_tied history old new planned r h (goes_pinned gives.pinned gives.first gives.continues)
          (state_pinned gives.pinned gives.first gives.continues) (unchanged_pinned gives.pinned gives.first gives.continues)
          (gives.tied left old.is_changed h.unchanged h.tied) refl refl (record { collections = h.lawful; cursors = lawful h.cursors })
          (λ k. as_planned r gives.err (gives.answers k (left ((goes_pinned gives.pinned gives.first gives.continues).reads.extends.kept k))))
          (same_world r gives.err)

      pub may_first : (r : Result (Option Pairs) Refusal)
          → OrNone (λ x. GivesFirst history connection name number p way gs most x old.file file old.cursors held)
          (GivesNone history old.file file old.cursors held) r
          → (AreLawfulCursors (cursors_of old.cursors) → AreLawfulCursors (cursors_of held)) → MayPerform history planned r old new
      may_first (Ok None) none lawful = first_spared none
      may_first (Ok (Some reply)) gives lawful = performs_first (Ok reply) gives lawful
      may_first (Err e) gives lawful = performs_first (Err e) gives lawful

      -- those cursors that keep documents are the same
      pub may_keep : (r : Result (Option Pairs) Refusal)
          → OrNone (λ x. GivesFirst history connection name number p way gs most x old.file file old.cursors held)
          (GivesNone history old.file file old.cursors held) r
          → that_keep held ≡ that_keep old.cursors
      may_keep (Ok None) none = ap that_keep none.same
      may_keep (Ok (Some reply)) gives = gives.keep
      may_keep (Err e) gives = gives.keep
