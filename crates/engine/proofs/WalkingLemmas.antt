-- A find gives a first batch while it walks, and opens a cursor that goes on from there.
use Rattle.std.proofs.Common.{◌≡◌, ℕ, ◌+◌, ◌-◌, ◌^◌, ◌<◌, ◌≤◌, true, false, List, [], ◌∷◌}
use Rattle.std.proofs.Common.{◌++◌, length, drop, take, Option, Some, None, Result, Ok, Err, refl, sym}
use Rattle.std.proofs.Common.{inl, inr, ap, subst, ◌∙◌, arith}
use Rattle.std.specs.Prelude.{All, Bool, IfNone, IfSome, MatchOption, codes, is_some, map, not, unwrap_or}
use Rattle.std.specs.Global.{Vec}
use Rattle.std.proofs.lemmas.List.{length-drop, take_all}
use Rattle.std.proofs.lemmas.List.Elements.{All-append, All-cons, All-filter, All-take}
use Rattle.bson.specs.Tree.{Pairs}
use Rattle.command_model.specs.Find.{Find, Query}
use Rattle.filter.specs.Condition.{Conditions}
use Rattle.filter.specs.Matches.{matches}
use Rattle.projection.specs.Projection.{Projection, project}
use Rattle.page.specs.History.{History, KeepsWord}
use Rattle.collections.specs.State.{State}
use Rattle.entry_model.specs.LawfulState.{IsRising}
use Rattle.entry_model.specs.State.{Collection, key_of}
use Rattle.entry_model.specs.StateReads.{find_document}
use Rattle.entries.specs.declared.catalogue_reading.Catalogued.{Catalogued}
use Rattle.cursors.specs.Held.{Held, Way, through, listed, table_of}
use Rattle.pinned_cursors.specs.Opening.{IsLeftOf, OpensPinned, Tells}
use Rattle.pinned_cursors.specs.Tied.{IsLeftBy}
use Rattle.pinned_cursors.specs.Turns.{Releases}
use Rattle.path.specs.declared.refusal.Refusal.{Refusal}
use Rattle.path.specs.declared.refusal.Refusal.TheVariants as refusals
use Rattle.database_model.specs.Cursors.{batch_of, batch_reply, first_batch, is_refused, new_cursor}
use Rattle.database_model.specs.Find.{FirstAreEnough, given, matching, query_result, run_find, window}
use Rattle.sort.specs.Sort.{SortField, order}
use Rattle.queries.proofs.IdOrderLemmas.{keeps_matching}
use Rattle.queries.proofs.OrderingLemmas.{first_kept}
use Rattle.database_model.specs.Lawful.{IsKept, IsLawful, IsStored, IsWithin}
use Rattle.database_model.specs.Refusals.{ok_reply}
use Rattle.database_model.specs.World.{Cursor, World, documents_of}
use Rattle.walks.specs.Batches.{GoesOn, IsGivenBatch, is_from, rest_from, rest_of, walk_rest}
use Rattle.queries.specs.IdOrder.{keeps_id_order}
use Rattle.walks.specs.Listed.{id_text_of}
use Rattle.walks.specs.declared.batches.BatchAsked.{BatchAsked}
use Rattle.walks.specs.declared.batches.GivenBatch.{GivenBatch}
use Rattle.walks.specs.declared.batches.Walk.{Walk}
use Rattle.walks.proofs.WalkLeftLemmas.{whole_walk}
use Rattle.replies.specs.View.{batch_name, with_ok}
use Rattle.replies.specs.declared.batch_spelling.BatchKind.TheVariants as kinds
use Rattle.statements.proofs.KeptLemmas.{stored_at}
use Rattle.database_model.proofs.Numbers.{found_kept}
use Rattle.engine.specs.Durable.{IsSound, disk_history}
use Rattle.engine.specs.Performing.{RunsReadingCommand}
use Rattle.engine.specs.TakingOut.{HasHome}
use Rattle.engine.specs.View.{world, world_of}
use Rattle.engine.specs.Walking.{AreOf, IsWholeWalk}
use Rattle.engine.specs.declared.engine.Engine.{Engine}
use Rattle.engine.proofs.Finding.{given_enough, given_within, stored_within, window_kept}
use Rattle.engine.proofs.LostLemmas.{each_found}
use Rattle.engine.proofs.NamedLemmas.{documents_found}
use Rattle.engine.proofs.Running.{opened_batch, refused_batch, run_find-is, whole_batch}
use Rattle.engine.proofs.Sound.{lawful_world, performs_pins}

-- what a walk gives of stored documents is within the limits
pub walk_within : (rules : Conditions) (p : Projection) (skip limit : ℕ) (from : List ℕ) (ds : List Pairs) → All IsStored ds
    → All IsWithin (walk_rest rules p skip limit from ds)
walk_within rules p skip limit from ds stored =
    let within : All IsWithin ds = λ k d below. stored_within _ (stored k d below) in
    given_within p _ (window_kept IsWithin skip limit (matching rules (rest_from from ds))
    (All-filter (matches rules) IsWithin (rest_from from ds) (All-filter (is_from from) IsWithin ds within)))

-- what was found in the order of a query is what it asks for, as far as so many suffice
pub found_ordered : (w : World) (connection : ℕ) (name : List ℕ) (q : Query) (most enough : ℕ) (found : List Pairs) → FirstAreEnough q enough
    → found ≡ take enough (order q.sort (matching q.filter (documents_of w.collections name))) → length found < 2 ^ 64 - 1
    → first_batch w connection name (given q found) (batch_of most (given q found))
    ≡ run_find w connection (record { namespace = name; query = q; batch_size = Some most })
found_ordered w connection name q most enough found suffices is few =
    run_find-is w connection name q most (given q found) (given_enough q enough (documents_of w.collections name) found suffices is few)

-- the documents that match stand in the order that the query asks for
abbrev pub StandInOrder : World → List ℕ → Query → Type 0
StandInOrder w name q = order q.sort (matching q.filter (documents_of w.collections name)) ≡ matching q.filter (documents_of w.collections name)

-- so they do where that leaves the order of `_id` as it is
pub stand_so : {D : Type 0} (history : D → History) (e : Engine D) (name : List ℕ) (q : Query) → IsSound history e → keeps_id_order q.sort ≡ true
    → StandInOrder (world e) name q
stand_so history e name q sound keeps =
    let stored = stored_at (world e).collections name (lawful_world history e sound).collections.kept in
    keeps_matching q.sort q.filter (documents_of (world e).collections name) keeps stored.0 stored.1

-- then what was found in the order of `_id` is what it asks for, too
pub found_plain : (w : World) (connection : ℕ) (name : List ℕ) (q : Query) (most : ℕ) → StandInOrder w name q → (enough : ℕ) (found : List Pairs)
    → FirstAreEnough q enough → found ≡ take enough (matching q.filter (documents_of w.collections name)) → length found < 2 ^ 64 - 1
    → first_batch w connection name (given q found) (batch_of most (given q found))
    ≡ run_find w connection (record { namespace = name; query = q; batch_size = Some most })
found_plain w connection name q most stand enough found suffices is few =
    found_ordered w connection name q most enough found suffices (is ∙ ap (take enough) (sym stand)) few

-- the batch that a whole walk gave is the first of what the query asks for
module _ (w : World) (connection : ℕ) (name : List ℕ) (q : Query) (most : ℕ) (stand : StandInOrder w name q) (walk : Walk) (is : IsWholeWalk q walk)
    (asked : BatchAsked) (kind : asked.kind ≡ kinds.First) (named : asked.namespace.now ≡ name) (most_is : asked.most ≡ most)
    (b : GivenBatch) (given : IsGivenBatch walk asked (documents_of w.collections name) b) where
  abbrev ds : List Pairs
  ds = documents_of w.collections name

  abbrev gs : List Pairs
  gs = query_result q ds

  abbrev pub find_asked : Find
  find_asked = record { namespace = name; query = q; batch_size = Some most }

  abbrev planned : Result (World × Pairs) Refusal
  planned = run_find w connection find_asked

  rest_is : rest_of walk ds ≡ gs
  rest_is = (λ i. walk_rest (is.filter i) (is.projection i) (is.skip i) (is.limit i) (is.from i) ds) ∙ whole_walk q ds stand

  counted : b.count ≡ batch_of most gs
  counted = given.counted ∙ (λ i. batch_of (most_is i) (rest_is i))

  says : b.reply ≡ ok_reply (batch_reply (codes "firstBatch") b.count gs asked.number name)
  says = given.says ∙ (λ i. ok_reply (batch_reply (batch_name (kind i)) b.count (rest_is i) asked.number (named i)))

  planned_is : planned ≡ first_batch w connection name gs b.count
  planned_is = sym (run_find-is w connection name q most gs refl) ∙ ap (first_batch w connection name gs) (sym counted)

  pub walked_whole : b.next ≡ None → with_ok planned ≡ Ok (w, b.reply)
  walked_whole none =
      let few : length (rest_of walk ds) ≤ b.count = subst
      (λ (o : Option (Vec ℕ)). MatchOption o (length (rest_of walk ds) ≤ b.count) (λ text. GoesOn walk ds b.count text.items)) none given.next in
      ap with_ok planned_is
      ∙ whole_batch w connection name gs b.count asked.number b.reply (subst (λ (es : List Pairs). length es ≤ b.count) rest_is few) says

  module _ (text : Vec ℕ) (some : b.next ≡ Some text) where
    extends : GoesOn walk ds b.count text.items
    extends = subst
        (λ (o : Option (Vec ℕ)). MatchOption o (length (rest_of walk ds) ≤ b.count) (λ text. GoesOn walk ds b.count text.items)) some given.next

    over : b.count < length gs
    over = subst (λ (es : List Pairs). b.count < length es) rest_is extends.more

    pub walked_refused : is_refused connection w.cursors w.next ≡ true → planned ≡ Err refusals.TooMany
    walked_refused full = planned_is ∙ refused_batch w connection name gs b.count over full

    -- what is left
    abbrev left : List Pairs
    left = walk_rest walk.filter.now walk.projection.now 0 (walk.limit - b.count) text.items ds

    pub walked_opened : asked.number ≡ w.next → is_refused connection w.cursors w.next ≡ false → (new : World)
        → new ≡ record w { cursors = w.cursors ++ new_cursor w.next connection name left ∷ []; next = w.next + 1 } → with_ok planned ≡ Ok (new, b.reply)
    walked_opened number free new made =
        let behind : left ≡ drop b.count gs = extends.left ∙ ap (drop b.count) rest_is in
        ap with_ok planned_is
        ∙ opened_batch w connection name gs b.count asked.number b.reply new over number free
        (made ∙ ap (λ (es : List Pairs). let x : World =
        record w { cursors = w.cursors ++ new_cursor w.next connection name es ∷ []; next = w.next + 1 } in x) behind) says

-- ---- the number of the next cursor

pub number_is : (o : Option ℕ) (P : ℕ → Type 0) (none : Bool) → is_some o ≡ not none → none ≡ false → IfSome o P → P (unwrap_or o 0)
number_is (Some n) P none told is h = h
number_is None P none told is h = absurd cc

pub number_lacks : (o : Option ℕ) (Q : Type 0) (none : Bool) → is_some o ≡ not none → none ≡ true → IfNone o Q → Q
number_lacks (Some n) Q none told is h = absurd cc
number_lacks None Q none told is h = h

-- what is so of the documents of the collection at home is so of those of the name
pub at_home : (now : List Collection) (name : List ℕ) (home : Catalogued) (f : HasHome now name home) (Q : List Pairs → Type 0) → Q f.collection.documents
    → Q (documents_of now name)
at_home now name home f Q h = subst Q (sym (documents_found now name f.collection f.found)) h

-- ---- what is left of a collection

module _ {D : Type 0} (history : D → History) (mid : Engine D) (h : IsSound history mid) (name : List ℕ) (home : Catalogued)
    (at : HasHome (world mid).collections name home) where
  -- in this way, of the one of that name
  pub left_of_home : (p : Projection) (way : Way) (rest : List Pairs) → IsLeftBy way p at.collection rest
      → IsLeftOf history mid.file home.number p way rest
  left_of_home p way rest left = record {
    start = mid.told.value.start;
    now = mid.told.value.now;
    has = h.file;
    home = at.collection;
    numbered = at.catalogued.numbered;
    stored = (found_kept (world mid).collections at.collection.name at.collection h.lawful.kept at.catalogued.numbered.found).lawful.stored;
    left = left;
  }

  pub left_by_walk : (rules : Conditions) (p : Projection) (limit : ℕ) (from : List ℕ) (rest : List Pairs)
      → rest ≡ walk_rest rules p 0 limit from (documents_of (world mid).collections name)
      → IsLeftOf history mid.file home.number p (through rules limit from) rest
  left_by_walk rules p limit from rest is =
      left_of_home p (through rules limit from) rest
      (is ∙ ap (walk_rest rules p 0 limit from) (documents_found (world mid).collections name at.collection at.found))

  pub left_by_list : (p : Projection) (texts : List (List ℕ)) (some rest : List Pairs)
      → All (λ d. find_document at.collection.documents (key_of d) ≡ Some d) some → texts ≡ map id_text_of some → rest ≡ map (project p) some
      → IsLeftOf history mid.file home.number p (listed texts) rest
  left_by_list p texts some rest found spelled is =
      left_of_home p (listed texts) rest (record { some = some; there = record { found = found; spelled = spelled }; same = is })

-- the documents behind the first n, of a slice
pub behind_of : {X : Type 0} (n : ℕ) (seen xs : List X) → seen ≡ xs → take (length seen - n) (drop n seen) ≡ drop n xs
behind_of n seen xs is = take_all (length seen - n) (drop n seen) (omega (arith, length-drop n seen)) ∙ ap (drop n) is

-- ---- the cursor on it

module _ {D : Type 0} (history : D → History) (mid : Engine D) (connection : ℕ) (name : List ℕ) (number : ℕ) (p : Projection) (way : Way) (rest : List Pairs)
    (file : State D) (held : Held) (left : KeepsWord (disk_history history mid) → IsLeftOf history mid.file number p way rest) where
  abbrev new : Engine D
  new = record mid { file = file; cursors = held }

  abbrev Opens : {E : Type 0} → Result (Unit {0}) E → Type 0
  Opens r = OpensPinned history connection name number p way rest r mid.file file mid.cursors held

  pub opens_releases : {E : Type 0} (r : Result (Unit {0}) E) → Tells mid.is_changed mid.file → Opens r
      → Releases mid.is_changed history mid.file file mid.cursors held
  opens_releases r tells opens = record { pins = opens.pins; tied = opens.tied left mid.is_changed tells }

  abbrev with_rest : World
  with_rest = record (world mid) {
    cursors = (world mid).cursors ++ new_cursor (world mid).next connection name rest ∷ [];
    next = (world mid).next + 1;
  }

  abbrev holds_within : Cursor → Type 0
  holds_within c = All IsWithin c.rest

  module _ (h : IsSound history mid) (rest_within : All IsWithin rest) where
    with_rest_lawful : IsLawful with_rest
    with_rest_lawful = record {
      collections = h.lawful;
      cursors = All-append holds_within (world mid).cursors (new_cursor (world mid).next connection name rest ∷ []) h.cursors
          (All-cons holds_within (new_cursor (world mid).next connection name rest) [] rest_within (λ k d below. absurd (omega (arith, below))));
    }

    module _ {E : Type 0} (planned : Result (World × Pairs) Refusal) where
      pub opens_done : Opens {E = E} (Ok tt) → (reply : Pairs) → (KeepsWord (disk_history history mid) → with_ok planned ≡ Ok (with_rest, reply))
          → RunsReadingCommand history planned (Ok reply) mid new
      opens_done opens reply is =
          let made : world new ≡ with_rest = ap (world_of mid.told.value) opens.ok in
          performs_pins history mid new planned (Ok reply) h opens.pins (opens.tied left mid.is_changed h.unchanged h.tied) refl refl
          (subst IsLawful (sym made) with_rest_lawful)
          (λ k. is (subst KeepsWord opens.pins.untouched.disk k)
          ∙ (λ i. let r : Result (World × Pairs) Refusal = Ok (sym made i, reply) in r)) tt

      pub opens_failed : (fault : E) → Opens (Err fault) → (e : Refusal) → e ≡ refusals.OutOfMemory → RunsReadingCommand history planned (Err e) mid new
      opens_failed fault opens e memory =
          let same : world new ≡ world mid = ap (λ (t : Held). world_of mid.told.value (table_of t)) opens.err in
          performs_pins history mid new planned (Err e) h opens.pins (opens.tied left mid.is_changed h.unchanged h.tied) refl refl
          (subst IsLawful (sym same) (lawful_world history mid h))
          (λ k. (same, inr (inl memory))) same

-- ---- what was found

-- The first documents of a collection that match, in an order or in their own, are documents of it.
module _ (ds : List Pairs) (up : IsRising ds) (rules : Conditions) (most : ℕ) where
  abbrev Found : Pairs → Type 0
  Found d = find_document ds (key_of d) ≡ Some d

  matching_found : All Found (matching rules ds)
  matching_found = All-filter (matches rules) Found ds (each_found ds up)

  pub first_found : (found : List Pairs) → found ≡ take most (matching rules ds) → All Found found
  first_found found is = subst (All Found) (sym is) (All-take Found most (matching rules ds) matching_found)

  pub ordered_found : (fields : List SortField) (found : List Pairs) → found ≡ take most (order fields (matching rules ds)) → All Found found
  ordered_found fields found is = subst (All Found) (sym is) (first_kept Found fields most (matching rules ds) matching_found)

-- They are so of the collection of a name, of which the catalogue has this.
module _ (now : List Collection) (kept : All IsKept now) (name : List ℕ) (home : Catalogued) (at : HasHome now name home) where
  rising_there : IsRising at.collection.documents
  rising_there = (found_kept now name at.collection kept at.found).lawful.rising

  pub first_of : (rules : Conditions) (most : ℕ) (found : List Pairs) → found ≡ take most (matching rules at.collection.documents) → AreOf now name home found
  first_of rules most found is = record { at = at; there = first_found at.collection.documents rising_there rules most found is }

  pub ordered_of : (rules : Conditions) (most : ℕ) (fields : List SortField) (found : List Pairs)
      → found ≡ take most (order fields (matching rules at.collection.documents)) → AreOf now name home found
  ordered_of rules most fields found is = record { at = at; there = ordered_found at.collection.documents rising_there rules most fields found is }

-- so are those in a window of them, and those behind the first ones
pub window_of : (now : List Collection) (name : List ℕ) (home : Catalogued) (skip limit : ℕ) (found : List Pairs) → AreOf now name home found
    → AreOf now name home (window skip limit found)
window_of now name home skip limit found h =
    record { at = h.at; there = window_kept (λ d. find_document h.at.collection.documents (key_of d) ≡ Some d) skip limit found h.there }
