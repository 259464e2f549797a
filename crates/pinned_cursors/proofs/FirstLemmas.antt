-- A first batch is read from the version that is pinned, of the documents of a list or in the order of an index, and a cursor is opened
-- on the others.
use Rattle.std.proofs.Common.{◌≡◌, inl, inr, ℕ, ◌<◌, ◌≤◌, Bool, true, false, List, length, drop, take}
use Rattle.std.proofs.Common.{Option, Some, None, Result, Ok, Err, refl, sym, ap, subst, ◌∙◌, arith}
use Rattle.std.specs.Prelude.{◌⊎◌, ◌^◌, not, is_some, codes, IfNone, IfSome, MatchOption, MatchResult}
use Rattle.std.specs.Global.{Vec}
use Rattle.std.proofs.lemmas.Bool.Decides.{nat_tests}
use Rattle.bson.specs.Tree.{Pairs}
use Rattle.page.specs.History.{History, KeepsWord}
use Rattle.tree_model.specs.Keys.{times}
use Rattle.pager.specs.declared.version.Version.{Version}
use Rattle.path.specs.declared.refusal.Refusal.{Refusal}
use Rattle.path.specs.declared.refusal.Refusal.TheVariants as refusals
use Rattle.collections.specs.Calls.{ExtendsTurn, HasReadCause, HasFailed, IsUnchanged}
use Rattle.collections.specs.Standing.{HasState}
use Rattle.collections.specs.State.{State}
use Rattle.collections.specs.Versions.{PinsNow, ReadsVersion, UnpinsVersion}
use Rattle.collections.specs.View.{disk_history, is_stopped}
use Rattle.collections.proofs.StandingLemmas.{stopped_same}
use Rattle.collections.proofs.VersionLemmas.{pins_stay}
use Rattle.database_model.specs.Cursors.{batch_of, batch_reply, cursor_reply, is_refused, new_cursor, number_after}
use Rattle.database_model.specs.Refusals.{ok_reply}
use Rattle.replies.specs.FirstBatch.{IsNoBatch}
use Rattle.replies.specs.View.{batch_name}
use Rattle.replies.specs.declared.batch_spelling.BatchKind.TheVariants as batches
use Rattle.projection.specs.Projection.{Projection}
use Rattle.entry_model.specs.State.{Collection}
use Rattle.walks.specs.InOrder.{IsOrderedBatch}
use Rattle.walks.specs.Listed.{AreListedIn, Chosen, IsListedBatch, given_of}
use Rattle.walks.specs.declared.batches.BatchAsked.{BatchAsked}
use Rattle.walks.specs.declared.batches.GivenBatch.{GivenBatch}
use Rattle.walks.specs.declared.in_order.OrderedWalk.{OrderedWalk}
use Rattle.cursors.specs.Changes.{further, opened}
use Rattle.cursors.specs.Held.{Held, HeldCursor, HeldWalk, Way, listed, cursors_of, table_of}
use Rattle.cursors.specs.TableLaws.{opened_in_table}
use Rattle.pinned_cursors.specs.Batches.{ReadsThenPins}
use Rattle.pinned_cursors.specs.First.{GivesFirst, GivesNone, GivesPinned, KeepsPin, PinnedNone}
use Rattle.pinned_cursors.specs.Opening.{IsLeftOf, Tells, held_walk, that_keep, way_in_order}
use Rattle.pinned_cursors.specs.Tied.{AreTied, ListsRest, ReadsRest, TiedBeside, pins_by}
use Rattle.pinned_cursors.specs.Turns.{OnlyPins}
use Rattle.pinned_cursors.specs.declared.first.FirstGiven.{FirstGiven}
use Rattle.pinned_cursors.proofs.NextLemmas.{lists_on}
use Rattle.pinned_cursors.proofs.OpeningLemmas.{opened_keeps, reads_left}
use Rattle.pinned_cursors.proofs.OrderLemmas.{ReadsOrdered, batch_is, ordered_there, others_in_order, rest_told, walks_in_order}
use Rattle.pinned_cursors.proofs.TiedLemmas.{each_on, keeps_on, tied_opened, tied_pinned, tied_unpinned}
use Rattle.pinned_cursors.proofs.TurnLemmas.{no_pins, nothing_read, pins_of_stays}

-- The number of a cursor isn't said where all documents were given.
number_unsaid : (n : ℕ) (ds : List Pairs) (a b : ℕ) → length ds ≤ n → number_after n ds a ≡ number_after n ds b
number_unsaid n ds a b all = grind (arith, nat_tests, all)

-- ---- options

module _ {A : Type 0} where
  pub none_so : (o : Option A) (b : Bool) → is_some o ≡ not b → b ≡ true → o ≡ None
  none_so None b is t = refl
  none_so (Some x) b is t = absurd (no (is ∙ ap not t))
    where
      no : true ≡ false → ⊥
      no e = cc

  pub some_so : (o : Option A) (b : Bool) → is_some o ≡ not b → b ≡ false → (x : A) × (o ≡ Some x)
  some_so None b is f = absurd (no (is ∙ ap not f))
    where
      no : false ≡ true → ⊥
      no e = cc
  some_so (Some x) b is f = (x, refl)

  pub if_none : (o : Option A) (P : Type 0) → o ≡ None → IfNone o P → P
  if_none o P is h = subst (λ (x : Option A). IfNone x P) is h

  pub if_some : (o : Option A) (x : A) (P : A → Type 0) → o ≡ Some x → IfSome o P → P x
  if_some o x P is h = subst (λ (x : Option A). IfSome x P) is h

-- ---- in the version that is pinned

-- A batch was read of what a walk is to give.
pub record ReadsBatch {D : Type 0} (history : D → History) (w : HeldWalk) (documents : List Pairs) (asked : BatchAsked) (result : Result GivenBatch Refusal)
    (old new : State D) : Type 0 where
  pub extends : ExtendsTurn history old new
  pub unchanged : IsUnchanged history old new
  pub same : (start now : List Collection) → HasState history old start now → HasState history new start now
  pub answers : KeepsWord (disk_history history new) → ReadsRest true history old w documents
      → MatchResult result (IsListedBatch asked documents) (HasReadCause history old new)

module _ {D : Type 0} (history : D → History) (version : Version) (number : ℕ) (p : Projection) (texts : List (List ℕ)) (documents : List Pairs)
    (old new : State D) where
  abbrev pub its_list : HeldWalk
  its_list = held_walk version number p (listed texts)

  -- that of a list
  pub listed_batch : (asked : BatchAsked) (result : Result GivenBatch Refusal)
      → ReadsVersion history version (AreListedIn number texts) (λ now chosen b. IsListedBatch asked (given_of p chosen) b) result old new
      → ReadsBatch history its_list documents asked result old new
  listed_batch asked result reads = record {
    extends = reads.extends;
    unchanged = reads.unchanged;
    same = reads.same;
    answers = λ k r.
        let l : ListsRest texts p r.home.documents documents = r.left in
        let chosen : Chosen = record { home = r.home; documents = l.some } in
        subst (λ (ds : List Pairs). MatchResult result (IsListedBatch asked ds) (HasReadCause history old new)) (sym l.same)
        (reads.answers k r.collections r.had chosen
        (record { numbered = r.numbered; stored = r.stored; listed = l.there }));
  }

  pub behind_left : (passing : Bool) (n : ℕ) → ExtendsTurn history old new → ReadsRest passing history old its_list documents
      → ReadsRest passing history new (held_walk version number p (listed (drop n texts))) (drop n documents)
  behind_left passing n continues r = record {
    collections = r.collections;
    had = keeps_on history old new continues passing version r.collections r.had;
    home = r.home;
    numbered = r.numbered;
    stored = r.stored;
    left = lists_on texts p r.home.documents documents n r.left;
  }

module _ {D : Type 0} (history : D → History) (version : Version) (number : ℕ) (w : OrderedWalk) (documents : List Pairs) (asked : BatchAsked)
    (old new : State D) where
  -- that in the order of an index
  pub in_order_batch : (result : Result GivenBatch Refusal) → ReadsOrdered history version number w asked old new result
      → ReadsBatch history (walks_in_order history version number w asked old new) documents asked result old new
  in_order_batch result reads = record {
    extends = reads.extends;
    unchanged = reads.unchanged;
    same = reads.same;
    answers = λ k r. at result r (ordered_there history version number w asked old new documents true r result reads k);
  }
    where
      at : (q : Result GivenBatch Refusal) (r : ReadsRest true history old (walks_in_order history version number w asked old new) documents)
          → MatchResult q (λ b. IsOrderedBatch (rest_told history version number w asked old new documents true r).sort w asked r.home.documents b)
          (HasReadCause history old new)
          → MatchResult q (IsListedBatch asked documents) (HasReadCause history old new)
      at (Ok b) r h = batch_is history version number w asked old new documents true r b h
      at (Err e) r cause = cause

  pub behind_in_order : (b : GivenBatch) (text : Vec ℕ) → b.next ≡ Some text → ReadsOrdered history version number w asked old new (Ok b) → (passing : Bool)
      → KeepsWord (disk_history history new) → ReadsRest passing history old (walks_in_order history version number w asked old new) documents
      → ReadsRest passing history new (held_walk version number w.projection.now (further b.count text.items (way_in_order w))) (drop b.count documents)
  behind_in_order b text is reads passing k r =
      others_in_order history version number w asked old new documents passing r b
      (ordered_there history version number w asked old new documents passing r (Ok b) reads k) reads.extends text is

module _ {D : Type 0} (history : D → History) (version : Version) (number : ℕ) (p : Projection) (way : Way) (documents : List Pairs)
    (old new : State D) where
  abbrev its : HeldWalk
  its = held_walk version number p way

  module _ (connection : ℕ) (namespace : List ℕ) (most : ℕ) (held : Held) (asked : BatchAsked) (kind : asked.kind ≡ batches.First)
      (named : asked.namespace.now ≡ namespace) (most_is : asked.most ≡ most) where
    abbrev Gives : Result FirstGiven Refusal → Held → Type 0
    Gives result after = GivesPinned history connection namespace its documents most result old new held after

    -- the reading of the batch
    abbrev Reads : Result GivenBatch Refusal → Type 0
    Reads q = ReadsBatch history its documents asked q old new

    -- nothing was given
    gives_none : (q : Result GivenBatch Refusal) → Reads q → (e : Refusal) (after : Held) → after ≡ held
        → (KeepsWord (disk_history history new) → ReadsRest true history old its documents
        → HasReadCause history old new e ⊎ IsNoBatch (table_of held) connection documents most e)
        → Gives (Err e) after
    gives_none q reads e after same cause = record {
      extends = reads.extends;
      unchanged = reads.unchanged;
      same = reads.same;
      err = same;
      keep = ap that_keep same;
      answers = cause;
      pin = tt;
    }

    pub pinned_unread : (e : Refusal) → Reads (Err e) → Gives (Err e) held
    pinned_unread e reads = gives_none (Err e) reads e held refl (λ k r. inl (reads.answers k r))

    module _ (b : GivenBatch) (reads : Reads (Ok b)) where
      there : KeepsWord (disk_history history new) → ReadsRest true history old its documents → IsListedBatch asked documents b
      there = reads.answers

      counted : IsListedBatch asked documents b → b.count ≡ batch_of most documents
      counted batch = batch.counted ∙ ap (λ (m : ℕ). batch_of m documents) most_is

      says : IsListedBatch asked documents b → (at : ℕ) → number_after b.count documents asked.number ≡ number_after b.count documents at
          → b.reply ≡ ok_reply (batch_reply (codes "firstBatch") b.count documents at namespace)
      says batch at same = batch.says
          ∙ (λ i. ok_reply (batch_reply (batch_name (kind i)) b.count documents asked.number (named i)))
          ∙ ap (λ (m : ℕ). ok_reply (cursor_reply (codes "firstBatch") (take b.count documents) m namespace)) same

      -- memory ran out
      pub pinned_out : (e : Refusal) → e ≡ refusals.OutOfMemory → (after : Held) → after ≡ held → Gives (Err e) after
      pinned_out e is after same = gives_none (Ok b) reads e after same (λ k r. inl (inl is))

      pub pinned_whole : b.next ≡ None → Gives (Ok (record { reply = b.reply; is_open = false })) held
      pinned_whole none = record {
        extends = reads.extends;
        unchanged = reads.unchanged;
        same = reads.same;
        err = tt;
        keep = refl;
        answers = λ k r. let batch = there k r in
            let all : length documents ≤ b.count =
            subst (λ (o : Option (Vec ℕ)). MatchOption o (length documents ≤ b.count) (λ _. b.count < length documents)) none batch.next in
            record {
              n = b.count;
              batch = record {
                count = counted batch;
                says = says batch held.next (number_unsaid b.count documents asked.number held.next all);
                free = λ more. absurd (omega (arith, all, more));
                below = λ more. absurd (omega (arith, all, more));
              };
              whole = λ fits. refl;
              opened = λ more. absurd (omega (arith, all, more));
            };
        pin = λ changed reads. refl;
      }

      module _ (text : Vec ℕ) (some : b.next ≡ Some text) where
        more : IsListedBatch asked documents b → b.count < length documents
        more batch = subst (λ (o : Option (Vec ℕ)). MatchOption o (length documents ≤ b.count) (λ _. b.count < length documents)) some batch.next

        pub pinned_many : is_refused connection (cursors_of held) held.next ≡ true → Gives (Err refusals.TooMany) held
        pinned_many refused = gives_none (Ok b) reads refusals.TooMany held refl
            (λ k r. let batch = there k r in
            inr (inr (refl, subst (λ (n : ℕ). n < length documents) (counted batch) (more batch), refused)))

        pub pinned_open : (behind : Way)
            → ((passing : Bool) → KeepsWord (disk_history history new) → ReadsRest passing history old its documents
            → ReadsRest passing history new (held_walk version number p behind) (drop b.count documents))
            → asked.number ≡ held.next → held.next < 2 ^ 63 → is_refused connection (cursors_of held) held.next ≡ false → (after : Held)
            → after ≡ opened held connection namespace (drop b.count documents) (Some (held_walk version number p behind))
            → Gives (Ok (record { reply = b.reply; is_open = true })) after
        pinned_open behind others number_is below free after same =
            let extends : HeldWalk = held_walk version number p behind in
            let h : HeldCursor = record { cursor = new_cursor held.next connection namespace (drop b.count documents); walk = Some extends } in
            record {
              extends = reads.extends;
              unchanged = reads.unchanged;
              same = reads.same;
              err = tt;
              keep = ap that_keep same ∙ opened_keeps held connection namespace (drop b.count documents) extends;
              answers = λ k r. let batch = there k r in
                  record {
                    n = b.count;
                    batch = record {
                      count = counted batch;
                      says = says batch held.next (ap (number_after b.count documents) number_is);
                      free = λ _. free;
                      below = λ _. below;
                    };
                    whole = λ all. absurd (omega (arith, all, more batch));
                    opened = λ _. ap table_of same ∙ opened_in_table held connection namespace (drop b.count documents) (Some extends);
                  };
              pin = λ changed rest tied. subst (λ (x : Held). AreTied changed history new x.list) (sym same)
                  (tied_opened history changed new held.list h extends refl tied (λ running k. others changed k (rest running k)));
            }

-- ---- the pin around it

module _ {D : Type 0} (history : D → History) where
  -- Cursors, and a pin beside them, stay tied where commands read.
  pub beside_on : (changed : Bool) (old new : State D) (version : Version) (list : List HeldCursor) → ExtendsTurn history old new
      → TiedBeside changed history old version list → TiedBeside changed history new version list
  beside_on changed old new version list continues tied = record {
    each = λ running k.
        each_on history changed old new (pins_by list) (λ p v cs had some. keeps_on history old new continues p v cs had) list (λ n. omega arith)
        (tied.each (sym (stopped_same history old.pager new.pager continues.stays) ∙ running) (continues.stays.reads.extends.kept k));
    pins = λ n. ap (times n) (pins_stay history old new continues) ∙ tied.pins n;
  }

  -- What came between two moments came between others, but for whose pins nothing went on.
  module _ (a b c d : State D) (before : OnlyPins history a b) (behind : OnlyPins history c d) where
    failed_around : HasFailed history b c → HasFailed history a d
    failed_around (inl stopped) = inl (sym before.untouched.stopped ∙ stopped)
    failed_around (inr failed) = inr (subst (λ (h : History). h.failures < (disk_history history d).failures) before.untouched.disk
        (subst (λ (h : History). (disk_history history b).failures < h.failures) (sym behind.untouched.disk) failed))

    pub cause_around : (e : Refusal) → HasReadCause history b c e → HasReadCause history a d e
    cause_around e (inl memory) = inl memory
    cause_around e (inr (is, failed)) = inr (is, failed_around failed)

module _ {D : Type 0} (history : D → History) (connection : ℕ) (namespace : List ℕ) (number : ℕ) (p : Projection) (way : Way) (documents : List Pairs)
    (most : ℕ) (old : State D) (held : Held) where
  abbrev Firsts : Result Pairs Refusal → State D → Held → Type 0
  Firsts result new after = GivesFirst history connection namespace number p way documents most result old new held after

  pub first_none : (e : Refusal) → HasReadCause history old old e → (new : State D) → new ≡ old → Firsts (Err e) new held
  first_none e cause new same = subst (λ (file : State D). Firsts (Err e) file held) (sym same) (record {
    pinned = old;
    first = no_pins history old;
    continues = nothing_read history old;
    err = refl;
    keep = refl;
    answers = λ k left. inl cause;
    tied = λ left changed tells tied. tied;
  })

  module _ {E : Type 0} (running : is_stopped old ≡ false) (version : Version) (pinned read : State D)
      (pin : PinsNow {E = E} history (Ok version) old pinned) where
    abbrev its_walk : HeldWalk
    its_walk = held_walk version number p way

    abbrev Pinned : Result FirstGiven Refusal → Held → Type 0
    Pinned result after = GivesPinned history connection namespace its_walk documents most result pinned read held after

    only : OnlyPins history old pinned
    only = pins_of_stays history old pinned pin.stays

    module _ (result : Result FirstGiven Refusal) (after : Held) (gives : Pinned result after) where
      word : KeepsWord (disk_history history read) → KeepsWord (disk_history history old)
      word k = subst KeepsWord only.untouched.disk (gives.extends.stays.reads.extends.kept k)

      there_left : (changed : Bool) → Tells changed old → KeepsWord (disk_history history read)
          → (KeepsWord (disk_history history old) → IsLeftOf history old number p way documents) → ReadsRest changed history pinned its_walk documents
      there_left changed tells k left =
          reads_left {E = E} history connection namespace number p way documents old held version pinned pin changed tells running (word k) (left (word k))

      -- the version has it, whatever the turn has changed
      there_now : KeepsWord (disk_history history read) → (KeepsWord (disk_history history old) → IsLeftOf history old number p way documents)
          → ReadsRest true history pinned its_walk documents
      there_now = there_left true (λ running no. absurd cc)

      beside : (changed : Bool) → AreTied changed history old held.list → TiedBeside changed history read version held.list
      beside changed tied =
          beside_on history changed pinned read version held.list gives.extends (tied_pinned history changed old pinned version held.list pin tied)

      then_pins : (new : State D) → OnlyPins history read new → ReadsThenPins history pinned new
      then_pins new pins = record { read = read; extends = gives.extends; unchanged = gives.unchanged; same = gives.same; pins = pins }

    -- Nothing was given, and the pin ended.
    pub first_spared : (after : Held) → PinnedNone history pinned read held after → (new : State D) → UnpinsVersion history version read new
        → GivesNone history old new held after
    first_spared after none new unpin =
        record {
          pinned = pinned;
          first = only;
          continues = record {
            read = read;
            extends = none.extends;
            unchanged = none.unchanged;
            same = none.state;
            pins = pins_of_stays history read new
                unpin.stays;
          };
          same = none.same;
          tied = λ changed tied. subst (λ (x : Held). AreTied changed history new x.list) (sym none.same)
              (tied_unpinned history changed read new version held.list unpin
              (beside_on history changed pinned read version held.list none.extends (tied_pinned history changed old pinned version held.list pin tied)));
        }

    -- It was refused, and the pin ended.
    pub first_refused : (e : Refusal) (after : Held) → Pinned (Err e) after → (new : State D) → UnpinsVersion history version read new
        → Firsts (Err e) new after
    first_refused e after gives new unpin =
        let ends : OnlyPins history read new = pins_of_stays history read new unpin.stays in
        record {
          pinned = pinned;
          first = only;
          continues = then_pins (Err e) after gives new ends;
          err = gives.err;
          keep = gives.keep;
          answers = λ k left.
              let k_read : KeepsWord (disk_history history read) = subst KeepsWord ends.untouched.disk k in
              either e new ends (gives.answers k_read (there_now (Err e) after gives k_read (λ _. left)));
          tied = λ left changed tells tied. subst (λ (x : Held). AreTied changed history new x.list) (sym gives.err)
              (tied_unpinned history changed read new version held.list unpin (beside (Err e) after gives changed tied));
        }
      where
        either : (e : Refusal) (new : State D) → OnlyPins history read new
            → HasReadCause history pinned read e ⊎ IsNoBatch (table_of held) connection documents most e
            → HasReadCause history old new e ⊎ IsNoBatch (table_of held) connection documents most e
        either e new ends (inl cause) = inl (cause_around history old pinned read new only ends e cause)
        either e new ends (inr none) = inr none

    module _ (g : FirstGiven) (after : Held) (gives : Pinned (Ok g) after) where
      -- A cursor has the pin.
      pub first_open : g.is_open ≡ true → Firsts (Ok g.reply) read after
      first_open is = record {
        pinned = pinned;
        first = only;
        continues = then_pins (Ok g) after gives read (no_pins history read);
        err = tt;
        keep = gives.keep;
        answers = λ k left. gives.answers k (there_now (Ok g) after gives k (λ _. left));
        tied = λ left changed tells tied.
            subst (λ (b : Bool). KeepsPin changed history version held after b read) is
            (gives.pin changed (λ running k. there_left (Ok g) after gives changed tells k left))
            (beside (Ok g) after gives changed tied);
      }

      -- All was given, and the pin ended.
      pub first_whole : g.is_open ≡ false → (new : State D) → UnpinsVersion history version read new → Firsts (Ok g.reply) new after
      first_whole is new unpin =
          let ends : OnlyPins history read new = pins_of_stays history read new unpin.stays in
          record {
            pinned = pinned;
            first = only;
            continues = then_pins (Ok g) after gives new ends;
            err = tt;
            keep = gives.keep;
            answers = λ k left.
                let k_read : KeepsWord (disk_history history read) = subst KeepsWord ends.untouched.disk k in
                gives.answers k_read (there_now (Ok g) after gives k_read (λ _. left));
            tied = λ left changed tells tied.
                let same : after ≡ held = subst (λ (b : Bool). KeepsPin changed history version held after b read) is
                (gives.pin changed (λ running k. there_left (Ok g) after gives changed tells k left)) in
                subst (λ (x : Held). AreTied changed history new x.list) (sym same)
                (tied_unpinned history changed read new version held.list unpin (beside (Ok g) after gives changed tied));
          }
