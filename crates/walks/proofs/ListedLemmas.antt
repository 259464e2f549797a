-- Documents of a version that are looked up one after the other, and put into a batch.
use Rattle.std.proofs.Common.{◌≡◌, inl, ℕ, ◌+◌, ◌<◌, ◌≤◌, Bool, true, false, List, [], ◌∷◌, length, map, take, drop, Option, Some, None, Result, Ok, Err}
use Rattle.std.proofs.Common.{refl, sym, ap, subst, ◌∙◌, arith}
use Rattle.std.specs.Prelude.{All, IfErr, IfOk, MatchOption, MatchResult, if◌then◌else◌, is_some, nat_lt, nat_le, not}
use Rattle.std.specs.Global.{Vec}
use Rattle.std.proofs.lemmas.Bool.Decides.{nat_tests}
use Rattle.std.proofs.lemmas.List.{drop-map, length-drop, length-map, length-take}
use Rattle.std.proofs.lemmas.List.Elements.{All-drop, All-head}
use Rattle.bson.specs.Tree.{Pairs}
use Rattle.page.specs.History.{History, KeepsWord}
use Rattle.pager.specs.declared.version.Version.{Version}
use Rattle.path.specs.declared.refusal.Refusal.{Refusal}
use Rattle.path.specs.declared.refusal.Refusal.TheVariants as refusals
use Rattle.projection.specs.Projection.{Projection, project}
use Rattle.entry_model.specs.LawfulState.{IsKept, IsLawfulState, IsStorable}
use Rattle.entry_model.specs.State.{Collection, key_of}
use Rattle.entry_model.specs.StateReads.{find_document}
use Rattle.entry_model.proofs.LawfulParts.{id_is_key}
use Rattle.entry_model.proofs.FoundLawLemmas.{found_collection, found_document}
use Rattle.collections.specs.Calls.{ExtendsTurn, HasReadCause, IsUnchanged}
use Rattle.collections.specs.Lookups.{IsPlaceOf, Place, stored_at}
use Rattle.collections.specs.Standing.{HasState}
use Rattle.collections.specs.State.{State}
use Rattle.collections.specs.Versions.{HasVersion, ReadsVersion}
use Rattle.collections.specs.View.{disk_history}
use Rattle.collections.proofs.VersionLemmas.{versions_stay}
use Rattle.database_model.specs.Cursors.{batch_of, cursor_reply}
use Rattle.database_model.specs.Refusals.{ok_reply}
use Rattle.replies.specs.OpenBatch.{AreOffered, HasGiven, IsOffered, IsOpen}
use Rattle.replies.specs.View.{batch_name}
use Rattle.replies.specs.declared.open_batch.OpenBatch.{OpenBatch}
use Rattle.replies.proofs.BatchLoop.{IsBatchSoFar, ends, goes_further, offered_all}
use Rattle.walks.specs.Listed.{AreListedIn, Chosen, HasListed, IsListedBatch, IsStoredIn, Stored, given_of, id_text_of}
use Rattle.walks.specs.declared.batches.BatchAsked.{BatchAsked}
use Rattle.walks.specs.declared.batches.GivenBatch.{GivenBatch}
use Rattle.asked_documents.proofs.ReadingLemmas.{goes_itself, goes_on, widen_before, word_before}

-- ---- what is read of a version, of something else that is asked for

-- something was asked for beside it, and what is right of that makes the result right
pub record IsBeside {D B X : Type 0} (history : D → History) (old new : State D) (Was : List Collection → B → Type 0)
    (P : List Collection → B → X → Type 0) (s : Result X Refusal) (now : List Collection) (Right : Type 0) : Type 0 where
  pub other : B
  pub was : Was now other
  pub right : MatchResult s (P now other) (HasReadCause history old new) → Right

pub version_from : {D A B X Y : Type 0} (history : D → History) (version : Version) (Was : List Collection → B → Type 0) (P : List Collection → B → X → Type 0)
    (Is : List Collection → A → Type 0) (R : List Collection → A → Y → Type 0) (old new : State D) (s : Result X Refusal) (r : Result Y Refusal)
    → ReadsVersion history version Was P s old new
    → ((now : List Collection) → IsLawfulState now → (asked : A) → Is now asked
    → IsBeside history old new Was P s now (MatchResult r (R now asked) (HasReadCause history old new)))
    → ReadsVersion history version Is R r old new
version_from history version Was P Is R old new s r reads extends = record {
  extends = reads.extends;
  unchanged = reads.unchanged;
  same = reads.same;
  answers = λ k now has asked so.
      let o = extends now has.state asked so in
      o.right (reads.answers k now has o.other o.was);
}

-- ---- one document

-- It is at a place.
abbrev place_of : Stored → Place
place_of one = record { collection = one.home; id = key_of one.document }

is_there : (number : ℕ) (text : List ℕ) (now : List Collection) (one : Stored) → IsStoredIn number text now one
    → IsPlaceOf number text now (place_of one)
is_there number text now one h = record { numbered = h.numbered; key = id_is_key one.document h.storable; spelled = h.spelled }

module _ {D : Type 0} (history : D → History) (version : Version) (number : ℕ) (text : List ℕ) (p : Projection) (before after : OpenBatch)
    (old new : State D) where
  abbrev Offers : Result Bool Refusal → Type 0
  Offers r = ReadsVersion history version (IsStoredIn number text) (λ now one is_taken. IsOffered before (project p one.document) is_taken after) r old new

  abbrev Reads : Result (Option Pairs) Refusal → Type 0
  Reads s = ReadsVersion history version (IsPlaceOf number text) (λ now place found. found ≡ stored_at place) s old new

  from_place : (s : Result (Option Pairs) Refusal) (r : Result Bool Refusal) → Reads s
      → ((one : Stored) → IsStorable one.document → MatchResult s (λ found. found ≡ Some one.document) (HasReadCause history old new)
      → MatchResult r (λ is_taken. IsOffered before (project p one.document) is_taken after) (HasReadCause history old new)) → Offers r
  from_place s r reads extends =
      version_from history version (IsPlaceOf number text) (λ now place found. found ≡ stored_at place) (IsStoredIn number text)
      (λ now one is_taken. IsOffered before (project p one.document) is_taken after) old new s r reads
      (λ now state one h. record {
        other = place_of one;
        was = is_there number text now one h;
        right = λ read. extends one h.storable (at s one h.found read);
      })
    where
      at : (q : Result (Option Pairs) Refusal) (one : Stored) → find_document one.home.documents (key_of one.document) ≡ Some one.document
          → MatchResult q (λ found. found ≡ stored_at (place_of one)) (HasReadCause history old new)
          → MatchResult q (λ found. found ≡ Some one.document) (HasReadCause history old new)
      at (Ok found) one there read = read ∙ there
      at (Err e) one there cause = cause

  -- reading it is refused
  pub unread : (e : Refusal) → Reads (Err e) → Offers (Err e)
  unread e reads = from_place (Err e) (Err e) reads (λ one storable cause. cause)

  -- it is always there
  pub never_missing : (e : Refusal) → Reads (Ok None) → Offers (Err e)
  never_missing e reads = from_place (Ok None) (Err e) reads (λ one storable none. absurd (no none))
    where
      no : {X : Type 0} {x : X} → None ≡ Some x → ⊥
      no e = cc

  pub offered : (document : Pairs) (r : Result Bool Refusal) → Reads (Ok (Some document))
      → IfOk r (λ is_taken. IsOffered before (project p document) is_taken after) → (IsStorable document → IfErr r (λ e. e ≡ refusals.OutOfMemory)) → Offers r
  offered document r reads ok err = from_place (Ok (Some document)) r reads (λ one storable same. at r one storable (is_one same) ok err)
    where
      is_one : {x y : Pairs} → Some x ≡ Some y → x ≡ y
      is_one e = cc

      at : (q : Result Bool Refusal) (one : Stored) → IsStorable one.document → document ≡ one.document
          → IfOk q (λ is_taken. IsOffered before (project p document) is_taken after) → (IsStorable document → IfErr q (λ e. e ≡ refusals.OutOfMemory))
          → MatchResult q (λ is_taken. IsOffered before (project p one.document) is_taken after) (HasReadCause history old new)
      at (Ok is_taken) one storable same ok err = subst (λ (d : Pairs). IsOffered before (project p d) is_taken after) same ok
      at (Err e) one storable same ok err = inl (err (subst IsStorable (sym same) storable))

-- ---- one after the other

-- as many documents are given as there are texts
pub as_many : (ds : List Pairs) (texts : List (List ℕ)) (some : List Pairs) (p : Projection) → HasListed ds texts some
    → length texts ≡ length (map (project p) some)
as_many ds texts some p h = ap length h.spelled ∙ length-map some id_text_of ∙ sym (length-map some (project p))

-- the first of some documents, by their texts
record IsNextOf (text : List ℕ) (ds : List Pairs) : Type 0 where
  pub document : Pairs
  pub behind : List Pairs
  pub split : ds ≡ document ∷ behind
  pub spelled : text ≡ id_text_of document

next_of : (ds : List Pairs) (text : List ℕ) (rest : List (List ℕ)) → map id_text_of ds ≡ text ∷ rest → IsNextOf text ds
next_of [] text rest e = absurd (no e)
  where
    no : {t : List ℕ} {ts : List (List ℕ)} → [] ≡ t ∷ ts → ⊥
    no e = cc
next_of (d ∷ ds) text rest e = record { document = d; behind = ds; split = refl; spelled = sym (first e) }
  where
    first : {s t : List ℕ} {ss ts : List (List ℕ)} → s ∷ ss ≡ t ∷ ts → s ≡ t
    first e = cc

module _ {D : Type 0} (history : D → History) (version : Version) (number : ℕ) (texts : List (List ℕ)) (p : Projection) (begun : OpenBatch) (start : State D)
  where
    abbrev Asks : List Collection → Chosen → Type 0
    Asks now chosen = AreListedIn number texts now chosen

    -- Those before this one are in the batch.
    pub record HasOffered (now : State D) (i : ℕ) (batch : OpenBatch) : Type 0 where
      pub extends : ExtendsTurn history start now
      pub unchanged : IsUnchanged history start now
      pub same : (s t : List Collection) → HasState history start s t → HasState history now s t
      pub some : IsOpen batch
      pub there : KeepsWord (disk_history history now) → (cs : List Collection) → HasVersion history start version cs → (chosen : Chosen) → Asks cs chosen
          → IsBatchSoFar begun (given_of p chosen) i batch

    pub begins : HasGiven begun [] → HasOffered start 0 begun
    begins empty = record {
      extends = goes_itself history start;
      unchanged = refl;
      same = λ s t has. has;
      some = record { ds = []; given = empty };
      there = λ k cs has chosen asks. record { same_kind = refl; same_most = refl; given = empty };
    }

    -- the batch has what goes into it
    abbrev IsWhole : OpenBatch → List Collection → Chosen → Type 0
    IsWhole batch now chosen = AreOffered begun (given_of p chosen) batch.count batch

    module _ (now new : State D) (i : ℕ) (batch next : OpenBatch) (come : HasOffered now i batch) (text : List ℕ) (rest : List (List ℕ))
        (is : drop i texts ≡ text ∷ rest) where
      abbrev Read : Result Bool Refusal → Type 0
      Read r = ReadsVersion history version (IsStoredIn number text) (λ cs one is_taken. IsOffered batch (project p one.document) is_taken next) r now new

      -- the one that the text tells, and how it stands among all
      record IsTurnOf (cs : List Collection) (chosen : Chosen) : Type 0 where
        pub document : Pairs
        pub behind : List Pairs
        pub at : drop i (given_of p chosen) ≡ project p document ∷ behind
        pub stored : IsStoredIn number text cs (record { home = chosen.home; document = document })

      turn_of : (cs : List Collection) → IsLawfulState cs → (chosen : Chosen) → Asks cs chosen → IsTurnOf cs chosen
      turn_of cs state chosen asks =
          let kept : IsKept chosen.home = (found_collection cs chosen.home.name chosen.home state asks.numbered.found).0 in
          let left : map id_text_of (drop i chosen.documents) ≡ text ∷ rest =
          sym (drop-map id_text_of i chosen.documents) ∙ ap (drop i) (sym asks.listed.spelled) ∙ is in
          let n : IsNextOf text (drop i chosen.documents) = next_of (drop i chosen.documents) text rest left in
          let Found : Pairs → Type 0 = λ d. find_document chosen.home.documents (key_of d) ≡ Some d in
          let found : Found n.document =
          All-head Found n.document n.behind (subst (λ (ds : List Pairs). All Found ds) n.split (All-drop Found i chosen.documents asks.listed.found)) in
          record {
            document = n.document;
            behind = map (project p) n.behind;
            at = drop-map (project p) i chosen.documents ∙ ap (map (project p)) n.split;
            stored = record {
              numbered = asks.numbered;
              found = found;
              storable = (found_document chosen.home.documents (key_of n.document) n.document kept.storable found).0;
              spelled = n.spelled;
            };
          }

      reaches : ExtendsTurn history now new → ExtendsTurn history start new
      reaches continues = goes_on history start now new come.extends continues

      pub takes_it : Read (Ok true) → (IsOpen batch → IsOpen next) → HasOffered new (i + 1) next
      takes_it reads opens = record {
        extends = reaches reads.extends;
        unchanged = reads.unchanged ∙ come.unchanged;
        same = λ s t has. reads.same s t (come.same s t has);
        some = opens come.some;
        there = λ k cs has chosen asks.
            let t : IsTurnOf cs chosen = turn_of cs has.state chosen asks in
            let so_far = come.there (word_before history now new reads.extends k) cs has chosen asks in
            goes_further begun batch next (given_of p chosen) i (project p t.document) t.behind t.at so_far
            (reads.answers k cs (versions_stay history start now come.extends version cs has) (record { home = chosen.home; document = t.document }) t.stored);
      }

      -- it has no room
      pub is_full : Read (Ok false) → ReadsVersion history version Asks (λ cs chosen (_ : Unit {0}). IsWhole next cs chosen) (Ok tt) start new
      is_full reads = record {
        extends = reaches reads.extends;
        unchanged = reads.unchanged ∙ come.unchanged;
        same = λ s t has. reads.same s t (come.same s t has);
        answers = λ k cs has chosen asks.
            let t : IsTurnOf cs chosen = turn_of cs has.state chosen asks in
            let so_far = come.there (word_before history now new reads.extends k) cs has chosen asks in
            counted_so (given_of p chosen)
            (ends begun batch next (given_of p chosen) i (project p t.document) t.behind t.at so_far
            (reads.answers k cs (versions_stay history start now come.extends version cs has) (record { home = chosen.home; document = t.document }) t.stored))
            (long_enough (given_of p chosen) (project p t.document) t.behind t.at);
      }
        where
          long_enough : (ds : List Pairs) (d : Pairs) (behind : List Pairs) → drop i ds ≡ d ∷ behind → i ≤ length ds
          long_enough ds d behind e = omega (arith, length-drop i ds, ap length e)

          counted_so : (ds : List Pairs) → AreOffered begun ds i next → i ≤ length ds → AreOffered begun ds next.count next
          counted_so ds h long =
              let n : i ≡ next.count = omega (arith, h.given.counted, length-take i ds, long) in
              subst (λ (m : ℕ). AreOffered begun ds m next) n h

      pub fails : (e : Refusal) → Read (Err e) → ReadsVersion history version Asks (λ cs chosen (_ : Unit {0}). IsWhole next cs chosen) (Err e) start new
      fails e reads = record {
        extends = reaches reads.extends;
        unchanged = reads.unchanged ∙ come.unchanged;
        same = λ s t has. reads.same s t (come.same s t has);
        answers = λ k cs has chosen asks.
            let t : IsTurnOf cs chosen = turn_of cs has.state chosen asks in
            widen_before history start now new come.extends reads.extends k e
            (reads.answers k cs (versions_stay history start now come.extends version cs has) (record { home = chosen.home; document = t.document }) t.stored);
      }

    -- all were offered
    pub took_all : (now : State D) (i : ℕ) (batch : OpenBatch) → HasOffered now i batch → length texts ≤ i
        → ReadsVersion history version Asks (λ cs chosen (_ : Unit {0}). IsWhole batch cs chosen) (Ok tt) start now
    took_all now i batch come past = record {
      extends = come.extends;
      unchanged = come.unchanged;
      same = come.same;
      answers = λ k cs has chosen asks.
          let so_far = come.there k cs has chosen asks in
          let ds = given_of p chosen in
          let many : length texts ≡ length ds = as_many chosen.home.documents texts chosen.documents p asks.listed in
          offered_all begun batch ds i batch.count so_far (omega (arith, many, past))
          (omega (arith, so_far.given.counted, length-take i ds, many, past));
    }

-- ---- the batch then

pub listed_batch : (asked : BatchAsked) (begun batch : OpenBatch) (rest : List Pairs) (b : GivenBatch) → begun.most ≡ asked.most → begun.kind ≡ asked.kind
    → AreOffered begun rest batch.count batch → b.count ≡ batch.count → is_some b.next ≡ nat_lt batch.count (length rest)
    → ((ds : List Pairs) → HasGiven batch ds
    → b.reply ≡ ok_reply (cursor_reply (batch_name batch.kind) ds (if not (is_some b.next) then 0 else asked.number) asked.namespace.now))
    → IsListedBatch asked rest b
listed_batch asked begun batch rest b most kind h count left says = record {
  counted = count ∙ h.counted ∙ ap (λ (m : ℕ). batch_of m rest) most;
  says =
      says (take batch.count rest) h.given
      ∙ (λ k. ok_reply (cursor_reply (batch_name ((h.same_kind ∙ kind) k)) (take (sym count k) rest) (if last k then 0 else asked.number) asked.namespace.now));
  next = by b.next left;
}
  where
    last : not (is_some b.next) ≡ nat_le (length rest) b.count
    last = ap not left ∙ turned (length rest) batch.count ∙ ap (nat_le (length rest)) (sym count)
      where
        turned : (n m : ℕ) → not (nat_lt m n) ≡ nat_le n m
        turned n m = grind (arith, nat_tests)

    by : (o : Option (Vec ℕ)) → is_some o ≡ nat_lt batch.count (length rest) → MatchOption o (length rest ≤ b.count) (λ _. b.count < length rest)
    by None e = grind (arith, nat_tests, e, count)
    by (Some text) e = grind (arith, nat_tests, e, count)
