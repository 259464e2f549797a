-- The documents to which entries of an index lead are lent to a batch.
use Rattle.std.proofs.Common.{◌≡◌, inl, inr, ℕ, zero, suc, ◌+◌, ◌≤◌, Bool, true, false, List, [], ◌∷◌, ◌++◌, length, map, take, drop}
use Rattle.std.proofs.Common.{Option, Some, None, Result, Ok, Err}
use Rattle.std.proofs.Common.{get_or, refl, sym, ap, subst, ◌∙◌, arith, append_assoc, append-nil}
use Rattle.std.specs.Prelude.{All, Contains, MatchOption, MatchResult, is_some, ◌||◌}
use Rattle.std.specs.Global.{Vec}
use Rattle.std.specs.Ordering.{on}
use Rattle.std.proofs.lemmas.List.{drop-map, length-map, take-append-drop, take_all}
use Rattle.bson.specs.Tree.{Pairs}
use Rattle.value_order.specs.Order.{compare}
use Rattle.page.specs.History.{History, KeepsWord}
use Rattle.pager.specs.declared.version.Version.{Version}
use Rattle.path.specs.declared.refusal.Refusal.{Refusal}
use Rattle.path.specs.declared.refusal.Refusal.TheVariants as refusals
use Rattle.index.specs.Definition.{Definition}
use Rattle.index.specs.KeyTexts.{encoded_keys}
use Rattle.entry_model.specs.LawfulState.{IsKept, IsRising, IsStorable}
use Rattle.entry_model.specs.State.{Collection, key_of}
use Rattle.entry_model.specs.StateReads.{find_document}
use Rattle.entry_model.proofs.LawfulParts.{id_is_key}
use Rattle.entry_model.proofs.FoundLawLemmas.{found_collection, found_document}
use Rattle.entry_model.proofs.MemberLemmas.{Among, among_back, among_of, contains_of, of_all}
use Rattle.collections.specs.Calls.{ExtendsTurn, HasReadCause, IsUnchanged}
use Rattle.collections.specs.Lookups.{IsPlaceOf, stored_at}
use Rattle.collections.specs.Standing.{HasState}
use Rattle.collections.specs.State.{State}
use Rattle.collections.specs.Versions.{HasVersion, ReadsVersion}
use Rattle.collections.specs.View.{disk_history}
use Rattle.collections.proofs.VersionLemmas.{versions_stay}
use Rattle.planner.specs.KeyScan.{id_text}
use Rattle.planner.specs.RangeReading.{IsEntryText}
use Rattle.planner.proofs.FoundIdLemmas.{each_found}
use Rattle.planner.proofs.RangeReadingLemmas.{id_behind}
use Rattle.planner.proofs.RisingLemmas.{rises_of}
use Rattle.replies.specs.OpenBatch.{IsOpen}
use Rattle.walks.specs.Batches.{Gives, Puts, is_over, is_reached}
use Rattle.walks.specs.InOrder.{AreLed, AreLedIn, GivesLed, GivesOne, IsLedIn, IsNoted}
use Rattle.walks.specs.Listed.{Chosen, Stored, id_text_of}
use Rattle.walks.specs.declared.batches.Giving.{Giving}
use Rattle.walks.proofs.BatchesLemmas.{as_none, over_gives}
use Rattle.walks.proofs.ListedLemmas.{version_from}
use Rattle.walks.proofs.OrderedBatchLemmas.{among_at}
use Rattle.asked_documents.proofs.ReadingLemmas.{goes_itself, goes_on, widen_before, word_before}

-- ---- lists

-- one more of them
take_next : {X : Type 0} (k : ℕ) (xs : List X) (x : X) (behind : List X) → drop k xs ≡ x ∷ behind → take (suc k) xs ≡ take k xs ++ x ∷ []
take_next zero [] x behind e = absurd cc
take_next {X} zero (y ∷ xs) x behind e = let same : y ≡ x = cc in ap (λ (z : X). z ∷ []) same
take_next (suc k) [] x behind e = absurd cc
take_next {X} (suc k) (y ∷ xs) x behind e = ap (λ (zs : List X). y ∷ zs) (take_next k xs x behind e)

split_next : {X : Type 0} (k : ℕ) (xs : List X) (x : X) (behind : List X) → drop k xs ≡ x ∷ behind → take k xs ++ x ∷ behind ≡ xs
split_next {X} k xs x behind e = ap (λ (zs : List X). take k xs ++ zs) (sym e) ∙ take-append-drop k xs

among_next : {X : Type 0} (k : ℕ) (xs : List X) (x : X) (behind : List X) → drop k xs ≡ x ∷ behind → Among x xs
among_next {X} k xs x behind e = subst (Among x) (split_next k xs x behind e) (among_back x (take k xs) (x ∷ behind) (inl refl))

-- ---- the documents to which entries lead

-- some documents, of which entries tell the `_id`s
record AreFoundBy (i : Definition) (ds : List Pairs) (texts : List (List ℕ)) : Type 0 where
  documents : List Pairs
  there : (d : Pairs) → Among d documents → Among d ds
  told : map (λ text. id_text i.fields text) texts ≡ map (λ d. Some (id_text_of d)) documents

module _ (i : Definition) (ds : List Pairs) (storable : All IsStorable ds) (rising : IsRising ds) where
  with_entry : (text : List ℕ) (texts : List (List ℕ)) → IsEntryText ds i text → AreFoundBy i ds texts → AreFoundBy i ds (text ∷ texts)
  with_entry text texts entry later = record {
    documents = entry.0 ∷ later.documents;
    there = at;
    told = λ k. id_behind i.fields entry.0 entry.1 text (of_all IsStorable ds entry.0 storable (among_of ds entry.0 entry.2))
        (among_of (encoded_keys i.fields entry.0) entry.1 entry.3) entry.4 k ∷ later.told k;
  }
    where
      at : (d : Pairs) → Among d (entry.0 ∷ later.documents) → Among d ds
      at d (inl e) = subst (λ (x : Pairs). Among x ds) (sym e) (among_of ds entry.0 entry.2)
      at d (inr g) = later.there d g

  found_by : (texts : List (List ℕ)) → ((text : List ℕ) → Among text texts → IsEntryText ds i text) → AreFoundBy i ds texts
  found_by [] given = record { documents = []; there = λ d g. absurd g; told = refl }
  found_by (text ∷ texts) given = with_entry text texts (given text (inl refl)) (found_by texts (λ t g. given t (inr g)))

  found_one : (d : Pairs) → Among d ds → find_document ds (key_of d) ≡ Some d
  found_one d there = (each_found ds (d ∷ []) (rises_of (on key_of compare) ds rising) at).0
    where
      at : (x : Pairs) → Among x (d ∷ []) → Among x ds
      at x (inl e) = subst (λ (y : Pairs). Among y ds) (sym e) there
      at x (inr g) = absurd g

  pub led_documents : (texts : List (List ℕ)) → ((text : List ℕ) → Contains texts text → IsEntryText ds i text)
      → (documents : List Pairs) × AreLed i ds texts documents
  led_documents texts given =
      let by = found_by texts (λ text g. given text (contains_of texts text g)) in (
        by.documents,
        record {
          found = λ k d below. found_one (get_or by.documents k d) (by.there (get_or by.documents k d) (among_at by.documents k d below));
          told = by.told;
        },
      )

-- ---- the document of one entry

module _ {D : Type 0} (history : D → History) (version : Version) (number : ℕ) (i : Definition) (text : List ℕ) (old new : State D) where
  abbrev GivesIt : Giving → Giving → Result Bool Refusal → Type 0
  GivesIt before after r = ReadsVersion history version (IsLedIn number i text) (λ now one is_left. GivesOne one.document before is_left after) r old new

  abbrev ReadsOne : List ℕ → Result (Option Pairs) Refusal → Type 0
  ReadsOne id s = ReadsVersion history version (IsPlaceOf number id) (λ now place found. found ≡ stored_at place) s old new

  -- what is looked up by the text of an `_id` that the entry tells
  by_place : (before after : Giving) (id : List ℕ) (s : Result (Option Pairs) Refusal) (r : Result Bool Refusal) → id_text i.fields text ≡ Some id
      → ReadsOne id s
      → ((one : Stored) → IsStorable one.document → id ≡ id_text_of one.document
      → MatchResult s (λ found. found ≡ Some one.document) (HasReadCause history old new)
      → MatchResult r (λ is_left. GivesOne one.document before is_left after) (HasReadCause history old new))
      → GivesIt before after r
  by_place before after id s r told reads extends =
      version_from history version (IsPlaceOf number id) (λ now place found. found ≡ stored_at place) (IsLedIn number i text)
      (λ now one is_left. GivesOne one.document before is_left after) old new s r reads
      (λ now state one h.
      let kept : IsKept one.home = (found_collection now one.home.name one.home state h.numbered.found).0 in
      let storable : IsStorable one.document = (found_document one.home.documents (key_of one.document) one.document kept.storable h.found).0 in
      let spelled : id ≡ id_text_of one.document = unsome (sym told ∙ h.told) in
      record {
        other = record { collection = one.home; id = key_of one.document };
        was = record { numbered = h.numbered; key = id_is_key one.document storable; spelled = spelled };
        right = λ read. extends one storable spelled (at s one h.found read);
      })
    where
      unsome : {a b : List ℕ} → Some a ≡ Some b → a ≡ b
      unsome e = cc

      at : (q : Result (Option Pairs) Refusal) (one : Stored) → find_document one.home.documents (key_of one.document) ≡ Some one.document
          → MatchResult q (λ found. found ≡ find_document one.home.documents (key_of one.document)) (HasReadCause history old new)
          → MatchResult q (λ found. found ≡ Some one.document) (HasReadCause history old new)
      at (Ok found) one there read = read ∙ there
      at (Err e) one there cause = cause

  module _ (before after : Giving) (id : List ℕ) (told : id_text i.fields text ≡ Some id) where
    pub one_unread : (e : Refusal) → ReadsOne id (Err e) → GivesIt before after (Err e)
    one_unread e reads = by_place before after id (Err e) (Err e) told reads (λ one storable spelled cause. cause)

    -- it is always there
    pub one_there : (e : Refusal) → ReadsOne id (Ok None) → GivesIt before after (Err e)
    one_there e reads = by_place before after id (Ok None) (Err e) told reads (λ one storable spelled none. absurd (no none))
      where
        no : {X : Type 0} {x : X} → None ≡ Some x → ⊥
        no e = cc

    -- what is made of it
    pub one_given : (document : Pairs) (r : Result Bool Refusal) → ReadsOne id (Ok (Some document))
        → (IsStorable document → id ≡ id_text_of document → MatchResult r (λ is_left. GivesOne document before is_left after) (λ e. e ≡ refusals.OutOfMemory))
        → GivesIt before after r
    one_given document r reads extends =
        by_place before after id (Ok (Some document)) r told reads (λ one storable spelled same. at r one storable spelled (is_one same) extends)
      where
        is_one : {x y : Pairs} → Some x ≡ Some y → x ≡ y
        is_one e = cc

        at : (q : Result Bool Refusal) (one : Stored) → IsStorable one.document → id ≡ id_text_of one.document → document ≡ one.document
            → (IsStorable document → id ≡ id_text_of document
            → MatchResult q (λ is_left. GivesOne document before is_left after) (λ e. e ≡ refusals.OutOfMemory))
            → MatchResult q (λ is_left. GivesOne one.document before is_left after) (HasReadCause history old new)
        at (Ok is_left) one storable spelled same extends =
            subst (λ (d : Pairs). GivesOne d before is_left after) same
            (extends (subst IsStorable (sym same) storable) (spelled ∙ ap id_text_of (sym same)))
        at (Err e) one storable spelled same extends = inl (extends (subst IsStorable (sym same) storable) (spelled ∙ ap id_text_of (sym same)))

-- An entry tells an `_id`.
pub one_told : {D : Type 0} (history : D → History) (version : Version) (number : ℕ) (i : Definition) (text : List ℕ) (old : State D) (before after : Giving)
    (e : Refusal) → id_text i.fields text ≡ None
    → ReadsVersion history version (IsLedIn number i text) (λ now one is_left. GivesOne one.document before is_left after) (Err e) old old
one_told history version number i text old before after e none = record {
  extends = goes_itself history old;
  unchanged = refl;
  same = λ start now has. has;
  answers = λ k now has one h. absurd (no (sym none ∙ h.told));
}
  where
    no : {X : Type 0} {x : X} → None ≡ Some x → ⊥
    no e = cc

-- the document that is put into a batch
pub put_in : (d : Pairs) (old now : Giving) → Puts old d false now → old.next ≡ None → GivesOne d old false now
put_in d old now puts none = record { gives = puts.went refl; noted = puts.next ∙ none }

pub put_left : (d : Pairs) (old now : Giving) (id : Vec ℕ) → Puts old d true now → id.items ≡ id_text_of d → GivesOne d old true (record now { next = Some id })
put_left d old now id puts is = record { gives = λ start all h. puts.left refl start all h id is; noted = is }

-- ---- entries whose documents are lent

-- one of them, and its document
record IsNextLed (i : Definition) (text : List ℕ) (documents : List Pairs) : Type 0 where
  document : Pairs
  behind : List Pairs
  split : documents ≡ document ∷ behind
  told : id_text i.fields text ≡ Some (id_text_of document)

next_led : (i : Definition) (documents : List Pairs) (text : List ℕ) (texts : List (List ℕ))
    → id_text i.fields text ∷ map (λ t. id_text i.fields t) texts ≡ map (λ d. Some (id_text_of d)) documents → IsNextLed i text documents
next_led i [] text texts e = absurd cc
next_led i (d ∷ documents) text texts e = record { document = d; behind = documents; split = refl; told = cc }

module _ {D : Type 0} (history : D → History) (version : Version) (number : ℕ) (i : Definition) (texts : List (List ℕ)) (begun : Giving) (start : State D) where
  abbrev Asks : List Collection → Chosen → Type 0
  Asks now chosen = AreLedIn number i texts now chosen

  abbrev Lends : Giving → List Collection → Chosen → Option (Vec ℕ) → Type 0
  Lends giving now chosen left = GivesLed i texts chosen.documents begun giving left

  -- The documents before this one were lent, and none is left.
  pub record HasLent (now : State D) (k : ℕ) (giving : Giving) : Type 0 where
    pub extends : ExtendsTurn history start now
    pub unchanged : IsUnchanged history start now
    pub same : (s t : List Collection) → HasState history start s t → HasState history now s t
    pub none : giving.next ≡ None
    pub some : IsOpen begun.batch → IsOpen giving.batch
    pub there : KeepsWord (disk_history history now) → (cs : List Collection) → HasVersion history start version cs → (chosen : Chosen) → Asks cs chosen
        → (s : Giving) (all : List Pairs) → Gives s all begun → Gives s (all ++ take k chosen.documents) giving

  pub none_lent : begun.next ≡ None → HasLent start 0 begun
  none_lent none = record {
    extends = goes_itself history start;
    unchanged = refl;
    same = λ s t has. has;
    none = none;
    some = λ h. h;
    there = λ k cs has chosen asks s all h. subst (λ (ds : List Pairs). Gives s ds begun) (sym (append-nil all)) h;
  }

  -- Nothing more is given.
  pub lent_over : (now : State D) (k : ℕ) (giving : Giving) → HasLent now k giving → is_over giving ≡ true
      → ReadsVersion history version Asks (Lends giving) (Ok None) start now
  lent_over now k giving come over = record {
    extends = come.extends;
    unchanged = come.unchanged;
    same = come.same;
    answers = λ word cs has chosen asks. record {
      gives = λ s all h.
          subst (λ (ds : List Pairs). Gives s ds giving)
          (append_assoc all (take k chosen.documents) (drop k chosen.documents) ∙ ap (λ (ds : List Pairs). all ++ ds) (take-append-drop k chosen.documents))
          (over_gives s giving (all ++ take k chosen.documents) (drop k chosen.documents) (come.there word cs has chosen asks s all h) over);
      left = as_none (None ≡ None) (λ (id : Vec ℕ). ⊥) giving.next come.none refl;
    };
  }

  -- all were lent
  pub lent_all : (now : State D) (k : ℕ) (giving : Giving) → HasLent now k giving → length texts ≤ k
      → ReadsVersion history version Asks (Lends giving) (Ok None) start now
  lent_all now k giving come past = record {
    extends = come.extends;
    unchanged = come.unchanged;
    same = come.same;
    answers = λ word cs has chosen asks.
        let many : length texts ≡ length chosen.documents =
        sym (length-map texts (λ text. id_text i.fields text)) ∙ ap length asks.led.told ∙ length-map chosen.documents (λ d. Some (id_text_of d)) in
        record {
          gives = λ s all h.
              subst (λ (ds : List Pairs). Gives s (all ++ ds) giving) (take_all k chosen.documents (omega (arith, many, past)))
              (come.there word cs has chosen asks s all h);
          left = as_none (None ≡ None) (λ (id : Vec ℕ). ⊥) giving.next come.none refl;
        };
  }

  module _ (now new : State D) (k : ℕ) (giving next : Giving) (come : HasLent now k giving) (text : List ℕ) (rest : List (List ℕ))
      (is : drop k texts ≡ text ∷ rest) where
    abbrev Read : Result Bool Refusal → Type 0
    Read r = ReadsVersion history version (IsLedIn number i text) (λ cs one is_left. GivesOne one.document giving is_left next) r now new

    record IsTurnOf (cs : List Collection) (chosen : Chosen) : Type 0 where
      document : Pairs
      behind : List Pairs
      at : drop k chosen.documents ≡ document ∷ behind
      stored : IsLedIn number i text cs (record { home = chosen.home; document = document })

    turn_of : (cs : List Collection) (chosen : Chosen) → Asks cs chosen → IsTurnOf cs chosen
    turn_of cs chosen asks =
        let Found : Pairs → Type 0 = λ d. find_document chosen.home.documents (key_of d) ≡ Some d in
        let told : id_text i.fields text ∷ map (λ t. id_text i.fields t) rest ≡ map (λ d. Some (id_text_of d)) (drop k chosen.documents) =
        sym (ap (map (λ t. id_text i.fields t)) is) ∙ sym (drop-map (λ t. id_text i.fields t) k texts) ∙ ap (drop k) asks.led.told
        ∙ drop-map (λ d. Some (id_text_of d)) k chosen.documents in
        let n : IsNextLed i text (drop k chosen.documents) = next_led i (drop k chosen.documents) text rest told in
        record {
          document = n.document;
          behind = n.behind;
          at = n.split;
          stored = record {
            numbered = asks.numbered;
            found = of_all Found chosen.documents n.document asks.led.found (among_next k chosen.documents n.document n.behind n.split);
            told = n.told;
          };
        }

    reaches : ExtendsTurn history now new → ExtendsTurn history start new
    reaches continues = goes_on history start now new come.extends continues

    pub lends_it : Read (Ok false) → next.next ≡ None → (IsOpen giving.batch → IsOpen next.batch) → HasLent new (k + 1) next
    lends_it reads none some = record {
      extends = reaches reads.extends;
      unchanged = reads.unchanged ∙ come.unchanged;
      same = λ s t has. reads.same s t (come.same s t has);
      none = none;
      some = λ h. some (come.some h);
      there = λ word cs has chosen asks s all h.
          let t : IsTurnOf cs chosen = turn_of cs chosen asks in
          let one = reads.answers word cs (versions_stay history start now come.extends version cs has)
          (record { home = chosen.home; document = t.document }) t.stored in
          let before = come.there (word_before history now new reads.extends word) cs has chosen asks s all h in
          subst (λ (ds : List Pairs). Gives s ds next)
          (append_assoc all (take k chosen.documents) (t.document ∷ [])
          ∙ ap (λ (ds : List Pairs). all ++ ds) (sym (take_next k chosen.documents t.document t.behind t.at)
          ∙ ap (λ (n : ℕ). take n chosen.documents) one_more))
          (one.gives s (all ++ take k chosen.documents) before);
    }
      where
        one_more : suc k ≡ k + 1
        one_more = omega arith

    -- there is no room for it
    pub lends_no_more : (left : Vec ℕ) → left.items ≡ text → Read (Ok true) → ReadsVersion history version Asks (Lends next) (Ok (Some left)) start new
    lends_no_more left left_is reads = record {
      extends = reaches reads.extends;
      unchanged = reads.unchanged ∙ come.unchanged;
      same = λ s t has. reads.same s t (come.same s t has);
      answers = λ word cs has chosen asks.
          let t : IsTurnOf cs chosen = turn_of cs chosen asks in
          let one = reads.answers word cs (versions_stay history start now come.extends version cs has)
          (record { home = chosen.home; document = t.document }) t.stored in
          record {
            gives = λ s all h.
                let before = come.there (word_before history now new reads.extends word) cs has chosen asks s all h in
                subst (λ (ds : List Pairs). Gives s ds next)
                (append_assoc (all ++ take k chosen.documents) (t.document ∷ []) t.behind
                ∙ append_assoc all (take k chosen.documents) (t.document ∷ t.behind)
                ∙ ap (λ (ds : List Pairs). all ++ ds) (split_next k chosen.documents t.document t.behind t.at))
                (over_gives s next ((all ++ take k chosen.documents) ++ t.document ∷ []) t.behind
                (one.gives s (all ++ take k chosen.documents) before) (by_left next.next next.batch.count t.document one.noted));
            left = text_left next.next t.document t.stored.told one.noted;
          };
    }
      where
        by_left : (o : Option (Vec ℕ)) (n : ℕ) (d : Pairs) → IsNoted true (id_text_of d) o → (is_some o || is_reached next.limit n) ≡ true
        by_left None n d h = absurd h
        by_left (Some id) n d h = refl

        there : Contains texts left.items
        there = contains_of texts left.items
            (subst (λ (t : List ℕ). Among t texts) (sym left_is) (among_next k texts text rest is))

        text_left : (o : Option (Vec ℕ)) (d : Pairs) → id_text i.fields text ≡ Some (id_text_of d) → IsNoted true (id_text_of d) o
            → MatchOption o (Some left ≡ None) (λ id. Contains texts left.items × (id_text i.fields left.items ≡ Some id.items))
        text_left None d told h = absurd h
        text_left (Some id) d told h = (there, ap (λ (t : List ℕ). id_text i.fields t) left_is ∙ told ∙ ap Some (sym h))

    -- reading it is refused
    pub lends_refused : (e : Refusal) → Read (Err e) → ReadsVersion history version Asks (Lends next) (Err e) start new
    lends_refused e reads = record {
      extends = reaches reads.extends;
      unchanged = reads.unchanged ∙ come.unchanged;
      same = λ s t has. reads.same s t (come.same s t has);
      answers = λ word cs has chosen asks.
          let t : IsTurnOf cs chosen = turn_of cs chosen asks in
          widen_before history start now new come.extends reads.extends word e
          (reads.answers word cs (versions_stay history start now come.extends version cs has) (record { home = chosen.home; document = t.document }) t.stored);
    }

    -- memory runs out behind it
    pub lends_memory : (b : Bool) (e : Refusal) → e ≡ refusals.OutOfMemory → Read (Ok b)
        → ReadsVersion history version Asks (Lends next) (Err e) start new
    lends_memory b e out reads = record {
      extends = reaches reads.extends;
      unchanged = reads.unchanged ∙ come.unchanged;
      same = λ s t has. reads.same s t (come.same s t has);
      answers = λ word cs has chosen asks. inl out;
    }
