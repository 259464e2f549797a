-- Entries of an index are read a few at a time, until a batch of their documents is full.
use Rattle.std.proofs.Common.{◌≡◌, inl, ℕ, true, false, List, [], Option, Some, None, Result, Ok, Err}
use Rattle.std.proofs.Common.{refl, sym, ap, subst, ◌∙◌}
use Rattle.std.specs.Prelude.{All, IfSome, MatchOption, MatchResult, is_some, ◌||◌}
use Rattle.std.specs.Global.{Vec}
use Rattle.std.specs.Option.{option_map}
use Rattle.std.specs.Ordering.{on}
use Rattle.bson.specs.Tree.{Pairs}
use Rattle.page.specs.History.{History, KeepsWord}
use Rattle.pager.specs.declared.version.Version.{Version}
use Rattle.path.specs.declared.refusal.Refusal.{Refusal}
use Rattle.path.specs.declared.refusal.Refusal.TheVariants as refusals
use Rattle.index.specs.Definition.{Definition}
use Rattle.index.specs.View.{texts_of}
use Rattle.entry_model.specs.LawfulState.{IsKept, IsLawfulState}
use Rattle.entry_model.specs.State.{Collection}
use Rattle.entry_model.proofs.FoundLawLemmas.{found_collection}
use Rattle.collections.specs.Calls.{ExtendsTurn, HasReadCause, IsUnchanged}
use Rattle.collections.specs.IndexTexts.{AreReadNext, Indexed, IsNumberedIndex}
use Rattle.collections.specs.Standing.{HasState}
use Rattle.collections.specs.State.{State}
use Rattle.collections.specs.Versions.{HasVersion, ReadsVersion}
use Rattle.collections.specs.View.{disk_history}
use Rattle.collections.specs.declared.index_texts.NextTexts.{NextTexts}
use Rattle.collections.proofs.VersionLemmas.{versions_stay}
use Rattle.replies.specs.OpenBatch.{IsOpen}
use Rattle.walks.specs.Batches.{Gives, IsBegun, IsEnded, is_over, is_reached}
use Rattle.walks.specs.InOrder.{AreLed, AreLedIn, GivesLed, HasReadBelow, HasReadFirst, IsIndexedIn}
use Rattle.walks.specs.InOrder.{IsOrderedBatch, IsOrderedIn, IsTextLeft, Sorted}
use Rattle.walks.specs.declared.batches.BatchAsked.{BatchAsked}
use Rattle.walks.specs.declared.batches.GivenBatch.{GivenBatch}
use Rattle.walks.specs.declared.batches.Giving.{Giving}
use Rattle.walks.specs.declared.batches.Walk.{Walk}
use Rattle.walks.specs.declared.in_order.OrderedWalk.{OrderedWalk}
use Rattle.walks.proofs.BatchesLemmas.{begins}
use Rattle.walks.proofs.InOrderLendLemmas.{led_documents}
use Rattle.walks.proofs.ListedLemmas.{version_from}
use Rattle.walks.proofs.OrderedBatchLemmas.{none_read, ordered_batch, read_all, read_on, read_over}
use Rattle.asked_documents.proofs.ReadingLemmas.{goes_itself, goes_on, widen_before, word_before}

-- ---- entries that are read a few at a time

module _ {D : Type 0} (history : D → History) (version : Version) (number : ℕ) (w : OrderedWalk) (begun : Giving) (start : State D) where
  abbrev i : Definition
  i = w.index.now

  abbrev index_of : Collection → Indexed
  index_of c = record { collection = c; definition = i }

  abbrev ReadsFirst : Giving → List Collection → Collection → Option (Option (Vec ℕ)) → Type 0
  ReadsFirst giving now c found = (s : Giving) → Gives s [] begun
      → IfSome found (HasReadFirst s giving w.from.now w.last.now (index_of c))

  -- All entries below this one were read.
  pub record HasCome (now : State D) (from : List ℕ) (giving : Giving) : Type 0 where
    pub extends : ExtendsTurn history start now
    pub unchanged : IsUnchanged history start now
    pub same : (s t : List Collection) → HasState history start s t → HasState history now s t
    pub none : giving.next ≡ None
    pub some : IsOpen begun.batch → IsOpen giving.batch
    pub there : KeepsWord (disk_history history now) → (cs : List Collection) → HasVersion history start version cs → (c : Collection)
        → IsIndexedIn number i cs c → (s : Giving) → Gives s [] begun → HasReadBelow s giving w.from.now from (index_of c)

  pub none_come : begun.next ≡ None → (from : List ℕ) → from ≡ w.from.now → HasCome start from begun
  none_come none from is = record {
    extends = goes_itself history start;
    unchanged = refl;
    same = λ s t has. has;
    none = none;
    some = λ h. h;
    there = λ word cs has c asks s h.
        subst (λ (t : List ℕ). HasReadBelow s begun w.from.now t (index_of c)) (sym is) (none_read s begun w.from.now (index_of c) h);
  }

  -- it was read often enough
  pub come_often : (now : State D) (from : List ℕ) (giving : Giving) → HasCome now from giving
      → ReadsVersion history version (IsIndexedIn number i) (ReadsFirst giving) (Ok None) start now
  come_often now from giving come = record {
    extends = come.extends;
    unchanged = come.unchanged;
    same = come.same;
    answers = λ word cs has c asks s h. tt;
  }

  module _ (now mid : State D) (from : List ℕ) (giving : Giving) (come : HasCome now from giving) (limit index : ℕ) (index_is : index ≡ i.number) where
    abbrev Next : Result NextTexts Refusal → Type 0
    Next r = ReadsVersion history version (IsNumberedIndex number index)
        (λ cs at found. AreReadNext from w.last.now limit at (option_map (λ v. v.items) found.next) (texts_of found.texts.items)) r now mid

    asked_index : (cs : List Collection) (c : Collection) → IsIndexedIn number i cs c → IsNumberedIndex number index cs (index_of c)
    asked_index cs c asks = record { numbered = asks.numbered; listed = asks.listed; same = sym index_is }

    -- reading entries is refused
    pub next_refused : (e : Refusal) (new_giving : Giving) → Next (Err e)
        → ReadsVersion history version (IsIndexedIn number i) (ReadsFirst new_giving) (Err e) start mid
    next_refused e new_giving reads = record {
      extends = goes_on history start now mid come.extends reads.extends;
      unchanged = reads.unchanged ∙ come.unchanged;
      same = λ s t has. reads.same s t (come.same s t has);
      answers = λ word cs has c asks.
          widen_before history start now mid come.extends reads.extends word e
          (reads.answers word cs (versions_stay history start now come.extends version cs has) (index_of c) (asked_index cs c asks));
    }

    module _ (new : State D) (new_giving : Giving) (found : NextTexts) (read : Next (Ok found)) where
      abbrev texts : List (List ℕ)
      texts = texts_of found.texts.items

      abbrev Lent : Result (Option (Vec ℕ)) Refusal → Type 0
      Lent r = ReadsVersion history version (AreLedIn number i texts) (λ cs chosen left. GivesLed i texts chosen.documents giving new_giving left) r mid new

      -- what was read, and the documents to which it leads
      record IsRead (c : Collection) (cs : List Collection) : Type 0 where
        told : AreReadNext from w.last.now limit (index_of c) (option_map (λ v. v.items) found.next) texts
        documents : List Pairs
        led : AreLed i c.documents texts documents
        asks : AreLedIn number i texts cs (record { home = c; documents = documents })

      is_read : KeepsWord (disk_history history mid) → (cs : List Collection) → HasVersion history start version cs → (c : Collection)
          → IsIndexedIn number i cs c → IsRead c cs
      is_read word cs has c asks = record {
        told = told;
        documents = led.0;
        led = led.1;
        asks = record { numbered = asks.numbered; led = led.1 };
      }
        where
          told : AreReadNext from w.last.now limit (index_of c) (option_map (λ v. v.items) found.next) texts
          told = read.answers word cs (versions_stay history start now come.extends version cs has) (index_of c) (asked_index cs c asks)

          kept : IsKept c
          kept = (found_collection cs c.name c has.state asks.numbered.found).0

          led : (documents : List Pairs) × AreLed i c.documents texts documents
          led = led_documents i c.documents kept.storable kept.rising texts (λ text h. (told.told.given text h).0)

      goes_mid : ExtendsTurn history start mid
      goes_mid = goes_on history start now mid come.extends read.extends

      -- lending is refused
      pub lending_refused : (e : Refusal) → Lent (Err e) → ReadsVersion history version (IsIndexedIn number i) (ReadsFirst new_giving) (Err e) start new
      lending_refused e lent = record {
        extends = goes_on history start mid new goes_mid lent.extends;
        unchanged = lent.unchanged ∙ read.unchanged ∙ come.unchanged;
        same = λ s t has. lent.same s t (read.same s t (come.same s t has));
        answers = λ word cs has c asks.
            let r : IsRead c cs = is_read (word_before history mid new lent.extends word) cs has c asks in
            widen_before history start mid new goes_mid lent.extends word e
            (lent.answers word cs (versions_stay history start mid goes_mid version cs has) (record { home = c; documents = r.documents }) r.asks);
      }

      module _ (left : Option (Vec ℕ)) (lent : Lent (Ok left)) where
        -- how what was lent stands to what was read before
        module _ (word : KeepsWord (disk_history history new)) (cs : List Collection) (has : HasVersion history start version cs) (c : Collection)
            (asks : IsIndexedIn number i cs c) (s : Giving) (h : Gives s [] begun) where
          mid_word : KeepsWord (disk_history history mid)
          mid_word = word_before history mid new lent.extends word

          r : IsRead c cs
          r = is_read mid_word cs has c asks

          before : HasReadBelow s giving w.from.now from (index_of c)
          before = come.there (word_before history now mid read.extends mid_word) cs has c asks s h

          given : GivesLed i texts r.documents giving new_giving left
          given = lent.answers word cs (versions_stay history start mid goes_mid version cs has) (record { home = c; documents = r.documents }) r.asks

        pub come_on : is_over new_giving ≡ false → (t : Vec ℕ) → found.next ≡ Some t
            → (IsOpen giving.batch → IsOpen new_giving.batch) → HasCome new t.items new_giving
        come_on continues t is some_there = record {
          extends = goes_on history start mid new goes_mid lent.extends;
          unchanged = lent.unchanged ∙ read.unchanged ∙ come.unchanged;
          same = λ s t has. lent.same s t (read.same s t (come.same s t has));
          none = none_left new_giving.next new_giving.batch.count continues;
          some = λ h. some_there (come.some h);
          there = λ word cs has c asks s h.
              read_on s giving new_giving w.from.now w.last.now from limit (index_of c) (option_map (λ v. v.items) found.next) texts
              (r word cs has c asks s h).documents left (before word cs has c asks s h) (r word cs has c asks s h).told.told
              (r word cs has c asks s h).led (given word cs has c asks s h) t.items (ap (option_map (λ v. v.items)) is);
        }
          where
            none_left : (o : Option (Vec ℕ)) (n : ℕ) → (is_some o || is_reached new_giving.limit n) ≡ false → o ≡ None
            none_left None n e = refl
            none_left (Some t) n e = absurd cc

        pub come_over : is_over new_giving ≡ true
            → ReadsVersion history version (IsIndexedIn number i) (ReadsFirst new_giving) (Ok (Some left)) start new
        come_over over = record {
          extends = goes_on history start mid new goes_mid lent.extends;
          unchanged = lent.unchanged ∙ read.unchanged ∙ come.unchanged;
          same = λ s t has. lent.same s t (read.same s t (come.same s t has));
          answers = λ word cs has c asks s h.
              read_over s giving new_giving w.from.now w.last.now from limit (index_of c) (option_map (λ v. v.items) found.next) texts
              (r word cs has c asks s h).documents left (before word cs has c asks s h) (r word cs has c asks s h).told.told
              (r word cs has c asks s h).led (given word cs has c asks s h) (r word cs has c asks s h).told.few over;
        }

        pub come_to_end : is_over new_giving ≡ false → found.next ≡ None
            → ReadsVersion history version (IsIndexedIn number i) (ReadsFirst new_giving) (Ok (Some None)) start new
        come_to_end continues is = record {
          extends = goes_on history start mid new goes_mid lent.extends;
          unchanged = lent.unchanged ∙ read.unchanged ∙ come.unchanged;
          same = λ s t has. lent.same s t (read.same s t (come.same s t has));
          answers = λ word cs has c asks s h.
              let g = given word cs has c asks s h in
              subst (HasReadFirst s new_giving w.from.now w.last.now (index_of c)) (none_told new_giving.next new_giving.batch.count continues left g.left)
              (read_all s giving new_giving w.from.now w.last.now from limit (index_of c) (option_map (λ v. v.items) found.next) texts
              (r word cs has c asks s h).documents left (before word cs has c asks s h) (r word cs has c asks s h).told.told
              (r word cs has c asks s h).led g (r word cs has c asks s h).told.few (ap (option_map (λ v. v.items)) is));
        }
          where
            none_told : (o : Option (Vec ℕ)) (n : ℕ) → (is_some o || is_reached new_giving.limit n) ≡ false → (l : Option (Vec ℕ))
                → MatchOption o (l ≡ None) (λ id. IsTextLeft i texts id.items l) → l ≡ None
            none_told None n e l h = h
            none_told (Some t) n e l h = absurd cc

-- ---- the batch of what was read

module _ {D : Type 0} (history : D → History) (version : Version) (number : ℕ) (w : OrderedWalk) (asked : BatchAsked) (begun done : Giving)
    (old new : State D) where
  abbrev FirstRead : List Collection → Collection → Option (Option (Vec ℕ)) → Type 0
  FirstRead now c found = (s : Giving) → Gives s [] begun
      → IfSome found (HasReadFirst s done w.from.now w.last.now (record { collection = c; definition = w.index.now }))

  abbrev pub ReadsEntries : Result (Option (Option (Vec ℕ))) Refusal → Type 0
  ReadsEntries s = ReadsVersion history version (IsIndexedIn number w.index.now) FirstRead s old new

  abbrev pub ReadsBatch : Result (Option GivenBatch) Refusal → Type 0
  ReadsBatch r = ReadsVersion history version (IsOrderedIn number w)
      (λ now o (found : Option GivenBatch). IfSome found (IsOrderedBatch o.sort w asked o.home.documents)) r old new

  from_entries : (s : Result (Option (Option (Vec ℕ))) Refusal) (r : Result (Option GivenBatch) Refusal) → ReadsEntries s
      → ((now : List Collection) → IsLawfulState now → (o : Sorted) → IsOrderedIn number w now o
      → MatchResult s (FirstRead now o.home) (HasReadCause history old new)
      → MatchResult r (λ found. IfSome found (IsOrderedBatch o.sort w asked o.home.documents)) (HasReadCause history old new)) → ReadsBatch r
  from_entries s r reads extends =
      version_from history version (IsIndexedIn number w.index.now) FirstRead (IsOrderedIn number w)
      (λ now o (found : Option GivenBatch). IfSome found (IsOrderedBatch o.sort w asked o.home.documents)) old new s r reads
      (λ now state o asks. record { other = o.home; was = asks.indexed; right = extends now state o asks })

  -- reading them was refused
  pub entries_refused : (e : Refusal) → ReadsEntries (Err e) → ReadsBatch (Err e)
  entries_refused e reads = from_entries (Err e) (Err e) reads (λ now state o asks cause. cause)

  -- memory ran out behind it
  pub entries_memory : (s : Result (Option (Option (Vec ℕ))) Refusal) (e : Refusal) → e ≡ refusals.OutOfMemory → ReadsEntries s → ReadsBatch (Err e)
  entries_memory s e is reads = from_entries s (Err e) reads (λ now state o asks read. inl is)

  -- the batch isn't over
  pub entries_many : (s : Result (Option (Option (Vec ℕ))) Refusal) → s ≡ Ok None → ReadsEntries s → ReadsBatch (Ok None)
  entries_many s is reads =
      from_entries (Ok None) (Ok None) (subst ReadsEntries is reads) (λ now state o asks read. tt)

  pub ordered_read : (walk : Walk) (left : Option (Vec ℕ)) (ended b : GivenBatch) → walk.filter.now ≡ w.filter.now
      → walk.projection.now ≡ w.projection.now → walk.skip ≡ w.skip → walk.limit ≡ w.limit → IsBegun walk asked begun → IsEnded done asked ended
      → b.reply ≡ ended.reply → b.count ≡ ended.count → b.next ≡ left → ReadsEntries (Ok (Some left)) → ReadsBatch (Ok (Some b))
  ordered_read walk left ended b same_filter same_projection same_skip same_limit is_begun end reply count next reads =
      from_entries (Ok (Some left)) (Ok (Some b)) reads
      (λ now state o asks read.
      ordered_batch o.sort w asked walk begun done left ended b same_filter same_projection same_skip same_limit is_begun end reply count next o.home
      (found_collection now o.home.name o.home state asks.indexed.numbered.found).0 asks.indexed.listed asks.indexed.stored asks.in_order
      (read begun (begins walk asked begun is_begun)))
