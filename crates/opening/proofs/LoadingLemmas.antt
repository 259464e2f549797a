-- How one entry after the other is taken, and what its judgement comes to.
use Rattle.std.proofs.Common.{◌≡◌, ◌⊎◌, ℕ, ◌+◌, ◌<◌, ◌≤◌, true, false, List, [], ◌∷◌, length, map, drop, get_or, Ok, Err, Some, inl, inr, refl, sym, ap, subst}
use Rattle.std.proofs.Common.{◌∙◌, arith, eqb-true}
use Rattle.std.specs.Prelude.{IfErr, OnOk, Result, Bool, ◌==◌, ◌^◌, not, if◌then◌else◌}
use Rattle.page.specs.History.{History, KeepsWord}
use Rattle.bson.specs.Tree.{Pairs}
use Rattle.tree_model.specs.Keys.{Entry}
use Rattle.btree.specs.Scan.{entry_in}
use Rattle.btree.specs.declared.scanning.Entry.{Entry as OwnEntry}
use Rattle.value_order.specs.KeyText.{tree_text}
use Rattle.roots.specs.declared.opening.OpenFault.{OpenFault}
use Rattle.roots.specs.declared.opening.OpenFault.TheVariants as faults
use Rattle.path.specs.declared.refusal.Refusal.{Refusal}
use Rattle.path.specs.declared.refusal.Refusal.TheVariants as refusals
use Rattle.index.specs.Definition.{Definition}
use Rattle.entry_model.specs.State.{Collection, words}
use Rattle.entry_model.specs.StateEntries.{key_under}
use Rattle.entries.proofs.FitLaws.{key_size}
use Rattle.entry_model.proofs.LawfulParts.{kept_of}
use Rattle.collections.specs.Entries.{HasEntries, ReadsTree}
use Rattle.collections.specs.IndexChecks.{lacks_any}
use Rattle.collections.specs.State.{State}
use Rattle.collections.specs.View.{disk_history}
use Rattle.database_model.specs.Documents.{key_of}
use Rattle.opening.specs.FileOpening.{IsRead, Judges}
use Rattle.opening.specs.Judging.{HasItsKeys, IsDocumentAt, IsFaultOf, IsIndexable, IsLoadingAs, IsName, IsStoredAt, Progress, Refuses, RefusesOne, Takes}
use Rattle.opening.specs.Judging.{TakesAll, TakesDocument, TakesName, index_in, is_of_index, key_count, keys_among, listed_of, numbered, with_document_at}
use Rattle.opening.proofs.EntryLoops.{fault_of, refuses_here, refuses_next, takes_end, takes_next}
use Rattle.opening.proofs.FileBatches.{as_read, failed_as, judged_as, judged_damaged, judged_failed, judged_fault, judged_memory, judged_so, judged_unread}
use Rattle.opening.proofs.FileBatches.{read_none, read_on, word_before}
use Rattle.opening.proofs.JudgingLemmas.{document_of, same_stored}
use Rattle.opening.proofs.TakingLemmas.{document_loaded, found_at}

-- ---- a document

-- its keys stand among all, and so many more are counted
abbrev pub IsJudged : Collection → ℕ → List Entry → Pairs × ℕ → Type 0
IsJudged c count all r = HasItsKeys all c r.0 × (r.1 ≡ count + key_count (keys_among c.indexes r.0))

-- the entry is of no document whose keys do
abbrev pub IsNone : Collection → Entry → List Entry → Type 0
IsNone c pair all = (d : Pairs) → IsStoredAt c pair d → HasItsKeys all c d → ⊥

-- what was asked, by what it was asked of
pub reads_same : {D : Type 0} (history : D → History) (n : ℕ) (id text : List ℕ) (is js : List Definition) (kss lss : List (List (List ℕ)))
    (r : Result Bool Refusal) (old new : State D) → id ≡ text → is ≡ js → kss ≡ lss
    → ReadsTree history (λ entries found. found ≡ lacks_any n id is kss entries) r old new
    → ReadsTree history (λ entries found. found ≡ lacks_any n text js lss entries) r old new
reads_same history n id text is js kss lss r old new texts indexes keys reads =
    subst (λ (ts : List (List (List ℕ))). ReadsTree history (λ entries found. found ≡ lacks_any n text js ts entries) r old new) keys
    (subst (λ (ks : List Definition). ReadsTree history (λ entries found. found ≡ lacks_any n text ks kss entries) r old new) indexes
    (subst (λ (t : List ℕ). ReadsTree history (λ entries found. found ≡ lacks_any n t is kss entries) r old new) texts reads))

module _ {D : Type 0} (history : D → History) (c : Collection) (pair : Entry) (count : ℕ) (old new : State D) where
  -- the value spells no document that may be stored
  pub document_fault : (fault : OpenFault) → IsFaultOf fault ((d : Pairs) → IsDocumentAt c.number pair d → ⊥)
      → Judges history (IsJudged c count) (IsNone c pair) (Err fault) old old
  document_fault fault h =
      judged_fault history (IsJudged c count) (IsNone c pair) old old fault (read_none history old)
      (λ all. fault_of fault (λ none d is keyed. none d (document_of c pair d is)) h)

  module _ (d : Pairs) (at : IsDocumentAt c.number pair d) where
    -- an index refuses it
    pub keys_fault : (fault : OpenFault) → IsFaultOf fault (IsIndexable c.indexes d → ⊥) → Judges history (IsJudged c count) (IsNone c pair) (Err fault) old old
    keys_fault fault h =
        judged_fault history (IsJudged c count) (IsNone c pair) old old fault (read_none history old)
        (λ all. fault_of fault (λ none e is keyed. none (subst (IsIndexable c.indexes) (same_stored c pair d e at is) is.indexable)) h)

    module _ (id : List ℕ) (kss : List (List (List ℕ))) (text : id ≡ tree_text (key_of d)) (keys : kss ≡ keys_among c.indexes d) where
      abbrev Lacks : List Entry → Bool → Type 0
      Lacks entries found = found ≡ lacks_any c.number id c.indexes kss entries

      told : (b : Bool) (all : List Entry) → Lacks all b → b ≡ lacks_any c.number (tree_text (key_of d)) c.indexes (keys_among c.indexes d) all
      told b all is = is ∙ (λ k. lacks_any c.number (text k) c.indexes (keys k) all)

      pub keys_missing : ReadsTree history Lacks (Ok true) old new → Judges history (IsJudged c count) (IsNone c pair) (Err faults.Damaged) old new
      keys_missing reads =
          judged_damaged history (IsJudged c count) (IsNone c pair) old new (as_read history Lacks (Ok true) old new reads)
          (λ k all has e is keyed.
          let here : HasItsKeys all c d = subst (HasItsKeys all c) (same_stored c pair d e at is) keyed in
          let never : true ≡ false = told true all (reads.answers k all has) ∙ here in
          absurd cc)

      pub keys_there : ReadsTree history Lacks (Ok false) old new → (n : ℕ) → n ≡ count + key_count kss
          → Judges history (IsJudged c count) (IsNone c pair) (Ok (d, n)) old new
      keys_there reads n is =
          judged_so history (IsJudged c count) (IsNone c pair) old new (d, n) (as_read history Lacks (Ok false) old new reads)
          (λ k all has. (sym (told false all (reads.answers k all has)), is ∙ ap (λ (ks : List (List (List ℕ))). count + key_count ks) keys))

      pub keys_uncounted : ReadsTree history Lacks (Ok false) old new → Judges history (IsJudged c count) (IsNone c pair) (Err faults.Memory) old new
      keys_uncounted reads = judged_memory history (IsJudged c count) (IsNone c pair) old new (as_read history Lacks (Ok false) old new reads)

      pub keys_unread : (refusal : Refusal) (fault : OpenFault) → ReadsTree history Lacks (Err refusal) old new
          → (fault ≡ faults.Device → refusal ≡ refusals.StorageFailed) → (fault ≡ faults.Device) ⊎ (fault ≡ faults.Memory)
          → Judges history (IsJudged c count) (IsNone c pair) (Err fault) old new
      keys_unread refusal fault reads device kinds = judged_unread history (IsJudged c count) (IsNone c pair) Lacks old new refusal fault reads device kinds

-- ---- what is taken of it

number_of : (n : ℕ) (cs : List Collection) (c : Collection) → numbered n cs ≡ Some c → c.number ≡ n
number_of n [] c told = absurd cc
number_of n (x ∷ cs) c told = by (x.number == n) refl told (number_of n cs c)
  where
    some_same : {y z : Collection} → Some y ≡ Some z → y ≡ z
    some_same e = cc

    by : (b : Bool) → (x.number == n) ≡ b → (if b then Some x else numbered n cs) ≡ Some c → (numbered n cs ≡ Some c → c.number ≡ n) → c.number ≡ n
    by true same e later = sym (ap (λ (y : Collection). y.number) (some_same e)) ∙ eqb-true x.number n same
    by false other e later = later e

module _ (names now : List Collection) (number : ℕ) (c : Collection) (pair : Entry) (loading : IsLoadingAs names now)
    (told : numbered number names ≡ Some c) where
  same_number : c.number ≡ number
  same_number = number_of number names c told

  listed_so : numbered c.number (listed_of now) ≡ Some c
  listed_so = ap (λ (n : ℕ). numbered n (listed_of now)) same_number ∙ ap (numbered number) (sym loading.named) ∙ told

  pub document_loading : (d : Pairs) → IsStoredAt c pair d → IsLoadingAs names (with_document_at number d now)
  document_loading d is =
      subst (λ (n : ℕ). IsLoadingAs names (with_document_at n d now)) same_number
      (document_loaded names now pair c d loading (ap (λ (n : ℕ). numbered n names) same_number ∙ told) is)

  pub document_takes : (all : List Entry) (d : Pairs) (documents count n seen : ℕ) → IsStoredAt c pair d → IsJudged c count all (d, n)
      → TakesDocument all (record { now = now; documents = documents; keys = count; seen = seen }) pair
      (record { now = with_document_at number d now; documents = documents + 1; keys = n; seen = seen })
  document_takes all d documents count n seen is judged = record {
    collection = c;
    document = d;
    listed = listed_so;
    is = is;
    keyed = judged.0;
    next_is = λ k. record { now = with_document_at (sym same_number k) d now; documents = documents + 1; keys = judged.1 k; seen = seen };
  }

  pub document_refuses : (all : List Entry) → IsNone c pair all → (e : Collection) (d : Pairs) → e.number ≡ number → numbered number (listed_of now) ≡ Some e
      → IsStoredAt e pair d → HasItsKeys all e d → ⊥
  document_refuses all none e d same there is keyed =
      let one : e ≡ c = some_same (sym there ∙ ap (numbered number) (sym loading.named) ∙ told) in
      none d (subst (λ (x : Collection). IsStoredAt x pair d) one is) (subst (λ (x : Collection). HasItsKeys all x d) one keyed)
    where
      some_same : {y z : Collection} → Some y ≡ Some z → y ≡ z
      some_same f = cc

  -- no document of the collection of this number is stored there whose keys stand among all
  abbrev Refuses_all : List Entry → Type 0
  Refuses_all all = (e : Collection) (d : Pairs) → e.number ≡ number → numbered number (listed_of now) ≡ Some e → IsStoredAt e pair d → HasItsKeys all e d → ⊥

  module _ {D : Type 0} (history : D → History) (documents count seen : ℕ) (old new : State D) where
    pub document_taken : (d : Pairs) (n : ℕ) (after : List Collection) → after ≡ with_document_at number d now → IsStoredAt c pair d
        → Judges history (IsJudged c count) (IsNone c pair) (Ok (d, n)) old new
        → Judges history
        (λ all (u : Unit {0}). TakesDocument all (record { now = now; documents = documents; keys = count; seen = seen }) pair
        (record { now = after; documents = documents + 1; keys = n; seen = seen })) Refuses_all (Ok tt) old new
    document_taken d n after made is judged =
        judged_as history (IsJudged c count) (IsNone c pair)
        (λ all (u : Unit {0}). TakesDocument all (record { now = now; documents = documents; keys = count; seen = seen }) pair
        (record { now = after; documents = documents + 1; keys = n; seen = seen })) Refuses_all old new (d, n) tt judged
        (λ all j. subst
        (λ (later : List Collection). TakesDocument all (record { now = now; documents = documents; keys = count; seen = seen }) pair
        (record { now = later; documents = documents + 1; keys = n; seen = seen })) (sym made) (document_takes all d documents count n seen is j))

    pub document_failed : (fault : OpenFault) (next : Progress) → Judges history (IsJudged c count) (IsNone c pair) (Err fault) old new
        → Judges history
        (λ all (u : Unit {0}). TakesDocument all (record { now = now; documents = documents; keys = count; seen = seen }) pair next) Refuses_all
        (Err fault) old new
    document_failed fault next judged =
        failed_as history (IsJudged c count) (IsNone c pair)
        (λ all (u : Unit {0}). TakesDocument all (record { now = now; documents = documents; keys = count; seen = seen }) pair next) Refuses_all old new fault
        judged (λ all none. document_refuses all none)

-- ---- which entry is refused

module _ (all : List Entry) (names : List Collection) (p : Progress) (pair : Entry) (loading : IsLoadingAs names p.now) where
  least_of : (c : Collection) → numbered c.number (listed_of p.now) ≡ Some c → 1 ≤ c.number
  least_of c told = let at = found_at c.number p.now c told in omega (arith, (kept_of p.now at.collection loading.loaded.lawful at.there).least, at.same)

  most_of : (c : Collection) → numbered c.number (listed_of p.now) ≡ Some c → c.number ≤ 1000
  most_of c told = let at = found_at c.number p.now c told in omega (arith, (kept_of p.now at.collection loading.loaded.lawful at.there).most, at.same)

  under_size : (n : ℕ) (text : List ℕ) → pair.key ≡ key_under n 0 text → 8 ≤ length pair.key
  under_size n text is = omega (arith, ap length is, key_size n 0 text)

  -- a key without two numbers
  pub short_refused : length pair.key < 8 → Refuses all p pair
  short_refused short next (inl t) = omega (arith, short, under_size 0 (tree_text (words t.name.name)) (ap (λ (x : Entry). x.key) t.is.pair_is))
  short_refused short next (inr (inl t)) =
      omega (arith, short, under_size t.collection.number (tree_text (key_of t.document)) (ap (λ (x : Entry). x.key) t.is.pair_is))
  short_refused short next (inr (inr t)) = omega (arith, short, t.long)

  module _ (number : ℕ) (is_number : (n : ℕ) (text : List ℕ) → n < 2 ^ 32 → pair.key ≡ key_under n 0 text → number ≡ n) (no_index : index_in pair.key ≡ 0) where
    no_key : is_of_index pair ≡ true → ⊥
    no_key is = let never : false ≡ true = sym (ap (λ (i : ℕ). not (i == 0)) no_index) ∙ is in cc

    number_named : (n : Collection) → IsName (listed_of p.now) pair n → number ≡ 0
    number_named n is = is_number 0 (tree_text (words n.name)) (omega arith) (ap (λ (x : Entry). x.key) is.pair_is)

    number_stored : (c : Collection) (d : Pairs) → numbered c.number (listed_of p.now) ≡ Some c → IsStoredAt c pair d → number ≡ c.number
    number_stored c d told is = is_number c.number (tree_text (key_of d)) (omega (arith, most_of c told)) (ap (λ (x : Entry). x.key) is.pair_is)

    pub name_refused : number ≡ 0 → ((n : Collection) → IsName (listed_of p.now) pair n → ⊥) → Refuses all p pair
    name_refused zero none next (inl t) = none t.name t.is
    name_refused zero none next (inr (inl t)) = omega (arith, zero, number_stored t.collection t.document t.listed t.is, least_of t.collection t.listed)
    name_refused zero none next (inr (inr t)) = no_key t.is

    pub document_refused : (number ≡ 0 → ⊥)
        → ((c : Collection) (d : Pairs) → c.number ≡ number → numbered number (listed_of p.now) ≡ Some c → IsStoredAt c pair d → HasItsKeys all c d → ⊥)
        → Refuses all p pair
    document_refused more none next (inl t) = more (number_named t.name t.is)
    document_refused more none next (inr (inl t)) =
        let same = number_stored t.collection t.document t.listed t.is in
        none t.collection t.document (sym same) (ap (λ (n : ℕ). numbered n (listed_of p.now)) same ∙ t.listed) t.is t.keyed
    document_refused more none next (inr (inr t)) = no_key t.is

pub of_index : (pair : Entry) (index : ℕ) → index ≡ index_in pair.key → (index ≡ 0 → ⊥) → is_of_index pair ≡ true
of_index pair index is more = by (index_in pair.key == 0) refl
  where
    by : (b : Bool) → (index_in pair.key == 0) ≡ b → not b ≡ true
    by true zero = absurd (more (is ∙ eqb-true (index_in pair.key) 0 zero))
    by false other = refl

-- ---- an entry

module _ {D : Type 0} (history : D → History) (file : State D) (pair : Entry) (p next : Progress) where
  abbrev Taken : List Entry → Unit {0} → Type 0
  Taken all u = Takes all p pair next

  abbrev Refused : List Entry → Type 0
  Refused all = Refuses all p pair

  pub key_judged : (r : Result (Unit {0}) OpenFault) → OnOk r (next ≡ record p { seen = p.seen + 1 }) → IfErr r (λ e. e ≡ faults.Memory) → 8 ≤ length pair.key
      → is_of_index pair ≡ true → Judges history Taken Refused r file file
  key_judged (Ok u) ok err long is =
      judged_so history Taken Refused file file u (read_none history file) (λ k all has. inr (inr (record { long = long; is = is; next_is = ok })))
  key_judged (Err e) ok err long is = judged_fault history Taken Refused file file e (read_none history file) (λ all. inl err)

  pub name_judged : {W : Type 0} (r : Result (Unit {0}) OpenFault) → OnOk r (TakesName p pair next) → IfErr r (λ e. IsFaultOf e W)
      → ((all : List Entry) → W → Refuses all p pair) → Judges history Taken Refused r file file
  name_judged (Ok u) ok err extends = judged_so history Taken Refused file file u (read_none history file) (λ k all has. inl ok)
  name_judged (Err e) ok err extends = judged_fault history Taken Refused file file e (read_none history file) (λ all. fault_of e (extends all) err)

  pub document_judged : (W : List Entry → Type 0) (r : Result (Unit {0}) OpenFault) (new : State D)
      → Judges history (λ all (u : Unit {0}). TakesDocument all p pair next) W r file new → ((all : List Entry) → W all → Refuses all p pair)
      → Judges history Taken Refused r file new
  document_judged W (Ok u) new judged extends =
      judged_as history (λ all (u : Unit {0}). TakesDocument all p pair next) W Taken Refused file new u u judged (λ all t. inr (inl t))
  document_judged W (Err e) new judged extends = failed_as history (λ all (u : Unit {0}). TakesDocument all p pair next) W Taken Refused file new e judged
      extends

pub ok_on : {A B : Type 0} {X E : Type 0} (r : Result X E) → (A → B) → OnOk r A → OnOk r B
ok_on (Ok x) extends h = extends h
ok_on (Err e) extends h = h

-- ---- entries, one after the other

-- what is left of the entries takes or refuses what all of them do
pub record ComesTo (entries : List OwnEntry) (i : ℕ) (first p : Progress) (all : List Entry) : Type 0 where
  pub takes : (last : Progress) → TakesAll all p (map entry_in (drop i entries)) last → TakesAll all first (map entry_in entries) last
  pub refuses : RefusesOne all p (map entry_in (drop i entries)) → RefusesOne all first (map entry_in entries)

-- The first of the entries were taken.
pub record TakesUpTo {D : Type 0} (history : D → History) (entries : List OwnEntry) (i : ℕ) (first p : Progress) (old new : State D) : Type 0 where
  pub read : IsRead history old new
  pub so_far : KeepsWord (disk_history history new) → (all : List Entry) → HasEntries history old all → ComesTo entries i first p all

pub entries_none : {D : Type 0} (history : D → History) (entries : List OwnEntry) (first : Progress) (file : State D)
    → TakesUpTo history entries 0 first first file file
entries_none history entries first file = record { read = read_none history file; so_far = λ k all has. record { takes = λ last h. h; refuses = λ h. h } }

module _ {D : Type 0} (history : D → History) (entries : List OwnEntry) (i : ℕ) (first p : Progress) (old mid : State D)
    (up : TakesUpTo history entries i first p old mid) where
  abbrev Takes_these : Progress → List Entry → Unit {0} → Type 0
  Takes_these last all u = TakesAll all first (map entry_in entries) last

  abbrev Refuses_one : List Entry → Type 0
  Refuses_one all = RefusesOne all first (map entry_in entries)

  module _ (x : OwnEntry) (within : i < length entries) (is : x ≡ get_or entries i x) (next : Progress) (new : State D) where
    abbrev Takes_this : List Entry → Unit {0} → Type 0
    Takes_this all u = Takes all p (entry_in x) next

    abbrev Refuses_this : List Entry → Type 0
    Refuses_this all = Refuses all p (entry_in x)

    pub entries_step : Judges history Takes_this Refuses_this (Ok tt) mid new → TakesUpTo history entries (i + 1) first next old new
    entries_step judged = record {
      read = read_on history old mid new up.read judged.read;
      so_far = λ k all has.
          let k_mid = word_before history mid new judged.read k in
          let so = up.so_far k_mid all has in
          let t = judged.answers k all (up.read.stays k_mid all has) in
          record {
            takes = λ last later. so.takes last (takes_next all entries i x within is p next last t later);
            refuses = λ later. so.refuses (refuses_next all entries i x within is p next t later);
          };
    }

    pub entries_failed : (fault : OpenFault) (last : Progress) → Judges history Takes_this Refuses_this (Err fault) mid new
        → Judges history (Takes_these last) Refuses_one (Err fault) old new
    entries_failed fault last judged =
        judged_failed history (ComesTo entries i first p) Takes_this Refuses_this (Takes_these last) Refuses_one old mid new up.read up.so_far fault judged
        (λ all so refuses. so.refuses (refuses_here all entries i x within is p refuses))

  pub entries_end : length entries ≤ i → Judges history (Takes_these p) Refuses_one (Ok tt) old mid
  entries_end whole =
      judged_so history (Takes_these p) Refuses_one old mid tt up.read (λ k all has. (up.so_far k all has).takes p (takes_end all entries i p whole))
