-- The entries of a file, judged batch after batch.
use Rattle.std.proofs.Common.{◌≡◌, ◌≢◌, ◌⊎◌, arith, ℕ, List, [], ◌∷◌, ◌++◌, inl, inr, refl, sym, ap, ◌∙◌, subst, map, Some, None, append-nil, append_assoc}
use Rattle.std.specs.Prelude.{Ok, Err, Result, Option}
use Rattle.std.specs.Global.{Vec}
use Rattle.page.specs.History.{History, KeepsWord}
use Rattle.tree_model.specs.Keys.{Entry}
use Rattle.btree.specs.Scan.{entry_in}
use Rattle.btree.specs.declared.scanning.Batch.{Batch}
use Rattle.tree_model.proofs.StoreLemmas.{grows_itself, grows_trans}
use Rattle.roots.specs.declared.opening.OpenFault.{OpenFault}
use Rattle.roots.specs.declared.opening.OpenFault.TheVariants as faults
use Rattle.path.specs.declared.refusal.Refusal.{Refusal}
use Rattle.path.specs.declared.refusal.Refusal.TheVariants as refusals
use Rattle.entry_model.specs.State.{Collection}
use Rattle.collections.specs.Calls.{HasCause, HasFailed}
use Rattle.collections.specs.Entries.{AreNextEntries, HasEntries, ReadsTree, entries_from}
use Rattle.collections.specs.State.{State}
use Rattle.collections.specs.View.{disk_history, pages_of}
use Rattle.collections.proofs.ReadingLemmas.{window_all}
use Rattle.collections.proofs.StandingLemmas.{stopped_same}
use Rattle.opening.specs.FileOpening.{HasFault, HasTaken, IsOfEntries, IsRead, Judges, LoadsBatch, LoadsEntries, LoadsFile}
use Rattle.opening.specs.Loading.{named_as, progress_of}
use Rattle.opening.specs.declared.loading.Loading.{Loading}
use Rattle.opening.specs.Judging.{IsFaultOf, IsLoadingAs, Makes, MakesNone, Progress, RefusesOne, TakesAll, nothing_read}

-- ---- lists of entries, one behind the other

pub takes_on : (all : List Entry) (a b c : Progress) (xs ys : List Entry) → TakesAll all a xs b → TakesAll all b ys c → TakesAll all a (xs ++ ys) c
takes_on all a b c [] ys h g = subst (λ (p : Progress). TakesAll all p ys c) (sym h) g
takes_on all a b c (x ∷ xs) ys (next, takes, later) g = (next, takes, takes_on all next b c xs ys later g)

pub refuses_on : (all : List Entry) (a b : Progress) (xs ys : List Entry) → TakesAll all a xs b → RefusesOne all b ys → RefusesOne all a (xs ++ ys)
refuses_on all a b [] ys h g = subst (λ (p : Progress). RefusesOne all p ys) (sym h) g
refuses_on all a b (x ∷ xs) ys (next, takes, later) g = inr (next, takes, refuses_on all next b xs ys later g)

pub refuses_more : (all : List Entry) (a : Progress) (xs ys : List Entry) → RefusesOne all a xs → RefusesOne all a (xs ++ ys)
refuses_more all a [] ys h = absurd h
refuses_more all a (x ∷ xs) ys (inl h) = inl h
refuses_more all a (x ∷ xs) ys (inr (next, takes, later)) = inr (next, takes, refuses_more all next xs ys later)

-- ---- reading

module _ {D : Type 0} (history : D → History) where
  pub word_before : (old new : State D) → IsRead history old new → KeepsWord (disk_history history new) → KeepsWord (disk_history history old)
  word_before old new read k = (read.extends.frame k).word

  pub read_none : (c : State D) → IsRead history c c
  read_none c = record { extends = grows_itself (pages_of history c); unchanged = refl; same = λ start now has. has; stays = λ k entries has. has }

  pub read_on : (a b c : State D) → IsRead history a b → IsRead history b c → IsRead history a c
  read_on a b c first later = record {
    extends = grows_trans (pages_of history a) (pages_of history b) (pages_of history c) first.extends later.extends;
    unchanged = later.unchanged ∙ first.unchanged;
    same = λ start now has. later.same start now (first.same start now has);
    stays = λ k entries has. later.stays k entries (first.stays (word_before b c later k) entries has);
  }

  failed_from : (a b c : State D) → IsRead history a b → KeepsWord (disk_history history b) → HasFailed history b c → HasFailed history a c
  failed_from a b c first k (inl stopped) = inl (sym (stopped_same history a.pager b.pager first.extends.stays) ∙ stopped)
  failed_from a b c first k (inr more) = inr (omega (arith, more, (first.extends.frame k).failures))

  pub as_read : {X : Type 0} (P : List Entry → X → Type 0) (r : Result X Refusal) (old new : State D) → ReadsTree history P r old new → IsRead history old new
  as_read P r old new reads = record { extends = reads.extends; unchanged = reads.unchanged; same = reads.same; stays = reads.stays }

-- ---- faults

of_fault : {A : Type 0} (fault : OpenFault) → IsFaultOf fault A → IsOfEntries fault
of_fault fault (inl is) = ((λ other. cc), (λ other. cc))
of_fault fault (inr (is, why)) = ((λ other. cc), (λ other. cc))

not_device : {A : Type 0} (fault : OpenFault) → IsFaultOf fault A → fault ≡ faults.Device → ⊥
not_device fault (inl is) device = cc
not_device fault (inr (is, why)) device = cc

why_of : {A : Type 0} (fault : OpenFault) → IsFaultOf fault A → fault ≢ faults.Memory → A
why_of fault (inl is) other = absurd (other is)
why_of fault (inr (is, why)) other = why

module _ {D X : Type 0} (history : D → History) (IsRight : List Entry → X → Type 0) (Why : List Entry → Type 0) where
  fault_there : (old new : State D) (fault : OpenFault) (all : List Entry) → IsFaultOf fault (Why all) → HasFault history (Why all) old new fault
  fault_there old new fault all is = record
      { device = λ device. absurd (not_device fault is device); damaged = λ no_device no_memory. why_of fault is no_memory }

  -- ---- an answer, and a fault

  pub judged_so : (old new : State D) (x : X) → IsRead history old new
      → (KeepsWord (disk_history history new) → (all : List Entry) → HasEntries history old all → IsRight all x) → Judges history IsRight Why (Ok x) old new
  judged_so old new x read right = record { read = read; kinds = tt; answers = right }

  -- a fault that no look at the tree is needed for
  pub judged_fault : (old new : State D) (fault : OpenFault) → IsRead history old new → ((all : List Entry) → IsFaultOf fault (Why all))
      → Judges history IsRight Why (Err fault) old new
  judged_fault old new fault read is = record { read = read; kinds = of_fault fault (is []); answers = λ k all has. fault_there old new fault all (is all) }

  pub judged_damaged : (old new : State D) → IsRead history old new
      → (KeepsWord (disk_history history new) → (all : List Entry) → HasEntries history old all → Why all)
      → Judges history IsRight Why (Err faults.Damaged) old new
  judged_damaged old new read why = record {
    read = read;
    kinds = ((λ other. cc), (λ other. cc));
    answers = λ k all has. record { device = λ is. absurd cc; damaged = λ no_device no_memory. why k all has };
  }

  pub judged_memory : (old new : State D) → IsRead history old new → Judges history IsRight Why (Err faults.Memory) old new
  judged_memory old new read = judged_fault old new faults.Memory read (λ all. inl refl)

  -- the tree could not be read
  pub judged_unread : {Y : Type 0} (P : List Entry → Y → Type 0) (old new : State D) (refusal : Refusal) (fault : OpenFault)
      → ReadsTree history P (Err refusal) old new → (fault ≡ faults.Device → refusal ≡ refusals.StorageFailed)
      → (fault ≡ faults.Device) ⊎ (fault ≡ faults.Memory) → Judges history IsRight Why (Err fault) old new
  judged_unread P old new refusal fault reads device kinds = record {
    read = as_read history P (Err refusal) old new reads;
    kinds = of_kinds kinds;
    answers = λ k all has. record {
      device = λ is. failed (device is) (reads.answers k all has);
      damaged = λ no_device no_memory. by kinds no_device no_memory;
    };
  }
    where
      of_kinds : (fault ≡ faults.Device) ⊎ (fault ≡ faults.Memory) → IsOfEntries fault
      of_kinds (inl is) = ((λ other. cc), (λ other. cc))
      of_kinds (inr is) = ((λ other. cc), (λ other. cc))

      by : {A : Type 0} → (fault ≡ faults.Device) ⊎ (fault ≡ faults.Memory) → fault ≢ faults.Device → fault ≢ faults.Memory → A
      by (inl is) no_device no_memory = absurd (no_device is)
      by (inr is) no_device no_memory = absurd (no_memory is)

      failed : refusal ≡ refusals.StorageFailed → HasCause history old new refusal → HasFailed history old new
      failed is (inl memory) = absurd cc
      failed is (inr (inl (_, cause))) = cause
      failed is (inr (inr (full, _))) = absurd cc

-- ---- behind what was judged before

module _ {D X Y : Type 0} (history : D → History) (F : List Entry → Type 0) (P : List Entry → X → Type 0) (V : List Entry → Type 0) (Q : List Entry → Y
    → Type 0) (W : List Entry → Type 0) (old mid new : State D)
    (read : IsRead history old mid) (known : KeepsWord (disk_history history mid) → (all : List Entry) → HasEntries history old all → F all) where
  pub judged_then : (x : X) (y : Y) → Judges history P V (Ok x) mid new → ((all : List Entry) → F all → P all x → Q all y) → Judges history Q W (Ok y) old new
  judged_then x y later extends = record {
    read = read_on history old mid new read later.read;
    kinds = tt;
    answers = λ k all has.
        let k_mid = word_before history mid new later.read k in extends all (known k_mid all has) (later.answers k all (read.stays k_mid all has));
  }

  pub judged_failed : (fault : OpenFault) → Judges history P V (Err fault) mid new → ((all : List Entry) → F all → V all → W all)
      → Judges history Q W (Err fault) old new
  judged_failed fault later extends = record {
    read = read_on history old mid new read later.read;
    kinds = later.kinds;
    answers = λ k all has.
        let k_mid = word_before history mid new later.read k in
        let h = later.answers k all (read.stays k_mid all has) in
        record {
          device = λ is. failed_from history old mid new read k_mid (h.device is);
          damaged = λ no_device no_memory. extends all (known k_mid all has) (h.damaged no_device no_memory);
        };
  }

-- an answer of one judgement as that of another
module _ {D X Y : Type 0} (history : D → History) (P : List Entry → X → Type 0) (V : List Entry → Type 0) (Q : List Entry → Y → Type 0) (W : List Entry
    → Type 0) (old new : State D) where
  pub judged_as : (x : X) (y : Y) → Judges history P V (Ok x) old new → ((all : List Entry) → P all x → Q all y) → Judges history Q W (Ok y) old new
  judged_as x y h extends = record { read = h.read; kinds = tt; answers = λ k all has. extends all (h.answers k all has) }

  pub failed_as : (fault : OpenFault) → Judges history P V (Err fault) old new → ((all : List Entry) → V all → W all) → Judges history Q W (Err fault) old new
  failed_as fault h extends = record {
    read = h.read;
    kinds = h.kinds;
    answers = λ k all has. let f = h.answers k all has in record
        { device = f.device; damaged = λ no_device no_memory. extends all (f.damaged no_device no_memory) };
  }

-- ---- one batch

module _ {D : Type 0} (history : D → History) (from : List ℕ) (limit : ℕ) (p last : Progress) (old mid new : State D) (batch : Batch)
    (reads : ReadsTree history (AreNextEntries from limit) (Ok batch) old mid) where
  abbrev pairs : List Entry
  pairs = map entry_in batch.entries.items

  abbrev Takes_these : List Entry → Unit {0} → Type 0
  Takes_these all u = TakesAll all p pairs last

  abbrev Refuses_one : List Entry → Type 0
  Refuses_one all = RefusesOne all p pairs

  pub batch_taken : Judges history Takes_these Refuses_one (Ok tt) mid new → LoadsBatch history from (Ok batch.next) p last old new
  batch_taken h =
      judged_then history (λ all. AreNextEntries from limit all batch) Takes_these Refuses_one (HasTaken from p last)
      (λ all. RefusesOne all p (entries_from (Some from) all)) old mid new
      (as_read history (AreNextEntries from limit) (Ok batch) old mid reads) reads.answers tt batch.next h
      (λ all next takes. record { pairs = pairs; is = next.is; takes = takes })

  pub batch_refused : (fault : OpenFault) → Judges history Takes_these Refuses_one (Err fault) mid new → LoadsBatch history from (Err fault) p last old new
  batch_refused fault h =
      judged_failed history (λ all. AreNextEntries from limit all batch) Takes_these Refuses_one (HasTaken from p last)
      (λ all. RefusesOne all p (entries_from (Some from) all)) old mid new
      (as_read history (AreNextEntries from limit) (Ok batch) old mid reads) reads.answers fault h
      (λ all next refuses. subst (RefusesOne all p) (sym next.is) (refuses_more all p pairs _ refuses))

pub unread_batch : {D : Type 0} (history : D → History) (from : List ℕ) (limit : ℕ) (p last : Progress) (old new : State D) (refusal : Refusal)
    (fault : OpenFault) → ReadsTree history (AreNextEntries from limit) (Err refusal) old new
    → (fault ≡ faults.Device → refusal ≡ refusals.StorageFailed) → (fault ≡ faults.Device) ⊎ (fault ≡ faults.Memory)
    → LoadsBatch history from (Err fault) p last old new
unread_batch history from limit p last old new refusal fault reads device kinds =
    judged_unread history (HasTaken from p last) (λ all. RefusesOne all p (entries_from (Some from) all))
    (AreNextEntries from limit) old new refusal fault reads device kinds

-- ---- all of them

-- some first entries were taken
pub record IsSoFar (rest : List Entry) (p : Progress) (all : List Entry) : Type 0 where
  pub done : List Entry
  pub split : all ≡ done ++ rest
  pub takes : TakesAll all nothing_read done p

-- The file was read up to a key.
pub record LoadsUpTo {D : Type 0} (history : D → History) (from : List ℕ) (p : Progress) (old new : State D) : Type 0 where
  pub read : IsRead history old new
  pub so_far : KeepsWord (disk_history history new) → (all : List Entry) → HasEntries history old all → IsSoFar (entries_from (Some from) all) p all

pub loads_none : {D : Type 0} (history : D → History) (c : State D) (p : Progress) (from : List ℕ) → p ≡ nothing_read → from ≡ [] → LoadsUpTo history from p c c
loads_none history c p from none start = record {
  read = read_none history c;
  so_far = λ k all has. record {
    done = [];
    split = sym (ap (λ (key : List ℕ). entries_from (Some key) all) start ∙ window_all all);
    takes = sym none;
  };
}

module _ {D : Type 0} (history : D → History) (from : List ℕ) (p : Progress) (old mid new : State D) (up : LoadsUpTo history from p old mid) where
  abbrev So_far : List Entry → Type 0
  So_far all = IsSoFar (entries_from (Some from) all) p all

  abbrev Refuses_later : List Entry → Type 0
  Refuses_later all = RefusesOne all p (entries_from (Some from) all)

  more_done : (last : Progress) (next : Option (Vec ℕ)) (rest all : List Entry) → So_far all → (t : HasTaken from p last all next)
      → entries_from (Some from) all ≡ t.pairs ++ rest → IsSoFar rest last all
  more_done last next rest all so t is = record {
    done = so.done ++ t.pairs;
    split = so.split ∙ ap (λ (es : List Entry). so.done ++ es) is ∙ sym (append_assoc so.done t.pairs rest);
    takes = takes_on all nothing_read p last so.done t.pairs so.takes t.takes;
  }

  pub loads_more : (next : Vec ℕ) (last : Progress) → LoadsBatch history from (Ok (Some next)) p last mid new → LoadsUpTo history next.items last old new
  loads_more next last batch = record {
    read = read_on history old mid new up.read batch.read;
    so_far = λ k all has.
        let k_mid = word_before history mid new batch.read k in
        let t = batch.answers k all (up.read.stays k_mid all has) in
        more_done last (Some next) (entries_from (Some next.items) all) all (up.so_far k_mid all has) t t.is;
  }

  pub loads_end : (last : Progress) → LoadsBatch history from (Ok None) p last mid new → LoadsEntries history (Ok tt) last old new
  loads_end last batch =
      judged_then history So_far (HasTaken from p last) Refuses_later (λ all u. TakesAll all nothing_read all last)
      (λ all. RefusesOne all nothing_read all) old mid new up.read up.so_far None tt batch
      (λ all so t.
      let whole = more_done last None [] all so t t.is in
      subst (λ (es : List Entry). TakesAll all nothing_read es last) (sym (whole.split ∙ append-nil whole.done)) whole.takes)

  pub loads_failed : (fault : OpenFault) (last other : Progress) → LoadsBatch history from (Err fault) p last mid new
      → LoadsEntries history (Err fault) other old new
  loads_failed fault last other batch =
      judged_failed history So_far (HasTaken from p last) Refuses_later (λ all u. TakesAll all nothing_read all other)
      (λ all. RefusesOne all nothing_read all) old mid new up.read up.so_far fault batch
      (λ all so refuses. subst (RefusesOne all nothing_read) (sym so.split)
      (refuses_on all nothing_read p so.done (entries_from (Some from) all) so.takes refuses))

-- so many batches that memory couldn't count them
pub loads_forever : {D : Type 0} (history : D → History) (from : List ℕ) (p last : Progress) (old new : State D) → LoadsUpTo history from p old new
    → LoadsEntries history (Err faults.Memory) last old new
loads_forever history from p last old new up =
    judged_memory history (λ all u. TakesAll all nothing_read all last) (λ all. RefusesOne all nothing_read all) old new up.read

-- ---- the whole file

module _ {D : Type 0} (history : D → History) (l : Loading) (last : List Collection) (old new : State D) where
  abbrev end : Progress
  end = progress_of l last

  abbrev Takes_whole : List Entry → Unit {0} → Type 0
  Takes_whole all u = TakesAll all nothing_read all end

  abbrev Refuses_whole : List Entry → Type 0
  Refuses_whole all = RefusesOne all nothing_read all

  abbrev Makes_whole : List Entry → Loading → Type 0
  Makes_whole all made = Makes all (progress_of made last)

  pub file_even : LoadsEntries history (Ok tt) end old new → IsLoadingAs (map named_as l.names.items) last → l.keys ≡ l.seen
      → LoadsFile history (Ok l) last old new
  file_even h loaded even = record {
    loaded = loaded;
    judges = judged_as history Takes_whole Refuses_whole Makes_whole MakesNone old new tt l h (λ all takes. record { takes = takes; even = even });
  }

  pub file_uneven : LoadsEntries history (Ok tt) end old new → l.keys ≢ l.seen → LoadsFile history (Err faults.Damaged) last old new
  file_uneven h differ = record
      { loaded = tt; judges = judged_damaged history Makes_whole MakesNone old new h.read (λ k all has. inr (end, h.answers k all has, differ)) }

  pub file_failed : (fault : OpenFault) → LoadsEntries history (Err fault) end old new → LoadsFile history (Err fault) last old new
  file_failed fault h = record {
    loaded = tt;
    judges = failed_as history Takes_whole Refuses_whole Makes_whole MakesNone old new fault h (λ all refuses. inl refuses);
  }
