-- What a look-up in the tree says of the collections, and how answers go on from there.
use Rattle.std.proofs.Common.{◌≡◌, ℕ, false, true, List, [], ◌∷◌, map, refl, sym, ◌∙◌, ap, subst, arith, inl, inr, Some, None}
use Rattle.std.specs.Prelude.{◌==◌, ◌&&◌, not, is_some, IfErr, Option, Result, Ok, Err, MatchResult}
use Rattle.page.specs.History.{History}
use Rattle.path.specs.declared.refusal.Refusal.{Refusal}
use Rattle.path.specs.declared.refusal.Refusal.TheVariants as refusals
use Rattle.std.specs.Global.{Vec}
use Rattle.std.specs.Option.{option_map}
use Rattle.std.specs.Ordering.{is_lt}
use Rattle.std.proofs.lemmas.List.{length-map}
use Rattle.tree_model.specs.Calls.{IsBatch}
use Rattle.tree_model.specs.Keys.{Entry, is_within, keep_if, key_cmp, window}
use Rattle.tree_model.specs.Reading.{IsNotFull}
use Rattle.btree.specs.Scan.{HoldsBatch, entry_in}
use Rattle.btree.specs.declared.scanning.Batch.{Batch}
use Rattle.btree.specs.declared.scanning.Entry.{Entry as OwnEntry}
use Rattle.tree_model.specs.Store.{HasCause as HasTreeCause}
use Rattle.tree_model.specs.declared.pages.TreeFault.{TreeFault}
use Rattle.tree_model.specs.declared.pages.TreeFault.TheVariants as faults
use Rattle.tree_model.proofs.StoreLemmas.{grows_itself}
use Rattle.pager.specs.State.{State as PagerState}
use Rattle.pager.specs.View.{store_of}
use Rattle.entry_model.specs.State.{Collection}
use Rattle.collections.specs.Applying.{refusal_of}
use Rattle.collections.specs.Calls.{HasCause, HasReadCause, IsUnchanged, Reads}
use Rattle.collections.specs.Entries.{IsNotForRoom, ReadsEntries}
use Rattle.collections.specs.Lookups.{LooksUp, OrMemory, ReadsOf}
use Rattle.collections.specs.Standing.{HasState}
use Rattle.collections.specs.State.{State}
use Rattle.collections.specs.View.{is_changed, is_stopped}
use Rattle.collections.proofs.FoundLemmas.{whole_batch}
use Rattle.collections.proofs.StandingLemmas.{state_stays, tree_same}

-- ---- before anything is read

module _ {D X : Type 0} (history : D → History) (Q : List Collection → X → Type 0) (old : State D) where
  pub reads_memory : (e : Refusal) → e ≡ refusals.OutOfMemory → Reads history Q (Err e) old old
  reads_memory e is = record {
    extends = grows_itself (store_of history old.pager);
    unchanged = refl;
    same = λ start now has. has;
    answers = λ k start now has. inl is;
  }

  pub reads_stopped : is_stopped old ≡ true → Reads history Q (Err refusals.StorageFailed) old old
  reads_stopped stopped = record {
    extends = grows_itself (store_of history old.pager);
    unchanged = refl;
    same = λ start now has. has;
    answers = λ k start now has. inr (refl, inl stopped);
  }

module _ {D A X : Type 0} (history : D → History) (Is : List Collection → A → Type 0) (Q : List Collection → A → X → Type 0) (old : State D) where
  pub asks_memory : (e : Refusal) → e ≡ refusals.OutOfMemory → ReadsOf history Is Q (Err e) old old
  asks_memory e is = record {
    extends = grows_itself (store_of history old.pager);
    unchanged = refl;
    same = λ start now has. has;
    answers = λ k start now has asked so. inl is;
  }

  -- an answer that needs no look at the tree
  pub asks_nothing : (x : X) → ((now : List Collection) (asked : A) → Is now asked → Q now asked x) → ReadsOf history Is Q (Ok x) old old
  asks_nothing x right = record {
    extends = grows_itself (store_of history old.pager);
    unchanged = refl;
    same = λ start now has. has;
    answers = λ k start now has asked so. right now asked so;
  }

-- ---- a look at the tree

-- what a command says of what was looked up
abbrev pub AnswersAs : {X : Type 0} → Result X TreeFault → Result X Refusal → Type 0
AnswersAs (Ok x) (Ok y) = x ≡ y
AnswersAs (Err f) (Err e) = e ≡ refusal_of f
AnswersAs _ _ = ⊥

-- what no want of a page was, none is to a command
room_of : (f : TreeFault) → IsNotFull f → IsNotForRoom (refusal_of f)
room_of faults.Memory other = tt
room_of faults.Device other = tt
room_of faults.Full other = other
room_of faults.Kind other = tt
room_of faults.Number other = tt
room_of faults.Order other = tt
room_of faults.Length other = tt

pub room_there : {X : Type 0} (result : Result X TreeFault) (r : Result X Refusal) → AnswersAs result r → IfErr result IsNotFull → IfErr r IsNotForRoom
room_there (Ok x) (Ok y) same other = tt
room_there (Ok x) (Err e) same other = absurd same
room_there (Err f) (Ok y) same other = absurd same
room_there (Err f) (Err e) same other = subst IsNotForRoom (sym same) (room_of f other)

module _ {D X : Type 0} {root : ℕ} (history : D → History) (IsRight : List Entry → X → Type 0) (old : State D) (pager : PagerState D)
    (result : Result X TreeFault) (looks : LooksUp history root IsRight result old.pager pager) where
  abbrev new : State D
  new = record old { pager = pager }

  pub changed_there : is_changed new ≡ is_changed old
  changed_there = ap (λ (tree : ℕ). not (old.root == tree)) (tree_same history old.pager pager looks.grows.stays)

  pub unchanged_there : IsUnchanged history old new
  unchanged_there i = (changed_there i, looks.takes i)

  pub stays_there : (start now : List Collection) → HasState history old start now → HasState history new start now
  stays_there start now = state_stays history old new start now looks.grows refl (λ k. (looks.same k).made) (λ k. (looks.same k).retired)

  pub cause_there : (e : TreeFault) → HasTreeCause (store_of history old.pager) (store_of history pager) e → HasCause history old new (refusal_of e)
  cause_there faults.Memory cause = inl refl
  cause_there faults.Device cause = inr (inl (refl, inr cause))
  cause_there faults.Full cause = inr (inr (refl, cause))
  cause_there faults.Kind cause = absurd cause
  cause_there faults.Number cause = absurd cause
  cause_there faults.Order cause = absurd cause
  cause_there faults.Length cause = absurd cause

  pub read_cause_there : (e : TreeFault) → IsNotFull e → HasTreeCause (store_of history old.pager) (store_of history pager) e
      → HasReadCause history old new (refusal_of e)
  read_cause_there faults.Memory other cause = inl refl
  read_cause_there faults.Device other cause = inr (refl, inr cause)
  read_cause_there faults.Full other cause = absurd other
  read_cause_there faults.Kind other cause = absurd cause
  read_cause_there faults.Number other cause = absurd cause
  read_cause_there faults.Order other cause = absurd cause
  read_cause_there faults.Length other cause = absurd cause

-- ---- all entries

module _ {D X Y : Type 0} (history : D → History) (root : ℕ) (P : List Entry → X → Type 0) (Q : List Entry → Y → Type 0) (old new : PagerState D) where
  pub looks_refused : (e : TreeFault) → LooksUp history root P (Err e) old new → LooksUp history root Q (Err e) old new
  looks_refused e looks = record { grows = looks.grows; same = looks.same; takes = looks.takes; full = looks.full; yields = looks.yields }

  pub looks_on : (x : X) (y : Y) → LooksUp history root P (Ok x) old new → ((entries : List Entry) → P entries x → Q entries y)
      → LooksUp history root Q (Ok y) old new
  looks_on x y looks extends = record {
    grows = looks.grows;
    same = looks.same;
    takes = looks.takes;
    full = tt;
    yields = λ pages entries has k. extends entries (looks.yields pages entries has k);
  }

  pub looks_never : (x : X) (e : TreeFault) → IsNotFull e → LooksUp history root P (Ok x) old new → ((entries : List Entry) → P entries x → ⊥)
      → LooksUp history root Q (Err e) old new
  looks_never x e full looks never = record {
    grows = looks.grows;
    same = looks.same;
    takes = looks.takes;
    full = full;
    yields = λ pages entries has k. absurd (never entries (looks.yields pages entries has k));
  }

pub next_same : (next : Option (Vec ℕ)) → is_some (option_map (λ v. v.items) next) ≡ is_some next
next_same None = refl
next_same (Some v) = refl

module _ {D : Type 0} (history : D → History) (old : State D) (pager : PagerState D) (result : Result (Vec OwnEntry) TreeFault)
    (looks : LooksUp history old.root (λ entries all. map entry_in all.items ≡ entries) result old.pager pager) where
  abbrev there : State D
  there = record old { pager = pager }

  pub entries_there : (r : Result (Vec OwnEntry) Refusal) → AnswersAs result r → ReadsEntries history r old there
  entries_there r as_read = record {
    extends = looks.grows;
    unchanged = changed_there history (λ entries all. map entry_in all.items ≡ entries) old pager result looks;
    same = stays_there history (λ entries all. map entry_in all.items ≡ entries) old pager result looks;
    takes = looks.takes;
    room = room_there result r as_read looks.full;
    answers = λ k entries has. answer result r as_read entries (looks.yields has.pages entries has.map k);
  }
    where
      answer : (result : Result (Vec OwnEntry) TreeFault) (r : Result (Vec OwnEntry) Refusal) → AnswersAs result r → (entries : List Entry)
          → MatchResult result (λ all. map entry_in all.items ≡ entries) (HasTreeCause (store_of history old.pager) (store_of history pager))
          → MatchResult r (λ all. map entry_in all.items ≡ entries) (HasCause history old there)
      answer (Ok x) (Ok y) same entries right = subst (λ (all : Vec OwnEntry). map entry_in all.items ≡ entries) same right
      answer (Ok x) (Err e) same entries right = absurd same
      answer (Err f) (Ok y) same entries cause = absurd same
      answer (Err f) (Err e) same entries cause =
          subst (HasCause history old there) (sym same) (cause_there history (λ entries all. map entry_in all.items ≡ entries) old pager result looks f cause)

pub entries_stopped : {D : Type 0} (history : D → History) (old : State D) → is_stopped old ≡ true → ReadsEntries history (Err refusals.StorageFailed) old old
entries_stopped history old stopped = record {
  extends = grows_itself (store_of history old.pager);
  unchanged = refl;
  same = λ start now has. has;
  takes = refl;
  room = tt;
  answers = λ k entries has. inr (inl (refl, inl stopped));
}

-- a window over all keys
pub window_all : (entries : List Entry) → window [] None entries ≡ entries
window_all [] = refl
window_all (x ∷ xs) = first x.key ∙ ap (λ (l : List Entry). x ∷ l) (window_all xs)
  where
    first : (key : List ℕ) → keep_if (not (is_lt (key_cmp key [])) && is_within None key) x (window [] None xs) ≡ x ∷ window [] None xs
    first [] = refl
    first (b ∷ bs) = refl

-- what is read of all keys, up to more than any vector holds
pub whole_read : (limit : ℕ) (batch : Batch) (entries : List Entry) → is_some batch.next ≡ false → HoldsBatch limit (window [] None entries) batch
    → map entry_in batch.entries.items ≡ entries
whole_read limit batch entries end right =
    whole_batch limit (window [] None entries) (map entry_in batch.entries.items) (option_map (λ v. v.items) batch.next) (next_same batch.next ∙ end) right
    ∙ window_all entries

pub no_next : (batch : Batch) (entries : List Entry) → is_some batch.next ≡ true → HoldsBatch 18446744073709551615 (window [] None entries) batch → ⊥
no_next batch entries more right = go (option_map (λ v. v.items) batch.next) (next_same batch.next ∙ more) right
  where
    go : (next : Option (List ℕ)) → is_some next ≡ true → IsBatch 18446744073709551615 (window [] None entries) (map entry_in batch.entries.items) next → ⊥
    go None more right = cc
    go (Some key) more right = omega (arith, right.full, length-map batch.entries.items entry_in, batch.entries.ok.0, batch.entries.ok.1, batch.entries.small)

-- ---- what is made of an answer

module _ {D X Y : Type 0} (history : D → History) (P : List Collection → X → Type 0) (Q : List Collection → Y → Type 0) (old new : State D) where
  pub reads_refused : (e : Refusal) → Reads history P (Err e) old new → Reads history Q (Err e) old new
  reads_refused e reads = record { extends = reads.extends; unchanged = reads.unchanged; same = reads.same; answers = reads.answers }

  pub reads_on : (x : X) (r : Result Y Refusal) → Reads history P (Ok x) old new → ((now : List Collection) → P now x → OrMemory (Q now) r)
      → Reads history Q r old new
  reads_on x r reads extends = record {
    extends = reads.extends;
    unchanged = reads.unchanged;
    same = reads.same;
    answers = λ k start now has. or_cause (Q now) r (extends now (reads.answers k start now has));
  }
    where
      or_cause : (IsRight : Y → Type 0) (r : Result Y Refusal) → OrMemory IsRight r → MatchResult r IsRight (HasReadCause history old new)
      or_cause IsRight (Ok y) right = right
      or_cause IsRight (Err e) is = inl is

module _ {D A Y : Type 0} (history : D → History) (Is : List Collection → A → Type 0) (Q : List Collection → A → Y → Type 0) (old new : State D) where
  or_cause_of : (IsRight : Y → Type 0) (r : Result Y Refusal) → OrMemory IsRight r → MatchResult r IsRight (HasReadCause history old new)
  or_cause_of IsRight (Ok y) right = right
  or_cause_of IsRight (Err e) is = inl is

  pub asks_refused : {X : Type 0} (P : List Collection → X → Type 0) (e : Refusal) → Reads history P (Err e) old new → ReadsOf history Is Q (Err e) old new
  asks_refused P e reads =
      record { extends = reads.extends; unchanged = reads.unchanged; same = reads.same; answers = λ k start now has asked so. reads.answers k start now has }

  pub asks_on : {X : Type 0} (P : List Collection → X → Type 0) (x : X) (r : Result Y Refusal) → Reads history P (Ok x) old new
      → ((now : List Collection) (asked : A) → Is now asked → P now x → OrMemory (Q now asked) r) → ReadsOf history Is Q r old new
  asks_on P x r reads extends = record {
    extends = reads.extends;
    unchanged = reads.unchanged;
    same = reads.same;
    answers = λ k start now has asked so. or_cause_of (Q now asked) r (extends now asked so (reads.answers k start now has));
  }

  pub asked_refused : {X : Type 0} (P : List Collection → A → X → Type 0) (e : Refusal) → ReadsOf history Is P (Err e) old new
      → ReadsOf history Is Q (Err e) old new
  asked_refused P e reads = record { extends = reads.extends; unchanged = reads.unchanged; same = reads.same; answers = reads.answers }

  pub asked_on : {X : Type 0} (P : List Collection → A → X → Type 0) (x : X) (r : Result Y Refusal) → ReadsOf history Is P (Ok x) old new
      → ((now : List Collection) (asked : A) → Is now asked → P now asked x → OrMemory (Q now asked) r) → ReadsOf history Is Q r old new
  asked_on P x r reads extends = record {
    extends = reads.extends;
    unchanged = reads.unchanged;
    same = reads.same;
    answers = λ k start now has asked so. or_cause_of (Q now asked) r (extends now asked so (reads.answers k start now has asked so));
  }

-- the same answer, asked of what not all collections have
module _ {D A X : Type 0} (history : D → History) (Is : List Collection → A → Type 0) (P : List Collection → X → Type 0) (Q : List Collection → A → X → Type 0)
    (old new : State D) where
  pub asks_same : (r : Result X Refusal) → Reads history P r old new → ((now : List Collection) (asked : A) (x : X) → Is now asked → P now x → Q now asked x)
      → ReadsOf history Is Q r old new
  asks_same r reads extends = record {
    extends = reads.extends;
    unchanged = reads.unchanged;
    same = reads.same;
    answers = λ k start now has asked so. either (P now) (Q now asked) r (λ x p. extends now asked x so p) (reads.answers k start now has);
  }
    where
      either : (P Q : X → Type 0) (r : Result X Refusal) → ((x : X) → P x → Q x) → MatchResult r P (HasReadCause history old new)
          → MatchResult r Q (HasReadCause history old new)
      either P Q (Ok x) extends p = extends x p
      either P Q (Err e) extends cause = cause
