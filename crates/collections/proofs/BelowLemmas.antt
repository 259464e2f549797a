-- Reads of the tree below a root page, and what they are to a turn and to a version.
use Rattle.std.proofs.Common.{◌≡◌, ℕ, false, true, List, refl, sym, ◌∙◌, subst, inl, inr}
use Rattle.std.specs.Prelude.{Bool, Result, Ok, Err, IfErr, IsErrAnd, MatchResult}
use Rattle.page.specs.History.{History, KeepsWord}
use Rattle.tree_model.specs.Keys.{Entry}
use Rattle.tree_model.specs.Reading.{IsNotFull}
use Rattle.tree_model.specs.Store.{HasCause as HasTreeCause}
use Rattle.tree_model.specs.declared.pages.TreeFault.{TreeFault}
use Rattle.tree_model.proofs.StoreLemmas.{grows_itself}
use Rattle.path.specs.declared.refusal.Refusal.{Refusal}
use Rattle.path.specs.declared.refusal.Refusal.TheVariants as refusals
use Rattle.pager.specs.State.{State as PagerState}
use Rattle.pager.specs.View.{store_of}
use Rattle.pager.specs.declared.version.Version.{Version}
use Rattle.entry_model.specs.State.{Collection}
use Rattle.collections.specs.Below.{HasBelow, IsNothing, ReadsBelow}
use Rattle.collections.specs.Calls.{HasReadCause, Reads}
use Rattle.collections.specs.Lookups.{IsInTree, LooksUp, OrMemory, ReadsOf}
use Rattle.collections.specs.Standing.{HasState, IsTurnOf}
use Rattle.collections.specs.State.{State}
use Rattle.collections.specs.Versions.{HasVersion, ReadsVersion}
use Rattle.collections.specs.View.{disk_history, is_stopped}
use Rattle.collections.proofs.CauseLemmas.{word_before}
use Rattle.collections.proofs.ReadingLemmas.{AnswersAs, read_cause_there, stays_there, unchanged_there}

-- ---- before anything is read

module _ {D A X : Type 0} (history : D → History) (root : ℕ) (Is : List Collection → A → Type 0) (Q : List Collection → A → X → Type 0) (old : State D) where
  pub below_memory : (e : Refusal) → e ≡ refusals.OutOfMemory → ReadsBelow history root Is Q (Err e) old old
  below_memory e is = record {
    extends = grows_itself (store_of history old.pager);
    unchanged = refl;
    same = λ start now has. has;
    stopped = λ so. inl is;
    answers = λ k collections has asked so. inl is;
  }

  pub below_stopped : is_stopped old ≡ true → ReadsBelow history root Is Q (Err refusals.StorageFailed) old old
  below_stopped stopped = record {
    extends = grows_itself (store_of history old.pager);
    unchanged = refl;
    same = λ start now has. has;
    stopped = λ so. inr (refl, inl so);
    answers = λ k collections has asked so. inr (refl, inl stopped);
  }

-- ---- a look at the tree

module _ {D A X : Type 0} (history : D → History) (root : ℕ) (Is : List Collection → A → Type 0) (P : List Entry → X → Type 0) (old : State D)
    (pager : PagerState D) (result : Result X TreeFault) (looks : LooksUp history root P result old.pager pager) (running : is_stopped old ≡ false) where
  abbrev new : State D
  new = record old { pager = pager }

  pub below_there : (r : Result X Refusal) → AnswersAs result r → ReadsBelow history root Is (λ collections asked. IsInTree P collections) r old new
  below_there r as_read = record {
    extends = looks.grows;
    unchanged = unchanged_there history P old pager result looks;
    same = stays_there history P old pager result looks;
    stopped = λ stopped. let both : true ≡ false = sym stopped ∙ running in absurd cc;
    answers = λ k collections has asked so. answer collections has result r as_read looks.full (looks.yields has.pages has.entries has.holds k);
  }
    where
      answer : (collections : List Collection) (has : HasBelow history old root collections) (result : Result X TreeFault) (r : Result X Refusal)
          → AnswersAs result r → IfErr result IsNotFull
          → MatchResult result (P has.entries) (HasTreeCause (store_of history old.pager) (store_of history pager))
          → MatchResult r (IsInTree P collections) (HasReadCause history old new)
      answer collections has (Ok x) (Ok y) same full right =
          record { entries = has.entries; spells = has.spells; state = has.state; right = subst (P has.entries) same right }
      answer collections has (Ok x) (Err e) same full right = absurd same
      answer collections has (Err f) (Ok y) same full cause = absurd same
      answer collections has (Err f) (Err e) same full cause =
          subst (HasReadCause history old new) (sym same) (read_cause_there history P old pager result looks f full cause)

-- ---- what is made of an answer

-- An answer is made of another one: what is asked for says what that was asked for.
module _ {D A B X Y : Type 0} (history : D → History) (root : ℕ) (IsFirst : List Collection → A → Type 0) (Is : List Collection → B → Type 0)
    (P : List Collection → A → X → Type 0) (Q : List Collection → B → Y → Type 0) (old new : State D) where
  pub below_refused : (e : Refusal) → ((collections : List Collection) (asked : B) → Is collections asked → (first : A) × IsFirst collections first)
      → ReadsBelow history root IsFirst P (Err e) old new → ReadsBelow history root Is Q (Err e) old new
  below_refused e first reads = record {
    extends = reads.extends;
    unchanged = reads.unchanged;
    same = reads.same;
    stopped = reads.stopped;
    answers = λ k collections has asked so. let f = first collections asked so in reads.answers k collections has f.0 f.1;
  }

  pub below_on : (x : X) (r : Result Y Refusal) → ReadsBelow history root IsFirst P (Ok x) old new
      → ((collections : List Collection) (asked : B) → Is collections asked
      → (first : A) × IsFirst collections first × (P collections first x → OrMemory (Q collections asked) r))
      → ReadsBelow history root Is Q r old new
  below_on x r reads extends = record {
    extends = reads.extends;
    unchanged = reads.unchanged;
    same = reads.same;
    stopped = λ stopped. absurd (reads.stopped stopped);
    answers = λ k collections has asked so.
        let f = extends collections asked so in
        or_cause (Q collections asked) r (f.2 (reads.answers k collections has f.0 f.1));
  }
    where
      or_cause : (IsRight : Y → Type 0) (r : Result Y Refusal) → OrMemory IsRight r → MatchResult r IsRight (HasReadCause history old new)
      or_cause IsRight (Ok y) right = right
      or_cause IsRight (Err e) is = inl is

-- of one answer another thing
answered : {X : Type 0} (P Q : X → Type 0) (C : Refusal → Type 0) (r : Result X Refusal) → ((x : X) → P x → Q x) → MatchResult r P C → MatchResult r Q C
answered P Q C (Ok x) extends right = extends x right
answered P Q C (Err e) extends cause = cause

refused_so : {X : Type 0} (Q : X → Type 0) (C : Refusal → Type 0) (r : Result X Refusal) → IsErrAnd r C → MatchResult r Q C
refused_so Q C (Ok x) never = absurd never
refused_so Q C (Err e) cause = cause

-- the same answer, of something that is asked of the collections
pub below_asked : {D A X : Type 0} (history : D → History) (root : ℕ) (Is : List Collection → A → Type 0) (P : List Collection → X → Type 0)
    (Q : List Collection → A → X → Type 0) (old new : State D) (r : Result X Refusal)
    → ReadsBelow history root IsNothing (λ collections asked. P collections) r old new
    → ((collections : List Collection) (asked : A) (x : X) → Is collections asked → P collections x → Q collections asked x)
    → ReadsBelow history root Is Q r old new
below_asked history root Is P Q old new r reads extends = record {
  extends = reads.extends;
  unchanged = reads.unchanged;
  same = reads.same;
  stopped = reads.stopped;
  answers = λ k collections has asked so.
      answered (P collections) (Q collections asked) (HasReadCause history old new) r (λ x right. extends collections asked x so right)
      (reads.answers k collections has tt tt);
}

-- ---- of the turn, and of a version

pub turn_has : {D : Type 0} (history : D → History) (c : State D) (start now : List Collection) → IsTurnOf history c start now
    → HasBelow history c c.root now
turn_has history c start now t = record { pages = t.pages; entries = t.after; holds = t.turn.holds; spells = t.spells_now; state = t.now_state }

pub version_has : {D : Type 0} (history : D → History) (c : State D) (version : Version) (collections : List Collection)
    → KeepsWord (disk_history history c) → HasVersion history c version collections → HasBelow history c version.root collections
version_has history c version collections k h =
    record { pages = h.pages; entries = h.entries; holds = h.keeps.holds k; spells = h.spells; state = h.state }

module _ {D A X : Type 0} (history : D → History) (Is : List Collection → A → Type 0) (P : List Collection → A → X → Type 0) (old new : State D)
    (r : Result X Refusal) (root : ℕ) (reads : ReadsBelow history root Is P r old new) where
  -- what has stopped was refused, and else the turn's tree has the collections of now
  of_turn : root ≡ old.root → KeepsWord (disk_history history new) → (start now : List Collection) → HasState history old start now → (asked : A)
      → Is now asked → (R : X → Type 0) → (is_stopped old ≡ false → (x : X) → P now asked x → R x) → MatchResult r R (HasReadCause history old new)
  of_turn is k start now has asked so R extends = by_stop (is_stopped old) refl
    where
      by_stop : (b : Bool) → is_stopped old ≡ b → MatchResult r R (HasReadCause history old new)
      by_stop true stopped = refused_so R (HasReadCause history old new) r (reads.stopped stopped)
      by_stop false running =
          answered (P now asked) R (HasReadCause history old new) r (extends running)
          (reads.answers k now (subst (λ (page : ℕ). HasBelow history old page now) (sym is)
          (turn_has history old start now (has running (word_before history old new reads.extends k)))) asked so)

  module _ (Q : List Collection → A → X → Type 0) where
    pub asks_turn : root ≡ old.root
        → (is_stopped old ≡ false → KeepsWord (disk_history history old) → (start now : List Collection) → HasState history old start now
        → (asked : A) → Is now asked → (x : X) → P now asked x → Q now asked x)
        → ReadsOf history Is Q r old new
    asks_turn is extends = record {
      extends = reads.extends;
      unchanged = reads.unchanged;
      same = reads.same;
      answers = λ k start now has asked so.
          of_turn is k start now has asked so (Q now asked)
          (λ running. extends running (word_before history old new reads.extends k) start now has asked so);
    }

    pub asks_version : (version : Version) → root ≡ version.root
        → ((collections : List Collection) → HasVersion history old version collections
        → (asked : A) → Is collections asked → (x : X) → P collections asked x → Q collections asked x)
        → ReadsVersion history version Is Q r old new
    asks_version version is extends = record {
      extends = reads.extends;
      unchanged = reads.unchanged;
      same = reads.same;
      answers = λ k collections has asked so.
          answered (P collections asked) (Q collections asked) (HasReadCause history old new) r (extends collections has asked so)
          (reads.answers k collections (subst (λ (page : ℕ). HasBelow history old page collections) (sym is)
          (version_has history old version collections (word_before history old new reads.extends k) has)) asked so);
    }

pub reads_turn : {D X : Type 0} (history : D → History) (P : List Collection → X → Type 0) (old new : State D) (r : Result X Refusal) (root : ℕ)
    → ReadsBelow history root IsNothing (λ now asked. P now) r old new → root ≡ old.root → Reads history P r old new
reads_turn history P old new r root reads is = record {
  extends = reads.extends;
  unchanged = reads.unchanged;
  same = reads.same;
  answers = λ k start now has.
      of_turn history IsNothing (λ now asked. P now) old new r root reads is k start now has tt tt (P now) (λ running x right. right);
}
