-- How calls that read a file add up, one after the other.
use Rattle.std.proofs.Common.{◌≡◌, inl, inr, false, List, Result, Ok, Err, refl, sym, ◌∙◌, arith}
use Rattle.std.specs.Prelude.{MatchResult}
use Rattle.page.specs.History.{History, KeepsWord}
use Rattle.tree_model.specs.Store.{Frame}
use Rattle.tree_model.proofs.StoreLemmas.{grows_itself, grows_trans}
use Rattle.path.specs.declared.refusal.Refusal.{Refusal}
use Rattle.path.specs.declared.refusal.Refusal.TheVariants as refusals
use Rattle.entry_model.specs.LawfulState.{IsLawfulState}
use Rattle.entry_model.specs.State.{Collection}
use Rattle.collections.specs.Calls.{ExtendsTurn, HasReadCause, IsOfFile}
use Rattle.collections.specs.Lookups.{ReadsOf}
use Rattle.collections.specs.Standing.{IsTurnOf}
use Rattle.collections.specs.State.{State}
use Rattle.collections.specs.View.{disk_history, is_stopped, pages_of}
use Rattle.collections.proofs.StandingLemmas.{stopped_same}

-- ---- a cause between two moments is one between moments around them

pub goes_itself : {D : Type 0} (history : D → History) (c : State D) → ExtendsTurn history c c
goes_itself history c = grows_itself (pages_of history c)

pub goes_on : {D : Type 0} (history : D → History) (a b c : State D) → ExtendsTurn history a b → ExtendsTurn history b c → ExtendsTurn history a c
goes_on history a b c = grows_trans (pages_of history a) (pages_of history b) (pages_of history c)

-- the word that the disk keeps now it kept before
pub word_before : {D : Type 0} (history : D → History) (a b : State D) → ExtendsTurn history a b → KeepsWord (disk_history history b)
    → KeepsWord (disk_history history a)
word_before history a b continues k = (continues.frame k).word

module _ {D : Type 0} (history : D → History) (a b c d : State D) (early : ExtendsTurn history a b) (within : ExtendsTurn history b c)
    (late : ExtendsTurn history c d)
    (k : KeepsWord (disk_history history d)) where
  third : Frame (pages_of history c) (pages_of history d)
  third = late.frame k

  second : Frame (pages_of history b) (pages_of history c)
  second = within.frame third.word

  first : Frame (pages_of history a) (pages_of history b)
  first = early.frame second.word

  pub widen : (e : Refusal) → HasReadCause history b c e → HasReadCause history a d e
  widen e (inl is) = inl is
  widen e (inr (is, inl stopped)) = inr (is, inl (sym (stopped_same history a.pager b.pager early.stays) ∙ stopped))
  widen e (inr (is, inr failed)) = inr (is, inr (omega (arith, first.failures, failed, third.failures)))

-- only what came before is added, or only what came after
module _ {D : Type 0} (history : D → History) (a b c : State D) (early : ExtendsTurn history a b) (late : ExtendsTurn history b c)
    (k : KeepsWord (disk_history history c)) where
  pub widen_before : (e : Refusal) → HasReadCause history b c e → HasReadCause history a c e
  widen_before = widen history a b c c early late (goes_itself history c) k

  pub widen_after : (e : Refusal) → HasReadCause history a b e → HasReadCause history a c e
  widen_after = widen history a a b c (goes_itself history a) early late k

-- the refusals that have a cause
pub of_file : {D : Type 0} (history : D → History) (a b : State D) (e : Refusal) → HasReadCause history a b e → IsOfFile e
of_file history a b e (inl is) = inl is
of_file history a b e (inr x) = inr (inl x.0)

-- ---- what was read, of something else that is asked for

-- while the collections are lawful, this is so of the other, and what is right of that is right of what is asked for
pub record IsOther {A B X : Type 0} (Was : List Collection → B → Type 0) (P : List Collection → B → X → Type 0) (R : List Collection → A → X → Type 0)
    (now : List Collection) (asked : A) : Type 0 where
  pub other : B
  pub was : Was now other
  pub right : (x : X) → P now other x → R now asked x

module _ {D A B X : Type 0} (history : D → History) (Is : List Collection → A → Type 0) (Was : List Collection → B → Type 0) (P : List Collection → B → X
    → Type 0) (R : List Collection → A → X → Type 0) where
  either_read : (old new : State D) (r : Result X Refusal) (now : List Collection) (asked : A) (o : IsOther Was P R now asked)
      → MatchResult r (P now o.other) (HasReadCause history old new) → MatchResult r (R now asked) (HasReadCause history old new)
  either_read old new (Ok x) now asked o right = o.right x right
  either_read old new (Err e) now asked o cause = cause

  pub reads_as : (old new : State D) (r : Result X Refusal) → is_stopped old ≡ false → ReadsOf history Was P r old new
      → ((now : List Collection) → IsLawfulState now → (asked : A) → Is now asked → IsOther Was P R now asked) → ReadsOf history Is R r old new
  reads_as old new r running reads extends = record {
    extends = reads.extends;
    unchanged = reads.unchanged;
    same = reads.same;
    answers = λ k start now has asked is.
        let t : IsTurnOf history old start now = has running (word_before history old new reads.extends k) in
        let o = extends now t.now_state asked is in
        either_read old new r now asked o (reads.answers k start now has o.other o.was);
  }

-- the same, where what is asked for was itself asked for, among other things
pub reads_within : {D A X : Type 0} (history : D → History) (Is Was : List Collection → A → Type 0) (P R : List Collection → A → X → Type 0)
    (old new : State D) (r : Result X Refusal) → ReadsOf history Was P r old new → ((now : List Collection) (asked : A) → Is now asked → Was now asked)
    → ((now : List Collection) (asked : A) (x : X) → Is now asked → P now asked x → R now asked x) → ReadsOf history Is R r old new
reads_within history Is Was P R old new r reads was extends = record {
  extends = reads.extends;
  unchanged = reads.unchanged;
  same = reads.same;
  answers = λ k start now has asked is.
      either_read history Is Was P R old new r now asked (record { other = asked; was = was now asked is; right = λ x right. extends now asked x is right })
      (reads.answers k start now has asked (was now asked is));
}

-- what was read before tells what is asked for next
module _ {D A B X Y : Type 0} (history : D → History) (Is : List Collection → A → Type 0) (P : List Collection → A → X → Type 0) (Was : List Collection → B
    → Type 0) (Q : List Collection → B → Y → Type 0) (R : List Collection → A → Y → Type 0) where
  either_behind : (a b c : State D) → ExtendsTurn history a b → ExtendsTurn history b c → KeepsWord (disk_history history c)
      → (r : Result Y Refusal) (now : List Collection) (asked : A) (o : IsOther Was Q R now asked)
      → MatchResult r (Q now o.other) (HasReadCause history b c) → MatchResult r (R now asked) (HasReadCause history a c)
  either_behind a b c early late k (Ok y) now asked o right = o.right y right
  either_behind a b c early late k (Err e) now asked o cause = widen_before history a b c early late k e cause

  pub reads_behind : (a b c : State D) (x : X) (r : Result Y Refusal) → ReadsOf history Is P (Ok x) a b → ReadsOf history Was Q r b c
      → ((now : List Collection) (asked : A) → Is now asked → P now asked x → IsOther Was Q R now asked) → ReadsOf history Is R r a c
  reads_behind a b c x r first second extends = record {
    extends = goes_on history a b c first.extends second.extends;
    unchanged = second.unchanged ∙ first.unchanged;
    same = λ start now has. second.same start now (first.same start now has);
    answers = λ k start now has asked is.
        let o = extends now asked is (first.answers (word_before history b c second.extends k) start now has asked is) in
        either_behind a b c first.extends second.extends k r now asked o (second.answers k start now (first.same start now has) o.other o.was);
  }

-- a refusal is one whatever was to be read
pub reads_refused : {D A X Y : Type 0} (history : D → History) (Is : List Collection → A → Type 0) (P : List Collection → A → X → Type 0) (R : List Collection
    → A → Y → Type 0) (old new : State D) (e : Refusal) → ReadsOf history Is P (Err e) old new → ReadsOf history Is R (Err e) old new
reads_refused history Is P R old new e reads = record { extends = reads.extends; unchanged = reads.unchanged; same = reads.same; answers = reads.answers }

-- what is made of what was read, unless memory runs out
pub reads_made : {D A X Y : Type 0} (history : D → History) (Is : List Collection → A → Type 0) (P : List Collection → A → X → Type 0) (R : List Collection → A
    → Y → Type 0) (old new : State D) (x : X) (y : Y) → ReadsOf history Is P (Ok x) old new
    → ((now : List Collection) (asked : A) → Is now asked → P now asked x → R now asked y) → ReadsOf history Is R (Ok y) old new
reads_made history Is P R old new x y reads extends = record {
  extends = reads.extends;
  unchanged = reads.unchanged;
  same = reads.same;
  answers = λ k start now has asked is. extends now asked is (reads.answers k start now has asked is);
}

-- the same, of lawful collections
pub reads_told : {D A X Y : Type 0} (history : D → History) (Is : List Collection → A → Type 0) (P : List Collection → A → X → Type 0) (R : List Collection
    → A → Y → Type 0) (old new : State D) (x : X) (y : Y) → is_stopped old ≡ false → ReadsOf history Is P (Ok x) old new
    → ((now : List Collection) → IsLawfulState now → (asked : A) → Is now asked → P now asked x → R now asked y) → ReadsOf history Is R (Ok y) old new
reads_told history Is P R old new x y running reads extends = record {
  extends = reads.extends;
  unchanged = reads.unchanged;
  same = reads.same;
  answers = λ k start now has asked is.
      let t : IsTurnOf history old start now = has running (word_before history old new reads.extends k) in
      extends now t.now_state asked is (reads.answers k start now has asked is);
}

pub reads_memory : {D A X Y : Type 0} (history : D → History) (Is : List Collection → A → Type 0) (P : List Collection → A → X → Type 0) (R : List Collection
    → A → Y → Type 0) (r : Result X Refusal) (old new : State D) (e : Refusal) → e ≡ refusals.OutOfMemory → ReadsOf history Is P r old new
    → ReadsOf history Is R (Err e) old new
reads_memory history Is P R r old new e is reads = record
    { extends = reads.extends; unchanged = reads.unchanged; same = reads.same; answers = λ k start now has asked so. inl is }

-- nothing was read
pub reads_none : {D A X : Type 0} (history : D → History) (Is : List Collection → A → Type 0) (R : List Collection → A → X → Type 0) (old : State D) (x : X)
    → is_stopped old ≡ false
    → ((now : List Collection) → IsLawfulState now → (asked : A) → Is now asked → R now asked x) → ReadsOf history Is R (Ok x) old old
reads_none history Is R old x running right = record {
  extends = goes_itself history old;
  unchanged = refl;
  same = λ start now has. has;
  answers = λ k start now has asked is. let t : IsTurnOf history old start now = has running k in right now t.now_state asked is;
}
