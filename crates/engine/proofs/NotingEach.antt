-- What is planned of a collection for each of several things is noted, one after the other.
use Rattle.std.proofs.Common.{◌≡◌, inl, inr, ℕ, List, [], ◌∷◌, Result, Ok, Err, refl, sym, ap, subst, ◌∙◌}
use Rattle.page.specs.History.{History, KeepsWord}
use Rattle.tree_model.specs.Keys.{Edit}
use Rattle.outcome.specs.Outcome.{◌>>=◌}
use Rattle.path.specs.declared.refusal.Refusal.{Refusal}
use Rattle.collections.specs.Lookups.{IsWithinLimits}
use Rattle.entry_model.specs.State.{Collection}
use Rattle.entries.specs.declared.catalogue_reading.Catalogued.{Catalogued}
use Rattle.engine.specs.Durable.{disk_history}
use Rattle.engine.specs.Looking.{OnlyReads}
use Rattle.engine.specs.Storing.{AreNoted, HasNoted, Notes}
use Rattle.engine.specs.View.{world}
use Rattle.engine.specs.declared.engine.Engine.{Engine}
use Rattle.engine.proofs.OnlyReading.{cause_from, now_same, reads_on, word_before}

-- a plan for one thing, and that for all, which goes on behind the first
pub record Plan (X : Type 0) : Type 1 where
  pub one : Collection → X → Result Collection Refusal
  pub all : Collection → List X → Result Collection Refusal
  pub none : (c : Collection) → all c [] ≡ Ok c
  pub more : (c : Collection) (x : X) (xs : List X) → all c (x ∷ xs) ≡ (one c x >>= (λ next. all next xs))
  pub Is : List Collection → Collection → Type 0
  pub stays : (cs : List Collection) (c next : Collection) (x : X) → Is cs c → one c x ≡ Ok next → Is cs next

-- what is noted, and which things are left of all
pub record IsReached {X : Type 0} (plan : Plan X) (cs : List Collection) (name : List ℕ) (home : Catalogued) (edits : List Edit) (all left : List X)
    (first : Collection) : Type 0 where
  pub reached : Collection
  pub noted : AreNoted cs name home edits reached
  pub so : plan.Is cs reached
  pub same : plan.all first all ≡ plan.all reached left

-- the things that are left, and what the others made of the edits
pub record NotesTo {D X : Type 0} (history : D → History) (plan : Plan X) (name : List ℕ) (all left : List X) (home_before home : Catalogued)
    (before after : List Edit) (old new : Engine D) : Type 0 where
  pub reads : OnlyReads history old new
  pub limits : IsWithinLimits home
  pub answers : KeepsWord (disk_history history new) → (first : Collection) → AreNoted (world old).collections name home_before before first
      → plan.Is (world old).collections first
      → IsReached plan (world old).collections name home after all left first

module _ {D X : Type 0} (history : D → History) (plan : Plan X) (name : List ℕ) (all : List X) (home_before : Catalogued) (before : List Edit)
    (old : Engine D) where
  abbrev NotesAll : Catalogued → List Edit → Result (Unit {0}) Refusal → Engine D → Type 0
  NotesAll home after r new = Notes history name (plan.Is (world old).collections) (λ c. plan.all c all) home_before home before after r old new

  pub noted_none : OnlyReads history old old → IsWithinLimits home_before → NotesTo history plan name all all home_before home_before before before old old
  noted_none reads limits = record
      { reads = reads; limits = limits; answers = λ k first noted so. record { reached = first; noted = noted; so = so; same = refl } }

  module _ (mid new : Engine D) (x : X) (left : List X) (home home_after : Catalogued) (edits after : List Edit)
      (far : NotesTo history plan name all (x ∷ left) home_before home before edits old mid) where
    abbrev Step : Result (Unit {0}) Refusal → Type 0
    Step r = Notes history name (plan.Is (world mid).collections) (λ c. plan.one c x) home home_after edits after r mid new

    same_now : (world mid).collections ≡ (world old).collections
    same_now = now_same history old mid far.reads

    so_far : OnlyReads history mid new → KeepsWord (disk_history history new) → (first : Collection)
        → AreNoted (world old).collections name home_before before first → plan.Is (world old).collections first
        → IsReached plan (world old).collections name home edits all (x ∷ left) first
    so_far later k first noted so = far.answers (word_before history mid.file new.file later.continues k) first noted so

    noted_now : (first : Collection) (f : IsReached plan (world old).collections name home edits all (x ∷ left) first)
        → AreNoted (world mid).collections name home edits f.reached × plan.Is (world mid).collections f.reached
    noted_now first f = subst (λ (cs : List Collection). AreNoted cs name home edits f.reached × plan.Is cs f.reached) (sym same_now) (f.noted, f.so)

    pub noted_on : Step (Ok tt) → IsWithinLimits home_after → NotesTo history plan name all left home_before home_after before after old new
    noted_on step limits = record {
      reads = reads_on history old mid new far.reads step.reads;
      limits = limits;
      answers = λ k first noted so.
          let f = so_far step.reads k first noted so in
          let now = noted_now first f in
          let has = subst (λ (cs : List Collection). HasNoted cs name home_after after (plan.one f.reached x)) same_now
          (step.answers k f.reached now.0 now.1) in
          record {
            reached = has.next;
            noted = has.noted;
            so = plan.stays (world old).collections f.reached has.next x f.so has.is;
            same = f.same ∙ plan.more f.reached x left ∙ ap (λ (r : Result Collection Refusal). r >>= (λ next. plan.all next left)) has.is;
          };
    }

    pub noted_refused : (e : Refusal) → Step (Err e) → NotesAll home_after after (Err e) new
    noted_refused e step = record {
      reads = reads_on history old mid new far.reads step.reads;
      answers = λ k first noted so.
          let f = so_far step.reads k first noted so in
          let now = noted_now first f in
          elim (step.answers k f.reached now.0 now.1) [
            | inl refused ↦ inl (f.same ∙ plan.more f.reached x left ∙ ap (λ (r : Result Collection Refusal). r >>= (λ next. plan.all next left)) refused)
            | inr cause ↦ inr (cause_from history old.file mid.file new.file far.reads.continues
                (word_before history mid.file new.file step.reads.continues k) e cause)
          ];
    }

  pub noted_all : (new : Engine D) (home : Catalogued) (edits : List Edit) → NotesTo history plan name all [] home_before home before edits old new
      → NotesAll home edits (Ok tt) new
  noted_all new home edits far = record {
    reads = far.reads;
    answers = λ k first noted so.
        let f = far.answers k first noted so in
        record { next = f.reached; is = f.same ∙ plan.none f.reached; noted = f.noted };
  }
